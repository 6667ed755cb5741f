-- The limits at which a text is refused.
use Rattle.std.proofs.Common.{subst}
use Rattle.std.specs.Prelude.{Err}
use Rattle.script_model.specs.Lexing.{Lexed}
use Rattle.script_model.specs.Syntax.{Script}
use Rattle.script_model.specs.Reading.{read_lexed}
use Rattle.script_model.proofs.LimitsMet.{MeetsCommon, lexed_common}
use Rattle.script_syntax.specs.Parsing.{Answers, HasCommonLimit}
use Rattle.script_syntax.specs.declared.faults.ParseFault.{ParseFault}
use Rattle.script_syntax.specs.declared.faults.ParseFault.TheVariants.{Syntax, ScriptLimit as MeetsLimit, Memory}

pub stopped_at_common : {A : Type 0} (seen : A → Script) (text : Lexed) (stop : ParseFault) → Answers seen (Err stop) (read_lexed text) → HasCommonLimit stop
stopped_at_common seen text (Syntax line column) stops = tt
stopped_at_common seen text (MeetsLimit kind line) stops = subst MeetsCommon stops (lexed_common text)
stopped_at_common seen text Memory stops = tt
