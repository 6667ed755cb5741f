use Rattle.std.proofs.Common.{◌≡◌, sym, subst}
use Rattle.std.specs.Prelude.{option_map}
use Rattle.text_io.specs.declared.kinds.Version.{Version}
use Rattle.text_io.specs.declared.kinds.Version.TheVariants.{First}
use Rattle.script_model.specs.Keywords.{lookup}
use Rattle.script_model.specs.Commands.{heads_in}
use Rattle.script_syntax.specs.Heads.{head_of}
use Rattle.script_syntax.proofs.tables.head.Goals as goal

pub returns-in-First : goal.returns-in-First
returns-in-First c =
    subst (λ (version : Version). option_map (head_of version) c.head_of_both.result ≡ lookup (heads_in version) c.args.word.now) (sym c.in-First.is)
    (c.head_of_both.ensures First)

pub returns-in-Second : goal.returns-in-Second
returns-in-Second c =
    subst (λ (version : Version). option_map (head_of version) c.head_of_second.result ≡ lookup (heads_in version) c.args.word.now) (sym c.in-Second.is)
    c.head_of_second.ensures
