-- The text is the one that the items were read from.
use Rattle.std.proofs.Common.{ℕ, ◌≤◌, List, length, map, sym, ap, subst, ◌∙◌, arith}
use Rattle.text_io.specs.declared.kinds.Version.{Version}
use Rattle.script_lexer.specs.Texts.{text_seen}
use Rattle.script_model.specs.Reading.{read_lexed}
use Rattle.script_syntax.specs.Seen.{item_of}
use Rattle.script_syntax.specs.declared.commands.Item.{Item}
use Rattle.script_syntax.proofs.Refusals.{stopped_at_common}
use Rattle.script_syntax.proofs.WholeTexts.{whole_is_read}
use Rattle.script_syntax.proofs.parser.parse.Goals as goal

pub make-requires-clause-read : goal.make-requires-clause-read
make-requires-clause-read c =
    let short : length c.bytes-bytes.result.now ≤ 16777216 = omega (arith, c.if-bytes-common.false, c.common.ensures) in
    whole_is_read c.args.text.now.bytes _ (subst (λ (bytes : List ℕ). length bytes ≤ 16777216) c.bytes-bytes.ensures short) (ap read_lexed (sym c.requires) ∙ c.in-Ok.ensures.value)

pub returns-in-Err-clause-limit : goal.returns-in-Err-clause-limit
returns-in-Err-clause-limit c =
    stopped_at_common {A = Version × (List Item)} (λ read. record { version = read.0; items = map item_of read.1 }) (text_seen c.args.text.now) c.in-Err.stop c.in-Err.ensures.value
