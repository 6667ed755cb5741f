use Rattle.std.proofs.Common.{◌≡◌, ◌∙◌, ap, arith, length, rules}
use Rattle.std.proofs.lemmas.Grind.{common_steps}
use Rattle.std.specs.Prelude.{Ok}
use Rattle.script_model.specs.Generator.{generated}
use Rattle.script_model.specs.Reading.{reading}
use Rattle.script_generator.proofs.Generated.{few_bytes, printed_again}
use Rattle.script_generator.proofs.make.Goals as goal

pub feed-requires : goal.feed-requires
feed-requires c =
    let few = few_bytes c.args.number in
    let bytes = ap length (c.deref.ensures.value ∙ c.in_ok-bytes.ensures) in
    grind (arith, common_steps, c.new-lexer.ensures)

pub returns-in-Ok-clause-text : goal.returns-in-Ok-clause-text
returns-in-Ok-clause-text c =
    let reads : reading (generated c.args.number) ≡ Ok c.in-Ok.script = search rules in
    printed_again c.args.number c.in-Ok.script reads (c.generated_text_is_a_script.ensures c.args.number)
