use Rattle.std.proofs.Common.{ap, ◌∙◌, ◌+◌, ℕ, take, arith}
use Rattle.std.specs.Prelude.{count_by, ◌==◌}
use Rattle.std.proofs.lemmas.List.{length-take}
use Rattle.script_model.specs.Reading.{last_line}
use Rattle.script_syntax.proofs.parser.last_line.Goals as goal

pub feeds-feeds-requires : goal.feeds-feeds-requires
feeds-feeds-requires c = omega (arith, length-take c.common-most.result c.args.bytes.now, c.common-most.ensures)

pub returns : goal.returns
unfolding last_line
returns c = ap (λ (n : ℕ). 1 + n) (c.feeds-feeds.ensures.value ∙ ap (λ (most : ℕ). count_by (λ byte. byte == 10) (take most c.args.bytes.now)) c.common-most.ensures)
