use Rattle.std.proofs.Common.{◌++◌, [], ◌∷◌, ap, ◌∙◌, arith}
use Rattle.script_text.specs.NumberText.{number_text}
use Rattle.script_print.specs.Spaced.{spaced}
use Rattle.script_print.proofs.LineWords.{words_on, words_end, numbers_are}
use Rattle.script_print.proofs.operands.push_numbers.Goals as goal

pub loop-number-preserved : goal.loop-number-preserved
loop-number-preserved c =
    words_on (λ number. number_text number ∷ []) c.args.numbers.now c.loop-number.number-index _ _ _ _ (omega arith) c.loop-number.invariant
    c.in_ok-push_spaced_number.ensures

pub returns : goal.returns
returns c =
    words_end (λ number. number_text number ∷ []) c.args.numbers.now c.loop-number.number-index _ _ (omega arith) c.loop-number.invariant
    ∙ ap (λ l. c.args.into.now.items ++ spaced l) (numbers_are c.args.numbers.now)
