use Rattle.std.proofs.Common.{◌≡◌, ◌++◌, drop, [], ◌∷◌}
use Rattle.script_text.specs.NumberText.{number_text}
use Rattle.script_print.specs.Spaced.{spaced}
use Rattle.script_print.proofs.LineWords.{words_of}
use Rattle.script_print.proofs.operands.push_numbers.Given as goal

abbrev pub invariant-loop-number : goal.invariant-loop-number
invariant-loop-number l =
    l.into.items ++ spaced (words_of (λ number. number_text number ∷ []) (drop l.number-index l.numbers))
    ≡ l.fn.into.items ++ spaced (words_of (λ number. number_text number ∷ []) l.numbers)
