use Rattle.std.proofs.Common.{◌≡◌, ◌++◌, drop, [], ◌∷◌}
use Rattle.script_text.specs.Parts.{all_words}
use Rattle.script_print.specs.Spaced.{spaced}
use Rattle.script_print.specs.OperandParts.{part_of}
use Rattle.script_print.proofs.LineWords.{words_of}
use Rattle.script_print.proofs.operands.push_entries.Given as goal

abbrev pub invariant-loop-entry : goal.invariant-loop-entry
invariant-loop-entry l =
    l.into.items ++ spaced (words_of (λ entry. all_words (part_of entry ∷ [])) (drop l.entry-index l.entries))
    ≡ l.fn.into.items ++ spaced (words_of (λ entry. all_words (part_of entry ∷ [])) l.entries)
