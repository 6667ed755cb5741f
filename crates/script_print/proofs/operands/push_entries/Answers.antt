use Rattle.std.proofs.Common.{◌++◌, [], ◌∷◌, ap, ◌∙◌, arith}
use Rattle.script_text.specs.Parts.{all_words}
use Rattle.script_print.specs.Spaced.{spaced}
use Rattle.script_print.specs.OperandParts.{part_of}
use Rattle.script_print.proofs.LineWords.{words_on, words_end, parts_are}
use Rattle.script_print.proofs.operands.push_entries.Goals as goal

pub loop-entry-preserved : goal.loop-entry-preserved
loop-entry-preserved c =
    words_on (λ entry. all_words (part_of entry ∷ [])) c.args.entries.now c.loop-entry.entry-index _ _ _ _ (omega arith) c.loop-entry.invariant
    (c.in_ok-push_entry.ensures ∙ ap (λ entry. c.loop-entry.into.items ++ spaced (all_words (part_of entry ∷ []))) c.entry-item.is)

pub returns : goal.returns
returns c =
    words_end (λ entry. all_words (part_of entry ∷ [])) c.args.entries.now c.loop-entry.entry-index _ _ (omega arith) c.loop-entry.invariant
    ∙ ap (λ l. c.args.into.now.items ++ spaced l) (parts_are part_of c.args.entries.now)
