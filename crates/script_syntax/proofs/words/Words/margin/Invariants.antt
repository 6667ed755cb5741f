use Rattle.std.proofs.Common.{◌≡◌, length}
use Rattle.std.specs.List.{join_with_byte}
use Rattle.script_model.specs.Forms.{words_before, words_from, ends_margin}
use Rattle.script_syntax.proofs.Joined.{text_behind}
use Rattle.script_syntax.proofs.words.Words.margin.Given as goal

abbrev pub invariant-loop-text : goal.invariant-loop-text
invariant-loop-text l =
    (join_with_byte 32 (words_before (ends_margin l.version) l.fn.self.left) ≡ text_behind l.bytes.items (words_before (ends_margin l.version) l.self.left))
    × (words_from (ends_margin l.version) l.fn.self.left ≡ words_from (ends_margin l.version) l.self.left)
    × (l.self.after ≡ l.fn.self.after)
    × (l.self.bytes ≡ l.fn.self.bytes)

abbrev pub decreases-loop-text : goal.decreases-loop-text
decreases-loop-text l = length l.self.left
