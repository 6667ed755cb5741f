use Rattle.std.proofs.Common.{◌≡◌, length}
use Rattle.script_model.specs.Forms.{numbers_of}
use Rattle.script_syntax.proofs.Joined.{numbers_behind}
use Rattle.script_syntax.proofs.words.Words.numbers.Given as goal

abbrev pub invariant-loop-word : goal.invariant-loop-word
invariant-loop-word l =
    (numbers_of l.fn.self.left ≡ numbers_behind l.numbers.items (numbers_of l.self.left))
    × (l.self.after ≡ l.fn.self.after)
    × (l.self.bytes ≡ l.fn.self.bytes)

abbrev pub decreases-loop-word : goal.decreases-loop-word
decreases-loop-word l = length l.self.left
