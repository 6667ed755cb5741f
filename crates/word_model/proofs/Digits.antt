-- What stands behind a point.
use Rattle.std.proofs.Common.{◌≡◌, ℕ, ◌==◌, cond, List, [], length, drop, refl}
use Rattle.word_model.specs.Numbers.{begins_with, unsigned, leading_digits, behind_digits, point_digits, behind_point}

pub point_digits_are : (text : List ℕ) → point_digits text ≡ cond (begins_with 46 text) (leading_digits (drop 1 text)) []
unfolding point_digits
point_digits_are text = refl

pub behind_point_is : (text : List ℕ) → behind_point text ≡ cond (length (point_digits text) == 0) text (behind_digits (drop 1 text))
unfolding behind_point
behind_point_is text = refl

pub unsigned_is : (text : List ℕ) → unsigned text ≡ cond (begins_with 45 text) (drop 1 text) text
unfolding unsigned
unsigned_is text = refl
