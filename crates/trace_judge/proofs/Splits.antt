-- Lines of a text, one after another.
use Rattle.std.proofs.Common.{◌≡◌, refl, ap, ℕ, ◌<◌, ◌≤◌, Bool, true, false, cond, List, [], ◌∷◌, length, arith}
use Rattle.std.specs.Prelude.{◌==◌}
use Rattle.std.specs.List.{concat}
use Rattle.text_lines.specs.Lines.{first_line, behind_line}
use Rattle.trace_judge.specs.Lines.{before_lines, lines_of}

by_feed : (feed : Bool) (b : ℕ) (bs : List ℕ) → (0 < length bs → lines_of bs ≡ first_line bs ∷ lines_of (behind_line bs))
    → cond feed ((b ∷ []) ∷ lines_of bs) (before_lines b (lines_of bs)) ≡ cond feed (b ∷ []) (b ∷ first_line bs) ∷ lines_of (cond feed bs (behind_line bs))
unfolding lines_of first_line behind_line
by_feed true b bs later = refl
by_feed false b [] later = refl
by_feed false b (c ∷ cs) later = ap (before_lines b) (later (omega arith))

-- a text with a byte is its first line and the others
pub lines_by_first : (text : List ℕ) → 0 < length text → lines_of text ≡ first_line text ∷ lines_of (behind_line text)
unfolding lines_of first_line behind_line
lines_by_first [] some = absurd (omega arith)
lines_by_first (b ∷ bs) some = by_feed (b == 10) b bs (lines_by_first bs)

made : (feed : Bool) (b : ℕ) (bs : List ℕ) (lines : List (List ℕ)) → concat lines ≡ bs → concat (cond feed ((b ∷ []) ∷ lines) (before_lines b lines)) ≡ b ∷ bs
made true b bs lines same = ap (λ t. b ∷ t) same
made false b bs [] same = ap (λ t. b ∷ t) same
made false b bs (l ∷ ls) same = ap (λ t. b ∷ t) same

-- the lines one after another are the text
pub lines_make : (text : List ℕ) → concat (lines_of text) ≡ text
unfolding lines_of
lines_make [] = refl
lines_make (b ∷ bs) = made (b == 10) b bs (lines_of bs) (lines_make bs)

some-at : (feed : Bool) (b : ℕ) (l : List ℕ) → 0 < length (cond feed (b ∷ []) (b ∷ l))
some-at true b l = omega arith
some-at false b l = omega arith

-- the first line of a text with a byte has one
pub first_some : (text : List ℕ) → 0 < length text → 0 < length (first_line text)
unfolding first_line
first_some [] some = absurd (omega arith)
first_some (b ∷ bs) some = some-at (b == 10) b (first_line bs)

-- a text without a byte has none
pub first_none : (text : List ℕ) → length text ≤ 0 → length (first_line text) ≤ 0
unfolding first_line
first_none [] none = omega arith
first_none (b ∷ bs) none = absurd (omega arith)

pub no_byte : (text : List ℕ) → length text ≤ 0 → text ≡ []
no_byte [] none = refl
no_byte (b ∷ bs) none = absurd (omega arith)
