-- The first line of a text.
use Rattle.std.proofs.Common.{◌≡◌, ◌≢◌, ◌∙◌, refl, ap, ℕ, suc, ◌+◌, ◌<◌, ◌≤◌, Bool, true, false, cond, not, List, [], ◌∷◌, ◌++◌, length, take, drop, arith}
use Rattle.std.specs.Prelude.{◌==◌}
use Rattle.std.specs.List.{All, prefix_len}
use Rattle.std.proofs.lemmas.Bool.{ne_eqb}
use Rattle.std.proofs.lemmas.List.Elements.{All-head, All-tail}
use Rattle.text_lines.specs.Lines.{first_line, behind_line}

-- how many bytes stand before the first line feed
abbrev before : List ℕ → ℕ
before text = prefix_len (λ byte. not (byte == 10)) text

taken-at : (feed : Bool) (b : ℕ) (bs : List ℕ) → (before bs < length bs → take (before bs + 1) bs ≡ first_line bs)
    → cond (not feed) (1 + before bs) 0 < suc (length bs) → take (cond (not feed) (1 + before bs) 0 + 1) (b ∷ bs) ≡ cond feed (b ∷ []) (b ∷ first_line bs)
taken-at true b bs later more = refl
taken-at false b bs later more =
    let next : 1 + before bs + 1 ≡ suc (before bs + 1) = omega arith in
    ap (λ n. take n (b ∷ bs)) next ∙ ap (λ x. b ∷ x) (later (omega arith))

pub first_is_taken : (text : List ℕ) → before text < length text → take (before text + 1) text ≡ first_line text
unfolding first_line
first_is_taken [] more = absurd (omega arith)
first_is_taken (b ∷ bs) more = taken-at (b == 10) b bs (first_is_taken bs) more

left-at : (feed : Bool) (b : ℕ) (bs : List ℕ) → (before bs < length bs → drop (before bs + 1) bs ≡ behind_line bs)
    → cond (not feed) (1 + before bs) 0 < suc (length bs) → drop (cond (not feed) (1 + before bs) 0 + 1) (b ∷ bs) ≡ cond feed bs (behind_line bs)
left-at true b bs later more = refl
left-at false b bs later more =
    let next : 1 + before bs + 1 ≡ suc (before bs + 1) = omega arith in
    ap (λ n. drop n (b ∷ bs)) next ∙ later (omega arith)

pub behind_is_left : (text : List ℕ) → before text < length text → drop (before text + 1) text ≡ behind_line text
unfolding behind_line
behind_is_left [] more = absurd (omega arith)
behind_is_left (b ∷ bs) more = left-at (b == 10) b bs (behind_is_left bs) more

whole-at : (feed : Bool) (b : ℕ) (bs : List ℕ) → (length bs ≤ before bs → (bs ≡ first_line bs) × ([] ≡ behind_line bs))
    → suc (length bs) ≤ cond (not feed) (1 + before bs) 0 → (b ∷ bs ≡ cond feed (b ∷ []) (b ∷ first_line bs)) × ([] ≡ cond feed bs (behind_line bs))
whole-at true b bs later past = absurd (omega arith)
whole-at false b bs later past = let rest = later (omega arith) in (ap (λ x. b ∷ x) rest.0, rest.1)

whole-line : (text : List ℕ) → length text ≤ before text → (text ≡ first_line text) × ([] ≡ behind_line text)
unfolding first_line behind_line
whole-line [] past = (refl, refl)
whole-line (b ∷ bs) past = whole-at (b == 10) b bs (whole-line bs) past

-- a text without a line feed is one line
pub first_is_whole : (text : List ℕ) → length text ≤ before text → text ≡ first_line text
first_is_whole text past = (whole-line text past).0

pub nothing_behind : (text : List ℕ) → length text ≤ before text → [] ≡ behind_line text
nothing_behind text past = (whole-line text past).1

-- a line that ends with its one line feed
pub first_fed : (front more : List ℕ) → All (λ byte. byte ≢ 10) front → first_line (front ++ (10 ∷ more)) ≡ front ++ (10 ∷ [])
unfolding first_line
first_fed [] more clean = refl
first_fed (b ∷ bs) more clean =
    ap (λ test. cond test (b ∷ []) (b ∷ first_line (bs ++ (10 ∷ more)))) (ne_eqb b 10 (All-head (λ byte. byte ≢ 10) b bs clean))
    ∙ ap (λ x. b ∷ x) (first_fed bs more (All-tail (λ byte. byte ≢ 10) b bs clean))

pub behind_fed : (front more : List ℕ) → All (λ byte. byte ≢ 10) front → behind_line (front ++ (10 ∷ more)) ≡ more
unfolding behind_line
behind_fed [] more clean = refl
behind_fed (b ∷ bs) more clean =
    ap (λ test. cond test (bs ++ (10 ∷ more)) (behind_line (bs ++ (10 ∷ more)))) (ne_eqb b 10 (All-head (λ byte. byte ≢ 10) b bs clean))
    ∙ behind_fed bs more (All-tail (λ byte. byte ≢ 10) b bs clean)

splits-at : (feed : Bool) (b : ℕ) (bs : List ℕ) → first_line bs ++ behind_line bs ≡ bs → cond feed (b ∷ []) (b ∷ first_line bs) ++ cond feed bs (behind_line bs) ≡ b ∷ bs
splits-at true b bs later = refl
splits-at false b bs later = ap (λ x. b ∷ x) later

-- both make the text
pub line_splits : (text : List ℕ) → first_line text ++ behind_line text ≡ text
unfolding first_line behind_line
line_splits [] = refl
line_splits (b ∷ bs) = splits-at (b == 10) b bs (line_splits bs)

behind-within : (text : List ℕ) → length (behind_line text) ≤ length text
unfolding behind_line
behind-within [] = omega arith
behind-within (b ∷ bs) = behind-below (b == 10) bs (behind-within bs)
  where
    behind-below : (feed : Bool) (bs : List ℕ) → length (behind_line bs) ≤ length bs → length (cond feed bs (behind_line bs)) ≤ suc (length bs)
    behind-below true bs later = omega arith
    behind-below false bs later = omega arith

-- the rest is shorter than the text
pub behind_shorter : (text : List ℕ) → 0 < length text → length (behind_line text) < length text
unfolding behind_line
behind_shorter [] some = absurd (omega arith)
behind_shorter (b ∷ bs) some = shorter (b == 10) bs (behind-within bs)
  where
    shorter : (feed : Bool) (bs : List ℕ) → length (behind_line bs) ≤ length bs → length (cond feed bs (behind_line bs)) < suc (length bs)
    shorter true bs later = omega arith
    shorter false bs later = omega arith
