-- The decimals of so many 64ths of a pixel by long division.
use Rattle.std.proofs.Common.{◌≡◌, ℕ, zero, suc, ◌+◌, ◌-◌, ◌*◌, ◌/◌, ◌%◌, ◌<◌, ◌≤◌, Bool, true, false, cond, ◌&&◌, ◌||◌, ◌==◌, ltb, ◌⊎◌, inl, inr, List, [], ◌∷◌, ◌++◌, length, take, set, refl, ap, sym, ◌∙◌, arith, subst, append_assoc, append-nil}
use Rattle.std.specs.Prelude.{bytes_eq}
use Rattle.std.proofs.lemmas.Slice.Eq.{bytes_eq-Decides}
use Rattle.std.proofs.lemmas.Bool.{ltb-true, ltb-false, and_parts}
use Rattle.std.proofs.lemmas.List.{take_more_set}
use Rattle.std.proofs.lemmas.Grind.{common_steps}
use Rattle.px_units.specs.Texts.{rest_text}

unfoldable pub divided : ℕ → ℕ → List ℕ
divided zero left = []
divided (suc places) left = cond (left == 0) [] ((48 + left * 10 / 64) ∷ divided places (left * 10 % 64))

pub nothing_left : (places : ℕ) → divided places 0 ≡ []
unfolding divided
nothing_left zero = refl
nothing_left (suc places) = refl

one_more : (places left : ℕ) → 0 < left → divided (suc places) left ≡ (48 + left * 10 / 64) ∷ divided places (left * 10 % 64)
unfolding divided
one_more places left h = grind (arith, common_steps)

-- a test passes below a number
unfoldable pub passes_below : (ℕ → Bool) → ℕ → Bool
passes_below test zero = true
passes_below test (suc n) = test n && passes_below test n

nat_lt_or : (k n : ℕ) → k < suc n → (k < n) ⊎ (k ≡ n)
nat_lt_or k n h = elim (ltb k n) as (λ v. ltb k n ≡ v → (k < n) ⊎ (k ≡ n)) [ true ↦ λ e. inl (ltb-true k n e) | false ↦ λ e. inr (let l : n ≤ k = ltb-false k n e in omega arith) ] refl

positive : (n : ℕ) → 0 < n → (n == 0) ≡ false
positive n h = grind (arith, common_steps)

pub passes : (test : ℕ → Bool) (n k : ℕ) → passes_below test n ≡ true → k < n → test k ≡ true
unfolding passes_below
passes test zero k all h = absurd (omega arith)
passes test (suc n) k all h =
    let parts : (test n ≡ true) × (passes_below test n ≡ true) = and_parts (test n) (passes_below test n) all in
    elim (nat_lt_or k n h) [ inl less ↦ passes test n k parts.1 less | inr same ↦ subst (λ (m : ℕ). test m ≡ true) (sym same) parts.0 ]

same_rest : ℕ → Bool
same_rest rest = rest == 0 || bytes_eq (rest_text rest) (46 ∷ divided 6 rest)

all_same : passes_below same_rest 64 ≡ true
unfolding passes_below same_rest rest_text divided
all_same = refl

pub either : (a b : Bool) → a ≡ false → (a || b) ≡ true → b ≡ true
either false b n h = h
either true b n h = cc

pub rest_divided : (rest : ℕ) → 0 < rest → rest < 64 → rest_text rest ≡ 46 ∷ divided 6 rest
unfolding same_rest
rest_divided rest some small =
    (bytes_eq-Decides (rest_text rest) (46 ∷ divided 6 rest)).0
    (either (rest == 0) (bytes_eq (rest_text rest) (46 ∷ divided 6 rest)) (positive rest some) (passes same_rest 64 rest all_same small))

-- one more digit is written
pub digit_written : (buffer text : List ℕ) (place places left : ℕ) → place < length buffer → 0 < left → places ≡ 7 - (place + 1) → place < 7
    → take place buffer ++ divided (7 - place) left ≡ text
    → take (place + 1) (set buffer place (48 + left * 10 / 64)) ++ divided (7 - (place + 1)) (left * 10 % 64) ≡ text
digit_written buffer text place places left inside some count below so_far =
    let digit : ℕ = 48 + left * 10 / 64 in
    let behind : List ℕ = divided places (left * 10 % 64) in
    let fuel : 7 - place ≡ suc places = omega arith in
    let earlier : take place buffer ++ (digit ∷ behind) ≡ text =
    ap (λ rest. take place buffer ++ rest) (sym (ap (λ n. divided n left) fuel ∙ one_more places left some)) ∙ so_far in
    ap (λ n. take (place + 1) (set buffer place digit) ++ divided n (left * 10 % 64)) (sym count)
    ∙ ap (λ front. front ++ behind) (take_more_set buffer place digit inside)
    ∙ append_assoc (take place buffer) (digit ∷ []) behind ∙ earlier

none : rest_text 0 ≡ []
unfolding rest_text
none = refl

pub no_rest : (text : List ℕ) (rest : ℕ) → rest ≡ 0 → text ++ rest_text rest ≡ text
no_rest text rest e = ap (λ n. text ++ rest_text n) e ∙ ap (λ l. text ++ l) none ∙ append-nil text

-- only the point is written
pub begun : (buffer : List ℕ) (rest : ℕ) → 0 < length buffer → 0 < rest → rest < 64
    → take 1 (set buffer 0 46) ++ divided 6 rest ≡ rest_text rest
begun buffer rest room some small = ap (λ front. front ++ divided 6 rest) (take_more_set buffer 0 46 room) ∙ sym (rest_divided rest some small)

pub ended : (front text : List ℕ) (places left : ℕ) → left ≡ 0 → front ++ divided places left ≡ text → front ≡ text
ended front text places left e so_far =
    sym (append-nil front) ∙ ap (λ behind. front ++ behind) (sym (nothing_left places)) ∙ ap (λ n. front ++ divided places n) (sym e) ∙ so_far

no_places : (left : ℕ) → divided 0 left ≡ []
unfolding divided
no_places left = refl

pub filled : (buffer : List ℕ) (place left : ℕ) (text : List ℕ) → 7 ≤ place → place ≤ 7 → take place buffer ++ divided (7 - place) left ≡ text
    → take 7 buffer ≡ text
filled buffer place left text low high so_far =
    let seven : place ≡ 7 = omega arith in
    let f : take 7 buffer ++ divided 0 left ≡ text = subst (λ (n : ℕ). take n buffer ++ divided (7 - n) left ≡ text) seven so_far in
    sym (append-nil (take 7 buffer)) ∙ ap (λ behind. take 7 buffer ++ behind) (sym (no_places left)) ∙ f
