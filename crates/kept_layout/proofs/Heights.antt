-- Sums of the heights of children, and what holds of any of them.
use Rattle.std.proofs.Common.{◌≡◌, ◌+◌, ℕ, List, [], ◌∷◌, ◌++◌, Bool, true, false, not, ◌||◌, refl, ap, sym, ◌∙◌, arith}
use Rattle.std.proofs.lemmas.Bool.Decides.{nat_tests}
use Rattle.std.proofs.lemmas.List.Sums.{sum_by-cons}
use Rattle.std.specs.List.{list_any}
use Rattle.std.specs.Prelude.{sum_by}
use Rattle.layout_model.specs.Nodes.{Node, is_in_flow}
use Rattle.layout_model.specs.Boxes.{Box, is_passed, counted, shown_height, margin_height}
use Rattle.element_tree.specs.Forest.{has}
use Rattle.kept_layout.specs.declared.slots.Slot.{Slot}
use Rattle.kept_layout.specs.Sound.{box_held, box_found}

pub sum_same : (f g : ℕ → ℕ) (xs : List ℕ) → ((c : ℕ) → has xs c ≡ true → f c ≡ g c) → sum_by f xs ≡ sum_by g xs
sum_same f g [] same = refl
sum_same f g (x ∷ xs) same =
    let here : f x ≡ g x = same x (grind (arith, nat_tests)) in
    let rest : sum_by f xs ≡ sum_by g xs = sum_same f g xs (λ c among. same c (grind (arith, nat_tests))) in
    sum_by-cons f x xs ∙ omega (arith, here, rest) ∙ sym (sum_by-cons g x xs)

pub sum_end : (f : ℕ → ℕ) (xs : List ℕ) (n : ℕ) → sum_by f (xs ++ n ∷ []) ≡ sum_by f xs + f n
sum_end f [] n = refl
sum_end f (x ∷ xs) n = sum_by-cons f x (xs ++ n ∷ []) ∙ omega (arith, sum_end f xs n, sum_by-cons f x xs)

pub any_same : (f g : ℕ → Bool) (xs : List ℕ) → ((c : ℕ) → has xs c ≡ true → f c ≡ g c) → list_any f xs ≡ list_any g xs
any_same f g [] same = refl
any_same f g (x ∷ xs) same =
    ap (λ b. b || list_any f xs) (same x (grind (arith, nat_tests)))
    ∙ ap (λ b. g x || b) (any_same f g xs (λ c among. same c (grind (arith, nat_tests))))

or_none : (b : Bool) → (b || false) ≡ b
or_none true = refl
or_none false = refl

or_inside : (a b c : Bool) → (a || (b || c)) ≡ ((a || b) || c)
or_inside true b c = refl
or_inside false b c = refl

pub any_end : (f : ℕ → Bool) (xs : List ℕ) (n : ℕ) → list_any f (xs ++ n ∷ []) ≡ (list_any f xs || f n)
any_end f [] n = or_none (f n)
any_end f (x ∷ xs) n = ap (λ b. f x || b) (any_end f xs n) ∙ or_inside (f x) (list_any f xs) (f n)

-- none of these, so not this one
pub any_none : (f : ℕ → Bool) (xs : List ℕ) (c : ℕ) → list_any f xs ≡ false → has xs c ≡ true → f c ≡ false
any_none f [] c none among = cc
any_none f (x ∷ xs) c none among = grind (arith, nat_tests, any_none f xs c)

module _ (at : ℕ → Node) where
  counted_as : (box : ℕ → Box) (c : ℕ) (passed : Bool) → is_passed (at c) ≡ passed → counted at box c ≡ shown_height box c passed
  unfolding counted
  counted_as box c passed is = ap (shown_height box c) is

  pub passed_hidden : (c : ℕ) → (at c).item.style.hidden ≡ true → is_passed (at c) ≡ true
  passed_hidden c is = ap (λ h. h || not (is_in_flow (at c))) is

  pub passed_outside : (c : ℕ) → is_in_flow (at c) ≡ false → is_passed (at c) ≡ true
  passed_outside c is = ap (λ f. (at c).item.style.hidden || not f) is ∙ by ((at c).item.style.hidden)
    where
      by : (h : Bool) → (h || true) ≡ true
      by true = refl
      by false = refl

  pub stacked : (c : ℕ) → (at c).item.style.hidden ≡ false → is_in_flow (at c) ≡ true → is_passed (at c) ≡ false
  stacked c shown flow = ap (λ h. h || not (is_in_flow (at c))) shown ∙ ap not flow

  pub counted_passed : (box : ℕ → Box) (c : ℕ) → is_passed (at c) ≡ true → counted at box c ≡ 0
  counted_passed box c = counted_as box c true

  pub counted_stacked : (box : ℕ → Box) (c : ℕ) → is_passed (at c) ≡ false → counted at box c ≡ margin_height (box c)
  counted_stacked box c = counted_as box c false

  -- boxes of displayed children in flow are all that counts
  pub counted_like : (box other : ℕ → Box) (c : ℕ) → ((at c).item.style.hidden ≡ false → is_in_flow (at c) ≡ true → box c ≡ other c) → counted at box c ≡ counted at other c
  counted_like box other c same = by ((at c).item.style.hidden) refl (is_in_flow (at c)) refl
    where
      by : (hidden : Bool) → (at c).item.style.hidden ≡ hidden → (flow : Bool) → is_in_flow (at c) ≡ flow → counted at box c ≡ counted at other c
      by true is flow flows = counted_passed box c (passed_hidden c is) ∙ sym (counted_passed other c (passed_hidden c is))
      by false is false flows = counted_passed box c (passed_outside c flows) ∙ sym (counted_passed other c (passed_outside c flows))
      by false is true flows = counted_stacked box c (stacked c is flows) ∙ ap margin_height (same is flows) ∙ sym (counted_stacked other c (stacked c is flows))

  pub heights_like : (box other : ℕ → Box) (xs : List ℕ) → ((c : ℕ) → has xs c ≡ true → (at c).item.style.hidden ≡ false → is_in_flow (at c) ≡ true → box c ≡ other c)
      → sum_by (counted at box) xs ≡ sum_by (counted at other) xs
  heights_like box other xs same = sum_same (counted at box) (counted at other) xs (λ c among. counted_like box other c (same c among))

  pub heights_same : (old new : ℕ → Slot) (xs : List ℕ) → ((c : ℕ) → has xs c ≡ true → (at c).item.style.hidden ≡ false → is_in_flow (at c) ≡ true → (new c).found ≡ (old c).found)
      → sum_by (counted at (box_held old)) xs ≡ sum_by (counted at (box_held new)) xs
  heights_same old new xs same = heights_like (box_held old) (box_held new) xs (λ c among shown flow. ap box_found (sym (same c among shown flow)))
