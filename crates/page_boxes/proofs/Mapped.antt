-- What is so of each value of a map from numbers.
use Rattle.std.proofs.Common.{◌≡◌, ◌≢◌, ◌+◌, ◌∙◌, ◌==◌, ℕ, Bool, true, false, cond, Some, refl, ap, sym, subst, inl, inr, arith}
use Rattle.std.proofs.lemmas.Bool.{eqb-true, false≢true}
use Rattle.std.proofs.lemmas.Bool.Decides.{nat_tests}
use Rattle.std.specs.Prelude.{IfSome, is_some}
use Rattle.std.specs.Cmp.{nat_cmp_total, unsigned_tied}
use Rattle.std.specs.FinMap.{FinMap, get, insert, empty, get-insert, get-empty}
use Rattle.std.specs.Ordering.{nat_cmp}
use Rattle.px_units.specs.declared.Point.{Point}
use Rattle.page_model.specs.World.{InElement, Scrolls}
use Rattle.page_model.specs.Lookups.{no_extent}
use Rattle.page_model.specs.Scrolls.{position_of}
use Rattle.kept_layout.proofs.Lists.{decide}
use Rattle.page_boxes.specs.Offsets.{AreScrolled}

module _ {A : Type 0} (P : ℕ → A → Type 0) where
  pub all_none : (n : ℕ) → IfSome (get {X = A} {R = nat_cmp} empty n) (P n)
  all_none n = subst (λ o. IfSome o (P n)) (sym (get-empty nat_cmp n)) tt

  kept_or_put : (m : FinMap nat_cmp A) (k n : ℕ) (v : A) (b : Bool) → (n == k) ≡ b → P k v → IfSome (get m n) (P n) → IfSome (cond b (Some v) (get m n)) (P n)
  kept_or_put m k n v true same new old = subst (λ i. P i v) (sym (eqb-true n k same)) new
  kept_or_put m k n v false same new old = old

  -- it is so once one is put in of which it is so
  pub all_put : (m : FinMap nat_cmp A) (k : ℕ) (v : A) → P k v → ((n : ℕ) → IfSome (get m n) (P n)) → (n : ℕ) → IfSome (get (insert m k v) n) (P n)
  all_put m k v new old n =
      subst (λ o. IfSome o (P n)) (sym (get-insert nat_cmp_total m k v n ∙ ap (λ b. cond b (Some v) (get m n)) (unsigned_tied n k)))
      (kept_or_put m k n v (n == k) refl new (old n))

-- which numbers have a value once one is put in
module _ {A : Type 0} (m : FinMap nat_cmp A) (k : ℕ) (v : A) where
  put_is : (n : ℕ) → get (insert m k v) n ≡ cond (n == k) (Some v) (get m n)
  put_is n = get-insert nat_cmp_total m k v n ∙ ap (λ b. cond b (Some v) (get m n)) (unsigned_tied n k)

  here : (n : ℕ) → n ≡ k → is_some (get (insert m k v) n) ≡ true
  here n same = let is : (n == k) ≡ true = grind (arith, nat_tests) in ap is_some (put_is n) ∙ ap (λ b. is_some (cond b (Some v) (get m n))) is

  elsewhere : (n : ℕ) → n ≢ k → is_some (get (insert m k v) n) ≡ is_some (get m n)
  elsewhere n other = let is : (n == k) ≡ false = grind (arith, nat_tests) in ap is_some (put_is n) ∙ ap (λ b. is_some (cond b (Some v) (get m n))) is

-- offsets are found for one node after the other
module _ (scrolls : Scrolls) where
  pub none_scrolled : (found : FinMap nat_cmp Point) → found ≡ empty → AreScrolled 0 scrolls found
  none_scrolled found is = record {
    each = λ node low few moved. absurd (omega arith);
    only = λ node some. absurd (false≢true (sym (ap is_some (ap (λ m. get m node) is ∙ get-empty nat_cmp node)) ∙ some));
  }

  module _ (number next : ℕ) (found : FinMap nat_cmp Point) (so_far : AreScrolled number scrolls found) (step : next ≡ number + 1) where
    pub scrolled_put : (offset : Point) → position_of (InElement number) scrolls ≢ no_extent → AreScrolled next scrolls (insert found number offset)
    scrolled_put offset moves = record {
      each = λ node low few moved. elim (decide node number) [
        | inl same ↦ here found number offset node same
        | inr other ↦ elsewhere found number offset node other ∙ so_far.each node (omega arith) few moved
      ];
      only = λ node some. elim (decide node number) [
        | inl same ↦ (omega arith, subst (λ n. position_of (InElement n) scrolls ≢ no_extent) (sym same) moves)
        | inr other ↦ let was = so_far.only node (sym (elsewhere found number offset node other) ∙ some) in (omega (arith, was.0), was.1)
      ];
    }

    pub scrolled_on : position_of (InElement number) scrolls ≡ no_extent → AreScrolled next scrolls found
    scrolled_on stands = record {
      each = λ node low few moved. elim (decide node number) [
        | inl same ↦ absurd (moved (ap (λ n. position_of (InElement n) scrolls) same ∙ stands))
        | inr other ↦ so_far.each node (omega arith) few moved
      ];
      only = λ node some. let was = so_far.only node some in (omega (arith, was.0), was.1);
    }
