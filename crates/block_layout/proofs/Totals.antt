-- The number of boxes in a node is one more than those of its children.
use Rattle.std.proofs.Common.{◌≡◌, ◌<◌, ℕ, zero, suc, ◌+◌, List, [], ◌∷◌, refl, ap, sym, ◌∙◌, arith}
use Rattle.std.proofs.lemmas.List.Sums.{sum_by-cons}
use Rattle.std.specs.Prelude.{sum_by, Contains}
use Rattle.layout_model.specs.Nodes.{Node, levels, depth_of, IsLinked, IsShallow}
use Rattle.layout_model.specs.Boxes.{kids_of, is_passed}
use Rattle.layout_model.proofs.Paths.{depth_least}
use Rattle.layout_model.proofs.Trees.{depth_kid, contains_next}
use Rattle.block_layout.specs.Counts.{if_displayed, boxes_down, box_count}

pub sum_same : (f g : ℕ → ℕ) (xs : List ℕ) → ((c : ℕ) → Contains xs c → f c ≡ g c) → sum_by f xs ≡ sum_by g xs
sum_same f g [] same = refl
sum_same f g (x ∷ xs) same =
    let here : f x ≡ g x = same x (0, omega arith, refl) in
    let rest : sum_by f xs ≡ sum_by g xs = sum_same f g xs (λ c among. same c (contains_next x xs c among)) in
    sum_by-cons f x xs ∙ omega (arith, here, rest) ∙ sym (sum_by-cons g x xs)

module _ (at : ℕ → Node) (linked : IsLinked at) (shallow : IsShallow at) where
  counts_same : (f g : ℕ → ℕ) (n : ℕ) → ((c : ℕ) → Contains (kids_of (at n)) c → f c ≡ g c) → suc (sum_by (λ c. if_displayed (is_passed (at c)) (f c)) (kids_of (at n))) ≡ suc (sum_by (λ c. if_displayed (is_passed (at c)) (g c)) (kids_of (at n)))
  counts_same f g n same =
      ap suc (sum_same (λ c. if_displayed (is_passed (at c)) (f c)) (λ c. if_displayed (is_passed (at c)) (g c)) (kids_of (at n)) (λ c kid. ap (if_displayed (is_passed (at c))) (same c kid)))

  stable : (deep n : ℕ) → levels < depth_of at n + deep → boxes_down deep at n ≡ boxes_down (suc deep) at n
  unfolding boxes_down
  stable zero n far = absurd (omega (arith, shallow n))
  stable (suc deep) n far = counts_same (boxes_down deep at) (boxes_down (suc deep) at) n (λ c kid. stable deep c (omega (arith, depth_kid at linked shallow n c kid)))

  pub count_of_kids : (n : ℕ) → box_count at n ≡ suc (sum_by (λ c. if_displayed (is_passed (at c)) (box_count at c)) (kids_of (at n)))
  unfolding box_count boxes_down
  count_of_kids n = counts_same (boxes_down 65535 at) (boxes_down 65536 at) n (λ c kid. stable 65535 c (omega (arith, depth_kid at linked shallow n c kid, depth_least at n)))
