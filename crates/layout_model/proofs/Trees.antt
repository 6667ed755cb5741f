-- Boxes of linked trees of at most `levels` levels are computed by no more levels than the tree has.
use Rattle.std.proofs.Common.{◌≡◌, ◌<◌, ℕ, zero, suc, ◌+◌, List, [], ◌∷◌, refl, ap, ◌∙◌, arith}
use Rattle.std.specs.Prelude.{Bool, true, false, fold, Contains}
use Rattle.px_units.specs.Lengths.{cap}
use Rattle.layout_model.specs.Items.{Kind, BlockKind, ImageKind, FrameKind}
use Rattle.layout_model.specs.Nodes.{Node, levels, depth_of, IsLinked, IsShallow}
use Rattle.layout_model.specs.Boxes.{Inputs, Box, child_inputs, computed, inner_children, kids_of, is_passed, counted, shown_height, margin_height, total, box_at, box_down, box_in}
use Rattle.layout_model.proofs.Paths.{depth_child, depth_least}

pub contains_next : (x : ℕ) (xs : List ℕ) (c : ℕ) → Contains xs c → Contains (x ∷ xs) c
contains_next x xs c at = (suc (at.0), omega arith, at.2)

pub kid_is_child : (kind : Kind) (children : List ℕ) (c : ℕ) → Contains (inner_children kind children) c → Contains children c
kid_is_child BlockKind children c kid = kid
kid_is_child (ImageKind width height) children c kid = elim no [ ]
  where
    no : ⊥
    no = omega arith
kid_is_child FrameKind children c kid = elim no [ ]
  where
    no : ⊥
    no = omega arith

fold_same : (f g : ℕ → ℕ) (xs : List ℕ) → ((c : ℕ) → Contains xs c → f c ≡ g c) → (s : ℕ) → fold (λ a x. a + f x) s xs ≡ fold (λ a x. a + g x) s xs
fold_same f g [] all s = refl
fold_same f g (x ∷ xs) all s =
    ap (λ v. fold (λ a x. a + f x) (s + v) xs) (all x (0, omega arith, refl)) ∙ fold_same f g xs (λ c among. all c (contains_next x xs c among)) (s + g x)

counted_same : (at : ℕ → Node) (f g : ℕ → Box) (c : ℕ) → f c ≡ g c → counted at f c ≡ counted at g c
unfolding counted
counted_same at f g c same = shown (is_passed (at c))
  where
    shown : (passed : Bool) → shown_height f c passed ≡ shown_height g c passed
    shown true = refl
    shown false = ap margin_height same

module _ (at : ℕ → Node) (linked : IsLinked at) (shallow : IsShallow at) where
  pub depth_kid : (n c : ℕ) → Contains (kids_of (at n)) c → depth_of at c ≡ depth_of at n + 1
  depth_kid n c kid = depth_child at c n (linked n c (kid_is_child ((at n).item.kind) ((at n).children) c kid)) (shallow n)

  box_same : (f g : Inputs → ℕ → Box) (inputs : Inputs) (n : ℕ) → ((c : ℕ) (below : Inputs) → Contains (kids_of (at n)) c → f below c ≡ g below c) → box_at at f inputs (at n) ≡ box_at at g inputs (at n)
  unfolding box_at total
  box_same f g inputs n same =
      ap
      (λ sum. computed ((at n).item) inputs (cap sum))
      (fold_same
      (counted at (f (child_inputs ((at n).item) inputs)))
      (counted at (g (child_inputs ((at n).item) inputs)))
      (kids_of (at n))
      (λ c kid. counted_same at (f (child_inputs ((at n).item) inputs)) (g (child_inputs ((at n).item) inputs)) c (same c (child_inputs ((at n).item) inputs) kid))
      0)

  stable : (deep : ℕ) (inputs : Inputs) (n : ℕ) → levels < depth_of at n + deep → box_down deep at inputs n ≡ box_down (suc deep) at inputs n
  unfolding box_down
  stable zero inputs n far = elim no [ ]
    where
      no : ⊥
      no = omega (arith, shallow n, far)
  stable (suc deep) inputs n far = box_same (box_down deep at) (box_down (suc deep) at) inputs n (λ c below kid. stable deep below c (omega (arith, depth_kid n c kid, far)))

  pub box_of_children : (inputs : Inputs) (n : ℕ) → box_in at inputs n ≡ box_at at (box_in at) inputs (at n)
  unfolding box_in box_down
  box_of_children inputs n = box_same (box_down 65535 at) (box_down 65536 at) inputs n (λ c below kid. stable 65535 below c (omega (arith, depth_kid n c kid, depth_least at n)))
