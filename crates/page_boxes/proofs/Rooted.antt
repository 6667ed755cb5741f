-- What stands in the tree of a root element: what has a box there, and no node of another tree.
use Rattle.std.proofs.Common.{◌≡◌, ℕ, Bool, true, false, List, [], ◌∷◌, Option, Some, None, nat_eq, refl, ap, sym, ◌∙◌, arith, zero, suc}
use Rattle.std.proofs.lemmas.Bool.Decides.{nat_tests}
use Rattle.std.specs.Prelude.{◌||◌, ◌==◌, ◌&&◌, not, is_some}
use Rattle.std.proofs.lemmas.Bool.{and_parts}
use Rattle.layout_model.specs.Nodes.{Node, path_above, path_up, path_of, is_among, is_in_path, last_of}
use Rattle.layout_model.specs.Boxes.{Inputs, has_box_along, has_box_in, inputs_in}
use Rattle.layout_model.specs.Clips.{is_block}
use Rattle.layout_model.specs.Views.{View, view_inputs, inputs_in_view}
use Rattle.layout_model.proofs.Inputs.{is_some_inputs}
use Rattle.page_boxes.proofs.Boxed.{found_in, found_is}

pub or_true : (a b : Bool) → b ≡ true → (a || b) ≡ true
or_true true b e = refl
or_true false b e = e

among_alone : (root n : ℕ) → (n == root) ≡ true → (root == n || false) ≡ true
among_alone root n e = let turned : nat_eq root n ≡ true = grind (arith, nat_tests) in ap (λ b. b || false) turned

-- a node with a box is in the tree of the root
along_among : (at : ℕ → Node) (root : ℕ) (path : List ℕ) → has_box_along at root path ≡ true → is_among root path ≡ true
unfolding has_box_along is_among
along_among at root [] boxed = cc
along_among at root (n ∷ []) boxed = among_alone root n ((and_parts (not ((at n).item.style.hidden)) (n == root) boxed).1)
along_among at root (n ∷ (p ∷ above)) boxed =
    or_true (root == n) (is_among root (p ∷ above))
    (along_among at root (p ∷ above)
    ((and_parts (is_block ((at p).item.kind)) (has_box_along at root (p ∷ above))
    ((and_parts (not ((at n).item.style.hidden)) (is_block ((at p).item.kind) && has_box_along at root (p ∷ above)) boxed).1)).1))

module _ (at : ℕ → Node) (root : ℕ) where
  inside_boxed : (n : ℕ) → has_box_in at root n ≡ true → is_in_path at root n ≡ true
  unfolding has_box_in is_in_path
  inside_boxed n boxed = along_among at root (path_of at n) boxed

  pub boxed_inside : (viewport : Inputs) (n : ℕ) → is_some (inputs_in at root viewport n) ≡ true → is_in_path at root n ≡ true
  boxed_inside viewport n boxed = inside_boxed n (sym (is_some_inputs at root viewport n) ∙ boxed)

  pub inputs_from : (view : View) → view.root ≡ Some root → (n : ℕ) → inputs_in_view at view n ≡ inputs_in at root (view_inputs view) n
  inputs_from view is n = found_is at view n ∙ ap (found_in at (view_inputs view) n) is

-- in a view without a root element there is nothing
pub rootless : (at : ℕ → Node) (view : View) → view.root ≡ None → (n : ℕ) → inputs_in_view at view n ≡ None
rootless at view none n = found_is at view n ∙ ap (found_in at (view_inputs view) n) none

-- the element of a view, where it has a box, is under the view's root element
pub rooted_in : (at : ℕ → Node) (view : View) (n : ℕ) (inputs : Inputs) → inputs_in_view at view n ≡ Some inputs → (root : ℕ) × ((view.root ≡ Some root) × (is_in_path at root n ≡ true))
rooted_in at view n inputs is = by_root view.root refl
  where
    by_root : (found : Option ℕ) → view.root ≡ found → (root : ℕ) × ((view.root ≡ Some root) × (is_in_path at root n ≡ true))
    by_root None none = let nothing : None ≡ Some inputs = sym (rootless at view none n) ∙ is in cc
    by_root (Some root) some = (root, (some, boxed_inside at root (view_inputs view) n (ap is_some (sym (inputs_from at root view some n) ∙ is))))

-- a node without a parent is the last on each path that it is on
module _ (at : ℕ → Node) (root : ℕ) (top : (at root).parent ≡ None) where
  last_here : (high n d : ℕ) → is_among root (path_up high at n) ≡ true → last_of d (path_up high at n) ≡ root
  unfolding path_up is_among last_of
  last_here zero n d among = alone (nat_eq root n) refl among
    where
      alone : (same : Bool) → nat_eq root n ≡ same → (same || false) ≡ true → n ≡ root
      alone true is e = let it : root ≡ n = grind (arith, nat_tests) in sym it
      alone false is e = cc
  last_here (suc high) n d among = up (last_here high) ((at n).parent) refl among
    where
      up : ((p e : ℕ) → is_among root (path_up high at p) ≡ true → last_of e (path_up high at p) ≡ root)
          → (found : Option ℕ) → (at n).parent ≡ found → (nat_eq root n || is_among root (path_above (path_up high at) found)) ≡ true
          → last_of n (path_above (path_up high at) found) ≡ root
      up so_far None none e = alone (nat_eq root n) refl e
        where
          alone : (same : Bool) → nat_eq root n ≡ same → (same || false) ≡ true → n ≡ root
          alone true is e = let it : root ≡ n = grind (arith, nat_tests) in sym it
          alone false is e = cc
      up so_far (Some p) some e = above (nat_eq root n) refl e
        where
          above : (same : Bool) → nat_eq root n ≡ same → (same || is_among root (path_up high at p)) ≡ true → last_of n (path_up high at p) ≡ root
          above true is e =
              let it : root ≡ n = grind (arith, nat_tests) in
              let both : None ≡ Some p = sym top ∙ ap (λ m. (at m).parent) it ∙ some in cc
          above false is e = so_far p n e

-- of two nodes without a parent only one is on a path
pub top_only : (at : ℕ → Node) (one other n : ℕ) → (at one).parent ≡ None → (at other).parent ≡ None → is_in_path at one n ≡ true → is_in_path at other n ≡ true → one ≡ other
unfolding is_in_path path_of
top_only at one other n first second here there = sym (last_here at one first 65536 n n here) ∙ last_here at other second 65536 n n there
