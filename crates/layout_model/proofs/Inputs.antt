-- Who has a box, from a node's parent, and which inputs it has, from what holds it: the inputs of holders rest on no bound on levels.
use Rattle.std.proofs.Common.{◌≡◌, ◌≤◌, ℕ, zero, suc, Bool, true, false, cond, Option, Some, None, refl, ap, sym, subst, ◌∙◌, inl, inr, arith, eqb-true}
use Rattle.std.specs.Prelude.{◌==◌, ◌&&◌, not, is_some, option_and_then}
use Rattle.std.proofs.lemmas.Bool.{false≢true}
use Rattle.layout_model.specs.Clips.{is_block}
use Rattle.layout_model.specs.Nodes.{Node, levels, path_of, path_up, depth_of, is_in_path, is_flow, is_in_flow, Holder, HeldByElement, HeldByPage, HeldByScreen, holder, IsShallow}
use Rattle.layout_model.specs.Boxes.{Inputs, child_inputs, box_in, inputs_held, inputs_by_element, inputs_by, inputs_up, inputs_at, has_box_along, has_box_in, inputs_in}
use Rattle.layout_model.specs.Views.{View, view_inputs, inputs_under, inputs_in_view}
use Rattle.layout_model.proofs.Paths.{path_child, path_top, depth_child, depth_least}
use Rattle.layout_model.proofs.Ancestors.{option_cases, in_self, above_in, up_path}
use Rattle.layout_model.proofs.Holders.{holder_of_child, holder_of_top, top_static, holder_above, holder_less}

pub box_child : (at : ℕ → Node) (root c p : ℕ) → (at c).parent ≡ Some p → depth_of at p ≤ levels → has_box_in at root c ≡ (not ((at c).item.style.hidden) && (is_block ((at p).item.kind) && has_box_in at root p))
unfolding has_box_in has_box_along path_of path_up
box_child at root c p is short = ap (has_box_along at root) (path_child at c p is short)

pub box_top : (at : ℕ → Node) (root n : ℕ) → (at n).parent ≡ None → has_box_in at root n ≡ (not ((at n).item.style.hidden) && n == root)
unfolding has_box_in has_box_along
box_top at root n is = ap (has_box_along at root) (path_top at n is)

-- of inputs that are found: there is a box, and they are those at the node
pub inputs_boxed : (at : ℕ → Node) (root : ℕ) (viewport inputs : Inputs) (n : ℕ) → inputs_in at root viewport n ≡ Some inputs → has_box_in at root n ≡ true
unfolding inputs_in
inputs_boxed at root viewport inputs n is = by_box (has_box_in at root n) is
  where
    by_box : (boxed : Bool) → cond boxed (Some (inputs_at at viewport n)) None ≡ Some inputs → boxed ≡ true
    by_box true is = refl
    by_box false is = absurd cc

pub inputs_are : (at : ℕ → Node) (root : ℕ) (viewport inputs : Inputs) (n : ℕ) → inputs_in at root viewport n ≡ Some inputs → inputs ≡ inputs_at at viewport n
unfolding inputs_in
inputs_are at root viewport inputs n is = by_box (has_box_in at root n) is
  where
    by_box : (boxed : Bool) → cond boxed (Some (inputs_at at viewport n)) None ≡ Some inputs → inputs ≡ inputs_at at viewport n
    by_box true is = cc
    by_box false is = absurd cc

pub inputs_of_boxed : (at : ℕ → Node) (root : ℕ) (viewport : Inputs) (n : ℕ) → has_box_in at root n ≡ true → inputs_in at root viewport n ≡ Some (inputs_at at viewport n)
unfolding inputs_in
inputs_of_boxed at root viewport n boxed = ap (λ b. cond b (Some (inputs_at at viewport n)) None) boxed

pub is_some_inputs : (at : ℕ → Node) (root : ℕ) (viewport : Inputs) (n : ℕ) → is_some (inputs_in at root viewport n) ≡ has_box_in at root n
unfolding inputs_in
is_some_inputs at root viewport n = by_box (has_box_in at root n)
  where
    by_box : (boxed : Bool) → is_some (cond boxed (Some (inputs_at at viewport n)) None) ≡ boxed
    by_box true = refl
    by_box false = refl

-- of inputs that are found in a view: the view has a root element, and they are those at the node
pub in_view : (at : ℕ → Node) (view : View) (root n : ℕ) → view.root ≡ Some root → inputs_in_view at view n ≡ inputs_in at root (view_inputs view) n
unfolding inputs_in_view
in_view at view root n is = ap (option_and_then (λ root. inputs_in at root (view_inputs view) n)) is

pub view_root : (at : ℕ → Node) (view : View) (inputs : Inputs) (n : ℕ) → inputs_in_view at view n ≡ Some inputs → (root : ℕ) × (view.root ≡ Some root) × (inputs_in at root (view_inputs view) n ≡ Some inputs)
unfolding inputs_in_view
view_root at view inputs n is = by_root (view.root) refl is
  where
    by_root : (found : Option ℕ) → view.root ≡ found → option_and_then (λ root. inputs_in at root (view_inputs view) n) found ≡ Some inputs → (root : ℕ) × (view.root ≡ Some root) × (inputs_in at root (view_inputs view) n ≡ Some inputs)
    by_root None top is = absurd cc
    by_root (Some root) top is = (root, top, is)

pub under_view : (at : ℕ → Node) (view : View) (inputs : Inputs) (n : ℕ) → inputs_in_view at view n ≡ Some inputs → inputs ≡ inputs_under at view n
under_view at view inputs n is = let found = view_root at view inputs n is in inputs_are at found.0 (view_inputs view) inputs n found.2

-- one step up, whatever the bound
up_held : (high : ℕ) (at : ℕ → Node) (viewport : Inputs) (n : ℕ) (by : Holder) → holder at n ≡ by → inputs_up (suc high) at viewport n ≡ inputs_by at viewport (inputs_up high at viewport) (is_in_flow (at n)) by
unfolding inputs_up
up_held high at viewport n by is = ap (inputs_by at viewport (inputs_up high at viewport) (is_in_flow (at n))) is

-- the inputs of what no element holds have the viewport's size
pub inputs_on_page : (at : ℕ → Node) (viewport : Inputs) (n : ℕ) → holder at n ≡ HeldByPage → inputs_at at viewport n ≡ record viewport { flow = is_in_flow (at n) }
unfolding inputs_at
inputs_on_page at viewport n is = up_held 65535 at viewport n HeldByPage is

pub inputs_on_screen : (at : ℕ → Node) (viewport : Inputs) (n : ℕ) → holder at n ≡ HeldByScreen → inputs_at at viewport n ≡ record viewport { flow = is_in_flow (at n) }
unfolding inputs_at
inputs_on_screen at viewport n is = up_held 65535 at viewport n HeldByScreen is

pub inputs_of_top : (at : ℕ → Node) (viewport : Inputs) (n : ℕ) → (at n).parent ≡ None → inputs_at at viewport n ≡ record viewport { flow = true }
inputs_of_top at viewport n top =
    inputs_on_page at viewport n (holder_of_top at n top) ∙ ap (λ position. record viewport { flow = is_flow position }) (top_static at n top)

all_three : (hidden block box : Bool) → (not hidden && (block && box)) ≡ true → (hidden ≡ false) × (block ≡ true) × (box ≡ true)
all_three true block box is = absurd (false≢true is)
all_three false false box is = absurd (false≢true is)
all_three false true box is = (refl, refl, is)

shown_root : (hidden : Bool) (n root : ℕ) → (not hidden && n == root) ≡ true → (hidden ≡ false) × (n ≡ root)
shown_root true n root is = absurd (false≢true is)
shown_root false n root is = (refl, eqb-true n root is)

-- a child with a box is displayed, in a block with one
pub boxed_child : (at : ℕ → Node) (root c p : ℕ) → (at c).parent ≡ Some p → depth_of at p ≤ levels → has_box_in at root c ≡ true → ((at c).item.style.hidden ≡ false) × (is_block ((at p).item.kind) ≡ true) × (has_box_in at root p ≡ true)
boxed_child at root c p is short boxed = all_three ((at c).item.style.hidden) (is_block ((at p).item.kind)) (has_box_in at root p) (sym (box_child at root c p is short) ∙ boxed)

-- a box without a parent is the displayed root element's
pub boxed_top : (at : ℕ → Node) (root n : ℕ) → (at n).parent ≡ None → has_box_in at root n ≡ true → ((at n).item.style.hidden ≡ false) × (n ≡ root)
boxed_top at root n top boxed = shown_root ((at n).item.style.hidden) n root (sym (box_top at root n top) ∙ boxed)

module _ (at : ℕ → Node) (shallow : IsShallow at) where
  -- a box in a node's means that the node has one, and so does what holds it
  pub box_above : (root a n : ℕ) → is_in_path at a n ≡ true → has_box_in at root n ≡ true → has_box_in at root a ≡ true
  box_above root a n inside boxed =
      up_path at shallow (λ m. has_box_in at root m ≡ true) (λ c p is boxed. (boxed_child at root c p is (shallow p) boxed).2) a n inside boxed

  rooted_within : (high root n : ℕ) → depth_of at n ≤ high → has_box_in at root n ≡ true → (is_in_path at root n ≡ true) × ((at root).parent ≡ None)
  rooted_within zero root n low boxed = absurd (omega (arith, depth_least at n))
  rooted_within (suc high) root n low boxed =
      elim (option_cases ((at n).parent)) [
        | inl top ↦ let same = (boxed_top at root n top boxed).1 in
            (subst (λ m. is_in_path at m n ≡ true) same (in_self at n), subst (λ m. (at m).parent ≡ None) same top)
        | inr p ↦
            let over = rooted_within high root p.0 (omega (arith, depth_child at n p.0 p.1 (shallow p.0))) ((boxed_child at root n p.0 p.1 (shallow p.0) boxed).2) in
            (above_in at shallow root n p.0 p.1 over.0, over.1)
      ]

  -- each box is the root element's or in it
  pub boxed_in_root : (root n : ℕ) → has_box_in at root n ≡ true → (is_in_path at root n ≡ true) × ((at root).parent ≡ None)
  boxed_in_root root n boxed = rooted_within (depth_of at n) root n (omega arith) boxed

  pub box_of_holder : (root n h : ℕ) → holder at n ≡ HeldByElement h → has_box_in at root n ≡ true → has_box_in at root h ≡ true
  box_of_holder root n h is boxed = box_above root h n (holder_above at shallow n h is) boxed

  module _ (viewport : Inputs) where
    by_same : (f g : ℕ → Inputs) (flow : Bool) (by : Holder) → ((h : ℕ) → by ≡ HeldByElement h → f h ≡ g h) → inputs_by at viewport f flow by ≡ inputs_by at viewport g flow by
    by_same f g flow (HeldByElement h) same = ap (λ i. inputs_by_element at h i flow) (same h refl)
    by_same f g flow HeldByPage same = refl
    by_same f g flow HeldByScreen same = refl

    -- no bound from the depth on cuts inputs off
    pub inputs_same : (high other n : ℕ) → depth_of at n ≤ high → depth_of at n ≤ other → inputs_up high at viewport n ≡ inputs_up other at viewport n
    unfolding inputs_up
    inputs_same zero other n low also = absurd (omega (arith, depth_least at n))
    inputs_same (suc high) zero n low also = absurd (omega (arith, depth_least at n))
    inputs_same (suc high) (suc other) n low also =
        by_same
        (inputs_up high at viewport)
        (inputs_up other at viewport)
        (is_in_flow (at n))
        (holder at n)
        (λ h is. inputs_same high other h (omega (arith, holder_less at shallow n h is)) (omega (arith, holder_less at shallow n h is)))

    pub inputs_enough : (high n : ℕ) → depth_of at n ≤ high → inputs_up high at viewport n ≡ inputs_at at viewport n
    unfolding inputs_at
    inputs_enough high n low = inputs_same high levels n low (shallow n)

    once_above : (high n : ℕ) → depth_of at n ≤ suc high → inputs_up (suc high) at viewport n ≡ inputs_by at viewport (inputs_at at viewport) (is_in_flow (at n)) (holder at n)
    unfolding inputs_up
    once_above high n low =
        by_same
        (inputs_up high at viewport)
        (inputs_at at viewport)
        (is_in_flow (at n))
        (holder at n)
        (λ h is. inputs_enough high h (omega (arith, holder_less at shallow n h is)))

    -- inputs from those of the holder
    pub inputs_once : (n : ℕ) → inputs_at at viewport n ≡ inputs_by at viewport (inputs_at at viewport) (is_in_flow (at n)) (holder at n)
    inputs_once n = sym (inputs_enough (suc 65535) n (shallow n)) ∙ once_above 65535 n (shallow n)

    pub inputs_held_by : (n h : ℕ) → holder at n ≡ HeldByElement h → inputs_at at viewport n ≡ inputs_by_element at h (inputs_at at viewport h) (is_in_flow (at n))
    inputs_held_by n h is = inputs_once n ∙ ap (inputs_by at viewport (inputs_at at viewport) (is_in_flow (at n))) is

    pub inputs_of_child : (c p : ℕ) → (at c).parent ≡ Some p → is_in_flow (at c) ≡ true → inputs_at at viewport c ≡ child_inputs ((at p).item) (inputs_at at viewport p)
    inputs_of_child c p is flow =
        inputs_held_by c p (holder_of_child at c p is flow) ∙ ap (inputs_by_element at p (inputs_at at viewport p)) flow

    pub inputs_of_held : (n h : ℕ) → is_in_flow (at n) ≡ false → holder at n ≡ HeldByElement h → inputs_at at viewport n ≡ inputs_held (box_in at (inputs_at at viewport h) h)
    inputs_of_held n h flow is = inputs_held_by n h is ∙ ap (inputs_by_element at h (inputs_at at viewport h)) flow

  -- a child in flow, of a node with a box: the inputs are those that the node hands down
  pub inputs_of_boxed_child : (root : ℕ) (viewport above : Inputs) (c p : ℕ) → (at c).parent ≡ Some p → is_in_flow (at c) ≡ true → (at c).item.style.hidden ≡ false → is_block ((at p).item.kind) ≡ true → inputs_in at root viewport p ≡ Some above → inputs_in at root viewport c ≡ Some (child_inputs ((at p).item) above)
  inputs_of_boxed_child root viewport above c p is flow shown block found =
      inputs_of_boxed at root viewport c (box_child at root c p is (shallow p) ∙ rw (shown, block, inputs_boxed at root viewport above p found))
      ∙ ap Some (inputs_of_child viewport c p is flow ∙ ap (child_inputs ((at p).item)) (sym (inputs_are at root viewport above p found)))
