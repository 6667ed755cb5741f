-- The inputs that nodes want in the tree of a root element.
use Rattle.std.proofs.Common.{◌≡◌, ℕ, List, Option, Some, None, Bool, true, false, cond, refl, ap, ◌∙◌}
use Rattle.std.specs.Prelude.{find, not, ◌&&◌}
use Rattle.layout_model.specs.Styles.{AbsolutePosition, FixedPosition}
use Rattle.layout_model.specs.Items.{Kind, BlockKind, ImageKind, FrameKind}
use Rattle.layout_model.specs.Nodes.{Node, path_of, is_in_path, position_of, is_static, is_flow, is_positioned, held_by, holder, IsShallow}
use Rattle.layout_model.specs.Boxes.{Inputs, inner_children, child_inputs, box_in, inputs_held, inputs_by, inputs_at, has_box_in, inputs_in}
use Rattle.layout_model.specs.Clips.{is_block}
use Rattle.layout_model.proofs.Holders.{top_static, holder_of_absolute, holder_of_fixed}
use Rattle.layout_model.proofs.Inputs.{box_child, inputs_boxed, inputs_of_boxed, boxed_child, box_above, inputs_once, inputs_on_screen, inputs_of_boxed_child}
use Rattle.layout_model.proofs.Paths.{path_child, path_top, ancestors_child}
use Rattle.element_tree.specs.Forest.{has}
use Rattle.kept_layout.specs.Sound.{IsShownIn, IsCounted}
use Rattle.kept_layout.specs.Walks.{HaveBoxes, inputs_outside}
use Rattle.kept_layout.proofs.Shapes.{IsShaped}

block_of : (kind : Kind) (children : List ℕ) (c : ℕ) → has (inner_children kind children) c ≡ true → is_block kind ≡ true
block_of BlockKind children c kid = refl
block_of (ImageKind width height) children c kid = cc
block_of FrameKind children c kid = cc

pub block_kids : (kind : Kind) (children : List ℕ) → is_block kind ≡ true → inner_children kind children ≡ children
block_kids BlockKind children is = refl
block_kids (ImageKind width height) children is = cc
block_kids FrameKind children is = cc

module _ (at : ℕ → Node) (shaped : IsShaped at) (shallow : IsShallow at) (root : ℕ) (viewport : Inputs) where
  -- a node with a box is displayed in its parent, which has one too
  pub record IsUnder (p n : ℕ) : Type 0 where
    pub inputs : Inputs
    pub boxed : inputs_in at root viewport p ≡ Some inputs
    pub shown : IsShownIn at p n

  under_boxed : (p n : ℕ) → (at n).parent ≡ Some p → has_box_in at root n ≡ true → IsUnder p n
  under_boxed p n up boxed =
      let parts = boxed_child at root n p up (shallow p) boxed in
      record {
        inputs = inputs_at at viewport p;
        boxed = inputs_of_boxed at root viewport p parts.2;
        shown = record {
          listed = ap (λ xs. has xs n) (block_kids (at p).item.kind (at p).children parts.1) ∙ shaped.listed n p up;
          shown = parts.0;
        };
      }

  pub under : (p n : ℕ) (inputs : Inputs) → (at n).parent ≡ Some p → inputs_in at root viewport n ≡ Some inputs → IsUnder p n
  under p n inputs up boxed = under_boxed p n up (inputs_boxed at root viewport inputs n boxed)

  -- what has a box in a node means that the node has one
  pub over : (n m : ℕ) (inputs : Inputs) → is_in_path at n m ≡ true → inputs_in at root viewport m ≡ Some inputs → inputs_in at root viewport n ≡ Some (inputs_at at viewport n)
  over n m inputs inside boxed = inputs_of_boxed at root viewport n (box_above at shallow root n m inside (inputs_boxed at root viewport inputs m boxed))

  pub boxes_go : HaveBoxes at (has_box_in at root)
  boxes_go p c child boxed =
      box_child at root c p (shaped.parents p c child.listed) (shallow p)
      ∙ ap (λ h. not h && (is_block (at p).item.kind && has_box_in at root p)) child.shown
      ∙ ap (λ b. b && has_box_in at root p) (block_of (at p).item.kind (at p).children c child.listed)
      ∙ boxed

  pub shown_boxed : (p c : ℕ) (inputs : Inputs) → IsShownIn at p c → inputs_in at root viewport p ≡ Some inputs → inputs_in at root viewport c ≡ Some (inputs_at at viewport c)
  shown_boxed p c inputs child boxed = inputs_of_boxed at root viewport c (boxes_go p c child (inputs_boxed at root viewport inputs p boxed))

  -- in flow they are those that the parent hands down
  pub wanted_kid : (p c : ℕ) (inputs : Inputs) → IsCounted at p c → inputs_in at root viewport p ≡ Some inputs → inputs_in at root viewport c ≡ Some (child_inputs (at p).item inputs)
  wanted_kid p c inputs counted boxed =
      inputs_of_boxed_child at shallow root viewport inputs c p (shaped.parents p c counted.child.listed) counted.flow counted.child.shown
      (block_of (at p).item.kind (at p).children c counted.child.listed) boxed

  -- out of flow they are those of what holds the box
  module _ (p c : ℕ) (up : (at c).parent ≡ Some p) where
    pub absolute_inputs : position_of (at c) ≡ AbsolutePosition → inputs_at at viewport c ≡ inputs_outside at viewport p
    absolute_inputs is =
        inputs_once at shallow viewport c
        ∙ ap (λ position. inputs_by at viewport (inputs_at at viewport) (is_flow position) (holder at c)) is
        ∙ ap (inputs_by at viewport (inputs_at at viewport) false) (holder_of_absolute at c is)
        ∙ ap (λ above. inputs_by at viewport (inputs_at at viewport) false (held_by (find (λ a. is_positioned (at a)) above))) (ancestors_child at c p up)

    pub fixed_inputs : position_of (at c) ≡ FixedPosition → inputs_at at viewport c ≡ record viewport { flow = false }
    fixed_inputs is =
        inputs_on_screen at viewport c (holder_of_fixed at c is)
        ∙ ap (λ position. let i : Inputs = record viewport { flow = is_flow position } in i) is

    abbrev nearest : Bool → Option ℕ
    nearest positioned = cond positioned (Some c) (find (λ a. is_positioned (at a)) (path_of at p))

    outside_by : inputs_outside at viewport c ≡ inputs_by at viewport (inputs_at at viewport) false (held_by (nearest (is_positioned (at c))))
    outside_by = ap (λ path. inputs_by at viewport (inputs_at at viewport) false (held_by (find (λ a. is_positioned (at a)) path))) (path_child at c p up (shallow p))

    -- what is brought on to a child
    pub outside_passed : is_positioned (at c) ≡ false → inputs_outside at viewport c ≡ inputs_outside at viewport p
    outside_passed is = outside_by ∙ ap (λ b. inputs_by at viewport (inputs_at at viewport) false (held_by (nearest b))) is

    pub outside_held : is_positioned (at c) ≡ true → inputs_outside at viewport c ≡ inputs_held (box_in at (inputs_at at viewport c) c)
    outside_held is = outside_by ∙ ap (λ b. inputs_by at viewport (inputs_at at viewport) false (held_by (nearest b))) is

  -- the root element, displayed and without a parent
  module _ (top : (at root).parent ≡ None) where
    pub outside_root : inputs_outside at viewport root ≡ record viewport { flow = false }
    outside_root =
        ap (λ path. inputs_by at viewport (inputs_at at viewport) false (held_by (find (λ a. is_positioned (at a)) path))) (path_top at root top)
        ∙ ap (λ position. inputs_by at viewport (inputs_at at viewport) false (held_by (cond (not (is_static position)) (Some root) None))) (top_static at root top)
