-- Flat places, from those of a node's parent and of what holds its box: they rest on no bound on levels.
use Rattle.std.proofs.Common.{◌≡◌, ◌≤◌, ℕ, ℤ, zero, suc, false, Option, Some, None, refl, ap, sym, ◌∙◌, arith}
use Rattle.std.specs.Prelude.{pos, ◌+ℤ◌, ◌-ℤ◌}
use Rattle.std.proofs.lemmas.Bool.{false≢true}
use Rattle.px_units.specs.Lengths.{clamped}
use Rattle.layout_model.specs.Styles.{Sides, Position, StaticPosition, RelativePosition, AbsolutePosition, FixedPosition}
use Rattle.layout_model.specs.Nodes.{Node, levels, depth_of, position_of, is_flow, is_in_flow, Holder, HeldByElement, HeldByPage, HeldByScreen, holder, IsShallow}
use Rattle.layout_model.specs.Boxes.{Inputs, Box, used_insets, box_in, border_width}
use Rattle.layout_model.specs.Points.{moved}
use Rattle.layout_model.specs.Views.{View, inputs_under}
use Rattle.layout_model.specs.FlatPlaces.{offset_of, across, inset_by, placed_by, border_corner, corner_of, above_of, flat_by, flat_up, flat_place}
use Rattle.layout_model.proofs.Paths.{depth_child, depth_least}
use Rattle.layout_model.proofs.Holders.{top_static, holder_less}

abbrev pub insets_at : (ℕ → Node) → ℕ → Inputs → Sides (Option ℤ)
insets_at at n inputs = used_insets ((at n).item.style.inset) inputs

-- where a node is in the flow, or would be, over the places of others
abbrev pub flow_over : (ℕ → Node) → View → (ℕ → ℤ × ℤ) → ℕ → ℤ × ℤ
flow_over at view flat n = moved (above_of flat ((at n).parent)) (offset_of at view n)

-- what a flat place is over those of other nodes
abbrev pub flat_over : (ℕ → Node) → View → (ℕ → ℤ × ℤ) → ℕ → Inputs → Position → ℤ × ℤ
flat_over at view flat n inputs position =
    flat_by at flat n inputs (insets_at at n inputs) (flow_over at view flat n) position

up_once : (high : ℕ) (at : ℕ → Node) (view : View) (n : ℕ) → flat_up (suc high) at view n ≡ flat_over at view (flat_up high at view) n (inputs_under at view n) (position_of (at n))
unfolding flat_up
up_once high at view n = refl

out_by : (at : ℕ → Node) (flat : ℕ → ℤ × ℤ) (n : ℕ) (inputs : Inputs) (insets : Sides (Option ℤ)) (in_flow : ℤ × ℤ) (position : Position) → is_flow position ≡ false → flat_by at flat n inputs insets in_flow position ≡ placed_by inputs insets (box_in at inputs n) (corner_of at flat (holder at n)) in_flow
out_by at flat n inputs insets in_flow StaticPosition out = absurd (false≢true (sym out))
out_by at flat n inputs insets in_flow RelativePosition out = absurd (false≢true (sym out))
out_by at flat n inputs insets in_flow AbsolutePosition out = refl
out_by at flat n inputs insets in_flow FixedPosition out = refl

-- where insets put a box across: by the near side, else by the far one, else in the flow
pub near_across : (inputs : Inputs) (insets : Sides (Option ℤ)) (box : Box) (corner in_flow : ℤ × ℤ) (left : ℤ) → insets.left ≡ Some left → (placed_by inputs insets box corner in_flow).0 ≡ corner.0 +ℤ clamped (left +ℤ pos (box.margin.left))
near_across inputs insets box corner in_flow left is = ap (λ near. inset_by near (insets.right) (across inputs insets box) (corner.0) (in_flow.0)) is

pub far_across : (inputs : Inputs) (insets : Sides (Option ℤ)) (box : Box) (corner in_flow : ℤ × ℤ) (right : ℤ) → insets.left ≡ None → insets.right ≡ Some right → (placed_by inputs insets box corner in_flow).0 ≡ corner.0 +ℤ clamped (pos (inputs.width) -ℤ right -ℤ pos (box.margin.right) -ℤ pos (border_width box))
far_across inputs insets box corner in_flow right none is =
    ap (λ near. inset_by near (insets.right) (across inputs insets box) (corner.0) (in_flow.0)) none
    ∙ ap (λ far. inset_by None far (across inputs insets box) (corner.0) (in_flow.0)) is

pub flow_across : (inputs : Inputs) (insets : Sides (Option ℤ)) (box : Box) (corner in_flow : ℤ × ℤ) → insets.left ≡ None → insets.right ≡ None → (placed_by inputs insets box corner in_flow).0 ≡ in_flow.0
flow_across inputs insets box corner in_flow none none_far =
    ap (λ near. inset_by near (insets.right) (across inputs insets box) (corner.0) (in_flow.0)) none
    ∙ ap (λ far. inset_by None far (across inputs insets box) (corner.0) (in_flow.0)) none_far

above_same : (f g : ℕ → ℤ × ℤ) (found : Option ℕ) → ((p : ℕ) → found ≡ Some p → f p ≡ g p) → above_of f found ≡ above_of g found
above_same f g None same = refl
above_same f g (Some p) same = same p refl

corner_same : (at : ℕ → Node) (f g : ℕ → ℤ × ℤ) (by : Holder) → ((h : ℕ) → by ≡ HeldByElement h → f h ≡ g h) → corner_of at f by ≡ corner_of at g by
corner_same at f g (HeldByElement h) same = ap (λ place. moved place (border_corner ((at h).item))) (same h refl)
corner_same at f g HeldByPage same = refl
corner_same at f g HeldByScreen same = refl

by_same : (at : ℕ → Node) (f g : ℕ → ℤ × ℤ) (n : ℕ) (inputs : Inputs) (insets : Sides (Option ℤ)) (in_flow : ℤ × ℤ) (position : Position) → ((h : ℕ) → holder at n ≡ HeldByElement h → f h ≡ g h) → flat_by at f n inputs insets in_flow position ≡ flat_by at g n inputs insets in_flow position
by_same at f g n inputs insets in_flow StaticPosition same = refl
by_same at f g n inputs insets in_flow RelativePosition same = refl
by_same at f g n inputs insets in_flow AbsolutePosition same = ap (λ corner. placed_by inputs insets (box_in at inputs n) corner in_flow) (corner_same at f g (holder at n) same)
by_same at f g n inputs insets in_flow FixedPosition same = ap (λ corner. placed_by inputs insets (box_in at inputs n) corner in_flow) (corner_same at f g (holder at n) same)

-- only the places of the parent and of what holds the box are looked at
pub over_same : (at : ℕ → Node) (view : View) (f g : ℕ → ℤ × ℤ) (n : ℕ) (inputs : Inputs) (position : Position) → ((p : ℕ) → (at n).parent ≡ Some p → f p ≡ g p) → ((h : ℕ) → holder at n ≡ HeldByElement h → f h ≡ g h) → flat_over at view f n inputs position ≡ flat_over at view g n inputs position
over_same at view f g n inputs position parent holds =
    ap (λ above. flat_by at f n inputs (insets_at at n inputs) (moved above (offset_of at view n)) position) (above_same f g ((at n).parent) parent)
    ∙ by_same at f g n inputs (insets_at at n inputs) (flow_over at view g n) position holds

-- one step up, whatever the bound
pub flat_first : (at : ℕ → Node) (view : View) (n : ℕ) → flat_place at view n ≡ flat_over at view (flat_up 65535 at view) n (inputs_under at view n) (position_of (at n))
unfolding flat_place
flat_first at view n = up_once 65535 at view n

pub flat_of_top : (at : ℕ → Node) (view : View) (n : ℕ) → (at n).parent ≡ None → flat_place at view n ≡ moved (pos 0, pos 0) (offset_of at view n)
flat_of_top at view n top =
    flat_first at view n
    ∙ ap (flat_over at view (flat_up 65535 at view) n (inputs_under at view n)) (top_static at n top)
    ∙ ap (λ found. moved (above_of (flat_up 65535 at view) found) (offset_of at view n)) top

pub flat_first_out : (at : ℕ → Node) (view : View) (n : ℕ) (inputs : Inputs) → is_in_flow (at n) ≡ false → inputs ≡ inputs_under at view n → flat_place at view n ≡ placed_by inputs (insets_at at n inputs) (box_in at inputs n) (corner_of at (flat_up 65535 at view) (holder at n)) (flow_over at view (flat_up 65535 at view) n)
flat_first_out at view n inputs out known =
    flat_first at view n
    ∙ ap (λ i. flat_over at view (flat_up 65535 at view) n i (position_of (at n))) (sym known)
    ∙ out_by at (flat_up 65535 at view) n inputs (insets_at at n inputs) (flow_over at view (flat_up 65535 at view) n) (position_of (at n)) out

module _ (at : ℕ → Node) (shallow : IsShallow at) (view : View) where
  -- no bound from the depth on cuts places off
  pub flat_same : (high other n : ℕ) → depth_of at n ≤ high → depth_of at n ≤ other → flat_up high at view n ≡ flat_up other at view n
  flat_same zero other n low also = absurd (omega (arith, depth_least at n))
  flat_same (suc high) zero n low also = absurd (omega (arith, depth_least at n))
  flat_same (suc high) (suc other) n low also =
      up_once high at view n
      ∙ over_same
      at
      view
      (flat_up high at view)
      (flat_up other at view)
      n
      (inputs_under at view n)
      (position_of (at n))
      (λ p is. flat_same high other p (omega (arith, depth_child at n p is (shallow p))) (omega (arith, depth_child at n p is (shallow p))))
      (λ h is. flat_same high other h (omega (arith, holder_less at shallow n h is)) (omega (arith, holder_less at shallow n h is)))
      ∙ sym (up_once other at view n)

  pub flat_enough : (high n : ℕ) → depth_of at n ≤ high → flat_up high at view n ≡ flat_place at view n
  unfolding flat_place
  flat_enough high n low = flat_same high levels n low (shallow n)

  once_above : (high n : ℕ) → depth_of at n ≤ suc high → flat_up (suc high) at view n ≡ flat_over at view (flat_place at view) n (inputs_under at view n) (position_of (at n))
  once_above high n low =
      up_once high at view n
      ∙ over_same
      at
      view
      (flat_up high at view)
      (flat_place at view)
      n
      (inputs_under at view n)
      (position_of (at n))
      (λ p is. flat_enough high p (omega (arith, depth_child at n p is (shallow p))))
      (λ h is. flat_enough high h (omega (arith, holder_less at shallow n h is)))

  -- a flat place, from that of the parent and that of what holds the box
  pub flat_once : (n : ℕ) → flat_place at view n ≡ flat_over at view (flat_place at view) n (inputs_under at view n) (position_of (at n))
  flat_once n = sym (flat_enough (suc 65535) n (shallow n)) ∙ once_above 65535 n (shallow n)

  pub flat_known : (n : ℕ) (inputs : Inputs) (position : Position) → inputs ≡ inputs_under at view n → position_of (at n) ≡ position → flat_place at view n ≡ flat_over at view (flat_place at view) n inputs position
  flat_known n inputs position known is =
      flat_once n
      ∙ ap (flat_over at view (flat_place at view) n (inputs_under at view n)) is
      ∙ ap (λ i. flat_over at view (flat_place at view) n i position) (sym known)

  -- where a child is in the flow, or would be
  abbrev pub flow_place : ℕ → ℕ → ℤ × ℤ
  flow_place c p = moved (flat_place at view p) (offset_of at view c)

  pub flat_of_static : (c p : ℕ) → (at c).parent ≡ Some p → position_of (at c) ≡ StaticPosition → flat_place at view c ≡ flow_place c p
  flat_of_static c p is position =
      flat_known c (inputs_under at view c) StaticPosition refl position ∙ ap (λ found. moved (above_of (flat_place at view) found) (offset_of at view c)) is

  pub flat_of_relative : (inputs : Inputs) (c p : ℕ) → (at c).parent ≡ Some p → position_of (at c) ≡ RelativePosition → inputs ≡ inputs_under at view c → flat_place at view c ≡ flat_by at (flat_place at view) c inputs (insets_at at c inputs) (flow_place c p) RelativePosition
  flat_of_relative inputs c p is position known =
      flat_known c inputs RelativePosition known position
      ∙ ap (λ found. flat_by at (flat_place at view) c inputs (insets_at at c inputs) (moved (above_of (flat_place at view) found) (offset_of at view c)) RelativePosition) is

  pub flat_out_of_flow : (n : ℕ) (inputs : Inputs) → is_in_flow (at n) ≡ false → inputs ≡ inputs_under at view n → flat_place at view n ≡ placed_by inputs (insets_at at n inputs) (box_in at inputs n) (corner_of at (flat_place at view) (holder at n)) (flow_over at view (flat_place at view) n)
  flat_out_of_flow n inputs out known =
      flat_known n inputs (position_of (at n)) known refl
      ∙ out_by at (flat_place at view) n inputs (insets_at at n inputs) (flow_over at view (flat_place at view) n) (position_of (at n)) out
