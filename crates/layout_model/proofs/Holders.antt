-- What holds a box is the page, the screen, or a proper ancestor's box: so holders go up as parents do, by no more levels.
use Rattle.std.proofs.Common.{◌≡◌, ◌≤◌, ◌<◌, ◌+◌, ℕ, zero, suc, true, false, cond, Option, Some, None, [], ◌∷◌, refl, ap, ◌∙◌, ◌⊎◌, inl, inr, arith}
use Rattle.std.specs.Prelude.{find, is_some}
use Rattle.std.proofs.lemmas.Bool.{false≢true}
use Rattle.layout_model.specs.Styles.{Position, StaticPosition, RelativePosition, AbsolutePosition, FixedPosition}
use Rattle.layout_model.specs.Nodes.{Node, levels, ancestors_of, depth_of, is_among, is_in_path, position_of, is_positioned, is_flow, is_in_flow, Holder, HeldByElement, HeldByPage, HeldByScreen, held_by, holder_by, holder, element_of, is_screen, held, holders_of, is_on_screen, IsShallow}
use Rattle.layout_model.proofs.Paths.{path_self, depth_child, depth_least, depth_top, ancestors_child, ancestors_top}
use Rattle.layout_model.proofs.Ancestors.{found_among, in_self, top_of_top, proper_parent, proper_in_path, proper_depth, down_path, in_path_trans, in_path_depth, top_child}

pub top_static : (at : ℕ → Node) (n : ℕ) → (at n).parent ≡ None → position_of (at n) ≡ StaticPosition
top_static at n top = ap (λ found. cond (is_some found) ((at n).item.style.position) StaticPosition) top

by_flow : (at : ℕ → Node) (n : ℕ) (position : Position) → is_flow position ≡ true → holder_by at n position ≡ held_by ((at n).parent)
by_flow at n StaticPosition flow = refl
by_flow at n RelativePosition flow = refl
by_flow at n AbsolutePosition flow = absurd (false≢true flow)
by_flow at n FixedPosition flow = absurd (false≢true flow)

pub holder_in_flow : (at : ℕ → Node) (n : ℕ) → is_in_flow (at n) ≡ true → holder at n ≡ held_by ((at n).parent)
unfolding holder
holder_in_flow at n flow = by_flow at n (position_of (at n)) flow

pub holder_of_child : (at : ℕ → Node) (c p : ℕ) → (at c).parent ≡ Some p → is_in_flow (at c) ≡ true → holder at c ≡ HeldByElement p
holder_of_child at c p is flow = holder_in_flow at c flow ∙ ap held_by is

pub holder_of_top : (at : ℕ → Node) (n : ℕ) → (at n).parent ≡ None → holder at n ≡ HeldByPage
holder_of_top at n top = holder_in_flow at n (ap is_flow (top_static at n top)) ∙ ap held_by top

pub holder_of_absolute : (at : ℕ → Node) (n : ℕ) → position_of (at n) ≡ AbsolutePosition → holder at n ≡ held_by (find (λ a. is_positioned (at a)) (ancestors_of at n))
unfolding holder
holder_of_absolute at n is = ap (holder_by at n) is

-- an absolute child is held by its parent where that is positioned, else by what would hold an absolute box in its place
pub holder_of_absolute_child : (at : ℕ → Node) (c p : ℕ) → (at c).parent ≡ Some p → depth_of at p ≤ levels → position_of (at c) ≡ AbsolutePosition → holder at c ≡ held_by (cond (is_positioned (at p)) (Some p) (find (λ a. is_positioned (at a)) (ancestors_of at p)))
holder_of_absolute_child at c p is short position =
    holder_of_absolute at c position ∙ ap (λ above. held_by (find (λ a. is_positioned (at a)) above)) (ancestors_child at c p is ∙ path_self at p short)

pub holder_of_fixed : (at : ℕ → Node) (n : ℕ) → position_of (at n) ≡ FixedPosition → holder at n ≡ HeldByScreen
unfolding holder
holder_of_fixed at n is = ap (holder_by at n) is

no_screen : (found : Option ℕ) → held_by found ≡ HeldByScreen → ⊥
no_screen None is = cc
no_screen (Some a) is = cc

out_of_flow : (at : ℕ → Node) (n : ℕ) (position : Position) → holder_by at n position ≡ HeldByScreen → is_flow position ≡ false
out_of_flow at n StaticPosition is = absurd (no_screen ((at n).parent) is)
out_of_flow at n RelativePosition is = absurd (no_screen ((at n).parent) is)
out_of_flow at n AbsolutePosition is = refl
out_of_flow at n FixedPosition is = refl

-- what the screen holds is out of flow
pub out_of_flow_on_screen : (at : ℕ → Node) (n : ℕ) → holder at n ≡ HeldByScreen → is_in_flow (at n) ≡ false
unfolding holder
out_of_flow_on_screen at n is = out_of_flow at n (position_of (at n)) is

parent_among : (at : ℕ → Node) (n h : ℕ) → (at n).parent ≡ Some h → is_among h (ancestors_of at n) ≡ true
unfolding is_in_path
parent_among at n h is = ap (is_among h) (ancestors_child at n h is) ∙ in_self at h

held_found : (found : Option ℕ) (h : ℕ) → held_by found ≡ HeldByElement h → found ≡ Some h
held_found None h is = absurd cc
held_found (Some a) h is = cc

by_position : (at : ℕ → Node) (n h : ℕ) (position : Position) → holder_by at n position ≡ HeldByElement h → is_among h (ancestors_of at n) ≡ true
by_position at n h StaticPosition is = parent_among at n h (held_found ((at n).parent) h is)
by_position at n h RelativePosition is = parent_among at n h (held_found ((at n).parent) h is)
by_position at n h AbsolutePosition is = found_among (λ a. is_positioned (at a)) (ancestors_of at n) h (held_found (find (λ a. is_positioned (at a)) (ancestors_of at n)) h is)
by_position at n h FixedPosition is = absurd cc

-- an element that holds a box is a proper ancestor
pub holder_proper : (at : ℕ → Node) (n h : ℕ) → holder at n ≡ HeldByElement h → is_among h (ancestors_of at n) ≡ true
unfolding holder
holder_proper at n h is = by_position at n h (position_of (at n)) is

pub element_is : (by : Holder) (h : ℕ) → element_of by ≡ Some h → by ≡ HeldByElement h
element_is (HeldByElement m) h is = cc
element_is HeldByPage h is = absurd cc
element_is HeldByScreen h is = absurd cc

pub holder_cases : (at : ℕ → Node) (n : ℕ) → (element_of (holder at n) ≡ None) ⊎ ((h : ℕ) × (holder at n ≡ HeldByElement h))
holder_cases at n = by_holder (holder at n) refl
  where
    by_holder : (by : Holder) → holder at n ≡ by → (element_of (holder at n) ≡ None) ⊎ ((h : ℕ) × (holder at n ≡ HeldByElement h))
    by_holder (HeldByElement h) is = inr (h, is)
    by_holder HeldByPage is = inl (ap element_of is)
    by_holder HeldByScreen is = inl (ap element_of is)

-- of what no element holds
pub holders_of_unheld : (at : ℕ → Node) (n : ℕ) → element_of (holder at n) ≡ None → holders_of at n ≡ []
unfolding holders_of
holders_of_unheld at n none = ancestors_top (held at) n none

pub on_screen_unheld : (at : ℕ → Node) (n : ℕ) → element_of (holder at n) ≡ None → is_on_screen at n ≡ is_screen (holder at n)
unfolding is_on_screen
on_screen_unheld at n none = ap (λ top. is_screen (holder at top)) (top_of_top (held at) n none)

module _ (at : ℕ → Node) (shallow : IsShallow at) where
  pub holder_above : (n h : ℕ) → holder at n ≡ HeldByElement h → is_in_path at h n ≡ true
  holder_above n h is = proper_in_path at shallow h n (holder_proper at n h is)

  pub holder_less : (n h : ℕ) → holder at n ≡ HeldByElement h → depth_of at h < depth_of at n
  holder_less n h is = proper_depth at shallow h n (holder_proper at n h is)

  held_within : (high n : ℕ) → depth_of at n ≤ high → depth_of (held at) n ≤ depth_of at n
  held_within zero n low = absurd (omega (arith, depth_least at n))
  held_within (suc high) n low =
      elim (holder_cases at n) [
        | inl none ↦ omega (arith, depth_top (held at) n none, depth_least at n)
        | inr h ↦
            let less : depth_of at h.0 < depth_of at n = holder_less n h.0 h.1 in
            let low_held : depth_of (held at) h.0 ≤ depth_of at h.0 = held_within high h.0 (omega arith) in
            let short : depth_of (held at) h.0 ≤ levels = omega (arith, shallow h.0) in
            let one : depth_of (held at) n ≡ depth_of (held at) h.0 + 1 = depth_child (held at) n h.0 (ap element_of h.1) short in
            omega arith
      ]

  -- no more elements hold a node's box, one in the other, than stand above it
  pub held_depth : (n : ℕ) → depth_of (held at) n ≤ depth_of at n
  held_depth n = held_within (depth_of at n) n (omega arith)

  pub held_shallow : IsShallow (held at)
  held_shallow n = omega (arith, held_depth n, shallow n)

  -- what holds a box, and what holds that one in turn
  pub holders_of_held : (n h : ℕ) → holder at n ≡ HeldByElement h → holders_of at n ≡ h ∷ holders_of at h
  unfolding holders_of
  holders_of_held n h is = ancestors_child (held at) n h (ap element_of is) ∙ path_self (held at) h (held_shallow h)

  pub on_screen_held : (n h : ℕ) → holder at n ≡ HeldByElement h → is_on_screen at n ≡ is_on_screen at h
  unfolding is_on_screen
  on_screen_held n h is = ap (λ top. is_screen (holder at top)) (top_child (held at) held_shallow n h (ap element_of is))

  pub held_in_path : (a n : ℕ) → is_in_path (held at) a n ≡ true → is_in_path at a n ≡ true
  held_in_path a n inside = down_path (held at) held_shallow (λ m. is_in_path at a m ≡ true) step a n inside (in_self at a)
    where
      step : (c p : ℕ) → (held at c).parent ≡ Some p → is_in_path at a p ≡ true → is_in_path at a c ≡ true
      step c p is inside = in_path_trans at shallow a p c inside (holder_above c p (element_is (holder at c) p is))

  -- each of the elements that hold a box is an ancestor
  pub holders_above : (h n : ℕ) → is_among h (holders_of at n) ≡ true → is_in_path at h n ≡ true
  unfolding holders_of
  holders_above h n inside = held_in_path h n (proper_in_path (held at) held_shallow h n inside)

  pub holders_less : (h n : ℕ) → is_among h (holders_of at n) ≡ true → depth_of at h < depth_of at n
  unfolding holders_of
  holders_less h n inside =
      let up = proper_parent (held at) held_shallow h n inside in
      let over : is_in_path at h up.0 ≡ true = held_in_path h up.0 up.2 in
      omega (arith, in_path_depth at shallow h up.0 over, holder_less n up.0 (element_is (holder at n) up.0 up.1))
