-- A reach is met by the area that it covers or by one of the boxes in it, or it is the largest length.
use Rattle.std.proofs.Common.{◌≡◌, ◌≤◌, ℕ, ℤ, Bool, true, false, Option, Some, None, ◌⊎◌, inl, inr, List, refl, ap, ◌∙◌, arith}
use Rattle.std.specs.Prelude.{not, ◌&&◌, is_some, pos, negsuc, max, nat_le, filter, Contains}
use Rattle.std.proofs.lemmas.Bool.{leb-true, leb-false}
use Rattle.px_units.specs.Lengths.{cap, at_least_zero}
use Rattle.layout_model.specs.Nodes.{Node, is_on_screen}
use Rattle.layout_model.specs.Boxes.{Inputs}
use Rattle.layout_model.specs.Points.{larger, capped}
use Rattle.layout_model.specs.Views.{View, view_size, inputs_in_view}
use Rattle.layout_model.specs.Reach.{clipped_by, is_it, tree_in, reached_by, reached_by_view, edges_with, farthest, reach_of_view}
use Rattle.layout_model.proofs.Farthest.{passed, it_is, IsMetBy, far_met}
use Rattle.layout_model.proofs.Reaches.{view_is}

cut_or_not : (n : ℕ) → (cap n ≡ 2147483647) ⊎ (cap n ≡ n)
cut_or_not n = either (nat_le n 2147483647) refl
  where
    either : (test : Bool) → nat_le n 2147483647 ≡ test → (cap n ≡ 2147483647) ⊎ (cap n ≡ n)
    either true is = inr (omega (arith, leb-true n 2147483647 is))
    either false is = inl (omega (arith, leb-false n 2147483647 is))

module _ (at : ℕ → Node) (view : View) (corner : ℤ × ℤ) (size : ℕ × ℕ) (ns : List ℕ)
    (axis : ℕ × ℕ → ℕ) (greater : (a b : ℕ × ℕ) → axis (larger a b) ≡ max (axis a) (axis b)) (low : axis size ≤ axis (farthest at view corner size ns))
    (edge : ℕ → Inputs → ℤ) (none : (d : ℕ) → axis (edges_with at view corner d None) ≡ 0) (some : (d : ℕ) (below : Inputs) → axis (edges_with at view corner d (Some below)) ≡ at_least_zero (edge d below)) where
  abbrev pub Attained : ℕ → Type 0
  Attained value = (value ≡ cap (axis size)) ⊎ (value ≡ 2147483647) ⊎ ((d : ℕ) × (below : Inputs) × Contains ns d × (inputs_in_view at view d ≡ Some below) × (pos value ≡ edge d below))

  pub attained : (value : ℕ) → value ≡ cap (axis (farthest at view corner size ns)) → Attained value
  attained value is = pick (far_met at view corner size axis greater ns)
    where
      far : ℕ
      far = axis (farthest at view corner size ns)

      nothing : far ≡ 0 → Attained value
      nothing zero_far = inl (is ∙ ap cap (omega (arith, zero_far, low)))

      at_edge : (d : ℕ) → Contains ns d → (below : Inputs) → inputs_in_view at view d ≡ Some below → (z : ℤ) → z ≡ edge d below → far ≡ at_least_zero z → Attained value
      at_edge d among below found (pos n) same whole = split (cut_or_not n)
        where
          split : (cap n ≡ 2147483647) ⊎ (cap n ≡ n) → Attained value
          split (inl cut) = inr (inl (is ∙ ap cap whole ∙ cut))
          split (inr uncut) = inr (inr (d, below, among, found, ap pos (is ∙ ap cap whole ∙ uncut) ∙ same))
      at_edge d among below found (negsuc n) same whole = nothing whole

      of_box : (d : ℕ) → Contains ns d → (found : Option Inputs) → inputs_in_view at view d ≡ found → far ≡ axis (edges_with at view corner d found) → Attained value
      of_box d among None found whole = nothing (whole ∙ none d)
      of_box d among (Some below) found whole = at_edge d among below found (edge d below) refl (whole ∙ some d below)

      pick : (far ≡ axis size) ⊎ IsMetBy at view corner size axis ns far → Attained value
      pick (inl same) = inl (is ∙ ap cap same)
      pick (inr met) = of_box (met.node) (met.among) (inputs_in_view at view (met.node)) refl (met.is)

pub clipped : (at : ℕ → Node) (view : View) (n d : ℕ) → Contains (reached_by at view n) d → clipped_by at d ≡ Some n
clipped at view n d among = it_is n (clipped_by at d) (passed (λ e. is_it n (clipped_by at e)) (tree_in at (view.root)) d among)

pub unclipped : (at : ℕ → Node) (view : View) (d : ℕ) → Contains (reached_by_view at view) d → (clipped_by at d ≡ None) × (is_on_screen at d ≡ false)
unclipped at view d among = over (clipped_by at d) (is_on_screen at d) (passed (λ e. not (is_some (clipped_by at e)) && not (is_on_screen at e)) (tree_in at (view.root)) d among)
  where
    over : (found : Option ℕ) (on : Bool) → (not (is_some found) && not on) ≡ true → (found ≡ None) × (on ≡ false)
    over None false is = (refl, refl)
    over None true is = cc
    over (Some n) on is = cc

pub view_alone : (at : ℕ → Node) (view : View) → view.root ≡ None → reach_of_view at view ≡ capped (view_size view)
unfolding farthest
view_alone at view is = view_is at view ∙ ap (λ root. capped (farthest at view (pos 0, pos 0) (view_size view) (filter (λ d. not (is_some (clipped_by at d)) && not (is_on_screen at d)) (tree_in at root)))) is
