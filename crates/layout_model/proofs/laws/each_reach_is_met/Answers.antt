use Rattle.std.proofs.Common.{◌≡◌, ◌⊎◌, ℕ, inl, inr, Some, refl, ap, arith}
use Rattle.std.proofs.lemmas.Int.{ints}
use Rattle.std.specs.Prelude.{false, None, ℤ, pos, ◌+ℤ◌, ◌-ℤ◌, Contains}
use Rattle.layout_model.specs.Nodes.{Node, is_on_screen}
use Rattle.layout_model.specs.Boxes.{Inputs, box_in, padding_size, border_width, border_height}
use Rattle.layout_model.specs.Points.{moved}
use Rattle.layout_model.specs.Views.{View, view_size, inputs_in_view}
use Rattle.layout_model.specs.FlatPlaces.{flat_place, border_corner}
use Rattle.layout_model.specs.Reach.{clipped_by, reach_of, reach_of_view, reached_by, reached_by_view}
use Rattle.layout_model.proofs.Farthest.{size_within}
use Rattle.layout_model.proofs.Reaches.{reach_is, view_is}
use Rattle.layout_model.proofs.Attained.{attained, clipped, unclipped, view_alone}
use Rattle.layout_model.proofs.laws.each_reach_is_met.Goals as goal

in_reach : (at : ℕ → Node) (view : View) (n : ℕ) (least value : ℕ) (edge : ℕ → Inputs → ℤ) →
    (value ≡ least) ⊎ (value ≡ 2147483647) ⊎ ((d : ℕ) × (below : Inputs) × Contains (reached_by at view n) d × (inputs_in_view at view d ≡ Some below) × (pos value ≡ edge d below)) →
    (value ≡ least) ⊎ (value ≡ 2147483647) ⊎ ((d : ℕ) × (below : Inputs) × (clipped_by at d ≡ Some n) × (inputs_in_view at view d ≡ Some below) × (pos value ≡ edge d below))
in_reach at view n least value edge (inl is) = inl is
in_reach at view n least value edge (inr (inl is)) = inr (inl is)
in_reach at view n least value edge (inr (inr met)) = inr (inr (met.0, met.1, clipped at view n (met.0) (met.2), met.3, met.4))

in_view : (at : ℕ → Node) (view : View) (least value : ℕ) (edge : ℕ → Inputs → ℤ) →
    (value ≡ least) ⊎ (value ≡ 2147483647) ⊎ ((d : ℕ) × (below : Inputs) × Contains (reached_by_view at view) d × (inputs_in_view at view d ≡ Some below) × (pos value ≡ edge d below -ℤ pos 0)) →
    (value ≡ least) ⊎ (value ≡ 2147483647) ⊎ ((d : ℕ) × (below : Inputs) × (clipped_by at d ≡ None) × (is_on_screen at d ≡ false) × (inputs_in_view at view d ≡ Some below) × (pos value ≡ edge d below))
in_view at view least value edge (inl is) = inl is
in_view at view least value edge (inr (inl is)) = inr (inl is)
in_view at view least value edge (inr (inr met)) =
    inr (inr (met.0, met.1, (unclipped at view (met.0) (met.2)).0, (unclipped at view (met.0) (met.2)).1, met.3, same _ _ (met.4)))
  where
    same : (a b : ℤ) → a ≡ b -ℤ pos 0 → a ≡ b
    same a b is = omega (arith, ints)

pub returns-clause-across : goal.returns-clause-across
returns-clause-across c at view inputs n is =
    in_reach at view n _ _ (λ d below. (flat_place at view d).0 +ℤ pos (border_width (box_in at below d)) -ℤ (moved (flat_place at view n) (border_corner (at n).item)).0)
    (attained
    at
    view
    (moved (flat_place at view n) (border_corner (at n).item))
    (padding_size (box_in at inputs n))
    (reached_by at view n)
    (λ p. p.0)
    (λ a b. refl)
    ((size_within at view (moved (flat_place at view n) (border_corner (at n).item)) (padding_size (box_in at inputs n)) (reached_by at view n)).0)
    (λ d below. (flat_place at view d).0 +ℤ pos (border_width (box_in at below d)) -ℤ (moved (flat_place at view n) (border_corner (at n).item)).0)
    (λ d. refl)
    (λ d below. refl)
    ((reach_of at view n).0)
    (ap (λ p. p.0) (reach_is at view inputs n is)))

pub returns-clause-down : goal.returns-clause-down
returns-clause-down c at view inputs n is =
    in_reach at view n _ _ (λ d below. (flat_place at view d).1 +ℤ pos (border_height (box_in at below d)) -ℤ (moved (flat_place at view n) (border_corner (at n).item)).1)
    (attained
    at
    view
    (moved (flat_place at view n) (border_corner (at n).item))
    (padding_size (box_in at inputs n))
    (reached_by at view n)
    (λ p. p.1)
    (λ a b. refl)
    ((size_within at view (moved (flat_place at view n) (border_corner (at n).item)) (padding_size (box_in at inputs n)) (reached_by at view n)).1)
    (λ d below. (flat_place at view d).1 +ℤ pos (border_height (box_in at below d)) -ℤ (moved (flat_place at view n) (border_corner (at n).item)).1)
    (λ d. refl)
    (λ d below. refl)
    ((reach_of at view n).1)
    (ap (λ p. p.1) (reach_is at view inputs n is)))

pub returns-clause-nothing : goal.returns-clause-nothing
returns-clause-nothing c at view is = view_alone at view is

pub returns-clause-view_across : goal.returns-clause-view_across
returns-clause-view_across c at view =
    in_view at view _ _ (λ d below. (flat_place at view d).0 +ℤ pos (border_width (box_in at below d)))
    (attained
    at
    view
    (pos 0, pos 0)
    (view_size view)
    (reached_by_view at view)
    (λ p. p.0)
    (λ a b. refl)
    ((size_within at view (pos 0, pos 0) (view_size view) (reached_by_view at view)).0)
    (λ d below. (flat_place at view d).0 +ℤ pos (border_width (box_in at below d)) -ℤ pos 0)
    (λ d. refl)
    (λ d below. refl)
    ((reach_of_view at view).0)
    (ap (λ p. p.0) (view_is at view)))

pub returns-clause-view_down : goal.returns-clause-view_down
returns-clause-view_down c at view =
    in_view at view _ _ (λ d below. (flat_place at view d).1 +ℤ pos (border_height (box_in at below d)))
    (attained
    at
    view
    (pos 0, pos 0)
    (view_size view)
    (reached_by_view at view)
    (λ p. p.1)
    (λ a b. refl)
    ((size_within at view (pos 0, pos 0) (view_size view) (reached_by_view at view)).1)
    (λ d below. (flat_place at view d).1 +ℤ pos (border_height (box_in at below d)) -ℤ pos 0)
    (λ d. refl)
    (λ d below. refl)
    ((reach_of_view at view).1)
    (ap (λ p. p.1) (view_is at view)))
