-- What a walk that fills places has come to: heights and steps summed, and the boxes that are held.
use Rattle.std.proofs.Common.{◌≡◌, ◌≢◌, ◌≤◌, ◌<◌, ℕ, ◌+◌, List, [], ◌∷◌, Option, Some, None, option_map, Bool, true, false, nat_eq, ◌||◌, refl, ap, sym, subst, ◌∙◌, inl, inr, arith, eqb-true}
use Rattle.std.proofs.lemmas.Bool.{false≢true}
use Rattle.std.proofs.lemmas.Bool.Decides.{nat_tests}
use Rattle.std.proofs.lemmas.List.Sums.{sum_by-cons}
use Rattle.std.specs.Prelude.{sum_by, Contains}
use Rattle.px_units.specs.Lengths.{cap}
use Rattle.layout_model.specs.Styles.{Style}
use Rattle.layout_model.specs.Items.{Item, Kind, BlockKind, ImageKind, FrameKind}
use Rattle.layout_model.specs.Nodes.{Node, is_in_path, is_positioned, IsLinked, IsShallow}
use Rattle.layout_model.specs.Boxes.{Inputs, Box, inner_children, is_passed, counted, shown_height, total, computed, child_inputs, box_at, box_in}
use Rattle.layout_model.proofs.Trees.{box_of_children}
use Rattle.element_tree.specs.Forest.{Knot, IsForest, has, children_of}
use Rattle.block_layout.specs.Counts.{if_displayed, box_count}
use Rattle.block_layout.specs.Filling.{IsUnpositioned, inputs_if_block, if_shown, box_with, height_of, steps_of}
use Rattle.block_layout.specs.Trees.{layout_tree}
use Rattle.block_layout.proofs.Ancestors.{some_child}
use Rattle.block_layout.proofs.Totals.{sum_same, count_of_kids}
use Rattle.block_layout.proofs.Unpositioned.{passed_is, child_still}

sum_none : (f : ℕ → ℕ) (xs : List ℕ) → ((c : ℕ) → f c ≡ 0) → sum_by f xs ≡ 0
sum_none f [] none = refl
sum_none f (x ∷ xs) none = sum_by-cons f x xs ∙ omega (arith, none x, sum_none f xs none)

none_shown : (hidden : Bool) → if_shown hidden None ≡ None
none_shown true = refl
none_shown false = refl

-- the height and the steps of a child to which these inputs are handed down
module _ (at : ℕ → Node) (below : Option Inputs) where
  abbrev pub child_height : ℕ → ℕ
  child_height c = height_of (box_with at (if_shown ((at c).item.style.hidden) below) c)

  abbrev pub child_steps : ℕ → ℕ
  child_steps c = steps_of (if_shown ((at c).item.style.hidden) below) (box_count at c)

pub record Filled (at : ℕ → Node) (below : Option Inputs) (children left : List ℕ) (inside first now : ℕ) : Type 0 where
  pub capped : inside ≤ 2147483647
  pub heights : cap (inside + sum_by (child_height at below) left) ≡ cap (sum_by (child_height at below) children)
  pub steps : now + sum_by (child_steps at below) left ≡ first + sum_by (child_steps at below) children

module _ (at : ℕ → Node) (below : Option Inputs) (children : List ℕ) where
  pub filled_on : (left more : List ℕ) (c inside first now : ℕ) → left ≡ c ∷ more → Filled at below children left inside first now
      → (sum steps : ℕ) → sum ≡ cap (inside + child_height at below c) → steps ≡ now + child_steps at below c → Filled at below children more sum first steps
  filled_on left more c inside first now step filled sum steps is paid =
      let high : sum_by (child_height at below) left ≡ child_height at below c + sum_by (child_height at below) more = ap (sum_by (child_height at below)) step ∙ sum_by-cons (child_height at below) c more in
      let long : sum_by (child_steps at below) left ≡ child_steps at below c + sum_by (child_steps at below) more = ap (sum_by (child_steps at below)) step ∙ sum_by-cons (child_steps at below) c more in
      let same : cap (sum + sum_by (child_height at below) more) ≡ cap (inside + sum_by (child_height at below) left) = omega (arith, high) in
      record { capped = omega arith; heights = same ∙ filled.heights; steps = omega (arith, long, filled.steps) }

module _ (at : ℕ → Node) where
  shown_as : (inputs : Inputs) (c : ℕ) (hidden : Bool) → height_of (box_with at (if_shown hidden (Some inputs)) c) ≡ shown_height (box_in at inputs) c hidden
  shown_as inputs c true = refl
  shown_as inputs c false = refl

  counted_as : (inputs : Inputs) (c : ℕ) → is_positioned (at c) ≡ false → child_height at (Some inputs) c ≡ counted at (box_in at inputs) c
  unfolding counted
  counted_as inputs c still = shown_as inputs c ((at c).item.style.hidden) ∙ ap (shown_height (box_in at inputs) c) (sym (passed_is at c still))

  pub paid_as : (inputs : Inputs) (count : ℕ) (hidden : Bool) → steps_of (if_shown hidden (Some inputs)) count ≡ if_displayed hidden count
  paid_as inputs count true = refl
  paid_as inputs count false = refl

  no_height : (c : ℕ) → child_height at None c ≡ 0
  no_height c = ap (λ o. height_of (box_with at o c)) (none_shown ((at c).item.style.hidden))

  no_steps : (c : ℕ) → child_steps at None c ≡ 0
  no_steps c = ap (λ o. steps_of o (box_count at c)) (none_shown ((at c).item.style.hidden))

  abbrev AreStill : List ℕ → Type 0
  AreStill children = (c : ℕ) → Contains children c → is_positioned (at c) ≡ false

  heights_in : (kind : Kind) (item : Item) (inputs : Inputs) (children : List ℕ) → AreStill children
      → cap (sum_by (child_height at (inputs_if_block kind item (Some inputs))) children) ≡ total at (box_in at (child_inputs item inputs)) (inner_children kind children)
  unfolding total
  heights_in BlockKind item inputs children still =
      ap cap (sum_same (child_height at (Some (child_inputs item inputs))) (counted at (box_in at (child_inputs item inputs))) children (λ c among. counted_as (child_inputs item inputs) c (still c among)))
  heights_in (ImageKind width height) item inputs children still = ap cap (sum_none (child_height at None) children no_height)
  heights_in FrameKind item inputs children still = ap cap (sum_none (child_height at None) children no_height)

  steps_in : (kind : Kind) (item : Item) (inputs : Inputs) (children : List ℕ) → AreStill children
      → sum_by (child_steps at (inputs_if_block kind item (Some inputs))) children ≡ sum_by (λ c. if_displayed (is_passed (at c)) (box_count at c)) (inner_children kind children)
  steps_in BlockKind item inputs children still =
      sum_same
      (child_steps at (Some (child_inputs item inputs)))
      (λ c. if_displayed (is_passed (at c)) (box_count at c))
      children
      (λ c among. paid_as (child_inputs item inputs) (box_count at c) ((at c).item.style.hidden) ∙ ap (λ b. if_displayed b (box_count at c)) (sym (passed_is at c (still c among))))
  steps_in (ImageKind width height) item inputs children still = sum_none (child_steps at None) children no_steps
  steps_in FrameKind item inputs children still = sum_none (child_steps at None) children no_steps

  no_steps_in : (kind : Kind) (item : Item) (children : List ℕ) → sum_by (child_steps at (inputs_if_block kind item None)) children ≡ 0
  no_steps_in BlockKind item children = sum_none (child_steps at None) children no_steps
  no_steps_in (ImageKind width height) item children = sum_none (child_steps at None) children no_steps
  no_steps_in FrameKind item children = sum_none (child_steps at None) children no_steps

  -- what a walk has summed at its end gives the box
  module _ (linked : IsLinked at) (shallow : IsShallow at) (n : ℕ) (still : IsUnpositioned at n) (left : List ℕ) (inside first now : ℕ) (done : left ≡ []) where
    abbrev FilledBy : Option Inputs → Type 0
    FilledBy inputs = Filled at (inputs_if_block ((at n).item.kind) ((at n).item) inputs) ((at n).children) left inside first now

    box_by : (inputs : Option Inputs) → FilledBy inputs → option_map (λ given. computed ((at n).item) given inside) inputs ≡ box_with at inputs n
    unfolding box_at
    box_by None filled = refl
    box_by (Some inputs) filled =
        let below : Option Inputs = inputs_if_block ((at n).item.kind) ((at n).item) (Some inputs) in
        let whole : cap (inside + sum_by (child_height at below) left) ≡ inside
        = ap (λ xs. cap (inside + sum_by (child_height at below) xs)) done ∙ omega (arith, filled.capped) in
        ap
        Some
        (ap (computed ((at n).item) inputs) (sym whole ∙ filled.heights ∙ heights_in ((at n).item.kind) ((at n).item) inputs ((at n).children) (child_still at linked shallow n still))
        ∙ sym (box_of_children at linked shallow inputs n))

    steps_by : (inputs : Option Inputs) → FilledBy inputs → now + steps_of inputs 1 ≡ first + steps_of inputs (box_count at n)
    steps_by None filled =
        let below : Option Inputs = inputs_if_block ((at n).item.kind) ((at n).item) None in
        let ended : sum_by (child_steps at below) left ≡ 0 = ap (sum_by (child_steps at below)) done in
        let none : sum_by (child_steps at below) ((at n).children) ≡ 0 = no_steps_in ((at n).item.kind) ((at n).item) ((at n).children) in
        omega (arith, filled.steps)
    steps_by (Some inputs) filled =
        let below : Option Inputs = inputs_if_block ((at n).item.kind) ((at n).item) (Some inputs) in
        let ended : sum_by (child_steps at below) left ≡ 0 = ap (sum_by (child_steps at below)) done in
        let all = steps_in ((at n).item.kind) ((at n).item) inputs ((at n).children) (child_still at linked shallow n still) in
        omega (arith, filled.steps, all, count_of_kids at linked shallow n)

    module _ (inputs below : Option Inputs) (children : List ℕ) (is : below ≡ inputs_if_block ((at n).item.kind) ((at n).item) inputs) (own : children ≡ (at n).children)
        (filled : Filled at below children left inside first now) where
      as_own : FilledBy inputs
      as_own = subst (λ b. Filled at b ((at n).children) left inside first now) is (subst (λ xs. Filled at below xs left inside first now) own filled)

      pub box_filled : option_map (λ given. computed ((at n).item) given inside) inputs ≡ box_with at inputs n
      box_filled = box_by inputs as_own

      pub steps_filled : now + steps_of inputs 1 ≡ first + steps_of inputs (box_count at n)
      steps_filled = steps_by inputs as_own

-- the boxes in the children that were passed are held
abbrev pub AreHeld : (ℕ → Node) → List ℕ → List ℕ → (ℕ → Option Box) → (ℕ → Option Box) → ℕ → Type 0
AreHeld at children left held wanted count = (c : ℕ) → has children c ≡ true → has left c ≡ false → (n : ℕ) → is_in_path at c n ≡ true → n < count → held n ≡ wanted n

module _ (at : ℕ → Node) (children left more : List ℕ) (child : ℕ) (step : left ≡ child ∷ more) (old new wanted : ℕ → Option Box) (count : ℕ)
    (held : AreHeld at children left old wanted count)
    (under : (n : ℕ) → is_in_path at child n ≡ true → n < count → new n ≡ wanted n)
    (others : (n : ℕ) → is_in_path at child n ≡ false → new n ≡ old n) where
  still_gone : (c n : ℕ) → has more c ≡ false → is_in_path at c n ≡ true → is_in_path at child n ≡ false → (same : Bool) → nat_eq c child ≡ same → has left c ≡ false
  still_gone c n gone inside outside true is = let e : c ≡ child = eqb-true c child is in absurd (false≢true (sym outside ∙ ap (λ m. is_in_path at m n) (sym e) ∙ inside))
  still_gone c n gone inside outside false is = ap (λ xs. has xs c) step ∙ ap (λ b. b || has more c) is ∙ gone

  pub held_on : AreHeld at children more new wanted count
  held_on c kid gone n inside low = either (is_in_path at child n) refl
    where
      either : (b : Bool) → is_in_path at child n ≡ b → new n ≡ wanted n
      either true is = under n is low
      either false is = others n is ∙ held c kid (still_gone c n gone inside is (nat_eq c child) refl) n inside low

module _ {P : Type 0} (style : P → Style) (kind : P → Kind) {most : ℕ} {nodes : List (Knot P)} (forest : IsForest most nodes) (p : ℕ) (left : List ℕ) (done : left ≡ [])
    (held final wanted : ℕ → Option Box) (count : ℕ)
    (passed : AreHeld (layout_tree style kind nodes) (children_of nodes p) left held wanted count)
    (own : p < count → final p ≡ wanted p) (others : (n : ℕ) → n ≢ p → final n ≡ held n) where
  pub held_done : (n : ℕ) → is_in_path (layout_tree style kind nodes) p n ≡ true → n < count → final n ≡ wanted n
  held_done n inside low =
      elim (some_child style kind forest p n inside) [
        | inl same ↦ subst (λ m. m < count → final m ≡ wanted m) same own low
        | inr met ↦ either (nat_eq n p) refl (passed met.0 met.1 (ap (λ xs. has xs met.0) done) n met.2 low)
      ]
    where
      either : (b : Bool) → nat_eq n p ≡ b → held n ≡ wanted n → final n ≡ wanted n
      either true is was = let e : n ≡ p = eqb-true n p is in subst (λ m. m < count → final m ≡ wanted m) (sym e) own low
      either false is was = others n (λ e. let t : nat_eq n p ≡ true = grind (arith, nat_tests) in false≢true (sym is ∙ t)) ∙ was
