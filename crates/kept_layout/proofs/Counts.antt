-- Which nodes are due, and how many.
use Rattle.std.proofs.Common.{◌≡◌, ◌≢◌, ◌<◌, ◌+◌, ℕ, zero, suc, Option, Some, None, Bool, true, false, nat_eq, not, ◌&&◌, ◌||◌, refl, ap, sym, subst, ◌∙◌, inl, inr, arith, eqb-true}
use Rattle.std.proofs.lemmas.Bool.Decides.{nat_tests}
use Rattle.std.proofs.lemmas.Bool.{and_parts, or_parts}
use Rattle.layout_model.specs.Boxes.{Inputs}
use Rattle.block_layout.specs.Seen.{seen_inputs}
use Rattle.kept_layout.specs.declared.slots.Slot.{Slot}
use Rattle.kept_layout.specs.declared.slots.Found.{Found}
use Rattle.kept_layout.specs.Due.{same_height, same_flow, same_inputs, is_held_at, is_due_at, is_due, one_if, due_count}
use Rattle.kept_layout.specs.Walks.{IsSettled}
use Rattle.kept_layout.proofs.Lists.{decide}

height_itself : (height : Option ℕ) → same_height height height ≡ true
height_itself None = refl
height_itself (Some height) = grind (arith, nat_tests)

flow_itself : (flow : Bool) → same_flow flow flow ≡ true
flow_itself true = refl
flow_itself false = refl

pub inputs_itself : (inputs : Inputs) → same_inputs inputs inputs ≡ true
inputs_itself inputs =
    let wide : nat_eq inputs.width inputs.width ≡ true = grind (arith, nat_tests) in
    ap (λ b. b && same_height inputs.height inputs.height && same_flow inputs.flow inputs.flow) wide
    ∙ ap (λ b. b && same_flow inputs.flow inputs.flow) (height_itself inputs.height)
    ∙ flow_itself inputs.flow

height_is : (height other : Option ℕ) → same_height height other ≡ true → height ≡ other
height_is None None same = refl
height_is None (Some other) same = cc
height_is (Some height) None same = cc
height_is (Some height) (Some other) same = ap Some (eqb-true height other same)

flow_is : (flow other : Bool) → same_flow flow other ≡ true → flow ≡ other
flow_is true other same = sym same
flow_is false true same = cc
flow_is false false same = refl

pub inputs_are : (inputs others : Inputs) → same_inputs inputs others ≡ true → inputs ≡ others
inputs_are inputs others same =
    let parts = and_parts (nat_eq inputs.width others.width && same_height inputs.height others.height) (same_flow inputs.flow others.flow) same in
    let sizes = and_parts (nat_eq inputs.width others.width) (same_height inputs.height others.height) parts.0 in
    ap (λ w. let i : Inputs = record { width = w; height = inputs.height; flow = inputs.flow } in i) (eqb-true inputs.width others.width sizes.0)
    ∙ ap (λ h. let i : Inputs = record { width = others.width; height = h; flow = inputs.flow } in i) (height_is inputs.height others.height sizes.1)
    ∙ ap (λ f. let i : Inputs = record { width = others.width; height = others.height; flow = f } in i) (flow_is inputs.flow others.flow parts.1)

holds : (b : Bool) → not b ≡ false → b ≡ true
holds true is = refl
holds false is = cc

held_so : (inputs : Inputs) (o : Option Found) → is_held_at inputs o ≡ true → (found : Found) × (o ≡ Some found) × (seen_inputs found.inputs ≡ inputs)
held_so inputs None is = cc
held_so inputs (Some found) is = (found, refl, inputs_are (seen_inputs found.inputs) inputs is)

module _ (slot : Slot) (inputs : Inputs) where
  pub settled_so : is_due_at (Some inputs) slot ≡ false → IsSettled slot inputs
  settled_so is =
      let parts = or_parts slot.marked (not (is_held_at inputs slot.found)) is in
      let held = held_so inputs slot.found (holds (is_held_at inputs slot.found) parts.1) in
      record { unmarked = parts.0; found = held.0; held = held.1; from = held.2 }

  pub due_marked : slot.marked ≡ true → is_due_at (Some inputs) slot ≡ true
  due_marked is = ap (λ b. b || not (is_held_at inputs slot.found)) is

  pub settled_due : IsSettled slot inputs → is_due_at (Some inputs) slot ≡ false
  settled_due settled =
      ap (λ b. b || not (is_held_at inputs slot.found)) settled.unmarked
      ∙ ap (λ o. not (is_held_at inputs o)) settled.held
      ∙ ap (λ i. not (same_inputs i inputs)) settled.from
      ∙ ap not (inputs_itself inputs)

due_step : (wanted : ℕ → Option Inputs) (slot : ℕ → Slot) (n : ℕ) → due_count wanted slot (suc n) ≡ due_count wanted slot n + one_if (is_due wanted slot n)
unfolding due_count
due_step wanted slot n = refl

due_zero : (wanted : ℕ → Option Inputs) (slot : ℕ → Slot) → due_count wanted slot zero ≡ 0
unfolding due_count
due_zero wanted slot = refl

pub due_like : (wanted : ℕ → Option Inputs) (old new : ℕ → Slot) (count : ℕ) → ((n : ℕ) → n < count → is_due wanted new n ≡ is_due wanted old n) → due_count wanted new count ≡ due_count wanted old count
due_like wanted old new zero same = due_zero wanted new ∙ sym (due_zero wanted old)
due_like wanted old new (suc n) same =
    due_step wanted new n
    ∙ ap (λ k. k + one_if (is_due wanted new n)) (due_like wanted old new n (λ m low. same m (omega arith)))
    ∙ ap (λ b. due_count wanted old n + one_if b) (same n (omega arith))
    ∙ sym (due_step wanted old n)

pub due_none : (wanted : ℕ → Option Inputs) (slot : ℕ → Slot) → ((n : ℕ) → is_due wanted slot n ≡ false) → (count : ℕ) → due_count wanted slot count ≡ 0
due_none wanted slot none zero = due_zero wanted slot
due_none wanted slot none (suc n) =
    let here : one_if (is_due wanted slot n) ≡ 0 = ap one_if (none n) in
    omega (arith, due_step wanted slot n, due_none wanted slot none n)

module _ (wanted : ℕ → Option Inputs) (x : ℕ) (old new : ℕ → Slot) (others : (m : ℕ) → m ≢ x → new m ≡ old m) where
  due_other : (m : ℕ) → m ≢ x → is_due wanted new m ≡ is_due wanted old m
  due_other m other = ap (is_due_at (wanted m)) (others m other)

  -- a slot is written whose node is as due as before
  pub due_same : is_due wanted new x ≡ is_due wanted old x → (count : ℕ) → due_count wanted new count ≡ due_count wanted old count
  due_same same count =
      due_like wanted old new count (λ n low. elim (decide n x) [
        | inl e ↦ subst (λ m. is_due wanted new m ≡ is_due wanted old m) (sym e) same
        | inr other ↦ due_other n other
      ])

  -- a slot is written whose node was due and isn't afterwards
  pub due_less : is_due wanted old x ≡ true → is_due wanted new x ≡ false → (count : ℕ) → x < count → due_count wanted new count + 1 ≡ due_count wanted old count
  due_less was is zero low = absurd (omega arith)
  due_less was is (suc n) low =
      elim (decide n x) [
        | inl e ↦
            let below : due_count wanted new n ≡ due_count wanted old n = due_like wanted old new n (λ m less. due_other m (λ same. omega arith)) in
            let now : one_if (is_due wanted new n) ≡ 0 = ap one_if (subst (λ m. is_due wanted new m ≡ false) (sym e) is) in
            let was_due : one_if (is_due wanted old n) ≡ 1 = ap one_if (subst (λ m. is_due wanted old m ≡ true) (sym e) was) in
            omega (arith, due_step wanted new n, due_step wanted old n)
        | inr other ↦
            let below : due_count wanted new n + 1 ≡ due_count wanted old n = due_less was is n (omega arith) in
            let same : one_if (is_due wanted new n) ≡ one_if (is_due wanted old n) = ap one_if (due_other n other) in
            omega (arith, due_step wanted new n, due_step wanted old n)
      ]
