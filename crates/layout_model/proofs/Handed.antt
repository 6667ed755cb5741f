-- A definite height does not depend on the children: it is given, or found between insets.
use Rattle.std.proofs.Common.{◌≡◌, ℕ, Bool, true, false, cond, Some, None, refl, ap, ◌∙◌}
use Rattle.std.specs.Prelude.{◌||◌, is_some}
use Rattle.layout_model.specs.Items.{Item, BlockKind}
use Rattle.layout_model.specs.Boxes.{Inputs, against, used_insets, is_stretched, has_definite_height, computed, child_inputs}

pub handed_height : (item : Item) (inputs : Inputs) (inside given : ℕ) → against (item.style.height) (inputs.height) ≡ Some given → (child_inputs item inputs).height ≡ Some ((computed item inputs inside).height)
unfolding child_inputs computed
handed_height item inputs inside given is = rw is

pub handed : (item : Item) (inputs : Inputs) → (child_inputs item inputs).height ≡ cond (has_definite_height item inputs) (Some ((computed item inputs 0).height)) None
unfolding child_inputs
handed item inputs = refl

either : (given : Bool) → (given || true) ≡ true
either true = refl
either false = refl

between : (item : Item) (inputs : Inputs) (inside : ℕ) → item.kind ≡ BlockKind → is_stretched inputs (used_insets (item.style.inset) inputs) ≡ true → (computed item inputs 0).height ≡ (computed item inputs inside).height
unfolding computed
between item inputs inside block stretched = rw (block, stretched)

pub handed_between : (item : Item) (inputs : Inputs) (inside : ℕ) → item.kind ≡ BlockKind → is_stretched inputs (used_insets (item.style.inset) inputs) ≡ true → (child_inputs item inputs).height ≡ Some ((computed item inputs inside).height)
handed_between item inputs inside block stretched =
    handed item inputs
    ∙ ap (λ b. cond b (Some ((computed item inputs 0).height)) None) (ap (λ b. is_some (against (item.style.height) (inputs.height)) || b) stretched ∙ either (is_some (against (item.style.height) (inputs.height))))
    ∙ ap Some (between item inputs inside block stretched)

pub none_handed : (item : Item) (inputs : Inputs) → against (item.style.height) (inputs.height) ≡ None → is_stretched inputs (used_insets (item.style.inset) inputs) ≡ false → (child_inputs item inputs).height ≡ None
none_handed item inputs none loose =
    handed item inputs
    ∙ ap (λ b. cond b (Some ((computed item inputs 0).height)) None) (ap (λ given. is_some given || is_stretched inputs (used_insets (item.style.inset) inputs)) none ∙ loose)
