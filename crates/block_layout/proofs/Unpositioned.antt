-- Where no element is positioned each is in flow, and only what isn't displayed is passed over.
use Rattle.std.proofs.Common.{◌≡◌, ℕ, Some, Bool, true, false, refl, ap, ◌∙◌}
use Rattle.std.specs.Prelude.{not, ◌||◌, Contains}
use Rattle.layout_model.specs.Nodes.{Node, is_positioned, IsLinked, IsShallow}
use Rattle.layout_model.specs.Boxes.{is_passed}
use Rattle.layout_model.proofs.Ancestors.{in_self, above_in, in_path_of_parent}
use Rattle.layout_model.proofs.Unpositioned.{in_flow_unpositioned}
use Rattle.block_layout.specs.Filling.{IsUnpositioned}

or_false : (b : Bool) → (b || false) ≡ b
or_false true = refl
or_false false = refl

pub passed_is : (at : ℕ → Node) (n : ℕ) → is_positioned (at n) ≡ false → is_passed (at n) ≡ (at n).item.style.hidden
passed_is at n still = ap (λ flow. (at n).item.style.hidden || not flow) (in_flow_unpositioned at n still) ∙ or_false ((at n).item.style.hidden)

module _ (at : ℕ → Node) (linked : IsLinked at) (shallow : IsShallow at) (n : ℕ) (still : IsUnpositioned at n) where
  pub child_still : (c : ℕ) → Contains ((at n).children) c → is_positioned (at c) ≡ false
  child_still c among = still c (above_in at shallow n c n (linked n c among) (in_self at n))

  pub below_still : (c : ℕ) → (at c).parent ≡ Some n → IsUnpositioned at c
  below_still c up m inside = still m (in_path_of_parent at shallow n c m up inside)
