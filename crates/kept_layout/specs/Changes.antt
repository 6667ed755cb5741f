-- Changes of a tree.
use Rattle.std.specs.Prelude.{◌≡◌, ℕ, Bool, true, false}
use Rattle.layout_model.specs.Nodes.{Node, is_in_flow}
use Rattle.layout_model.specs.Boxes.{kids_of}
use Rattle.element_tree.specs.Forest.{has}

-- all of a node that its box is computed from is the same: its style and kind, its children, and which of these are displayed and
-- in flow
pub record IsLike (old new : ℕ → Node) (n : ℕ) : Type 0 where
  pub item : (new n).item ≡ (old n).item
  pub children : (new n).children ≡ (old n).children
  pub shown : (c : ℕ) → has (kids_of (old n)) c ≡ true → (new c).item.style.hidden ≡ (old c).item.style.hidden
  pub flow : (c : ℕ) → has (kids_of (old n)) c ≡ true → is_in_flow (new c) ≡ is_in_flow (old c)

-- all nodes except these are as they were
abbrev pub ChangesOnly : (ℕ → Bool) → (ℕ → Node) → (ℕ → Node) → Type 0
ChangesOnly changed old new = (n : ℕ) → changed n ≡ false → IsLike old new n
