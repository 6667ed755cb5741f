-- The trees at each step of an insertion.
use Rattle.std.specs.Prelude.{◌≡◌, ℕ, Option}
use Rattle.page_model.specs.World.{Tree, Container}
use Rattle.page_model.specs.Documents.{removed, sibling_meant, linked, document_of_container, adopted, shown}
use Rattle.document_laws.specs.Levels.{MakeLowTrees, IsWithinLevels}

-- the element is in its new place
abbrev pub placed_in : Tree → Container → ℕ → Option ℕ → Tree
placed_in tree container n sibling = linked (removed tree n) container n (sibling_meant tree container n sibling)

-- and the element and its descendants have the node document of that place
abbrev pub owned_in : Tree → Container → ℕ → Option ℕ → Tree
owned_in tree container n sibling = adopted (placed_in tree container n sibling) (document_of_container tree container) n

-- an insertion that stays within the limit on depth at each step, of which `shown` is the last
pub record IsLowThroughout (tree after : Tree) (container : Container) (n : ℕ) (sibling : Option ℕ) : Type 0 where
  pub apart : IsWithinLevels (removed tree n)
  pub placed : MakeLowTrees (placed_in tree container n sibling)
  pub owned : MakeLowTrees (owned_in tree container n sibling)
  pub ends : after ≡ shown (owned_in tree container n sibling) n
  pub last : IsWithinLevels after
