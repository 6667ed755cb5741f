-- How the boxes are kept when elements and documents are created.
use Rattle.std.specs.Prelude.{◌≡◌, ◌<◌, ℕ, length, IfSome}
use Rattle.std.specs.List.{AllByRecursion}
use Rattle.page_model.specs.World.{Screen, Tree}
use Rattle.page_model.specs.Lookups.{element_at, document_at}
use Rattle.page_model.specs.PageBoxes.{inputs_of, box_of}

-- each parent, child, frame and root element of a tree is one of its elements
pub record NamesMade (tree : Tree) : Type 0 where
  pub parents : (n : ℕ) → IfSome (element_at tree n).parent (λ parent. parent < length tree.elements)
  pub children : (n : ℕ) → AllByRecursion (λ child. child < length tree.elements) (element_at tree n).children
  pub frames : (document : ℕ) → IfSome (document_at tree document).frame (λ frame. frame < length tree.elements)
  pub roots : (document : ℕ) → IfSome (document_at tree document).root (λ root. root < length tree.elements)

-- in both trees the same elements have a box, on any screen, from the same inputs, and the boxes are the same
pub record KeepsBoxes (tree after : Tree) : Type 0 where
  pub inputs : (screen : Screen) (n : ℕ) → inputs_of after screen n ≡ inputs_of tree screen n
  pub boxes : (screen : Screen) (n : ℕ) → box_of after screen n ≡ box_of tree screen n
