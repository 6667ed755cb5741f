-- A page as the kept findings of intersection observers need it: the relation of targets to roots, the coordinates of findings,
-- and which spots exist.
use Rattle.std.specs.Prelude.{ℕ, ◌<◌, ◌≤◌, length}
use Rattle.page_model.specs.World.{Tree, Root, Finding}
use Rattle.page_model.specs.Lookups.{no_intersection_observer}
use Rattle.page_model.specs.Documents.{element_depth}
use Rattle.page_model.specs.Shown.{Shown}
use Rattle.page_model.specs.Findings.{relation}
use Rattle.page_documents.specs.Frames.{AreFramed}
use Rattle.element_tree.specs.declared.container.Container.{Container}
use Rattle.element_tree.specs.declared.container.Container.TheVariants.{Element, Document}
use Rattle.candidate_index.specs.declared.scene.Standing.{Standing}
use Rattle.candidate_index.specs.Worlds.{standing_in, told}

-- what holds for the elements and documents of every page
pub record IsPageTree (tree : Tree) : Type 0 where
  pub framed : AreFramed tree
  pub few : length tree.documents ≤ 64
  pub deep : (n : ℕ) → element_depth tree n ≤ 256

-- the spot of an element or a document that exists
abbrev pub IsThere : Tree → Container → Type 0
IsThere tree (Element node) = node.0 < length tree.elements
IsThere tree (Document document) = document.0 < length tree.documents

abbrev pub standings_of : Shown → Root → ℕ → Standing
standings_of shown root target = standing_in (relation shown root target)

-- a finding in the coordinates of a world's findings, for which nothing of the observer but its root matters
abbrev pub telling_of : Shown → Root → ℕ → Finding → Finding
telling_of shown root target found = told shown (record no_intersection_observer { root = root }) target (relation shown root target) found
