-- The view of the page's tree: the definitions' elements and documents (DOM, 4.2.1 and 4.5; HTML, 7.3), with what is kept beside
-- them.
use Rattle.std.specs.Prelude.{◌≡◌, ℕ, ◌≤◌, Bool, List, length, map}
use Rattle.text_io.specs.declared.kinds.LimitKind.TheVariants as limits
use Rattle.text_io.specs.declared.kinds.Version.{Version}
use Rattle.text_io.specs.Limits.{limit_number, common_limit}
use Rattle.element_tree.specs.Forest.{Knot, Forest}
use Rattle.page_model.specs.World.{Document, Tree}
use Rattle.page_documents.specs.Seen.{seen_tree}
use Rattle.page_documents.specs.Held.{HeldDocuments}
use Rattle.page_documents.specs.Frames.{AreFramed}
use Rattle.page_tree.specs.Items.{Described, carried_in}

-- the version of the script that the page is for, elements and documents, the name of each element, and whether room for one more
-- element was already made
pub record PageElements : Type 0 where
  pub version : Version
  pub tree : Tree
  pub names : List (List ℕ)
  pub ready : Bool

abbrev pub name_in : Knot Described → List ℕ
name_in knot = knot.payload.name

abbrev pub seen_with : Version → Forest Described → List Document → PageElements
seen_with version forest documents = record {
  version = version;
  tree = seen_tree carried_in forest documents;
  names = map name_in forest.nodes;
  ready = forest.ready;
}

abbrev pub seen_page : Version → Forest Described → HeldDocuments → PageElements
seen_page version forest documents = seen_with version forest (documents.held)

-- the tree and the documents have the limits of a page of this version, and documents and frames agree
pub record IsPage (version : Version) (forest : Forest Described) (documents : HeldDocuments) : Type 0 where
  pub most_nodes : forest.most_nodes ≡ limit_number version limits.Nodes
  pub counted : length forest.nodes ≤ limit_number version limits.Nodes
  pub most_depth : forest.most_depth ≡ common_limit limits.Depth
  pub most_documents : documents.most ≡ common_limit limits.Documents
  pub framed : AreFramed (seen_tree carried_in forest documents.held)
