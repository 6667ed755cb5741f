-- Adoption in a tree of nodes (DOM, 4.5: adopt).
use Rattle.std.specs.Prelude.{ℕ, []}
use Rattle.element_tree.specs.Forest.{Knot, Forest}
use Rattle.element_tree.specs.Edits.{with_nodes}
use Rattle.page_model.specs.Lookups.{change_each}
use Rattle.page_model.specs.Documents.{inclusive_descendants}
use Rattle.page_documents.specs.Seen.{Carried, seen_tree}

module _ {P : Type 0} where
  -- a node whose payload is changed by adoption into a document
  abbrev pub adopting : (ℕ → P → P) → ℕ → Knot P → Knot P
  adopting adopted document knot = record knot { payload = adopted document (knot.payload) }

  -- the tree after a node and its descendants were adopted into a document
  abbrev pub adopted_in : (P → Carried) → (ℕ → P → P) → ℕ → ℕ → Forest P → Forest P
  adopted_in carried adopted document n forest =
      with_nodes (change_each (adopting adopted document) (inclusive_descendants (seen_tree carried forest []) n)) forest
