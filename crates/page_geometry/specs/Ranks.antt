-- A bound on how far a chain can lead outwards from a spot: a document ranks higher than the one that holds its frame, and an
-- element higher than its parent.
use Rattle.std.specs.Prelude.{ℕ, zero, suc, ◌+◌, ◌*◌, cond, Option, Some, None}
use Rattle.text_io.specs.Limits.{common_limit}
use Rattle.text_io.specs.declared.kinds.LimitKind.TheVariants as limits
use Rattle.page_model.specs.World.{Screen, Tree}
use Rattle.page_model.specs.Lookups.{element_at, document_at}
use Rattle.page_model.specs.Documents.{element_depth}
use Rattle.page_model.specs.PageBoxes.{has_box}
use Rattle.element_tree.specs.declared.container.Container.{Container}
use Rattle.element_tree.specs.declared.container.Container.TheVariants.{Element, Document}

abbrev pub level_by : (ℕ → ℕ) → Tree → Option ℕ → ℕ
level_by above tree None = 0
level_by above tree (Some frame) = suc (above (element_at tree frame).document)

-- the number of frames that a document is nested in, counting at most a given number
unfoldable pub level_up : ℕ → Tree → ℕ → ℕ
level_up zero tree document = 0
level_up (suc high) tree document = level_by (level_up high tree) tree (document_at tree document).frame

abbrev pub level_of : Tree → ℕ → ℕ
level_of tree document = level_up (common_limit limits.Documents) tree document

-- each level of documents leaves room for all depths of elements
abbrev pub rank_of : Tree → Screen → Container → ℕ
rank_of tree screen (Document document) = 257 * level_of tree document.0
rank_of tree screen (Element node) =
    cond (has_box tree screen (node.0)) (257 * level_of tree (element_at tree (node.0)).document + element_depth tree (node.0)) 0
