-- The parts of an update, each over the documents.
use Rattle.std.proofs.Common.{◌≡◌, ℕ, true, false, List, [], ◌∷◌, ap, sym}
use Rattle.element_tree.specs.declared.document.DocumentId.{DocumentId}
use Rattle.element_tree.specs.Documents.{document_number, document_numbers}
use Rattle.page_model.specs.Callbacks.{Script, while_active}
use Rattle.page_model.specs.Documents.{active_documents, is_active}
use Rattle.page_model.specs.Runs.{Said, for_each, only_if, silent}
use Rattle.page_model.specs.Ticks.{update_rendering}
use Rattle.page_model.specs.World.{World}
use Rattle.trace_runs.proofs.Loops.{each_mapped}
use Rattle.frame_update.specs.Parts.{part_of}
use Rattle.frame_update.specs.declared.update.Part.{Part}
use Rattle.frame_update.specs.declared.update.Part.TheVariants.{Resizes, Scrolls, Media, Frames, ResizeLoop, Intersections}

-- a part over documents, each while it is Active
abbrev pub over : Script → List ℕ → Part → World → Said World
over script documents part = for_each (λ (document : ℕ). while_active document (part_of script part document)) documents

abbrev pub all_parts : List Part
all_parts = Resizes ∷ Scrolls ∷ Media ∷ Frames ∷ ResizeLoop ∷ Intersections ∷ []

-- the same over documents by their names
abbrev pub over_each : Script → List DocumentId → Part → World → Said World
over_each script documents part = for_each (λ (document : DocumentId). while_active document.0 (part_of script part document.0)) documents

pub over_same : (script : Script) (documents : List DocumentId) (part : Part) (world : World) → over_each script documents part world ≡ over script (document_numbers documents) part world
over_same script documents part world = each_mapped (λ (document : ℕ). while_active document (part_of script part document)) document_number documents world

-- an update is all the parts
pub update_all : (script : Script) (world : World) → update_rendering script world ≡ for_each (over script (active_documents (world.tree))) all_parts world
unfolding update_rendering
update_all script world =
    sym (each_mapped (λ (run : ℕ → World → Said World). for_each (λ (document : ℕ). while_active document (run document)) (active_documents (world.tree))) (part_of script) all_parts world)

module _ (document : ℕ) (run : World → Said World) (world : World) where
  pub while_active_runs : is_active (world.tree) document ≡ true → while_active document run world ≡ run world
  while_active_runs is = ap (only_if run world) is

  pub while_active_rests : is_active (world.tree) document ≡ false → while_active document run world ≡ silent world
  while_active_rests is = ap (only_if run world) is
