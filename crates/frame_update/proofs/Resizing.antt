-- The resize steps of a document.
use Rattle.std.proofs.Common.{◌≡◌, ℕ, ◌<◌, true, false, List, length, ap, sym, ◌∙◌, subst}
use Rattle.text_io.specs.declared.kinds.EventKind.TheVariants as events
use Rattle.script_model.specs.TraceLines.{FiredResize}
use Rattle.page_model.specs.World.{World, WindowTarget}
use Rattle.page_model.specs.Callbacks.{Script, fire}
use Rattle.page_model.specs.Documents.{is_active}
use Rattle.page_model.specs.Names.{document_text}
use Rattle.page_model.specs.PageBoxes.{viewport_of}
use Rattle.page_model.specs.Runs.{Said, silent}
use Rattle.page_model.specs.Ticks.{resize_steps}
use Rattle.page_model.specs.Viewports.{differs_from, noted_size, with_noted}
use Rattle.page_laws.proofs.Changes.{active-in}
use Rattle.trace_runs.proofs.Runs.{only_if_true, only_if_false}

-- the world once the size of a document's viewport is noted
abbrev once_noted : ℕ → World → World
once_noted document world = record world { viewports = with_noted document (viewport_of (world.tree) (world.viewports.screen) document) (world.viewports) }

module _ (document : ℕ) (world now : World) (noted : now ≡ once_noted document world) where
  module _ (script : Script) where
    abbrev resized : List ℕ → World → Said World
    resized name state = fire script (FiredResize name) (WindowTarget document) events.Resize state

    -- it is the size noted before
    pub noted_again : false ≡ differs_from (viewport_of (world.tree) (world.viewports.screen) document) (noted_size document (world.viewports)) → silent now ≡ resize_steps script document world
    unfolding resize_steps
    noted_again same = ap (λ (state : World). silent state) noted ∙ sym (only_if_false (resized (document_text (world.names) document)) (once_noted document world) (sym same))

    -- it is another one
    pub noted_anew : (name : List ℕ) → name ≡ document_text now.names document →
        true ≡ differs_from (viewport_of (world.tree) (world.viewports.screen) document) (noted_size document (world.viewports)) → resized name now ≡ resize_steps script document world
    unfolding resize_steps
    noted_anew name named differs =
        ap (λ it. resized it now) named
        ∙ ap (λ (state : World). resized (document_text (state.names) document) state) noted
        ∙ sym (only_if_true (resized (document_text (world.names) document)) (once_noted document world) (sym differs))

  module _ (active : is_active (world.tree) document ≡ true) where
    pub noted_there : document < length now.tree.documents
    noted_there = subst (λ (state : World). document < length state.tree.documents) (sym noted) (active-in (world.tree) document active)
