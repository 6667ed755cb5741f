-- Firing an event, and where it bubbles.
use Rattle.std.proofs.Common.{◌≡◌, refl}
use Rattle.std.specs.Prelude.{◌∷◌, []}
use Rattle.text_io.specs.declared.kinds.EventKind.{EventKind}
use Rattle.element_tree.specs.declared.document.DocumentId.{DocumentId}
use Rattle.text_io.specs.declared.kinds.EventKind.TheVariants as events
use Rattle.script_model.specs.TraceLines.{FiredEvent, EventLine}
use Rattle.page_model.specs.Callbacks.{Script, invoke, bubble, fire}
use Rattle.page_model.specs.Runs.{silent, say, ◌followed_by◌}
use Rattle.page_model.specs.World.{World, EventTarget as ModelContainer}
use Rattle.event_tables.specs.Seen.{seen_target}
use Rattle.event_tables.specs.declared.events.EventTarget.{EventTarget}
use Rattle.event_tables.specs.declared.events.EventTarget.TheVariants as aims

-- another event, or another target than a document
module _ (script : Script) (event : EventKind) (world : World) where
  pub other_event : (target : EventTarget) → (event ≡ events.Scroll → ⊥) → bubble script (seen_target target) event world ≡ silent world
  other_event (aims.Node element) other = refl
  other_event (aims.Document document) other = by event other
    where
      by : (kind : EventKind) → (kind ≡ events.Scroll → ⊥) → bubble script (seen_target (aims.Document document)) kind world ≡ silent world
      by events.Resize not_scroll = refl
      by events.Scroll not_scroll = absurd (not_scroll refl)
      by events.Error not_scroll = refl
      by events.Change not_scroll = refl
  other_event (aims.Window document) other = refl
  other_event (aims.Query query) other = refl

  pub other_target : (target : EventTarget) → ((document : DocumentId) → target ≡ aims.Document document → ⊥) → bubble script (seen_target target) event world ≡ silent world
  other_target (aims.Node element) other = refl
  other_target (aims.Document document) other = absurd (other document refl)
  other_target (aims.Window document) other = refl
  other_target (aims.Query query) other = refl

-- its line, then the listeners at its target, and then where it bubbles
pub fire_is : (script : Script) (line : FiredEvent) (target : ModelContainer) (event : EventKind) (world : World) →
    (say (EventLine line ∷ []) world followed_by invoke script target event followed_by bubble script target event) ≡ fire script line target event world
unfolding fire
fire_is script line target event world = refl
