-- The page of a run is ready for further items.
use Rattle.std.proofs.Common.{◌≡◌, refl, subst, sym, length, Option, Some, None}
use Rattle.std.specs.Prelude.{Ok, Err, IfSome}
use Rattle.script_model.specs.Reading.{Reading}
use Rattle.script_model.specs.Scripts.{handlers_in}
use Rattle.script_model.specs.Syntax.{Script}
use Rattle.page_model.specs.Outcome.{opening_world, outcome_read, run_items}
use Rattle.page_model.specs.World.{World}
use Rattle.page_laws.proofs.Ready.{ready-of}
use Rattle.page_laws.proofs.RunsInRange.{items-in}
use Rattle.page_laws.proofs.Turns.{items-within}
use Rattle.page_state.specs.Views.{PageView}
use Rattle.frame_update.specs.Ready.{IsReady}
use Rattle.script_replay.specs.Ready.{IsReadyOf, IsReadyOfSome}

-- the world in which a run ends
ended_is : (script : Script) → (outcome_read (Ok script)).world ≡ (run_items (script.items) (opening_world (script.version))).state
unfolding outcome_read
ended_is script = refl

pub ready_ended : (script : Script) → IsReady script.items (outcome_read (Ok script)).world
ready_ended script =
    subst (λ (world : World). IsReady script.items world) (sym (ended_is script))
    (ready-of (length (handlers_in (script.items))) _ (items-in (script.items) (script.version)) (items-within (script.items) (script.version)))

-- by the world of the page that was handed out
pub ready_page : (script : Script) (page : Option PageView) → IfSome page (λ it. it.world ≡ (outcome_read (Ok script)).world) → IfSome page (λ it. IsReady script.items it.world)
ready_page script None is = tt
ready_page script (Some page) is = subst (λ (world : World). IsReady script.items world) (sym is) (ready_ended script)

pub ready_read : (read : Reading) (script : Script) (page : Option PageView) → read ≡ Ok script → IfSome page (λ it. IsReady script.items it.world)
    → IfSome page (λ it. IsReadyOf read it.world)
ready_read read script page is ready = subst (λ (read : Reading). IfSome page (λ it. IsReadyOf read it.world)) (sym is) ready

some-ready : (read : Reading) (world : World) → IsReadyOf read world → IsReadyOfSome world
some-ready (Ok script) world ready = (length (handlers_in (script.items)), ready)
some-ready (Err refusal) world ready = absurd ready

pub ready_some : (read : Reading) (page : Option PageView) → IfSome page (λ it. IsReadyOf read it.world) → IfSome page (λ it. IsReadyOfSome it.world)
ready_some read None ready = tt
ready_some read (Some page) ready = some-ready read (page.world) ready
