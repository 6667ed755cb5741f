-- A further script on a page.
use Rattle.std.proofs.Common.{◌≡◌, List, ap, length, sym}
use Rattle.script_model.specs.Scripts.{NamedBlock, handlers_in}
use Rattle.script_model.specs.Syntax.{Item}
use Rattle.page_model.specs.Outcome.{run_item, run_items}
use Rattle.page_model.specs.Runs.{for_each}
use Rattle.page_model.specs.World.{World}
use Rattle.live_page.specs.Lives.{handlers_after}
use Rattle.live_page.proofs.Naming.{after_some}

-- what the items of a script with handlers say
pub further_said : (items : List Item) (known : List NamedBlock) (world : World) → (length (handlers_in items) ≡ 0 → ⊥)
    → run_items items world ≡ for_each (run_item (handlers_after known (handlers_in items))) items world
unfolding run_items
further_said items known world some = ap (λ (handlers : List NamedBlock). for_each (run_item handlers) items world) (sym (after_some known (handlers_in items) some))
