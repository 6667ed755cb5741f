-- A page that is ready with the script that a run had is ready with the one that it has, which is the same.
use Rattle.std.proofs.Common.{◌≡◌, subst, sym}
use Rattle.std.specs.Borrow.{Bor}
use Rattle.script_model.specs.Syntax as syntax
use Rattle.page_model.specs.World.{World}
use Rattle.frame_update.specs.Ready.{IsReady}

pub ready_over : (world : World) {now first : Bor syntax.Script} → now ≡ first → IsReady now.now.items world → IsReady first.now.items world
ready_over world same ready = subst (λ (it : Bor syntax.Script). IsReady it.now.items world) same ready

pub ready_still : (world : World) {now first : Bor syntax.Script} → now ≡ first → IsReady first.now.items world → IsReady now.now.items world
ready_still world same ready = ready_over world (sym same) ready
