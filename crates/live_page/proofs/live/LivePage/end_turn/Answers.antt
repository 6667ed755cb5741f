use Rattle.std.proofs.Common.{◌≡◌, ◌∙◌, ap, arith, length}
use Rattle.page_model.specs.World.{ResizeObservers}
use Rattle.live_page.specs.Lives.{LiveView}
use Rattle.live_page.proofs.Lacking.{nothing_ended}
use Rattle.live_page.proofs.live.LivePage.end_turn.Goals as goal

pub returns-else-observer-count : goal.returns-else-observer-count
returns-else-observer-count c =
    let count : c.count.result ≡ length (c.args.self.now.page.world.resize_observers.made) =
    c.count.ensures
    ∙ ap (λ (it : ResizeObservers). length (it.made)) c.resize_observers.ensures
    ∙ ap (λ (live : LiveView). length (live.page.world.resize_observers.made)) c.self.view_is in
    nothing_ended c.args.self.now c.args.observer.0 (omega (arith, count, c.if-observer-count.false))
