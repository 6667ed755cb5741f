use Rattle.std.proofs.Common.{◌≡◌, ◌∙◌, ap, arith, length}
use Rattle.page_model.specs.World.{IntersectionObservers}
use Rattle.live_page.specs.Lives.{LiveView}
use Rattle.live_page.proofs.Lacking.{nothing_taken}
use Rattle.live_page.proofs.live.LivePage.take_records.Goals as goal

pub returns-clause-taken : goal.returns-clause-taken
returns-clause-taken c =
    let count : c.count.result ≡ length (c.args.self.now.page.world.intersection_observers.made) =
    c.count.ensures
    ∙ ap (λ (it : IntersectionObservers). length (it.made)) c.intersection_observers.ensures
    ∙ ap (λ (live : LiveView). length (live.page.world.intersection_observers.made)) c.self.view_is in
    nothing_taken c.args.self.now c.args.watcher.0 (omega (arith, count, c.if-watcher-count.false))
