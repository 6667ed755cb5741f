-- All registrations of an observer are taken out.
use Rattle.std.proofs.Common.{◌≡◌, ◌∙◌, ◌<◌, ℕ, [], true, length, refl, sym, subst}
use Rattle.page_model.specs.IntersectionObserving.{is_registered}
use Rattle.page_model.specs.Lookups.{intersection_observer_at}
use Rattle.page_state.specs.Views.{PageView}
use Rattle.page_state.proofs.Disconnecting.{fewer_left, same_cleared, disconnected}
use Rattle.page_state.proofs.Findings.{keeps_then}
use Rattle.page_state.proofs.page.Page.unregister_all.Goals as goal

pub loop-target-smaller : goal.loop-target-smaller
loop-target-smaller c =
    let w = c.in_ok-watcher.watcher.0 in
    let there : w < length c.loop-target.self.world.intersection_observers.made = subst (λ (count : ℕ). w < count) (sym c.loop-target.invariant.count) c.in_ok-watcher.ensures.there in
    fewer_left w c.in-Some.target.0 c.loop-target.self c.forget_target.new.self c.forget_target.ensures.unobserved there
    (subst (λ (v : PageView). is_registered c.in-Some.target.0 (intersection_observer_at v.world.intersection_observers w).registrations ≡ true) c.self-in-loop-target.view_is c.in-Some.ensures.some)

pub loop-target-preserved : goal.loop-target-preserved
loop-target-preserved c = record {
  rest = same_cleared c.in_ok-watcher.watcher.0 c.in-Some.target.0 c.loop-target.self c.forget_target.new.self c.forget_target.ensures.unobserved c.args.self.now.found ∙ c.loop-target.invariant.rest;
  count = c.forget_target.ensures.count ∙ c.loop-target.invariant.count;
  findings = keeps_then _ _ _ _ _ _ c.loop-target.invariant.findings c.forget_target.ensures.findings c.forget_target.ensures.fewer;
}

pub returns-clause-done : goal.returns-clause-done
returns-clause-done c =
    disconnected c.args.self.now c.loop-target.self c.in_ok-watcher.watcher.0 c.args.observer c.in_ok-watcher.ensures.answer c.loop-target.invariant.rest
    (subst (λ (v : PageView). (intersection_observer_at v.world.intersection_observers c.in_ok-watcher.watcher.0).registrations ≡ []) c.self-in-loop-target.view_is (c.in_default.ensures.none refl))
