use Rattle.std.proofs.Common.{◌∙◌, ap, sym, refl, ◌<◌, length, arith}
use Rattle.page_model.specs.World.{IntersectionObserver, IntersectionObservers}
use Rattle.page_model.specs.IntersectionObserving.{is_registered, without_registrations}
use Rattle.intersection_observer.specs.Watchers.{HeldWatchers}
use Rattle.intersection_observer.proofs.Changing.{read, cleared_after, cleared_none, once_shorter}
use Rattle.intersection_observer.proofs.watchers.Watchers.disconnect.Goals as goal

pub loop-target-smaller : goal.loop-target-smaller
loop-target-smaller c =
    let there : c.args.watcher.0 < length c.loop-target.self.part.made = omega (arith, c.requires, c.loop-target.invariant.count) in
    once_shorter c.in-Some.target.0 c.args.watcher.0 c.loop-target.self c.unobserve.new.self c.unobserve.ensures.unobserved there
    (ap (λ (it : IntersectionObserver). is_registered c.in-Some.target.0 it.registrations) (sym (read c.self.view_is there c.index.ensures)) ∙ c.in-Some.ensures.some)

pub loop-target-preserved : goal.loop-target-preserved
loop-target-preserved c = record {
  rest =
      ap (λ (it : HeldWatchers). record it { part = without_registrations c.args.watcher.0 (it.part) }) c.unobserve.ensures.unobserved
      ∙ ap (λ (part : IntersectionObservers). record (c.loop-target.self) { part = part }) (cleared_after c.args.watcher.0 c.in-Some.target.0 c.loop-target.self.part)
      ∙ c.loop-target.invariant.rest;
  count = c.unobserve.ensures.count ∙ c.loop-target.invariant.count;
}

pub returns-clause-disconnected : goal.returns-clause-disconnected
returns-clause-disconnected c =
    let there : c.args.watcher.0 < length c.loop-target.self.part.made = omega (arith, c.requires, c.loop-target.invariant.count) in
    cleared_none c.args.watcher.0 c.loop-target.self
    (ap (λ (it : IntersectionObserver). it.registrations) (sym (read c.self.view_is there c.index.ensures)) ∙ c.in_default.ensures.none refl)
    ∙ c.loop-target.invariant.rest
