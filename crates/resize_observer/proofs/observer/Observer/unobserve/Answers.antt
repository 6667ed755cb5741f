use Rattle.std.proofs.Common.{◌∙◌, ap, sym, arith}
use Rattle.page_model.specs.World.{ResizeObserver}
use Rattle.page_model.specs.ResizeObserving.{without_observed}
use Rattle.resize_observer.specs.Observations.{seen_observations}
use Rattle.resize_observer.proofs.Kept.{kept-unobserved, absent_same}
use Rattle.resize_observer.proofs.observer.Observer.unobserve.Goals as goal

pub invariant_of-self : goal.invariant_of-self
invariant_of-self c =
    kept-unobserved c.args.target.0 c.remove_target.new.observations.items c.remove.new.self c.self.invariant c.remove_target.ensures.items c.remove.ensures.updates.0
    (omega (arith, c.remove_target.ensures.bound, c.remove_target.new.observations.ok.0, c.self.inside.targets.ok.0))
    (c.remove_target.ensures.sizes c.self.invariant.sizes)

pub returns-else-remove : goal.returns-else-remove
returns-else-remove c =
    ap (λ targets. record { document = c.self.inside.document.0; handler = c.self.inside.handler; targets = targets; active = seen_observations c.self.inside.active.items; skipped = seen_observations c.self.inside.skipped.items })
    (sym (absent_same c.args.target.0 (seen_observations c.self.inside.targets.items) (sym (c.self.invariant.elements c.args.target.0) ∙ sym c.remove.ensures.test ∙ c.if-remove.false)))
    ∙ ap (λ (it : ResizeObserver). record it { targets = without_observed c.args.target.0 it.targets }) c.self.view_is
