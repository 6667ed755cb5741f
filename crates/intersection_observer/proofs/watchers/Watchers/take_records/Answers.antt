use Rattle.std.proofs.Common.{◌∙◌, ap, []}
use Rattle.page_model.specs.World.{IntersectionObserver}
use Rattle.intersection_observer.proofs.Subjects.{subjects_of}
use Rattle.intersection_observer.proofs.Counts.{held-kept}
use Rattle.intersection_observer.proofs.Changing.{within, read, once_changed}
use Rattle.intersection_observer.proofs.watchers.Watchers.take_records.Goals as goal

pub invariant_of-self : goal.invariant_of-self
invariant_of-self c =
    held-kept c.self.inside.most_watchers c.self.inside.most_registrations c.self.inside.places c.self.inside.given (c.self.inside.made.items) c.args.watcher.0 c.index_mut.result.now c.take_records.new.self
    (within c.self.view_is c.requires) c.index_mut.ensures.value (ap (λ (it : IntersectionObserver). subjects_of it.registrations) c.take_records.ensures.emptied) c.self.invariant

pub returns-clause-taken : goal.returns-clause-taken
returns-clause-taken c = c.take_records.ensures.taken ∙ ap (λ (it : IntersectionObserver). it.queue) (read c.self.view_is c.requires c.index_mut.ensures.value)

pub returns-clause-emptied : goal.returns-clause-emptied
returns-clause-emptied c = once_changed (λ (it : IntersectionObserver). record it { queue = [] }) c.self.view_is c.requires c.index_mut.ensures.value c.take_records.ensures.emptied
