-- Intersection observers through an answer.
use Rattle.std.proofs.Common.{◌≡◌, ℕ, ◌<◌, Result, Ok, Err, OnOk, OnErr, sym, subst}
use Rattle.intersection_observer.specs.Watchers.{HeldWatchers, once_observed}
use Rattle.intersection_update.specs.Watching.{AreWatchers}
use Rattle.intersection_update.proofs.Watching.{kept_observed}

pub observed_so : {T E : Type 0} (result : Result T E) (elements watcher n : ℕ) (old new : HeldWatchers) → OnOk result (new ≡ record old { part = once_observed watcher n (old.part) }) → OnErr result (new ≡ old)
    → n < elements → AreWatchers elements old.part.made → AreWatchers elements new.part.made
observed_so (Ok value) elements watcher n old new done same there are = subst (λ (it : HeldWatchers). AreWatchers elements it.part.made) (sym done) (kept_observed elements watcher n old.part there are)
observed_so (Err fault) elements watcher n old new done same there are = subst (λ (it : HeldWatchers). AreWatchers elements it.part.made) (sym same) are
