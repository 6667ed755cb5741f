use Rattle.std.proofs.Common.{◌≡◌, length}
use Rattle.kept_findings.specs.Registered.{AreRegistered}
use Rattle.kept_findings.specs.Rooms.{HaveRoom}
use Rattle.intersection_update.specs.Updating.{AreKept}
use Rattle.intersection_update.specs.Keeping.{HaveChains, KeepsComputed, HaveLooked}
use Rattle.intersection_update.proofs.Current.{AreCurrent}
use Rattle.intersection_update.proofs.Observers.{Looks, Leaves}
use Rattle.intersection_update.proofs.Totals.{Totals}
use Rattle.intersection_update.proofs.Updates.{first_observers, first_told}
use Rattle.intersection_update.proofs.settling.update.Given as goal

abbrev pub invariant-loop-number : goal.invariant-loop-number
invariant-loop-number g l = record {
  settled : l.watchers.part.made ≡ first_observers l.shown l.scroll_margins l.shown.tree l.document.0 l.time l.fn.watchers l.number;
  queued : l.queued ≡ first_told l.shown l.scroll_margins l.shown.tree l.document.0 l.time l.fn.watchers l.number;
  kept : AreKept (length l.shown.tree.elements) l.fn.watchers l.watchers;
  registered : AreRegistered l.watchers.part l.scroll_margins l.findings;
  room : HaveRoom (length l.shown.tree.elements) (length l.shown.tree.documents) l.findings;
  known : HaveLooked l.shown l.findings.seen l.looks;
  looks : Looks l.shown l.document.0 l.fn.watchers.part l.number l.fn.findings l.findings;
  leaves : (chained : HaveChains l.shown) → Leaves l.shown l.scroll_margins chained l.document.0 l.fn.watchers.part l.number l.fn.findings.kept l.findings.kept;
  totals : (chained : HaveChains l.shown) → Totals l.shown l.scroll_margins chained l.document.0 l.fn.watchers.part l.number l.fn.findings l.findings l.fn.steps l.steps;
  current : (chained : HaveChains l.shown) → AreCurrent l.shown chained l.fn.watchers.part l.document.0 l.number l.findings;
  computed : KeepsComputed l.fn.findings.clips l.findings.clips;
  end : l.number-end ≡ length l.fn.watchers.part.made;
}
