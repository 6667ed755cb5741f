-- What was delivered can be passed to a handler.
use Rattle.std.proofs.Common.{◌≡◌, refl}
use Rattle.std.specs.Prelude.{ℕ, ◌<◌, List, Some, length, map}
use Rattle.std.specs.List.{AllByRecursion}
use Rattle.page_model.specs.World.{World, Entry}
use Rattle.page_model.specs.Callbacks.{SizeEntries, CutEntries}
use Rattle.page_model.specs.Gathering.{sight_of}
use Rattle.page_laws.specs.Ready.{IsReadyFor}
use Rattle.page_laws.proofs.Ready.{range-of}
use Rattle.depth_gather.specs.Deliveries.{turn_of, active_at, entries_in}
use Rattle.depth_gather.specs.Entries.{seen_entry, HasLengths}
use Rattle.depth_gather.specs.declared.deliveries.Delivery.{Delivery}
use Rattle.intersection_update.specs.Watching.{AreWritten}
use Rattle.page_state.specs.Rounds.{next_turn, once_reported}
use Rattle.handlers.specs.Entries.{AreHanded}
use Rattle.frame_update.proofs.Broadcasts.{handed_entries, handed_made, IsHandedOut}
use Rattle.frame_update.proofs.Delivered.{are_handed}
use Rattle.frame_update.proofs.Notifying.{once_taken, records_handed}

pub delivery_handed : (handlers document place : ℕ) (old : World) (it : Delivery) → IsReadyFor handlers old → Some (turn_of it) ≡ next_turn document place old
    → it.entries ≡ entries_in (sight_of old) (active_at (old.resize_observers) (it.observer.0)) → it.observer.0 < length old.resize_observers.made → 0 < length it.entries
    → AllByRecursion HasLengths it.entries → AreHanded (once_reported (next_turn document place old) old) (SizeEntries (it.observer.0) (map seen_entry it.entries))
delivery_handed handlers document place old it ready turn entries made some lengths =
    let new : World = once_reported (next_turn document place old) old in
    let handed : IsHandedOut document place old new it = record { turn = turn; entries = entries; new_is = refl; made = made; some = some } in
    are_handed new (it.observer.0) (it.entries) (handed_made document place old new it handed) (handed_entries document place old new it handed handlers (range-of handlers old ready)) lengths

pub queue_handed : (old : World) (observer : ℕ) (entries : List Entry) → observer < length old.intersection_observers.made → AreWritten (length old.tree.elements) entries
    → AreHanded (once_taken observer old) (CutEntries observer entries)
queue_handed old observer entries made written = records_handed observer old (once_taken observer old) refl entries made written
