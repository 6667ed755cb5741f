use Rattle.std.proofs.Common.{◌≡◌, ◌++◌, filter, map}
use Rattle.event_tables.specs.Seen.{seen_target, seen_listener, seen_copy}
use Rattle.page_model.specs.Listeners.{hears}
use Rattle.event_tables.proofs.listeners.copies.Given as goal

abbrev pub invariant-loop-serial : goal.invariant-loop-serial
invariant-loop-serial l =
    map seen_copy l.left.items ++ filter (hears (seen_target l.target) l.kind) (map seen_listener l.serial-iterator)
    ≡ filter (hears (seen_target l.target) l.kind) (map seen_listener l.held.entries)
