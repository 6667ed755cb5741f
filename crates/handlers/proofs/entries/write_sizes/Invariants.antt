use Rattle.std.proofs.Common.{drop, map}
use Rattle.page_model.specs.Callbacks.{resize_line}
use Rattle.page_model.specs.Runs.{say}
use Rattle.depth_gather.specs.Entries.{seen_entry}
use Rattle.trace_runs.proofs.Following.{Following}
use Rattle.handlers.proofs.entries.write_sizes.Given as goal

-- the lines up to here were written, and those from here on follow
abbrev pub invariant-loop-entry : goal.invariant-loop-entry
invariant-loop-entry g l =
    Following (g.K.Sink.taken l.fn.sink) (g.K.Sink.taken l.sink) (g.K.Sink.faults l.fn.sink) (g.K.Sink.faults l.sink)
    (say (map (resize_line l.page.world.version l.page.world.names l.observer.0) (map seen_entry l.entries)) (tt {0}))
    (say (map (λ entry. resize_line l.page.world.version l.page.world.names l.observer.0 (seen_entry entry)) (drop l.entry-index l.entries)) (tt {0}))
