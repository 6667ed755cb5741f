use Rattle.std.proofs.Common.{ap, arith, refl, subst, sym}
use Rattle.std.proofs.lemmas.List.{get_or_default}
use Rattle.std.specs.Prelude.{Ok, Err}
use Rattle.depth_gather.specs.Entries.{seen_entry}
use Rattle.page_model.specs.Callbacks.{resize_line}
use Rattle.page_model.specs.Gathering.{SizeEntry}
use Rattle.page_model.specs.Operands.{ResizeEntry}
use Rattle.page_model.specs.Ranges.{IsPresentIn}
use Rattle.page_model.specs.Runs.{say}
use Rattle.trace_text.specs.Ranges.{HasReach}
use Rattle.trace_runs.proofs.Following.{begin, rest_same, go_on_said, end_unsaid, done, lines_more, lines_none}
use Rattle.trace_runs.proofs.Runs.{wrote_run}
use Rattle.handlers.proofs.Places.{at_mapped, map_both}
use Rattle.handlers.proofs.entries.write_sizes.Goals as goal

pub loop-entry-init : goal.loop-entry-init
loop-entry-init g c = rest_same (ap (λ lines. say lines (tt {0})) (map_both _ seen_entry c.args.entries.now)) begin

pub resize_line-line-requires-clause-target : goal.resize_line-line-requires-clause-target
resize_line-line-requires-clause-target g c =
    at_mapped (IsPresentIn c.args.page.now.world) (λ (entry : SizeEntry). ResizeEntry (entry.target)) seen_entry c.args.entries.now c.loop-entry.entry-index _ c.requires.targets
    (omega arith) (get_or_default c.args.entries.now c.loop-entry.entry-index _ _ (omega arith))

pub resize_line-line-requires-clause-reach : goal.resize_line-line-requires-clause-reach
resize_line-line-requires-clause-reach g c =
    at_mapped HasReach (resize_line c.args.page.now.world.version c.args.page.now.world.names c.args.observer.0) seen_entry c.args.entries.now c.loop-entry.entry-index _ c.requires.reach (omega arith)
    (get_or_default c.args.entries.now c.loop-entry.entry-index _ _ (omega arith))

pub write_one-requires : goal.write_one-requires
write_one-requires g c =
    subst HasReach (sym c.resize_line-line.ensures)
    (at_mapped HasReach (resize_line c.args.page.now.world.version c.args.page.now.world.names c.args.observer.0) seen_entry c.args.entries.now c.loop-entry.entry-index _ c.requires.reach (omega arith)
    (get_or_default c.args.entries.now c.loop-entry.entry-index _ _ (omega arith)))

pub returns-in-Err : goal.returns-in-Err
returns-in-Err g c =
    wrote_run {A = Unit {0}} {state = tt {0}} (Err c.in-Err.fault)
    (end_unsaid c.in-Err.fault _ _ _
    (rest_same
    (lines_more _ c.args.entries.now c.loop-entry.entry-index _ _ _ (omega arith) (get_or_default c.args.entries.now c.loop-entry.entry-index _ _ (omega arith)) c.resize_line-line.ensures)
    c.loop-entry.invariant)
    c.in-Err.ensures.told)

pub loop-entry-preserved : goal.loop-entry-preserved
loop-entry-preserved g c =
    go_on_said _ _ _
    (rest_same
    (lines_more _ c.args.entries.now c.loop-entry.entry-index _ _ _ (omega arith) (get_or_default c.args.entries.now c.loop-entry.entry-index _ _ (omega arith)) c.resize_line-line.ensures)
    c.loop-entry.invariant)
    c.in_default.ensures.told.0 c.in_default.ensures.told.1

pub returns : goal.returns
returns g c =
    wrote_run {A = Unit {0}} {state = tt {0}} (Ok (tt {0})) (done refl (rest_same (lines_none _ c.args.entries.now c.loop-entry.entry-index _ (omega arith)) c.loop-entry.invariant))
