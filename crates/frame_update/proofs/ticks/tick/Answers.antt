use Rattle.std.specs.Prelude.{length}
use Rattle.script_model.specs.Syntax.{Tick}
use Rattle.script_model.specs.Scripts.{handlers_in}
use Rattle.page_model.specs.Commands.{begun_in}
use Rattle.page_model.specs.Ticks.{tick, time_set}
use Rattle.trace_runs.proofs.Runs.{run_same}
use Rattle.frame_update.proofs.Ticking.{begun_is, begun_run, caught_run, clock_is, refused_run, timed_is, unbegun_is}
use Rattle.frame_update.proofs.Ready.{prepared, readied_first}
use Rattle.frame_update.proofs.ticks.tick.Goals as goal

pub returns-in-Err-clause-says : goal.returns-in-Err-clause-says
returns-in-Err-clause-says g c =
    run_same (unbegun_is (handlers_in c.args.run.now.script.now.items) c.args.line c.args.time c.args.run.now.page.now.world)
    (refused_run c.in-Err.fault c.args.line c.refuse.result _ _ _ _ c.args.run.now.page.now.world c.begin_command.new.self.world (begun_in c.args.run.now.page.now.world)
    (begun_run (handlers_in c.args.run.now.script.now.items) c.args.line c.args.time c.args.run.now.page.now.world) c.version.ensures c.in-Err.ensures.counted c.refuse.ensures)

pub returns-in-Err-clause-ready : goal.returns-in-Err-clause-ready
returns-in-Err-clause-ready g c =
    c.begin_command.ensures.ready (length (handlers_in c.args.run.now.script.now.items)) c.requires.ready

pub returns-in-Err-set_time-clause-says : goal.returns-in-Err-set_time-clause-says
returns-in-Err-set_time-clause-says g c =
    run_same (begun_is (handlers_in c.args.run.now.script.now.items) c.args.line c.args.time c.args.run.now.page.now.world c.begin_command.new.self.world c.in_default.ensures.counted)
    (refused_run c.in-Err-set_time.fault c.args.line c.refuse-in-Err-set_time.result _ _ _ _ c.begin_command.new.self.world c.set_time.new.self.world
    (time_set c.args.time c.begin_command.new.self.world) (tick (handlers_in c.args.run.now.script.now.items)) c.version-in-Err-set_time.ensures c.in-Err-set_time.ensures.set c.refuse-in-Err-set_time.ensures)

pub returns-in-Err-set_time-clause-ready : goal.returns-in-Err-set_time-clause-ready
returns-in-Err-set_time-clause-ready g c =
    let handlers = length (handlers_in c.args.run.now.script.now.items) in
    c.set_time.ensures.ready handlers (c.begin_command.ensures.ready handlers c.requires.ready)

pub run_parts-requires-clause-ready : goal.run_parts-requires-clause-ready
run_parts-requires-clause-ready g c =
    let handlers = length (handlers_in c.args.run.now.script.now.items) in
    prepared c.args.run.now.script.now.items c.set_time.new.self.world (c.set_time.ensures.ready handlers (c.begin_command.ensures.ready handlers c.requires.ready))

pub run_parts-requires-clause-time : goal.run_parts-requires-clause-time
run_parts-requires-clause-time g c = clock_is c.args.time c.begin_command.new.self.world c.set_time.new.self.world c.in_default-set_time.ensures.set

pub returns-clause-says : goal.returns-clause-says
returns-clause-says g c =
    run_same
    (timed_is (handlers_in c.args.run.now.script.now.items) c.args.line c.args.time c.args.run.now.page.now.world c.begin_command.new.self.world c.in_default.ensures.counted c.set_time.new.self.world
    c.in_default-set_time.ensures.set)
    (caught_run c.run_parts.result c.run_parts.ensures.says)

pub returns-clause-ready : goal.returns-clause-ready
returns-clause-ready g c = readied_first c.run_parts.ensures.script c.run_parts.ensures.ready

pub returns-in-Err-clause-loops : goal.returns-in-Err-clause-loops
returns-in-Err-clause-loops g c =
    c.listed_loops_are_exact.ensures.items (handlers_in c.args.run.now.script.now.items) (Tick c.args.line c.args.time) c.args.run.now.page.now.world (prepared c.args.run.now.script.now.items c.args.run.now.page.now.world c.requires.ready).limits

pub returns-in-Err-set_time-clause-loops : goal.returns-in-Err-set_time-clause-loops
returns-in-Err-set_time-clause-loops g c =
    c.listed_loops_are_exact.ensures.items (handlers_in c.args.run.now.script.now.items) (Tick c.args.line c.args.time) c.args.run.now.page.now.world (prepared c.args.run.now.script.now.items c.args.run.now.page.now.world c.requires.ready).limits

pub returns-clause-loops : goal.returns-clause-loops
returns-clause-loops g c =
    c.listed_loops_are_exact.ensures.items (handlers_in c.args.run.now.script.now.items) (Tick c.args.line c.args.time) c.args.run.now.page.now.world (prepared c.args.run.now.script.now.items c.args.run.now.page.now.world c.requires.ready).limits

pub returns-clause-held : goal.returns-clause-held
returns-clause-held g c = record { script = c.run_parts.ensures.script; lent = c.run_parts.ensures.lent }
