use Rattle.std.proofs.Common.{Some, ◌≡◌, ◌+◌, ◌≤◌, ap, arith, length, refl, rules, ◌∙◌}
use Rattle.script_syntax.specs.Seen.{command_of, command_size, block_size, block_of}
use Rattle.trace_runs.proofs.Following.{begin, rest_same, go_on, end_thrown, end_cut, done}
use Rattle.trace_runs.proofs.Loops.{each_more, each_none}
use Rattle.trace_runs.proofs.Runs.{run_same, silent_run}
use Rattle.page_state.specs.Views.{PageView}
use Rattle.page_model.specs.Callbacks.{presents, run_block, run_command, Script}
use Rattle.script_model.specs.Scripts.{handlers_in}
use Rattle.handlers.specs.Entries.{entries_of, present_at}
use Rattle.trace_runs.proofs.Answered.{threw_run}
use Rattle.handlers.proofs.Answered.{apply_same, begun_is, found_same, held_is, unheld_is, unbegun_run}
use Rattle.script_syntax.proofs.Walked.{each_size, size_within, when_size}
use Rattle.handlers.proofs.Blocks.{action_allowed, block_more, block_same, block_none, command_begins, each_does, simple_does, test_allowed, when_does}
use Rattle.handlers.proofs.Growing.{in_after_begun, in_after_block, in_after_command}
use Rattle.handlers.proofs.Held.{held_first, held_on, over_first, ready_first}
use Rattle.handlers.proofs.Places.{present_is, subject_in}
use Rattle.handlers.proofs.commands.+blocks.Goals as goal

pub run_command-returns-in-Err-clause-says : goal.run_command-returns-in-Err-clause-says
run_command-returns-in-Err-clause-says g t c =
    let it = command_begins _ _ c.args.command.now.line c.args.command.now.what _ _ in
    run_same it.1 (unbegun_run c.in-Err.fault _ c.refuse.result _ _ _ _ _ _ it.0 c.version.ensures c.in-Err.ensures.counted c.refuse.ensures)

pub run_command-run_each-requires : goal.run_command-run_each-requires
run_command-run_each-requires g t c =
    let size : command_size (command_of c.args.command.now) ≡ block_size c.in-Each.body.commands + 1 =
    each_size c.args.command.now.line c.args.command.now.what c.in-Each.body c.in-Each.is in
    let targets = in_after_begun c.args.run.now.page.now.world _ _ c.in_default.ensures.counted c.requires.targets in
    λ lives within. (omega arith, search rules)

pub run_command-apply-requires : goal.run_command-apply-requires
run_command-apply-requires g t c =
    record {
      begun = c.in_default.ensures.begun;
      allowed = action_allowed c.args.command.now.what c.in-Act.action c.in-Act.is c.requires.allowed;
      subject = subject_in c.begin_command.new.self.world _ _ _ _ c.subject_at-present.ensures (in_after_begun c.args.run.now.page.now.world _ _ c.in_default.ensures.counted c.requires.targets);
    }

pub run_command-returns-in-Each-clause-says : goal.run_command-returns-in-Each-clause-says
run_command-returns-in-Each-clause-says g t c =
    run_same (begun_is _ _ _ _ c.in_default.ensures.counted ∙ each_does _ _ _ c.args.command.now.what _ _ c.in-Each.body c.in-Each.is) c.run_each.ensures.says

pub run_command-returns-in-When-clause-says : goal.run_command-returns-in-When-clause-says
run_command-returns-in-When-clause-says g t c =
    run_same (begun_is _ _ _ _ c.in_default.ensures.counted ∙ when_does _ _ _ c.args.command.now.what _ _ c.in-When.condition c.in-When.body c.in-When.is) c.run_when.ensures.says

pub run_command-returns-in-Act-clause-says : goal.run_command-returns-in-Act-clause-says
run_command-returns-in-Act-clause-says g t c =
    run_same
    (begun_is _ _ _ _ c.in_default.ensures.counted ∙ simple_does _ _ _ c.args.command.now.what _ _ c.in-Act.action c.in-Act.is)
    (apply_same _ _ _ _ c.subject_at-present.ensures c.apply.ensures.says)

pub run_each-loop-place-init : goal.run_each-loop-place-init
run_each-loop-place-init g t c = record { following = begin; targets = c.requires.targets; ready = λ before. before; held = held_first }

pub run_each-returns-in-Ok-Thrown-clause-says : goal.run_each-returns-in-Ok-Thrown-clause-says
run_each-returns-in-Ok-Thrown-clause-says g t c =
    end_thrown _ refl refl
    (rest_same (each_more _ _ c.loop-place.place _ _ (omega (arith, c.count-place-end.ensures)) (present_is _ c.loop-place.place (omega (arith, c.count-place-end.ensures)))) c.loop-place.invariant.following)
    (over_first (λ (script : Script). run_block script (presents (entries_of c.args.entries.now)) c.args.block.now (present_at (presents (entries_of c.args.entries.now)) (Some c.loop-place.place)) c.loop-place.run.page.now.world) c.loop-place.invariant.held.script
    (rw c.in-Ok-Thrown.field-0-is at c.in-Ok-Thrown.ensures.says))

pub run_each-loop-place-preserved : goal.run_each-loop-place-preserved
run_each-loop-place-preserved g t c =
    record {
      following =
          go_on _ refl
          (rest_same (each_more _ _ c.loop-place.place _ _ (omega (arith, c.count-place-end.ensures)) (present_is _ c.loop-place.place (omega (arith, c.count-place-end.ensures)))) c.loop-place.invariant.following)
          (over_first (λ (script : Script). run_block script (presents (entries_of c.args.entries.now)) c.args.block.now (present_at (presents (entries_of c.args.entries.now)) (Some c.loop-place.place)) c.loop-place.run.page.now.world) c.loop-place.invariant.held.script
          (rw c.in-Ok-Next.field-0-is at c.in-Ok-Next.ensures.says));
      targets = in_after_block c.runs_take_nothing_back.ensures.commands _ _ _ _ _ _ c.in-Ok-Next.ensures.says.ended.state_is c.loop-place.invariant.targets;
      ready = ready_first c.args.run.now.page.now.world c.loop-place.run.page.now.world c.run_block.new.run.page.now.world c.loop-place.invariant.held.script c.loop-place.invariant.ready c.in-Ok-Next.ensures.ready;
      held = held_on c.loop-place.invariant.held c.in-Ok-Next.ensures.held;
    }

pub run_each-returns-clause-says : goal.run_each-returns-clause-says
run_each-returns-clause-says g t c =
    done refl (rest_same (each_none _ _ c.loop-place.place _ (omega (arith, c.count-place-end.ensures))) c.loop-place.invariant.following)

pub run_when-returns-in-Ok-true-clause-says : goal.run_when-returns-in-Ok-true-clause-says
run_when-returns-in-Ok-true-clause-says g t c =
    run_same
    (held_is _ _ _ (run_block (handlers_in c.args.run.now.script.now.items) (presents (entries_of c.args.entries.now)) c.args.block.now (present_at (presents (entries_of c.args.entries.now)) c.args.subject)) _ (found_same _ _ c.subject_at-present.ensures (rw c.in-Ok-true.field-0-test at c.in-Ok-true.ensures.answer)) (ap (λ (page : PageView). page.world) c.in-Ok-true.ensures.same))
    c.run_block.ensures.says

pub run_when-returns-in-Ok-false-clause-says : goal.run_when-returns-in-Ok-false-clause-says
run_when-returns-in-Ok-false-clause-says g t c =
    run_same
    (unheld_is _ _ _ (run_block (handlers_in c.args.run.now.script.now.items) (presents (entries_of c.args.entries.now)) c.args.block.now (present_at (presents (entries_of c.args.entries.now)) c.args.subject)) _ (found_same _ _ c.subject_at-present.ensures (rw c.in-Ok-false.field-0-test at c.in-Ok-false.ensures.answer)) (ap (λ (page : PageView). page.world) c.in-Ok-false.ensures.same))
    (silent_run refl)

pub run_when-returns-in-Err-clause-says : goal.run_when-returns-in-Err-clause-says
run_when-returns-in-Err-clause-says g t c =
    threw_run _ _ _ (found_same _ _ c.subject_at-present.ensures c.in-Err.ensures.answer) (ap (λ (page : PageView). page.world) c.in-Err.ensures.same) (c.write_throw.ensures.runs _)

pub run_block-loop-command-init : goal.run_block-loop-command-init
run_block-loop-command-init g t c =
    record {
      following = rest_same (block_same _ _ _ _ c.as_slice-command-items.ensures.value) begin;
      targets = c.requires.targets;
      ready = λ before. before;
      held = held_first;
    }

pub run_block-run_command-requires : goal.run_block-run_command-requires
run_block-run_command-requires g t c =
    let size : command_size (command_of c.command-item.result) ≤ block_size (block_of c.as_slice-command-items.result.now) =
    size_within c.as_slice-command-items.result.now c.loop-command.command-index _ _ (omega arith) c.command-item.is in
    let same = ap block_size c.as_slice-command-items.ensures.value in
    λ lives within. (omega arith, search rules)

pub run_command-run_when-requires : goal.run_command-run_when-requires
run_command-run_when-requires g t c =
    let size : command_size (command_of c.args.command.now) ≡ block_size c.in-When.body.commands + 1 =
    when_size c.args.command.now.line c.args.command.now.what c.in-When.condition c.in-When.body c.in-When.is in
    let allowed = test_allowed c.args.command.now.what c.in-When.condition c.in-When.body c.in-When.is c.requires.allowed in
    let targets = in_after_begun c.args.run.now.page.now.world _ _ c.in_default.ensures.counted c.requires.targets in
    λ lives within. (omega arith, search rules)

pub run_each-returns-in-Err-clause-says : goal.run_each-returns-in-Err-clause-says
run_each-returns-in-Err-clause-says g t c =
    end_cut c.in-Err.fault _
    (rest_same (each_more _ _ c.loop-place.place _ _ (omega (arith, c.count-place-end.ensures)) (present_is _ c.loop-place.place (omega (arith, c.count-place-end.ensures)))) c.loop-place.invariant.following)
    (over_first (λ (script : Script). run_block script (presents (entries_of c.args.entries.now)) c.args.block.now (present_at (presents (entries_of c.args.entries.now)) (Some c.loop-place.place)) c.loop-place.run.page.now.world) c.loop-place.invariant.held.script
    c.in-Err.ensures.says)

pub run_block-returns-in-Ok-Thrown-clause-says : goal.run_block-returns-in-Ok-Thrown-clause-says
run_block-returns-in-Ok-Thrown-clause-says g t c =
    end_thrown _ refl refl
    (rest_same (block_more c.as_slice-command-items.result.now _ _ (omega arith) c.command-item.is _ _ _ _) c.loop-command.invariant.following)
    (over_first (λ (script : Script). run_command script (presents (entries_of c.args.entries.now)) (command_of c.command-item.result) (present_at (presents (entries_of c.args.entries.now)) c.args.subject) c.loop-command.run.page.now.world) c.loop-command.invariant.held.script
    (rw c.in-Ok-Thrown.field-0-is at c.in-Ok-Thrown.ensures.says))

pub run_block-loop-command-preserved : goal.run_block-loop-command-preserved
run_block-loop-command-preserved g t c =
    record {
      following =
          go_on _ refl
          (rest_same (block_more c.as_slice-command-items.result.now _ _ (omega arith) c.command-item.is _ _ _ _) c.loop-command.invariant.following)
          (over_first (λ (script : Script). run_command script (presents (entries_of c.args.entries.now)) (command_of c.command-item.result) (present_at (presents (entries_of c.args.entries.now)) c.args.subject) c.loop-command.run.page.now.world) c.loop-command.invariant.held.script
          (rw c.in-Ok-Next.field-0-is at c.in-Ok-Next.ensures.says));
      targets = in_after_command c.runs_take_nothing_back.ensures.commands _ _ _ _ _ _ c.in-Ok-Next.ensures.says.ended.state_is c.loop-command.invariant.targets;
      ready = ready_first c.args.run.now.page.now.world c.loop-command.run.page.now.world c.run_command.new.run.page.now.world c.loop-command.invariant.held.script c.loop-command.invariant.ready c.in-Ok-Next.ensures.ready;
      held = held_on c.loop-command.invariant.held c.in-Ok-Next.ensures.held;
    }

pub run_block-returns-in-Err-clause-says : goal.run_block-returns-in-Err-clause-says
run_block-returns-in-Err-clause-says g t c =
    end_cut c.in-Err.fault _
    (rest_same (block_more c.as_slice-command-items.result.now _ _ (omega arith) c.command-item.is _ _ _ _) c.loop-command.invariant.following)
    (over_first (λ (script : Script). run_command script (presents (entries_of c.args.entries.now)) (command_of c.command-item.result) (present_at (presents (entries_of c.args.entries.now)) c.args.subject) c.loop-command.run.page.now.world) c.loop-command.invariant.held.script
    c.in-Err.ensures.says)

pub run_block-returns-clause-says : goal.run_block-returns-clause-says
run_block-returns-clause-says g t c =
    done refl (rest_same (block_none c.as_slice-command-items.result.now c.loop-command.command-index _ _ _ _ (omega arith)) c.loop-command.invariant.following)

pub run_command-returns-in-Err-clause-ready : goal.run_command-returns-in-Err-clause-ready
run_command-returns-in-Err-clause-ready g t c = c.in-Err.ensures.ready (length (handlers_in c.args.run.now.script.now.items))

pub run_command-returns-in-Each-clause-ready : goal.run_command-returns-in-Each-clause-ready
run_command-returns-in-Each-clause-ready g t c = λ before. c.run_each.ensures.ready (c.in_default.ensures.ready (length (handlers_in c.args.run.now.script.now.items)) before)

pub run_command-returns-in-When-clause-ready : goal.run_command-returns-in-When-clause-ready
run_command-returns-in-When-clause-ready g t c = λ before. c.run_when.ensures.ready (c.in_default.ensures.ready (length (handlers_in c.args.run.now.script.now.items)) before)

pub run_command-returns-in-Act-clause-ready : goal.run_command-returns-in-Act-clause-ready
run_command-returns-in-Act-clause-ready g t c = λ before. c.apply.ensures.ready (c.in_default.ensures.ready (length (handlers_in c.args.run.now.script.now.items)) before)

pub run_each-returns-in-Ok-Thrown-clause-ready : goal.run_each-returns-in-Ok-Thrown-clause-ready
run_each-returns-in-Ok-Thrown-clause-ready g t c = ready_first c.args.run.now.page.now.world c.loop-place.run.page.now.world c.run_block.new.run.page.now.world c.loop-place.invariant.held.script c.loop-place.invariant.ready c.in-Ok-Thrown.ensures.ready

pub run_each-returns-in-Err-clause-ready : goal.run_each-returns-in-Err-clause-ready
run_each-returns-in-Err-clause-ready g t c = ready_first c.args.run.now.page.now.world c.loop-place.run.page.now.world c.run_block.new.run.page.now.world c.loop-place.invariant.held.script c.loop-place.invariant.ready c.in-Err.ensures.ready

pub run_when-returns-in-Ok-true-clause-ready : goal.run_when-returns-in-Ok-true-clause-ready
run_when-returns-in-Ok-true-clause-ready g t c = λ before. c.run_block.ensures.ready (c.in-Ok-true.ensures.ready (length (handlers_in c.args.run.now.script.now.items)) before)

pub run_block-returns-in-Ok-Thrown-clause-ready : goal.run_block-returns-in-Ok-Thrown-clause-ready
run_block-returns-in-Ok-Thrown-clause-ready g t c = ready_first c.args.run.now.page.now.world c.loop-command.run.page.now.world c.run_command.new.run.page.now.world c.loop-command.invariant.held.script c.loop-command.invariant.ready c.in-Ok-Thrown.ensures.ready

pub run_block-returns-in-Err-clause-ready : goal.run_block-returns-in-Err-clause-ready
run_block-returns-in-Err-clause-ready g t c = ready_first c.args.run.now.page.now.world c.loop-command.run.page.now.world c.run_command.new.run.page.now.world c.loop-command.invariant.held.script c.loop-command.invariant.ready c.in-Err.ensures.ready

pub run_each-returns-in-Ok-Thrown-clause-held : goal.run_each-returns-in-Ok-Thrown-clause-held
run_each-returns-in-Ok-Thrown-clause-held g t c = held_on c.loop-place.invariant.held c.in-Ok-Thrown.ensures.held

pub run_each-returns-in-Err-clause-held : goal.run_each-returns-in-Err-clause-held
run_each-returns-in-Err-clause-held g t c = held_on c.loop-place.invariant.held c.in-Err.ensures.held

pub run_block-returns-in-Ok-Thrown-clause-held : goal.run_block-returns-in-Ok-Thrown-clause-held
run_block-returns-in-Ok-Thrown-clause-held g t c = held_on c.loop-command.invariant.held c.in-Ok-Thrown.ensures.held

pub run_block-returns-in-Err-clause-held : goal.run_block-returns-in-Err-clause-held
run_block-returns-in-Err-clause-held g t c = held_on c.loop-command.invariant.held c.in-Err.ensures.held
