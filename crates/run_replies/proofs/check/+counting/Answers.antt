use Rattle.std.proofs.Common.{ap, arith}
use Rattle.script_model.specs.Scripts.{block_commands}
use Rattle.script_syntax.specs.Seen.{block_size}
use Rattle.script_syntax.proofs.Walked.{each_size, when_size, size_within}
use Rattle.run_replies.proofs.CommandCounts.{commands_more, commands_none, each_count, when_count, simple_count}
use Rattle.run_replies.proofs.check.+counting.Goals as goal

pub count_command-count_commands-requires : goal.count_command-count_commands-requires
count_command-count_commands-requires t c =
    let size = each_size c.args.command.now.line c.args.command.now.what c.in-Each.body c.in-Each.is in
    let count = each_count c.args.command.now.line c.args.command.now.what c.in-Each.body c.in-Each.is in
    let sizes = ap block_size c.as_slice.ensures.value in
    let counts = ap block_commands c.as_slice.ensures.value in
    (omega arith, omega arith)

pub count_command-overflow_add-result : goal.count_command-overflow_add-result
count_command-overflow_add-result t c =
    let count = each_count c.args.command.now.line c.args.command.now.what c.in-Each.body c.in-Each.is in
    let counts = ap block_commands c.as_slice.ensures.value in
    omega arith

pub count_command-returns-in-Each : goal.count_command-returns-in-Each
count_command-returns-in-Each t c =
    let count = each_count c.args.command.now.line c.args.command.now.what c.in-Each.body c.in-Each.is in
    let counts = ap block_commands c.as_slice.ensures.value in
    omega arith

pub count_command-count_commands-requires-in-When : goal.count_command-count_commands-requires-in-When
count_command-count_commands-requires-in-When t c =
    let size = when_size c.args.command.now.line c.args.command.now.what c.in-When.field-0 c.in-When.body c.in-When.is in
    let count = when_count c.args.command.now.line c.args.command.now.what c.in-When.field-0 c.in-When.body c.in-When.is in
    let sizes = ap block_size c.as_slice-in-When.ensures.value in
    let counts = ap block_commands c.as_slice-in-When.ensures.value in
    (omega arith, omega arith)

pub count_command-overflow_add-result-in-When : goal.count_command-overflow_add-result-in-When
count_command-overflow_add-result-in-When t c =
    let count = when_count c.args.command.now.line c.args.command.now.what c.in-When.field-0 c.in-When.body c.in-When.is in
    let counts = ap block_commands c.as_slice-in-When.ensures.value in
    omega arith

pub count_command-returns-in-When : goal.count_command-returns-in-When
count_command-returns-in-When t c =
    let count = when_count c.args.command.now.line c.args.command.now.what c.in-When.field-0 c.in-When.body c.in-When.is in
    let counts = ap block_commands c.as_slice-in-When.ensures.value in
    omega arith

pub count_command-returns-in-Act : goal.count_command-returns-in-Act
count_command-returns-in-Act t c = simple_count c.args.command.now.line c.args.command.now.what c.in-Act.field-0 c.in-Act.is

pub count_commands-count_command-count-requires : goal.count_commands-count_command-count-requires
count_commands-count_command-count-requires t c =
    let within = size_within c.args.commands.now c.loop-command.command-index _ _ (omega arith) c.command-item.is in
    let more = commands_more c.args.commands.now c.loop-command.command-index _ (omega arith) c.command-item.is in
    (omega arith, omega (arith, c.loop-command.invariant))

pub count_commands-overflow_add-count : goal.count_commands-overflow_add-count
count_commands-overflow_add-count t c =
    let more = commands_more c.args.commands.now c.loop-command.command-index _ (omega arith) c.command-item.is in
    omega (arith, c.loop-command.invariant)

pub count_commands-loop-command-preserved : goal.count_commands-loop-command-preserved
count_commands-loop-command-preserved t c =
    let more = commands_more c.args.commands.now c.loop-command.command-index _ (omega arith) c.command-item.is in
    omega (arith, c.loop-command.invariant)

pub count_commands-returns : goal.count_commands-returns
count_commands-returns t c =
    let none = commands_none c.args.commands.now c.loop-command.command-index (omega arith) in
    omega (arith, c.loop-command.invariant)
