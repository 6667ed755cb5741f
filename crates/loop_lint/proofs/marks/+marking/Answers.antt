-- Command by command, and a block is smaller than its command.
use Rattle.std.proofs.Common.{◌≡◌, ◌+◌, ◌≤◌, ap, sym, ◌∙◌, arith}
use Rattle.script_syntax.specs.declared.commands.Command.{Command}
use Rattle.script_syntax.specs.Seen.{command_of, block_of, action_of, command_size, block_size}
use Rattle.script_syntax.proofs.Walked.{each_size, when_size, size_within, simple_is}
use Rattle.loop_lint.specs.Marks.{marked, named_in, named_in_block}
use Rattle.loop_lint.proofs.Marking.{marked_on, marked_all, block_names, simple_names, each_names, when_names}
use Rattle.loop_lint.proofs.marks.+marking.Goals as goal

pub mark_command-mark_commands-requires : goal.mark_command-mark_commands-requires
mark_command-mark_commands-requires t c =
    let size : command_size (command_of c.args.command.now) ≡ block_size c.in-Each.body.commands + 1 =
    each_size c.args.command.now.line c.args.command.now.what c.in-Each.body c.in-Each.is in
    let same : block_size (block_of c.as_slice.result.now) ≡ block_size c.in-Each.body.commands = ap block_size c.as_slice.ensures.value in
    (omega arith, tt)

pub mark_command-mark_commands-requires-in-When : goal.mark_command-mark_commands-requires-in-When
mark_command-mark_commands-requires-in-When t c =
    let size : command_size (command_of c.args.command.now) ≡ block_size c.in-When.body.commands + 1 =
    when_size c.args.command.now.line c.args.command.now.what c.in-When.field-0 c.in-When.body c.in-When.is in
    let same : block_size (block_of c.as_slice-in-When.result.now) ≡ block_size c.in-When.body.commands = ap block_size c.as_slice-in-When.ensures.value in
    (omega arith, tt)

pub mark_command-returns-in-Act : goal.mark_command-returns-in-Act
mark_command-returns-in-Act t c =
    c.mark_action.ensures
    ∙ ap (marked c.args.script.now.items c.args.marks.now)
    (simple_names c.args.command.now.line (action_of c.in-Act.action)
    ∙ ap named_in (sym (simple_is c.args.command.now.line c.args.command.now.what c.in-Act.action c.in-Act.is)))

pub mark_command-returns-in-Each : goal.mark_command-returns-in-Each
mark_command-returns-in-Each t c =
    c.mark_commands.ensures
    ∙ ap (λ block. marked c.args.script.now.items c.args.marks.now (named_in_block block)) c.as_slice.ensures.value
    ∙ ap (marked c.args.script.now.items c.args.marks.now) (each_names c.args.command.now.line c.args.command.now.what c.in-Each.body c.in-Each.is)

pub mark_command-returns-in-When : goal.mark_command-returns-in-When
mark_command-returns-in-When t c =
    c.mark_commands-in-When.ensures
    ∙ ap (λ block. marked c.args.script.now.items c.args.marks.now (named_in_block block)) c.as_slice-in-When.ensures.value
    ∙ ap (marked c.args.script.now.items c.args.marks.now) (when_names c.args.command.now.line c.args.command.now.what c.in-When.field-0 c.in-When.body c.in-When.is)

pub mark_commands-mark_command-requires : goal.mark_commands-mark_command-requires
mark_commands-mark_command-requires t c =
    let within : command_size (command_of c.command-item.result) ≤ block_size (block_of c.args.commands.now) =
    size_within c.args.commands.now c.loop-command.command-index _ _ (omega arith) c.command-item.is in
    (omega arith, tt)

pub mark_commands-loop-command-preserved : goal.mark_commands-loop-command-preserved
mark_commands-loop-command-preserved t c =
    marked_on c.args.script.now.items (λ (command : Command). named_in (command_of command)) c.args.commands.now c.args.marks.now
    c.loop-command.command-index _ c.loop-command.marks _ (omega arith) c.loop-command.invariant
    (c.mark_command.ensures ∙ ap (λ (command : Command). marked c.args.script.now.items c.loop-command.marks (named_in (command_of command))) c.command-item.is)

pub mark_commands-returns : goal.mark_commands-returns
mark_commands-returns t c =
    marked_all c.args.script.now.items (λ (command : Command). named_in (command_of command)) c.args.commands.now c.args.marks.now
    c.loop-command.command-index c.loop-command.marks (omega arith) c.loop-command.invariant
    ∙ ap (marked c.args.script.now.items c.args.marks.now) (block_names c.args.commands.now)
