use Rattle.std.proofs.Common.{◌≡◌, ◌+◌, ◌≤◌, ◌++◌, ap, sym, ◌∙◌, arith}
use Rattle.script_syntax.specs.Seen.{command_of, command_at, condition_of, block_of, action_of, command_size, block_size}
use Rattle.script_text.specs.NumberedLines.{command_lines}
use Rattle.script_text.specs.ScriptText.{lines_text}
use Rattle.script_print.specs.Actions.{Prints}
use Rattle.script_print.specs.LastNumber.{last_number}
use Rattle.script_print.proofs.Blocks.{simple_pushed, simple_last, each_pushed, each_last, when_pushed, when_last, lines_on, last_on, lines_end, last_end, blocks_are}
use Rattle.script_syntax.proofs.Walked.{simple_is, each_size, when_size, size_within}
use Rattle.script_print.proofs.lines.+lines.Goals as goal

pub push_command-push_body-requires : goal.push_command-push_body-requires
push_command-push_body-requires t c =
    let size : command_size (command_of c.args.command.now) ≡ block_size c.in-Each.body.commands + 1 =
    each_size c.args.command.now.line c.args.command.now.what c.in-Each.body c.in-Each.is in
    (omega arith, tt)

pub push_command-push_body-requires-in-When : goal.push_command-push_body-requires-in-When
push_command-push_body-requires-in-When t c =
    let size : command_size (command_of c.args.command.now) ≡ block_size c.in-When.body.commands + 1 =
    when_size c.args.command.now.line c.args.command.now.what c.in-When.condition c.in-When.body c.in-When.is in
    (omega arith, tt)

pub push_command-returns-in_ok-last-in-Each-clause-text : goal.push_command-returns-in_ok-last-in-Each-clause-text
push_command-returns-in_ok-last-in-Each-clause-text t c =
    each_pushed c.args.after c.args.command.now.line c.in-Each.body.end_line c.in-Each.body.commands _ _ _ _ c.in_ok-push_line_feeds.ensures
    c.in_ok-extend_from_slice-in-Each.ensures.items c.in_ok-last-in-Each.ensures.text
    ∙ ap (λ what. c.args.into.now.items ++ lines_text c.args.after (command_lines (command_at c.args.command.now.line what))) (sym c.in-Each.is)

pub push_command-returns-in_ok-last-in-Each-clause-last : goal.push_command-returns-in_ok-last-in-Each-clause-last
push_command-returns-in_ok-last-in-Each-clause-last t c =
    c.in_ok-last-in-Each.ensures.last ∙ each_last c.args.after c.args.command.now.line c.in-Each.body.end_line c.in-Each.body.commands
    ∙ ap (λ what. last_number c.args.after (command_lines (command_at c.args.command.now.line what))) (sym c.in-Each.is)

pub push_command-returns-in_ok-last-in-When-clause-text : goal.push_command-returns-in_ok-last-in-When-clause-text
push_command-returns-in_ok-last-in-When-clause-text t c =
    when_pushed c.args.after c.args.command.now.line c.in-When.body.end_line (condition_of c.in-When.condition) c.in-When.body.commands _ _ _ _
    c.in_ok-push_line_feeds.ensures c.in_ok-push_condition-in-When.ensures c.in_ok-last-in-When.ensures.text
    ∙ ap (λ what. c.args.into.now.items ++ lines_text c.args.after (command_lines (command_at c.args.command.now.line what))) (sym c.in-When.is)

pub push_command-returns-in_ok-last-in-When-clause-last : goal.push_command-returns-in_ok-last-in-When-clause-last
push_command-returns-in_ok-last-in-When-clause-last t c =
    c.in_ok-last-in-When.ensures.last
    ∙ when_last c.args.after c.args.command.now.line c.in-When.body.end_line (condition_of c.in-When.condition) c.in-When.body.commands
    ∙ ap (λ what. last_number c.args.after (command_lines (command_at c.args.command.now.line what))) (sym c.in-When.is)

pub push_command-returns-in_ok-push_action-in-Act : goal.push_command-returns-in_ok-push_action-in-Act
unfolding Prints
push_command-returns-in_ok-push_action-in-Act t c =
    let simple = simple_is c.args.command.now.line c.args.command.now.what c.in-Act.action c.in-Act.is in
    record {
      text = simple_pushed c.args.after c.args.command.now.line (action_of c.in-Act.action) _ _ _ c.in_ok-push_line_feeds.ensures
          c.in_ok-push_action-in-Act.ensures
          ∙ ap (λ command. c.args.into.now.items ++ lines_text c.args.after (command_lines command)) (sym simple);
      last = simple_last c.args.after c.args.command.now.line (action_of c.in-Act.action)
          ∙ ap (λ command. last_number c.args.after (command_lines command)) (sym simple);
    }

pub push_commands-push_command-requires : goal.push_commands-push_command-requires
push_commands-push_command-requires t c =
    let within : command_size (command_of c.command-item.result) ≤ block_size (block_of c.args.commands.now) =
    size_within c.args.commands.now c.loop-command.command-index _ _ (omega arith) c.command-item.is in
    (omega arith, tt)

pub push_commands-loop-command-preserved : goal.push_commands-loop-command-preserved
push_commands-loop-command-preserved t c =
    let text = c.in_ok-last.ensures.text
    ∙ ap (λ command. c.loop-command.into.items ++ lines_text c.loop-command.last (command_lines (command_of command))) c.command-item.is in
    let last = c.in_ok-last.ensures.last ∙ ap (λ command. last_number c.loop-command.last (command_lines (command_of command))) c.command-item.is in
    record {
      text = lines_on (λ command. command_lines (command_of command)) c.args.commands.now c.loop-command.command-index _ _ _ _ _ _ (omega arith)
          c.loop-command.invariant.text text last;
      last = last_on (λ command. command_lines (command_of command)) c.args.commands.now c.loop-command.command-index _ _ _ _ (omega arith)
          c.loop-command.invariant.last last;
    }

pub push_commands-returns-clause-text : goal.push_commands-returns-clause-text
push_commands-returns-clause-text t c =
    lines_end (λ command. command_lines (command_of command)) c.args.commands.now c.loop-command.command-index _ _ _ (omega arith)
    c.loop-command.invariant.text
    ∙ ap (λ lines. c.args.into.now.items ++ lines_text c.args.after lines) (blocks_are c.args.commands.now)

pub push_commands-returns-clause-last : goal.push_commands-returns-clause-last
push_commands-returns-clause-last t c =
    last_end (λ command. command_lines (command_of command)) c.args.commands.now c.loop-command.command-index _ _ (omega arith) c.loop-command.invariant.last
    ∙ ap (λ lines. last_number c.args.after lines) (blocks_are c.args.commands.now)
