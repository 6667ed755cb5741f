-- Command by command, and a block is smaller than its command.
use Rattle.std.proofs.Common.{◌≡◌, ◌+◌, ◌≤◌, true, ap, sym, ◌∙◌, arith, slice_get, is_some}
use Rattle.script_syntax.specs.declared.commands.Command.{Command}
use Rattle.script_syntax.specs.Seen.{command_of, block_of, action_of, command_size, block_size}
use Rattle.loop_lint.specs.LoopHandlers.{lines_in, block_lines}
use Rattle.loop_lint.specs.Searches.{is_sought}
use Rattle.script_syntax.proofs.Walked.{each_size, when_size, size_within, simple_is}
use Rattle.loop_lint.proofs.Searching.{each-lines, when-lines, simple-first, block-lines, searched-on, searched-found, searched-all, not-found}
use Rattle.loop_lint.proofs.search.+walk.Goals as goal

pub first_in_command-first_in-requires : goal.first_in_command-first_in-requires
first_in_command-first_in-requires t c =
    let size : command_size (command_of c.args.command.now) ≡ block_size c.in-Each.body.commands + 1 =
    each_size c.args.command.now.line c.args.command.now.what c.in-Each.body c.in-Each.is in
    let same : block_size (block_of c.as_slice.result.now) ≡ block_size c.in-Each.body.commands = ap block_size c.as_slice.ensures.value in
    (omega arith, tt)

pub first_in_command-first_in-requires-in-When : goal.first_in_command-first_in-requires-in-When
first_in_command-first_in-requires-in-When t c =
    let size : command_size (command_of c.args.command.now) ≡ block_size c.in-When.body.commands + 1 =
    when_size c.args.command.now.line c.args.command.now.what c.in-When.field-0 c.in-When.body c.in-When.is in
    let same : block_size (block_of c.as_slice-in-When.result.now) ≡ block_size c.in-When.body.commands = ap block_size c.as_slice-in-When.ensures.value in
    (omega arith, tt)

pub first_in_command-returns-in-Each : goal.first_in_command-returns-in-Each
first_in_command-returns-in-Each t c =
    c.first_in.ensures
    ∙ ap (λ block. slice_get (block_lines (is_sought c.args.sought.now) block) 0) c.as_slice.ensures.value
    ∙ ap (λ lines. slice_get lines 0) (each-lines (is_sought c.args.sought.now) c.args.command.now.line c.args.command.now.what c.in-Each.body c.in-Each.is)

pub first_in_command-returns-in-When : goal.first_in_command-returns-in-When
first_in_command-returns-in-When t c =
    c.first_in-in-When.ensures
    ∙ ap (λ block. slice_get (block_lines (is_sought c.args.sought.now) block) 0) c.as_slice-in-When.ensures.value
    ∙ ap (λ lines. slice_get lines 0)
    (when-lines (is_sought c.args.sought.now) c.args.command.now.line c.args.command.now.what c.in-When.field-0 c.in-When.body c.in-When.is)

pub first_in_command-returns-in-Act : goal.first_in_command-returns-in-Act
first_in_command-returns-in-Act t c =
    let simple = simple_is c.args.command.now.line c.args.command.now.what c.in-Act.action c.in-Act.is in
    c.then_some.ensures
    ∙ simple-first (is_sought c.args.sought.now) c.args.command.now.line (action_of c.in-Act.action) c.is_sought.result c.is_sought.ensures
    ∙ ap (λ command. slice_get (lines_in (is_sought c.args.sought.now) command) 0) (sym simple)

pub first_in-first_in_command-found-requires : goal.first_in-first_in_command-found-requires
first_in-first_in_command-found-requires t c =
    let within : command_size (command_of c.command-item.result) ≤ block_size (block_of c.args.commands.now) =
    size_within c.args.commands.now c.loop-command.command-index _ _ (omega arith) c.command-item.is in
    (omega arith, tt)

pub first_in-returns-then-is_some : goal.first_in-returns-then-is_some
first_in-returns-then-is_some t c =
    let found = c.first_in_command-found.ensures
    ∙ ap (λ (command : Command). slice_get (lines_in (is_sought c.args.sought.now) (command_of command)) 0) c.command-item.is in
    let some : is_some c.first_in_command-found.result ≡ true = cc in
    searched-found (λ command. lines_in (is_sought c.args.sought.now) (command_of command)) c.args.commands.now c.loop-command.command-index _ _ (omega arith)
    c.loop-command.invariant found some
    ∙ ap (λ lines. slice_get lines 0) (block-lines (is_sought c.args.sought.now) c.args.commands.now)

pub first_in-loop-command-preserved : goal.first_in-loop-command-preserved
first_in-loop-command-preserved t c =
    let found = c.first_in_command-found.ensures
    ∙ ap (λ (command : Command). slice_get (lines_in (is_sought c.args.sought.now) (command_of command)) 0) c.command-item.is in
    searched-on (λ command. lines_in (is_sought c.args.sought.now) (command_of command)) c.args.commands.now c.loop-command.command-index _ (omega arith)
    c.loop-command.invariant (sym found ∙ not-found c.first_in_command-found.result cc)

pub first_in-returns : goal.first_in-returns
first_in-returns t c =
    searched-all (λ command. lines_in (is_sought c.args.sought.now) (command_of command)) c.args.commands.now c.loop-command.command-index (omega arith)
    c.loop-command.invariant
    ∙ ap (λ lines. slice_get lines 0) (block-lines (is_sought c.args.sought.now) c.args.commands.now)
