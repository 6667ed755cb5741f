-- A script keeps a law where nothing is to blame.
use Rattle.loop_lint.specs.LoopHandlers.{loop_handler_lines}
use Rattle.loop_lint.specs.Verdicts.{moves, disturbs, is_steady, is_quiet}
use Rattle.loop_lint.proofs.Searching.{same-verdict, kept-so, none-of}
use Rattle.loop_lint.proofs.check.lint.Goals as goal

pub returns-clause-verdict : goal.returns-clause-verdict
unfolding is_steady is_quiet
returns-clause-verdict c =
    same-verdict _ _ _ _
    (kept-so c.is_none.result c.blame.result (loop_handler_lines moves c.args.script.now.items) c.is_none.ensures c.blame.ensures.line)
    (kept-so c.is_none-2.result c.blame-2.result (loop_handler_lines disturbs c.args.script.now.items) c.is_none-2.ensures c.blame-2.ensures.line)

pub returns-clause-steady : goal.returns-clause-steady
returns-clause-steady c steady = c.blame.ensures.promise (none-of c.is_none.result c.blame.result c.is_none.ensures steady)

pub returns-clause-quiet : goal.returns-clause-quiet
returns-clause-quiet c quiet = c.blame-2.ensures.promise (none-of c.is_none-2.result c.blame-2.result c.is_none-2.ensures quiet)
