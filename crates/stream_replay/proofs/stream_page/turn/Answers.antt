use Rattle.std.proofs.Common.{ap, sym, ◌∙◌}
use Rattle.stream_runs.specs.PageRuns.{Turn}
use Rattle.stream_replay.proofs.Turning.{nothing_said, turn_over, turn_idle}
use Rattle.stream_replay.proofs.stream_page.turn.Goals as goal

pub returns-in_default-clause-lines : goal.returns-in_default-clause-lines
returns-in_default-clause-lines g c =
    nothing_said c.args.gathered.now.taken _ _ c.requires.empty (turn_over c.args.line c.args.standing.now c.in_default.not-Opened)

pub returns-in_default-clause-standing : goal.returns-in_default-clause-standing
returns-in_default-clause-standing g c = ap (λ (turn : Turn). turn.standing) (sym (turn_over c.args.line c.args.standing.now c.in_default.not-Opened))

pub returns-then-not-next_begins-clause-lines : goal.returns-then-not-next_begins-clause-lines
returns-then-not-next_begins-clause-lines g c =
    rw c.in-Opened.is
    (nothing_said c.args.gathered.now.taken _ _ c.requires.empty
    (turn_idle c.in-Opened.running.is_stopped c.args.line c.in-Opened.running.script.items c.in-Opened.running.next c.in-Opened.running.page.world
    (sym c.next_begins.ensures ∙ c.if-not-next_begins.true)))

pub returns-then-not-next_begins-clause-standing : goal.returns-then-not-next_begins-clause-standing
returns-then-not-next_begins-clause-standing g c =
    rw c.in-Opened.is
    (ap (λ (turn : Turn). turn.standing)
    (sym (turn_idle c.in-Opened.running.is_stopped c.args.line c.in-Opened.running.script.items c.in-Opened.running.next c.in-Opened.running.page.world
    (sym c.next_begins.ensures ∙ c.if-not-next_begins.true))))
