use Rattle.std.proofs.Common.{ap, sym}
use Rattle.script_model.specs.Scripts.{handlers_in}
use Rattle.page_laws.proofs.Changes.{active-in}
use Rattle.page_state.specs.Views.{PageView}
use Rattle.frame_update.proofs.Going.{arrived, stopped}
use Rattle.frame_update.proofs.RoundEnds.{gathered_ready, round_cut, round_left, round_next, round_said, round_unsaid}
use Rattle.frame_update.proofs.rounds.round.Goals as goal

pub returns-in_err-least-clause-goes : goal.returns-in_err-least-clause-goes
returns-in_err-least-clause-goes g c =
    let sent = c.in_err-least.ensures.goes in
    stopped c.from_residual.result c.in_err-least.field-0.0 c.from_residual.ensures sent.script sent.lent sent.ready
    (round_cut (handlers_in c.args.run.now.script.now.items) c.args.document.0 c.args.run.now.page.now.world c.in_err-least.field-0.0 sent.says)

pub returns-then-not-is_active-clause-goes : goal.returns-then-not-is_active-clause-goes
returns-then-not-is_active-clause-goes g c =
    let sent = c.in_ok-least.ensures.goes in
    arrived sent.script sent.lent sent.ready (round_left (handlers_in c.args.run.now.script.now.items) c.args.document.0 c.args.run.now.page.now.world c.in_ok-least.least c.broadcast.new.run.page.now.world sent.says c.in_ok-least.ensures.least (sym c.if-not-is_active.ensures))

pub label-name-requires : goal.label-name-requires
label-name-requires g c = active-in c.broadcast.new.run.page.now.world.tree c.args.document.0 (sym c.if-not-is_active.ensures)

pub returns-in_err-write_one-clause-goes : goal.returns-in_err-write_one-clause-goes
returns-in_err-write_one-clause-goes g c =
    let sent = c.in_ok-least.ensures.goes in
    stopped c.from_residual-in_err-write_one.result c.in_err-write_one.field-0.0 c.from_residual-in_err-write_one.ensures sent.script sent.lent sent.ready
    (round_unsaid (handlers_in c.args.run.now.script.now.items) c.args.document.0 c.args.run.now.page.now.world c.in_ok-least.least c.broadcast.new.run.page.now.world sent.says c.in_ok-least.ensures.least (sym c.if-not-is_active.ensures)
    c.label-name.result c.unwrap_or-depth.result c.in_err-write_one.field-0.0 c.label-name.ensures c.unwrap_or-depth.ensures c.in_err-write_one.ensures.told)

pub returns-clause-goes : goal.returns-clause-goes
returns-clause-goes g c =
    let sent = c.in_ok-least.ensures.goes in
    arrived sent.script sent.lent
    (gathered_ready c.broadcast.new.run.script.now.items c.args.document.0 c.unwrap_or-depth.result c.broadcast.new.run.page.now.world c.gather.new.page.world (ap (λ (page : PageView). page.world) c.gather.ensures.gathered) sent.ready)
    (round_said (handlers_in c.args.run.now.script.now.items) c.args.document.0 c.args.run.now.page.now.world c.in_ok-least.least c.broadcast.new.run.page.now.world sent.says c.in_ok-least.ensures.least (sym c.if-not-is_active.ensures)
    c.label-name.result c.unwrap_or-depth.result c.gather.new.page.world c.gather.result c.label-name.ensures c.unwrap_or-depth.ensures
    (ap (λ (page : PageView). page.world) c.gather.ensures.gathered) c.in_ok-write_one.ensures.told)

pub returns-clause-depth : goal.returns-clause-depth
returns-clause-depth g c =
    round_next (handlers_in c.args.run.now.script.now.items) c.args.document.0 c.args.run.now.page.now.world c.in_ok-least.least c.broadcast.new.run.page.now.world c.in_ok-least.ensures.goes.says c.in_ok-least.ensures.least (sym c.if-not-is_active.ensures)
    c.unwrap_or-depth.result c.gather.new.page.world c.gather.result c.unwrap_or-depth.ensures (ap (λ (page : PageView). page.world) c.gather.ensures.gathered) c.gather.ensures.active
