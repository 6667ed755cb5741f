use Rattle.script_items.proofs.Playing.{opening_ready}
use Rattle.script_replay.proofs.Stopped.{told_tells, limit_tells}
use Rattle.script_replay.proofs.sights.write_sight_on.Goals as goal

pub play_to_tick-requires : goal.play_to_tick-requires
play_to_tick-requires g c = opening_ready _ _ _ c.requires

pub returns-in-Ok : goal.returns-in-Ok
returns-in-Ok g c =
    told_tells c.args.sight c.args.number c.args.script.now c.args.page.now.world c.requires c.write_told.result _ _ _ _ _
    c.in-Ok.ensures.says.ended.flow_is c.in-Ok.ensures.says.ended.state_is c.write_told.ensures

pub returns-in-Err-Limit : goal.returns-in-Err-Limit
returns-in-Err-Limit g c =
    let cut = rw c.in-Err-Limit.field-0-is at c.in-Err-Limit.ensures in
    let told = rw c.in-Err-Limit.field-0-is at c.write_limit-wrote.ensures.told in
    rw c.status_of.ensures.status
    (limit_tells c.args.sight c.args.number c.args.script.now c.args.page.now.world c.requires c.write_limit-wrote.result _ _ _ _ _ _ _ _ _ _ _
    cut.says.cut_off told)
