use Rattle.script_replay.proofs.Sighting.{ticks_told}
use Rattle.script_replay.proofs.sights.ticks_line.Goals as goal

pub returns : goal.returns
returns c = ticks_told c.args.count _ _ _ c.in_ok-line.ensures.items c.in_ok-push_decimal.ensures.ok c.in_ok-push.ensures.items
