use Rattle.std.proofs.Common.{◌∙◌}
use Rattle.script_replay.proofs.Sighting.{hit_pushed}
use Rattle.script_replay.proofs.sights.push_hit.Goals as goal

pub returns : goal.returns
returns c =
    hit_pushed _ _ _ _ _ _ c.in_ok-extend_from_slice.ensures.items c.in_ok-extend_from_slice-2.ensures.items (c.bytes.ensures.value ∙ c.label-name.ensures)
    c.in_ok-push.ensures.items
