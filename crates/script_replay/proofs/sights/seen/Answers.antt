use Rattle.std.proofs.Common.{vec_items}
use Rattle.script_replay.proofs.Sighting.{boxes_sight, hits_sight}
use Rattle.script_replay.proofs.sights.seen.Goals as goal

pub returns-in-Boxes : goal.returns-in-Boxes
returns-in-Boxes g c =
    boxes_sight c.boxes_seen.result (λ text. vec_items text) c.args.sight c.args.page.now.world c.in-Boxes.is c.boxes_seen.ensures

pub returns-in-Hits : goal.returns-in-Hits
returns-in-Hits g c =
    hits_sight c.hits_seen.result (λ text. vec_items text) c.args.sight c.in-Hits.at c.args.page.now.world c.in-Hits.is c.hits_seen.ensures
