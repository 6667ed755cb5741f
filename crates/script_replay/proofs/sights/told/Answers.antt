use Rattle.std.proofs.Common.{vec_items, refl}
use Rattle.script_replay.proofs.Sighting.{none_lacks, some_lack}
use Rattle.script_replay.proofs.sights.told.Goals as goal

pub returns-then-lacking-eq0 : goal.returns-then-lacking-eq0
returns-then-lacking-eq0 g c =
    none_lacks c.seen.result (λ text. vec_items text) c.args.sight c.args.number c.args.script.now.items c.args.page.now.world c.args.lacking c.requires c.if-lacking-eq0.true
    c.seen.ensures

pub returns : goal.returns
returns g c =
    some_lack c.ticks_line.result (λ text. vec_items text) c.args.sight c.args.number c.args.script.now.items c.args.page.now.world c.args.lacking c.requires _
    c.if-lacking-eq0.false refl c.ticks_line.ensures
