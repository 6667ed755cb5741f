use Rattle.observer_tests.specs.Sample.{sample}
use Rattle.observer_tests.proofs.common.change_clip.Goals as goal

pub returns : goal.returns
returns g c =
    let old = c.args.page.now in
    let new = c.put_clip.new.self in
    c.touch.ensures (sample old.clips old.boxes old.view) (sample new.clips new.boxes new.view) c.requires c.put_clip.ensures
