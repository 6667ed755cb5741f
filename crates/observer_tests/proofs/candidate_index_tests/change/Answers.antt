use Rattle.observer_tests.proofs.Samples.{exact_still}
use Rattle.observer_tests.proofs.candidate_index_tests.change.Goals as goal

pub returns-in-Box : goal.returns-in-Box
returns-in-Box g c =
    let old = c.args.page.now in
    let new = c.put_box.new.self in
    exact_still old.clips new.clips old.boxes new.boxes old.view new.view c.args.clips.now c.put_box.ensures.clips c.put_box.ensures.view c.requires

pub returns-in-Stand : goal.returns-in-Stand
returns-in-Stand g c =
    let old = c.args.page.now in
    let new = c.put_standing.new.self in
    exact_still old.clips new.clips old.boxes new.boxes old.view new.view c.args.clips.now c.put_standing.ensures.clips c.put_standing.ensures.view c.requires
