use Rattle.std.proofs.Common.{◌<◌, ◌≤◌, length, arith}
use Rattle.candidate_index.specs.Registrations.{serials_at, IsReady}
use Rattle.observer_tests.specs.Sample.{sample, sample_standing}
use Rattle.observer_tests.proofs.Samples.{one_more, all_of}
use Rattle.observer_tests.proofs.candidate_index_tests.see_pairs.Goals as goal

pub loop-registration-preserved : goal.loop-registration-preserved
loop-registration-preserved g c =
    let page = c.args.page.now in
    let rs = c.registrations-registrations.result.now in
    let k = c.loop-registration.registration-index in
    let below : k < length rs = omega arith in
    one_more (IsReady (sample page.clips page.boxes page.view) (λ root. sample_standing page.standings) c.args.watchers.now.part c.args.clips.now) rs k (record { 0 = 0 })
    c.loop-registration.invariant below c.see_pair.ensures

pub returns : goal.returns
returns g c =
    let page = c.args.page.now in
    let rs = c.registrations-registrations.result.now in
    let past : length rs ≤ c.loop-registration.registration-index = omega arith in
    all_of (IsReady (sample page.clips page.boxes page.view) (λ root. sample_standing page.standings) c.args.watchers.now.part c.args.clips.now) rs
    (serials_at c.args.watchers.now.part c.args.watcher.0) c.registrations-registrations.ensures.value
    (λ n e below. c.loop-registration.invariant n e (omega (arith, past, below)))
