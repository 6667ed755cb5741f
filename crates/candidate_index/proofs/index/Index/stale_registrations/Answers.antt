use Rattle.std.proofs.Common.{◌≡◌, ◌∙◌, ◌+◌, ◌<◌, ◌∷◌, length, get_or, drop, arith}
use Rattle.intersection_observer.specs.Seen.{serial_numbers}
use Rattle.candidate_index.specs.Registrations.{serials_at, IsReady, IsBetween, IsRootUnmoved}
use Rattle.candidate_index.specs.Asked.{all_asked, all_steps}
use Rattle.candidate_index.specs.Held.{is_stale_now}
use Rattle.candidate_index.proofs.Looking.{rest_is, at_all, stale_step, clips_step, ticks_step, nothing_left}
use Rattle.candidate_index.proofs.index.Index.stale_registrations.Goals as goal

pub look-requires-clause-ready : goal.look-requires-clause-ready
look-requires-clause-ready g c =
    let scene = g.S.Geometry.scene c.args.scene.now in
    let standings = g.S.Scene.standings c.args.scene.now in
    let it = c.args.watchers.now.part in
    let rs = c.registrations-registrations.result.now in
    let k = c.loop-registration.registration-index in
    let below : k < length rs = omega arith in
    c.loop-registration.invariant.ready (get_or rs k (record { 0 = 0 })).0
    (at_all (IsReady scene standings it c.args.clips.now) (serials_at it c.args.watcher.0) rs k (record { 0 = 0 }) c.registrations-registrations.ensures.value below c.requires.ready)

pub look-requires-clause-unmoved : goal.look-requires-clause-unmoved
look-requires-clause-unmoved g c =
    let it = c.args.watchers.now.part in
    let rs = c.registrations-registrations.result.now in
    let k = c.loop-registration.registration-index in
    let below : k < length rs = omega arith in
    at_all (IsRootUnmoved (g.S.Geometry.scene c.args.scene.now) it) (serials_at it c.args.watcher.0) rs k (record { 0 = 0 }) c.registrations-registrations.ensures.value below c.requires.unmoved

pub loop-registration-preserved : goal.loop-registration-preserved
loop-registration-preserved g c =
    let scene = g.S.Geometry.scene c.args.scene.now in
    let standings = g.S.Scene.standings c.args.scene.now in
    let it = c.args.watchers.now.part in
    let serials = serials_at it c.args.watcher.0 in
    let rs = c.registrations-registrations.result.now in
    let k = c.loop-registration.registration-index in
    let below : k < length rs = omega arith in
    let next = (get_or rs k (record { 0 = 0 })).0 in
    let rest = serial_numbers (drop k rs) in
    let left = serial_numbers (drop (k + 1) rs) in
    let is : rest ≡ next ∷ left = rest_is rs k (record { 0 = 0 }) below in
    let so_far = c.loop-registration.invariant in
    record {
      ready = λ other h. c.look.ensures.ready other (so_far.ready other h);
      exact = λ other h. c.look.ensures.exact other (so_far.exact other h);
      room = omega (arith, so_far.room, c.look.ensures.length);
      capacity = c.look.ensures.capacity ∙ so_far.capacity;
      stale = λ between h.
          let here : IsBetween scene standings it between next = at_all (IsBetween scene standings it between) serials rs k (record { 0 = 0 }) c.registrations-registrations.ensures.value below h in
          stale_step (is_stale_now scene standings it between c.args.self.now) (serial_numbers c.loop-registration.stale.items) (serial_numbers c.look.new.stale.items) rest left serials next
          (so_far.stale between h) is (c.look.ensures.stale between here);
      clips = λ between h.
          let here : IsBetween scene standings it between next = at_all (IsBetween scene standings it between) serials rs k (record { 0 = 0 }) c.registrations-registrations.ensures.value below h in
          clips_step scene standings it between rest left next c.loop-registration.clips c.look.new.clips (all_asked scene standings it between serials c.args.clips.now)
          (so_far.clips between h) is (c.look.ensures.clips between here);
      ticks = λ between h.
          let here : IsBetween scene standings it between next = at_all (IsBetween scene standings it between) serials rs k (record { 0 = 0 }) c.registrations-registrations.ensures.value below h in
          ticks_step scene standings it between rest left next c.loop-registration.clips c.look.new.clips c.loop-registration.steps c.look.new.steps (c.args.steps.now + all_steps scene standings it between serials c.args.clips.now)
          (so_far.ticks between h) is (c.look.ensures.clips between here) (c.look.ensures.ticks between here);
    }

pub returns-clause-stale : goal.returns-clause-stale
returns-clause-stale g c =
    let rs = c.registrations-registrations.result.now in
    let k = c.loop-registration.registration-index in
    λ between h.
    nothing_left (is_stale_now (g.S.Geometry.scene c.args.scene.now) (g.S.Scene.standings c.args.scene.now) c.args.watchers.now.part between c.args.self.now) (serial_numbers c.loop-registration.stale.items) rs k (omega arith)
    ∙ c.loop-registration.invariant.stale between h
