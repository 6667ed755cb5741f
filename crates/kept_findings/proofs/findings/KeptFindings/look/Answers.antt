use Rattle.std.proofs.Common.{◌<◌, ◌∙◌, length, get_or, arith, below_more, ap, refl, subst}
use Rattle.std.proofs.lemmas.List.{get_or_default}
use Rattle.intersection_observer.specs.declared.registration.RegistrationId.{RegistrationId}
use Rattle.kept_clips.specs.Held.{spots_at}
use Rattle.kept_clips.specs.Scenes.{AgreesAt}
use Rattle.kept_clips.specs.Seen.{scene_seen}
use Rattle.kept_clips.proofs.Looking.{looked_nowhere, looked_then}
use Rattle.candidate_index.specs.Registrations.{place_of, serials_at}
use Rattle.kept_findings.specs.Looks.{IsNoted}
use Rattle.kept_findings.specs.Walks.{AlongChain, IsNot, MayBeWalked}
use Rattle.kept_findings.specs.Views.{seen_for}
use Rattle.kept_findings.proofs.Viewing.{seen_spotwise}
use Rattle.kept_findings.proofs.Noting.{agrees_noted, left_then}
use Rattle.kept_findings.proofs.Settled.{registered_alike}
use Rattle.kept_findings.proofs.Walking.{all_serials, at_serial, along_weaker, room_after}
use Rattle.kept_findings.proofs.findings.KeptFindings.look.Goals as goal

pub look_for-requires-clause-room : goal.look_for-requires-clause-room
look_for-requires-clause-room g c =
    let scene = g.S.Geometry.scene c.args.scene.now in
    let standings = g.S.Scene.standings c.args.scene.now in
    let it = c.args.watchers.now.part in
    let rs = c.registrations-registrations.result.now in
    let k = c.loop-registration.registration-index in
    let none : RegistrationId = record { 0 = 0 } in
    let below : k < length rs = omega arith in
    let before = c.args.self.now in
    let now = c.loop-registration.self in
    room_after scene standings it before.seen now.seen before.clips now.clips c.loop-registration.invariant.looked (get_or rs k none).0
    (at_serial (MayBeWalked scene standings it before.seen before.clips) rs (serials_at it c.args.watcher.0) c.registrations-registrations.ensures.value c.requires.room k none below)

pub loop-registration-init : goal.loop-registration-init
loop-registration-init g c = record {
  looked = looked_nowhere (g.S.Geometry.scene c.args.scene.now) c.args.self.now.seen c.args.self.now.clips;
  kept = refl;
  known = c.requires.known;
  left = λ spot apart. record { touch = refl; sighting = refl };
  more = λ other is. is;
  others = λ spot apart. refl;
  touches = omega arith;
  noted = λ k below. absurd (omega (arith, below));
}

pub loop-registration-preserved : goal.loop-registration-preserved
loop-registration-preserved g c =
    let scene = g.S.Geometry.scene c.args.scene.now in
    let standings = g.S.Scene.standings c.args.scene.now in
    let it = c.args.watchers.now.part in
    let rs = c.registrations-registrations.result.now in
    let none : RegistrationId = record { 0 = 0 } in
    let so_far = c.loop-registration.invariant in
    let before = c.args.self.now in
    let was = c.loop-registration.self in
    let now = c.look_for.new.self in
    let look = c.look_for.ensures in
    record {
      looked = looked_then scene before.seen was.seen now.seen before.clips was.clips now.clips so_far.looked look.looked;
      kept = look.kept ∙ so_far.kept;
      known = look.known;
      left = λ spot apart.
          left_then before.seen was.seen now.seen before.clips.touches was.clips.touches now.clips.touches spot (so_far.left spot apart)
          (look.left spot (at_serial (AlongChain (IsNot spot) scene standings it) rs (serials_at it c.args.watcher.0) c.registrations-registrations.ensures.value apart c.loop-registration.registration-index none (omega arith)));
      more = λ other is. look.more other (so_far.more other is);
      others = λ spot apart.
          look.others spot (at_serial (AlongChain (IsNot spot) scene standings it) rs (serials_at it c.args.watcher.0) c.registrations-registrations.ensures.value apart c.loop-registration.registration-index none (omega arith))
          ∙ so_far.others spot apart;
      touches = omega (arith, so_far.touches, look.touches);
      noted = below_more (λ k. AlongChain (IsNoted c.look_for.new.looks) scene standings it (get_or rs k none).0) c.loop-registration.registration-index
          (λ k below. along_weaker scene standings it (IsNoted c.loop-registration.looks) (IsNoted c.look_for.new.looks) look.more (get_or rs k none).0 (so_far.noted k below))
          look.noted;
    }

pub returns-clause-noted : goal.returns-clause-noted
returns-clause-noted g c =
    let scene = g.S.Geometry.scene c.args.scene.now in
    let standings = g.S.Scene.standings c.args.scene.now in
    let it = c.args.watchers.now.part in
    let rs = c.registrations-registrations.result.now in
    let along = AlongChain (IsNoted c.loop-registration.looks) scene standings it in
    all_serials along rs (serials_at it c.args.watcher.0) c.registrations-registrations.ensures.value
    (λ k none below.
    subst (λ (r : RegistrationId). along r.0) (get_or_default rs k (record { 0 = 0 }) none below)
    (c.loop-registration.invariant.noted k (omega (arith, below))))

pub returns-clause-walked : goal.returns-clause-walked
returns-clause-walked g c = λ k d below.
    let scene = g.S.Geometry.scene c.args.scene.now in
    let it = c.args.watchers.now.part in
    let now = c.loop-registration.self in
    along_weaker scene (g.S.Scene.standings c.args.scene.now) it (IsNoted c.loop-registration.looks) (AgreesAt (scene_seen now.seen) scene)
    (agrees_noted scene (g.S.Geometry.rank c.args.scene.now) now.seen c.loop-registration.looks c.loop-registration.invariant.known)
    (get_or (serials_at it c.args.watcher.0) k d) (returns-clause-noted g c k d below)

pub returns-clause-registered : goal.returns-clause-registered
returns-clause-registered g c = λ margins registered.
    let it = c.args.watchers.now.part in
    let before = c.args.self.now in
    let now = c.loop-registration.self in
    let looked = c.loop-registration.invariant.looked in
    registered_alike it margins before now (λ serial. ap (λ pairs. spots_at (record before.clips { pairs = pairs }) serial) looked.pairs) c.loop-registration.invariant.kept
    (λ serial exact. looked.exact (seen_for it margins serial) (seen_spotwise it margins (place_of it serial).watcher) serial exact) registered
