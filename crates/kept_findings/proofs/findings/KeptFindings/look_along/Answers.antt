use Rattle.std.proofs.Common.{◌≡◌, ◌∙◌, ◌∷◌, [], Some, inl, inr, arith}
use Rattle.clip_chain.proofs.Leading.{above_outwards, none_above}
use Rattle.kept_clips.specs.Looked.{MayBeSeen}
use Rattle.kept_clips.proofs.Looking.{looked_then, may_after}
use Rattle.kept_findings.specs.Looks.{IsNoted}
use Rattle.kept_findings.specs.Walks.{IsNot}
use Rattle.kept_findings.proofs.Noting.{left_then}
use Rattle.kept_findings.proofs.Along.{all_later, passes_first, passes_next, at_next, passes_last}
use Rattle.kept_findings.proofs.findings.KeptFindings.look_along.Goals as goal

pub look_at-requires-clause-room : goal.look_at-requires-clause-room
look_at-requires-clause-room g c = (c.requires.room c.requires.above.0 c.requires.above.1).0

pub look_at-requires-2-clause-room : goal.look_at-requires-2-clause-room
look_at-requires-2-clause-room g c =
    let before = c.args.self.now in
    let now = c.look_at.new.self in
    let last = (all_later (MayBeSeen before.seen before.clips) c.requires.above.0 (c.args.root ∷ []) (c.requires.room c.requires.above.0 c.requires.above.1).1).0 in
    may_after (g.S.Geometry.scene c.args.scene.now) before.seen now.seen before.clips now.clips c.args.root c.look_at.ensures.looked last

pub look_at-requires-in-Some-clause-room : goal.look_at-requires-in-Some-clause-room
look_at-requires-in-Some-clause-room g c =
    let scene = g.S.Geometry.scene c.args.scene.now in
    let before = c.args.self.now in
    let now = c.loop-next.self in
    let so_far = c.loop-next.invariant in
    let e : (scene.container c.loop-next.spot ≡ Some c.in-Some.next) × (¬ c.in-Some.next ≡ c.args.root) = c.in-Some.ensures.next in
    let first = at_next scene c.args.root c.args.of (IsNoted c.loop-next.looks) (MayBeSeen before.seen before.clips) c.loop-next.spot c.in-Some.next
    so_far.passed e.0 e.1 (above_outwards scene c.args.root c.loop-next.spot c.in-Some.next e.0 e.1 so_far.above)
    c.requires.room c.requires.above.0 c.requires.above.1 in
    may_after scene before.seen now.seen before.clips now.clips c.in-Some.next so_far.looked first

pub loop-next-init : goal.loop-next-init
loop-next-init g c =
    let scene = g.S.Geometry.scene c.args.scene.now in
    let before = c.args.self.now in
    let between = c.look_at.new.self in
    let now = c.look_at-2.new.self in
    record {
      above = c.requires.above;
      looked = looked_then scene before.seen between.seen now.seen before.clips between.clips now.clips c.look_at.ensures.looked c.look_at-2.ensures.looked;
      kept = c.look_at-2.ensures.kept ∙ c.look_at.ensures.kept;
      known = c.look_at-2.ensures.known;
      first = c.look_at-2.ensures.more c.args.of c.look_at.ensures.noted;
      last = c.look_at-2.ensures.noted;
      passed = passes_first scene c.args.root c.args.of (IsNoted c.look_at-2.new.looks);
      left = λ spot apart.
          let along = apart c.requires.above.0 c.requires.above.1 in
          left_then before.seen between.seen now.seen before.clips.touches between.clips.touches now.clips.touches spot (c.look_at.ensures.left spot along.0)
          (c.look_at-2.ensures.left spot (all_later (IsNot spot) c.requires.above.0 (c.args.root ∷ []) along.1).0);
      more = λ other is. c.look_at-2.ensures.more other (c.look_at.ensures.more other is);
      others = λ spot apart.
          let along = apart c.requires.above.0 c.requires.above.1 in
          c.look_at-2.ensures.others spot (all_later (IsNot spot) c.requires.above.0 (c.args.root ∷ []) along.1).0 ∙ c.look_at.ensures.others spot along.0;
      touches = omega (arith, c.look_at.ensures.touches, c.look_at-2.ensures.touches);
    }

pub loop-next-preserved : goal.loop-next-preserved
loop-next-preserved g c =
    let scene = g.S.Geometry.scene c.args.scene.now in
    let before = c.args.self.now in
    let was = c.loop-next.self in
    let now = c.look_at-in-Some.new.self in
    let so_far = c.loop-next.invariant in
    let look = c.look_at-in-Some.ensures in
    let e : (scene.container c.loop-next.spot ≡ Some c.in-Some.next) × (¬ c.in-Some.next ≡ c.args.root) = c.in-Some.ensures.next in
    record {
      above = above_outwards scene c.args.root c.loop-next.spot c.in-Some.next e.0 e.1 so_far.above;
      looked = looked_then scene before.seen was.seen now.seen before.clips was.clips now.clips so_far.looked look.looked;
      kept = look.kept ∙ so_far.kept;
      known = look.known;
      first = look.more c.args.of so_far.first;
      last = look.more c.args.root so_far.last;
      passed = passes_next scene c.args.root c.args.of (IsNoted c.loop-next.looks) (IsNoted c.look_at-in-Some.new.looks) c.loop-next.spot c.in-Some.next so_far.passed look.more e.0 e.1 look.noted;
      left = λ spot apart.
          left_then before.seen was.seen now.seen before.clips.touches was.clips.touches now.clips.touches spot (so_far.left spot apart)
          (look.left spot
          (at_next scene c.args.root c.args.of (IsNoted c.loop-next.looks) (IsNot spot) c.loop-next.spot c.in-Some.next so_far.passed e.0 e.1
          (above_outwards scene c.args.root c.loop-next.spot c.in-Some.next e.0 e.1 so_far.above) apart c.requires.above.0 c.requires.above.1));
      more = λ other is. look.more other (so_far.more other is);
      others = λ spot apart.
          look.others spot
          (at_next scene c.args.root c.args.of (IsNoted c.loop-next.looks) (IsNot spot) c.loop-next.spot c.in-Some.next so_far.passed e.0 e.1
          (above_outwards scene c.args.root c.loop-next.spot c.in-Some.next e.0 e.1 so_far.above) apart c.requires.above.0 c.requires.above.1)
          ∙ so_far.others spot apart;
      touches = omega (arith, so_far.touches, look.touches);
    }

pub returns-clause-noted : goal.returns-clause-noted
returns-clause-noted g c =
    let scene = g.S.Geometry.scene c.args.scene.now in
    let so_far = c.loop-next.invariant in
    let at_root : scene.container c.loop-next.spot ≡ Some c.args.root = (elim (c.container_seen.ensures.none c.in_default.is) [
      | inl e ↦ absurd (none_above scene c.args.root c.loop-next.spot e so_far.above)
      | inr e ↦ e
    ]) in
    passes_last scene c.args.root c.args.of (IsNoted c.loop-next.looks) c.loop-next.spot so_far.passed at_root so_far.first so_far.last
