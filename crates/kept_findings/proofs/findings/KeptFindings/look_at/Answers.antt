use Rattle.std.proofs.Common.{◌≡◌, ◌∙◌, false, ap, sym, subst, arith, tests}
use Rattle.element_tree.specs.declared.container.Container.{Container}
use Rattle.kept_clips.specs.Seen.{sighting_in, with_sighting, HasRoom}
use Rattle.kept_clips.specs.Looked.{IsLeft}
use Rattle.kept_findings.specs.Looks.{LookedAt, AreLooked, is_looked, looked_count}
use Rattle.kept_findings.specs.Held.{HeldFindings}
use Rattle.kept_findings.proofs.Noting.{looked_more, noted_there, count_noted, touched_once, left_there}
use Rattle.kept_findings.proofs.findings.KeptFindings.look_at.Goals as goal

pub returns-then-not-is_looked-clause-known : goal.returns-then-not-is_looked-clause-known
returns-then-not-is_looked-clause-known g c =
    let scene = g.S.Geometry.scene c.args.scene.now in
    let of : Container = c.args.of in
    subst (λ looks. AreLooked scene (g.S.Geometry.rank c.args.scene.now) c.look.new.self looks) (sym c.note.ensures)
    (looked_more scene (g.S.Geometry.rank c.args.scene.now) c.args.self.now.seen c.look.new.self c.args.looks.now of c.requires.room.room
    (c.look.ensures.seen ∙ ap (λ (held : HeldFindings). with_sighting of (sighting_in scene of) held.seen) c.self.view_is) c.look.ensures.in_range c.requires.known)

pub returns-then-not-is_looked-clause-left : goal.returns-then-not-is_looked-clause-left
returns-then-not-is_looked-clause-left g c = λ spot apart.
    let scene = g.S.Geometry.scene c.args.scene.now in
    let left = left_there scene c.self.inside.seen c.look.new.self c.self.inside.clips c.look.new.clips c.args.of spot (sighting_in scene c.args.of) c.look.ensures.looked c.look.ensures.seen apart in
    subst (λ (held : HeldFindings). IsLeft held.seen c.look.new.self held.clips.touches c.look.new.clips.touches spot) c.self.view_is left

pub returns-then-not-is_looked-clause-others : goal.returns-then-not-is_looked-clause-others
returns-then-not-is_looked-clause-others g c = λ spot apart.
    ap (λ (it : LookedAt). is_looked it spot) c.note.ensures ∙ noted_there c.args.looks.now c.args.of spot (λ same. apart (sym same))

pub returns-then-not-is_looked-clause-touches : goal.returns-then-not-is_looked-clause-touches
returns-then-not-is_looked-clause-touches g c =
    let room = c.requires.room.room in
    let not_yet : c.is_looked.result ≡ false = grind (arith, tests, c.if-not-is_looked.true) in
    let more = ap looked_count c.note.ensures ∙ count_noted c.args.looks.now c.args.of (c.requires.known.place c.args.of room) (sym c.is_looked.ensures ∙ not_yet) in
    let before : c.self.inside.clips.touches.count ≡ c.args.self.now.clips.touches.count = ap (λ (held : HeldFindings). held.clips.touches.count) c.self.view_is in
    let once = touched_once (g.S.Geometry.scene c.args.scene.now) c.self.inside.seen c.look.new.self c.self.inside.clips c.look.new.clips c.args.of
    (subst (λ (held : HeldFindings). HasRoom held.seen c.args.of) (sym c.self.view_is) room) c.look.ensures.seen c.look.ensures.same c.look.ensures.touched c.look.ensures.looked in
    omega (arith, more, before, once)
