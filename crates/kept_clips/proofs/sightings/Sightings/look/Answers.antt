use Rattle.std.proofs.Common.{◌∙◌, Some, sym, subst}
use Rattle.std.proofs.lemmas.Bool.{false≢true}
use Rattle.kept_clips.specs.declared.sightings.Sighting.{Sighting}
use Rattle.kept_clips.specs.Seen.{Seen, scene_seen, with_sighting}
use Rattle.kept_clips.specs.Chains.{IsExact}
use Rattle.kept_clips.specs.Scenes.{AgreesAt}
use Rattle.kept_clips.proofs.Looking.{looked_once}
use Rattle.kept_clips.proofs.Seeing.{differs_there, agrees_here, agrees_still}
use Rattle.kept_clips.proofs.sightings.Sightings.look.Goals as goal

pub returns-then-not-is_as_seen-clause-seen : goal.returns-then-not-is_as_seen-clause-seen
returns-then-not-is_as_seen-clause-seen g c =
    let container = c.container.ensures.container in
    let clip = c.clip.ensures.clip in
    let bounds = c.bounds.ensures.bounds in
    let scrolls = c.scrolls.ensures.scrolls in
    c.put.ensures ∙ (λ i. with_sighting c.args.of (record { container = container i; clip = clip i; bounds = bounds i; scrolls = scrolls i }) c.args.self.now)

pub returns-then-not-is_as_seen-clause-agreed : goal.returns-then-not-is_as_seen-clause-agreed
returns-then-not-is_as_seen-clause-agreed g c = λ other was.
    let scene = g.G.Geometry.scene c.args.geometry.now in
    subst (λ (seen : Seen). AgreesAt (scene_seen seen) scene other) (sym (returns-then-not-is_as_seen-clause-seen g c))
    (agrees_still c.args.self.now c.args.of other scene c.requires.room was)

pub returns-then-not-is_as_seen-clause-agrees : goal.returns-then-not-is_as_seen-clause-agrees
returns-then-not-is_as_seen-clause-agrees g c =
    let scene = g.G.Geometry.scene c.args.geometry.now in
    subst (λ (seen : Seen). AgreesAt (scene_seen seen) scene c.args.of) (sym (returns-then-not-is_as_seen-clause-seen g c))
    (agrees_here c.args.self.now c.args.of scene c.requires.room)

pub returns-then-not-is_as_seen-clause-exact : goal.returns-then-not-is_as_seen-clause-exact
returns-then-not-is_as_seen-clause-exact g c = λ view spotwise number exact.
    let now : Sighting = record { container = c.container.result; clip = c.clip.result; bounds = c.bounds.result; scrolls = c.scrolls.result } in
    subst (λ (seen : Seen). IsExact (view (scene_seen seen)) c.touch.new.self number) (sym c.put.ensures)
    (c.touch.ensures.exact (view (scene_seen c.args.self.now)) (view (scene_seen (with_sighting c.args.of now c.args.self.now))) number exact
    (λ other apart. spotwise (scene_seen c.args.self.now) (scene_seen (with_sighting c.args.of now c.args.self.now)) other (differs_there c.args.self.now c.args.of now other apart)))

pub returns-then-not-is_as_seen-clause-looked : goal.returns-then-not-is_as_seen-clause-looked
returns-then-not-is_as_seen-clause-looked g c =
    let container = c.container.ensures.container in
    let clip = c.clip.ensures.clip in
    let bounds = c.bounds.ensures.bounds in
    let scrolls = c.scrolls.ensures.scrolls in
    looked_once (g.G.Geometry.scene c.args.geometry.now) c.args.self.now c.put.new.self c.args.clips.now c.touch.new.self c.args.of c.requires.room c.requires.added
    (λ e. false≢true (sym c.if-not-is_as_seen.true ∙ c.is_as_seen.ensures.1 (e ∙ (λ i. Some (record { container = sym container i; clip = sym clip i; bounds = sym bounds i; scrolls = sym scrolls i })))))
    (returns-then-not-is_as_seen-clause-seen g c) c.touch.ensures.touched c.touch.ensures.count (returns-then-not-is_as_seen-clause-exact g c) c.touch.ensures.stood
