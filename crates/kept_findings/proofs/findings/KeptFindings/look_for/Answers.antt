use Rattle.std.proofs.Common.{◌∙◌, refl, sym, subst}
use Rattle.element_tree.specs.declared.container.Container.{Container}
use Rattle.clip_chain.specs.Chains.{IsAbove}
use Rattle.clip_chain.specs.Worlds.{element_spot, spot_of_root}
use Rattle.intersection_observer.specs.Seen.{seen_root}
use Rattle.kept_clips.specs.Looked.{MayBeSeen}
use Rattle.kept_clips.proofs.Looking.{looked_nowhere}
use Rattle.candidate_index.proofs.Asking.{where_chained}
use Rattle.kept_findings.specs.Looks.{IsNoted}
use Rattle.kept_findings.specs.Walks.{EachAlong, IsNot}
use Rattle.kept_findings.proofs.Walking.{chained_fact, unless_chained, root_known, target_known, along_there, along_here}
use Rattle.kept_findings.proofs.findings.KeptFindings.look_for.Goals as goal

pub look_along-requires-clause-above : goal.look_along-requires-clause-above
look_along-requires-clause-above g c =
    let scene = g.S.Geometry.scene c.args.scene.now in
    let standings = g.S.Scene.standings c.args.scene.now in
    let root = seen_root c.root_of-root.result in
    let target = c.target_of-target.result.0 in
    subst (λ (s : Container). IsAbove scene s (element_spot target)) (sym c.spot_of_root.ensures)
    (where_chained (standings root target) (IsAbove scene (spot_of_root root) (element_spot target)) (sym c.standing.ensures ∙ c.in-Chained.is) (c.requires.chained root target))

pub look_along-requires-clause-room : goal.look_along-requires-clause-room
look_along-requires-clause-room g c =
    let scene = g.S.Geometry.scene c.args.scene.now in
    let standings = g.S.Scene.standings c.args.scene.now in
    let it = c.args.watchers.now.part in
    let serial = c.args.registration.0 in
    let root = seen_root c.root_of-root.result in
    let target = c.target_of-target.result.0 in
    let may = MayBeSeen c.args.self.now.seen c.args.self.now.clips in
    subst (EachAlong may scene (element_spot target)) (sym c.spot_of_root.ensures)
    (where_chained (standings root target) (EachAlong may scene (element_spot target) (spot_of_root root)) (sym c.standing.ensures ∙ c.in-Chained.is)
    (along_there it serial may scene standings root target
    (root_known it serial c.watcher_of.result.0 root c.watcher_of.ensures.value c.root_of-root.ensures) (target_known it serial target c.target_of-target.ensures) c.requires.room))

pub returns-in_default-clause-looked : goal.returns-in_default-clause-looked
returns-in_default-clause-looked g c = looked_nowhere (g.S.Geometry.scene c.args.scene.now) c.args.self.now.seen c.args.self.now.clips

pub returns-in_default-clause-noted : goal.returns-in_default-clause-noted
returns-in_default-clause-noted g c =
    let scene = g.S.Geometry.scene c.args.scene.now in
    let standings = g.S.Scene.standings c.args.scene.now in
    let it = c.args.watchers.now.part in
    let serial = c.args.registration.0 in
    let root = seen_root c.root_of-root.result in
    let target = c.target_of-target.result.0 in
    let noted = IsNoted c.args.looks.now in
    along_here it serial noted scene standings root target
    (root_known it serial c.watcher_of.result.0 root c.watcher_of.ensures.value c.root_of-root.ensures) (target_known it serial target c.target_of-target.ensures)
    (unless_chained (standings root target) (EachAlong noted scene (element_spot target) (spot_of_root root)) (λ e. c.in_default.not-Chained (c.standing.ensures ∙ e)))

pub returns-clause-noted : goal.returns-clause-noted
returns-clause-noted g c =
    let scene = g.S.Geometry.scene c.args.scene.now in
    let standings = g.S.Scene.standings c.args.scene.now in
    let it = c.args.watchers.now.part in
    let serial = c.args.registration.0 in
    let root = seen_root c.root_of-root.result in
    let target = c.target_of-target.result.0 in
    let noted = IsNoted c.look_along.new.looks in
    along_here it serial noted scene standings root target
    (root_known it serial c.watcher_of.result.0 root c.watcher_of.ensures.value c.root_of-root.ensures) (target_known it serial target c.target_of-target.ensures)
    (chained_fact (standings root target) (EachAlong noted scene (element_spot target) (spot_of_root root)) (subst (EachAlong noted scene (element_spot target)) c.spot_of_root.ensures c.look_along.ensures.noted))

pub returns-in_default-clause-left : goal.returns-in_default-clause-left
returns-in_default-clause-left g c = λ spot apart. record { touch = refl; sighting = refl }

pub returns-in_default-clause-others : goal.returns-in_default-clause-others
returns-in_default-clause-others g c = λ spot apart. refl

pub returns-clause-others : goal.returns-clause-others
returns-clause-others g c = λ spot apart.
    let scene = g.S.Geometry.scene c.args.scene.now in
    let standings = g.S.Scene.standings c.args.scene.now in
    let it = c.args.watchers.now.part in
    let serial = c.args.registration.0 in
    let root = seen_root c.root_of-root.result in
    let target = c.target_of-target.result.0 in
    c.look_along.ensures.others spot
    (subst (EachAlong (IsNot spot) scene (element_spot target)) (sym c.spot_of_root.ensures)
    (where_chained (standings root target) (EachAlong (IsNot spot) scene (element_spot target) (spot_of_root root)) (sym c.standing.ensures ∙ c.in-Chained.is)
    (along_there it serial (IsNot spot) scene standings root target
    (root_known it serial c.watcher_of.result.0 root c.watcher_of.ensures.value c.root_of-root.ensures) (target_known it serial target c.target_of-target.ensures) apart)))

pub returns-clause-left : goal.returns-clause-left
returns-clause-left g c = λ spot apart.
    let scene = g.S.Geometry.scene c.args.scene.now in
    let standings = g.S.Scene.standings c.args.scene.now in
    let it = c.args.watchers.now.part in
    let serial = c.args.registration.0 in
    let root = seen_root c.root_of-root.result in
    let target = c.target_of-target.result.0 in
    c.look_along.ensures.left spot
    (subst (EachAlong (IsNot spot) scene (element_spot target)) (sym c.spot_of_root.ensures)
    (where_chained (standings root target) (EachAlong (IsNot spot) scene (element_spot target) (spot_of_root root)) (sym c.standing.ensures ∙ c.in-Chained.is)
    (along_there it serial (IsNot spot) scene standings root target
    (root_known it serial c.watcher_of.result.0 root c.watcher_of.ensures.value c.root_of-root.ensures) (target_known it serial target c.target_of-target.ensures) apart)))
