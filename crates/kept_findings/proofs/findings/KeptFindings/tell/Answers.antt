use Rattle.std.proofs.Common.{sym}
use Rattle.intersection_observer.specs.Seen.{seen_root, seen_finding}
use Rattle.candidate_index.specs.Registrations.{target_of}
use Rattle.kept_findings.specs.Walks.{spots_between}
use Rattle.kept_findings.proofs.Walking.{is_between, target_known}
use Rattle.kept_findings.proofs.Finding.{told_is}
use Rattle.kept_findings.proofs.findings.KeptFindings.tell.Goals as goal

pub returns-clause-told : goal.returns-clause-told
returns-clause-told g c = λ chained.
    let scene = g.S.Geometry.scene c.args.scene.now in
    let standings = g.S.Scene.standings c.args.scene.now in
    let it = c.args.watchers.now.part in
    let serial = c.args.registration.0 in
    told_is scene standings chained (g.S.Tells.telling c.args.scene.now) it c.args.scroll_margins.now serial c.args.watcher.0 c.target_of.result.0 (target_of it serial) (seen_root c.root_of.result)
    (seen_finding c.recompute-found.result) (seen_finding c.told.result) c.requires.stands (sym c.root_of.ensures) (target_known it serial c.target_of.result.0 c.target_of.ensures)
    (c.recompute-found.ensures.finding (spots_between scene standings chained it) (is_between scene standings chained it serial)) c.told.ensures.value

pub returns-clause-kept : goal.returns-clause-kept
returns-clause-kept g c = (c.recompute-found.result, (sym c.told.ensures.index, sym c.told.ensures.meets, c.recompute-found.ensures.kept))
