use Rattle.std.proofs.Common.{◌≡◌, ap, sym, subst, ◌∙◌}
use Rattle.page_model.specs.Chains.{moved_back, origin}
use Rattle.page_model.specs.Findings.{relation}
use Rattle.intersection_observer.specs.Seen.{seen_root, seen_finding}
use Rattle.candidate_index.specs.Worlds.{told_box, told_cut}
use Rattle.clip_chain.specs.Ranges.{IsBounds}
use Rattle.clip_chain.specs.Scenes.{root_bounds}
use Rattle.clip_chain.specs.Worlds.{scene_of, spot_of_root}
use Rattle.candidate_index.proofs.Worlds.{same_bounds}
use Rattle.page_geometry.proofs.Moves.{bounds_wide, moved_near}
use Rattle.page_geometry.proofs.telling.ShownTells.told.Goals as goal

-- how far the root rectangle reaches
pub moved_back-requires-clause-rect : goal.moved_back-requires-clause-rect
moved_back-requires-clause-rect c =
    let bounds : c.root_bounds.result ≡ root_bounds (scene_of c.args.self.now) (spot_of_root (seen_root c.args.root)) = c.root_bounds.ensures.value ∙ sym (same_bounds c.args.self.now (seen_root c.args.root)) in
    moved_near (root_bounds (scene_of c.args.self.now) (spot_of_root (seen_root c.args.root))) c.args.found.root (subst IsBounds bounds c.root_bounds.ensures.range) c.requires.root

pub told_box-requires-clause-rect : goal.told_box-requires-clause-rect
told_box-requires-clause-rect c = bounds_wide c.args.found.target c.requires.bounds

pub told_cut-requires-clause-cut : goal.told_cut-requires-clause-cut
told_cut-requires-clause-cut c = bounds_wide c.args.found.cut c.requires.cut

pub returns-clause-value : goal.returns-clause-value
returns-clause-value c =
    let it = c.args.self.now in
    let lies = relation it (seen_root c.args.root) (c.args.target.0) in
    let begins = c.origin-from.ensures.value ∙ ap (origin it) c.document_of.ensures in
    let roots = c.moved_back.ensures.value ∙ ap (λ p. moved_back p c.args.found.root) c.root_origin.ensures.value in
    let boxes = c.told_box.ensures.value lies c.standing.ensures ∙ ap (λ p. told_box lies p c.args.found.target) begins in
    let cuts = c.told_cut.ensures.value ∙ ap (λ p. told_cut c.args.found.meets p c.args.found.cut) begins in
    λ i. record (seen_finding c.args.found) { root = roots i; bounds = boxes i; cut = cuts i }
