use Rattle.std.proofs.Common.{◌≡◌, ◌∙◌, ap, sym, subst}
use Rattle.px_units.specs.declared.Rect.{Rect}
use Rattle.page_model.specs.Lookups.{intersection_observer_at}
use Rattle.element_tree.specs.declared.container.Container.{Container}
use Rattle.clip_chain.specs.Scenes.{through, root_bounds}
use Rattle.clip_chain.specs.Worlds.{spot_of_root, scene_of}
use Rattle.clip_chain.proofs.Moving.{root_through}
use Rattle.intersection_observer.specs.Places.{Standing as Place, standing_of}
use Rattle.intersection_observer.specs.Seen.{seen_root, seen_finding}
use Rattle.candidate_index.specs.Ranges.{IsPlaced}
use Rattle.candidate_index.specs.Registrations.{observer_of}
use Rattle.candidate_index.proofs.Places.{looked_up}
use Rattle.page_tests.proofs.page_geometry_tests.find_anew.Goals as goal

pub told-requires : goal.told-requires
told-requires g c =
    let it = c.args.watchers.now.part in
    let serial = c.args.registration.0 in
    let scene = scene_of c.args.shown.now in
    let found = seen_finding c.recompute-found.result in
    let root = spot_of_root (observer_of it serial).root in
    let same : spot_of_root (seen_root c.root_of-root.result) ≡ root =
    ap spot_of_root (c.root_of-root.ensures
    ∙ ap (λ w. (intersection_observer_at it w).root)
    (sym (looked_up (λ (p : Place). p.watcher) (standing_of serial it) (record { watcher = 0; target = 0 }) c.watcher_of.result.0 c.watcher_of.ensures.value))) in
    subst (λ (r : Container). IsPlaced (root_bounds scene r) found) (sym same)
    (subst (λ (r : Rect). IsPlaced r found) (root_through scene c.args.scroll.now root)
    (subst (λ (r : Container). IsPlaced (root_bounds (through r c.args.scroll.now scene) root) found) (c.spot_of_root.ensures ∙ same)
    c.recompute-found.ensures.placed))
