-- Room for what is seen along the chains of registrations.
use Rattle.std.proofs.Common.{ℕ, ◌∷◌, ◌++◌, [], length}
use Rattle.page_model.specs.Shown.{Shown}
use Rattle.page_model.specs.World.{IntersectionObservers}
use Rattle.element_tree.specs.declared.container.Container.{Container}
use Rattle.element_tree.specs.declared.container.Container.TheVariants.{Element, Document}
use Rattle.clip_chain.specs.Worlds.{scene_of, element_spot, spot_of_root}
use Rattle.kept_clips.specs.Looked.{MayBeSeen}
use Rattle.candidate_index.specs.Registrations.{observer_of, target_of, standing_for}
use Rattle.kept_findings.specs.Held.{HeldFindings}
use Rattle.kept_findings.specs.Rooms.{HaveRoom}
use Rattle.kept_findings.specs.Walks.{EachAlong, MayBeWalked}
use Rattle.kept_findings.proofs.Along.{all_weaker}
use Rattle.kept_findings.proofs.Walking.{chained_fact}
use Rattle.page_geometry.specs.Scenes.{IsPageTree, IsThere, standings_of}
use Rattle.page_geometry.proofs.Scenes.{there_along}

-- where there is room for each element and document, each chain may be looked along
pub may_be_walked : (shown : Shown) → IsPageTree shown.tree → (it : IntersectionObservers) (held : HeldFindings) → HaveRoom (length shown.tree.elements) (length shown.tree.documents) held → (serial : ℕ) →
    MayBeWalked (scene_of shown) (standings_of shown) it held.seen held.clips serial
may_be_walked shown page it held room serial =
    let target = element_spot (target_of it serial) in
    let root = spot_of_root (observer_of it serial).root in
    chained_fact (standing_for (standings_of shown) it serial) (EachAlong (MayBeSeen held.seen held.clips) (scene_of shown) target root)
    (λ between leads. all_weaker (IsThere shown.tree) (MayBeSeen held.seen held.clips) each (target ∷ (between ++ root ∷ [])) (there_along shown page target root between leads))
  where
    each : (spot : Container) → IsThere shown.tree spot → MayBeSeen held.seen held.clips spot
    each (Element node) there = room.nodes (node.0) there
    each (Document document) there = room.views document.0 there
