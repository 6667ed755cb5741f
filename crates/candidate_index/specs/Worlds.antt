-- Findings, translated to the coordinates of a world's findings: the target's box and the visible part of it to those of the
-- target's document, and the root rectangle to those of the root's document. A zero rectangle that stands for a missing one isn't
-- translated.
use Rattle.std.specs.Prelude.{ℕ, ◌≤◌, Bool, true, false, List, length}
use Rattle.px_units.specs.declared.Point.{Point}
use Rattle.px_units.specs.declared.Rect.{Rect}
use Rattle.page_model.specs.Shown.{Shown}
use Rattle.page_model.specs.World.{Root, Finding, IntersectionObserver}
use Rattle.page_model.specs.Chains.{moved_back, origin_of_element, most_containers}
use Rattle.page_model.specs.Findings.{Relation, Apart, Boxless, Chained, root_origin}
use Rattle.element_tree.specs.declared.container.Container.{Container}
use Rattle.clip_chain.specs.Chains.{Leads}
use Rattle.clip_chain.specs.Worlds.{scene_of, element_spot, spot_of_root}
use Rattle.candidate_index.specs.declared.scene.Standing.{Standing}
use Rattle.candidate_index.specs.declared.scene.Standing.TheVariants as standings

abbrev pub standing_in : Relation → Standing
standing_in Apart = standings.Apart
standing_in Boxless = standings.NoBox
standing_in Chained = standings.Chained

abbrev pub told_cut : Bool → Point → Rect → Rect
told_cut true from cut = moved_back from cut
told_cut false from cut = cut

abbrev pub told_box : Relation → Point → Rect → Rect
told_box Apart from box = box
told_box Boxless from box = box
told_box Chained from box = moved_back from box

abbrev pub told : Shown → IntersectionObserver → ℕ → Relation → Finding → Finding
told shown observer target relation it = record it {
  root = moved_back (root_origin shown observer.root) (it.root);
  bounds = told_box relation (origin_of_element shown target) (it.bounds);
  cut = told_cut (it.meets) (origin_of_element shown target) (it.cut);
}

-- a chain from a target to a root that is no longer than the definitions of a world follow one
abbrev pub IsChain : Shown → Root → ℕ → List Container → Type 0
IsChain shown root target between = Leads (scene_of shown) (element_spot target) between (spot_of_root root) × (length between ≤ most_containers)
