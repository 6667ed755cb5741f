-- The chain from an element with a box to the viewport of the top document.
use Rattle.std.proofs.Common.{◌≡◌, ◌∙◌, ℕ, true, List, ◌∷◌, Option, Some, None, option_map, refl, ap, sym}
use Rattle.px_units.specs.declared.Rect.{Rect}
use Rattle.page_model.specs.World.{ImplicitRoot}
use Rattle.page_model.specs.Shown.{Shown, has_box}
use Rattle.page_model.specs.Chains.{border_rect, clips_between, common_part, moved_back, origin_of_element, viewport_rect}
use Rattle.element_tree.specs.declared.container.Container.{Container}
use Rattle.clip_chain.specs.Chains.{IsAbove, Leads}
use Rattle.clip_chain.specs.Visible.{part_between}
use Rattle.clip_chain.specs.Worlds.{scene_of, element_spot, view_spot}
use Rattle.clip_chain.proofs.Worlds.{part_is}
use Rattle.page_geometry.specs.Scenes.{IsPageTree}
use Rattle.page_geometry.proofs.Chains.{above}
use Rattle.page_geometry.proofs.Ends.{few_between}
use Rattle.box_inspector.specs.Boxes.{seen_part}

module _ (it : Shown) (page : IsPageTree it.tree) (n : ℕ) (boxed : has_box it n ≡ true) where
  pub to_screen : IsAbove (scene_of it) (view_spot 0) (element_spot n)
  to_screen = above it.tree it.screen it.scrolls page.framed ImplicitRoot n boxed refl

  part_seen : part_between (scene_of it) (element_spot n) to_screen.0 (viewport_rect it 0) ≡ common_part (border_rect it n) (viewport_rect it 0 ∷ clips_between it ImplicitRoot n)
  part_seen =
      part_is it ImplicitRoot n to_screen.0 (viewport_rect it 0) to_screen.1
      (few_between it.tree it.screen it.scrolls page.framed page.few page.deep (element_spot n) (view_spot 0) to_screen.0 to_screen.1)

  pub seen_is : (screen : Rect) (result : Option Rect) → screen ≡ viewport_rect it 0
      → ((between : List Container) → Leads (scene_of it) (element_spot n) between (view_spot 0) → result ≡ part_between (scene_of it) (element_spot n) between screen)
      → result ≡ common_part (border_rect it n) (viewport_rect it 0 ∷ clips_between it ImplicitRoot n)
  seen_is screen result is part =
      part to_screen.0 to_screen.1 ∙ ap (λ limits. part_between (scene_of it) (element_spot n) to_screen.0 limits) is ∙ part_seen

-- what is told of a part, in the coordinates of the element's document
pub told_some : (it : Shown) (n : ℕ) (part told : Rect) → common_part (border_rect it n) (viewport_rect it 0 ∷ clips_between it ImplicitRoot n) ≡ Some part
    → told ≡ moved_back (origin_of_element it n) part → Some told ≡ seen_part it n
unfolding seen_part
told_some it n part told is moved = ap Some moved ∙ ap (option_map (moved_back (origin_of_element it n))) (sym is)

pub told_none : (it : Shown) (n : ℕ) → common_part (border_rect it n) (viewport_rect it 0 ∷ clips_between it ImplicitRoot n) ≡ None → None ≡ seen_part it n
unfolding seen_part
told_none it n is = ap (option_map (moved_back (origin_of_element it n))) (sym is)
