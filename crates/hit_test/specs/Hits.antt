-- What a point hits (CSSOM View, 5: elementsFromPoint). Which points a box holds is this project's own.
use Rattle.std.specs.Prelude.{ℕ, ℤ, Bool, ◌&&◌, int_le, int_lt, List, ◌∷◌, reverse, filter, filter_map}
use Rattle.std.specs.List.{list_all}
use Rattle.px_units.specs.declared.Rect.{Rect}
use Rattle.px_units.specs.declared.Point.{Point}
use Rattle.page_model.specs.World.{ImplicitRoot, World}
use Rattle.page_model.specs.PageBoxes as boxes
use Rattle.page_model.specs.Shown.{Shown, shown_of, has_box}
use Rattle.page_model.specs.Chains.{border_rect, clips_between, viewport_rect}
use Rattle.element_tree.specs.declared.container.Container.{Container}
use Rattle.clip_chain.specs.Worlds.{view_spot}
use Rattle.clip_chain.specs.Scenes.{Scene}
use Rattle.hit_test.specs.Painting.{paint_order}

-- whether a place lies between two edges, the first one included and the second one not
abbrev pub is_between : ℤ → ℤ → ℤ → Bool
is_between low high at = int_le low at && int_lt at high

-- whether a point lies in a rectangle: on its left or top edge too, and not on its right or bottom one
abbrev pub has_point : Point → Rect → Bool
has_point at r = is_between r.left r.right at.left && is_between r.top r.bottom at.top

-- whether a point of the top document's viewport hits an element: it has a box, and its border box, that viewport and each clip
-- between the element and the viewport hold the point
unfoldable pub is_hit : Shown → Point → ℕ → Bool
unfolding border_rect clips_between boxes.has_box viewport_rect
is_hit shown at n =
    has_box shown n && list_all (has_point at) (border_rect shown n ∷ viewport_rect shown 0 ∷ clips_between shown ImplicitRoot n)

-- the elements that a point hits, the topmost first
unfoldable pub hits : World → Point → List ℕ
unfolding is_hit paint_order
hits world at = reverse (filter (is_hit (shown_of world) at) (paint_order (world.tree)))

-- the same for a target with these spots between it and the viewport of the top document
abbrev pub shows_between : Scene → Point → Container → List Container → Bool
shows_between scene at target between = list_all (has_point at) (scene.bounds target ∷ scene.bounds (view_spot 0) ∷ filter_map (scene.clip) between)
