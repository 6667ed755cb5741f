-- The chain from an element with a box to the viewport of the top document.
use Rattle.std.proofs.Common.{◌≡◌, ◌∙◌, ℕ, Bool, true, false, cond, ◌&&◌, List, [], ◌∷◌, ◌++◌, filter, filter_map, map, reverse, Result, Ok, Err, IfOk, refl, ap, sym, subst, ◌<◌, All, length, IsPermutation}
use Rattle.std.specs.List.{list_all}
use Rattle.std.proofs.lemmas.List.{map-append, reverse-append}
use Rattle.std.proofs.lemmas.List.Elements.{All-weaker, filter_passes}
use Rattle.std.proofs.lemmas.List.Sorted.{All-permutation}
use Rattle.std.proofs.lemmas.Bool.{and_parts}
use Rattle.page_boxes.proofs.Pages.{made_if_boxed}
use Rattle.px_units.specs.declared.Point.{Point}
use Rattle.element_tree.specs.declared.node.NodeId.{NodeId}
use Rattle.element_tree.specs.Links.{number}
use Rattle.page_model.specs.World.{ImplicitRoot, World}
use Rattle.page_model.specs.Shown.{Shown, shown_of, has_box}
use Rattle.page_model.specs.Chains.{border_rect, clips_between, viewport_rect, zero_rect}
use Rattle.element_tree.specs.declared.container.Container.{Container}
use Rattle.clip_chain.specs.Chains.{IsAbove, Leads}
use Rattle.clip_chain.specs.Worlds.{scene_of, element_spot, view_spot}
use Rattle.clip_chain.proofs.Worlds.{clips_are}
use Rattle.page_geometry.specs.Scenes.{IsPageTree}
use Rattle.page_geometry.proofs.Chains.{above}
use Rattle.page_geometry.proofs.Ends.{few_between}
use Rattle.hit_test.specs.Hits.{has_point, hits, is_hit, shows_between}
use Rattle.hit_test.specs.Painting.{paint_order}

module _ (it : Shown) (page : IsPageTree it.tree) (n : ℕ) (boxed : has_box it n ≡ true) where
  pub to_screen : IsAbove (scene_of it) (view_spot 0) (element_spot n)
  to_screen = above it.tree it.screen it.scrolls page.framed ImplicitRoot n boxed refl

  pub hit_is : (at : Point) → shows_between (scene_of it) at (element_spot n) to_screen.0 ≡ is_hit it at n
  unfolding is_hit
  hit_is at =
      ap (λ b. list_all (has_point at) (cond b (border_rect it n) zero_rect ∷ viewport_rect it 0 ∷ filter_map (scene_of it).clip to_screen.0)) boxed
      ∙ ap (λ clips. list_all (has_point at) (border_rect it n ∷ viewport_rect it 0 ∷ clips))
      (clips_are it ImplicitRoot n to_screen.0 to_screen.1
      (few_between it.tree it.screen it.scrolls page.framed page.few page.deep (element_spot n) (view_spot 0) to_screen.0 to_screen.1))
      ∙ ap (λ b. b && list_all (has_point at) (border_rect it n ∷ viewport_rect it 0 ∷ clips_between it ImplicitRoot n)) (sym boxed)

  pub hit_told : {E : Type 0} (at : Point) (result : Result Bool E)
      → IfOk result (λ shows. (between : List Container) → Leads (scene_of it) (element_spot n) between (view_spot 0)
      → shows ≡ shows_between (scene_of it) at (element_spot n) between)
      → IfOk result (λ hit. hit ≡ is_hit it at n)
  hit_told at (Ok shows) told = told to_screen.0 to_screen.1 ∙ hit_is at
  hit_told at (Err fault) told = tt

pub boxless : (it : Shown) (at : Point) (n : ℕ) → has_box it n ≡ false → is_hit it at n ≡ false
unfolding is_hit
boxless it at n none = ap (λ b. b && list_all (has_point at) (border_rect it n ∷ viewport_rect it 0 ∷ clips_between it ImplicitRoot n)) none

-- elements by their numbers

numbers_kept : (p : ℕ → Bool) (nodes : List NodeId) → map number (filter (λ node. p (node.0)) nodes) ≡ filter p (map number nodes)
numbers_kept p [] = refl
numbers_kept p (node ∷ nodes) = elim (p (node.0)) as (λ b. map number (cond b (node ∷ filter (λ (each : NodeId). p (each.0)) nodes) (filter (λ (each : NodeId). p (each.0)) nodes))
    ≡ cond b (node.0 ∷ filter p (map number nodes)) (filter p (map number nodes))) [
      | true ↦ ap (λ xs. node.0 ∷ xs) (numbers_kept p nodes)
      | false ↦ numbers_kept p nodes
    ]

map_reverse : (nodes : List NodeId) → map number (reverse nodes) ≡ reverse (map number nodes)
map_reverse [] = refl
map_reverse (node ∷ nodes) =
    ap (map number) (reverse-append (node ∷ []) nodes)
    ∙ map-append number (reverse nodes) (node ∷ [])
    ∙ ap (λ xs. xs ++ node.0 ∷ []) (map_reverse nodes)
    ∙ sym (reverse-append (node.0 ∷ []) (map number nodes))

pub turned : (p : ℕ → Bool) (painted found back : List NodeId) (order : List ℕ) → map number painted ≡ order → found ≡ filter (λ node. p (node.0)) painted
    → back ≡ reverse found → map number back ≡ reverse (filter p order)
turned p painted found back order is kept turned_round =
    ap (map number) turned_round ∙ map_reverse found
    ∙ ap reverse (ap (map number) kept ∙ numbers_kept p painted ∙ ap (filter p) is)

-- what is found of what a page shows is what is found of the page
pub hits_are : {A E : Type 0} (result : Result A E) (numbers : A → List ℕ) (world : World) (at : Point) (shown : Shown) → shown ≡ shown_of world
    → IfOk result (λ found. numbers found ≡ reverse (filter (is_hit shown at) (paint_order (shown.tree))))
    → IfOk result (λ found. numbers found ≡ hits world at)
unfolding hits
hits_are result numbers world at shown is found =
    subst (λ (it : Shown). IfOk result (λ found. numbers found ≡ reverse (filter (is_hit it at) (paint_order (it.tree))))) is found

-- what is hit has a box, so that it is there

hit_there : (it : Shown) (at : Point) (n : ℕ) → is_hit it at n ≡ true → n < length it.tree.elements
unfolding is_hit
hit_there it at n hit =
    made_if_boxed it.tree it.screen n
    ((and_parts (has_box it n) (list_all (has_point at) (border_rect it n ∷ viewport_rect it 0 ∷ clips_between it ImplicitRoot n)) hit).0)

pub all_there : (it : Shown) (at : Point) (painted found back : List NodeId) → found ≡ filter (λ (node : NodeId). is_hit it at (node.0)) painted
    → IsPermutation found back → All (λ (node : NodeId). node.0 < length it.tree.elements) back
all_there it at painted found back kept turned_round =
    All-permutation (λ (node : NodeId). node.0 < length it.tree.elements) found back turned_round
    (subst (All (λ (node : NodeId). node.0 < length it.tree.elements)) (sym kept)
    (All-weaker (λ (node : NodeId). is_hit it at (node.0) ≡ true) (λ (node : NodeId). node.0 < length it.tree.elements) (λ node. hit_there it at (node.0)) _
    (filter_passes (λ (node : NodeId). is_hit it at (node.0)) painted)))

pub there_are : {A E : Type 0} (result : Result A E) (nodes : A → List NodeId) (world : World) (shown : Shown) → shown ≡ shown_of world
    → IfOk result (λ found. All (λ (node : NodeId). node.0 < length shown.tree.elements) (nodes found))
    → IfOk result (λ found. All (λ (node : NodeId). node.0 < length world.tree.elements) (nodes found))
there_are result nodes world shown is there =
    subst (λ (it : Shown). IfOk result (λ found. All (λ (node : NodeId). node.0 < length it.tree.elements) (nodes found))) is there
