-- Chains on a page end: a container stands lower than what stands in it.
use Rattle.std.proofs.Common.{◌≡◌, ◌≤◌, ◌<◌, ◌+◌, ◌*◌, ℕ, Bool, true, false, cond, List, [], ◌∷◌, length, Option, Some, None, refl, ap, sym, ◌∙◌, subst, arith}
use Rattle.std.specs.Prelude.{option_map}
use Rattle.layout_model.specs.Nodes.{Holder, HeldByElement, HeldByPage, HeldByScreen, holder}
use Rattle.layout_model.proofs.Holders.{holder_less}
use Rattle.layout_model.proofs.Paths.{depth_least}
use Rattle.page_model.specs.World.{Screen, Tree, Scrolls, InElement, InDocument}
use Rattle.page_model.specs.Lookups.{element_at, document_at}
use Rattle.page_model.specs.Documents.{nodes_of, tree_document, element_depth}
use Rattle.page_model.specs.PageBoxes.{has_box}
use Rattle.page_model.specs.Shown.{shown_with}
use Rattle.page_model.specs.Chains.{container_held, holding}
use Rattle.page_documents.specs.Frames.{AreFramed}
use Rattle.element_tree.specs.declared.container.Container.{Container}
use Rattle.element_tree.specs.declared.container.Container.TheVariants.{Element, Document}
use Rattle.clip_chain.specs.Scenes.{Scene}
use Rattle.clip_chain.specs.Chains.{Leads}
use Rattle.clip_chain.specs.Worlds.{element_spot, spot_of, scene_of, view_spot}
use Rattle.clip_chain.proofs.Worlds.{leads_on}
use Rattle.page_geometry.specs.Ranks.{level_of, rank_of}
use Rattle.page_geometry.proofs.Standing.{active, boxed_document, holder_boxed, holder_document}
use Rattle.page_geometry.proofs.Levels.{level_more, level_some, level_most}

pub same_next : (a b : Container) → Some a ≡ Some b → a ≡ b
same_next a b is = cc

module _ (tree : Tree) (screen : Screen) (scrolls : Scrolls) (framed : AreFramed tree) (few : length tree.documents ≤ 64)
    (deep : (n : ℕ) → element_depth tree n ≤ 256) where
  abbrev scene : Scene
  scene = scene_of (shown_with tree screen scrolls)

  abbrev own : ℕ → ℕ
  own n = (element_at tree n).document

  ranked : (n : ℕ) → has_box tree screen n ≡ true → rank_of tree screen (element_spot n) ≡ 257 * level_of tree (own n) + element_depth tree n
  ranked n boxed = ap (λ b. cond b (257 * level_of tree (own n) + element_depth tree n) 0) boxed

  unranked : (n : ℕ) → has_box tree screen n ≡ false → rank_of tree screen (element_spot n) ≡ 0
  unranked n none = ap (λ b. cond b (257 * level_of tree (own n) + element_depth tree n) 0) none

  depth_less : (n h : ℕ) → holder (nodes_of tree) n ≡ HeldByElement h → element_depth tree h < element_depth tree n
  unfolding element_depth
  depth_less n h is = holder_less (nodes_of tree) framed.trees.shallow n h is

  depth_some : (n : ℕ) → 1 ≤ element_depth tree n
  unfolding element_depth
  depth_some n = depth_least (nodes_of tree) n

  to_viewport : (n : ℕ) → has_box tree screen n ≡ true → (next : Container) → option_map spot_of (option_map InDocument (tree_document tree n)) ≡ Some next
      → rank_of tree screen next < rank_of tree screen (element_spot n)
  to_viewport n boxed next leads =
      subst (λ spot. rank_of tree screen spot < rank_of tree screen (element_spot n))
      (same_next (view_spot (own n)) next (ap (λ o. option_map spot_of (option_map InDocument o)) (sym (boxed_document tree screen framed n boxed)) ∙ leads))
      (omega (arith, ranked n boxed, depth_some n))

  outwards : (n : ℕ) → has_box tree screen n ≡ true → (by : Holder) (next : Container) → holder (nodes_of tree) n ≡ by
      → option_map spot_of (container_held by (tree_document tree n)) ≡ Some next → rank_of tree screen next < rank_of tree screen (element_spot n)
  outwards n boxed (HeldByElement h) next is leads =
      let level : level_of tree (own h) ≡ level_of tree (own n) = ap (level_of tree) (holder_document tree screen framed n h is) in
      subst (λ spot. rank_of tree screen spot < rank_of tree screen (element_spot n)) (same_next (element_spot h) next leads)
      (omega (arith, ranked n boxed, ranked h (holder_boxed tree screen framed n h is boxed), level, depth_less n h is))
  outwards n boxed HeldByPage next is leads = to_viewport n boxed next leads
  outwards n boxed HeldByScreen next is leads = to_viewport n boxed next leads

  frame_lower : (document frame : ℕ) → (document_at tree document).frame ≡ Some frame → (boxed : Bool) → has_box tree screen frame ≡ boxed
      → rank_of tree screen (element_spot frame) < rank_of tree screen (view_spot document)
  frame_lower document frame is true boxed =
      omega (arith, ranked frame boxed, level_more tree framed few document frame is (active tree screen frame boxed), deep frame)
  frame_lower document frame is false none =
      let more = level_some tree framed document frame is in omega (arith, unranked frame none, more.1)

  beyond : (document : ℕ) (frame : Option ℕ) (next : Container) → (document_at tree document).frame ≡ frame
      → option_map spot_of (option_map InElement frame) ≡ Some next → rank_of tree screen next < rank_of tree screen (view_spot document)
  beyond document None next is leads = absurd (let no : ⊥ = cc in no)
  beyond document (Some frame) next is leads =
      subst (λ spot. rank_of tree screen spot < rank_of tree screen (view_spot document)) (same_next (element_spot frame) next leads)
      (frame_lower document frame is (has_box tree screen frame) refl)

  pub falls : (from next : Container) → scene.container from ≡ Some next → rank_of tree screen next < rank_of tree screen from
  falls (Element node) next leads =
      let found = leads_on (has_box tree screen (node.0)) (option_map spot_of (holding tree (node.0))) next leads in
      outwards (node.0) found.0 (holder (nodes_of tree) (node.0)) next refl found.1
  falls (Document document) next leads = beyond document.0 (document_at tree document.0).frame next refl leads

  short : (from root : Container) (between : List Container) → Leads scene from between root → length between ≤ rank_of tree screen from
  short from root [] leads = omega arith
  short from root (next ∷ others) leads =
      let below : length others ≤ rank_of tree screen next = short next root others leads.2 in
      let lower = falls from next leads.0 in
      omega (arith, below, lower)

  rank_most : (spot : Container) → rank_of tree screen spot ≤ 65536
  rank_most (Element node) = by_box (has_box tree screen (node.0))
    where
      by_box : (boxed : Bool) → cond boxed (257 * level_of tree (own (node.0)) + element_depth tree (node.0)) 0 ≤ 65536
      by_box true = omega (arith, deep (node.0), level_most tree framed 64 (own (node.0)))
      by_box false = omega arith
  rank_most (Document document) = omega (arith, level_most tree framed 64 document.0)

  -- no chain is longer than the definition of clips looks
  pub few_between : (from root : Container) (between : List Container) → Leads scene from between root → length between ≤ 65536
  few_between from root between leads = omega (arith, short from root between leads, rank_most from)
