-- The chains of a page lead to the roots of its targets and no further than its elements and documents, and what is found over its scene
-- and told is the definitions' finding.
use Rattle.std.proofs.Common.{◌≡◌, ◌∙◌, ◌≤◌, ◌<◌, ℕ, Bool, true, false, cond, List, [], ◌∷◌, length, Option, Some, None, unwrap_or, refl, ap, sym, subst, nat_lt, arith, tests}
use Rattle.std.specs.Prelude.{option_map}
use Rattle.script_model.specs.Margins.{Margins}
use Rattle.layout_model.specs.Nodes.{Holder, HeldByElement, HeldByPage, HeldByScreen, holder}
use Rattle.layout_model.proofs.Ancestors.{up_path, proper_parent}
use Rattle.layout_model.proofs.Holders.{holder_proper}
use Rattle.page_model.specs.World.{Element, Document, Tree, Root, IntersectionObserver, InElement, InDocument}
use Rattle.page_model.specs.Lookups.{element_at, document_at, no_element, no_document, is_listed}
use Rattle.page_model.specs.Documents.{nodes_of, tree_document}
use Rattle.page_model.specs.Shown.{Shown, has_box}
use Rattle.page_model.specs.Chains.{container_held, holding, most_containers}
use Rattle.page_model.specs.Findings.{Apart, Boxless, Chained, is_apart, finding}
use Rattle.page_documents.proofs.Lists.{its_number}
use Rattle.page_documents.proofs.Standing.{rooted}
use Rattle.element_tree.specs.declared.container.Container.{Container}
use Rattle.element_tree.specs.declared.container.Container.TheVariants.{Element as Inside, Document as Top}
use Rattle.clip_chain.specs.Scenes.{Scene}
use Rattle.clip_chain.specs.Chains.{Leads, IsAbove}
use Rattle.clip_chain.specs.Worlds.{element_spot, spot_of, spot_of_root, scene_of, view_spot}
use Rattle.clip_chain.proofs.Worlds.{leads_on}
use Rattle.candidate_index.specs.declared.scene.Standing.{Standing}
use Rattle.candidate_index.specs.declared.scene.Standing.TheVariants as standings
use Rattle.candidate_index.specs.Registrations.{IfChained}
use Rattle.candidate_index.specs.Worlds.{standing_in, IsChain}
use Rattle.candidate_index.proofs.Worlds.{world_finding}
use Rattle.kept_findings.specs.Walks.{EachAlong, AreChained, between_by, chain_between, found_in}
use Rattle.page_geometry.specs.Scenes.{IsPageTree, IsThere, standings_of, telling_of}
use Rattle.page_geometry.proofs.Chains.{above}
use Rattle.page_boxes.proofs.Pages.{made_if_boxed}
use Rattle.page_geometry.proofs.Ends.{same_next, few_between}
use Rattle.page_geometry.proofs.Missing.{at_least, past_end}

-- what isn't past the end is there
within : (n most : ℕ) → (most ≤ n → ⊥) → n < most
within n most not_past = by_test (nat_lt n most) refl
  where
    by_test : (b : Bool) → nat_lt n most ≡ b → n < most
    by_test true is = grind (arith, tests)
    by_test false is = absurd (not_past (at_least n most (sym is)))

module _ (shown : Shown) (page : IsPageTree (shown.tree)) where
  abbrev tree : Tree
  tree = shown.tree

  abbrev scene : Scene
  scene = scene_of shown

  -- an element that differs from one that isn't there is there, and so is a document

  element_there : (n : ℕ) → (element_at tree n ≡ no_element → ⊥) → n < length tree.elements
  element_there n other =
      within n (length tree.elements) (λ past. other (ap (λ (found : Option Element). unwrap_or found no_element) (past_end tree.elements n past)))

  document_there : (document : ℕ) → (document_at tree document ≡ no_document → ⊥) → document < length tree.documents
  document_there document other =
      within document (length tree.documents) (λ past. other (ap (λ (found : Option Document). unwrap_or found no_document) (past_end tree.documents document past)))

  parent_there : (n p : ℕ) → (element_at tree n).parent ≡ Some p → p < length tree.elements
  parent_there n p is = element_there p (λ missing.
      let no : false ≡ true =
      sym (ap (λ (e : Element). is_listed n e.children) missing) ∙ page.framed.trees.children p n ∙ its_number (element_at tree n).parent p is in cc)

  rooted_there : (document n : ℕ) → (document_at tree document).root ≡ Some n → document < length tree.documents
  rooted_there document n is = document_there document (λ missing. let no : None ≡ Some n = sym (ap (λ (d : Document). d.root) missing) ∙ is in cc)

  framed_there : (document n : ℕ) → (document_at tree document).frame ≡ Some n → document < length tree.documents
  framed_there document n is = document_there document (λ missing. let no : None ≡ Some n = sym (ap (λ (d : Document). d.frame) missing) ∙ is in cc)

  frame_there : (document n : ℕ) → (document_at tree document).frame ≡ Some n → n < length tree.elements
  frame_there document n is = element_there n (λ missing.
      let no : None ≡ Some document = sym (ap (λ (e : Element). e.framed) missing) ∙ page.framed.owners.frames document n is in cc)

  -- what stands in something is there, and so is what it stands in

  holder_there : (n h : ℕ) → holder (nodes_of tree) n ≡ HeldByElement h → h < length tree.elements
  holder_there n h is =
      let up = proper_parent (nodes_of tree) page.framed.trees.shallow h n (holder_proper (nodes_of tree) n h is) in
      up_path (nodes_of tree) page.framed.trees.shallow (λ m. m < length tree.elements) (λ c p out there. parent_there c p out) h up.0 up.2 (parent_there n up.0 up.1)

  tree_there : (n d : ℕ) → tree_document tree n ≡ Some d → d < length tree.documents
  tree_there n d is = let it = rooted tree page.framed.trees page.framed.owners n d is in rooted_there d it.root it.is

  in_viewport : (document : Option ℕ) (next : Container) → ((d : ℕ) → document ≡ Some d → d < length tree.documents)
      → option_map spot_of (option_map InDocument document) ≡ Some next → IsThere tree next
  in_viewport None next there leads = absurd (let no : ⊥ = cc in no)
  in_viewport (Some d) next there leads = subst (IsThere tree) (same_next (view_spot d) next leads) (there d refl)

  in_element : (n : ℕ) (by : Holder) (next : Container) → holder (nodes_of tree) n ≡ by
      → option_map spot_of (container_held by (tree_document tree n)) ≡ Some next → IsThere tree next
  in_element n (HeldByElement h) next is leads = subst (IsThere tree) (same_next (element_spot h) next leads) (holder_there n h is)
  in_element n HeldByPage next is leads = in_viewport (tree_document tree n) next (tree_there n) leads
  in_element n HeldByScreen next is leads = in_viewport (tree_document tree n) next (tree_there n) leads

  in_document : (document : ℕ) (frame : Option ℕ) (next : Container) → (document_at tree document).frame ≡ frame
      → option_map spot_of (option_map InElement frame) ≡ Some next → IsThere tree (view_spot document) × IsThere tree next
  in_document document (Some frame) next is leads = (framed_there document frame is, subst (IsThere tree) (same_next (element_spot frame) next leads) (frame_there document frame is))
  in_document document None next is leads = absurd (let no : ⊥ = cc in no)

  both_there : (from next : Container) → scene.container from ≡ Some next → IsThere tree from × IsThere tree next
  both_there (Inside node) next leads =
      let found = leads_on (has_box shown (node.0)) (option_map spot_of (holding tree (node.0))) next leads in
      (made_if_boxed tree shown.screen (node.0) found.0, in_element (node.0) (holder (nodes_of tree) (node.0)) next refl found.1)
  both_there (Top document) next leads = in_document document.0 (document_at tree document.0).frame next refl leads

  pub there_along : (from root : Container) → EachAlong (IsThere tree) scene from root
  there_along from root [] leads = let ends = both_there from root leads in (ends.0, (ends.1, tt))
  there_along from root (next ∷ others) leads = ((both_there from next leads.0).0, there_along next root others leads.2)

  pub short_of : (from root : Container) (between : List Container) → Leads scene from between root → length between ≤ most_containers
  short_of from root between leads = few_between tree shown.screen shown.scrolls page.framed page.few page.deep from root between leads

  -- chains lead to roots

  chained_by : (root : Root) (target : ℕ) (apart boxed : Bool) → is_apart shown root target ≡ apart → has_box shown target ≡ boxed
      → IfChained (standing_in (cond apart Apart (cond boxed Chained Boxless))) (IsAbove scene (spot_of_root root) (element_spot target))
  chained_by root target true boxed apart there = tt
  chained_by root target false false near none = tt
  chained_by root target false true near there = above tree shown.screen shown.scrolls page.framed root target there near

  pub chained_of : AreChained scene (standings_of shown)
  chained_of root target = chained_by root target (is_apart shown root target) (has_box shown target) refl refl

  -- what is found along them
  chain_by : (standing : Standing) (root : Root) (target : ℕ) (leads : IfChained standing (IsAbove scene (spot_of_root root) (element_spot target)))
      → IfChained standing (IsChain shown root target (between_by standing scene (spot_of_root root) (element_spot target) leads))
  chain_by standings.Apart root target leads = tt
  chain_by standings.NoBox root target leads = tt
  chain_by standings.Chained root target leads = (leads.1, short_of (element_spot target) (spot_of_root root) leads.0 leads.1)

  pub finding_is : (chained : AreChained scene (standings_of shown)) (margins : Margins) (observer : IntersectionObserver) (target : ℕ)
      → finding shown margins observer target ≡ found_in scene (standings_of shown) chained (telling_of shown) margins observer target
  finding_is chained margins observer target =
      world_finding shown margins observer target (chain_between scene (standings_of shown) chained observer.root target)
      (chain_by (standings_of shown observer.root target) observer.root target (chained observer.root target))
