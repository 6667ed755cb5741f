-- Making elements and frames, and changing styles and natural sizes, keeps documents and frames together.
use Rattle.std.proofs.Common.{◌≡◌, ◌<◌, ◌≤◌, ℕ, zero, suc, true, [], ◌∷◌, ◌++◌, length, Option, Some, None, inl, inr, refl, ap, sym, ◌∙◌, arith}
use Rattle.std.proofs.lemmas.Bool.{false≢true}
use Rattle.layout_model.specs.Styles.{first_style}
use Rattle.layout_model.specs.Items.{Item, Kind, FrameKind}
use Rattle.text_io.specs.declared.kinds.Version.{Version}
use Rattle.page_model.specs.World.{Element, Document, Tree}
use Rattle.page_model.specs.Lookups.{element_at, document_at, no_element, no_document, new_element, is_listed}
use Rattle.page_model.specs.Documents.{first_of_list, frame_levels, is_active, is_active_state, tree_document, stands_in_active}
use Rattle.page_model.specs.Edits.{new_document, with_element, with_frame, change_item}
use Rattle.page_model.specs.Outcome.{opening_world}
use Rattle.page_documents.specs.Paths.{holder_of, way_down}
use Rattle.page_documents.specs.Frames.{MakeTrees, HaveOwners, AreFramed}
use Rattle.page_documents.proofs.Climbing.{path_whole}
use Rattle.page_documents.proofs.Lists.{listed, not_some}
use Rattle.page_documents.proofs.Entries.{known, kept, append_before, append_cases, append_new, append_part, append_length}
use Rattle.page_documents.proofs.Shape.{among_children, trees_same, depth_top}
use Rattle.page_documents.proofs.Standing.{Standing, stands, document_same}
use Rattle.page_documents.proofs.Ways.{way_none, reach_more, ways_kept}
use Rattle.page_documents.proofs.Framed.{frame_known, active_known, framed_known, unframed_held, framed_held, unheld, frame_stands, holder_active, reaches}
use Rattle.page_documents.proofs.Removing.{top_same}
use Rattle.element_tree.proofs.Nodes.{length-changed}

-- a tree to which elements and documents are added that stand nowhere, aren't Active and are in no tree
pub record Grown (before after : Tree) : Type 0 where
  pub parents : (m : ℕ) → (element_at after m).parent ≡ (element_at before m).parent
  pub children : (m : ℕ) → (element_at after m).children ≡ (element_at before m).children
  pub documents : (m : ℕ) → m < length before.elements → (element_at after m).document ≡ (element_at before m).document
  pub framed : (m d : ℕ) → (element_at after m).framed ≡ Some d → (document_at after d).frame ≡ Some m
  pub frames : (d m : ℕ) → (document_at after d).frame ≡ Some m → (element_at after m).framed ≡ Some d
  pub framed_by : (d : ℕ) → d < length before.documents → (document_at after d).frame ≡ (document_at before d).frame
  pub roots : (d : ℕ) → (document_at after d).root ≡ (document_at before d).root
  pub active : (d : ℕ) → is_active after d ≡ is_active before d
  pub elements : length before.elements ≤ length after.elements
  pub count : length before.documents ≤ length after.documents
  pub few : length after.documents ≤ 65536

module _ (before after : Tree) (framed : AreFramed before) (grown : Grown before after) where
  child_known : (m p : ℕ) → (element_at before m).parent ≡ Some p → m < length before.elements
  child_known m p up = known no_element (λ (it : Element). it.parent) (Some p) (not_some p) m (before.elements) up

  parent_known : (m p : ℕ) → (element_at before m).parent ≡ Some p → p < length before.elements
  parent_known m p up =
      known no_element (λ (it : Element). is_listed m it.children) true false≢true p (before.elements)
      (listed m ((element_at before p).children) (among_children before framed.trees m p up))

  trees : MakeTrees after
  trees = trees_same before after grown.parents grown.children framed.trees

  owned : (m p : ℕ) → (element_at before m).parent ≡ Some p → (element_at after m).document ≡ (element_at after p).document
  owned m p up =
      grown.documents m (child_known m p up) ∙ framed.owners.owned m p up ∙ sym (grown.documents p (parent_known m p up))

  owners : HaveOwners after
  owners = record {
    framed = grown.framed;
    frames = grown.frames;
    roots = λ d r is.
        let it = framed.owners.roots d r (sym (grown.roots d) ∙ is) in
        let known : r < length before.elements = it.known in
        record {
          known = let more : length before.elements ≤ length after.elements = grown.elements in omega arith;
          top = grown.parents r ∙ it.top;
          owner = grown.documents r known ∙ it.owner;
        };
    owned = λ m p up. owned m p (sym (grown.parents m) ∙ up);
  }

  still_stands : (m : ℕ) → m < length before.elements → tree_document after m ≡ tree_document before m
  still_stands m inside =
      document_same before after framed.trees framed.owners trees owners (λ k. k < length before.elements)
      (λ k p within up. parent_known k p up)
      (λ k within. grown.parents k)
      (λ k within. top_same before after k (grown.documents k within) (λ d is. sym (grown.roots d) ∙ is) (λ d is. grown.roots d ∙ is)) m inside

  was_active : (d : ℕ) → is_active after d ≡ true → is_active before d ≡ true
  was_active d active = sym (grown.active d) ∙ active

  same_frame : (d : ℕ) → is_active before d ≡ true → (document_at after d).frame ≡ (document_at before d).frame
  same_frame d active = grown.framed_by d (active_known before d active)

  grown_shown : (d m : ℕ) → is_active before d ≡ true → (document_at before d).frame ≡ Some m → is_active after d ≡ true → Standing before m →
      stands_in_active after m ≡ true
  grown_shown d m was is active it =
      stands after m (it.document) (still_stands m (frame_known before m d (framed.owners.frames d m is)) ∙ it.there) (grown.active (it.document) ∙ it.active)

  same_holder : (d : ℕ) → is_active before d ≡ true → holder_of after d ≡ holder_of before d
  same_holder d active = by_frame ((document_at before d).frame) refl
    where
      by_frame : (found : Option ℕ) → (document_at before d).frame ≡ found → holder_of after d ≡ holder_of before d
      by_frame None is = unframed_held after d (same_frame d active ∙ is) ∙ sym (unframed_held before d is)
      by_frame (Some m) is =
          framed_held after owners d m (same_frame d active ∙ is)
          ∙ ap Some (grown.documents m (frame_known before m d (framed.owners.frames d m is)))
          ∙ sym (framed_held before framed.owners d m is)

  same_way : (high d : ℕ) → is_active before d ≡ true → way_down high after d ≡ way_down high before d
  same_way high d active =
      ways_kept before after (λ k. is_active before k ≡ true) same_holder (λ k holder it held. holder_active before framed k holder it held) high d active

  grown_framed : AreFramed after
  grown_framed = record {
    trees = trees;
    owners = owners;
    top = record { active = grown.active 0 ∙ framed.top.active; unframed = same_frame 0 framed.top.active ∙ framed.top.unframed };
    few = grown.few;
    shown = λ d m active is.
        let was = was_active d active in
        let framed_by : (document_at before d).frame ≡ Some m = sym (same_frame d was) ∙ is in
        grown_shown d m was framed_by active (frame_stands before framed d m was framed_by);
    leads = λ d active.
        let was = was_active d active in
        ap first_of_list (sym (path_whole after d))
        ∙ ap first_of_list (same_way (length after.documents) d was)
        ∙ reach_more before (unheld before framed) (length before.documents) (length after.documents) d grown.count (reaches before framed d was);
  }

-- styles and natural sizes
pub item_framed : (tree : Tree) (change : Item → Item) (n : ℕ) → AreFramed tree → AreFramed (change_item change n tree)
item_framed tree change n framed = grown_framed tree (change_item change n tree) framed (record {
  parents = same (λ (it : Element). it.parent) (λ it. refl);
  children = same (λ (it : Element). it.children) (λ it. refl);
  documents = λ m inside. same (λ (it : Element). it.document) (λ it. refl) m;
  framed = λ m d is. framed.owners.framed m d (sym (same (λ (it : Element). it.framed) (λ it. refl) m) ∙ is);
  frames = λ d m is. same (λ (it : Element). it.framed) (λ it. refl) m ∙ framed.owners.frames d m is;
  framed_by = λ d inside. refl;
  roots = λ d. refl;
  active = λ d. refl;
  elements = let it : length (change_item change n tree).elements ≡ length tree.elements = length-changed _ n (tree.elements) in omega arith;
  count = omega arith;
  few = framed.few;
})
  where
    same : {B : Type 0} (part : Element → B) → ((it : Element) → part (record it { item = change (it.item) }) ≡ part it) → (m : ℕ) →
        part (element_at (change_item change n tree) m) ≡ part (element_at tree m)
    same part kept_part m = kept no_element (λ (it : Element). record it { item = change (it.item) }) part kept_part n m (tree.elements)

-- an element that is no frame
module _ (tree : Tree) (kind : Kind) (document : ℕ) (framed : AreFramed tree) where
  abbrev made : Element
  made = new_element (record { style = first_style; kind = kind }) document None

  pub element_framed : AreFramed (with_element kind document None tree)
  element_framed = grown_framed tree (with_element kind document None tree) framed (record {
    parents = λ m. append_part no_element made (λ (it : Element). it.parent) refl m (tree.elements);
    children = λ m. append_part no_element made (λ (it : Element). it.children) refl m (tree.elements);
    documents = λ m inside. ap (λ (it : Element). it.document) (append_before no_element made m (tree.elements) inside);
    framed = λ m d is. framed.owners.framed m d (sym (append_part no_element made (λ (it : Element). it.framed) refl m (tree.elements)) ∙ is);
    frames = λ d m is. append_part no_element made (λ (it : Element). it.framed) refl m (tree.elements) ∙ framed.owners.frames d m is;
    framed_by = λ d inside. refl;
    roots = λ d. refl;
    active = λ d. refl;
    elements = let more : length (tree.elements ++ made ∷ []) ≡ suc (length tree.elements) = append_length no_element made (tree.elements) in omega arith;
    count = omega arith;
    few = framed.few;
  })

-- a frame with its document
module _ (tree : Tree) (document : ℕ) (framed : AreFramed tree) (fewer : length tree.documents < frame_levels) where
  abbrev frame : Element
  frame = new_element (record { style = first_style; kind = FrameKind }) document (Some (length tree.documents))

  abbrev inside : Document
  inside = new_document (length tree.elements)

  abbrev after : Tree
  after = with_frame document tree

  now_framed : (m d : ℕ) → (element_at after m).framed ≡ Some d → (document_at after d).frame ≡ Some m
  now_framed m d is = elim (append_cases no_element frame m (tree.elements)) [
    | inl same ↦
        let was : (document_at tree d).frame ≡ Some m = framed.owners.framed m d (sym (ap (λ (it : Element). it.framed) same) ∙ is) in
        ap (λ (it : Document). it.frame) (append_before no_document inside d (tree.documents) (framed_known tree d m was)) ∙ was
    | inr new ↦
        let number : Some (length tree.documents) ≡ Some d = sym (ap (λ (it : Element). it.framed) (new.1)) ∙ is in
        let same : length tree.documents ≡ d = cc in
        ap (λ k. (document_at after k).frame) (sym same) ∙ ap (λ (it : Document). it.frame) (append_new no_document inside (tree.documents))
        ∙ ap Some (sym (new.0))
  ]

  now_frames : (d m : ℕ) → (document_at after d).frame ≡ Some m → (element_at after m).framed ≡ Some d
  now_frames d m is = elim (append_cases no_document inside d (tree.documents)) [
    | inl same ↦
        let was : (element_at tree m).framed ≡ Some d = framed.owners.frames d m (sym (ap (λ (it : Document). it.frame) same) ∙ is) in
        ap (λ (it : Element). it.framed) (append_before no_element frame m (tree.elements) (frame_known tree m d was)) ∙ was
    | inr new ↦
        let number : Some (length tree.elements) ≡ Some m = sym (ap (λ (it : Document). it.frame) (new.1)) ∙ is in
        let same : length tree.elements ≡ m = cc in
        ap (λ k. (element_at after k).framed) (sym same) ∙ ap (λ (it : Element). it.framed) (append_new no_element frame (tree.elements))
        ∙ ap Some (sym (new.0))
  ]

  pub frame_framed : AreFramed after
  frame_framed = grown_framed tree after framed (record {
    parents = λ m. append_part no_element frame (λ (it : Element). it.parent) refl m (tree.elements);
    children = λ m. append_part no_element frame (λ (it : Element). it.children) refl m (tree.elements);
    documents = λ m within. ap (λ (it : Element). it.document) (append_before no_element frame m (tree.elements) within);
    framed = now_framed;
    frames = now_frames;
    framed_by = λ d within. ap (λ (it : Document). it.frame) (append_before no_document inside d (tree.documents) within);
    roots = λ d. append_part no_document inside (λ (it : Document). it.root) refl d (tree.documents);
    active = λ d. append_part no_document inside (λ (it : Document). is_active_state (it.state)) refl d (tree.documents);
    elements = let more : length (tree.elements ++ frame ∷ []) ≡ suc (length tree.elements) = append_length no_element frame (tree.elements) in omega arith;
    count = let more : length (tree.documents ++ inside ∷ []) ≡ suc (length tree.documents) = append_length no_document inside (tree.documents) in omega arith;
    few = let more : length (tree.documents ++ inside ∷ []) ≡ suc (length tree.documents) = append_length no_document inside (tree.documents) in omega arith;
  })

-- `top` alone ----------------------------------------------------------------------------------------------------------------

opening_frame : (version : Version) (d : ℕ) → (document_at (opening_world version).tree d).frame ≡ None
opening_frame version zero = refl
opening_frame version (suc d) = refl

opening_root : (version : Version) (d : ℕ) → (document_at (opening_world version).tree d).root ≡ None
opening_root version zero = refl
opening_root version (suc d) = refl

opening_top : (version : Version) (d : ℕ) → is_active (opening_world version).tree d ≡ true → d ≡ 0
opening_top version zero active = refl
opening_top version (suc d) active = absurd (false≢true active)

pub opening_framed : (version : Version) → AreFramed (opening_world version).tree
opening_framed version =
    let tree : Tree = (opening_world version).tree in
    record {
      trees = record { children = λ p m. refl; shallow = λ m. let one = depth_top tree m refl in omega arith };
      owners = record {
        framed = λ m d is. absurd (not_some d is);
        frames = λ d m is. absurd (not_some m (sym (opening_frame version d) ∙ is));
        roots = λ d r is. absurd (not_some r (sym (opening_root version d) ∙ is));
        owned = λ m p up. absurd (not_some p up);
      };
      top = record { active = refl; unframed = refl };
      few = omega arith;
      shown = λ d m active is. absurd (not_some m (sym (opening_frame version d) ∙ is));
      leads = λ d active.
          ap first_of_list (sym (path_whole tree d) ∙ way_none tree 0 d (unframed_held tree d (opening_frame version d))) ∙ ap Some (opening_top version d active);
    }
