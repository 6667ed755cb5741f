-- What follows where documents and frames belong together.
use Rattle.std.proofs.Common.{◌≡◌, ◌<◌, ◌≤◌, ◌+◌, ℕ, zero, suc, Bool, true, [], ◌∷◌, length, length-append, Option, Some, None, refl, ap, sym, subst, ◌∙◌, arith}
use Rattle.std.proofs.lemmas.Bool.{false≢true}
use Rattle.page_model.specs.World.{Element, DocumentState, Document, Tree}
use Rattle.page_model.specs.Lookups.{element_at, document_at, no_element, no_document}
use Rattle.page_model.specs.Documents.{first_of_list, is_active, is_active_state, is_fresh_state, tree_document, led_to, frames_in, documents_inside}
use Rattle.page_documents.specs.Paths.{owner_of, holder_of, way_above, way_down}
use Rattle.page_documents.specs.Frames.{HaveOwners, AreFramed}
use Rattle.page_documents.proofs.Climbing.{path_whole}
use Rattle.page_documents.proofs.Lists.{Among, not_some}
use Rattle.page_documents.proofs.Entries.{known, found_there}
use Rattle.page_documents.proofs.Standing.{Standing, standing, own_document, stands_below, rooted}
use Rattle.page_documents.proofs.Led.{frame_under, under_frame, inner, next_led, led_enough}
use Rattle.page_documents.proofs.Ways.{Reaches, some_first, no_way, way_some, reach_up, way_more}

pub inside_is : (test : DocumentState → Bool) (tree : Tree) (n : ℕ) → documents_inside test tree n ≡ led_to 65536 test tree (frames_in tree n)
unfolding documents_inside
inside_is test tree n = refl

module _ (tree : Tree) where
  -- what is told of an element or a document that there isn't
  pub frame_known : (m document : ℕ) → (element_at tree m).framed ≡ Some document → m < length tree.elements
  frame_known m document is = known no_element (λ (it : Element). it.framed) (Some document) (not_some document) m (tree.elements) is

  pub active_known : (document : ℕ) → is_active tree document ≡ true → document < length tree.documents
  active_known document is =
      known no_document (λ (it : Document). is_active_state (it.state)) true false≢true document (tree.documents) is

  pub fresh_known : (document : ℕ) → is_fresh_state ((document_at tree document).state) ≡ true → document < length tree.documents
  fresh_known document is = known no_document (λ (it : Document). is_fresh_state (it.state)) true false≢true document (tree.documents) is

  pub framed_known : (document m : ℕ) → (document_at tree document).frame ≡ Some m → document < length tree.documents
  framed_known document m is = known no_document (λ (it : Document). it.frame) (Some m) (not_some m) document (tree.documents) is

  pub way_short : (high document : ℕ) → length (way_down high tree document) ≤ high
  unfolding way_down
  way_short zero document = omega arith
  way_short (suc high) document =
      let above : length (way_above (way_down high tree) (holder_of tree document)) ≤ high = by_holder (way_short high) (holder_of tree document) in
      omega (arith, length-append (way_above (way_down high tree) (holder_of tree document)) (document ∷ []))
    where
      by_holder : ((d : ℕ) → length (way_down high tree d) ≤ high) → (found : Option ℕ) → length (way_above (way_down high tree) found) ≤ high
      by_holder each None = omega arith
      by_holder each (Some holder) = each holder

  pub unframed_held : (document : ℕ) → (document_at tree document).frame ≡ None → holder_of tree document ≡ None
  unframed_held document is = ap (owner_of tree) is

  -- the frame of a document that is held
  pub record HasFrame (document holder : ℕ) : Type 0 where
    pub frame : ℕ
    pub is : (document_at tree document).frame ≡ Some frame
    pub owner : (element_at tree frame).document ≡ holder

  module _ (owners : HaveOwners tree) where
    pub framed_held : (document m : ℕ) → (document_at tree document).frame ≡ Some m → holder_of tree document ≡ Some (element_at tree m).document
    framed_held document m is =
        ap (owner_of tree) is
        ∙ found_there no_element (λ (element : Element). element.document) m (tree.elements) (frame_known m document (owners.frames document m is))

    by_frame : (document holder : ℕ) (found : Option ℕ) → (document_at tree document).frame ≡ found → holder_of tree document ≡ Some holder → HasFrame document holder
    by_frame document holder None is held = absurd (not_some holder (sym (unframed_held document is) ∙ held))
    by_frame document holder (Some m) is held =
        record { frame = m; is = is; owner = let both : Some (element_at tree m).document ≡ Some holder = sym (framed_held document m is) ∙ held in cc }

    pub held_frame : (document holder : ℕ) → holder_of tree document ≡ Some holder → HasFrame document holder
    held_frame document holder held = by_frame document holder ((document_at tree document).frame) refl held

module _ (tree : Tree) (framed : AreFramed tree) where
  pub unheld : holder_of tree 0 ≡ None
  unheld = unframed_held tree 0 framed.top.unframed

  pub reaches : (document : ℕ) → is_active tree document ≡ true → Reaches tree (length tree.documents) document
  reaches document active = ap first_of_list (path_whole tree document) ∙ framed.leads document active

  -- the document that holds the frame of an Active one is Active, and the frame stands in its tree
  pub frame_stands : (document m : ℕ) → is_active tree document ≡ true → (document_at tree document).frame ≡ Some m → Standing tree m
  frame_stands document m active is = standing tree m (framed.shown document m active is)

  pub holder_active : (document holder : ℕ) → is_active tree document ≡ true → holder_of tree document ≡ Some holder → is_active tree holder ≡ true
  holder_active document holder active held =
      let it = held_frame tree framed.owners document holder held in
      let there = frame_stands document (it.frame) active (it.is) in
      subst (λ d. is_active tree d ≡ true) (sym (own_document tree (it.frame) (there.document) (there.there)) ∙ it.owner) (there.active)

  -- frames in the tree of a document are held by it
  pub inner_held : (x y : ℕ) → Among y (inner is_active_state tree x) → holder_of tree y ≡ Some x
  inner_held x y among =
      let it = frame_under tree ((document_at tree x).root) y among in
      let frame = it.there.frame in
      framed_held tree framed.owners y frame (framed.owners.framed frame y it.there.framed)
      ∙ ap Some (own_document tree frame x (stands_below tree framed.trees framed.owners x (it.top) frame (it.is) it.there.below))

  held_inner : (m x y : ℕ) → tree_document tree m ≡ Some x → (element_at tree m).framed ≡ Some y → Among y (inner is_active_state tree x)
  held_inner m x y there is =
      let it = rooted tree framed.trees framed.owners m x there in
      under_frame tree ((document_at tree x).root) (it.root) m y (it.is) (it.below) is

  abbrev pub rank : ℕ → ℕ
  rank document = length (way_down (length tree.documents) tree document)

  pub rises_by : (most x y : ℕ) → Reaches tree most y → holder_of tree y ≡ Some x → length (way_down most tree y) ≡ length (way_down most tree x) + 1
  rises_by zero x y reach held = absurd (no_way tree y reach)
  rises_by (suc most) x y reach held =
      let up : Reaches tree most x = reach_up tree unheld most y x held reach in
      ap length (way_some tree most y x held) ∙ length-append (way_down most tree x) (y ∷ [])
      ∙ ap (λ xs. length xs + 1) (sym (way_more tree unheld most (suc most) x (omega arith) up))

  -- the documents that are Active below an element are all come to
  pub inside_on : (n m x y : ℕ) → tree_document tree m ≡ Some x → (element_at tree m).framed ≡ Some y → is_active tree y ≡ true →
      Among x (documents_inside is_active_state tree n) → Among y (documents_inside is_active_state tree n)
  inside_on n m x y there is active among =
      let further = next_led is_active_state tree 65536 x y (frames_in tree n) (subst (Among x) (inside_is is_active_state tree n) among) active
      (held_inner m x y there is) in
      subst (Among y) (sym (inside_is is_active_state tree n))
      (led_enough is_active_state tree rank (length tree.documents) (λ d passes. way_short tree (length tree.documents) d)
      (λ a b passes among' passes'. rises_by (length tree.documents) a b (reaches b passes') (inner_held a b among')) 65536 y (frames_in tree n)
      (λ d among' passes. least d passes) further)
    where
      least : (d : ℕ) → is_active tree d ≡ true → length tree.documents < rank d + 65536
      least d passes =
          let few : length tree.documents ≤ 65536 = framed.few in
          let one : 1 ≤ rank d = some_first (way_down (length tree.documents) tree d) 0 (reaches d passes) in
          omega arith
