-- Taking an element out of where it stands keeps documents and frames together.
use Rattle.std.proofs.Common.{◌≡◌, ◌≢◌, ◌<◌, ℕ, Bool, true, false, cond, List, [], length, Option, Some, None, ◌⊎◌, inl, inr, refl, ap, sym, subst, ◌∙◌, arith}
use Rattle.std.proofs.lemmas.Bool.{cases_eq, cases_Bool, false≢true, true≢false}
use Rattle.page_model.specs.World.{DocumentState, Dead, Document, Tree, Container, InElement, InDocument}
use Rattle.page_model.specs.Lookups.{element_at, document_at, no_document}
use Rattle.page_model.specs.Documents.{nodes_of, inclusive_descendants, first_of_list, is_number, is_active, is_active_state, tree_document, stands_in_active, frames_in, documents_inside, container_of, unlinked, with_state, removed}
use Rattle.page_documents.specs.Paths.{owner_of, holder_of, way_down}
use Rattle.page_documents.specs.Frames.{MakeTrees, HaveOwners, AreFramed}
use Rattle.page_documents.proofs.Parts.{ends}
use Rattle.page_documents.proofs.Climbing.{path_whole}
use Rattle.page_documents.proofs.Lists.{Among, decided, not_some, number_is, its_number}
use Rattle.page_documents.proofs.Adopting.{changes_length}
use Rattle.page_documents.proofs.Entries.{kept, kept_each, set_each, unchanged_each}
use Rattle.page_documents.proofs.Shape.{IsBelow, depth_short, itself_below, child_below}
use Rattle.page_documents.proofs.Standing.{at_top, stands, document_below, document_same}
use Rattle.page_documents.proofs.Led.{frame_below, below_frame, frame_under, by_led, led_all}
use Rattle.page_documents.proofs.Ways.{ways_alike}
use Rattle.page_documents.proofs.Framed.{inside_is, active_known, frame_stands, reaches, inside_on}
use Rattle.page_documents.proofs.Unlinking.{Apart, unlinked_apart}

-- root elements tell of an element without a parent what they told before
number_same : (root root' : Option ℕ) (n : ℕ) → (root' ≡ Some n → root ≡ Some n) → (root ≡ Some n → root' ≡ Some n) → is_number root' n ≡ is_number root n
number_same root root' n back on = elim (cases_Bool (is_number root n)) [
  | inl is ↦ its_number root' n (on (number_is root n is)) ∙ sym is
  | inr none ↦ elim (cases_Bool (is_number root' n)) [
    | inl is ↦ absurd (true≢false (sym (its_number root n (back (number_is root' n is))) ∙ none))
    | inr none' ↦ none' ∙ sym none
  ]
]

pub top_same : (before after : Tree) (n : ℕ) → (element_at after n).document ≡ (element_at before n).document →
    ((d : ℕ) → (document_at after d).root ≡ Some n → (document_at before d).root ≡ Some n) →
    ((d : ℕ) → (document_at before d).root ≡ Some n → (document_at after d).root ≡ Some n) → at_top after n ≡ at_top before n
top_same before after n own back on =
    ap (λ d. cond (is_number (document_at after d).root n) (Some d) None) own
    ∙ ap (λ b. cond b (Some (element_at before n).document) None)
    (number_same ((document_at before (element_at before n).document).root) ((document_at after (element_at before n).document).root) n
    (back ((element_at before n).document)) (on ((element_at before n).document)))

-- states make no difference to what is the same of all else
module _ (before mid : Tree) (n : ℕ) (apart : Apart before mid n) (state : DocumentState) (documents : List ℕ) where
  abbrev stated : Document → Document
  stated it = record it { state = state }

  frame_same : (d : ℕ) → (document_at (with_state state documents mid) d).frame ≡ (document_at mid d).frame
  frame_same d = kept_each no_document stated (λ (it : Document). it.frame) (λ it. refl) documents d (mid.documents)

  root_same : (d : ℕ) → (document_at (with_state state documents mid) d).root ≡ (document_at mid d).root
  root_same d = kept_each no_document stated (λ (it : Document). it.root) (λ it. refl) documents d (mid.documents)

  stated_apart : Apart before (with_state state documents mid) n
  stated_apart = record {
    parents = apart.parents;
    alone = apart.alone;
    children = apart.children;
    documents = apart.documents;
    framed = apart.framed;
    elements = apart.elements;
    found = apart.found;
    frames = λ d. frame_same d ∙ apart.frames d;
    roots = λ d r is. apart.roots d r (sym (root_same d) ∙ is);
    rooted = λ d r is other. root_same d ∙ apart.rooted d r is other;
    count = changes_length stated documents (mid.documents) ∙ apart.count;
  }

-- unlinking changes no state
pub unlinked_state : (tree : Tree) (n d : ℕ) (container : Option Container) → (document_at (unlinked tree n container) d).state ≡ (document_at tree d).state
unlinked_state tree n d None = refl
unlinked_state tree n d (Some (InElement parent)) = refl
unlinked_state tree n d (Some (InDocument document)) =
    kept no_document (λ (it : Document). record it { root = None }) (λ (it : Document). it.state) (λ it. refl) document d (tree.documents)

module _ (before after : Tree) (n : ℕ) (apart : Apart before after n) where
  cut : (m : ℕ) → ((element_at after m).parent ≡ (element_at before m).parent) ⊎ ((element_at after m).parent ≡ None)
  cut m = elim (cases_eq m n) [ inl same ↦ inr (ap (λ k. (element_at after k).parent) same ∙ apart.alone) | inr other ↦ inl (apart.parents m other) ]

  pub apart_trees : MakeTrees before → MakeTrees after
  apart_trees trees = record {
    children = apart.children;
    shallow = λ m.
        let less = depth_short (nodes_of before) (nodes_of after) cut m in
        let few = trees.shallow m in
        omega arith;
  }

  not_itself : (m p : ℕ) → (element_at after m).parent ≡ Some p → m ≢ n
  not_itself m p up same = not_some p (sym (ap (λ k. (element_at after k).parent) same ∙ apart.alone) ∙ up)

  apart_owners : HaveOwners before → HaveOwners after
  apart_owners owners = record {
    framed = λ m d is. apart.frames d ∙ owners.framed m d (sym (apart.framed m) ∙ is);
    frames = λ d m is. apart.framed m ∙ owners.frames d m (sym (apart.frames d) ∙ is);
    roots = λ d r is.
        let was = apart.roots d r is in
        let root = owners.roots d r (was.0) in
        record {
          known = rw apart.elements root.known;
          top = apart.parents r (was.1) ∙ root.top;
          owner = apart.documents r ∙ root.owner;
        };
    owned = λ m p up.
        apart.documents m ∙ owners.owned m p (sym (apart.parents m (not_itself m p up)) ∙ up) ∙ sym (apart.documents p);
  }

  apart_holder : (d : ℕ) → holder_of after d ≡ holder_of before d
  apart_holder d = ap (owner_of after) (apart.frames d) ∙ by_frame ((document_at before d).frame)
    where
      by_frame : (found : Option ℕ) → owner_of after found ≡ owner_of before found
      by_frame None = refl
      by_frame (Some m) = apart.found m

  -- what none below the element stands where it stood
  apart_stands : MakeTrees before → HaveOwners before → (m : ℕ) → (IsBelow before n m → ⊥) → tree_document after m ≡ tree_document before m
  apart_stands trees owners m away =
      document_same before after trees owners (apart_trees trees) (apart_owners owners) (λ k. IsBelow before n k → ⊥)
      (λ k p far up below. far (child_below before trees n k p up below))
      (λ k far. apart.parents k (other k far))
      (λ k far. top_same before after k (apart.documents k) (λ d is. (apart.roots d k is).0) (λ d is. apart.rooted d k is (other k far)))
      m away
    where
      other : (k : ℕ) → (IsBelow before n k → ⊥) → k ≢ n
      other k far same = far (subst (IsBelow before n) (sym same) (itself_below before trees n))

-- the documents that end: those that are Active below the element, where it is shown
pub record EndBelow (tree : Tree) (n : ℕ) (ending : List ℕ) : Type 0 where
  pub inside : (d : ℕ) → Among d ending → Among d (documents_inside is_active_state tree n) × (stands_in_active tree n ≡ true)
  pub whole : (d : ℕ) → stands_in_active tree n ≡ true → Among d (documents_inside is_active_state tree n) → Among d ending

module _ (tree : Tree) (n : ℕ) (framed : AreFramed tree) (ending : List ℕ) (end : EndBelow tree n ending) where
  abbrev mid : Tree
  mid = unlinked tree n (container_of tree n)

  abbrev after : Tree
  after = with_state Dead ending mid

  abbrev dead : Document → Document
  dead it = record it { state = Dead }

  after_apart : Apart tree after n
  after_apart = stated_apart tree mid n (unlinked_apart tree n framed.trees framed.owners) Dead ending

  ended : (d : ℕ) → Among d ending → is_active after d ≡ true → ⊥
  ended d among active =
      false≢true (sym (ap is_active_state (set_each no_document dead (λ (it : Document). it.state) Dead (λ it. refl) ending d (mid.documents) among
      (inside active))) ∙ active)
    where
      inside : is_active after d ≡ true → d < length mid.documents
      inside now = rw (sym (changes_length dead ending (mid.documents))) (active_known after d now)

  lasting : (d : ℕ) → (Among d ending → ⊥) → (document_at after d).state ≡ (document_at tree d).state
  lasting d out =
      ap (λ (it : Document). it.state) (unchanged_each no_document dead ending d (mid.documents) out) ∙ unlinked_state tree n d (container_of tree n)

  was_active : (d : ℕ) → is_active after d ≡ true → is_active tree d ≡ true
  was_active d active = elim (decided d ending) [
    | inl among ↦ absurd (ended d among active)
    | inr out ↦ sym (ap is_active_state (lasting d out)) ∙ active
  ]

  below_inside : (d m : ℕ) → is_active tree d ≡ true → (document_at tree d).frame ≡ Some m → IsBelow tree n m → Among d (documents_inside is_active_state tree n)
  below_inside d m active is below =
      subst (Among d) (sym (inside_is is_active_state tree n))
      (by_led is_active_state tree 65535 d d (frames_in tree n) (below_frame tree n m d below (framed.owners.frames d m is)) active (inl refl))

  after_shown : (d m : ℕ) → is_active after d ≡ true → (document_at after d).frame ≡ Some m → stands_in_active after m ≡ true
  after_shown d m active is =
      let was = was_active d active in
      let framed_by : (document_at tree d).frame ≡ Some m = sym (after_apart.frames d) ∙ is in
      let it = frame_stands tree framed d m was framed_by in
      let document = it.document in
      elim (decided m (inclusive_descendants tree n)) [
        | inl below ↦
            let shown : stands_in_active tree n ≡ true
            = stands tree n document (sym (document_below tree framed.trees framed.owners n m below) ∙ it.there) (it.active) in
            absurd (ended d (end.whole d shown (below_inside d m was framed_by below)) active)
        | inr away ↦
            stands after m document (apart_stands tree after n after_apart framed.trees framed.owners m away ∙ it.there)
            (elim (decided document ending) [
              | inl among ↦
                  let inside = end.inside document among in
                  absurd (ended d (end.whole d (inside.1) (inside_on tree framed n m document d (it.there) (framed.owners.frames d m framed_by) was
                  (inside.0))) active)
              | inr out ↦ ap is_active_state (lasting document out) ∙ it.active
            ])
      ]

  -- the top document is in no frame, and so none of those that end
  top_lasts : Among 0 ending → ⊥
  top_lasts among =
      let inside = end.inside 0 among in
      let it = led_all is_active_state tree (λ d. Unit {0}) (λ d. (m : ℕ) × (element_at tree m).framed ≡ Some d)
      (λ x good all passes y there passes'. let f = frame_under tree ((document_at tree x).root) y there in (f.there.frame, f.there.framed))
      65536 (frames_in tree n) (λ x there passes. let f = frame_below tree n x there in (f.frame, f.framed)) (λ d there. tt) 0
      (subst (Among 0) (inside_is is_active_state tree n) (inside.0)) in
      not_some (it.0.0) (sym framed.top.unframed ∙ framed.owners.framed (it.0.0) 0 (it.0.1))

  pub ended_framed : AreFramed after
  ended_framed = record {
    trees = apart_trees tree after n after_apart framed.trees;
    owners = apart_owners tree after n after_apart framed.owners;
    top = record {
      active = ap is_active_state (lasting 0 top_lasts) ∙ framed.top.active;
      unframed = after_apart.frames 0 ∙ framed.top.unframed;
    };
    few = rw after_apart.count framed.few;
    shown = after_shown;
    leads = λ d active.
        ap first_of_list (sym (path_whole after d) ∙ ap (λ k. way_down k after d) (after_apart.count)
        ∙ ways_alike tree after (apart_holder tree after n after_apart) (length tree.documents) d)
        ∙ reaches tree framed d (was_active d active);
  }

-- as the definition of removal has it
removed_end : (tree : Tree) (n : ℕ) → EndBelow tree n (ends tree n)
removed_end tree n = record { inside = λ d among. inside d (stands_in_active tree n) refl among; whole = whole }
  where
    inside : (d : ℕ) (shown : Bool) → stands_in_active tree n ≡ shown → Among d (cond shown (documents_inside is_active_state tree n) []) →
        Among d (documents_inside is_active_state tree n) × (stands_in_active tree n ≡ true)
    inside d true is among = (among, is)
    inside d false is among = absurd among

    whole : (d : ℕ) → stands_in_active tree n ≡ true → Among d (documents_inside is_active_state tree n) → Among d (ends tree n)
    whole d shown among = subst (λ b. Among d (cond b (documents_inside is_active_state tree n) [])) (sym shown) among

pub removed_framed : (tree : Tree) (n : ℕ) → AreFramed tree → AreFramed (removed tree n)
unfolding removed
removed_framed tree n framed = ended_framed tree n framed (ends tree n) (removed_end tree n)

pub removed_apart : (tree : Tree) (n : ℕ) → AreFramed tree → Apart tree (removed tree n) n
unfolding removed
removed_apart tree n framed =
    stated_apart tree (unlinked tree n (container_of tree n)) n (unlinked_apart tree n framed.trees framed.owners) Dead (ends tree n)
