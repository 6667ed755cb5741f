-- An element that stood nowhere is adopted where it was put, and the documents in frames below it are shown: documents and frames
-- belong together afterwards.
use Rattle.std.proofs.Common.{◌≡◌, ◌≢◌, ◌<◌, ℕ, suc, Bool, true, false, cond, List, [], length, Option, Some, None, ◌⊎◌, inl, inr, refl, ap, sym, subst, ◌∙◌, arith}
use Rattle.std.proofs.lemmas.Bool.{cases_eq}
use Rattle.page_model.specs.World.{Element, Active, Document, Tree}
use Rattle.page_model.specs.Lookups.{element_at, document_at, no_element, no_document, change_each}
use Rattle.page_model.specs.Documents.{inclusive_descendants, first_of_list, is_active, is_active_state, is_fresh_state, is_root_element, tree_document, stands_in_active, frames_in, documents_inside, with_state, adopted, shown}
use Rattle.page_documents.specs.Paths.{holder_of, way_down}
use Rattle.page_documents.specs.Frames.{MakeTrees, IsRootOf, HaveOwners, AreFramed}
use Rattle.page_documents.proofs.Climbing.{path_whole}
use Rattle.page_documents.proofs.Lists.{Among, decided, not_some, number_is}
use Rattle.page_documents.proofs.Adopting.{changes_length}
use Rattle.page_documents.proofs.Entries.{known, kept_each, set_each, unchanged_each}
use Rattle.page_documents.proofs.Shape.{IsBelow, to_below, itself_below, child_below, trees_same, under, above_child}
use Rattle.page_documents.proofs.Standing.{at_top, Standing, standing, stands, own_document, document_top, document_below, stands_below, document_same}
use Rattle.page_documents.proofs.Led.{frame_below, frame_under, Passes, led_all, inner}
use Rattle.page_documents.proofs.Ways.{Reaches, reach_down, in_time, ways_kept}
use Rattle.page_documents.proofs.Framed.{inside_is, active_known, fresh_known, framed_known, unframed_held, framed_held, held_frame, frame_stands, holder_active, reaches}
use Rattle.page_documents.proofs.Removing.{top_same}
use Rattle.page_documents.proofs.Linking.{Loose, Linked}

module _ (apart joined : Tree) (n owner : ℕ) (framed : AreFramed apart) (loose : Loose apart n) (trees : MakeTrees joined) (link : Linked apart joined n owner) where
  abbrev own : Element → Element
  own element = record element { document = owner }

  abbrev below : List ℕ
  below = inclusive_descendants joined n

  -- adopted -----------------------------------------------------------------------------------------------------------------

  abbrev given : Tree
  given = record { elements = change_each own below (joined.elements); documents = joined.documents }

  given_parent : (m : ℕ) → (element_at given m).parent ≡ (element_at joined m).parent
  given_parent m = kept_each no_element own (λ (it : Element). it.parent) (λ it. refl) below m (joined.elements)

  given_children : (m : ℕ) → (element_at given m).children ≡ (element_at joined m).children
  given_children m = kept_each no_element own (λ (it : Element). it.children) (λ it. refl) below m (joined.elements)

  given_framed : (m : ℕ) → (element_at given m).framed ≡ (element_at apart m).framed
  given_framed m = kept_each no_element own (λ (it : Element). it.framed) (λ it. refl) below m (joined.elements) ∙ link.framed m

  given_trees : MakeTrees given
  given_trees = trees_same joined given given_parent given_children trees

  known_below : (m : ℕ) → IsBelow joined n m → m < length joined.elements
  known_below m is =
      to_below joined trees (λ k. k < length joined.elements) n m
      (λ c p up less. known no_element (λ (it : Element). it.parent) (Some p) (not_some p) c (joined.elements) up)
      (rw link.elements loose.known) is

  given_own : (m : ℕ) → IsBelow joined n m → (element_at given m).document ≡ owner
  given_own m is = set_each no_element own (λ (it : Element). it.document) owner (λ it. refl) below m (joined.elements) is (known_below m is)

  given_other : (m : ℕ) → (IsBelow joined n m → ⊥) → (element_at given m).document ≡ (element_at apart m).document
  given_other m away = ap (λ (it : Element). it.document) (unchanged_each no_element own below m (joined.elements) away) ∙ link.documents m

  -- it has the same below it where it stood nowhere
  was_below : (m : ℕ) → IsBelow joined n m → IsBelow apart n m
  was_below m is =
      to_below joined trees (λ k. IsBelow apart n k) n m
      (λ c p up there. elim (cases_eq c n) [
        | inl same ↦ subst (IsBelow apart n) (sym same) (itself_below apart framed.trees n)
        | inr other ↦ child_below apart framed.trees n c p (sym (link.parents c other) ∙ up) there
      ])
      (itself_below apart framed.trees n) is

  -- below it, it alone may have no parent, and the others have theirs there
  not_top : (m : ℕ) → IsBelow joined n m → m ≢ n → (element_at joined m).parent ≡ None → ⊥
  not_top m is other top = elim (under joined trees n m is).by [
    | inl same ↦ other same
    | inr up ↦ not_some (up.0) (sym top ∙ up.1)
  ]

  parent_below : (m p : ℕ) → IsBelow joined n m → m ≢ n → (element_at joined m).parent ≡ Some p → IsBelow joined n p
  parent_below m p is other up = elim (under joined trees n m is).by [
    | inl same ↦ absurd (other same)
    | inr found ↦ let both : found.0 ≡ p = (let it : Some (found.0) ≡ Some p = sym (found.1) ∙ up in cc) in subst (IsBelow joined n) both (found.2)
  ]

  given_root : (d r : ℕ) → (document_at joined d).root ≡ Some r → IsRootOf given d r
  given_root d r is = elim (link.roots d r is) [
    | inl before ↦
        let it = framed.owners.roots d r before in
        let other : r ≢ n = λ same. loose.no_root d (before ∙ ap Some same) in
        let top : (element_at joined r).parent ≡ None = link.parents r other ∙ it.top in
        record {
          known = rw (changes_length own below (joined.elements) ∙ link.elements) it.known;
          top = given_parent r ∙ top;
          owner = given_other r (λ there. not_top r there other top) ∙ it.owner;
        }
    | inr new ↦
        record {
          known = subst (λ k. k < length given.elements) (sym (new.1)) (rw (changes_length own below (joined.elements) ∙ link.elements) loose.known);
          top = given_parent r ∙ ap (λ k. (element_at joined k).parent) (new.1) ∙ new.2;
          owner = given_own r (subst (IsBelow joined n) (sym (new.1)) (itself_below joined trees n)) ∙ sym (new.0);
        }
  ]

  given_owned : (m p : ℕ) → (element_at joined m).parent ≡ Some p → (element_at given m).document ≡ (element_at given p).document
  given_owned m p up = elim (cases_eq m n) [
    | inl same ↦
        let above : (element_at joined n).parent ≡ Some p = ap (λ k. (element_at joined k).parent) (sym same) ∙ up in
        given_own m (subst (IsBelow joined n) (sym same) (itself_below joined trees n))
        ∙ sym (given_other p (above_child joined trees n p above) ∙ link.owned p above)
    | inr other ↦ elim (decided m below) [
      | inl there ↦ given_own m there ∙ sym (given_own p (parent_below m p there other up))
      | inr away ↦
          given_other m away ∙ framed.owners.owned m p (sym (link.parents m other) ∙ up)
          ∙ sym (given_other p (λ there. away (child_below joined trees n m p up there)))
    ]
  ]

  given_owners : HaveOwners given
  given_owners = record {
    framed = λ m d is. link.frames d ∙ framed.owners.framed m d (sym (given_framed m) ∙ is);
    frames = λ d m is. given_framed m ∙ framed.owners.frames d m (sym (link.frames d) ∙ is);
    roots = given_root;
    owned = λ m p up. given_owned m p (sym (given_parent m) ∙ up);
  }

  -- what isn't below it stands where it stood, and what is below it stood nowhere
  given_stands : (m : ℕ) → (IsBelow apart n m → ⊥) → tree_document given m ≡ tree_document apart m
  given_stands m away =
      document_same apart given framed.trees framed.owners given_trees given_owners (λ k. IsBelow apart n k → ⊥)
      (λ k p far up there. far (child_below apart framed.trees n k p up there))
      (λ k far. given_parent k ∙ link.parents k (other k far))
      (λ k far. top_same apart given k (given_other k (λ there. far (was_below k there)))
      (λ d is. elim (link.roots d k is) [ inl before ↦ before | inr new ↦ absurd (other k far (new.1)) ]) (λ d is. link.rooted d k is))
      m away
    where
      other : (k : ℕ) → (IsBelow apart n k → ⊥) → k ≢ n
      other k far same = far (subst (IsBelow apart n) (sym same) (itself_below apart framed.trees n))

  stood_nowhere : (m d : ℕ) → IsBelow apart n m → tree_document apart m ≡ Some d → ⊥
  stood_nowhere m d is there =
      let at_n : at_top apart n ≡ Some d =
      sym (document_top apart framed.trees n loose.alone) ∙ sym (document_below apart framed.trees framed.owners n m is) ∙ there in
      by_root d (is_root_element apart n) refl at_n
    where
      by_root : (d : ℕ) (test : Bool) → is_root_element apart n ≡ test → cond test (Some (element_at apart n).document) None ≡ Some d → ⊥
      by_root d true rooted is = loose.no_root ((element_at apart n).document) (number_is ((document_at apart (element_at apart n).document).root) n rooted)
      by_root d false rooted is = not_some d is

  -- shown -------------------------------------------------------------------------------------------------------------------

  abbrev opening : List ℕ
  opening = cond (stands_in_active given n) (documents_inside is_fresh_state given n) []

  abbrev open_state : Document → Document
  open_state it = record it { state = Active }

  abbrev after : Tree
  after = with_state Active opening given

  after_frame : (d : ℕ) → (document_at after d).frame ≡ (document_at joined d).frame
  after_frame d = kept_each no_document open_state (λ (it : Document). it.frame) (λ it. refl) opening d (joined.documents)

  after_root : (d : ℕ) → (document_at after d).root ≡ (document_at joined d).root
  after_root d = kept_each no_document open_state (λ (it : Document). it.root) (λ it. refl) opening d (joined.documents)

  after_trees : MakeTrees after
  after_trees = record { children = given_trees.children; shallow = given_trees.shallow }

  after_owners : HaveOwners after
  after_owners = record {
    framed = λ m d is. after_frame d ∙ given_owners.framed m d is;
    frames = λ d m is. given_owners.frames d m (sym (after_frame d) ∙ is);
    roots = λ d r is. let it = given_root d r (sym (after_root d) ∙ is) in record { known = it.known; top = it.top; owner = it.owner };
    owned = given_owners.owned;
  }

  after_stands : (m : ℕ) → tree_document after m ≡ tree_document given m
  after_stands m =
      document_same given after given_trees given_owners after_trees after_owners (λ k. Unit {0}) (λ k p far up. tt) (λ k far. refl)
      (λ k far. top_same given after k refl (λ d is. sym (after_root d) ∙ is) (λ d is. after_root d ∙ is)) m tt

  given_active : (d : ℕ) → is_active given d ≡ is_active apart d
  given_active d = ap is_active_state (link.states d)

  opened : (d : ℕ) → Among d opening → d < length joined.documents → is_active after d ≡ true
  opened d among inside =
      ap is_active_state (set_each no_document open_state (λ (it : Document). it.state) Active (λ it. refl) opening d (joined.documents) among inside)

  still_active : (d : ℕ) → is_active apart d ≡ true → is_active after d ≡ true
  still_active d active = elim (decided d opening) [
    | inl among ↦ opened d among (active_known given d (given_active d ∙ active))
    | inr out ↦ ap (λ (it : Document). is_active_state (it.state)) (unchanged_each no_document open_state opening d (joined.documents) out) ∙ given_active d ∙ active
  ]

  now_active : (d : ℕ) → is_active after d ≡ true → (is_active apart d ≡ true) ⊎ Among d opening
  now_active d active = elim (decided d opening) [
    | inl among ↦ inr among
    | inr out ↦
        inl (sym (given_active d)
        ∙ sym (ap (λ (it : Document). is_active_state (it.state)) (unchanged_each no_document open_state opening d (joined.documents) out)) ∙ active)
  ]

  -- documents that were Active ------------------------------------------------------------------------------------------------

  -- their frames aren't below the element
  away_of : (d m : ℕ) → is_active apart d ≡ true → (document_at apart d).frame ≡ Some m → IsBelow apart n m → ⊥
  away_of d m active is there =
      let it = frame_stands apart framed d m active is in
      stood_nowhere m (it.document) there (it.there)

  old_shown : (d m : ℕ) → is_active apart d ≡ true → (document_at apart d).frame ≡ Some m → stands_in_active after m ≡ true
  old_shown d m active is =
      let it = frame_stands apart framed d m active is in
      stands after m (it.document) (after_stands m ∙ given_stands m (away_of d m active is) ∙ it.there) (still_active (it.document) (it.active))

  frame_now : (d : ℕ) → (document_at after d).frame ≡ (document_at apart d).frame
  frame_now d = after_frame d ∙ link.frames d

  old_holder : (d : ℕ) → is_active apart d ≡ true → holder_of after d ≡ holder_of apart d
  old_holder d active = by_frame ((document_at apart d).frame) refl
    where
      by_frame : (found : Option ℕ) → (document_at apart d).frame ≡ found → holder_of after d ≡ holder_of apart d
      by_frame None is = unframed_held after d (frame_now d ∙ is) ∙ sym (unframed_held apart d is)
      by_frame (Some m) is =
          framed_held after after_owners d m (frame_now d ∙ is)
          ∙ ap Some (given_other m (λ there. away_of d m active is (was_below m there)))
          ∙ sym (framed_held apart framed.owners d m is)

  old_way : (high d : ℕ) → is_active apart d ≡ true → way_down high after d ≡ way_down high apart d
  old_way high d active =
      ways_kept apart after (λ k. is_active apart k ≡ true) old_holder (λ k holder it held. holder_active apart framed k holder it held) high d active

  old_reach : (d : ℕ) → is_active apart d ≡ true → Reaches after (length apart.documents) d
  old_reach d active = ap first_of_list (old_way (length apart.documents) d active) ∙ reaches apart framed d active

  -- documents that become Active ----------------------------------------------------------------------------------------------

  record Opened (d : ℕ) : Type 0 where
    frame : ℕ
    shows : (element_at given frame).framed ≡ Some d
    document : ℕ
    there : tree_document given frame ≡ Some document
    active : is_active after document ≡ true
    high : ℕ
    reach : Reaches after high d

  shown_by : (d frame document high : ℕ) → (element_at given frame).framed ≡ Some d → tree_document given frame ≡ Some document →
      is_active after document ≡ true → Reaches after high document → Opened d
  shown_by d frame document high is there active reach = record {
    frame = frame;
    shows = is;
    document = document;
    there = there;
    active = active;
    high = suc high;
    reach = reach_down after high d document
        (framed_held after after_owners d frame (after_owners.framed frame d is) ∙ ap Some (own_document given frame document there)) reach;
  }

  first_opened : Standing given n → (d : ℕ) → Among d (frames_in given n) → Opened d
  first_opened at d among =
      let it = frame_below given n d among in
      let active : is_active apart (at.document) ≡ true = sym (given_active (at.document)) ∙ at.active in
      shown_by d (it.frame) (at.document) (length apart.documents) (it.framed)
      (document_below given given_trees given_owners n (it.frame) (it.below) ∙ at.there) (still_active (at.document) active) (old_reach (at.document) active)

  next_opened : (x : ℕ) → Opened x → Among x opening → Passes is_fresh_state given x → (y : ℕ) → Among y (inner is_fresh_state given x) → Opened y
  next_opened x good among passes y further =
      let it = frame_under given ((document_at given x).root) y further in
      let f = it.there in
      shown_by y (f.frame) x (good.high) (f.framed) (stands_below given given_trees given_owners x (it.top) (f.frame) (it.is) (f.below))
      (opened x among (fresh_known given x passes)) (good.reach)

  all_opened : (shown : Bool) → stands_in_active given n ≡ shown → (d : ℕ) → Among d (cond shown (documents_inside is_fresh_state given n) []) → Opened d
  all_opened false is d among = absurd among
  all_opened true is d among =
      let at = standing given n is in
      (led_all is_fresh_state given (λ x. Among x opening) Opened (λ x good there passes y further passes'. next_opened x good there passes y further)
      65536 (frames_in given n) (λ x there passes. first_opened at x there)
      (λ x there. subst (λ b. Among x (cond b (documents_inside is_fresh_state given n) [])) (sym is) (subst (Among x) (sym (inside_is is_fresh_state given n)) there))
      d (subst (Among d) (inside_is is_fresh_state given n) among)).0

  new_opened : (d : ℕ) → Among d opening → Opened d
  new_opened d among = all_opened (stands_in_active given n) refl d among

  new_shown : (d m : ℕ) → Among d opening → (document_at after d).frame ≡ Some m → stands_in_active after m ≡ true
  new_shown d m among is =
      let it = new_opened d among in
      let same : it.frame ≡ m = (let both : Some (it.frame) ≡ Some m = sym (after_owners.framed (it.frame) d (it.shows)) ∙ is in cc) in
      subst (λ k. stands_in_active after k ≡ true) same (stands after (it.frame) (it.document) (after_stands (it.frame) ∙ it.there) (it.active))

  -- together -----------------------------------------------------------------------------------------------------------------

  after_count : length after.documents ≡ length apart.documents
  after_count = changes_length open_state opening (joined.documents) ∙ link.count

  top_free : (document_at after 0).frame ≡ None
  top_free = frame_now 0 ∙ framed.top.unframed

  after_reach : (d : ℕ) → is_active after d ≡ true → Reaches after (length after.documents) d
  after_reach d active = elim (now_active d active) [
    | inl old ↦ rw after_count (old_reach d old)
    | inr new ↦
        let it = new_opened d new in
        in_time after (unframed_held after 0 top_free) (length after.documents)
        (let known : d < length after.documents = active_known after d active in omega arith)
        (λ x holder held. let has = held_frame after after_owners x holder held in framed_known after x (has.frame) (has.is)) (it.high) d (it.reach)
  ]

  after_framed : AreFramed after
  after_framed = record {
    trees = after_trees;
    owners = after_owners;
    top = record { active = still_active 0 framed.top.active; unframed = top_free };
    few = rw after_count framed.few;
    shown = λ d m active is. elim (now_active d active) [
      | inl old ↦ old_shown d m old (sym (frame_now d) ∙ is)
      | inr new ↦ new_shown d m new is
    ];
    leads = λ d active. ap first_of_list (sym (path_whole after d)) ∙ after_reach d active;
  }

  pub entered_framed : AreFramed (shown (adopted joined owner n) n)
  unfolding shown adopted
  entered_framed = after_framed
