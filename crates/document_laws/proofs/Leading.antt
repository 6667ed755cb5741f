-- Documents that frames lead to, by as many frames as there can be.
use Rattle.std.proofs.Common.{◌≡◌, ◌<◌, ◌≤◌, ◌+◌, ℕ, zero, suc, Bool, true, cond, List, [], ◌∷◌, length, Some, inl, inr, refl, ap, sym, ◌∙◌, arith}
use Rattle.std.specs.Prelude.{flat_map}
use Rattle.page_model.specs.World.{DocumentState, Active, Document, Tree}
use Rattle.page_model.specs.Lookups.{element_at, document_at, no_document}
use Rattle.page_model.specs.Documents.{is_active, is_active_state, is_fresh_state, stands_in_active, frames_in, led_to, documents_inside, with_state, shown}
use Rattle.page_documents.specs.Paths.{holder_of, way_down}
use Rattle.page_documents.specs.Frames.{MakeTrees, HaveOwners}
use Rattle.page_documents.proofs.Lists.{Among, decided}
use Rattle.page_documents.proofs.Entries.{kept_each, set_each, unchanged_each}
use Rattle.page_documents.proofs.Shape.{trees_same}
use Rattle.page_documents.proofs.Standing.{standing, own_document, document_below, stands_below}
use Rattle.page_documents.proofs.Led.{frame_below, frame_under, Passes, inner}
use Rattle.page_documents.proofs.Ways.{Reaches, some_first, reach_down, in_time}
use Rattle.page_documents.proofs.Framed.{inside_is, active_known, framed_known, framed_held, held_frame, unheld, reaches, way_short, rises_by, inner_held}
use Rattle.document_laws.specs.Levels.{IsWithinLevels}
use Rattle.document_laws.proofs.Lists.{passed_same, none_passed}

-- where ranks rise from frame to frame up to 64, so many frames in a row suffice
module _ (test : DocumentState → Bool) (tree : Tree) (Good : ℕ → Type 0) (rank : ℕ → ℕ) (bounded : (x : ℕ) → Good x → rank x ≤ 64)
    (next : (x y : ℕ) → Good x → Among y (inner test tree x) → Passes test tree y → Good y × (rank y ≡ rank x + 1)) where
  -- a good document with so many ranks above its own
  abbrev Enough : ℕ → ℕ → Type 0
  Enough deep x = Good x × (64 < rank x + deep)

  never : (x : ℕ) → Enough zero x → ⊥
  never x it = omega (arith, bounded x (it.0), it.1)

  inside : (deep x y : ℕ) → Enough (suc deep) x → Among y (inner test tree x) → Passes test tree y → Enough deep y
  inside deep x y it among passes = let on = next x y (it.0) among passes in (on.0, omega (arith, on.1, it.1))

  none_led : (more : ℕ) (documents : List ℕ) → ((x : ℕ) → Among x documents → Passes test tree x → ⊥) → led_to more test tree documents ≡ []
  unfolding led_to
  none_led zero documents none = refl
  none_led (suc more) documents none =
      ap (flat_map (λ document. document ∷ led_to more test tree (inner test tree document)))
      (none_passed (λ document. test (document_at tree document).state) documents none)

  pub same_led : (few more : ℕ) (documents : List ℕ) → ((x : ℕ) → Among x documents → Passes test tree x → Enough few x) →
      ((x : ℕ) → Among x documents → Passes test tree x → Enough more x) → led_to few test tree documents ≡ led_to more test tree documents
  unfolding led_to
  same_led zero more documents enough enough' = sym (none_led more documents (λ x among passes. never x (enough x among passes)))
  same_led (suc few) zero documents enough enough' = none_led (suc few) documents (λ x among passes. never x (enough' x among passes))
  same_led (suc few) (suc more) documents enough enough' =
      passed_same (λ document. test (document_at tree document).state)
      (λ document. document ∷ led_to few test tree (inner test tree document))
      (λ document. document ∷ led_to more test tree (inner test tree document))
      documents
      (λ x among passes. ap (λ led. x ∷ led) (same_led few more (inner test tree x)
      (λ y further passes'. inside few x y (enough x among passes) further passes')
      (λ y further passes'. inside more x y (enough' x among passes) further passes')))

-- Active documents ------------------------------------------------------------------------------------------------------------------------

module _ (tree : Tree) (levels : IsWithinLevels tree) where
  abbrev IsGood : ℕ → Type 0
  IsGood document = is_active tree document ≡ true

  abbrev rank_of : ℕ → ℕ
  rank_of document = length (way_down (length tree.documents) tree document)

  rank_most : (document : ℕ) → IsGood document → rank_of document ≤ 64
  rank_most document active =
      omega (arith, way_short tree (length tree.documents) document, levels.few)

  rank_least : (document : ℕ) → IsGood document → 1 ≤ rank_of document
  rank_least document active = some_first (way_down (length tree.documents) tree document) 0 (reaches tree levels.framed document active)

  on_active : (x y : ℕ) → IsGood x → Among y (inner is_active_state tree x) → Passes is_active_state tree y → IsGood y × (rank_of y ≡ rank_of x + 1)
  on_active x y active among passes = (
    passes,
    rises_by tree levels.framed (length tree.documents) x y (reaches tree levels.framed y passes) (inner_held tree levels.framed x y among),
  )

  pub active_whole : (most : ℕ) (documents : List ℕ) → 64 ≤ most →
      led_to most is_active_state tree documents ≡ led_to 65536 is_active_state tree documents
  active_whole most documents enough =
      same_led is_active_state tree IsGood rank_of rank_most on_active most 65536 documents
      (λ x among passes. (passes, omega (arith, rank_least x passes, enough)))
      (λ x among passes. (passes, omega (arith, rank_least x passes)))

-- Fresh documents that are shown ---------------------------------------------------------------------------------------------------------

module _ (tree : Tree) (opening : List ℕ) (levels : IsWithinLevels (with_state Active opening tree)) where
  abbrev after : Tree
  after = with_state Active opening tree

  abbrev open_state : Document → Document
  open_state it = record it { state = Active }

  frame_same : (d : ℕ) → (document_at after d).frame ≡ (document_at tree d).frame
  frame_same d = kept_each no_document open_state (λ (it : Document). it.frame) (λ it. refl) opening d (tree.documents)

  root_same : (d : ℕ) → (document_at after d).root ≡ (document_at tree d).root
  root_same d = kept_each no_document open_state (λ (it : Document). it.root) (λ it. refl) opening d (tree.documents)

  trees : MakeTrees tree
  trees = trees_same after tree (λ m. refl) (λ m. refl) levels.framed.trees

  owners : HaveOwners tree
  owners = record {
    framed = λ m d is. sym (frame_same d) ∙ levels.framed.owners.framed m d is;
    frames = λ d m is. levels.framed.owners.frames d m (frame_same d ∙ is);
    roots = λ d r is. let it = levels.framed.owners.roots d r (root_same d ∙ is) in record { known = it.known; top = it.top; owner = it.owner };
    owned = levels.framed.owners.owned;
  }

  -- what holds a frame's document
  held_after : (d frame holder : ℕ) → (element_at tree frame).framed ≡ Some d → (element_at tree frame).document ≡ holder → holder_of after d ≡ Some holder
  held_after d frame holder is own =
      framed_held after levels.framed.owners d frame (levels.framed.owners.framed frame d is) ∙ ap Some own

  still_active : (d : ℕ) → is_active tree d ≡ true → is_active after d ≡ true
  still_active d active = elim (decided d opening) [
    | inl among ↦
        ap is_active_state (set_each no_document open_state (λ (it : Document). it.state) Active (λ it. refl) opening d (tree.documents) among
        (active_known tree d active))
    | inr out ↦ ap (λ (it : Document). is_active_state (it.state)) (unchanged_each no_document open_state opening d (tree.documents) out) ∙ active
  ]

  abbrev count : ℕ
  count = length after.documents

  abbrev Led : ℕ → Type 0
  Led document = Reaches after count document

  abbrev led_rank : ℕ → ℕ
  led_rank document = length (way_down count after document)

  some_count : 0 < count
  some_count = active_known after 0 levels.framed.top.active

  one_on : (d holder : ℕ) → holder_of after d ≡ Some holder → Led holder → Led d
  one_on d holder held led =
      in_time after (unheld after levels.framed) count some_count
      (λ x above is. let has = held_frame after levels.framed.owners x above is in framed_known after x (has.frame) (has.is)) (suc count) d
      (reach_down after count d holder held led)

  led_most : (document : ℕ) → Led document → led_rank document ≤ 64
  led_most document led = omega (arith, way_short after count document, levels.few)

  led_least : (document : ℕ) → Led document → 1 ≤ led_rank document
  led_least document led = some_first (way_down count after document) 0 led

  on_fresh : (x y : ℕ) → Led x → Among y (inner is_fresh_state tree x) → Passes is_fresh_state tree y → Led y × (led_rank y ≡ led_rank x + 1)
  on_fresh x y led among passes =
      let it = frame_under tree ((document_at tree x).root) y among in
      let f = it.there in
      let held = held_after y (f.frame) x (f.framed) (own_document tree (f.frame) x (stands_below tree trees owners x (it.top) (f.frame) (it.is) (f.below))) in
      let good = one_on y x held led in
      (good, rises_by after levels.framed count x y good held)

  first_led : (n : ℕ) → stands_in_active tree n ≡ true → (d : ℕ) → Among d (frames_in tree n) → Led d
  first_led n stands d among =
      let it = frame_below tree n d among in
      let at = standing tree n stands in
      let there = document_below tree trees owners n (it.frame) (it.below) ∙ at.there in
      one_on d (at.document) (held_after d (it.frame) (at.document) (it.framed) (own_document tree (it.frame) (at.document) there))
      (reaches after levels.framed (at.document) (still_active (at.document) (at.active)))

  opened_whole : (n : ℕ) → stands_in_active tree n ≡ true → (most : ℕ) → 64 ≤ most →
      led_to most is_fresh_state tree (frames_in tree n) ≡ led_to 65536 is_fresh_state tree (frames_in tree n)
  opened_whole n stands most enough =
      same_led is_fresh_state tree Led led_rank led_most on_fresh most 65536 (frames_in tree n)
      (λ x among passes. let led = first_led n stands x among in (led, omega (arith, led_least x led, enough)))
      (λ x among passes. let led = first_led n stands x among in (led, omega (arith, led_least x led)))

pub fresh_whole : (tree : Tree) (n : ℕ) → IsWithinLevels (shown tree n) → stands_in_active tree n ≡ true → (most : ℕ) → 64 ≤ most →
    led_to most is_fresh_state tree (frames_in tree n) ≡ documents_inside is_fresh_state tree n
unfolding shown
fresh_whole tree n levels stands most enough =
    opened_whole tree (cond (stands_in_active tree n) (documents_inside is_fresh_state tree n) []) levels n stands most enough
    ∙ sym (inside_is is_fresh_state tree n)
