-- Where an element was taken out, the documents that end can be looked for in the tree that is left as well as in the one before.
use Rattle.std.proofs.Common.{◌≡◌, ◌≢◌, ◌<◌, ℕ, zero, suc, Bool, true, false, cond, List, [], length, Some, inl, inr, refl, ap, sym, subst, ◌∙◌, arith}
use Rattle.page_model.specs.World.{DocumentState, Dead, Tree}
use Rattle.page_model.specs.Lookups.{element_at, document_at}
use Rattle.page_model.specs.Documents.{is_active, is_active_there, is_active_state, tree_document, stands_in_active, led_to, frames_in, documents_inside, container_of, unlinked, with_state}
use Rattle.page_documents.specs.Paths.{holder_of}
use Rattle.page_documents.specs.Frames.{MakeTrees, AreFramed}
use Rattle.page_documents.proofs.Lists.{Among, not_some}
use Rattle.page_documents.proofs.Shape.{IsBelow, to_below, itself_below, child_below, above_child}
use Rattle.page_documents.proofs.Standing.{own_document, root_stands, document_below, stands_below}
use Rattle.page_documents.proofs.Led.{frame_below, below_frame, frame_under, under_frame, Passes, inner, led_by, by_led, none_led}
use Rattle.page_documents.proofs.Framed.{inside_is, framed_held, reaches, inner_held, rank, rises_by}
use Rattle.page_documents.proofs.Unlinking.{Apart, unlinked_apart}
use Rattle.page_documents.proofs.Removing.{unlinked_state, apart_trees, EndBelow, ended_framed}

-- what frames lead to in one tree they lead to in another one, where frames of documents that pass are the same
module _ (test : DocumentState → Bool) (one other : Tree) (states : (d : ℕ) → (document_at other d).state ≡ (document_at one d).state) (Good : ℕ → Type 0)
    (step : (x : ℕ) → Good x → Passes test one x → (y : ℕ) → Among y (inner test one x) → Passes test one y → Among y (inner test other x) × Good y) where
  passes_too : (x : ℕ) → Passes test one x → Passes test other x
  passes_too x passes = ap test (states x) ∙ passes

  led_too : (deep d : ℕ) (documents documents' : List ℕ) →
      ((x : ℕ) → Among x documents → Passes test one x → Among x documents' × Good x) → Among d (led_to deep test one documents) →
      Among d (led_to deep test other documents')
  led_too zero d documents documents' each is = absurd (none_led test one d documents is)
  led_too (suc deep) d documents documents' each is =
      let it = led_by test one deep d documents is in
      let first = it.first in
      let there = each first (it.among) (it.passes) in
      by_led test other deep first d documents' (there.0) (passes_too first (it.passes)) (elim it.on [
        | inl same ↦ inl same
        | inr further ↦
            inr (led_too deep d (inner test one first) (inner test other first)
            (λ y among passes. step first (there.1) (it.passes) y among passes) further)
      ])

module _ (tree : Tree) (n document : ℕ) (framed : AreFramed tree) (stood : tree_document tree n ≡ Some document) where
  abbrev mid : Tree
  mid = unlinked tree n (container_of tree n)

  out : Apart tree mid n
  out = unlinked_apart tree n framed.trees framed.owners

  trees : MakeTrees mid
  trees = apart_trees tree mid n out framed.trees

  states : (d : ℕ) → (document_at mid d).state ≡ (document_at tree d).state
  states d = unlinked_state tree n d (container_of tree n)

  -- nothing comes to be below an element
  was_below : (r m : ℕ) → IsBelow mid r m → IsBelow tree r m
  was_below r m is =
      to_below mid trees (λ k. IsBelow tree r k) r m
      (λ c p up there. child_below tree framed.trees r c p (sym (out.parents c (λ same. not_some p (sym (ap (λ k. (element_at mid k).parent) same
      ∙ out.alone) ∙ up))) ∙ up) there)
      (itself_below tree framed.trees r) is

  -- what is below an element stays there, where the one taken out isn't on the way
  record Stays (r m : ℕ) : Type 0 where
    before : IsBelow tree r m
    now : IsBelow mid r m

  still_below : (r m : ℕ) → ((p : ℕ) → (element_at tree n).parent ≡ Some p → IsBelow tree r p → ⊥) → IsBelow tree r m → IsBelow mid r m
  still_below r m off is =
      (to_below tree framed.trees (λ k. Stays r k) r m
      (λ c p up it. record {
        before = child_below tree framed.trees r c p up (it.before);
        now = child_below mid trees r c p (out.parents c (λ same. off p (ap (λ k. (element_at tree k).parent) (sym same) ∙ up) (it.before)) ∙ up) (it.now);
      })
      (record { before = itself_below tree framed.trees r; now = itself_below mid trees r }) is).now

  from_itself : (p : ℕ) → (element_at tree n).parent ≡ Some p → IsBelow tree n p → ⊥
  from_itself p up is = above_child tree framed.trees n p up is

  -- documents that are further from the top one than that where the element stood
  abbrev Further : ℕ → Type 0
  Further x = rank tree framed document < rank tree framed x

  other_document : (x : ℕ) → Further x → x ≢ document
  other_document x further same = let it : rank tree framed x ≡ rank tree framed document = ap (rank tree framed) same in omega arith

  from_root : (x r : ℕ) → Further x → (document_at tree x).root ≡ Some r → (p : ℕ) → (element_at tree n).parent ≡ Some p → IsBelow tree r p → ⊥
  from_root x r further is p up below =
      let there : tree_document tree n ≡ Some x = stands_below tree framed.trees framed.owners x r n is (child_below tree framed.trees r n p up below) in
      other_document x further (let both : Some document ≡ Some x = sym stood ∙ there in let same : x ≡ document = cc in same)

  still_root : (x r : ℕ) → Further x → (document_at tree x).root ≡ Some r → (document_at mid x).root ≡ Some r
  still_root x r further is =
      out.rooted x r is (λ same. other_document x further (let both : Some x ≡ Some document = sym (root_stands tree framed.trees framed.owners x r is)
      ∙ ap (tree_document tree) same ∙ stood in let it : x ≡ document = cc in it))

  inner_stays : (x : ℕ) → Further x → Passes is_active_state tree x → (y : ℕ) → Among y (inner is_active_state tree x) → Passes is_active_state tree y →
      Among y (inner is_active_state mid x) × Further y
  inner_stays x further passes y among passes' =
      let it = frame_under tree ((document_at tree x).root) y among in
      let f = it.there in
      let more = rises_by tree framed (length tree.documents) x y (reaches tree framed y passes') (inner_held tree framed x y among) in (
        under_frame mid ((document_at mid x).root) (it.top) (f.frame) y (still_root x (it.top) further (it.is))
            (still_below (it.top) (f.frame) (from_root x (it.top) further (it.is)) (f.below)) (out.framed (f.frame) ∙ f.framed),
        (omega arith),
      )

  first_stays : (x : ℕ) → Among x (frames_in tree n) → Passes is_active_state tree x → Among x (frames_in mid n) × Further x
  first_stays x among passes =
      let f = frame_below tree n x among in
      let held : holder_of tree x ≡ Some document =
      framed_held tree framed.owners x (f.frame) (framed.owners.framed (f.frame) x (f.framed))
      ∙ ap Some (own_document tree (f.frame) document (document_below tree framed.trees framed.owners n (f.frame) (f.below) ∙ stood)) in
      let more = rises_by tree framed (length tree.documents) document x (reaches tree framed x passes) held in
      (below_frame mid n (f.frame) x (still_below n (f.frame) from_itself (f.below)) (out.framed (f.frame) ∙ f.framed), (omega arith))

  inside_stays : (d : ℕ) → Among d (documents_inside is_active_state tree n) → Among d (documents_inside is_active_state mid n)
  inside_stays d among =
      subst (Among d) (sym (inside_is is_active_state mid n))
      (led_too is_active_state tree mid states Further inner_stays 65536 d (frames_in tree n) (frames_in mid n) first_stays
      (subst (Among d) (inside_is is_active_state tree n) among))

  inner_was : (x : ℕ) → Unit {0} → Passes is_active_state mid x → (y : ℕ) → Among y (inner is_active_state mid x) → Passes is_active_state mid y →
      Among y (inner is_active_state tree x) × Unit {0}
  inner_was x good passes y among passes' =
      let it = frame_under mid ((document_at mid x).root) y among in
      let f = it.there in (
        under_frame tree ((document_at tree x).root) (it.top) (f.frame) y (out.roots x (it.top) (it.is)).0 (was_below (it.top) (f.frame) (f.below))
            (sym (out.framed (f.frame)) ∙ f.framed),
        tt,
      )

  first_was : (x : ℕ) → Among x (frames_in mid n) → Passes is_active_state mid x → Among x (frames_in tree n) × Unit {0}
  first_was x among passes =
      let f = frame_below mid n x among in
      (below_frame tree n (f.frame) x (was_below n (f.frame) (f.below)) (sym (out.framed (f.frame)) ∙ f.framed), tt)

  inside_was : (d : ℕ) → Among d (documents_inside is_active_state mid n) → Among d (documents_inside is_active_state tree n)
  inside_was d among =
      subst (Among d) (sym (inside_is is_active_state tree n))
      (led_too is_active_state mid tree (λ x. sym (states x)) (λ x. Unit {0}) inner_was 65536 d (frames_in mid n) (frames_in tree n) first_was
      (subst (Among d) (inside_is is_active_state mid n) among))

  shown_is : stands_in_active tree n ≡ is_active tree document
  unfolding stands_in_active
  shown_is = ap (is_active_there tree) stood

  still_shown : is_active mid document ≡ stands_in_active tree n
  still_shown = ap is_active_state (states document) ∙ sym shown_is

  abbrev ending : List ℕ
  ending = cond (is_active mid document) (documents_inside is_active_state mid n) []

  ends_there : (d : ℕ) (shown : Bool) → is_active mid document ≡ shown → Among d (cond shown (documents_inside is_active_state mid n) []) →
      Among d (documents_inside is_active_state tree n) × (stands_in_active tree n ≡ true)
  ends_there d true is among = (inside_was d among, sym still_shown ∙ is)
  ends_there d false is among = absurd among

  left_end : EndBelow tree n ending
  left_end = record {
    inside = λ d among. ends_there d (is_active mid document) refl among;
    whole = λ d shown among.
        subst (λ b. Among d (cond b (documents_inside is_active_state mid n) [])) (sym (still_shown ∙ shown)) (inside_stays d among);
  }

  pub left_framed : AreFramed (with_state Dead ending mid)
  left_framed = ended_framed tree n framed ending left_end
