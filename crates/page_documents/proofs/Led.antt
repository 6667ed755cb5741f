-- Documents that frames lead to, from documents to those in frames of their trees.
use Rattle.std.proofs.Common.{◌≡◌, ◌<◌, ◌≤◌, ◌+◌, ℕ, zero, suc, Bool, true, List, ◌∷◌, Option, Some, None, ◌⊎◌, inl, inr, refl, sym, subst, arith}
use Rattle.page_model.specs.World.{DocumentState, Tree}
use Rattle.page_model.specs.Lookups.{element_at, document_at}
use Rattle.page_model.specs.Documents.{inclusive_descendants, led_to, frames_in, frames_below}
use Rattle.page_documents.proofs.Lists.{Among, among_flat, flat_among, among_filter, filter_among, among_filter_map, filter_map_among}
use Rattle.page_documents.proofs.Shape.{IsBelow}

-- the frame of a document, below an element
pub record FrameBelow (tree : Tree) (n document : ℕ) : Type 0 where
  pub frame : ℕ
  pub below : IsBelow tree n frame
  pub framed : (element_at tree frame).framed ≡ Some document

-- the same below a root element
pub record FrameUnder (tree : Tree) (root : Option ℕ) (document : ℕ) : Type 0 where
  pub top : ℕ
  pub is : root ≡ Some top
  pub there : FrameBelow tree top document

module _ (tree : Tree) where
  pub frame_below : (n document : ℕ) → Among document (frames_in tree n) → FrameBelow tree n document
  unfolding frames_in
  frame_below n document is =
      let it = among_filter_map (λ each. (element_at tree each).framed) document (inclusive_descendants tree n) is in
      record { frame = it.entry; below = it.among; framed = it.is }

  pub below_frame : (n frame document : ℕ) → IsBelow tree n frame → (element_at tree frame).framed ≡ Some document → Among document (frames_in tree n)
  unfolding frames_in
  below_frame n frame document below framed =
      filter_map_among (λ each. (element_at tree each).framed) document frame (inclusive_descendants tree n) below framed

  pub frame_under : (root : Option ℕ) (document : ℕ) → Among document (frames_below tree root) → FrameUnder tree root document
  frame_under None document is = absurd is
  frame_under (Some top) document is = record { top = top; is = refl; there = frame_below top document is }

  pub under_frame : (root : Option ℕ) (top frame document : ℕ) → root ≡ Some top → IsBelow tree top frame → (element_at tree frame).framed ≡ Some document →
      Among document (frames_below tree root)
  under_frame root top frame document is below framed =
      subst (λ o. Among document (frames_below tree o)) (sym is) (below_frame top frame document below framed)

module _ (test : DocumentState → Bool) (tree : Tree) where
  abbrev pub Passes : ℕ → Type 0
  Passes document = test ((document_at tree document).state) ≡ true

  abbrev pub inner : ℕ → List ℕ
  inner document = frames_below tree (document_at tree document).root

  -- a document is one of these or led to from one of them
  pub record LedBy (deep document : ℕ) (documents : List ℕ) : Type 0 where
    pub first : ℕ
    pub among : Among first documents
    pub passes : Passes first
    pub on : (first ≡ document) ⊎ Among document (led_to deep test tree (inner first))

  pub led_by : (deep document : ℕ) (documents : List ℕ) → Among document (led_to (suc deep) test tree documents) → LedBy deep document documents
  unfolding led_to
  led_by deep document documents is =
      let it = among_flat (λ each. each ∷ led_to deep test tree (inner each)) document _ is in
      let passed = among_filter (λ each. test ((document_at tree each).state)) (it.entry) documents (it.among) in
      record { first = it.entry; among = passed.0; passes = passed.1; on = it.of }

  pub by_led : (deep first document : ℕ) (documents : List ℕ) → Among first documents → Passes first →
      (first ≡ document) ⊎ Among document (led_to deep test tree (inner first)) → Among document (led_to (suc deep) test tree documents)
  unfolding led_to
  by_led deep first document documents among passes on =
      flat_among (λ each. each ∷ led_to deep test tree (inner each)) document first _
      (filter_among (λ each. test ((document_at tree each).state)) first documents among passes) on

  pub none_led : (document : ℕ) (documents : List ℕ) → Among document (led_to 0 test tree documents) → ⊥
  unfolding led_to
  none_led document documents is = is

  -- what holds of these documents where they pass, and of those in frames of the tree of one that is led to, holds of all
  pub led_all : (All Good : ℕ → Type 0) → ((x : ℕ) → Good x → All x → Passes x → (y : ℕ) → Among y (inner x) → Passes y → Good y) →
      (deep : ℕ) (documents : List ℕ) → ((x : ℕ) → Among x documents → Passes x → Good x) →
      ((d : ℕ) → Among d (led_to deep test tree documents) → All d) → (d : ℕ) → Among d (led_to deep test tree documents) → Good d × Passes d
  led_all All Good step zero documents each all d is = absurd (none_led d documents is)
  led_all All Good step (suc deep) documents each all d is =
      let it = led_by deep d documents is in
      let first = it.first in
      let good : Good first = each first (it.among) (it.passes) in
      elim it.on [
        | inl same ↦ subst (λ x. Good x × Passes x) same (good, it.passes)
        | inr further ↦
            led_all All Good step deep (inner first)
            (λ y among passes. step first good (all first (by_led deep first first documents (it.among) (it.passes) (inl refl))) (it.passes) y among passes)
            (λ e among. all e (by_led deep first e documents (it.among) (it.passes) (inr among))) d further
      ]

  -- one frame further
  pub next_led : (deep d e : ℕ) (documents : List ℕ) → Among d (led_to deep test tree documents) → Passes e → Among e (inner d) →
      Among e (led_to (suc deep) test tree documents)
  next_led zero d e documents is passes among = absurd (none_led d documents is)
  next_led (suc deep) d e documents is passes among =
      let it = led_by deep d documents is in
      by_led (suc deep) (it.first) e documents (it.among) (it.passes) (elim it.on [
        | inl same ↦ inr (by_led deep e e (inner (it.first)) (subst (λ x. Among e (inner x)) (sym same) among) passes (inl refl))
        | inr further ↦ inr (next_led deep d e (inner (it.first)) further passes among)
      ])

  -- where ranks rise from frame to frame and are bounded, so many frames in a row suffice
  module _ (rank : ℕ → ℕ) (most : ℕ) (bounded : (x : ℕ) → Passes x → rank x ≤ most)
      (rises : (x y : ℕ) → Passes x → Among y (inner x) → Passes y → rank y ≡ rank x + 1) where
    pub led_enough : (deep d : ℕ) (documents : List ℕ) → ((x : ℕ) → Among x documents → Passes x → most < rank x + deep) →
        Among d (led_to (suc deep) test tree documents) → Among d (led_to deep test tree documents)
    led_enough zero d documents high is =
        let it = led_by zero d documents is in
        let over : most < rank (it.first) + 0 = high (it.first) (it.among) (it.passes) in
        let within : rank (it.first) ≤ most = bounded (it.first) (it.passes) in
        absurd (omega arith)
    led_enough (suc deep) d documents high is =
        let it = led_by (suc deep) d documents is in
        let first = it.first in
        let over : most < rank first + suc deep = high first (it.among) (it.passes) in
        by_led deep first d documents (it.among) (it.passes) (elim it.on [
          | inl same ↦ inl same
          | inr further ↦
              inr (led_enough deep d (inner first)
              (λ y among passes. let more : rank y ≡ rank first + 1 = rises first y (it.passes) among passes in omega arith) further)
        ])
