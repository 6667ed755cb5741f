-- The way from a document up to the top one.
use Rattle.std.proofs.Common.{◌≡◌, ◌<◌, ◌≤◌, ◌+◌, ℕ, zero, suc, true, List, [], ◌∷◌, ◌++◌, length, length-append, Option, Some, None, ◌⊎◌, inl, inr, refl, ap, sym, subst, ◌∙◌, arith}
use Rattle.std.specs.Prelude.{◌==◌}
use Rattle.std.specs.List.{IsDistinct, list_any}
use Rattle.std.specs.Cmp.{nat_eq_equiv}
use Rattle.std.proofs.lemmas.Map.Keys.{IsDistinct-push}
use Rattle.std.proofs.lemmas.Map.Steps.{length-le_from_distinct_below}
use Rattle.std.proofs.lemmas.Bool.{or_cases, eqb-true, false≢true, false_from_ne_true}
use Rattle.page_model.specs.World.{Tree}
use Rattle.page_model.specs.Documents.{first_of_list}
use Rattle.page_documents.specs.Paths.{holder_of, way_above, way_down}
use Rattle.page_documents.proofs.Lists.{Among, among_append}

first_append : (xs : List ℕ) (d : ℕ) → first_of_list (xs ++ d ∷ []) ≡ Some 0 → (first_of_list xs ≡ Some 0) ⊎ (d ≡ 0)
first_append [] d is = inr cc
first_append (x ∷ xs) d is = inl is

first_left : (xs ys : List ℕ) (x : ℕ) → first_of_list xs ≡ Some x → first_of_list (xs ++ ys) ≡ Some x
first_left [] ys x is = cc
first_left (y ∷ xs) ys x is = is

pub some_first : (xs : List ℕ) (x : ℕ) → first_of_list xs ≡ Some x → 1 ≤ length xs
some_first [] x is = cc
some_first (y ∷ xs) x is = omega arith

-- a number in a list, as a set's keys are looked up
any_among : (n : ℕ) (xs : List ℕ) → list_any (λ x. n == x) xs ≡ true → Among n xs
any_among n [] is = absurd (false≢true is)
any_among n (x ∷ xs) is = elim (or_cases (n == x) (list_any (λ x. n == x) xs) is) [ inl here ↦ inl (sym (eqb-true n x here)) | inr there ↦ inr (any_among n xs there) ]

module _ (tree : Tree) where
  -- the way begins at the top document
  abbrev pub Reaches : ℕ → ℕ → Type 0
  Reaches high document = first_of_list (way_down high tree document) ≡ Some 0

  pub way_none : (high document : ℕ) → holder_of tree document ≡ None → way_down (suc high) tree document ≡ document ∷ []
  unfolding way_down
  way_none high document is = ap (λ o. way_above (way_down high tree) o ++ document ∷ []) is

  pub way_some : (high document holder : ℕ) → holder_of tree document ≡ Some holder →
      way_down (suc high) tree document ≡ way_down high tree holder ++ document ∷ []
  unfolding way_down
  way_some high document holder is = ap (λ o. way_above (way_down high tree) o ++ document ∷ []) is

  pub no_way : (document : ℕ) → Reaches zero document → ⊥
  unfolding way_down
  no_way document is = cc

  pub reach_down : (high document holder : ℕ) → holder_of tree document ≡ Some holder → Reaches high holder → Reaches (suc high) document
  reach_down high document holder is reaches =
      ap first_of_list (way_some high document holder is) ∙ first_left (way_down high tree holder) (document ∷ []) 0 reaches

  -- the holder's way, where the top document is in no frame
  module _ (unheld : holder_of tree 0 ≡ None) where
    pub reach_up : (high document holder : ℕ) → holder_of tree document ≡ Some holder → Reaches (suc high) document → Reaches high holder
    reach_up high document holder is reaches =
        elim (first_append (way_down high tree holder) document (sym (ap first_of_list (way_some high document holder is)) ∙ reaches)) [
          | inl there ↦ there
          | inr top ↦ absurd (let both : None ≡ Some holder = sym unheld ∙ ap (holder_of tree) (sym top) ∙ is in cc)
        ]

    more_step : (high higher document : ℕ) → ((holder : ℕ) → Reaches high holder → way_down higher tree holder ≡ way_down high tree holder) →
        Reaches (suc high) document → (found : Option ℕ) → holder_of tree document ≡ found → way_down (suc higher) tree document ≡ way_down (suc high) tree document
    more_step high higher document each reaches None is = way_none higher document is ∙ sym (way_none high document is)
    more_step high higher document each reaches (Some holder) is =
        way_some higher document holder is
        ∙ ap (λ xs. xs ++ document ∷ []) (each holder (reach_up high document holder is reaches))
        ∙ sym (way_some high document holder is)

    -- a way that is whole doesn't get longer
    pub way_more : (high higher document : ℕ) → high ≤ higher → Reaches high document → way_down higher tree document ≡ way_down high tree document
    way_more zero higher document less reaches = absurd (no_way document reaches)
    way_more (suc high) zero document less reaches = absurd (omega arith)
    way_more (suc high) (suc higher) document less reaches =
        more_step high higher document (λ holder there. way_more high higher holder (omega arith) there) reaches (holder_of tree document) refl

    pub reach_more : (high higher document : ℕ) → high ≤ higher → Reaches high document → Reaches higher document
    reach_more high higher document less reaches = ap first_of_list (way_more high higher document less reaches) ∙ reaches

    -- what is on the way has no longer one
    record OnWay (high document x : ℕ) : Type 0 where
      reaches : Reaches high x
      short : length (way_down high tree x) ≤ length (way_down high tree document)

    length_more : (xs : List ℕ) (x : ℕ) → length (xs ++ x ∷ []) ≡ length xs + 1
    length_more xs x = length-append xs (x ∷ [])

    itself_on : (high document x : ℕ) → Reaches high document → document ≡ x → OnWay high document x
    itself_on high document x reaches same = subst (OnWay high document) same (record { reaches = reaches; short = omega arith })

    on_step : (high document x : ℕ) → ((holder : ℕ) → Reaches high holder → Among x (way_down high tree holder) → OnWay high holder x) →
        Reaches (suc high) document → (found : Option ℕ) → holder_of tree document ≡ found → Among x (way_down (suc high) tree document) →
        OnWay (suc high) document x
    on_step high document x each reaches None is among =
        elim (subst (Among x) (way_none high document is) among) [ inl same ↦ itself_on (suc high) document x reaches same | inr none ↦ absurd none ]
    on_step high document x each reaches (Some holder) is among =
        elim (among_append x (way_down high tree holder) (document ∷ []) (subst (Among x) (way_some high document holder is) among)) [
          | inl there ↦
              let it = each holder (reach_up high document holder is reaches) there in
              let here : Reaches high x = it.reaches in
              let same : way_down (suc high) tree x ≡ way_down high tree x = way_more high (suc high) x (omega arith) here in
              let one : length (way_down (suc high) tree document) ≡ length (way_down high tree holder) + 1
              = ap length (way_some high document holder is) ∙ length_more (way_down high tree holder) document in
              let less : length (way_down high tree x) ≤ length (way_down high tree holder) = it.short in
              record { reaches = ap first_of_list same ∙ here; short = rw (ap length same) (omega arith) }
          | inr (inl same) ↦ itself_on (suc high) document x reaches same
          | inr (inr none) ↦ absurd none
        ]

    on_way : (high document x : ℕ) → Reaches high document → Among x (way_down high tree document) → OnWay high document x
    on_way zero document x reaches among = absurd (no_way document reaches)
    on_way (suc high) document x reaches among =
        on_step high document x (λ holder there. on_way high holder x there) reaches (holder_of tree document) refl among

    -- no document is on the way twice
    off_way : (high document holder : ℕ) → holder_of tree document ≡ Some holder → Reaches (suc high) document → Among document (way_down high tree holder) → ⊥
    off_way high document holder is reaches among =
        let it = on_way high holder document (reach_up high document holder is reaches) among in
        let same : way_down (suc high) tree document ≡ way_down high tree document = way_more high (suc high) document (omega arith) (it.reaches) in
        let one : length (way_down (suc high) tree document) ≡ length (way_down high tree holder) + 1
        = ap length (way_some high document holder is) ∙ length_more (way_down high tree holder) document in
        let short : length (way_down high tree document) ≤ length (way_down high tree holder) = it.short in
        let long : length (way_down (suc high) tree document) ≡ length (way_down high tree document) = ap length same in
        omega arith

    distinct_step : (high document : ℕ) → ((holder : ℕ) → Reaches high holder → IsDistinct (λ x y. x == y) (way_down high tree holder)) →
        Reaches (suc high) document → (found : Option ℕ) → holder_of tree document ≡ found → IsDistinct (λ x y. x == y) (way_down (suc high) tree document)
    unfolding IsDistinct
    distinct_step high document each reaches None is = subst (IsDistinct (λ x y. x == y)) (sym (way_none high document is)) (tt, tt)
    distinct_step high document each reaches (Some holder) is =
        subst (IsDistinct (λ x y. x == y)) (sym (way_some high document holder is))
        (IsDistinct-push nat_eq_equiv (way_down high tree holder) document (each holder (reach_up high document holder is reaches))
        (false_from_ne_true (list_any (λ x. document == x) (way_down high tree holder))
        (λ there. off_way high document holder is reaches (any_among document (way_down high tree holder) there))))

    distinct_way : (high document : ℕ) → Reaches high document → IsDistinct (λ x y. x == y) (way_down high tree document)
    distinct_way zero document reaches = absurd (no_way document reaches)
    distinct_way (suc high) document reaches =
        distinct_step high document (λ holder there. distinct_way high holder there) reaches (holder_of tree document) refl

    -- as many levels suffice as the way is long
    own_step : (high document : ℕ) →
        ((holder : ℕ) → Reaches high holder → way_down (length (way_down high tree holder)) tree holder ≡ way_down high tree holder) → Reaches (suc high) document →
        (found : Option ℕ) → holder_of tree document ≡ found →
        way_down (length (way_down (suc high) tree document)) tree document ≡ way_down (suc high) tree document
    own_step high document each reaches None is =
        ap (λ xs. way_down (length xs) tree document) (way_none high document is) ∙ way_none 0 document is ∙ sym (way_none high document is)
    own_step high document each reaches (Some holder) is =
        let long : length (way_down (suc high) tree document) ≡ suc (length (way_down high tree holder))
        = ap length (way_some high document holder is) ∙ length_more (way_down high tree holder) document ∙ (omega arith) in
        ap (λ k. way_down k tree document) long
        ∙ way_some (length (way_down high tree holder)) document holder is
        ∙ ap (λ xs. xs ++ document ∷ []) (each holder (reach_up high document holder is reaches))
        ∙ sym (way_some high document holder is)

    own_length : (high document : ℕ) → Reaches high document → way_down (length (way_down high tree document)) tree document ≡ way_down high tree document
    own_length zero document reaches = absurd (no_way document reaches)
    own_length (suc high) document reaches =
        own_step high document (λ holder there. own_length high holder there) reaches (holder_of tree document) refl

    on_top : (high x : ℕ) → Reaches high x → holder_of tree x ≡ None → x ≡ 0
    on_top zero x reaches is = absurd (no_way x reaches)
    on_top (suc high) x reaches is = let first : Some x ≡ Some 0 = sym (ap first_of_list (way_none high x is)) ∙ reaches in cc

    -- where whatever is held is below a bound, so many levels suffice
    module _ (most : ℕ) (some : 0 < most) (bounded : (x holder : ℕ) → holder_of tree x ≡ Some holder → x < most) where
      below_most : (high x : ℕ) → Reaches high x → (found : Option ℕ) → holder_of tree x ≡ found → x < most
      below_most high x reaches None is = let top : x ≡ 0 = on_top high x reaches is in omega arith
      below_most high x reaches (Some holder) is = bounded x holder is

      pub in_time : (high document : ℕ) → Reaches high document → Reaches most document
      in_time high document reaches =
          let short : length (way_down high tree document) ≤ most =
          length-le_from_distinct_below (way_down high tree document) most (distinct_way high document reaches)
          (λ x there. let it = on_way high document x reaches (any_among x (way_down high tree document) there) in
          below_most high x (it.reaches) (holder_of tree x) refl) in
          reach_more (length (way_down high tree document)) most document short (ap first_of_list (own_length high document reaches) ∙ reaches)

-- where each document has the holder that it had, ways are as they were
module _ (before after : Tree) (same : (d : ℕ) → holder_of after d ≡ holder_of before d) where
  above_alike : (up up' : ℕ → List ℕ) → ((d : ℕ) → up' d ≡ up d) → (found : Option ℕ) → way_above up' found ≡ way_above up found
  above_alike up up' each None = refl
  above_alike up up' each (Some holder) = each holder

  pub ways_alike : (high d : ℕ) → way_down high after d ≡ way_down high before d
  unfolding way_down
  ways_alike zero d = refl
  ways_alike (suc high) d =
      ap (λ xs. xs ++ d ∷ []) (ap (way_above (way_down high after)) (same d)
      ∙ above_alike (way_down high before) (way_down high after) (ways_alike high) (holder_of before d))

-- the same of documents that pass on to their holders what tells them
module _ (before after : Tree) (Kept : ℕ → Type 0) (same : (d : ℕ) → Kept d → holder_of after d ≡ holder_of before d)
    (passed : (d holder : ℕ) → Kept d → holder_of before d ≡ Some holder → Kept holder) where
  kept_step : (high d : ℕ) → ((holder : ℕ) → Kept holder → way_down high after holder ≡ way_down high before holder) → Kept d → (found : Option ℕ) →
      holder_of before d ≡ found → way_down (suc high) after d ≡ way_down (suc high) before d
  kept_step high d each kept None is = way_none after high d (same d kept ∙ is) ∙ sym (way_none before high d is)
  kept_step high d each kept (Some holder) is =
      way_some after high d holder (same d kept ∙ is)
      ∙ ap (λ xs. xs ++ d ∷ []) (each holder (passed d holder kept is))
      ∙ sym (way_some before high d holder is)

  pub ways_kept : (high d : ℕ) → Kept d → way_down high after d ≡ way_down high before d
  unfolding way_down
  ways_kept zero d kept = refl
  ways_kept (suc high) d kept = kept_step high d (λ holder it. ways_kept high holder it) kept (holder_of before d) refl
