-- Documents that frames lead to, one frame and one child at a time.
use Rattle.std.proofs.Common.{◌≡◌, ℕ, zero, suc, Bool, true, false, cond, List, [], ◌∷◌, ◌++◌, filter, filter_map, flat_map, Option, Some, None, option_to_list, option_map, slice_get, unwrap_or, Result, Ok, Err, OnOk, refl, ap, sym, ◌∙◌}
use Rattle.std.proofs.lemmas.Grind.{flat_map-append}
use Rattle.std.proofs.lemmas.List.Elements.{filter_map-append}
use Rattle.page_model.specs.World.{DocumentState, Element, Tree}
use Rattle.page_model.specs.Lookups.{element_at, document_at, no_element}
use Rattle.page_model.specs.Documents.{order_down, inclusive_descendants, led_to, frames_in, frames_below}
use Rattle.page_documents.specs.Walks.{held_in, frames_down, taken}

pub then_ok : {T E A B : Type 0} (outcome : Result T E) → (A → B) → OnOk outcome A → OnOk outcome B
then_ok (Ok x) more is = more is
then_ok (Err e) more is = tt

taken_append : {S : Type 0} (with : ℕ → S → S) (xs ys : List ℕ) (s : S) → taken with (xs ++ ys) s ≡ taken with ys (taken with xs s)
taken_append with [] ys s = refl
taken_append with (x ∷ xs) ys s = taken_append with xs ys (with x s)

pub filter_append : {A : Type 0} (p : A → Bool) (xs ys : List A) → filter p (xs ++ ys) ≡ filter p xs ++ filter p ys
filter_append p [] ys = refl
filter_append p (x ∷ xs) ys = elim (p x) as (λ b. cond b (x ∷ filter p (xs ++ ys)) (filter p (xs ++ ys))
    ≡ cond b (x ∷ filter p xs) (filter p xs) ++ filter p ys) [
      | true ↦ ap (λ zs. x ∷ zs) (filter_append p xs ys)
      | false ↦ filter_append p xs ys
    ]

pub frames_whole : (tree : Tree) (n : ℕ) → frames_in tree n ≡ frames_down 65536 tree n
unfolding frames_in frames_down inclusive_descendants
frames_whole tree n = refl

pub frames_ended : (tree : Tree) (n : ℕ) → frames_down 0 tree n ≡ []
unfolding frames_down order_down
frames_ended tree n = refl

own_first : (framed : Option ℕ) (xs : List ℕ) (tree : Tree) (n : ℕ) → (element_at tree n).framed ≡ framed
    → filter_map (λ each. (element_at tree each).framed) (n ∷ xs) ≡ option_to_list framed ++ filter_map (λ each. (element_at tree each).framed) xs
own_first None xs tree n is = rw is
own_first (Some document) xs tree n is = rw is

frames_flat : (high : ℕ) (tree : Tree) (kids : List ℕ) → filter_map (λ each. (element_at tree each).framed) (flat_map (order_down high tree) kids)
    ≡ flat_map (frames_down high tree) kids
unfolding frames_down
frames_flat high tree [] = refl
frames_flat high tree (kid ∷ kids) =
    filter_map-append (λ each. (element_at tree each).framed) (order_down high tree kid) (flat_map (order_down high tree) kids)
    ∙ ap (λ xs. filter_map (λ each. (element_at tree each).framed) (order_down high tree kid) ++ xs) (frames_flat high tree kids)

pub frames_more : (high : ℕ) (tree : Tree) (n : ℕ) → frames_down (suc high) tree n
    ≡ option_to_list (element_at tree n).framed ++ flat_map (frames_down high tree) (element_at tree n).children
unfolding frames_down order_down
frames_more high tree n =
    own_first ((element_at tree n).framed) (flat_map (order_down high tree) (element_at tree n).children) tree n refl
    ∙ ap (λ xs. option_to_list (element_at tree n).framed ++ xs) (frames_flat high tree (element_at tree n).children)

-- a root element that isn't among the elements leads nowhere
module _ (tree : Tree) where
  held_here : (n : ℕ) (found : Option Element) (root : ℕ) → option_map (λ (element : Element). n) found ≡ Some root → n ≡ root
  held_here n None root is = cc
  held_here n (Some element) root is = cc

  pub root_there : (o : Option ℕ) (root : ℕ) → held_in tree o ≡ Some root → o ≡ Some root
  root_there None root is = cc
  root_there (Some n) root is = ap Some (held_here n (slice_get tree.elements n) root is)

  unheld : (n : ℕ) (found : Option Element) → option_map (λ (element : Element). n) found ≡ None → found ≡ None
  unheld n None is = refl
  unheld n (Some element) is = cc

  pub root_nowhere : (o : Option ℕ) → held_in tree o ≡ None → frames_below tree o ≡ []
  root_nowhere None is = refl
  root_nowhere (Some n) is =
      let none : slice_get tree.elements n ≡ None = unheld n (slice_get tree.elements n) is in
      let bare : element_at tree n ≡ no_element = ap (λ o. unwrap_or o no_element) none in
      frames_whole tree n ∙ frames_more 65535 tree n
      ∙ ap (λ (it : Element). option_to_list it.framed ++ flat_map (frames_down 65535 tree) it.children) bare

module _ (test : DocumentState → Bool) (tree : Tree) where
  pub led_nowhere : (documents : List ℕ) → led_to 0 test tree documents ≡ []
  unfolding led_to
  led_nowhere documents = refl

  pub led_none : (deep : ℕ) → led_to deep test tree [] ≡ []
  unfolding led_to
  led_none zero = refl
  led_none (suc deep) = refl

  led_append : (deep : ℕ) (xs ys : List ℕ) → led_to deep test tree (xs ++ ys) ≡ led_to deep test tree xs ++ led_to deep test tree ys
  unfolding led_to
  led_append zero xs ys = refl
  led_append (suc deep) xs ys =
      ap (flat_map (λ document. document ∷ led_to deep test tree (frames_below tree (document_at tree document).root)))
      (filter_append (λ document. test (document_at tree document).state) xs ys)
      ∙ flat_map-append (λ document. document ∷ led_to deep test tree (frames_below tree (document_at tree document).root))
      (filter (λ document. test (document_at tree document).state) xs) (filter (λ document. test (document_at tree document).state) ys)

  led_flat : (deep : ℕ) (f : ℕ → List ℕ) (xs : List ℕ) → led_to deep test tree (flat_map f xs) ≡ flat_map (λ x. led_to deep test tree (f x)) xs
  led_flat deep f [] = led_none deep
  led_flat deep f (x ∷ xs) = led_append deep (f x) (flat_map f xs) ∙ ap (λ ys. led_to deep test tree (f x) ++ ys) (led_flat deep f xs)

  pub led_past : (deep document : ℕ) → test ((document_at tree document).state) ≡ false → led_to deep test tree (document ∷ []) ≡ []
  unfolding led_to
  led_past zero document is = refl
  led_past (suc deep) document is = rw is

  append_none : (xs : List ℕ) → xs ++ [] ≡ xs
  append_none [] = refl
  append_none (x ∷ xs) = ap (λ ys. x ∷ ys) (append_none xs)

  pub led_one : (deep document : ℕ) → test ((document_at tree document).state) ≡ true
      → led_to (suc deep) test tree (document ∷ []) ≡ document ∷ led_to deep test tree (frames_below tree (document_at tree document).root)
  unfolding led_to
  led_one deep document is = rw is (append_none (document ∷ led_to deep test tree (frames_below tree (document_at tree document).root)))

  -- what an element and its descendants lead to
  pub led_down : (deep high n : ℕ)
      → led_to deep test tree (frames_down (suc high) tree n)
      ≡ led_to deep test tree (option_to_list (element_at tree n).framed) ++ flat_map (λ kid. led_to deep test tree (frames_down high tree kid))
      (element_at tree n).children
  led_down deep high n =
      ap (led_to deep test tree) (frames_more high tree n)
      ∙ led_append deep (option_to_list (element_at tree n).framed) (flat_map (frames_down high tree) (element_at tree n).children)
      ∙ ap (λ ys. led_to deep test tree (option_to_list (element_at tree n).framed) ++ ys) (led_flat deep (frames_down high tree) (element_at tree n).children)

  module _ {S : Type 0} (with : ℕ → S → S) (deep high : ℕ) where
    abbrev pub led_kids : List ℕ → List ℕ
    led_kids kids = flat_map (λ kid. led_to deep test tree (frames_down high tree kid)) kids

    -- the walk over children begins
    pub walk_begins : (tall n : ℕ) (framed : Option ℕ) (kids all : List ℕ) (first now : S)
        → tall ≡ suc high → (element_at tree n).framed ≡ framed → (element_at tree n).children ≡ kids → all ≡ kids
        → now ≡ taken with (led_to deep test tree (option_to_list framed)) first
        → taken with (led_kids all) now ≡ taken with (led_to deep test tree (frames_down tall tree n)) first
    walk_begins tall n framed kids all first now more is children whole own =
        ap (taken with (led_kids all)) own
        ∙ ap (λ xs. taken with (led_kids xs) (taken with (led_to deep test tree (option_to_list framed)) first)) (whole ∙ sym children)
        ∙ ap (λ o. taken with (led_kids ((element_at tree n).children)) (taken with (led_to deep test tree (option_to_list o)) first)) (sym is)
        ∙ sym (taken_append with (led_to deep test tree (option_to_list (element_at tree n).framed)) (led_kids ((element_at tree n).children)) first)
        ∙ ap (λ xs. taken with xs first) (sym (led_down deep high n))
        ∙ ap (λ h. taken with (led_to deep test tree (frames_down h tree n)) first) (sym more)

    -- one child more
    pub walk_goes_on : (kid : ℕ) (left more : List ℕ) (before now : S) → left ≡ kid ∷ more
        → now ≡ taken with (led_to deep test tree (frames_down high tree kid)) before
        → taken with (led_kids more) now ≡ taken with (led_kids left) before
    walk_goes_on kid left more before now step own =
        ap (taken with (led_kids more)) own
        ∙ sym (taken_append with (led_to deep test tree (frames_down high tree kid)) (led_kids more) before)
        ∙ ap (λ xs. taken with (led_kids xs) before) (sym step)

    -- a document to begin from
    pub none_taken : (o : Option ℕ) (s : S) → o ≡ None → s ≡ taken with (led_to deep test tree (option_to_list o)) s
    none_taken o s is = sym (ap (λ o. taken with (led_to deep test tree (option_to_list o)) s) is ∙ ap (λ xs. taken with xs s) (led_none deep))

    pub late_taken : (xs : List ℕ) (s : S) → deep ≡ 0 → s ≡ taken with (led_to deep test tree xs) s
    late_taken xs s is = sym (ap (λ n. taken with (led_to n test tree xs) s) is ∙ ap (λ ys. taken with ys s) (led_nowhere xs))

    pub other_taken : (o : Option ℕ) (document : ℕ) (s : S) → o ≡ Some document → test ((document_at tree document).state) ≡ false → s
        ≡ taken with (led_to deep test tree (option_to_list o)) s
    other_taken o document s is differs = sym (ap (λ o. taken with (led_to deep test tree (option_to_list o)) s) is
        ∙ ap (λ ys. taken with ys s) (led_past deep document differs))

    one_taken : (o : Option ℕ) (document less : ℕ) (s after : S) → o ≡ Some document → deep ≡ suc less → test ((document_at tree document).state) ≡ true
        → after ≡ with document s
        → taken with (led_to less test tree (frames_below tree (document_at tree document).root)) after
        ≡ taken with (led_to deep test tree (option_to_list o)) s
    one_taken o document less s after is more meets took =
        ap (taken with (led_to less test tree (frames_below tree (document_at tree document).root))) took
        ∙ sym (ap (λ o. taken with (led_to deep test tree (option_to_list o)) s) is
        ∙ ap (λ n. taken with (led_to n test tree (document ∷ [])) s) more
        ∙ ap (λ ys. taken with ys s) (led_one less document meets))

    pub bare_taken : (o : Option ℕ) (document less : ℕ) (s after : S) → o ≡ Some document → deep ≡ suc less → test ((document_at tree document).state)
        ≡ true → after ≡ with document s
        → frames_below tree (document_at tree document).root ≡ []
        → after ≡ taken with (led_to deep test tree (option_to_list o)) s
    bare_taken o document less s after is more meets took bare =
        sym (ap (λ xs. taken with (led_to less test tree xs) after) bare ∙ ap (λ ys. taken with ys after) (led_none less))
        ∙ one_taken o document less s after is more meets took

    pub full_taken : (o : Option ℕ) (document less root : ℕ) (s after end : S) → o ≡ Some document → deep ≡ suc less
        → test ((document_at tree document).state) ≡ true → after ≡ with document s
        → (document_at tree document).root ≡ Some root → end ≡ taken with (led_to less test tree (frames_down 65536 tree root)) after
        → end ≡ taken with (led_to deep test tree (option_to_list o)) s
    full_taken o document less root s after end is more meets took full ends =
        ends
        ∙ ap (λ xs. taken with (led_to less test tree xs) after) (sym (frames_whole tree root))
        ∙ sym (ap (λ o. taken with (led_to less test tree (frames_below tree o)) after) full)
        ∙ one_taken o document less s after is more meets took

    -- where no level is looked at
    pub low_taken : (n : ℕ) (s : S) → high ≡ 0 → s ≡ taken with (led_to deep test tree (frames_down high tree n)) s
    low_taken n s is = sym (ap (λ h. taken with (led_to deep test tree (frames_down h tree n)) s) is
        ∙ ap (λ xs. taken with (led_to deep test tree xs) s) (frames_ended tree n) ∙ ap (λ xs. taken with xs s) (led_none deep))
