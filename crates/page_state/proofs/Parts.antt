-- What a page keeps true, once a part of it was changed.
use Rattle.std.proofs.Common.{◌≡◌, ℕ, zero, suc, ◌+◌, ◌<◌, ℤ, pos, ◌≤ℤ◌, Bool, true, false, List, [], ◌∷◌, ◌++◌, Option, Some, length, find, is_some, slice_get, unwrap_or, option_map, ◌==◌, refl, sym, ap, ◌∙◌, subst, arith, tests}
use Rattle.std.proofs.lemmas.Int.{ints}
use Rattle.std.proofs.lemmas.List.{length_push}
use Rattle.px_units.specs.declared.Size.{Size}
use Rattle.page_model.specs.World.{Thing, DocumentThing, ElementThing, ResizeObserverThing, IntersectionObserverThing, QueryListThing, Name}
use Rattle.page_model.specs.Names.{is_same_thing, element_text}
use Rattle.page_model.specs.Ranges.{Counts, IsThingIn}
use Rattle.script_syntax.specs.Allowed.{IsSize}
use Rattle.page_tree.specs.Items.{IsNatural}
use Rattle.page_tree.specs.Views.{PageElements}
use Rattle.page_names.specs.Things.{AreIn}
use Rattle.page_state.specs.Whole.{AreKnown, AreElementNames}
use Rattle.page_names.proofs.Found.{find_kept, find_last, find_some, element_absent}

abbrev tests_for : Thing → Name → Bool
tests_for thing named = is_same_thing named.thing thing

-- one more name

still_named : (names : List Name) (last : Name) (thing : Thing) → is_some (find (tests_for thing) names) ≡ true → is_some (find (tests_for thing) (names ++ last ∷ [])) ≡ true
still_named names last thing named = ap is_some (find_kept (tests_for thing) names (last ∷ []) named) ∙ named

same_text : (names : List Name) (last : Name) (n : ℕ) → is_some (find (tests_for (ElementThing n)) names) ≡ true → element_text (names ++ last ∷ []) n ≡ element_text names n
same_text names last n named =
    ap (λ (found : Option Name). unwrap_or (option_map (λ (it : Name). it.text) found) []) (find_kept (tests_for (ElementThing n)) names (last ∷ []) named)

lower : (m n : ℕ) → (n == m) ≡ false → m < n + 1 → m < n
lower m n other below = grind (arith, tests)

is_itself : (n : ℕ) → (n == n) ≡ true
is_itself n = grind (arith, tests)

same_number : (m n : ℕ) → (m == n) ≡ true → m ≡ n
same_number m n same = grind (arith, tests)

-- one more thing of its kind

pub record IsNext (thing : Thing) (counts counts' : Counts) : Type 0 where
  pub there : IsThingIn counts' thing
  pub others : (other : Thing) → IsThingIn counts' other → is_same_thing thing other ≡ false → IsThingIn counts other
  pub more : (other : Thing) → IsThingIn counts other → IsThingIn counts' other

more_in : (counts counts' : Counts) → ((other : Thing) → IsThingIn counts other → IsThingIn counts' other) → (names : List Name) (last : Name)
    → AreIn counts names → IsThingIn counts' (last.thing) → AreIn counts' (names ++ last ∷ [])
more_in counts counts' more [] last all is = (is, tt)
more_in counts counts' more (named ∷ names) last all is = (more (named.thing) (all.0), more_in counts counts' more names last (all.1) is)

module _ (names : List Name) (text : List ℕ) (thing : Thing) (counts counts' : Counts) (next : IsNext thing counts counts') (known : AreKnown names counts) where
  by_test : (other : Thing) → IsThingIn counts' other → (same : Bool) → is_same_thing thing other ≡ same
      → is_some (find (tests_for other) (names ++ record { text = text; thing = thing } ∷ [])) ≡ true
  by_test other is true same = find_some (tests_for other) names (record { text = text; thing = thing }) same
  by_test other is false same = still_named names (record { text = text; thing = thing }) other (known.named other (next.others other is same))

  pub known_more : AreKnown (names ++ record { text = text; thing = thing } ∷ []) counts'
  known_more = record {
    there = more_in counts counts' next.more names (record { text = text; thing = thing }) known.there next.there;
    named = λ other is. by_test other is (is_same_thing thing other) refl;
  }

module _ (counts : Counts) where
  abbrev one_element : Counts
  one_element = record counts { elements = counts.elements + 1 }

  abbrev one_observer : Counts
  one_observer = record counts { resize_observers = counts.resize_observers + 1 }

  abbrev one_document : Counts
  one_document = record counts { documents = counts.documents + 1 }

  abbrev one_watcher : Counts
  one_watcher = record counts { intersection_observers = counts.intersection_observers + 1 }

  abbrev one_query : Counts
  one_query = record counts { queries = counts.queries + 1 }

  other_elements : (other : Thing) → IsThingIn one_element other → is_same_thing (ElementThing counts.elements) other ≡ false → IsThingIn counts other
  other_elements (ElementThing n) is same = lower n counts.elements same is
  other_elements (DocumentThing n) is same = is
  other_elements (ResizeObserverThing n) is same = is
  other_elements (IntersectionObserverThing n) is same = is
  other_elements (QueryListThing n) is same = is

  more_elements : (other : Thing) → IsThingIn counts other → IsThingIn one_element other
  more_elements (ElementThing n) is = omega (arith, is)
  more_elements (DocumentThing n) is = is
  more_elements (ResizeObserverThing n) is = is
  more_elements (IntersectionObserverThing n) is = is
  more_elements (QueryListThing n) is = is

  pub next_element : IsNext (ElementThing counts.elements) counts one_element
  next_element = record { there = omega arith; others = other_elements; more = more_elements }

  other_observers : (other : Thing) → IsThingIn one_observer other → is_same_thing (ResizeObserverThing counts.resize_observers) other ≡ false → IsThingIn counts other
  other_observers (ResizeObserverThing n) is same = lower n counts.resize_observers same is
  other_observers (DocumentThing n) is same = is
  other_observers (ElementThing n) is same = is
  other_observers (IntersectionObserverThing n) is same = is
  other_observers (QueryListThing n) is same = is

  more_observers : (other : Thing) → IsThingIn counts other → IsThingIn one_observer other
  more_observers (ResizeObserverThing n) is = omega (arith, is)
  more_observers (DocumentThing n) is = is
  more_observers (ElementThing n) is = is
  more_observers (IntersectionObserverThing n) is = is
  more_observers (QueryListThing n) is = is

  pub next_observer : IsNext (ResizeObserverThing counts.resize_observers) counts one_observer
  next_observer = record { there = omega arith; others = other_observers; more = more_observers }

  other_documents : (other : Thing) → IsThingIn one_document other → is_same_thing (DocumentThing counts.documents) other ≡ false → IsThingIn counts other
  other_documents (ElementThing n) is same = is
  other_documents (DocumentThing n) is same = lower n counts.documents same is
  other_documents (ResizeObserverThing n) is same = is
  other_documents (IntersectionObserverThing n) is same = is
  other_documents (QueryListThing n) is same = is

  more_documents : (other : Thing) → IsThingIn counts other → IsThingIn one_document other
  more_documents (ElementThing n) is = is
  more_documents (DocumentThing n) is = omega (arith, is)
  more_documents (ResizeObserverThing n) is = is
  more_documents (IntersectionObserverThing n) is = is
  more_documents (QueryListThing n) is = is

  pub next_document : IsNext (DocumentThing counts.documents) counts one_document
  next_document = record { there = omega arith; others = other_documents; more = more_documents }

  other_watchers : (other : Thing) → IsThingIn one_watcher other → is_same_thing (IntersectionObserverThing counts.intersection_observers) other ≡ false → IsThingIn counts other
  other_watchers (ElementThing n) is same = is
  other_watchers (DocumentThing n) is same = is
  other_watchers (ResizeObserverThing n) is same = is
  other_watchers (IntersectionObserverThing n) is same = lower n counts.intersection_observers same is
  other_watchers (QueryListThing n) is same = is

  more_watchers : (other : Thing) → IsThingIn counts other → IsThingIn one_watcher other
  more_watchers (ElementThing n) is = is
  more_watchers (DocumentThing n) is = is
  more_watchers (ResizeObserverThing n) is = is
  more_watchers (IntersectionObserverThing n) is = omega (arith, is)
  more_watchers (QueryListThing n) is = is

  pub next_watcher : IsNext (IntersectionObserverThing counts.intersection_observers) counts one_watcher
  next_watcher = record { there = omega arith; others = other_watchers; more = more_watchers }

  other_queries : (other : Thing) → IsThingIn one_query other → is_same_thing (QueryListThing counts.queries) other ≡ false → IsThingIn counts other
  other_queries (QueryListThing n) is same = lower n counts.queries same is
  other_queries (DocumentThing n) is same = is
  other_queries (ElementThing n) is same = is
  other_queries (ResizeObserverThing n) is same = is
  other_queries (IntersectionObserverThing n) is same = is

  more_queries : (other : Thing) → IsThingIn counts other → IsThingIn one_query other
  more_queries (QueryListThing n) is = omega (arith, is)
  more_queries (DocumentThing n) is = is
  more_queries (ElementThing n) is = is
  more_queries (ResizeObserverThing n) is = is
  more_queries (IntersectionObserverThing n) is = is

  pub next_query : IsNext (QueryListThing counts.queries) counts one_query
  next_query = record { there = omega arith; others = other_queries; more = more_queries }

-- the names that the tree has

get_kept : {A : Type 0} (xs ys : List A) (n : ℕ) (x : A) → slice_get xs n ≡ Some x → slice_get (xs ++ ys) n ≡ Some x
get_kept [] ys n x got = cc
get_kept (first ∷ xs) ys zero x got = got
get_kept (first ∷ xs) ys (suc n) x got = get_kept xs ys n x got

get_last : {A : Type 0} (xs : List A) (x : A) → slice_get (xs ++ x ∷ []) (length xs) ≡ Some x
get_last [] x = refl
get_last (first ∷ xs) x = get_last xs x

module _ (names : List Name) (tree after : PageElements) (same : AreElementNames names tree) where
  module _ (counts : Counts) (is-count : counts.elements ≡ length tree.tree.elements) (known : AreKnown names counts) (text : List ℕ) where
    abbrev last : Name
    last = record { text = text; thing = ElementThing (length tree.tree.elements) }

    last_text : element_text (names ++ last ∷ []) (length tree.tree.elements) ≡ text
    last_text =
        ap (λ (found : Option Name). unwrap_or (option_map (λ (it : Name). it.text) found) [])
        (find_last (tests_for (ElementThing (length tree.tree.elements))) names last (is_itself (length tree.tree.elements))
        (element_absent counts names (length tree.tree.elements) (omega (arith, is-count)) known.there))

    each_name : (n : ℕ) → n < length tree.tree.elements + 1 → slice_get (tree.names ++ text ∷ []) n ≡ Some (element_text (names ++ last ∷ []) n)
    each_name n below = by (length tree.tree.elements == n) refl
      where
        by : (is : Bool) → (length tree.tree.elements == n) ≡ is → slice_get (tree.names ++ text ∷ []) n ≡ Some (element_text (names ++ last ∷ []) n)
        by true is =
            subst (λ (m : ℕ). slice_get (tree.names ++ text ∷ []) m ≡ Some (element_text (names ++ last ∷ []) m))
            (same_number (length tree.tree.elements) n is)
            (subst (λ (m : ℕ). slice_get (tree.names ++ text ∷ []) m ≡ Some (element_text (names ++ last ∷ []) (length tree.tree.elements))) same.count
            (get_last tree.names text ∙ ap Some (sym last_text)))
        by false is =
            let inside : n < length tree.tree.elements = lower n (length tree.tree.elements) is below in
            get_kept tree.names (text ∷ []) n (element_text names n) (same.each n inside)
            ∙ ap Some (sym (same_text names last n (known.named (ElementThing n) (omega (arith, inside, is-count)))))

    pub names_made : after.names ≡ tree.names ++ text ∷ [] → length after.tree.elements ≡ length tree.tree.elements + 1
        → AreElementNames (names ++ record { text = text; thing = ElementThing (length tree.tree.elements) } ∷ []) after
    names_made more count = record {
      count = ap (λ (it : List (List ℕ)). length it) more ∙ (length_push tree.names text ∙ (ap (λ (n : ℕ). n + 1) same.count ∙ sym count));
      each = λ n below. ap (λ (it : List (List ℕ)). slice_get it n) more ∙ each_name n (subst (λ (most : ℕ). n < most) count below);
    }

pub names_more : (names : List Name) (tree : PageElements) (counts : Counts) (last : Name) → counts.elements ≡ length tree.tree.elements → AreKnown names counts → AreElementNames names tree
    → AreElementNames (names ++ last ∷ []) tree
names_more names tree counts last all known same = record {
  count = same.count;
  each = λ n below. same.each n below ∙ ap Some (sym (same_text names last n (known.named (ElementThing n) (omega (arith, below, all)))));
}

natural_units : (units : ℤ) → pos 0 ≤ℤ units → units ≤ℤ pos 64000000 → units ≤ℤ pos 2147483647
natural_units units low high = omega (arith, ints)

pub natural : (size : Size) → IsSize size → IsNatural size
natural size is = ((is.0.0, natural_units size.width is.0.0 is.0.1), (is.1.0, natural_units size.height is.1.0 is.1.1))
