-- An element that is put into another one stands one level deeper.
use Rattle.std.proofs.Common.{◌≡◌, refl, ap, sym, subst, ◌∙◌, true≢false, arith, tests, ◌≢◌}
use Rattle.std.proofs.lemmas.Bool.{leb-true, or_parts}
use Rattle.std.specs.Prelude.{ℕ, zero, suc, ◌+◌, ◌<◌, ◌≤◌, nat_le, Bool, true, false, ◌||◌, ◌==◌, List, [], ◌∷◌, length, Option, Some, None, slice_get, unwrap_or, ⊤}
use Rattle.layout_model.specs.Nodes.{Node, path_above, path_up, is_among}
use Rattle.text_io.specs.declared.kinds.ThrowKind.{ThrowKind}
use Rattle.text_io.specs.declared.kinds.ThrowKind.TheVariants.{HierarchyRequestError, NotFoundError}
use Rattle.text_io.specs.declared.kinds.LimitKind.{LimitKind}
use Rattle.text_io.specs.declared.kinds.LimitKind.TheVariants as limits
use Rattle.page_model.specs.World.{Element, Tree, Container, InElement, InDocument}
use Rattle.page_model.specs.Lookups.{change_at, change_each, element_at, no_element, without}
use Rattle.page_model.specs.Documents.{nodes_of, is_inclusive_ancestor, element_depth, levels_of, container_of, unlinked, removed, linked, adopted, shown, inserted, sibling_meant, placed_before, inclusive_descendants}
use Rattle.page_model.specs.Steps.{Step, Did, ◌>>◌, throw_if, met_unless}
use Rattle.page_model.specs.Commands.{placing, would_hold_itself, is_no_child, is_full, container_depth}
use Rattle.page_laws.specs.Successors.{OnDid}
use Rattle.page_laws.proofs.Steps.{known-did}
use Rattle.page_laws.proofs.Lists.{changed}

-- parents after changes

abbrev pub parent_in : List Element → ℕ → Option ℕ
parent_in xs m = (unwrap_or (slice_get xs m) no_element).parent

pub parent-kept : (change : Element → Element) → ((it : Element) → (change it).parent ≡ it.parent) → (place m : ℕ) (xs : List Element) →
    parent_in (change_at change place xs) m ≡ parent_in xs m
parent-kept change same place m [] = refl
parent-kept change same zero zero (x ∷ xs) = same x
parent-kept change same zero (suc m) (x ∷ xs) = refl
parent-kept change same (suc place) zero (x ∷ xs) = refl
parent-kept change same (suc place) (suc m) (x ∷ xs) = parent-kept change same place m xs

pub parent-kept_each : (change : Element → Element) → ((it : Element) → (change it).parent ≡ it.parent) → (places : List ℕ) (m : ℕ) (xs : List Element) →
    parent_in (change_each change places xs) m ≡ parent_in xs m
parent-kept_each change same [] m xs = refl
parent-kept_each change same (place ∷ places) m xs = parent-kept_each change same places m (change_at change place xs) ∙ parent-kept change same place m xs

parent-other : (change : Element → Element) (place m : ℕ) (xs : List Element) → m ≢ place → parent_in (change_at change place xs) m ≡ parent_in xs m
parent-other change place m [] other = refl
parent-other change zero zero (x ∷ xs) other = absurd (other refl)
parent-other change zero (suc m) (x ∷ xs) other = refl
parent-other change (suc place) zero (x ∷ xs) other = refl
parent-other change (suc place) (suc m) (x ∷ xs) other = parent-other change place m xs (λ same. other (ap suc same))

parent-set : (change : Element → Element) (parent : Option ℕ) → ((it : Element) → (change it).parent ≡ parent) → (place : ℕ) (xs : List Element) →
    place < length xs → parent_in (change_at change place xs) place ≡ parent
parent-set change parent sets place [] within = absurd (omega arith)
parent-set change parent sets zero (x ∷ xs) within = sets x
parent-set change parent sets (suc place) (x ∷ xs) within = parent-set change parent sets place xs (omega arith)

length-change_at : (change : Element → Element) (place : ℕ) (xs : List Element) → length (change_at change place xs) ≡ length xs
length-change_at change place xs = (changed (λ (it : Element). ⊤) change (λ it is. is) place xs).same

abbrev loses : Element → Element
loses element = record element { parent = None }

length-unlinked : (tree : Tree) (n : ℕ) (container : Option Container) → length (unlinked tree n container).elements ≡ length tree.elements
length-unlinked tree n None = refl
length-unlinked tree n (Some (InElement parent)) = length-change_at _ parent (change_at loses n (tree.elements)) ∙ length-change_at loses n (tree.elements)
length-unlinked tree n (Some (InDocument document)) = refl

pub parent-unlinked : (tree : Tree) (n m : ℕ) (container : Option Container) → m ≢ n →
    parent_in (unlinked tree n container).elements m ≡ parent_in (tree.elements) m
parent-unlinked tree n m None other = refl
parent-unlinked tree n m (Some (InElement parent)) other =
    parent-kept (λ element. record element { children = without n (element.children) }) (λ it. refl) parent m (change_at loses n (tree.elements))
    ∙ parent-other loses n m (tree.elements) other
parent-unlinked tree n m (Some (InDocument document)) other = refl

module _ (tree : Tree) (parent n : ℕ) (sibling : Option ℕ) where
  abbrev apart : Tree
  apart = removed tree n

  abbrev joined : Tree
  joined = linked apart (InElement parent) n (sibling_meant tree (InElement parent) n sibling)

  abbrev gains : Element → Element
  gains element = record element { parent = Some parent }

  parent-inserted : (m : ℕ) → parent_in (inserted tree (InElement parent) n sibling).elements m ≡ parent_in (change_at gains n (apart.elements)) m
  unfolding inserted adopted shown
  parent-inserted m =
      parent-kept_each (λ element. record element { document = (element_at tree parent).document }) (λ it. refl) (inclusive_descendants joined n) m
      (joined.elements)
      ∙ parent-kept (λ element. record element { children = placed_before n (sibling_meant tree (InElement parent) n sibling) (element.children) })
      (λ it. refl) parent m (change_at gains n (apart.elements))

  pub parent-elsewhere : (m : ℕ) → m ≢ n → (nodes_of (inserted tree (InElement parent) n sibling) m).parent ≡ (nodes_of tree m).parent
  unfolding removed
  parent-elsewhere m other = parent-inserted m ∙ parent-other gains n m (apart.elements) other ∙ parent-unlinked tree n m (container_of tree n) other

  parent-here : n < length tree.elements → (nodes_of (inserted tree (InElement parent) n sibling) n).parent ≡ Some parent
  unfolding removed
  parent-here within =
      parent-inserted n
      ∙ parent-set gains (Some parent) (λ it. refl) n (apart.elements)
      (subst (λ (count : ℕ). n < count) (sym (length-unlinked tree n (container_of tree n))) within)

-- paths

above-same : (up up' : ℕ → List ℕ) (n : ℕ) (parent : Option ℕ) → ((p : ℕ) → is_among n (up' p) ≡ false → up p ≡ up' p) →
    is_among n (path_above up' parent) ≡ false → path_above up parent ≡ path_above up' parent
above-same up up' n None each none = refl
above-same up up' n (Some p) each none = each p none

not-equal : (n m : ℕ) → (n == m) ≡ false → m ≢ n
not-equal n m none same = grind (arith, tests)

path-same : (at at' : ℕ → Node) (n : ℕ) → ((m : ℕ) → m ≢ n → (at m).parent ≡ (at' m).parent) → (high m : ℕ) → is_among n (path_up high at' m) ≡ false →
    path_up high at m ≡ path_up high at' m
unfolding path_up is_among
path-same at at' n elsewhere zero m none = refl
path-same at at' n elsewhere (suc high) m none =
    let apart = or_parts (n == m) (is_among n (path_above (path_up high at') (at' m).parent)) none in
    ap (λ above. m ∷ above)
    (ap (path_above (path_up high at)) (elsewhere m (not-equal n m (apart.0)))
    ∙ above-same (path_up high at) (path_up high at') n (at' m).parent (path-same at at' n elsewhere high) (apart.1))

-- a path that ends within its levels is the same with one more
last-more : (m : ℕ) (parent : Option ℕ) → length (m ∷ path_above (λ p. p ∷ []) parent) ≤ 1 → m ∷ path_above (λ p. p ∷ []) parent ≡ m ∷ []
last-more m None within = refl
last-more m (Some p) within = absurd (omega arith)

above-more : (high : ℕ) (more up : ℕ → List ℕ) (parent : Option ℕ) → ((p : ℕ) → length (more p) ≤ high → more p ≡ up p) →
    length (path_above more parent) ≤ high → path_above more parent ≡ path_above up parent
above-more high more up None each within = refl
above-more high more up (Some p) each within = each p within

path-more : (at : ℕ → Node) (high m : ℕ) → length (path_up (suc high) at m) ≤ suc high → path_up (suc high) at m ≡ path_up high at m
unfolding path_up
path-more at zero m within = last-more m (at m).parent within
path-more at (suc high) m within =
    ap (λ above. m ∷ above) (above-more (suc high) (path_up (suc high) at) (path_up high at) (at m).parent (path-more at high) (omega arith))

path-begins : (at : ℕ → Node) (n : ℕ) (parent : Option ℕ) (high : ℕ) → (at n).parent ≡ parent →
    length (path_up (suc high) at n) ≡ length (path_above (path_up high at) parent) + 1
unfolding path_up
path-begins at n parent high is =
    subst (λ (above : Option ℕ). length (n ∷ path_above (path_up high at) above) ≡ length (path_above (path_up high at) parent) + 1) (sym is) (omega arith)

path-below : (at at' : ℕ → Node) (n parent : ℕ) → ((m : ℕ) → m ≢ n → (at m).parent ≡ (at' m).parent) → (at n).parent ≡ Some parent → (high : ℕ) →
    is_among n (path_up (suc high) at' parent) ≡ false → length (path_up (suc high) at' parent) ≤ suc high →
    length (path_up (suc high) at n) ≡ length (path_up (suc high) at' parent) + 1
path-below at at' n parent elsewhere here high none within =
    path-begins at n (Some parent) high here
    ∙ ap (λ (path : List ℕ). length path + 1) (path-same at at' n elsewhere high parent
    (subst (λ (path : List ℕ). is_among n path ≡ false) (path-more at' high parent within) none) ∙ sym (path-more at' high parent within))

-- what a command that isn't refused tells

unless-thrown : (test : Bool) (exception : ThrowKind) (next : Step Tree) (after : Tree) → (throw_if test exception >> next) ≡ Did after →
    (test ≡ false) × (next ≡ Did after)
unfolding ◌>>◌
unless-thrown true exception next after is = cc
unless-thrown false exception next after is = (refl, is)

unless-met : (test : Bool) (limit : LimitKind) (next : Step Tree) (after : Tree) → (met_unless test limit >> next) ≡ Did after →
    (test ≡ true) × (next ≡ Did after)
unfolding ◌>>◌
unless-met true limit next after is = (refl, is)
unless-met false limit next after is = cc

pub record Permitted (tree after : Tree) (container : Container) (n : ℕ) (sibling : Option ℕ) : Type 0 where
  pub outside : would_hold_itself tree container n ≡ false
  pub levels : container_depth tree container + levels_of tree n ≤ 256
  pub is : inserted tree container n sibling ≡ after

pub permitted : (tree after : Tree) (container : Container) (n : ℕ) (sibling : Option ℕ) → placing container n sibling tree ≡ Did after →
    Permitted tree after container n sibling
unfolding placing
permitted tree after container n sibling is =
    let one = unless-thrown (would_hold_itself tree container n) HierarchyRequestError _ after is in
    let two = unless-thrown (is_no_child tree container sibling) NotFoundError _ after (one.1) in
    let three = unless-thrown (is_full tree container) HierarchyRequestError _ after (two.1) in
    let four = unless-met (nat_le (container_depth tree container + levels_of tree n) 256) limits.Depth (Did (inserted tree container n sibling)) after (three.1) in
    record {
      outside = one.0;
      levels = leb-true (container_depth tree container + levels_of tree n) 256 (four.0);
      is = let both : Did (inserted tree container n sibling) ≡ Did after = four.1 in cc;
    }

depth-inserted : (tree : Tree) (parent n : ℕ) (sibling : Option ℕ) → n < length tree.elements → is_inclusive_ancestor tree n parent ≡ false →
    element_depth tree parent ≤ suc 65535 → element_depth (inserted tree (InElement parent) n sibling) n ≡ element_depth tree parent + 1
unfolding is_inclusive_ancestor element_depth
depth-inserted tree parent n sibling within none few =
    path-below (nodes_of (inserted tree (InElement parent) n sibling)) (nodes_of tree) n parent (parent-elsewhere tree parent n sibling)
    (parent-here tree parent n sibling within) 65535 none few

pub placing-depth : (tree : Tree) (parent n : ℕ) (sibling : Option ℕ) → n < length tree.elements →
    OnDid (placing (InElement parent) n sibling tree) (λ after. element_depth after n ≡ element_depth tree parent + 1)
placing-depth tree parent n sibling within =
    known-did (placing (InElement parent) n sibling tree) (λ after. element_depth after n ≡ element_depth tree parent + 1) (λ after is.
    let it = permitted tree after (InElement parent) n sibling is in
    let levels : element_depth tree parent + levels_of tree n ≤ 256 = it.levels in
    subst (λ (now : Tree). element_depth now n ≡ element_depth tree parent + 1) (it.is)
    (depth-inserted tree parent n sibling within it.outside (omega arith)))
