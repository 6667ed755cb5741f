-- Putting an element somewhere keeps documents and frames together, where the command that does it isn't refused.
use Rattle.std.proofs.Common.{◌≡◌, ◌≢◌, ◌<◌, ◌≤◌, ◌+◌, ℕ, Bool, true, false, length, Option, Some, None, inl, inr, refl, ap, sym, subst, ◌∙◌, arith}
use Rattle.std.specs.Prelude.{nat_le, is_some}
use Rattle.std.proofs.lemmas.Bool.{true≢false, leb-true}
use Rattle.layout_model.proofs.Paths.{depth_child}
use Rattle.text_io.specs.declared.kinds.ThrowKind.{ThrowKind}
use Rattle.text_io.specs.declared.kinds.ThrowKind.TheVariants.{HierarchyRequestError, NotFoundError}
use Rattle.text_io.specs.declared.kinds.LimitKind.{LimitKind}
use Rattle.text_io.specs.declared.kinds.LimitKind.TheVariants as limits
use Rattle.page_model.specs.World.{Tree, Container, InElement, InDocument}
use Rattle.page_model.specs.Lookups.{element_at, document_at}
use Rattle.page_model.specs.Documents.{nodes_of, inclusive_descendants, is_inclusive_ancestor, element_depth, levels_of, removed, linked, sibling_meant, adopted, shown, inserted}
use Rattle.page_model.specs.Steps.{Step, Did, ◌>>◌, throw_if, met_unless}
use Rattle.page_model.specs.Commands.{placing, would_hold_itself, is_no_child, is_full, container_depth}
use Rattle.page_documents.specs.Frames.{MakeTrees, AreFramed}
use Rattle.page_documents.specs.Places.{IsThere}
use Rattle.page_documents.proofs.Lists.{decided}
use Rattle.page_documents.proofs.Shape.{depth, IsBelow, deeper, from_parents, to_below, itself_below, child_below, on_levels, depth_top, above_child, ancestor_of}
use Rattle.page_documents.proofs.Unlinking.{Apart}
use Rattle.page_documents.proofs.Removing.{removed_apart, removed_framed}
use Rattle.page_documents.proofs.Linking.{Loose, within_parents, within_up, within_children, linked_within, linked_onto}
use Rattle.page_documents.proofs.Entering.{entered_framed}

-- what a command that isn't refused tells -------------------------------------------------------------------------------------

unless_thrown : (test : Bool) (exception : ThrowKind) (next : Step Tree) (after : Tree) → (throw_if test exception >> next) ≡ Did after →
    (test ≡ false) × (next ≡ Did after)
unfolding ◌>>◌
unless_thrown true exception next after is = cc
unless_thrown false exception next after is = (refl, is)

unless_met : (test : Bool) (limit : LimitKind) (next : Step Tree) (after : Tree) → (met_unless test limit >> next) ≡ Did after →
    (test ≡ true) × (next ≡ Did after)
unfolding ◌>>◌
unless_met true limit next after is = (refl, is)
unless_met false limit next after is = cc

record Permitted (tree after : Tree) (container : Container) (n : ℕ) (sibling : Option ℕ) : Type 0 where
  outside : would_hold_itself tree container n ≡ false
  free : is_full tree container ≡ false
  levels : container_depth tree container + levels_of tree n ≤ 256
  is : inserted tree container n sibling ≡ after

permitted : (tree after : Tree) (container : Container) (n : ℕ) (sibling : Option ℕ) → placing container n sibling tree ≡ Did after →
    Permitted tree after container n sibling
unfolding placing
permitted tree after container n sibling is =
    let one = unless_thrown (would_hold_itself tree container n) HierarchyRequestError _ after is in
    let two = unless_thrown (is_no_child tree container sibling) NotFoundError _ after (one.1) in
    let three = unless_thrown (is_full tree container) HierarchyRequestError _ after (two.1) in
    let four = unless_met (nat_le (container_depth tree container + levels_of tree n) 256) limits.Depth (Did (inserted tree container n sibling)) after (three.1) in
    record {
      outside = one.0;
      free = three.0;
      levels = leb-true (container_depth tree container + levels_of tree n) 256 (four.0);
      is = let both : Did (inserted tree container n sibling) ≡ Did after = four.1 in cc;
    }

-- the element with what is below it stands in another one --------------------------------------------------------------------------

module _ (tree apart : Tree) (n q : ℕ) (sibling : Option ℕ) (trees : MakeTrees tree) (trees' : MakeTrees apart) (out : Apart tree apart n)
    (loose : Loose apart n) (there : q < length apart.elements) (outside : IsBelow tree n q → ⊥) (few : depth tree q + levels_of tree n ≤ 256) where
  abbrev within : Tree
  within = linked apart (InElement q) n sibling

  up_there : (element_at within n).parent ≡ Some q
  up_there = within_up apart n loose trees' sibling q there

  up_else : (m : ℕ) → m ≢ n → (element_at within m).parent ≡ (element_at tree m).parent
  up_else m other = within_parents apart n loose trees' sibling q there m other ∙ out.parents m other

  -- what isn't below it is as deep as it was
  else_deep : (m : ℕ) → (IsBelow tree n m → ⊥) → depth within m ≡ depth tree m
  else_deep m =
      from_parents tree trees (λ k. (IsBelow tree n k → ⊥) → depth within k ≡ depth tree k)
      (λ k up away. depth_top within k (up_else k (other k away) ∙ up) ∙ sym (depth_top tree k up))
      (λ k p up above away.
      let same : depth within p ≡ depth tree p = above (λ below. away (child_below tree trees n k p up below)) in
      let low : depth tree p ≤ 65536 = trees.shallow p in
      depth_child (nodes_of within) k p (up_else k (other k away) ∙ up) (omega arith) ∙ ap (λ d. d + 1) same ∙ sym (deeper tree trees k p up)) m
    where
      other : (k : ℕ) → (IsBelow tree n k → ⊥) → k ≢ n
      other k away same = away (subst (IsBelow tree n) (sym same) (itself_below tree trees n))

  n_deep : depth within n ≡ depth tree q + 1
  n_deep =
      let same : depth within q ≡ depth tree q = else_deep q outside in
      let low : depth tree q ≤ 65536 = trees.shallow q in
      depth_child (nodes_of within) n q up_there (omega arith) ∙ ap (λ d. d + 1) same

  -- what is below it stands as far below it as it did
  record AsFar (m : ℕ) : Type 0 where
    below : IsBelow tree n m
    far : depth within m + depth tree n ≡ depth tree m + depth tree q + 1

  next_far : (c p : ℕ) → (element_at tree c).parent ≡ Some p → AsFar p → AsFar c
  next_far c p up it =
      let far : depth within p + depth tree n ≡ depth tree p + depth tree q + 1 = it.far in
      let on : depth tree p < depth tree n + levels_of tree n = on_levels tree trees n p (it.below) in
      let other : c ≢ n = λ same. above_child tree trees n p (ap (λ k. (element_at tree k).parent) (sym same) ∙ up) (it.below) in
      let more : depth within c ≡ depth within p + 1 = depth_child (nodes_of within) c p (up_else c other ∙ up) (omega arith) in
      let one : depth tree c ≡ depth tree p + 1 = deeper tree trees c p up in
      record { below = child_below tree trees n c p up (it.below); far = omega arith }

  below_far : (m : ℕ) → IsBelow tree n m → AsFar m
  below_far m is =
      to_below tree trees AsFar n m next_far
      (record { below = itself_below tree trees n; far = let it : depth within n ≡ depth tree q + 1 = n_deep in omega arith }) is

  shallow : (m : ℕ) → depth within m ≤ 65536
  shallow m = elim (decided m (inclusive_descendants tree n)) [
    | inl below ↦
        let it : depth within m + depth tree n ≡ depth tree m + depth tree q + 1 = (below_far m below).far in
        let on : depth tree m < depth tree n + levels_of tree n = on_levels tree trees n m below in
        omega arith
    | inr away ↦ let same : depth within m ≡ depth tree m = else_deep m away in let low : depth tree m ≤ 65536 = trees.shallow m in omega arith
  ]

  within_trees : MakeTrees within
  within_trees = record { children = within_children apart n loose trees' sibling q there; shallow = shallow }

-- both ---------------------------------------------------------------------------------------------------------------------

removed_loose : (tree : Tree) (n : ℕ) → AreFramed tree → n < length tree.elements → Loose (removed tree n) n
removed_loose tree n framed known =
    let out = removed_apart tree n framed in
    record { known = rw out.elements known; alone = out.alone; no_root = λ d is. (out.roots d n is).1 refl }

module _ (tree : Tree) (n : ℕ) (sibling : Option ℕ) (framed : AreFramed tree) (known : n < length tree.elements) where
  abbrev apart : Tree
  apart = removed tree n

  apart_framed : AreFramed apart
  apart_framed = removed_framed tree n framed

  out : Apart tree apart n
  out = removed_apart tree n framed

  loose : Loose apart n
  loose = removed_loose tree n framed known

  in_element : (q : ℕ) → q < length tree.elements → is_inclusive_ancestor tree n q ≡ false → element_depth tree q + levels_of tree n ≤ 256 →
      AreFramed (inserted tree (InElement q) n sibling)
  unfolding inserted element_depth
  in_element q there outside few =
      let meant : Option ℕ = sibling_meant tree (InElement q) n sibling in
      let there' : q < length apart.elements = rw out.elements there in
      let away : IsBelow tree n q → ⊥ = λ below. true≢false (sym (ancestor_of tree framed.trees n q below) ∙ outside) in
      let own : (element_at apart q).document ≡ (element_at tree q).document = out.documents q in
      subst (λ d. AreFramed (shown (adopted (linked apart (InElement q) n meant) d n) n)) own
      (entered_framed apart (linked apart (InElement q) n meant) n ((element_at apart q).document) apart_framed loose
      (within_trees tree apart n q meant framed.trees apart_framed.trees out loose there' away few)
      (linked_within apart n loose apart_framed.trees meant q there'))

  in_document : (own : ℕ) → own < length tree.documents → is_some (document_at tree own).root ≡ false → AreFramed (inserted tree (InDocument own) n sibling)
  unfolding inserted
  in_document own there free =
      entered_framed apart (linked apart (InDocument own) n sibling) n own apart_framed loose
      (record { children = apart_framed.trees.children; shallow = apart_framed.trees.shallow })
      (linked_onto apart n loose apart_framed.trees sibling own (rw out.count there) (still_free ((document_at apart own).root) refl))
    where
      still_free : (found : Option ℕ) → (document_at apart own).root ≡ found → (document_at apart own).root ≡ None
      still_free None is = is
      still_free (Some r) is =
          let before : (document_at tree own).root ≡ Some r = (out.roots own r is).0 in
          absurd (true≢false (sym (ap is_some before) ∙ free))

  in_container : (container : Container) → IsThere tree container → would_hold_itself tree container n ≡ false → is_full tree container ≡ false →
      container_depth tree container + levels_of tree n ≤ 256 → AreFramed (inserted tree container n sibling)
  in_container (InElement q) there outside free few = in_element q there outside few
  in_container (InDocument own) there outside free few = in_document own there free

pub placing_framed : (tree after : Tree) (container : Container) (n : ℕ) (sibling : Option ℕ) → AreFramed tree → IsThere tree container →
    n < length tree.elements → placing container n sibling tree ≡ Did after → AreFramed after
placing_framed tree after container n sibling framed there known is =
    let it = permitted tree after container n sibling is in
    subst AreFramed (it.is) (in_container tree n sibling framed known container there (it.outside) (it.free) (it.levels))
