-- No command makes a tree deeper than the limit.
use Rattle.std.proofs.Common.{◌≡◌, ◌≢◌, ◌<◌, ◌≤◌, ◌+◌, ℕ, length, Option, Some, None, ◌⊎◌, inl, inr, refl, ap, sym, subst, ◌∙◌, arith}
use Rattle.std.proofs.lemmas.Bool.{cases_eq, true≢false}
use Rattle.page_model.specs.World.{Element, Tree, Container, InElement, InDocument}
use Rattle.page_model.specs.Lookups.{element_at, no_element}
use Rattle.page_model.specs.Documents.{nodes_of, inclusive_descendants, element_depth, levels_of, removed, linked, sibling_meant, adopted, shown, inserted}
use Rattle.page_model.specs.Steps.{Did}
use Rattle.page_model.specs.Commands.{placing}
use Rattle.page_laws.proofs.Steps.{of_did}
use Rattle.page_laws.proofs.Depths.{parent-elsewhere, placing-depth, Permitted, permitted}
use Rattle.page_documents.specs.Frames.{MakeTrees, AreFramed}
use Rattle.page_documents.specs.Places.{IsThere}
use Rattle.page_documents.proofs.Entries.{kept_each}
use Rattle.page_documents.proofs.Lists.{decided}
use Rattle.page_documents.proofs.Shape.{depth, IsBelow, deeper, from_parents, to_below, itself_below, child_below, on_levels, depth_top, depth_short, above_child, ancestor_of}
use Rattle.page_documents.proofs.Unlinking.{Apart}
use Rattle.page_documents.proofs.Removing.{removed_apart}
use Rattle.page_documents.proofs.Placing.{placing_framed}

-- no element stands deeper
abbrev pub AreLow : Tree → Type 0
AreLow tree = (n : ℕ) → element_depth tree n ≤ 256

pub deep : (tree : Tree) (n : ℕ) → element_depth tree n ≡ depth tree n
unfolding element_depth
deep tree n = refl

-- where parents are kept or taken away nothing stands deeper
pub cut_low : (before after : Tree) →
    ((m : ℕ) → ((element_at after m).parent ≡ (element_at before m).parent) ⊎ ((element_at after m).parent ≡ None)) → AreLow before → AreLow after
unfolding element_depth
cut_low before after cut low n =
    let less = depth_short (nodes_of before) (nodes_of after) cut n in
    let few = low n in
    omega arith

apart_cut : (before after : Tree) (n : ℕ) → Apart before after n → (m : ℕ) →
    ((element_at after m).parent ≡ (element_at before m).parent) ⊎ ((element_at after m).parent ≡ None)
apart_cut before after n apart m =
    elim (cases_eq m n) [ inl same ↦ inr (ap (λ k. (element_at after k).parent) same ∙ apart.alone) | inr other ↦ inl (apart.parents m other) ]

pub removed_low : (tree : Tree) (n : ℕ) → AreFramed tree → AreLow tree → AreLow (removed tree n)
removed_low tree n framed low = cut_low tree (removed tree n) (apart_cut tree (removed tree n) n (removed_apart tree n framed)) low

within_limit : (now was before above more : ℕ) → now + was ≡ before + above + 1 → before < was + more → above + more ≤ 256 → now ≤ 256
within_limit now was before above more far on few = omega arith

-- an element with what is below it stands in another one ----------------------------------------------------------------------------

module _ (tree after : Tree) (n q : ℕ) (trees : MakeTrees tree) (trees' : MakeTrees after) (outside : IsBelow tree n q → ⊥)
    (up_else : (m : ℕ) → m ≢ n → (element_at after m).parent ≡ (element_at tree m).parent)
    (n_deep : depth after n ≡ depth tree q + 1)
    (few : depth tree q + levels_of tree n ≤ 256) where
  -- what isn't below it is as deep as it was
  else_deep : (m : ℕ) → (IsBelow tree n m → ⊥) → depth after m ≡ depth tree m
  else_deep m =
      from_parents tree trees (λ k. (IsBelow tree n k → ⊥) → depth after k ≡ depth tree k)
      (λ k up away. depth_top after k (up_else k (other k away) ∙ up) ∙ sym (depth_top tree k up))
      (λ k p up above away.
      let same : depth after p ≡ depth tree p = above (λ below. away (child_below tree trees n k p up below)) in
      deeper after trees' k p (up_else k (other k away) ∙ up) ∙ ap (λ d. d + 1) same ∙ sym (deeper tree trees k p up)) m
    where
      other : (k : ℕ) → (IsBelow tree n k → ⊥) → k ≢ n
      other k away same = away (subst (IsBelow tree n) (sym same) (itself_below tree trees n))

  -- what is below it stands as far below it as it did
  record AsFar (m : ℕ) : Type 0 where
    below : IsBelow tree n m
    far : depth after m + depth tree n ≡ depth tree m + depth tree q + 1

  next_far : (c p : ℕ) → (element_at tree c).parent ≡ Some p → AsFar p → AsFar c
  next_far c p up it =
      let far : depth after p + depth tree n ≡ depth tree p + depth tree q + 1 = it.far in
      let other : c ≢ n = λ same. above_child tree trees n p (ap (λ k. (element_at tree k).parent) (sym same) ∙ up) (it.below) in
      let more : depth after c ≡ depth after p + 1 = deeper after trees' c p (up_else c other ∙ up) in
      let one : depth tree c ≡ depth tree p + 1 = deeper tree trees c p up in
      record { below = child_below tree trees n c p up (it.below); far = omega arith }

  below_far : (m : ℕ) → IsBelow tree n m → AsFar m
  below_far m is =
      to_below tree trees AsFar n m next_far
      (record { below = itself_below tree trees n; far = let it : depth after n ≡ depth tree q + 1 = n_deep in omega arith }) is

  put_low : AreLow tree → AreLow after
  unfolding element_depth
  put_low low m = elim (decided m (inclusive_descendants tree n)) [
    | inl below ↦
        within_limit (depth after m) (depth tree n) (depth tree m) (depth tree q) (levels_of tree n) ((below_far m below).far)
        (on_levels tree trees n m below) few
    | inr away ↦ subst (λ d. d ≤ 256) (sym (else_deep m away)) (low m)
  ]

-- a root element ------------------------------------------------------------------------------------------------------------------------

adopted_parent : (tree : Tree) (document n m : ℕ) → (element_at (shown (adopted tree document n) n) m).parent ≡ (element_at tree m).parent
unfolding shown adopted
adopted_parent tree document n m =
    kept_each no_element (λ (it : Element). record it { document = document }) (λ (it : Element). it.parent) (λ it. refl) (inclusive_descendants tree n) m
    (tree.elements)

root_low : (tree : Tree) (own n : ℕ) (sibling : Option ℕ) → AreFramed tree → AreLow tree → AreLow (inserted tree (InDocument own) n sibling)
unfolding inserted
root_low tree own n sibling framed low =
    cut_low (removed tree n) (inserted tree (InDocument own) n sibling)
    (λ m. inl (adopted_parent (linked (removed tree n) (InDocument own) n (sibling_meant tree (InDocument own) n sibling)) own n m))
    (removed_low tree n framed low)

-- insertions ---------------------------------------------------------------------------------------------------------------------------

module _ (tree after : Tree) (n : ℕ) (sibling : Option ℕ) (framed : AreFramed tree) (low : AreLow tree) (known : n < length tree.elements) (now : AreFramed after) where
  low_in : (container : Container) → placing container n sibling tree ≡ Did after → Permitted tree after container n sibling → AreLow after
  unfolding element_depth
  low_in (InElement q) did it =
      put_low tree after n q (framed.trees) (now.trees)
      (λ below. true≢false (sym (ancestor_of tree framed.trees n q below) ∙ it.outside))
      (λ m other. ap (λ (t : Tree). (element_at t m).parent) (sym (it.is)) ∙ parent-elsewhere tree q n sibling m other)
      (of_did (placing (InElement q) n sibling tree) after _ did (placing-depth tree q n sibling known))
      (it.levels) low
  low_in (InDocument own) did it = subst AreLow (it.is) (root_low tree own n sibling framed low)

pub placing_low : (tree after : Tree) (container : Container) (n : ℕ) (sibling : Option ℕ) → AreFramed tree → AreLow tree → IsThere tree container →
    n < length tree.elements → placing container n sibling tree ≡ Did after → AreLow after
placing_low tree after container n sibling framed low there known is =
    low_in tree after n sibling framed low known (placing_framed tree after container n sibling framed there known is) container is
    (permitted tree after container n sibling is)
