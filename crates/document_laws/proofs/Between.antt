-- The trees between a removal and what an insertion ends with are as low.
use Rattle.std.proofs.Common.{◌≡◌, ◌<◌, ℕ, length, Option, inl, refl, sym, subst, ◌∙◌}
use Rattle.page_model.specs.World.{Element, Tree, Container}
use Rattle.page_model.specs.Lookups.{element_at, no_element}
use Rattle.page_model.specs.Documents.{inclusive_descendants, document_of_container, adopted, shown, inserted}
use Rattle.page_model.specs.Steps.{Did}
use Rattle.page_model.specs.Commands.{placing}
use Rattle.page_documents.specs.Places.{IsThere}
use Rattle.page_documents.proofs.Entries.{kept_each}
use Rattle.page_documents.proofs.Shape.{trees_same}
use Rattle.document_laws.specs.Levels.{MakeLowTrees, IsWithinLevels}
use Rattle.document_laws.specs.Insertions.{placed_in, owned_in, IsLowThroughout}
use Rattle.page_laws.proofs.Depths.{permitted}
use Rattle.document_laws.proofs.Depths.{cut_low}
use Rattle.document_laws.proofs.Steps.{removed_levels, placing_levels}
use Rattle.document_laws.proofs.Cutting.{low_trees}

-- trees with parents and children alike
low_same : (before after : Tree) → ((m : ℕ) → (element_at after m).parent ≡ (element_at before m).parent) →
    ((m : ℕ) → (element_at after m).children ≡ (element_at before m).children) → MakeLowTrees before → MakeLowTrees after
low_same before after parents children low = record {
  trees = trees_same before after parents children low.trees;
  low = cut_low before after (λ m. inl (parents m)) low.low;
}

unshown : (tree : Tree) (n : ℕ) → MakeLowTrees (shown tree n) → MakeLowTrees tree
unfolding shown
unshown tree n low = low_same (shown tree n) tree (λ m. refl) (λ m. refl) low

unadopted : (tree : Tree) (document n : ℕ) → MakeLowTrees (adopted tree document n) → MakeLowTrees tree
unfolding adopted
unadopted tree document n low =
    low_same (adopted tree document n) tree
    (λ m. sym (kept_each no_element (λ (it : Element). record it { document = document }) (λ (it : Element). it.parent) (λ it. refl)
    (inclusive_descendants tree n) m (tree.elements)))
    (λ m. sym (kept_each no_element (λ (it : Element). record it { document = document }) (λ (it : Element). it.children) (λ it. refl)
    (inclusive_descendants tree n) m (tree.elements)))
    low

ends_shown : (tree : Tree) (container : Container) (n : ℕ) (sibling : Option ℕ) → inserted tree container n sibling ≡ shown (owned_in tree container n sibling) n
unfolding inserted
ends_shown tree container n sibling = refl

pub low_throughout : (tree after : Tree) (container : Container) (n : ℕ) (sibling : Option ℕ) → IsWithinLevels tree → IsThere tree container →
    n < length tree.elements → placing container n sibling tree ≡ Did after → IsLowThroughout tree after container n sibling
low_throughout tree after container n sibling levels there known is =
    let ends : after ≡ shown (owned_in tree container n sibling) n =
    sym ((permitted tree after container n sibling is).is) ∙ ends_shown tree container n sibling in
    let last : IsWithinLevels after =
    placing_levels tree levels container n sibling there known after is in
    let owned : MakeLowTrees (owned_in tree container n sibling) =
    unshown (owned_in tree container n sibling) n (subst MakeLowTrees ends (low_trees after last)) in
    record {
      apart = removed_levels tree levels n;
      placed = unadopted (placed_in tree container n sibling) (document_of_container tree container) n owned;
      owned = owned;
      ends = ends;
      last = last;
    }
