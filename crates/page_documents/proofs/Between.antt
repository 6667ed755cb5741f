-- What the two calls that follow a removal and an insertion make of documents and frames that belonged together.
use Rattle.std.proofs.Common.{◌≡◌, ◌<◌, ℕ, Bool, true, false, cond, List, [], ◌∷◌, length, Option, Some, None, refl, ap, sym, subst, ◌∙◌}
use Rattle.std.specs.Prelude.{◌==◌, ◌||◌, is_some}
use Rattle.std.specs.Cmp.{nat_eq_equiv}
use Rattle.std.proofs.lemmas.Bool.{false≢true, true≢false}
use Rattle.page_model.specs.World.{Element, Dead, Document, Tree, Container, InElement, InDocument}
use Rattle.page_model.specs.Lookups.{element_at, document_at, no_element, is_listed, change_at}
use Rattle.page_model.specs.Documents.{is_number, is_root_element, is_active, is_active_state, inclusive_descendants, documents_inside, container_by, container_of, document_of_container, with_state, placed_before, linked, adopted, shown}
use Rattle.page_model.specs.Commands.{is_full}
use Rattle.element_tree.specs.Forest.{Forest, IsForest, has, names, children_of, parent_of}
use Rattle.page_documents.specs.Seen.{Carried, seen_tree}
use Rattle.page_documents.specs.Frames.{MakeTrees, HaveOwners, AreFramed}
use Rattle.page_documents.specs.Places.{IsThere, IsTakenOut, IsPutIn}
use Rattle.page_documents.proofs.Seen.{parent_seen, children_seen}
use Rattle.page_documents.proofs.Roots.{shallow}
use Rattle.page_documents.proofs.Lists.{its_number}
use Rattle.page_documents.proofs.Entries.{kept_each}
use Rattle.page_documents.proofs.Shape.{trees_same}
use Rattle.page_documents.proofs.Leaving.{left_framed}
use Rattle.page_documents.proofs.Linking.{Loose, linked_within, linked_onto}
use Rattle.page_documents.proofs.Entering.{entered_framed}
use Rattle.element_tree.proofs.Nodes.{length-changed}

-- a tree of elements, seen as the definitions have it --------------------------------------------------------------------------

listed_has : (n : ℕ) (xs : List ℕ) → is_listed n xs ≡ has xs n
listed_has n [] = refl
listed_has n (x ∷ xs) = ap (λ b. b || is_listed n xs) (nat_eq_equiv.symm x n) ∙ ap (λ b. (n == x) || b) (listed_has n xs)

pub number_names : (found : Option ℕ) (n : ℕ) → is_number found n ≡ names found n
number_names None n = refl
number_names (Some m) n = nat_eq_equiv.symm m n

pub trees_seen : {P : Type 0} (carried : P → Carried) (forest : Forest P) (documents : List Document) → IsForest forest.most_depth forest.nodes →
    MakeTrees (seen_tree carried forest documents)
trees_seen carried forest documents is = record {
  children = λ p n.
      ap (λ xs. is_listed n xs) (children_seen carried forest documents p)
      ∙ listed_has n (children_of forest.nodes p)
      ∙ is.listed p n
      ∙ sym (number_names (parent_of forest.nodes n) p)
      ∙ ap (λ o. is_number o p) (sym (parent_seen carried forest documents n));
  shallow = shallow carried forest documents is;
}

-- out of a tree -----------------------------------------------------------------------------------------------------------------

pub left_together : (before after : Tree) (n document : ℕ) → AreFramed before → IsTakenOut before after n document →
    AreFramed (with_state Dead (cond (is_active after document) (documents_inside is_active_state after n) []) after)
left_together before after n document framed out =
    subst (λ tree. AreFramed (with_state Dead (cond (is_active tree document) (documents_inside is_active_state tree n) []) tree)) (sym out.apart)
    (left_framed before n document framed out.stood)

-- into a tree -----------------------------------------------------------------------------------------------------------------

-- adoption leaves parents and children
unadopted : (tree : Tree) (document n : ℕ) → MakeTrees (adopted tree document n) → MakeTrees tree
unfolding adopted
unadopted tree document n trees =
    trees_same (adopted tree document n) tree
    (λ m. sym (kept_each no_element (λ (it : Element). record it { document = document }) (λ (it : Element). it.parent) (λ it. refl)
    (inclusive_descendants tree n) m (tree.elements)))
    (λ m. sym (kept_each no_element (λ (it : Element). record it { document = document }) (λ (it : Element). it.children) (λ it. refl)
    (inclusive_descendants tree n) m (tree.elements)))
    trees

linked_count : (tree : Tree) (container : Container) (n : ℕ) (sibling : Option ℕ) → length (linked tree container n sibling).elements ≡ length tree.elements
linked_count tree (InElement q) n sibling =
    length-changed (λ (it : Element). record it { children = placed_before n sibling (it.children) }) q
    (change_at (λ (it : Element). record it { parent = Some q }) n (tree.elements))
    ∙ length-changed (λ (it : Element). record it { parent = Some q }) n (tree.elements)
linked_count tree (InDocument document) n sibling = refl

nowhere_loose : (tree : Tree) (n : ℕ) → HaveOwners tree → n < length tree.elements → container_of tree n ≡ None → Loose tree n
nowhere_loose tree n owners known none = record {
  known = known;
  alone = by_parent ((element_at tree n).parent) refl none;
  no_root = λ d is.
      by_root (is_root_element tree n)
      (ap (λ k. is_number (document_at tree k).root n) (owners.roots d n is).owner ∙ its_number ((document_at tree d).root) n is)
      (ap (λ o. container_by o (is_root_element tree n) (element_at tree n).document) (sym (owners.roots d n is).top) ∙ none);
}
  where
    by_parent : (found : Option ℕ) → (element_at tree n).parent ≡ found → container_by found (is_root_element tree n) (element_at tree n).document ≡ None →
        (element_at tree n).parent ≡ None
    by_parent None is free = is
    by_parent (Some p) is free = cc

    by_root : (rooted : Bool) → rooted ≡ true → container_by None rooted (element_at tree n).document ≡ None → ⊥
    by_root true is free = cc
    by_root false is free = false≢true is

no_some : (found : Option ℕ) → is_some found ≡ false → found ≡ None
no_some None is = refl
no_some (Some x) is = absurd (true≢false is)

module _ (before : Tree) (n : ℕ) (sibling : Option ℕ) (framed : AreFramed before) (loose : Loose before n) where
  entered_by : (container : Container) → IsThere before container → is_full before container ≡ false → MakeTrees (linked before container n sibling) →
      AreFramed (shown (adopted (linked before container n sibling) (document_of_container before container) n) n)
  entered_by (InElement q) there free trees =
      entered_framed before (linked before (InElement q) n sibling) n ((element_at before q).document) framed loose trees
      (linked_within before n loose framed.trees sibling q there)
  entered_by (InDocument document) there free trees =
      entered_framed before (linked before (InDocument document) n sibling) n document framed loose trees
      (linked_onto before n loose framed.trees sibling document there (no_some ((document_at before document).root) free))

pub entered_together : (before after now : Tree) (container : Container) (n document : ℕ) (sibling : Option ℕ) → AreFramed before →
    IsPutIn before after container n sibling → document_of_container before container ≡ document → n < length after.elements →
    MakeTrees (adopted after document n) → now ≡ shown (adopted after document n) n → AreFramed now
entered_together before after now container n document sibling framed put own known trees is =
    let joined : Tree = linked before container n sibling in
    let known' : n < length before.elements = rw (sym (ap (λ (it : Tree). length it.elements) put.joined ∙ linked_count before container n sibling)) known in
    let loose : Loose before n = nowhere_loose before n framed.owners known' put.nowhere in
    let trees' : MakeTrees joined = subst MakeTrees put.joined (unadopted after document n trees) in
    subst AreFramed (sym is)
    (subst (λ tree. AreFramed (shown (adopted tree document n) n)) (sym put.joined)
    (subst (λ d. AreFramed (shown (adopted joined d n) n)) own (entered_by before n sibling framed loose container put.there put.free trees')))
