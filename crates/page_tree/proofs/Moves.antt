-- At which elements placing and removing change what is laid out.
use Rattle.std.proofs.Common.{◌≡◌, ◌≢◌, ℕ, List, [], ◌∷◌, Option, Some, None, Bool, true, false, cond, nat_eq, ◌||◌, refl, ap, sym, subst, ◌∙◌}
use Rattle.std.specs.Prelude.{is_some}
use Rattle.std.specs.Cmp.{nat_eq_equiv}
use Rattle.std.proofs.lemmas.Bool.{false≢true, eq-eqb, or_parts}
use Rattle.layout_model.specs.Styles.{StaticPosition}
use Rattle.layout_model.specs.Items.{Item}
use Rattle.layout_model.specs.Nodes.{is_flow}
use Rattle.layout_model.specs.Boxes.{kids_of}
use Rattle.element_tree.specs.Forest.{has, names}
use Rattle.kept_layout.specs.Changes.{ChangesOnly}
use Rattle.page_model.specs.World.{Element, Tree, Container, InElement, InDocument}
use Rattle.page_model.specs.Lookups.{element_at, no_element, is_listed, without, change_element, change_at}
use Rattle.page_model.specs.Documents.{nodes_of, is_root_element, container_by, container_of, unlinked, removed, placed_before, sibling_meant, linked, document_of_container, inclusive_descendants, adopted, shown, inserted}
use Rattle.page_model.specs.Steps.{Did}
use Rattle.page_model.specs.Commands.{placing}
use Rattle.page_documents.specs.Frames.{MakeTrees}
use Rattle.page_documents.proofs.Entries.{unchanged, kept, kept_each}
use Rattle.page_tree.specs.Changes.{is_parent, is_container, ChangesAtParents, ChangesAtParent}
use Rattle.page_tree.proofs.Placing.{judged, placing_judged}
use Rattle.kept_layout.proofs.Shapes.{kid_in}
use Rattle.page_documents.proofs.Between.{number_names}

pub differs : (m n : ℕ) → nat_eq m n ≡ false → m ≢ n
differs m n other same = false≢true (sym other ∙ eq-eqb m n same)

has_listed : (n : ℕ) (xs : List ℕ) → has xs n ≡ is_listed n xs
has_listed n [] = refl
has_listed n (x ∷ xs) = ap (λ b. b || has xs n) (nat_eq_equiv.symm n x) ∙ ap (λ b. nat_eq x n || b) (has_listed n xs)

module _ (tree : Tree) (trees : MakeTrees tree) where
  pub kid_parent : (m c : ℕ) → has (kids_of (nodes_of tree m)) c ≡ true → is_parent tree c m ≡ true
  kid_parent m c kid =
      sym (number_names ((element_at tree c).parent) m) ∙ sym (trees.children m c) ∙ sym (has_listed c ((element_at tree m).children))
      ∙ kid_in ((element_at tree m).item.kind) ((element_at tree m).children) c kid

  -- what isn't the parent of an element has another child
  pub kid_differs : (n m c : ℕ) → is_parent tree n m ≡ false → has (kids_of (nodes_of tree m)) c ≡ true → c ≢ n
  kid_differs n m c elsewhere kid same = false≢true (sym elsewhere ∙ ap (λ k. is_parent tree k m) (sym same) ∙ kid_parent m c kid)

-- where an element stands elsewhere: each is as it was by itself, but for that one so is its parent, and but for these so are its children
record AreMoved (n : ℕ) (changed : ℕ → Bool) (old new : Tree) : Type 0 where
  items : (m : ℕ) → (element_at new m).item ≡ (element_at old m).item
  parents : (m : ℕ) → m ≢ n → (element_at new m).parent ≡ (element_at old m).parent
  children : (m : ℕ) → changed m ≡ false → (element_at new m).children ≡ (element_at old m).children

abbrev flows : Option ℕ → Item → Bool
flows parent item = is_flow (cond (is_some parent) (item.style.position) StaticPosition)

only_moved : (n : ℕ) (changed : ℕ → Bool) (old new : Tree) → MakeTrees old → ((m : ℕ) → changed m ≡ false → is_parent old n m ≡ false) → AreMoved n changed old new
    → ChangesOnly changed (nodes_of old) (nodes_of new)
only_moved n changed old new trees left moved m other = record {
  item = moved.items m;
  children = moved.children m other;
  shown = λ c kid. ap (λ (it : Item). it.style.hidden) (moved.items c);
  flow = λ c kid.
      ap (λ up. flows up (element_at new c).item) (moved.parents c (kid_differs old trees n m c (left m other) kid))
      ∙ ap (flows (element_at old c).parent) (moved.items c);
}

-- another parent for an element, and another list of children for its parent
module _ (tree : Tree) (up : Option ℕ) (edit : List ℕ → List ℕ) (n p : ℕ) where
  abbrev rising : Element → Element
  rising element = record element { parent = up }

  abbrev listing : Element → Element
  listing element = record element { children = edit (element.children) }

  edited_moves : AreMoved n (λ m. nat_eq m p) tree (change_element listing p (change_element rising n tree))
  edited_moves = record {
    items = λ m.
        kept no_element listing (λ (it : Element). it.item) (λ it. refl) p m (change_at rising n (tree.elements))
        ∙ kept no_element rising (λ (it : Element). it.item) (λ it. refl) n m (tree.elements);
    parents = λ m other.
        kept no_element listing (λ (it : Element). it.parent) (λ it. refl) p m (change_at rising n (tree.elements))
        ∙ ap (λ (it : Element). it.parent) (unchanged no_element rising n m (tree.elements) other);
    children = λ m other.
        ap (λ (it : Element). it.children) (unchanged no_element listing p m (change_at rising n (tree.elements)) (differs m p other))
        ∙ kept no_element rising (λ (it : Element). it.children) (λ it. refl) n m (tree.elements);
  }

unlinked_moves : (tree : Tree) (n : ℕ) (parent : Option ℕ) (is_root : Bool) (document : ℕ)
    → AreMoved n (names parent) tree (unlinked tree n (container_by parent is_root document))
unlinked_moves tree n None true document = record { items = λ m. refl; parents = λ m other. refl; children = λ m other. refl }
unlinked_moves tree n None false document = record { items = λ m. refl; parents = λ m other. refl; children = λ m other. refl }
unlinked_moves tree n (Some p) is_root document = edited_moves tree None (without n) n p

linked_moves : (tree : Tree) (container : Container) (n : ℕ) (sibling : Option ℕ) → AreMoved n (is_container container) tree (linked tree container n sibling)
linked_moves tree (InElement p) n sibling = edited_moves tree (Some p) (placed_before n sibling) n p
linked_moves tree (InDocument document) n sibling = record { items = λ m. refl; parents = λ m other. refl; children = λ m other. refl }

removed_moves : (tree : Tree) (n : ℕ) → AreMoved n (is_parent tree n) tree (removed tree n)
unfolding removed
removed_moves tree n =
    let moved : AreMoved n (is_parent tree n) tree (unlinked tree n (container_of tree n))
    = unlinked_moves tree n ((element_at tree n).parent) (is_root_element tree n) ((element_at tree n).document) in
    record { items = moved.items; parents = moved.parents; children = moved.children }

inserted_moves : (tree : Tree) (container : Container) (n : ℕ) (sibling : Option ℕ)
    → AreMoved n (λ m. is_parent tree n m || is_container container m) tree (inserted tree container n sibling)
unfolding inserted adopted shown
inserted_moves tree container n sibling =
    let apart : Tree = removed tree n in
    let mark : Option ℕ = sibling_meant tree container n sibling in
    let joined : Tree = linked apart container n mark in
    let left : AreMoved n (is_parent tree n) tree apart = removed_moves tree n in
    let put : AreMoved n (is_container container) apart joined = linked_moves apart container n mark in
    let owned : Element → Element = λ element. record element { document = document_of_container tree container } in
    record {
      items = λ m.
          kept_each no_element owned (λ (it : Element). it.item) (λ it. refl) (inclusive_descendants joined n) m (joined.elements) ∙ put.items m ∙ left.items m;
      parents = λ m other.
          kept_each no_element owned (λ (it : Element). it.parent) (λ it. refl) (inclusive_descendants joined n) m (joined.elements)
          ∙ put.parents m other ∙ left.parents m other;
      children = λ m other.
          let parts = or_parts (is_parent tree n m) (is_container container m) other in
          kept_each no_element owned (λ (it : Element). it.children) (λ it. refl) (inclusive_descendants joined n) m (joined.elements)
          ∙ put.children m parts.1 ∙ left.children m parts.0;
    }

pub removed_only : (tree : Tree) → MakeTrees tree → (n : ℕ) → ChangesAtParent n tree (removed tree n)
removed_only tree trees n = only_moved n (is_parent tree n) tree (removed tree n) trees (λ m other. other) (removed_moves tree n)

done_is : (inside missing full fits : Bool) (later new : Tree) → judged inside missing full fits later ≡ Did new → later ≡ new
done_is true missing full fits later new is = cc
done_is false true full fits later new is = cc
done_is false false true fits later new is = cc
done_is false false false true later new is = cc
done_is false false false false later new is = cc

pub placed_only : (container : Container) (n : ℕ) (sibling : Option ℕ) (old new : Tree) → MakeTrees old → placing container n sibling old ≡ Did new
    → ChangesAtParents container n old new
placed_only container n sibling old new trees done =
    let is : inserted old container n sibling ≡ new = done_is _ _ _ _ (inserted old container n sibling) new (sym (placing_judged old container n sibling) ∙ done) in
    subst (ChangesAtParents container n old) is
    (only_moved n (λ m. is_parent old n m || is_container container m) old (inserted old container n sibling) trees
    (λ m other. (or_parts (is_parent old n m) (is_container container m) other).0) (inserted_moves old container n sibling))
