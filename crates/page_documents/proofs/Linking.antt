-- What becomes of a tree as an element that stands nowhere is put somewhere, before it is adopted.
use Rattle.std.proofs.Common.{◌≡◌, ◌≢◌, ◌<◌, ℕ, List, length, Option, Some, None, ◌⊎◌, inl, inr, refl, ap, sym, ◌∙◌}
use Rattle.std.proofs.lemmas.Bool.{cases_eq}
use Rattle.page_model.specs.World.{Element, Document, Tree, InElement, InDocument}
use Rattle.page_model.specs.Lookups.{element_at, document_at, no_element, no_document, is_listed, change_at}
use Rattle.page_model.specs.Documents.{is_number, placed_before, linked}
use Rattle.page_documents.specs.Frames.{MakeTrees}
use Rattle.page_documents.proofs.Lists.{itself_placed, listed_placed, its_number, no_number, not_some}
use Rattle.page_documents.proofs.Entries.{changed, unchanged, either, kept}
use Rattle.element_tree.proofs.Nodes.{length-changed}

-- an element that stands nowhere
pub record Loose (tree : Tree) (n : ℕ) : Type 0 where
  pub known : n < length tree.elements
  pub alone : (element_at tree n).parent ≡ None
  pub no_root : (d : ℕ) → (document_at tree d).root ≡ Some n → ⊥

-- it is put somewhere: what is the same of all else
pub record Linked (before after : Tree) (n owner : ℕ) : Type 0 where
  pub parents : (m : ℕ) → m ≢ n → (element_at after m).parent ≡ (element_at before m).parent
  pub documents : (m : ℕ) → (element_at after m).document ≡ (element_at before m).document
  pub framed : (m : ℕ) → (element_at after m).framed ≡ (element_at before m).framed
  pub elements : length after.elements ≡ length before.elements
  pub owned : (p : ℕ) → (element_at after n).parent ≡ Some p → (element_at before p).document ≡ owner
  pub frames : (d : ℕ) → (document_at after d).frame ≡ (document_at before d).frame
  pub states : (d : ℕ) → (document_at after d).state ≡ (document_at before d).state
  pub roots : (d r : ℕ) → (document_at after d).root ≡ Some r → ((document_at before d).root ≡ Some r) ⊎ ((d ≡ owner) × (r ≡ n) × ((element_at after n).parent ≡ None))
  pub rooted : (d r : ℕ) → (document_at before d).root ≡ Some r → (document_at after d).root ≡ Some r
  pub count : length after.documents ≡ length before.documents

module _ (tree : Tree) (n : ℕ) (loose : Loose tree n) (trees : MakeTrees tree) (sibling : Option ℕ) where
  module _ (q : ℕ) (there : q < length tree.elements) where
    abbrev gains : Element → Element
    gains element = record element { parent = Some q }

    abbrev takes : Element → Element
    takes element = record element { children = placed_before n sibling (element.children) }

    abbrev first : List Element
    first = change_at gains n (tree.elements)

    abbrev within : Tree
    within = linked tree (InElement q) n sibling

    within_parent : (m : ℕ) → (element_at within m).parent ≡ (let it : Tree = record { elements = first; documents = tree.documents } in (element_at it m).parent)
    within_parent m = kept no_element takes (λ (it : Element). it.parent) (λ it. refl) q m first

    pub within_parents : (m : ℕ) → m ≢ n → (element_at within m).parent ≡ (element_at tree m).parent
    within_parents m other = within_parent m ∙ ap (λ (it : Element). it.parent) (unchanged no_element gains n m (tree.elements) other)

    pub within_up : (element_at within n).parent ≡ Some q
    within_up = within_parent n ∙ ap (λ (it : Element). it.parent) (changed no_element gains n (tree.elements) loose.known)

    within_same : {B : Type 0} (part : Element → B) → ((it : Element) → part (gains it) ≡ part it) → ((it : Element) → part (takes it) ≡ part it) → (m : ℕ) →
        part (element_at within m) ≡ part (element_at tree m)
    within_same part one other m = kept no_element takes part other q m first ∙ kept no_element gains part one n m (tree.elements)

    children_first : (p : ℕ) → (let it : Tree = record { elements = first; documents = tree.documents } in (element_at it p).children) ≡ (element_at tree p).children
    children_first p = kept no_element gains (λ (it : Element). it.children) (λ it. refl) n p (tree.elements)

    others : (p m : ℕ) → m ≢ n → is_listed m (element_at within p).children ≡ is_listed m (element_at tree p).children
    others p m other = elim (either no_element takes q p first) [
      | inl is ↦ ap (λ (it : Element). is_listed m it.children) is ∙ ap (λ xs. is_listed m xs) (children_first p)
      | inr is ↦
          ap (λ (it : Element). is_listed m it.children) is
          ∙ ap (λ xs. is_listed m (placed_before n sibling xs)) (children_first p) ∙ listed_placed n m sibling ((element_at tree p).children) other
    ]

    itself : (p : ℕ) → is_listed n (element_at within p).children ≡ is_number (Some q) p
    itself p = elim (cases_eq p q) [
      | inl same ↦
          ap (λ k. is_listed n (element_at within k).children) same
          ∙ ap (λ (it : Element). is_listed n it.children) (changed no_element takes q first (rw (length-changed gains n (tree.elements)) there))
          ∙ itself_placed n sibling _
          ∙ sym (its_number (Some q) p (ap Some (sym same)))
      | inr other ↦
          ap (λ (it : Element). is_listed n it.children) (unchanged no_element takes q p first other)
          ∙ ap (λ xs. is_listed n xs) (children_first p)
          ∙ trees.children p n
          ∙ ap (λ o. is_number o p) loose.alone
          ∙ sym (no_number (Some q) p (λ is. other (let both : q ≡ p = cc in sym both)))
    ]

    pub within_children : (p m : ℕ) → is_listed m (element_at within p).children ≡ is_number (element_at within m).parent p
    within_children p m = elim (cases_eq m n) [
      | inl same ↦
          ap (λ k. is_listed k (element_at within p).children) same ∙ itself p
          ∙ sym (ap (λ k. is_number (element_at within k).parent p) same ∙ ap (λ o. is_number o p) within_up)
      | inr other ↦ others p m other ∙ trees.children p m ∙ ap (λ o. is_number o p) (sym (within_parents m other))
    ]

    pub linked_within : Linked tree within n (element_at tree q).document
    linked_within = record {
      parents = within_parents;
      documents = within_same (λ (it : Element). it.document) (λ it. refl) (λ it. refl);
      framed = within_same (λ (it : Element). it.framed) (λ it. refl) (λ it. refl);
      elements = length-changed takes q first ∙ length-changed gains n (tree.elements);
      owned = λ p up. ap (λ k. (element_at tree k).document) (let both : Some p ≡ Some q = sym up ∙ within_up in let same : p ≡ q = cc in same);
      frames = λ d. refl;
      states = λ d. refl;
      roots = λ d r is. inl is;
      rooted = λ d r is. is;
      count = refl;
    }

  module _ (own : ℕ) (there : own < length tree.documents) (free : (document_at tree own).root ≡ None) where
    abbrev crowned : Document → Document
    crowned it = record it { root = Some n }

    abbrev onto : Tree
    onto = linked tree (InDocument own) n sibling

    onto_roots : (d r : ℕ) → (document_at onto d).root ≡ Some r → ((document_at tree d).root ≡ Some r) ⊎ ((d ≡ own) × (r ≡ n) × ((element_at onto n).parent ≡ None))
    onto_roots d r is = elim (cases_eq d own) [
      | inl same ↦
          inr (
            same,
            let both : Some n ≡ Some r = sym (ap (λ k. (document_at onto k).root) same
                ∙ ap (λ (it : Document). it.root) (changed no_document crowned own (tree.documents) there)) ∙ is in let back : r ≡ n = cc in back,
            loose.alone,
          )
      | inr other ↦ inl (sym (ap (λ (it : Document). it.root) (unchanged no_document crowned own d (tree.documents) other)) ∙ is)
    ]

    onto_rooted : (d r : ℕ) → (document_at tree d).root ≡ Some r → (document_at onto d).root ≡ Some r
    onto_rooted d r is =
        ap (λ (it : Document). it.root) (unchanged no_document crowned own d (tree.documents)
        (λ same. not_some r (sym free ∙ ap (λ k. (document_at tree k).root) (sym same) ∙ is))) ∙ is

    pub linked_onto : Linked tree onto n own
    linked_onto = record {
      parents = λ m other. refl;
      documents = λ m. refl;
      framed = λ m. refl;
      elements = refl;
      owned = λ p up. absurd (not_some p (sym loose.alone ∙ up));
      frames = λ d. kept no_document crowned (λ (it : Document). it.frame) (λ it. refl) own d (tree.documents);
      states = λ d. kept no_document crowned (λ (it : Document). it.state) (λ it. refl) own d (tree.documents);
      roots = onto_roots;
      rooted = onto_rooted;
      count = length-changed crowned own (tree.documents);
    }
