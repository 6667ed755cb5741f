-- What becomes of the elements and documents of a tree as an element is taken out of where it stands, but for the states of documents.
use Rattle.std.proofs.Common.{◌≡◌, ◌≢◌, ◌<◌, ℕ, Bool, true, false, List, length, Option, Some, None, inl, inr, refl, ap, sym, ◌∙◌}
use Rattle.std.specs.Prelude.{slice_get, option_map}
use Rattle.std.proofs.lemmas.Bool.{cases_eq, false≢true}
use Rattle.page_model.specs.World.{Element, Document, Tree}
use Rattle.page_model.specs.Lookups.{element_at, document_at, no_element, no_document, is_listed, without, change_at}
use Rattle.page_model.specs.Documents.{is_number, is_root_element, container_by, container_of, unlinked}
use Rattle.page_documents.specs.Frames.{MakeTrees, HaveOwners}
use Rattle.page_documents.proofs.Lists.{listed_without, itself_without, number_is, its_number, no_number, not_some}
use Rattle.page_documents.proofs.Entries.{known, changed, unchanged, either, kept, found_kept}
use Rattle.element_tree.proofs.Nodes.{length-changed}

-- an element is taken out of where it stands: what is the same of all else
pub record Apart (before after : Tree) (n : ℕ) : Type 0 where
  pub parents : (m : ℕ) → m ≢ n → (element_at after m).parent ≡ (element_at before m).parent
  pub alone : (element_at after n).parent ≡ None
  pub children : (p m : ℕ) → is_listed m (element_at after p).children ≡ is_number (element_at after m).parent p
  pub documents : (m : ℕ) → (element_at after m).document ≡ (element_at before m).document
  pub framed : (m : ℕ) → (element_at after m).framed ≡ (element_at before m).framed
  pub elements : length after.elements ≡ length before.elements
  pub found : (m : ℕ) → option_map (λ (it : Element). it.document) (slice_get after.elements m) ≡ option_map (λ (it : Element). it.document) (slice_get before.elements m)
  pub frames : (d : ℕ) → (document_at after d).frame ≡ (document_at before d).frame
  pub roots : (d r : ℕ) → (document_at after d).root ≡ Some r → ((document_at before d).root ≡ Some r) × (r ≢ n)
  pub rooted : (d r : ℕ) → (document_at before d).root ≡ Some r → r ≢ n → (document_at after d).root ≡ Some r
  pub count : length after.documents ≡ length before.documents

abbrev alone : Element → Element
alone element = record element { parent = None }

abbrev bereft : ℕ → Element → Element
bereft n element = record element { children = without n (element.children) }

abbrev unrooted : Document → Document
unrooted it = record it { root = None }

module _ (tree : Tree) (n : ℕ) (trees : MakeTrees tree) (owners : HaveOwners tree) where
  -- out of an element
  module _ (q : ℕ) (up : (element_at tree n).parent ≡ Some q) where
    abbrev first : List Element
    first = change_at alone n (tree.elements)

    abbrev out : Tree
    out = record { elements = change_at (bereft n) q first; documents = tree.documents }

    inside : n < length tree.elements
    inside = known no_element (λ (it : Element). it.parent) (Some q) (not_some q) n (tree.elements) up

    holds : n < length tree.elements → q < length first
    holds within =
        known no_element (λ (it : Element). is_listed n it.children) true false≢true q first
        (ap (λ xs. is_listed n xs) (kept no_element alone (λ (it : Element). it.children) (λ it. refl) n q (tree.elements))
        ∙ trees.children q n ∙ its_number ((element_at tree n).parent) q up)

    out_parent : (m : ℕ) → (element_at out m).parent ≡ (let it : Tree = record { elements = first; documents = tree.documents } in (element_at it m).parent)
    out_parent m = kept no_element (bereft n) (λ (it : Element). it.parent) (λ it. refl) q m first

    out_parents : (m : ℕ) → m ≢ n → (element_at out m).parent ≡ (element_at tree m).parent
    out_parents m other = out_parent m ∙ ap (λ (it : Element). it.parent) (unchanged no_element alone n m (tree.elements) other)

    out_alone : (element_at out n).parent ≡ None
    out_alone = out_parent n ∙ ap (λ (it : Element). it.parent) (changed no_element alone n (tree.elements) inside)

    out_same : {B : Type 0} (part : Element → B) → ((it : Element) → part (alone it) ≡ part it) → ((it : Element) → part (bereft n it) ≡ part it) → (m : ℕ) →
        part (element_at out m) ≡ part (element_at tree m)
    out_same part one other m = kept no_element (bereft n) part other q m first ∙ kept no_element alone part one n m (tree.elements)

    children_first : (p : ℕ) → (let it : Tree = record { elements = first; documents = tree.documents } in (element_at it p).children) ≡ (element_at tree p).children
    children_first p = kept no_element alone (λ (it : Element). it.children) (λ it. refl) n p (tree.elements)

    others : (p m : ℕ) → m ≢ n → is_listed m (element_at out p).children ≡ is_listed m (element_at tree p).children
    others p m other = elim (either no_element (bereft n) q p first) [
      | inl is ↦ ap (λ (it : Element). is_listed m it.children) is ∙ ap (λ xs. is_listed m xs) (children_first p)
      | inr is ↦
          ap (λ (it : Element). is_listed m it.children) is
          ∙ ap (λ xs. is_listed m (without n xs)) (children_first p) ∙ listed_without n m ((element_at tree p).children) other
    ]

    itself : (p : ℕ) → is_listed n (element_at out p).children ≡ false
    itself p = elim (cases_eq p q) [
      | inl same ↦
          ap (λ k. is_listed n (element_at out k).children) same
          ∙ ap (λ (it : Element). is_listed n it.children) (changed no_element (bereft n) q first (holds inside))
          ∙ itself_without n _
      | inr other ↦
          ap (λ (it : Element). is_listed n it.children) (unchanged no_element (bereft n) q p first other)
          ∙ ap (λ xs. is_listed n xs) (children_first p)
          ∙ trees.children p n
          ∙ no_number ((element_at tree n).parent) p (λ is. other (let both : Some p ≡ Some q = sym is ∙ up in cc))
    ]

    out_children : (p m : ℕ) → is_listed m (element_at out p).children ≡ is_number (element_at out m).parent p
    out_children p m = elim (cases_eq m n) [
      | inl same ↦
          ap (λ k. is_listed k (element_at out p).children) same ∙ itself p
          ∙ sym (ap (λ k. is_number (element_at out k).parent p) same ∙ ap (λ o. is_number o p) out_alone)
      | inr other ↦ others p m other ∙ trees.children p m ∙ ap (λ o. is_number o p) (sym (out_parents m other))
    ]

    no_root : (d r : ℕ) → (document_at tree d).root ≡ Some r → ((document_at tree d).root ≡ Some r) × (r ≢ n)
    no_root d r is = (is, λ same. not_some q (sym (owners.roots d r is).top ∙ ap (λ k. (element_at tree k).parent) same ∙ up))

    out_of_element : Apart tree out n
    out_of_element = record {
      parents = out_parents;
      alone = out_alone;
      children = out_children;
      documents = out_same (λ (it : Element). it.document) (λ it. refl) (λ it. refl);
      framed = out_same (λ (it : Element). it.framed) (λ it. refl) (λ it. refl);
      elements = length-changed (bereft n) q first ∙ length-changed alone n (tree.elements);
      found = λ m. found_kept (bereft n) (λ (it : Element). it.document) (λ it. refl) q m first
          ∙ found_kept alone (λ (it : Element). it.document) (λ it. refl) n m (tree.elements);
      frames = λ d. refl;
      roots = no_root;
      rooted = λ d r is other. is;
      count = refl;
    }

  -- out of no element: it is a root element or stands nowhere
  module _ (up : (element_at tree n).parent ≡ None) where
    nowhere : is_root_element tree n ≡ false → Apart tree tree n
    nowhere bare = record {
      parents = λ m other. refl;
      alone = up;
      children = trees.children;
      documents = λ m. refl;
      framed = λ m. refl;
      elements = refl;
      found = λ m. refl;
      frames = λ d. refl;
      roots = λ d r is. (is, λ same. false≢true (sym bare ∙ root_element d (is ∙ ap Some same)));
      rooted = λ d r is other. is;
      count = refl;
    }
      where
        root_element : (d : ℕ) → (document_at tree d).root ≡ Some n → is_root_element tree n ≡ true
        root_element d is =
            ap (λ k. is_number (document_at tree k).root n) (owners.roots d n is).owner ∙ its_number ((document_at tree d).root) n is

    module _ (rooted : is_root_element tree n ≡ true) where
      abbrev own : ℕ
      own = (element_at tree n).document

      abbrev freed : Tree
      freed = record { elements = tree.elements; documents = change_at unrooted own (tree.documents) }

      root : (document_at tree own).root ≡ Some n
      root = number_is ((document_at tree own).root) n rooted

      own_inside : own < length tree.documents
      own_inside = known no_document (λ (it : Document). it.root) (Some n) (not_some n) own (tree.documents) root

      freed_roots : (d r : ℕ) → (document_at freed d).root ≡ Some r → ((document_at tree d).root ≡ Some r) × (r ≢ n)
      freed_roots d r is = elim (cases_eq d own) [
        | inl same ↦
            absurd (not_some r (sym (ap (λ k. (document_at freed k).root) same
            ∙ ap (λ (it : Document). it.root) (changed no_document unrooted own (tree.documents) own_inside)) ∙ is))
        | inr other ↦
            let before : (document_at tree d).root ≡ Some r
            = sym (ap (λ (it : Document). it.root) (unchanged no_document unrooted own d (tree.documents) other)) ∙ is in
            (before, λ same. other (sym (owners.roots d r before).owner ∙ ap (λ k. (element_at tree k).document) same))
      ]

      freed_rooted : (d r : ℕ) → (document_at tree d).root ≡ Some r → r ≢ n → (document_at freed d).root ≡ Some r
      freed_rooted d r is apart =
          ap (λ (it : Document). it.root) (unchanged no_document unrooted own d (tree.documents)
          (λ same. apart (let both : Some r ≡ Some n = sym is ∙ ap (λ k. (document_at tree k).root) same ∙ root in cc))) ∙ is

      out_of_document : Apart tree freed n
      out_of_document = record {
        parents = λ m other. refl;
        alone = up;
        children = trees.children;
        documents = λ m. refl;
        framed = λ m. refl;
        elements = refl;
        found = λ m. refl;
        frames = λ d. kept no_document unrooted (λ (it : Document). it.frame) (λ it. refl) own d (tree.documents);
        roots = freed_roots;
        rooted = freed_rooted;
        count = length-changed unrooted own (tree.documents);
      }

  by_root : (up : (element_at tree n).parent ≡ None) (test : Bool) → is_root_element tree n ≡ test →
      Apart tree (unlinked tree n (container_by None test (element_at tree n).document)) n
  by_root up true is = out_of_document up is
  by_root up false is = nowhere up is

  by_parent : (found : Option ℕ) → (element_at tree n).parent ≡ found →
      Apart tree (unlinked tree n (container_by found (is_root_element tree n) (element_at tree n).document)) n
  by_parent None up = by_root up (is_root_element tree n) refl
  by_parent (Some q) up = out_of_element q up

  pub unlinked_apart : Apart tree (unlinked tree n (container_of tree n)) n
  unlinked_apart = by_parent ((element_at tree n).parent) refl
