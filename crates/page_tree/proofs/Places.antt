-- Removals and insertions of the page are those of the tree.
use Rattle.std.proofs.Common.{◌≡◌, ℕ, List, [], map, length, Option, Some, None, Bool, true, false, cond, refl, ap, sym, subst, ◌∙◌, slice_get}
use Rattle.page_model.specs.World.{Element, Active, Dead, Document, Tree, InElement, InDocument, Container}
use Rattle.page_model.specs.Lookups.{element_at, without, change_at}
use Rattle.page_model.specs.Documents.{container_by, container_of, is_root_element, unlinked, removed, placed_before, linked, sibling_meant, with_state, stands_in_active, documents_inside, is_active_state, is_fresh_state, adopted, shown, inserted}
use Rattle.element_tree.specs.Forest.{Knot, Forest, IsForest, IsOnce, parent_of, children_in}
use Rattle.element_tree.specs.Edits.{with_parent, with_children, put_before, without as taken_out, removed_from, removed as taken_away, attached, inserted as put_in, change_at as changed_at}
use Rattle.element_tree.proofs.Nodes.{children-reparented, length-changed}
use Rattle.page_documents.specs.Seen.{element_of, seen_tree}
use Rattle.page_documents.proofs.Seen.{parent_seen}
use Rattle.page_documents.specs.Held.{HeldDocuments, ending, changing}
use Rattle.page_documents.proofs.Adopting.{changes_length}
use Rattle.page_documents.proofs.Parts.{ends, unrooted, removed_by_parts}
use Rattle.page_tree.specs.Items.{Described, carried_in}
use Rattle.page_tree.proofs.Changes.{change_shown, changes_commute}
use Rattle.page_tree.proofs.Siblings.{without_once, placed_put}

-- an element with other children
abbrev with_list : Knot Described → List ℕ → Element
with_list knot xs = record (element_of carried_in knot) { children = xs }

-- these elements and documents
abbrev pub tree_of : List Element → List Document → Tree
tree_of elements documents = record { elements = elements; documents = documents }

module _ (forest : Forest Described) (documents : List Document) where
  pub container_found : (n : ℕ) → container_of (seen_tree carried_in forest documents) n
      ≡ container_by (parent_of forest.nodes n) (is_root_element (seen_tree carried_in forest documents) n) ((element_at (seen_tree carried_in forest documents) n).document)
  container_found n =
      ap (λ parent. container_by parent (is_root_element (seen_tree carried_in forest documents) n) ((element_at (seen_tree carried_in forest documents) n).document))
      (parent_seen carried_in forest documents n)

pub linked_in : (nodes : List (Knot Described)) (documents : List Document) (p n : ℕ) (mark : Option ℕ)
    → linked (tree_of (map (element_of carried_in) nodes) documents) (InElement p) n mark ≡ tree_of (map (element_of carried_in) (attached p n mark nodes)) documents
linked_in nodes documents p n mark =
    ap (λ xs. tree_of (change_at (λ element. record element { children = placed_before n mark (element.children) }) p xs) documents)
    (change_shown (element_of carried_in) (with_parent (Some p)) (λ element. record element { parent = Some p }) n nodes (λ knot is. refl))
    ∙ ap (λ xs. tree_of xs documents)
    (change_shown (element_of carried_in) (with_children (put_before mark n)) (λ element. record element { children = placed_before n mark (element.children) }) p
    (changed_at (with_parent (Some p)) n nodes) (λ knot is. ap (with_list knot) (placed_put n mark (knot.children))))
    ∙ ap (λ xs. tree_of (map (element_of carried_in) xs) documents)
    (changes_commute (with_children (put_before mark n)) (with_parent (Some p)) (λ knot. refl) p n nodes)

module _ {most : ℕ} (forest : Forest Described) (trees : IsForest most forest.nodes) (documents : List Document) where
  abbrev now : Tree
  now = seen_tree carried_in forest documents

  once_there : (n p : ℕ) (knot : Knot Described) → slice_get (changed_at (with_parent None) n forest.nodes) p ≡ Some knot → IsOnce knot.children
  once_there n p knot is =
      subst IsOnce (sym (children-reparented None n forest.nodes p) ∙ ap children_in is) (trees.once p)

  unlinked_from : (n : ℕ) (parent : Option ℕ) (is_root : Bool) (document : ℕ)
      → (unlinked now n (container_by parent is_root document)).elements ≡ map (element_of carried_in) (removed_from parent n forest.nodes)
  unlinked_from n None true document = refl
  unlinked_from n None false document = refl
  unlinked_from n (Some p) is_root document =
      ap (change_at (λ (element : Element). record element { children = without n (element.children) }) p)
      (change_shown (element_of carried_in) (with_parent None) (λ element. record element { parent = None }) n forest.nodes (λ knot is. refl))
      ∙ change_shown (element_of carried_in) (with_children (taken_out n)) (λ element. record element { children = without n (element.children) }) p
      (changed_at (with_parent None) n forest.nodes) (λ knot is. ap (with_list knot) (without_once n (knot.children) (once_there n p knot is)))
      ∙ ap (map (element_of carried_in))
      (changes_commute (with_children (taken_out n)) (with_parent None) (λ knot. refl) p n forest.nodes)

  pub removed_elements : (n : ℕ) → (removed (seen_tree carried_in forest documents) n).elements ≡ map (element_of carried_in) (taken_away n forest.nodes)
  removed_elements n =
      ap (λ (it : Tree). it.elements) (removed_by_parts now n)
      ∙ ap (λ container. (unlinked now n container).elements) (container_found forest documents n)
      ∙ unlinked_from n (parent_of forest.nodes n) (is_root_element now n) ((element_at now n).document)

  -- the page once an element isn't where it stood
  pub removed_page : (n : ℕ) → removed (seen_tree carried_in forest documents) n
      ≡ tree_of (map (element_of carried_in) (taken_away n forest.nodes)) ((removed (seen_tree carried_in forest documents) n).documents)
  removed_page n = ap (λ elements. tree_of elements ((removed now n).documents)) (removed_elements n)

  -- and once it stands under another one, or as a root element
  pub linked_page : (p n : ℕ) (mark : Option ℕ)
      → tree_of (map (element_of carried_in) (put_in p n mark forest.nodes)) ((removed (seen_tree carried_in forest documents) n).documents)
      ≡ linked (removed (seen_tree carried_in forest documents) n) (InElement p) n mark
  linked_page p n mark =
      sym (linked_in (taken_away n forest.nodes) ((removed now n).documents) p n mark)
      ∙ ap (λ it. linked it (InElement p) n mark) (sym (removed_page n))

  pub rooted_page : (document n : ℕ) (sibling : Option ℕ)
      → tree_of (map (element_of carried_in) (taken_away n forest.nodes))
      (change_at (λ (it : Document). record it { root = Some n }) document ((removed (seen_tree carried_in forest documents) n).documents))
      ≡ linked (removed (seen_tree carried_in forest documents) n) (InDocument document) n sibling
  rooted_page document n sibling = ap (λ it. linked it (InDocument document) n sibling) (sym (removed_page n))

pub inserted_in : (tree joined after : Tree) (p n document : ℕ) (sibling mark : Option ℕ) → sibling_meant tree (InElement p) n sibling ≡ mark
    → joined ≡ linked (removed tree n) (InElement p) n mark → (element_at tree p).document ≡ document → after ≡ shown (adopted joined document n) n
    → after ≡ inserted tree (InElement p) n sibling
unfolding inserted
inserted_in tree joined after p n document sibling mark meant put owner is =
    is
    ∙ ap (λ it. shown (adopted it document n) n) put
    ∙ ap (λ d. shown (adopted (linked (removed tree n) (InElement p) n mark) d n) n) (sym owner)
    ∙ ap (λ m. shown (adopted (linked (removed tree n) (InElement p) n m) ((element_at tree p).document) n) n) (sym meant)

pub inserted_top : (tree joined after : Tree) (document n : ℕ) (sibling : Option ℕ)
    → joined ≡ linked (removed tree n) (InDocument document) n sibling → after ≡ shown (adopted joined document n) n
    → after ≡ inserted tree (InDocument document) n sibling
unfolding inserted
inserted_top tree joined after document n sibling put is = is ∙ ap (λ it. shown (adopted it document n) n) put

-- what leaving makes of the documents, in the words of removal
module _ (forest : Forest Described) (before ended : HeldDocuments) (n : ℕ)
    (is : ended ≡ ending (stands_in_active (seen_tree carried_in forest before.held) n) (seen_tree carried_in forest before.held) n before) where
  abbrev first : Tree
  first = seen_tree carried_in forest before.held

  abbrev with_held : List Document → HeldDocuments
  with_held held = record before { held = held }

  left_by : (container : Option Container) → container_of first n ≡ container
      → with_held (unrooted container ((with_state Dead (ends first n) first).documents)) ≡ with_held ((removed first n).documents)
  left_by container found =
      ap (λ it. with_held (unrooted it ((with_state Dead (ends first n) first).documents))) (sym found)
      ∙ ap (λ (it : Tree). with_held (it.documents)) (sym (removed_by_parts first n))

  pub left_nowhere : container_of (seen_tree carried_in forest before.held) n ≡ None
      → ended ≡ record before { held = (removed (seen_tree carried_in forest before.held) n).documents }
  left_nowhere found = is ∙ left_by None found

  pub left_parent : (parent : ℕ) → container_of (seen_tree carried_in forest before.held) n ≡ Some (InElement parent)
      → ended ≡ record before { held = (removed (seen_tree carried_in forest before.held) n).documents }
  left_parent parent found = is ∙ left_by (Some (InElement parent)) found

  pub left_document : (document : ℕ) → container_of (seen_tree carried_in forest before.held) n ≡ Some (InDocument document)
      → (after : HeldDocuments) → after ≡ changing (λ (it : Document). record it { root = None }) document ended
      → after ≡ record before { held = (removed (seen_tree carried_in forest before.held) n).documents }
  left_document document found after unrooted =
      unrooted ∙ ap (changing (λ (it : Document). record it { root = None }) document) is ∙ left_by (Some (InDocument document)) found

  pub ended_count : length ended.held ≡ length before.held
  ended_count =
      ap (λ (it : HeldDocuments). length it.held) is
      ∙ changes_length (λ (it : Document). record it { state = Dead }) (cond (stands_in_active first n) (documents_inside is_active_state first n) []) before.held

-- no document is made or lost
pub removed_count : (tree : Tree) (n : ℕ) → length (removed tree n).documents ≡ length tree.documents
removed_count tree n =
    ap (λ (it : Tree). length it.documents) (removed_by_parts tree n)
    ∙ unrooted_count (container_of tree n) ((with_state Dead (ends tree n) tree).documents)
    ∙ changes_length (λ (it : Document). record it { state = Dead }) (ends tree n) tree.documents
  where
    unrooted_count : (container : Option Container) (documents : List Document) → length (unrooted container documents) ≡ length documents
    unrooted_count None documents = refl
    unrooted_count (Some (InElement parent)) documents = refl
    unrooted_count (Some (InDocument document)) documents = length-changed (λ (it : Document). record it { root = None }) document documents

pub shown_count : (tree : Tree) (n : ℕ) → length (shown tree n).documents ≡ length tree.documents
unfolding shown
shown_count tree n =
    changes_length (λ (it : Document). record it { state = Active }) (cond (stands_in_active tree n) (documents_inside is_fresh_state tree n) []) tree.documents
