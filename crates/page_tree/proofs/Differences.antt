-- At which elements writing an element or making one changes what is laid out.
use Rattle.std.proofs.Common.{◌≡◌, ◌≢◌, ℕ, List, [], ◌∷◌, ◌++◌, length, map, true, false, nat_eq, ◌||◌, inl, inr, refl, ap, subst, ◌∙◌}
use Rattle.std.proofs.lemmas.Bool.{or_parts}
use Rattle.layout_model.specs.Items.{Item}
use Rattle.layout_model.specs.Nodes.{is_in_flow}
use Rattle.layout_model.specs.Boxes.{kids_of}
use Rattle.element_tree.specs.Forest.{Forest, has, names}
use Rattle.element_tree.specs.Edits.{lone}
use Rattle.page_model.specs.World.{Element, Document, Tree}
use Rattle.page_model.specs.Lookups.{element_at, no_element, entry_or}
use Rattle.page_model.specs.Documents.{node_of, nodes_of}
use Rattle.page_model.specs.Edits.{change_item}
use Rattle.page_documents.specs.Seen.{element_of, seen_tree}
use Rattle.page_documents.specs.Frames.{AreFramed}
use Rattle.page_documents.proofs.Entries.{unchanged, append_cases}
use Rattle.page_tree.specs.Items.{Described, carried_in}
use Rattle.page_tree.specs.Changes.{is_parent, ChangesAtNext, ChangesAtElement}
use Rattle.page_tree.proofs.Making.{last_seen}
use Rattle.page_tree.proofs.Moves.{differs, kid_differs}

-- where one element alone differs by itself
module _ (old new : Tree) (n : ℕ) (framed : AreFramed old) (others : (m : ℕ) → m ≢ n → element_at new m ≡ element_at old m) where
  kid_same : (m c : ℕ) → is_parent old n m ≡ false → has (kids_of (nodes_of old m)) c ≡ true → element_at new c ≡ element_at old c
  kid_same m c elsewhere kid = others c (kid_differs old framed.trees n m c elsewhere kid)

  changes_there : ChangesAtElement n old new
  changes_there m other =
      let parts = or_parts (nat_eq m n) (is_parent old n m) other in
      let same : element_at new m ≡ element_at old m = others m (differs m n parts.0) in
      record {
        item = ap (λ (it : Element). it.item) same;
        children = ap (λ (it : Element). it.children) same;
        shown = λ c kid. ap (λ (it : Element). it.item.style.hidden) (kid_same m c parts.1 kid);
        flow = λ c kid. ap (λ (it : Element). is_in_flow (node_of it)) (kid_same m c parts.1 kid);
      }

pub written_only : (tree : Tree) → AreFramed tree → (change : Item → Item) (n : ℕ) → ChangesAtElement n tree (change_item change n tree)
written_only tree framed change n =
    changes_there tree (change_item change n tree) n framed
    (λ m other. unchanged no_element (λ (it : Element). record it { item = change (it.item) }) n m (tree.elements) other)

-- one that is made comes last, and nothing had a child there
module _ (tree new : Tree) (framed : AreFramed tree) (it : Element) (made : new.elements ≡ tree.elements ++ it ∷ []) where
  beyond : (elements : List Element) → entry_or no_element elements (length elements) ≡ no_element
  beyond [] = refl
  beyond (element ∷ elements) = beyond elements

  others : (m : ℕ) → m ≢ length tree.elements → element_at new m ≡ element_at tree m
  others m other =
      ap (λ elements. entry_or no_element elements m) made
      ∙ elim (append_cases no_element it m (tree.elements)) [ inl same ↦ same | inr last ↦ absurd (other (last.0)) ]

  pub made_only : ChangesAtNext tree new
  made_only m other =
      changes_there tree new (length tree.elements) framed others m
      (ap (λ b. b || is_parent tree (length tree.elements) m) other ∙ ap (λ (none : Element). names none.parent m) (beyond tree.elements))

pub added_only : (forest later : Forest Described) (documents left : List Document) → AreFramed (seen_tree carried_in forest documents)
    → (payload : Described) → later ≡ record forest { nodes = forest.nodes ++ lone payload ∷ []; ready = later.ready }
    → (old : Tree) → seen_tree carried_in forest documents ≡ old → ChangesAtNext old (seen_tree carried_in later left)
added_only forest later documents left framed payload added old seen =
    subst (λ tree. ChangesAtNext tree (seen_tree carried_in later left)) seen
    (made_only (seen_tree carried_in forest documents) (seen_tree carried_in later left) framed (element_of carried_in (lone payload))
    (ap (λ (it : Forest Described). map (element_of carried_in) it.nodes) added ∙ last_seen forest.nodes payload))
