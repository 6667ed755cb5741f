-- The trees of the page are what the laws of layout ask for.
use Rattle.std.proofs.Common.{◌≡◌, ◌≢◌, ℕ, zero, suc, ◌<◌, ◌≤◌, List, [], ◌∷◌, length, true, get_or, sym, subst, ◌∙◌, arith}
use Rattle.std.specs.Prelude.{Contains, AllPairs}
use Rattle.std.proofs.lemmas.Bool.Decides.{nat_tests}
use Rattle.layout_model.specs.Nodes.{Node, IsLinked, IsShallow, IsDistinct}
use Rattle.page_model.specs.World.{Document}
use Rattle.page_model.specs.Documents.{nodes_of}
use Rattle.element_tree.specs.Forest.{Forest, IsForest, IsOnce, has, children_of}
use Rattle.element_tree.proofs.Levels.{kid_parent, low_enough}
use Rattle.page_documents.specs.Seen.{seen_tree}
use Rattle.page_documents.proofs.Seen.{parent_seen, children_seen}
use Rattle.page_tree.specs.Items.{Described, carried_in}
use Rattle.page_tree.specs.Trees.{AreTrees}
use Rattle.page_tree.proofs.Paths.{depth_same}
use Rattle.block_layout.proofs.Forests.{contains_has}

listed_at : (xs : List ℕ) (i d : ℕ) → i < length xs → has xs (get_or xs i d) ≡ true
listed_at [] i d h = absurd (omega arith)
listed_at (x ∷ xs) zero d h = grind (arith, nat_tests)
listed_at (x ∷ xs) (suc i) d h = grind (arith, nat_tests, listed_at xs i d (omega arith))

-- numbers that are listed once are apart
apart : (xs : List ℕ) → IsOnce xs → (i j d : ℕ) → i < j → j < length xs → get_or xs i d ≢ get_or xs j d
apart [] once i j d before inside = absurd (omega arith)
apart (x ∷ xs) once i zero d before inside = absurd (omega arith)
apart (x ∷ xs) once zero (suc j) d before inside = λ same. differs (subst (λ y. has xs y ≡ true) (sym same) (listed_at xs j d (omega arith)))
  where
    differs : has xs x ≡ true → ⊥
    differs h = let no = once.0 in cc
apart (x ∷ xs) once (suc i) (suc j) d before inside = apart xs once.1 i j d (omega arith) (omega arith)

module _ {most : ℕ} (forest : Forest Described) (trees : IsForest most forest.nodes) (documents : List Document) where
  abbrev at : ℕ → Node
  at = nodes_of (seen_tree carried_in forest documents)

  linked : IsLinked at
  linked p c held =
      parent_seen carried_in forest documents c
      ∙ kid_parent trees p c (contains_has (children_of forest.nodes p) c (subst (λ xs. Contains xs c) (children_seen carried_in forest documents p) held))

  shallow : IsShallow at
  shallow n = subst (λ depth. depth ≤ 65536) (sym (depth_same trees at (parent_seen carried_in forest documents) n)) (low_enough trees n)

  distinct : IsDistinct at
  distinct p = subst (AllPairs (λ a b. a ≢ b)) (sym (children_seen carried_in forest documents p)) (apart (children_of forest.nodes p) (trees.once p))

  pub trees_of_page : AreTrees (nodes_of (seen_tree carried_in forest documents))
  trees_of_page = record { linked = linked; shallow = shallow; distinct = distinct }
