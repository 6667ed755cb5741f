-- Paths in the trees of a page.
use Rattle.std.proofs.Common.{◌≡◌, ◌<◌, ℕ, zero, suc, List, Bool, true, false, ◌||◌, nat_eq, Option, Some, None, option_map, length, refl, ap, sym, subst, ◌∙◌, inl, inr, arith, eqb-true}
use Rattle.std.specs.Option.{ForSome}
use Rattle.std.proofs.lemmas.Bool.{or_cases, false≢true}
use Rattle.std.proofs.lemmas.Bool.Decides.{nat_tests}
use Rattle.layout_model.specs.Nodes.{Node, path_above, path_up, path_of, is_among, is_in_path}
use Rattle.element_tree.specs.declared.node.NodeId.{NodeId}
use Rattle.element_tree.specs.Links.{number}
use Rattle.page_model.specs.World.{Element, Tree}
use Rattle.page_model.specs.Lookups.{element_at, no_element, is_listed}
use Rattle.page_model.specs.Documents.{nodes_of}
use Rattle.page_documents.specs.Frames.{MakeTrees}
use Rattle.page_documents.proofs.Entries.{known}
use Rattle.page_documents.proofs.Lists.{listed}
use Rattle.page_documents.proofs.Shape.{among_children}

or_true : (b : Bool) → (b || true) ≡ true
or_true true = refl
or_true false = refl

-- a parent is on the path
pub in_parent : (at : ℕ → Node) (n p : ℕ) → (at n).parent ≡ Some p → is_in_path at p n ≡ true
unfolding is_in_path path_of path_up is_among
in_parent at n p up =
    let same : nat_eq p p ≡ true = grind (arith, nat_tests) in
    ap (λ found. nat_eq p n || is_among p (path_above (path_up 65535 at) found)) up
    ∙ ap (λ b. nat_eq p n || (b || is_among p (path_above (path_up 65534 at) ((at p).parent)))) same
    ∙ or_true (nat_eq p n)

module _ (tree : Tree) (trees : MakeTrees tree) where
  parent_made : (n p : ℕ) → (element_at tree n).parent ≡ Some p → p < length tree.elements
  parent_made n p up =
      known no_element (λ (it : Element). is_listed n it.children) true false≢true p (tree.elements)
      (listed n ((element_at tree p).children) (among_children tree trees n p up))

  pub parent_is_made : (n : ℕ) (found : Option NodeId) → option_map number found ≡ (element_at tree n).parent → ForSome found (λ (p : NodeId). p.0 < length tree.elements)
  parent_is_made n found is p some = parent_made n p.0 (sym is ∙ ap (option_map number) some)

  above_within : (path : ℕ → List ℕ) (m : ℕ) (found : Option ℕ) → ((p : ℕ) → found ≡ Some p → is_among m (path p) ≡ true → m < length tree.elements)
      → is_among m (path_above path found) ≡ true → m < length tree.elements
  unfolding is_among
  above_within path m None each inside = absurd (false≢true inside)
  above_within path m (Some p) each inside = each p refl inside

  path_within : (high m n : ℕ) → n < length tree.elements → is_among m (path_up high (nodes_of tree) n) ≡ true → m < length tree.elements
  unfolding path_up is_among
  path_within zero m n made inside =
      elim (or_cases (nat_eq m n) false inside) [
        | inl e ↦ subst (λ k. k < length tree.elements) (sym (eqb-true m n e)) made
        | inr e ↦ absurd (false≢true e)
      ]
  path_within (suc high) m n made inside =
      elim (or_cases (nat_eq m n) (is_among m (path_above (path_up high (nodes_of tree)) (nodes_of tree n).parent)) inside) [
        | inl e ↦ subst (λ k. k < length tree.elements) (sym (eqb-true m n e)) made
        | inr e ↦ above_within (path_up high (nodes_of tree)) m ((nodes_of tree n).parent) (λ p up. path_within high m p (parent_made n p up)) e
      ]

  -- the path of an element that was made goes over elements that were made
  pub path_made : (m n : ℕ) → n < length tree.elements → is_in_path (nodes_of tree) m n ≡ true → m < length tree.elements
  unfolding is_in_path path_of
  path_made m n made inside = path_within 65536 m n made inside
