-- What the walks use of a tree.
use Rattle.std.proofs.Common.{◌≡◌, ◌≢◌, ◌+◌, ℕ, List, Option, Some, true, ap, sym, subst, ◌∙◌, arith}
use Rattle.layout_model.specs.Styles.{Style}
use Rattle.layout_model.specs.Items.{Kind, BlockKind, ImageKind, FrameKind}
use Rattle.layout_model.specs.Nodes.{Node, depth_of}
use Rattle.layout_model.specs.Boxes.{kids_of, inner_children}
use Rattle.layout_model.proofs.Paths.{depth_child}
use Rattle.element_tree.specs.declared.node.NodeId.{NodeId}
use Rattle.element_tree.specs.Links.{node_ids}
use Rattle.element_tree.specs.Forest.{Knot, IsForest, IsOnce, has, children_of, children_under, siblings_of, next_of}
use Rattle.element_tree.proofs.Facts.{listed_child}
use Rattle.element_tree.proofs.Levels.{kid_parent}
use Rattle.block_layout.specs.Trees.{layout_tree}
use Rattle.block_layout.proofs.Forests.{shallow}
use Rattle.block_layout.proofs.Nodes.{parent_is, children_is}
use Rattle.block_layout.proofs.Kids.{inner_some}
use Rattle.block_layout.proofs.Reached.{once_kids}

pub record IsShaped (at : ℕ → Node) : Type 0 where
  pub parents : (p c : ℕ) → has (kids_of (at p)) c ≡ true → (at c).parent ≡ Some p
  pub falls : (c p : ℕ) → (at c).parent ≡ Some p → depth_of at c ≡ depth_of at p + 1
  pub once : (p : ℕ) → IsOnce (kids_of (at p))
  pub listed : (c p : ℕ) → (at c).parent ≡ Some p → has (at p).children c ≡ true

pub kid_in : (kind : Kind) (children : List ℕ) (c : ℕ) → has (inner_children kind children) c ≡ true → has children c ≡ true
kid_in BlockKind children c kid = kid
kid_in (ImageKind width height) children c kid = cc
kid_in FrameKind children c kid = cc

module _ {P : Type 0} (style : P → Style) (kind : P → Kind) {most : ℕ} {nodes : List (Knot P)} (forest : IsForest most nodes) where
  pub kid_listed : (p c : ℕ) → has (kids_of (layout_tree style kind nodes p)) c ≡ true → has (children_of nodes p) c ≡ true
  kid_listed p c kid = ap (λ xs. has xs c) (sym (children_is style kind nodes p)) ∙ kid_in ((layout_tree style kind nodes p).item.kind) ((layout_tree style kind nodes p).children) c kid

  pub shaped : IsShaped (layout_tree style kind nodes)
  shaped = record {
    parents = λ p c kid. parent_is style kind nodes c ∙ kid_parent forest p c (kid_listed p c kid);
    falls = λ c p up. depth_child (layout_tree style kind nodes) c p up (shallow style kind forest p);
    once = λ p. once_kids ((layout_tree style kind nodes p).item.kind) ((layout_tree style kind nodes p).children) (subst IsOnce (sym (children_is style kind nodes p)) (forest.once p));
    listed = λ c p up. ap (λ xs. has xs c) (children_is style kind nodes p) ∙ listed_child forest c p (sym (parent_is style kind nodes c) ∙ up);
  }

module _ {P : Type 0} (style : P → Style) (kind : P → Kind) {most : ℕ} {nodes : List (Knot P)} (forest : IsForest most nodes) (n c : ℕ)
    (kid : has (kids_of (layout_tree style kind nodes n)) c ≡ true) where
  kids_same : kids_of (layout_tree style kind nodes n) ≡ children_of nodes n
  kids_same = inner_some ((layout_tree style kind nodes n).item.kind) ((layout_tree style kind nodes n).children) c kid ∙ children_is style kind nodes n

  -- the sibling behind a child is the next of the children
  pub next_kid : (after : Option NodeId) → after ≡ node_ids (next_of c (siblings_of nodes c)) → after ≡ node_ids (next_of c (kids_of (layout_tree style kind nodes n)))
  next_kid after is =
      is ∙ ap (λ o. node_ids (next_of c (children_under nodes o))) (kid_parent forest n c (kid_listed style kind forest n c kid))
      ∙ ap (λ xs. node_ids (next_of c xs)) (sym kids_same)

some_same : (o : Option ℕ) (p q : ℕ) → o ≡ Some p → o ≡ Some q → p ≡ q
some_same o p q first second = cc

module _ (at : ℕ → Node) (shaped : IsShaped at) where
  pub kid_falls : (p c : ℕ) → has (kids_of (at p)) c ≡ true → depth_of at c ≡ depth_of at p + 1
  kid_falls p c kid = shaped.falls c p (shaped.parents p c kid)

  pub kid_differs : (p c : ℕ) → has (kids_of (at p)) c ≡ true → c ≢ p
  kid_differs p c kid same = let e : depth_of at c ≡ depth_of at p = ap (depth_of at) same in let f = kid_falls p c kid in absurd (omega arith)

  pub one_parent : (p q c : ℕ) → has (kids_of (at p)) c ≡ true → has (kids_of (at q)) c ≡ true → q ≡ p
  one_parent p q c kid other = some_same ((at c).parent) q p (shaped.parents q c other) (shaped.parents p c kid)
