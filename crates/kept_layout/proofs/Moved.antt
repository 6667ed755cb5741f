-- At which nodes the calls of a tree change what layout sees.
use Rattle.std.proofs.Common.{◌≡◌, ℕ, zero, suc, List, [], ◌∷◌, ◌++◌, length, Option, Some, None, option_map, true, false, cond, nat_eq, ◌||◌, slice_get, refl, ap, sym, ◌∙◌, inl, inr, arith}
use Rattle.std.proofs.lemmas.Bool.{false≢true, or_parts}
use Rattle.std.proofs.lemmas.Bool.Decides.{nat_tests}
use Rattle.layout_model.specs.Styles.{Style, StaticPosition}
use Rattle.layout_model.specs.Items.{Item, Kind}
use Rattle.layout_model.specs.Nodes.{Node, is_flow, is_in_flow}
use Rattle.layout_model.specs.Boxes.{kids_of, inner_children}
use Rattle.std.specs.Prelude.{is_some}
use Rattle.element_tree.specs.Edits.{change_at, with_parent, with_children, with_payload, without, put_before, lone, removed, removed_from, attached, inserted}
use Rattle.element_tree.specs.Forest.{Knot, IsForest, has, names, parent_of, children_of, parent_in, children_in}
use Rattle.element_tree.proofs.Facts.{child_in_range}
use Rattle.element_tree.proofs.Levels.{some_names, kid_parent}
use Rattle.element_tree.proofs.Nodes.{payload-changed, children-reparented, parent-edited}
use Rattle.block_layout.specs.Trees.{layout_tree, node_in}
use Rattle.block_layout.proofs.Nodes.{parent_is, children_is}
use Rattle.kept_layout.specs.Changes.{IsLike, ChangesOnly}
use Rattle.kept_layout.proofs.Lists.{decide, apart, itself}
use Rattle.kept_layout.proofs.Shapes.{kid_listed}

module _ {P : Type 0} where
  -- a list with an item changed, at another place
  same_apart : (f : Knot P → Knot P) (p : ℕ) (xs : List (Knot P)) (m : ℕ) → nat_eq m p ≡ false → slice_get (change_at f p xs) m ≡ slice_get xs m
  same_apart f p [] m other = refl
  same_apart f zero (x ∷ xs) zero other = absurd (false≢true (sym other ∙ itself 0))
  same_apart f zero (x ∷ xs) (suc m) other = refl
  same_apart f (suc p) (x ∷ xs) zero other = refl
  same_apart f (suc p) (x ∷ xs) (suc m) other = same_apart f p xs m (grind (arith, nat_tests))

  same_below : (x : Knot P) (xs : List (Knot P)) (m : ℕ) → nat_eq m (length xs) ≡ false → slice_get (xs ++ x ∷ []) m ≡ slice_get xs m
  same_below x [] zero other = absurd (false≢true (sym other ∙ itself 0))
  same_below x [] (suc m) other = refl
  same_below x (y ∷ xs) zero other = refl
  same_below x (y ∷ xs) (suc m) other = same_below x xs m (grind (arith, nat_tests))

  abbrev SamePayloads : List (Knot P) → List (Knot P) → Type 0
  SamePayloads old new = (m : ℕ) → option_map (λ (k : Knot P). k.payload) (slice_get new m) ≡ option_map (λ (k : Knot P). k.payload) (slice_get old m)

module _ {P : Type 0} (style : P → Style) (kind : P → Kind) where
  item_in : (old new : Option (Knot P)) → option_map (λ (k : Knot P). k.payload) new ≡ option_map (λ (k : Knot P). k.payload) old → (node_in style kind new).item ≡ (node_in style kind old).item
  item_in None None same = refl
  item_in None (Some b) same = cc
  item_in (Some a) None same = cc
  item_in (Some a) (Some b) same =
      let carried : b.payload ≡ a.payload = cc in
      ap (λ (p : P). let item : Item = record { style = style p; kind = kind p } in item) carried

  item_like : (old new : List (Knot P)) (m : ℕ) → option_map (λ (k : Knot P). k.payload) (slice_get new m) ≡ option_map (λ (k : Knot P). k.payload) (slice_get old m)
      → (layout_tree style kind new m).item ≡ (layout_tree style kind old m).item
  unfolding layout_tree
  item_like old new m same = item_in (slice_get old m) (slice_get new m) same

  flow_like : (old new : List (Knot P)) (c : ℕ) → option_map (λ (k : Knot P). k.payload) (slice_get new c) ≡ option_map (λ (k : Knot P). k.payload) (slice_get old c)
      → parent_of new c ≡ parent_of old c → is_in_flow (layout_tree style kind new c) ≡ is_in_flow (layout_tree style kind old c)
  flow_like old new c payload parent =
      ap (λ o. is_flow (cond (is_some o) ((layout_tree style kind new c).item.style.position) StaticPosition)) (parent_is style kind new c ∙ parent ∙ sym (parent_is style kind old c))
      ∙ ap (λ (i : Item). is_flow (cond (is_some ((layout_tree style kind old c).parent)) (i.style.position) StaticPosition)) (item_like old new c payload)

  like_by : (old new : List (Knot P)) (m : ℕ) → SamePayloads old new → children_of new m ≡ children_of old m
      → ((c : ℕ) → has (kids_of (layout_tree style kind old m)) c ≡ true → parent_of new c ≡ parent_of old c) → IsLike (layout_tree style kind old) (layout_tree style kind new) m
  like_by old new m payloads children parents = record {
    item = item_like old new m (payloads m);
    children = children_is style kind new m ∙ children ∙ sym (children_is style kind old m);
    shown = λ c _. ap (λ (i : Item). i.style.hidden) (item_like old new c (payloads c));
    flow = λ c kid. flow_like old new c (payloads c) (parents c kid);
  }

  -- a node and its children stand as they were
  like_kept : (old new : List (Knot P)) (m : ℕ) → slice_get new m ≡ slice_get old m → ((c : ℕ) → has (kids_of (layout_tree style kind old m)) c ≡ true → slice_get new c ≡ slice_get old c)
      → IsLike (layout_tree style kind old) (layout_tree style kind new) m
  unfolding layout_tree
  like_kept old new m same kids = record {
    item = ap (λ o. (node_in style kind o).item) same;
    children = ap (λ o. (node_in style kind o).children) same;
    shown = λ c kid. ap (λ o. (node_in style kind o).item.style.hidden) (kids c kid);
    flow = λ c kid. ap (λ o. is_in_flow (node_in style kind o)) (kids c kid);
  }

  -- a node that comes to a parent, and has children of other numbers
  attached_like : (nodes : List (Knot P)) (p n : ℕ) (mark : Option ℕ) (m : ℕ) → nat_eq m p ≡ false
      → ((c : ℕ) → has (kids_of (layout_tree style kind nodes m)) c ≡ true → nat_eq c n ≡ false)
      → IsLike (layout_tree style kind nodes) (layout_tree style kind (attached p n mark nodes)) m
  attached_like nodes p n mark m other kids =
      like_by nodes (attached p n mark nodes) m
      (λ k. payload-changed (with_parent (Some p)) (λ _. refl) n (change_at (with_children (put_before mark n)) p nodes) k ∙ payload-changed (with_children (put_before mark n)) (λ _. refl) p nodes k)
      (children-reparented (Some p) n (change_at (with_children (put_before mark n)) p nodes) m ∙ ap children_in (same_apart (with_children (put_before mark n)) p nodes m other))
      (λ c kid. ap parent_in (same_apart (with_parent (Some p)) n (change_at (with_children (put_before mark n)) p nodes) c (kids c kid)) ∙ parent-edited (put_before mark n) p nodes c)

  kids_as : (old new : ℕ → Node) (m : ℕ) → IsLike old new m → kids_of (new m) ≡ kids_of (old m)
  kids_as old new m like = ap (λ (i : Item). inner_children i.kind (new m).children) like.item ∙ ap (inner_children (old m).item.kind) like.children

  like_after : (first second third : ℕ → Node) (m : ℕ) → IsLike first second m → IsLike second third m → kids_of (second m) ≡ kids_of (first m) → IsLike first third m
  like_after first second third m one two kids = record {
    item = two.item ∙ one.item;
    children = two.children ∙ one.children;
    shown = λ c kid. two.shown c (ap (λ xs. has xs c) kids ∙ kid) ∙ one.shown c kid;
    flow = λ c kid. two.flow c (ap (λ xs. has xs c) kids ∙ kid) ∙ one.flow c kid;
  }

  module _ {most : ℕ} {nodes : List (Knot P)} (forest : IsForest most nodes) where
    -- a child's own parent is the one that lists it
    kid_other : (n m c : ℕ) → names (parent_of nodes n) m ≡ false → has (kids_of (layout_tree style kind nodes m)) c ≡ true → nat_eq c n ≡ false
    kid_other n m c other kid =
        elim (decide c n) [
          | inl same ↦ absurd (false≢true (sym other ∙ some_names (parent_of nodes n) m (ap (parent_of nodes) (sym same) ∙ kid_parent forest m c (kid_listed style kind forest m c kid))))
          | inr differs ↦ apart c n differs
        ]

    removed_at : (o : Option ℕ) (n m : ℕ) → names o m ≡ false → ((c : ℕ) → has (kids_of (layout_tree style kind nodes m)) c ≡ true → nat_eq c n ≡ false)
        → IsLike (layout_tree style kind nodes) (layout_tree style kind (removed_from o n nodes)) m
    removed_at None n m other kids = like_by nodes nodes m (λ k. refl) refl (λ c kid. refl)
    removed_at (Some p) n m other kids =
        like_by nodes (removed_from (Some p) n nodes) m
        (λ k. payload-changed (with_parent None) (λ _. refl) n (change_at (with_children (without n)) p nodes) k ∙ payload-changed (with_children (without n)) (λ _. refl) p nodes k)
        (children-reparented None n (change_at (with_children (without n)) p nodes) m ∙ ap children_in (same_apart (with_children (without n)) p nodes m other))
        (λ c kid. ap parent_in (same_apart (with_parent None) n (change_at (with_children (without n)) p nodes) c (kids c kid)) ∙ parent-edited (without n) p nodes c)

    pub removed_only : (n : ℕ) → ChangesOnly (names (parent_of nodes n)) (layout_tree style kind nodes) (layout_tree style kind (removed n nodes))
    removed_only n m other = removed_at (parent_of nodes n) n m other (λ c kid. kid_other n m c other kid)

    pub inserted_only : (p n : ℕ) (mark : Option ℕ) → ChangesOnly (λ m. names (parent_of nodes n) m || nat_eq m p) (layout_tree style kind nodes) (layout_tree style kind (inserted p n mark nodes))
    inserted_only p n mark m other =
        let parts = or_parts (names (parent_of nodes n) m) (nat_eq m p) other in
        let first = removed_only n m parts.0 in
        let kids = kids_as (layout_tree style kind nodes) (layout_tree style kind (removed n nodes)) m first in
        like_after (layout_tree style kind nodes) (layout_tree style kind (removed n nodes)) (layout_tree style kind (inserted p n mark nodes)) m first
        (attached_like (removed n nodes) p n mark m parts.1 (λ c kid. kid_other n m c parts.0 (ap (λ xs. has xs c) (sym kids) ∙ kid)))
        kids

    pub written_only : (n : ℕ) (payload : P) → ChangesOnly (λ m. nat_eq m n || names (parent_of nodes n) m) (layout_tree style kind nodes) (layout_tree style kind (change_at (with_payload payload) n nodes))
    written_only n payload m other =
        let parts = or_parts (nat_eq m n) (names (parent_of nodes n) m) other in
        like_kept nodes (change_at (with_payload payload) n nodes) m (same_apart (with_payload payload) n nodes m parts.0)
        (λ c kid. same_apart (with_payload payload) n nodes c (kid_other n m c parts.1 kid))

    pub added_only : (payload : P) → ChangesOnly (λ m. nat_eq m (length nodes)) (layout_tree style kind nodes) (layout_tree style kind (nodes ++ lone payload ∷ []))
    added_only payload m other =
        like_kept nodes (nodes ++ lone payload ∷ []) m (same_below (lone payload) nodes m other)
        (λ c kid. same_below (lone payload) nodes c (let low = child_in_range forest m c (kid_listed style kind forest m c kid) in apart c (length nodes) (λ same. omega arith)))
