-- The slab stands for one list of nodes.
use Rattle.std.proofs.Common.{◌≡◌, ℕ, zero, suc, ◌+◌, ◌≤◌, ◌<◌, List, [], ◌∷◌, ◌++◌, length, Option, Some, None, option_map, true, false, eqb, refl, sym, ap, subst, ◌∙◌, arith, slice_get, filter_map, append_assoc, add-zero}
use Rattle.std.proofs.lemmas.Bool.{or_parts}
use Rattle.std.proofs.lemmas.Bool.Decides.{nat_tests}
use Rattle.std.proofs.lemmas.Map.Steps.{length-le_from_distinct_below}
use Rattle.std.specs.List.{range_with_len, IsDistinct, AllByRecursion}
use Rattle.slab.specs.Slab.{Slab, get}
use Rattle.element_tree.specs.declared.node.NodeId.{NodeId}
use Rattle.element_tree.specs.declared.node.Links.{Links}
use Rattle.element_tree.specs.declared.node.Entry.{Entry}
use Rattle.element_tree.specs.Forest.{Knot, IsOnce, has, parent_of, children_of, children_under, first_of, next_of, parent_in, children_in}
use Rattle.element_tree.specs.Links.{node_ids, number, links_at, links_in, walk, knot_of, nodes_of, Stands, IsSound}
use Rattle.element_tree.proofs.Lists.{next_here, once_apart, has-append}
use Rattle.element_tree.proofs.Nodes.{parent_within}
use Rattle.element_tree.proofs.Levels.{kid_parent}
use Rattle.element_tree.proofs.Walks.{back_numbers}

all_apart : (x : ℕ) (xs : List ℕ) → has xs x ≡ false → AllByRecursion (λ y. eqb x y ≡ false) xs
all_apart x [] h = tt
all_apart x (y ∷ xs) h = let r = or_parts _ _ h in (r.0, all_apart x xs r.1)

distinct : (xs : List ℕ) → IsOnce xs → IsDistinct eqb xs
unfolding IsDistinct
distinct [] h = tt
distinct (x ∷ xs) h = (all_apart x xs h.0, distinct xs h.1)

-- a list that a function of the place gives
filled : {A : Type 0} (f : ℕ → Option A) (xs : List A) (a : ℕ) → ((i : ℕ) → f (a + i) ≡ slice_get xs i) → filter_map f (range_with_len a (length xs)) ≡ xs
filled f [] a h = refl
filled f (x ∷ xs) a h =
    let here : f a ≡ Some x = rw add-zero at (h 0) in
    let rest : filter_map f (range_with_len (a + 1) (length xs)) ≡ xs
    = filled f xs (a + 1) (λ i. let e : a + 1 + i ≡ a + suc i = omega arith in rw e (h (suc i))) in
    rw (here, rest)

module _ {P : Type 0} {most : ℕ} {slots : Slab (Entry P)} {nodes : List (Knot P)} (stands : Stands most slots nodes) where
  walk_is : (p fuel : ℕ) (front rest : List ℕ) → children_of nodes p ≡ front ++ rest → length rest ≤ fuel → walk fuel slots (node_ids (first_of rest)) ≡ rest
  unfolding walk
  walk_is p zero front [] e h = refl
  walk_is p (suc fuel) front [] e h = refl
  walk_is p zero front (c ∷ rest) e h = absurd (omega arith)
  walk_is p (suc fuel) front (c ∷ rest) e h =
      let listed : has (children_of nodes p) c ≡ true
      = ap (λ ys. has ys c) e ∙ has-append c front (c ∷ rest) ∙ grind (arith, nat_tests) in
      let held : parent_of nodes c ≡ Some p = kid_parent stands.forest p c listed in
      let once : IsOnce (front ++ c ∷ rest) = subst IsOnce e (stands.forest.once p) in
      let apart : has front c ≡ false = once_apart c front (c ∷ rest) once (grind (arith, nat_tests)) in
      let next : (links_at slots c).next ≡ node_ids (first_of rest)
      = (stands.links c).next ∙ ap (λ ys. node_ids (next_of c ys)) (ap (children_under nodes) held ∙ e)
      ∙ ap node_ids (next_here c front rest apart) in
      ap (λ (o : Option NodeId). c ∷ walk fuel slots o) next
      ∙ ap (λ ys. c ∷ ys) (walk_is p fuel (front ++ c ∷ []) rest (e ∙ sym (append_assoc front (c ∷ []) rest)) (omega arith))

  few : (p : ℕ) → length (children_of nodes p) ≤ length nodes
  few p =
      length-le_from_distinct_below (children_of nodes p) (length nodes) (distinct _ (stands.forest.once p))
      (λ q h. parent_within nodes q p (kid_parent stands.forest p q h))

  walk_whole : (p : ℕ) → walk (length nodes) slots (links_at slots p).first ≡ children_of nodes p
  walk_whole p = ap (λ (o : Option NodeId). walk (length nodes) slots o) (stands.links p).first ∙ walk_is p (length nodes) [] (children_of nodes p) refl (few p)

  knot_is : (k : ℕ) → option_map (knot_of (length nodes) slots) (get slots k) ≡ slice_get nodes k
  knot_is k = go (get slots k) (slice_get nodes k) refl refl (stands.payloads k)
    where
      go : (o : Option (Entry P)) (q : Option (Knot P)) → get slots k ≡ o → slice_get nodes k ≡ q
          → option_map (λ (e : Entry P). e.payload) o ≡ option_map (λ (x : Knot P). x.payload) q → option_map (knot_of (length nodes) slots) o ≡ q
      go None None a b e = refl
      go None (Some x) a b e = cc
      go (Some n) None a b e = cc
      go (Some n) (Some x) a b e =
          let same : n.payload ≡ x.payload = cc in
          let links : links_at slots k ≡ n.links = ap links_in a in
          let up : option_map number (n.links.parent) ≡ x.parent
          = ap (λ (l : Links). option_map number (l.parent)) (sym links) ∙ ap (option_map number) (stands.links k).parent
          ∙ back_numbers (parent_of nodes k) ∙ ap parent_in b in
          let down : walk (length nodes) slots (n.links.first) ≡ x.children
          = ap (λ (l : Links). walk (length nodes) slots (l.first)) (sym links) ∙ walk_whole k ∙ ap children_in b in
          let made : P → Option ℕ → List ℕ → Option (Knot P) = λ a b c. Some (record { payload = a; parent = b; children = c }) in
          ap (λ (z : P). made z (option_map number (n.links.parent)) (walk (length nodes) slots (n.links.first))) same
          ∙ ap (λ (z : Option ℕ). made (x.payload) z (walk (length nodes) slots (n.links.first))) up
          ∙ ap (λ (z : List ℕ). made (x.payload) (x.parent) z) down

  pub nodes_are : nodes_of slots (length nodes) ≡ nodes
  unfolding nodes_of
  nodes_are = filled (λ k. option_map (knot_of (length nodes) slots) (get slots k)) nodes 0 (λ i. let e : 0 + i ≡ i = omega arith in rw e (knot_is i))

  pub children_within : (p c : ℕ) → has (children_of nodes p) c ≡ true → p < length nodes
  children_within p c h = go nodes p h
    where
      go : (xs : List (Knot P)) (p : ℕ) → has (children_of xs p) c ≡ true → p < length xs
      go [] p h = cc
      go (x ∷ xs) zero h = omega arith
      go (x ∷ xs) (suc p) h = let r = go xs p h in omega arith

  pub nodes_at : (count : ℕ) → length nodes ≡ count → nodes_of slots count ≡ nodes
  nodes_at count e = ap (λ k. nodes_of slots k) (sym e) ∙ nodes_are

  pub IsSound-from : (count most_nodes : ℕ) → length nodes ≡ count → count ≤ most_nodes → IsSound slots count most_nodes most
  IsSound-from count most_nodes e within =
      let same = sym (nodes_at count e) in
      record {
        stands = subst (Stands most slots) same stands;
        counted = sym (ap length same) ∙ e;
        within = within;
      }
