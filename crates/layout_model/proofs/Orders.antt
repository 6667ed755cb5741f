-- Who has a box in a tree stands in its order, where each node is listed by its parent.
use Rattle.std.proofs.Common.{◌≡◌, ◌≤◌, ◌+◌, ℕ, zero, suc, true, Option, Some, None, List, [], ◌∷◌, ◌++◌, length, ◌-◌, ◌⊎◌, inl, inr, refl, sym, subst, eqb-true, arith}
use Rattle.std.proofs.lemmas.List.Elements.{Contains-append_left, Contains-append_right, Contains-append_cases}
use Rattle.std.specs.Prelude.{not, ◌&&◌, ◌==◌, flat_map, Contains}
use Rattle.std.proofs.lemmas.Bool.{and_parts}
use Rattle.layout_model.specs.Nodes.{Node, levels, path_above, path_up, path_of, depth_of, order_down, tree_order, IsShallow, IsListed}
use Rattle.layout_model.specs.Boxes.{has_box_along, has_box_in, is_box_under}
use Rattle.layout_model.specs.Clips.{is_block}
use Rattle.layout_model.proofs.Trees.{contains_next}

module _ (at : ℕ → Node) where
  among_kids : (f : ℕ → List ℕ) (kids : List ℕ) (k c : ℕ) → Contains kids k → Contains (f k) c → Contains (flat_map f kids) c
  among_kids f [] k c kid among = elim no [ ]
    where
      no : ⊥
      no = omega (arith, kid.1)
  among_kids f (x ∷ kids) k c (zero, short, is) among =
      Contains-append_left (f x) (flat_map f kids) c (subst (λ y. Contains (f y) c) (sym is) among)
  among_kids f (x ∷ kids) k c (suc i, short, is) among =
      Contains-append_right (f x) (flat_map f kids) c (among_kids f kids k c (i, omega arith, is) among)

  -- what is in the order of one of the children, where it is among these in another way, is so among all
  mapped : (f g : ℕ → List ℕ) (c d : ℕ) (kids : List ℕ) → ((k : ℕ) → Contains (f k) c → Contains (g k) d) → Contains (flat_map f kids) c → Contains (flat_map g kids) d
  mapped f g c d [] each among = elim no [ ]
    where
      no : ⊥
      no = omega (arith, among.1)
  mapped f g c d (x ∷ kids) each among = pick (mapped f g c d kids each) (Contains-append_cases (f x) (flat_map f kids) c among)
    where
      pick : (Contains (flat_map f kids) c → Contains (flat_map g kids) d) → Contains (f x) c ⊎ Contains (flat_map f kids) c → Contains (g x ++ flat_map g kids) d
      pick rest (inl first) = Contains-append_left (g x) (flat_map g kids) d (each x first)
      pick rest (inr later) = Contains-append_right (g x) (flat_map g kids) d (rest later)

  kid_in_order : (deep n p c : ℕ) → Contains (order_down deep at n) p → Contains ((at p).children) c → Contains (order_down (suc deep) at n) c
  unfolding order_down
  kid_in_order zero n p c (i, short, is) kid = elim no [ ]
    where
      no : ⊥
      no = omega arith
  kid_in_order (suc deep) n p c (zero, short, is) kid =
      contains_next n _ c (among_kids (order_down (suc deep) at) ((at n).children) c c (subst (λ m. Contains ((at m).children) c) (sym is) kid) (0, omega arith, refl))
  kid_in_order (suc deep) n p c (suc i, short, is) kid =
      contains_next n _ c (mapped (order_down deep at) (order_down (suc deep) at) p c ((at n).children) (λ k among. kid_in_order deep k p c among kid) (i, omega arith, is))

  more_in_order : (deep n c : ℕ) → Contains (order_down deep at n) c → Contains (order_down (suc deep) at n) c
  unfolding order_down
  more_in_order zero n c (i, short, is) = elim no [ ]
    where
      no : ⊥
      no = omega arith
  more_in_order (suc deep) n c (zero, short, is) = (0, omega arith, is)
  more_in_order (suc deep) n c (suc i, short, is) =
      contains_next n _ c (mapped (order_down deep at) (order_down (suc deep) at) c c ((at n).children) (λ k among. more_in_order deep k c among) (i, omega arith, is))

  deeper : (more deep whole n c : ℕ) → whole ≡ deep + more → Contains (order_down deep at n) c → Contains (order_down whole at n) c
  deeper zero deep whole n c is among = subst (λ w. Contains (order_down w at n) c) (omega (arith, is)) among
  deeper (suc more) deep whole n c is among = deeper more (suc deep) whole n c (omega (arith, is)) (more_in_order deep n c among)

  module _ (listed : IsListed at) (root : ℕ) where
    cons_of : (high n : ℕ) → (above : List ℕ) × (path_up high at n ≡ n ∷ above)
    unfolding path_up
    cons_of zero n = ([], refl)
    cons_of (suc high) n = (path_above (path_up high at) (at n).parent, refl)

    above_boxed : (n : ℕ) (path : List ℕ) (p : ℕ) (above : List ℕ) → path ≡ p ∷ above → has_box_along at root (n ∷ path) ≡ true → has_box_along at root path ≡ true
    unfolding has_box_along
    above_boxed n path p above is boxed =
        (and_parts (is_block ((at p).item.kind)) (has_box_along at root path)
        ((and_parts (not ((at n).item.style.hidden)) _ (subst (λ up. not ((at n).item.style.hidden) && is_box_under at root n up (has_box_along at root path) ≡ true) is boxed)).1)).1

    alone_boxed : (n : ℕ) → has_box_along at root (n ∷ []) ≡ true → n ≡ root
    unfolding has_box_along
    alone_boxed n boxed = eqb-true n root ((and_parts (not ((at n).item.style.hidden)) (n == root) boxed).1)

    by_parent : (high n : ℕ) (found : Option ℕ) → (at n).parent ≡ found → ((p : ℕ) → length (path_up high at p) ≤ high → has_box_along at root (path_up high at p) ≡ true → Contains (order_down (length (path_up high at p)) at root) p) → length (path_above (path_up high at) found) ≤ high → has_box_along at root (n ∷ path_above (path_up high at) found) ≡ true → Contains (order_down (suc (length (path_above (path_up high at) found))) at root) n
    unfolding order_down
    by_parent high n None is each short boxed = (0, omega arith, sym (alone_boxed n boxed))
    by_parent high n (Some p) is each short boxed = over (cons_of high p)
      where
        over : (above : List ℕ) × (path_up high at p ≡ p ∷ above) → Contains (order_down (suc (length (path_up high at p))) at root) n
        over cons = kid_in_order (length (path_up high at p)) root p n (each p short (above_boxed n (path_up high at p) p (cons.0) (cons.1) boxed)) (listed n p is)

    placed : (high n : ℕ) → length (path_up high at n) ≤ high → has_box_along at root (path_up high at n) ≡ true → Contains (order_down (length (path_up high at n)) at root) n
    unfolding path_up
    placed zero n short boxed = elim no [ ]
      where
        no : ⊥
        no = omega arith
    placed (suc high) n short boxed = by_parent high n ((at n).parent) refl (placed high) (omega arith) boxed

    pub boxed_in_order : IsShallow at → (n : ℕ) → has_box_in at root n ≡ true → Contains (tree_order at root) n
    unfolding has_box_in tree_order path_of depth_of
    boxed_in_order shallow n boxed = enough levels refl
      where
        enough : (most : ℕ) → most ≡ levels → Contains (order_down most at root) n
        enough most is = deeper (most - depth_of at n) (depth_of at n) most root n (omega (arith, shallow n)) (placed levels n (shallow n) boxed)
