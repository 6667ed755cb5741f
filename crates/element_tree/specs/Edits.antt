-- Insertion and removal (DOM, 4.2.3 Mutation algorithms).
use Rattle.std.specs.Prelude.{ℕ, zero, suc, ◌==◌, cond, List, [], ◌∷◌, Option, Some, None}
use Rattle.element_tree.specs.Forest.{Knot, Forest, names, parent_of, siblings_of, next_of}

-- a list with a number inserted before the marked one, at the end if none is marked
abbrev pub put_before : Option ℕ → ℕ → List ℕ → List ℕ
put_before mark n [] = n ∷ []
put_before mark n (x ∷ xs) = cond (names mark x) (n ∷ x ∷ xs) (x ∷ put_before mark n xs)

-- the list without the first occurrence of this number
abbrev pub without : ℕ → List ℕ → List ℕ
without n [] = []
without n (x ∷ xs) = cond (n == x) xs (x ∷ without n xs)

-- a list with one of its items changed
abbrev pub change_at : {A : Type 0} → (A → A) → ℕ → List A → List A
change_at f n [] = []
change_at f zero (x ∷ xs) = f x ∷ xs
change_at f (suc n) (x ∷ xs) = x ∷ change_at f n xs

module _ {P : Type 0} where
  abbrev pub with_parent : Option ℕ → Knot P → Knot P
  with_parent parent k = record k { parent = parent }

  abbrev pub with_children : (List ℕ → List ℕ) → Knot P → Knot P
  with_children edit k = record k { children = edit k.children }

  abbrev pub with_payload : P → Knot P → Knot P
  with_payload payload k = record k { payload = payload }

  -- a node when it is added: it has no parent and no children
  abbrev pub lone : P → Knot P
  lone payload = record { payload = payload; parent = None; children = [] }

  abbrev pub removed_from : Option ℕ → ℕ → List (Knot P) → List (Knot P)
  removed_from None n nodes = nodes
  removed_from (Some p) n nodes = change_at (with_parent None) n (change_at (with_children (without n)) p nodes)

  -- remove: the node is removed from its parent's children, with its subtree; nothing changes if it has no parent
  abbrev pub removed : ℕ → List (Knot P) → List (Knot P)
  removed n nodes = removed_from (parent_of nodes n) n nodes

  -- a node that has no parent becomes a child of a parent, before the marked child, or the last one if none is marked
  abbrev pub attached : ℕ → ℕ → Option ℕ → List (Knot P) → List (Knot P)
  attached p n mark nodes = change_at (with_parent (Some p)) n (change_at (with_children (put_before mark n)) p nodes)

  -- insert: the node is removed from its parent, if it has one, and then attached
  abbrev pub inserted : ℕ → ℕ → Option ℕ → List (Knot P) → List (Knot P)
  inserted p n mark nodes = attached p n mark (removed n nodes)

  -- the child before which the node is inserted: the named sibling or, where that is the node itself, its next sibling
  abbrev pub mark_of : ℕ → ℕ → List (Knot P) → Option ℕ
  mark_of n sibling nodes = cond (n == sibling) (next_of n (siblings_of nodes n)) (Some sibling)

  abbrev pub with_nodes : (List (Knot P) → List (Knot P)) → Forest P → Forest P
  with_nodes edit f = record f { nodes = edit f.nodes }
