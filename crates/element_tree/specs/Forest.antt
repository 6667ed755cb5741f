-- Ordered trees as a plain list of nodes (DOM, 1.1 Trees). A node is identified by its place in the list, from 0, which never
-- changes.
use Rattle.std.specs.Prelude.{◌≡◌, ℕ, zero, suc, ◌+◌, ◌≤◌, max, Bool, false, ◌==◌, ◌||◌, cond, List, [], ◌∷◌, Option, Some, None, unwrap_or, slice_get, refl}
use Rattle.std.specs.List.{list_any}
use Rattle.std.specs.Coded.{Coded, code_by, coded×, coded_ℕ, coded_bool, coded_list, coded_option}

-- what a node carries, its parent, and its children in order
pub record Knot (P : Type 0) : Type 0 where
  pub payload : P
  pub parent : Option ℕ
  pub children : List ℕ

abbrev pub knot_code : {P : Type 0} → Coded P → Coded (Knot P)
knot_code {P} code =
    code_by
    (P × (Option ℕ × List ℕ))
    (coded× code (coded× (coded_option coded_ℕ) (coded_list coded_ℕ)))
    (λ k. (k.payload, (k.parent, k.children)))
    (λ p. record { payload = p.0; parent = p.1.0; children = p.1.1 })
    (λ _. refl)

-- `ready` tells whether the room for the next node that is added was already made
pub record Forest (P : Type 0) : Type 0 where
  pub nodes : List (Knot P)
  pub most_nodes : ℕ
  pub most_depth : ℕ
  pub ready : Bool

abbrev pub forest_code : {P : Type 0} → Coded P → Coded (Forest P)
forest_code {P} code =
    code_by
    (List (Knot P) × (ℕ × (ℕ × Bool)))
    (coded× (coded_list (knot_code code)) (coded× coded_ℕ (coded× coded_ℕ coded_bool)))
    (λ f. (f.nodes, (f.most_nodes, (f.most_depth, f.ready))))
    (λ p. record { nodes = p.0; most_nodes = p.1.0; most_depth = p.1.1.0; ready = p.1.1.1 })
    (λ _. refl)

-- whether the number is in the list
abbrev pub has : List ℕ → ℕ → Bool
has xs n = list_any (λ x. n == x) xs

-- whether the option holds this number
abbrev pub names : Option ℕ → ℕ → Bool
names None n = false
names (Some m) n = n == m

-- no number is in the list twice
abbrev pub IsOnce : List ℕ → Type 0
IsOnce [] = Unit {0}
IsOnce (x ∷ xs) = (has xs x ≡ false) × IsOnce xs

abbrev pub first_of : List ℕ → Option ℕ
first_of [] = None
first_of (x ∷ xs) = Some x

abbrev pub last_of : List ℕ → Option ℕ
last_of [] = None
last_of (x ∷ xs) = Some (unwrap_or (last_of xs) x)

-- the part of a list before a number, and the part after it
abbrev pub ahead : ℕ → List ℕ → List ℕ
ahead n [] = []
ahead n (x ∷ xs) = cond (n == x) [] (x ∷ ahead n xs)

abbrev pub behind : ℕ → List ℕ → List ℕ
behind n [] = []
behind n (x ∷ xs) = cond (n == x) xs (behind n xs)

-- the next and the previous sibling of a node in this list of children
abbrev pub next_of : ℕ → List ℕ → Option ℕ
next_of n xs = first_of (behind n xs)

abbrev pub previous_of : ℕ → List ℕ → Option ℕ
previous_of n xs = last_of (ahead n xs)

-- the list from this number on: what a walk along the next siblings that is at this number has yet to visit; empty at the walk's
-- end
abbrev pub rest_from : Option ℕ → List ℕ → List ℕ
rest_from None xs = []
rest_from (Some n) [] = []
rest_from (Some n) (x ∷ xs) = cond (n == x) (x ∷ xs) (rest_from (Some n) xs)

-- more levels than any tree has
abbrev pub most_levels : ℕ
most_levels = 65536

module _ {P : Type 0} where
  abbrev pub parent_in : Option (Knot P) → Option ℕ
  parent_in None = None
  parent_in (Some k) = k.parent

  abbrev pub children_in : Option (Knot P) → List ℕ
  children_in None = []
  children_in (Some k) = k.children

  abbrev pub parent_of : List (Knot P) → ℕ → Option ℕ
  parent_of nodes n = parent_in (slice_get nodes n)

  abbrev pub children_of : List (Knot P) → ℕ → List ℕ
  children_of nodes n = children_in (slice_get nodes n)

  -- the children of the node's parent, including the node itself; none if it has no parent
  abbrev pub children_under : List (Knot P) → Option ℕ → List ℕ
  children_under nodes None = []
  children_under nodes (Some p) = children_of nodes p

  abbrev pub siblings_of : List (Knot P) → ℕ → List ℕ
  siblings_of nodes n = children_under nodes (parent_of nodes n)

abbrev pub above : (ℕ → ℕ) → Option ℕ → ℕ
above up None = 0
above up (Some p) = up p

abbrev pub is_above : (ℕ → Bool) → Option ℕ → Bool
is_above up None = false
is_above up (Some p) = up p

abbrev pub greatest : (ℕ → ℕ) → List ℕ → ℕ
greatest f [] = 0
greatest f (x ∷ xs) = max (f x) (greatest f xs)

-- the number of nodes on the path from the node up to its root, both included, counting at most a given number
unfoldable pub depth_up : ℕ → (ℕ → Option ℕ) → ℕ → ℕ
depth_up zero parent n = 0
depth_up (suc high) parent n = suc (above (depth_up high parent) (parent n))

-- whether the first node is among the first nodes, at most a given number, on the path from the second up to its root, both ends
-- included
unfoldable pub on_path : ℕ → (ℕ → Option ℕ) → ℕ → ℕ → Bool
on_path zero parent a n = false
on_path (suc high) parent a n = (a == n) || is_above (on_path high parent a) (parent n)

-- the number of levels of the tree below the node, including its own, counting at most a given number
unfoldable pub height_down : ℕ → (ℕ → List ℕ) → ℕ → ℕ
height_down zero children n = 0
height_down (suc deep) children n = suc (greatest (height_down deep children) (children n))

module _ {P : Type 0} where
  -- the depth of a node: the number of its inclusive ancestors (Resize Observer, 3.4.1 calculate depth for node)
  unfoldable pub depth : List (Knot P) → ℕ → ℕ
  depth nodes n = depth_up most_levels (parent_of nodes) n

  -- the number of levels of the node's subtree
  unfoldable pub height : List (Knot P) → ℕ → ℕ
  height nodes n = height_down most_levels (children_of nodes) n

  -- the first is an inclusive ancestor of the second (DOM, 1.1)
  unfoldable pub is_ancestor : List (Knot P) → ℕ → ℕ → Bool
  is_ancestor nodes a n = on_path most_levels (parent_of nodes) a n

  -- lists of children and parents agree, no node is listed twice, and each node is one level below its parent, so that no node is
  -- its own ancestor
  pub record IsForest (most_depth : ℕ) (nodes : List (Knot P)) : Type 0 where
    pub listed : (p c : ℕ) → has (children_of nodes p) c ≡ names (parent_of nodes c) p
    pub once : (p : ℕ) → IsOnce (children_of nodes p)
    pub falls : (c p : ℕ) → parent_of nodes c ≡ Some p → depth nodes c ≡ depth nodes p + 1
    pub within : (n : ℕ) → depth nodes n ≤ most_depth
    pub levels : most_depth ≤ most_levels
