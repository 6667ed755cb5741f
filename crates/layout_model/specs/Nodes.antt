-- Trees of elements, given as a function from numbers to nodes (DOM, 4.2.1: trees).
use Rattle.std.specs.Prelude.{◌≡◌, ◌≢◌, ◌≤◌, ℕ, zero, suc, Bool, true, false, not, ◌||◌, ◌==◌, cond, is_some, Option, Some, None, List, [], ◌∷◌, find, flat_map, length, Contains, AllPairs}
use Rattle.layout_model.specs.Styles.{first_style, Position, StaticPosition, RelativePosition, AbsolutePosition, FixedPosition}
use Rattle.layout_model.specs.Items.{Item, BlockKind}

pub record Node : Type 0 where
  pub item : Item
  pub parent : Option ℕ
  pub children : List ℕ

-- the node of a number that no element has
abbrev pub missing_node : Node
missing_node = record { item = record { style = record first_style { hidden = true }; kind = BlockKind }; parent = None; children = [] }

-- how many levels below or above a node are visited: more than a tree of the product can have, a bound of this project
abbrev pub levels : ℕ
levels = 65536

abbrev pub path_above : (ℕ → List ℕ) → Option ℕ → List ℕ
path_above path None = []
path_above path (Some parent) = path parent

unfoldable pub path_up : ℕ → (ℕ → Node) → ℕ → List ℕ
path_up zero at n = n ∷ []
path_up (suc high) at n = n ∷ path_above (path_up high at) (at n).parent

-- a node and its ancestors, the top one last
unfoldable pub path_of : (ℕ → Node) → ℕ → List ℕ
unfolding path_up
path_of at n = path_up levels at n

-- the ancestors of a node, the parent first
unfoldable pub ancestors_of : (ℕ → Node) → ℕ → List ℕ
unfolding path_of
ancestors_of at n = path_above (path_of at) (at n).parent

-- the number of elements on the path to the top, the node included (Resize Observer, 3.4: calculate depth for node)
unfoldable pub depth_of : (ℕ → Node) → ℕ → ℕ
unfolding path_of
depth_of at n = length (path_of at n)

unfoldable pub is_among : ℕ → List ℕ → Bool
is_among a [] = false
is_among a (n ∷ ns) = a == n || is_among a ns

-- whether `a` is an inclusive ancestor of `n`
unfoldable pub is_in_path : (ℕ → Node) → ℕ → ℕ → Bool
unfolding path_of is_among
is_in_path at a n = is_among a (path_of at n)

unfoldable pub last_of : ℕ → List ℕ → ℕ
last_of n [] = n
last_of n (m ∷ ms) = last_of m ms

-- the root of the tree that a node is in
unfoldable pub top_of : (ℕ → Node) → ℕ → ℕ
unfolding path_of last_of
top_of at n = last_of n (path_of at n)

-- a node and its descendants in tree order
unfoldable pub order_down : ℕ → (ℕ → Node) → ℕ → List ℕ
order_down zero at n = []
order_down (suc deep) at n = n ∷ flat_map (order_down deep at) (at n).children

unfoldable pub tree_order : (ℕ → Node) → ℕ → List ℕ
unfolding order_down
tree_order at n = order_down levels at n

-- how a node is positioned. That a root element, which has no parent, is always static is this project's own
abbrev pub position_of : Node → Position
position_of node = cond (is_some (node.parent)) (node.item.style.position) StaticPosition

abbrev pub is_static : Position → Bool
is_static StaticPosition = true
is_static RelativePosition = false
is_static AbsolutePosition = false
is_static FixedPosition = false

abbrev pub is_flow : Position → Bool
is_flow StaticPosition = true
is_flow RelativePosition = true
is_flow AbsolutePosition = false
is_flow FixedPosition = false

-- whether a node is positioned, and whether it is in flow (CSS 2.2, 9.3.2 and 9.3)
abbrev pub is_positioned : Node → Bool
is_positioned node = not (is_static (position_of node))

abbrev pub is_in_flow : Node → Bool
is_in_flow node = is_flow (position_of node)

-- what holds a box: the box of an element, the page, which the viewport scrolls, or the screen, which nothing scrolls
pub data Holder : Type 0 where
  HeldByElement : (element : ℕ) → Holder
  HeldByPage : Holder
  HeldByScreen : Holder

abbrev pub held_by : Option ℕ → Holder
held_by None = HeldByPage
held_by (Some element) = HeldByElement element

abbrev pub holder_by : (ℕ → Node) → ℕ → Position → Holder
holder_by at n StaticPosition = held_by ((at n).parent)
holder_by at n RelativePosition = held_by ((at n).parent)
holder_by at n AbsolutePosition = held_by (find (λ a. is_positioned (at a)) (ancestors_of at n))
holder_by at n FixedPosition = HeldByScreen

-- what holds a node's box (CSS 2.2, 10.1: containing block): in flow, the parent's box; for an absolutely positioned node, the box of its
-- nearest positioned ancestor; for a fixed one, the screen; for a root element, and an absolute one without such an ancestor, the page
unfoldable pub holder : (ℕ → Node) → ℕ → Holder
unfolding ancestors_of
holder at n = holder_by at n (position_of (at n))

abbrev pub element_of : Holder → Option ℕ
element_of (HeldByElement element) = Some element
element_of HeldByPage = None
element_of HeldByScreen = None

abbrev pub is_screen : Holder → Bool
is_screen (HeldByElement element) = false
is_screen HeldByPage = false
is_screen HeldByScreen = true

-- the nodes, each with the one whose box holds its own as parent. Inputs, scroll offsets in force and chains of clips follow these
-- parents; display, depths and the flow follow those of the tree itself
abbrev pub held : (ℕ → Node) → ℕ → Node
held at n = record (at n) { parent = element_of (holder at n) }

-- the elements that hold a node's box, the nearest first
unfoldable pub holders_of : (ℕ → Node) → ℕ → List ℕ
unfolding ancestors_of holder
holders_of at n = ancestors_of (held at) n

-- whether the outermost of them, or the node itself if there is none, is held by the screen
unfoldable pub is_on_screen : (ℕ → Node) → ℕ → Bool
unfolding top_of holder
is_on_screen at n = is_screen (holder at (top_of (held at) n))

-- each child has its parent as parent
abbrev pub IsLinked : (ℕ → Node) → Type 0
IsLinked at = (p c : ℕ) → Contains ((at p).children) c → (at c).parent ≡ Some p

-- each node with a parent is among the parent's children
abbrev pub IsListed : (ℕ → Node) → Type 0
IsListed at = (c p : ℕ) → (at c).parent ≡ Some p → Contains ((at p).children) c

-- no tree has more levels than are visited
abbrev pub IsShallow : (ℕ → Node) → Type 0
IsShallow at = (n : ℕ) → depth_of at n ≤ levels

-- no child occurs twice among its parent's children
abbrev pub IsDistinct : (ℕ → Node) → Type 0
IsDistinct at = (p : ℕ) → AllPairs (λ a b. a ≢ b) ((at p).children)
