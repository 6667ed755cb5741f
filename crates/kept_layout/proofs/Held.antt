-- Sums over the elements that hold a box, one in the other, as a walk from holder to holder takes them.
use Rattle.std.proofs.Common.{◌≡◌, ◌<◌, ℕ, Bool, true, false, List, [], ◌∷◌, length, option_map, ap, sym, ◌∙◌, arith}
use Rattle.layout_model.specs.Nodes.{Node, Holder, HeldByElement, HeldByPage, HeldByScreen, holder, element_of, holders_of, is_screen, is_on_screen, IsShallow}
use Rattle.layout_model.specs.Styles.{Style}
use Rattle.layout_model.specs.Items.{Kind}
use Rattle.layout_model.proofs.Holders.{holders_of_held, holders_of_unheld, on_screen_held, on_screen_unheld}
use Rattle.element_tree.specs.Forest.{Knot, depth}
use Rattle.element_tree.proofs.Depths.{depth_positive}
use Rattle.block_layout.specs.Trees.{layout_tree}
use Rattle.block_layout.proofs.Nodes.{parent_is, children_is, item_is}
use Rattle.positioned_layout.specs.declared.Holder.{Holder as HolderCode}
use Rattle.positioned_layout.specs.declared.Holder.TheVariants as code
use Rattle.positioned_layout.specs.Seen.{IfElement}
use Rattle.positioned_layout.specs.Trees.{AreNodesOf}

pub tree_nodes : {P : Type 0} (style : P → Style) (kind : P → Kind) (nodes : List (Knot P)) → AreNodesOf style nodes (layout_tree style kind nodes)
tree_nodes style kind nodes =
    record {
      parent = λ n. parent_is style kind nodes n;
      children = λ n. children_is style kind nodes n;
      style = λ n knot is. ap (λ item. item.style) (item_is style kind nodes n knot.payload (ap (option_map (λ k. k.payload)) is));
    }

-- the elements from a holder on, and where they end
abbrev pub elements_from : (ℕ → Node) → Holder → List ℕ
elements_from at (HeldByElement element) = element ∷ holders_of at element
elements_from at HeldByPage = []
elements_from at HeldByScreen = []

abbrev pub ends_from : (ℕ → Node) → Holder → Bool
ends_from at (HeldByElement element) = is_on_screen at element
ends_from at HeldByPage = false
ends_from at HeldByScreen = true

-- how many more elements there can be, from a holder on
abbrev pub levels_from : {P : Type 0} → List (Knot P) → HolderCode → ℕ
levels_from nodes (code.Node node) = depth nodes node.0
levels_from nodes code.Page = 0
levels_from nodes code.Screen = 0

module _ (at : ℕ → Node) (shallow : IsShallow at) where
  elements_by : (n : ℕ) (by : Holder) → holder at n ≡ by → holders_of at n ≡ elements_from at by
  elements_by n (HeldByElement element) is = holders_of_held at shallow n element is
  elements_by n HeldByPage is = holders_of_unheld at n (ap element_of is)
  elements_by n HeldByScreen is = holders_of_unheld at n (ap element_of is)

  pub elements_are : (n : ℕ) (by : Holder) → by ≡ holder at n → holders_of at n ≡ elements_from at by
  elements_are n by is = elements_by n by (sym is)

  ends_by : (n : ℕ) (by : Holder) → holder at n ≡ by → is_on_screen at n ≡ ends_from at by
  ends_by n (HeldByElement element) is = on_screen_held at shallow n element is
  ends_by n HeldByPage is = on_screen_unheld at n (ap element_of is) ∙ ap is_screen is
  ends_by n HeldByScreen is = on_screen_unheld at n (ap element_of is) ∙ ap is_screen is

  pub ends_are : (n : ℕ) (by : Holder) → by ≡ holder at n → is_on_screen at n ≡ ends_from at by
  ends_are n by is = ends_by n by (sym is)

pub if_first : (A B : ℕ → Type 0) (by : HolderCode) → IfElement by (λ e. A e × B e) → IfElement by A
if_first A B (code.Node node) both = both.0
if_first A B code.Page both = tt
if_first A B code.Screen both = tt

pub levels_fall : {P : Type 0} (nodes : List (Knot P)) (n : ℕ) (by : HolderCode) → IfElement by (λ e. (e < length nodes) × (depth nodes e < depth nodes n)) → levels_from nodes by < depth nodes n
levels_fall nodes n (code.Node node) above = above.1
levels_fall nodes n code.Page above = let least = depth_positive nodes n in omega (arith, least)
levels_fall nodes n code.Screen above = let least = depth_positive nodes n in omega (arith, least)
