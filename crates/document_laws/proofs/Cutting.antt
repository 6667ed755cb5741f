-- As many levels suffice as a tree has.
use Rattle.std.proofs.Common.{◌≡◌, ◌<◌, ◌≤◌, ◌+◌, ℕ, zero, suc, Bool, true, false, List, [], ◌∷◌, Option, Some, None, refl, ap, sym, ◌∙◌, arith}
use Rattle.std.specs.Prelude.{fold, max}
use Rattle.px_units.specs.Lengths.{cap}
use Rattle.layout_model.specs.Nodes.{Node, path_above, path_up, path_of, depth_of, order_down as nodes_down, tree_order, held, IsShallow}
use Rattle.layout_model.specs.Items.{Kind, BlockKind, ImageKind, FrameKind}
use Rattle.layout_model.specs.Boxes.{Inputs, Box, computed, child_inputs, inner_children, kids_of, shown_height, is_passed, counted, total, box_at, box_down, box_in, inputs_up, inputs_at}
use Rattle.layout_model.specs.Views.{View}
use Rattle.layout_model.specs.FlatPlaces.{flat_up, flat_place}
use Rattle.layout_model.proofs.Paths.{depth_child, depth_least}
use Rattle.layout_model.proofs.Holders.{held_depth, held_shallow}
use Rattle.layout_model.proofs.Inputs.{inputs_enough}
use Rattle.layout_model.proofs.FlatPlaces.{flat_enough}
use Rattle.page_model.specs.World.{Tree}
use Rattle.page_model.specs.Lookups.{element_at}
use Rattle.page_model.specs.Documents.{nodes_of, element_depth, order_down, inclusive_descendants, levels_down, levels_of}
use Rattle.page_documents.proofs.Lists.{Among, listed, number_is}
use Rattle.page_documents.proofs.Shape.{depth, deeper}
use Rattle.document_laws.specs.Levels.{MakeLowTrees, IsWithinLevels}
use Rattle.document_laws.proofs.Lists.{flat_same, map_same, sum_same}

pub low_trees : (tree : Tree) → IsWithinLevels tree → MakeLowTrees tree
low_trees tree levels = record { trees = levels.framed.trees; low = levels.low }

-- paths ---------------------------------------------------------------------------------------------------------------------------------

module _ (at : ℕ → Node) (shallow : IsShallow at) where
  path_alone : (high n : ℕ) → (at n).parent ≡ None → path_up high at n ≡ n ∷ []
  unfolding path_up
  path_alone zero n up = refl
  path_alone (suc high) n up = ap (λ found. n ∷ path_above (path_up high at) found) up

  path_more : (high n p : ℕ) → (at n).parent ≡ Some p → path_up (suc high) at n ≡ n ∷ path_up high at p
  unfolding path_up
  path_more high n p up = ap (λ found. n ∷ path_above (path_up high at) found) up

  one_less : (n p : ℕ) → (at n).parent ≡ Some p → depth_of at n ≡ depth_of at p + 1
  one_less n p up = depth_child at n p up (shallow p)

  -- a node on the first level has no parent
  alone : (n : ℕ) → depth_of at n ≤ suc zero → (found : Option ℕ) → (at n).parent ≡ found → (at n).parent ≡ None
  alone n few None up = up
  alone n few (Some p) up = absurd (omega (arith, one_less n p up, depth_least at p, few))

  path_step : (few more n : ℕ) →
      ((p : ℕ) → depth_of at p ≤ suc few → depth_of at p ≤ suc more → path_up few at p ≡ path_up more at p) → (found : Option ℕ) → (at n).parent ≡ found →
      depth_of at n ≤ suc (suc few) → depth_of at n ≤ suc (suc more) → path_up (suc few) at n ≡ path_up (suc more) at n
  path_step few more n each None up enough enough' = path_alone (suc few) n up ∙ sym (path_alone (suc more) n up)
  path_step few more n each (Some p) up enough enough' =
      path_more few n p up
      ∙ ap (λ path. n ∷ path) (each p (omega (arith, one_less n p up, enough))
      (omega (arith, one_less n p up, enough')))
      ∙ sym (path_more more n p up)

  same_paths : (few more n : ℕ) → depth_of at n ≤ suc few → depth_of at n ≤ suc more → path_up few at n ≡ path_up more at n
  same_paths zero more n enough enough' =
      let top = alone n enough ((at n).parent) refl in path_alone zero n top ∙ sym (path_alone more n top)
  same_paths (suc few) zero n enough enough' =
      let top = alone n enough' ((at n).parent) refl in path_alone (suc few) n top ∙ sym (path_alone zero n top)
  same_paths (suc few) (suc more) n enough enough' =
      path_step few more n (λ p less less'. same_paths few more p less less') ((at n).parent) refl enough enough'

  whole_path : (most n : ℕ) → depth_of at n ≤ 256 → 256 ≤ most → path_up most at n ≡ path_of at n
  unfolding path_of
  whole_path most n low enough = same_paths most 65536 n (omega (arith, low, enough)) (omega (arith, low))

module _ (tree : Tree) (is : MakeLowTrees tree) where
  abbrev at : ℕ → Node
  at = nodes_of tree

  low : (n : ℕ) → depth tree n ≤ 256
  unfolding element_depth
  low n = is.low n

  least : (n : ℕ) → 1 ≤ depth tree n
  least n = depth_least at n

  child_deep : (n c : ℕ) → Among c (element_at tree n).children → depth tree c ≡ depth tree n + 1
  child_deep n c among =
      deeper tree is.trees c n (number_is ((element_at tree c).parent) n (sym (is.trees.children n c) ∙ listed c ((element_at tree n).children) among))

  -- upwards -------------------------------------------------------------------------------------------------------------------------------

  pub paths_whole : (most n : ℕ) → 256 ≤ most → path_up most at n ≡ path_of at n
  paths_whole most n enough = whole_path at is.trees.shallow most n (low n) enough

  pub holders_whole : (most n : ℕ) → 256 ≤ most → path_up most (held at) n ≡ path_of (held at) n
  holders_whole most n enough =
      whole_path (held at) (held_shallow at is.trees.shallow) most n
      (omega (arith, held_depth at is.trees.shallow n, low n)) enough

  pub inputs_whole : (most : ℕ) (viewport : Inputs) (n : ℕ) → 256 ≤ most → inputs_up most at viewport n ≡ inputs_at at viewport n
  inputs_whole most viewport n enough = inputs_enough at is.trees.shallow viewport most n (omega (arith, low n, enough))

  pub places_whole : (most : ℕ) (view : View) (n : ℕ) → 256 ≤ most → flat_up most at view n ≡ flat_place at view n
  places_whole most view n enough = flat_enough at is.trees.shallow view most n (omega (arith, low n, enough))

  -- descendants -----------------------------------------------------------------------------------------------------------------------------

  same_orders : (few more n : ℕ) → 256 < depth tree n + few → 256 < depth tree n + more → order_down few tree n ≡ order_down more tree n
  unfolding order_down
  same_orders zero more n enough enough' = absurd (omega (arith, low n, enough))
  same_orders (suc few) zero n enough enough' = absurd (omega (arith, low n, enough'))
  same_orders (suc few) (suc more) n enough enough' =
      ap (λ order. n ∷ order) (flat_same (order_down few tree) (order_down more tree) ((element_at tree n).children) (λ c among.
      same_orders few more c (omega (arith, child_deep n c among, enough))
      (omega (arith, child_deep n c among, enough'))))

  pub orders_whole : (most n : ℕ) → 256 ≤ most → order_down most tree n ≡ inclusive_descendants tree n
  unfolding inclusive_descendants
  orders_whole most n enough = same_orders most 65536 n (omega (arith, least n, enough)) (omega (arith, least n))

  -- the same for the elements as layout sees them
  orders_alike : (deep n : ℕ) → nodes_down deep at n ≡ order_down deep tree n
  unfolding nodes_down order_down
  orders_alike zero n = refl
  orders_alike (suc deep) n =
      ap (λ order. n ∷ order) (flat_same (nodes_down deep at) (order_down deep tree) ((element_at tree n).children) (λ c among. orders_alike deep c))

  pub trees_whole : (most n : ℕ) → 256 ≤ most → nodes_down most at n ≡ tree_order at n
  unfolding tree_order inclusive_descendants
  trees_whole most n enough = orders_alike most n ∙ orders_whole most n enough ∙ sym (orders_alike 65536 n)

  same_heights : (few more n : ℕ) → 256 < depth tree n + few → 256 < depth tree n + more → levels_down few tree n ≡ levels_down more tree n
  unfolding levels_down
  same_heights zero more n enough enough' = absurd (omega (arith, low n, enough))
  same_heights (suc few) zero n enough enough' = absurd (omega (arith, low n, enough'))
  same_heights (suc few) (suc more) n enough enough' =
      ap (λ (heights : List ℕ). suc (fold max 0 heights)) (map_same (levels_down few tree) (levels_down more tree) ((element_at tree n).children) (λ c among.
      same_heights few more c (omega (arith, child_deep n c among, enough))
      (omega (arith, child_deep n c among, enough'))))

  pub heights_whole : (most n : ℕ) → 256 ≤ most → levels_down most tree n ≡ levels_of tree n
  unfolding levels_of
  heights_whole most n enough = same_heights most 65536 n (omega (arith, least n, enough)) (omega (arith, least n))

  -- boxes -----------------------------------------------------------------------------------------------------------------------------------

  among_kids : (kind : Kind) (c : ℕ) (children : List ℕ) → Among c (inner_children kind children) → Among c children
  among_kids BlockKind c children among = among
  among_kids (ImageKind width height) c children among = absurd among
  among_kids FrameKind c children among = absurd among

  shown_same : (box other : ℕ → Box) (c : ℕ) (hidden : Bool) → box c ≡ other c → shown_height box c hidden ≡ shown_height other c hidden
  shown_same box other c true same = refl
  shown_same box other c false same = ap (λ (it : Box). shown_height (λ (n : ℕ). it) c false) same

  counted_same : (box other : ℕ → Box) (c : ℕ) → box c ≡ other c → counted at box c ≡ counted at other c
  unfolding counted
  counted_same box other c same = shown_same box other c (is_passed (at c)) same

  total_same : (box other : ℕ → Box) (xs : List ℕ) → ((c : ℕ) → Among c xs → box c ≡ other c) → total at box xs ≡ total at other xs
  unfolding total
  total_same box other xs each = ap cap (sum_same (counted at box) (counted at other) xs (λ c among. counted_same box other c (each c among)))

  same_boxes : (few more : ℕ) (inputs : Inputs) (n : ℕ) → 256 < depth tree n + few → 256 < depth tree n + more →
      box_down few at inputs n ≡ box_down more at inputs n
  unfolding box_down box_at
  same_boxes zero more inputs n enough enough' = absurd (omega (arith, low n, enough))
  same_boxes (suc few) zero inputs n enough enough' = absurd (omega (arith, low n, enough'))
  same_boxes (suc few) (suc more) inputs n enough enough' =
      let within : Inputs = child_inputs ((at n).item) inputs in
      ap (λ height. computed ((at n).item) inputs height) (total_same (box_down few at within) (box_down more at within) (kids_of (at n)) (λ c among.
      let deep : depth tree c ≡ depth tree n + 1 = child_deep n c (among_kids ((at n).item.kind) c ((at n).children) among) in
      same_boxes few more within c (omega (arith, deep, enough)) (omega (arith, deep, enough'))))

  pub boxes_whole : (most : ℕ) (inputs : Inputs) (n : ℕ) → 256 ≤ most → box_down most at inputs n ≡ box_in at inputs n
  unfolding box_in
  boxes_whole most inputs n enough = same_boxes most 65536 inputs n (omega (arith, least n, enough)) (omega (arith, least n))
