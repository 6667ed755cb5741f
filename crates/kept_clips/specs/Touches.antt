-- When spots were last touched. Touches are numbered in order from 1 up to the last number, which all later ones get too.
use Rattle.std.specs.Prelude.{ℕ, suc, ◌<◌, ◌≤◌, ◌-◌, min, Bool, nat_lt, List, ◌++◌, length, replicate, slice_index, slice_set}
use Rattle.element_tree.specs.declared.container.Container.{Container}
use Rattle.element_tree.specs.declared.container.Container.TheVariants.{Element, Document}

-- the number of the latest touch, and of the last touch of each element and of each document's viewport, 0 if there was none
pub record Touched : Type 0 where
  pub count : ℕ
  pub nodes : List ℕ
  pub views : List ℕ

-- 2 ^ 64 - 1
abbrev pub last_number : ℕ
last_number = 18446744073709551615

abbrev pub last_touch : Touched → Container → ℕ
last_touch it (Element node) = slice_index it.nodes node.0
last_touch it (Document document) = slice_index it.views document.0

abbrev pub is_added : Touched → Container → Bool
is_added it (Element node) = nat_lt node.0 (length it.nodes)
is_added it (Document document) = nat_lt document.0 (length it.views)

abbrev pub IsAdded : Touched → Container → Type 0
IsAdded it (Element node) = node.0 < length it.nodes
IsAdded it (Document document) = document.0 < length it.views

abbrev pub up_to : ℕ → List ℕ → List ℕ
up_to number numbers = numbers ++ replicate (suc number - length numbers) 0

-- adds a spot and all spots of its kind with lower numbers; those that exist stay as they are
abbrev pub with_spot : Container → Touched → Touched
with_spot (Element node) it = record it { nodes = up_to (node.0) (it.nodes) }
with_spot (Document document) it = record it { views = up_to document.0 (it.views) }

abbrev pub touched_at : ℕ → Container → Touched → Touched
touched_at number (Element node) it = record it { count = number; nodes = slice_set (it.nodes) (node.0) number }
touched_at number (Document document) it = record it { count = number; views = slice_set (it.views) document.0 number }

-- a spot was touched after all touches counted before; once the count has reached the last number, its last touch is at least
-- that number
abbrev pub IsTouchedSince : Touched → Touched → Container → Type 0
IsTouchedSince before now spot = min (suc before.count) last_number ≤ last_touch now spot

-- the touches after this spot was touched
abbrev pub touched : Container → Touched → Touched
touched spot it = touched_at (min (suc it.count) last_number) spot it
