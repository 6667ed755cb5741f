-- Scroll offsets in force that were found earlier, in a map from the numbers of elements.
use Rattle.std.specs.Prelude.{◌≡◌, ◌≢◌, ◌<◌, ℕ, true, IfSome, is_some}
use Rattle.std.specs.Ordering.{nat_cmp}
use Rattle.std.specs.FinMap.{FinMap, get}
use Rattle.px_units.specs.declared.Point.{Point}
use Rattle.layout_model.specs.Nodes.{Node}
use Rattle.layout_model.specs.Views.{View, inputs_in_view}
use Rattle.layout_model.specs.Reach.{offset_in_force}
use Rattle.page_model.specs.World.{InElement, Scrolls}
use Rattle.page_model.specs.Lookups.{no_extent}
use Rattle.page_model.specs.Scrolls.{position_of}
use Rattle.block_layout.specs.Seen.{as_point}
use Rattle.page_boxes.specs.Ranges.{IsOffset}

abbrev pub AreOffsets : FinMap nat_cmp Point → Type 0
AreOffsets found = (node : ℕ) → IfSome (get found node) IsOffset

-- each offset that was found for an element with a box in a view is the one in force there
abbrev pub AreInForce : (ℕ → Node) → (ℕ → ℕ × ℕ) → View → FinMap nat_cmp Point → Type 0
AreInForce at stored view found =
    (node : ℕ) → IfSome (get found node) (λ offset. is_some (inputs_in_view at view node) ≡ true → offset ≡ as_point (offset_in_force at stored view node))

-- an offset was found for exactly those of so many nodes whose stored position isn't 0; no node has the number 4,294,967,295
pub record AreScrolled (count : ℕ) (scrolls : Scrolls) (found : FinMap nat_cmp Point) : Type 0 where
  pub each : (node : ℕ) → node < count → node < 4294967295 → position_of (InElement node) scrolls ≢ no_extent → is_some (get found node) ≡ true
  pub only : (node : ℕ) → is_some (get found node) ≡ true → (node < count) × (position_of (InElement node) scrolls ≢ no_extent)
