-- How far elements are scrolled, where that was found before a reading.
use Rattle.std.proofs.Common.{◌≡◌, ℕ, Option, Some, None, Result, Ok, Err, Bor, sym, subst}
use Rattle.std.specs.Prelude.{IfSome, IfOk, option_copied}
use Rattle.std.specs.Result.{result_ok}
use Rattle.std.specs.FinMap.{FinMap}
use Rattle.std.specs.Ordering.{nat_cmp}
use Rattle.px_units.specs.declared.Point.{Point}
use Rattle.layout_model.specs.Nodes.{Node}
use Rattle.page_model.specs.World.{Scrolls}
use Rattle.page_model.specs.Documents.{nodes_of}
use Rattle.page_model.specs.PageBoxes.{stored_in, view_of}
use Rattle.page_model.specs.Shown.{Shown}
use Rattle.page_boxes.specs.Offsets.{AreOffsets, AreInForce}
use Rattle.page_geometry.specs.Documents.{AreOffsetsIn}

abbrev pub Lent : Type 0
Lent = Option (Bor (FinMap nat_cmp Point))

module _ (it : Shown) (document : ℕ) where
  pub in_range : (found : Lent) → IfSome found (λ map. AreOffsetsIn it document map.now) → IfSome found (λ map. AreOffsets map.now)
  in_range (Some map) all = all.range
  in_range None all = tt

  -- by the elements and positions that are read
  pub in_force : (found : Lent) (own : ℕ) (at : ℕ → Node) (scrolls : Scrolls) → own ≡ document → nodes_of it.tree ≡ at → scrolls ≡ it.scrolls
      → IfSome found (λ map. AreOffsetsIn it document map.now)
      → IfSome found (λ map. AreInForce at (stored_in scrolls) (view_of it.tree it.screen own) map.now)
  in_force (Some map) own at scrolls same nodes positions all =
      subst (λ at. AreInForce at (stored_in scrolls) (view_of it.tree it.screen own) map.now) nodes
      (subst (λ s. AreInForce (nodes_of it.tree) (stored_in s) (view_of it.tree it.screen own) map.now) (sym positions)
      (subst (λ d. AreInForce (nodes_of it.tree) (stored_in it.scrolls) (view_of it.tree it.screen d) map.now) (sym same) all.value))
  in_force None own at scrolls same nodes positions all = tt

  -- of each document, and so of one
  pub lent : (found : Lent) (held : Option (FinMap nat_cmp Point)) → option_copied found ≡ held → IfSome held (λ map. (each : ℕ) → AreOffsetsIn it each map)
      → IfSome found (λ map. AreOffsetsIn it document map.now)
  lent (Some map) held is all = subst (λ (o : Option (FinMap nat_cmp Point)). IfSome o (λ map. (each : ℕ) → AreOffsetsIn it each map)) (sym is) all document
  lent None held is all = tt

-- of each document, once they are found
pub all_found : {E : Type 0} (it : Shown) (found : Result (FinMap nat_cmp Point) E) (held : Option (FinMap nat_cmp Point)) → held ≡ result_ok found
    → ((each : ℕ) → IfOk found (λ map. AreInForce (nodes_of it.tree) (stored_in it.scrolls) (view_of it.tree it.screen each) map))
    → IfOk found (λ map. AreOffsets map) → IfSome held (λ map. (each : ℕ) → AreOffsetsIn it each map)
all_found it (Ok map) held is forced ranged =
    subst (λ (o : Option (FinMap nat_cmp Point)). IfSome o (λ map. (each : ℕ) → AreOffsetsIn it each map)) (sym is)
    (λ each. record { value = forced each; range = ranged })
all_found it (Err fault) held is forced ranged =
    subst (λ (o : Option (FinMap nat_cmp Point)). IfSome o (λ map. (each : ℕ) → AreOffsetsIn it each map)) (sym is) tt
