-- Boxes that are up to date for the screen that is noted.
use Rattle.std.proofs.Common.{◌≡◌, ◌&&◌, true, List, Option, Some, None, subst}
use Rattle.std.specs.Prelude.{IfSome}
use Rattle.std.specs.Option.{option_eq}
use Rattle.std.specs.Ordering.{int_eq}
use Rattle.std.proofs.lemmas.Bool.{and_parts, false≢true}
use Rattle.std.proofs.lemmas.Bool.Decides.{Decides-int_eq}
use Rattle.kept_layout.specs.declared.slots.Slot.{Slot}
use Rattle.page_model.specs.World.{Tree}
use Rattle.page_boxes.specs.Pages.{seen_screen}
use Rattle.page_boxes.specs.contracts.screens.ScreenPartialEq.TheImpl as screens
use Rattle.page_boxes.specs.declared.screens.Screen.{Screen as ShownScreen}
use Rattle.page_layout.specs.Views.{IsUpToDate}

same_screen : (a b : ShownScreen) → (screens.ghosts).eq a b ≡ true → a ≡ b
same_screen a b same =
    let parts = and_parts (int_eq a.size.width b.size.width && int_eq a.size.height b.size.height) (int_eq (a.ratio.0) (b.ratio.0)) same in
    let sides = and_parts (int_eq a.size.width b.size.width) (int_eq a.size.height b.size.height) parts.0 in
    let width = (Decides-int_eq a.size.width b.size.width).0 sides.0 in
    let height = (Decides-int_eq a.size.height b.size.height).0 sides.1 in
    let ratio = (Decides-int_eq (a.ratio.0) (b.ratio.0)).0 parts.1 in
    λ j. record { size = record { width = width j; height = height j }; ratio = record { 0 = ratio j } }

pub up_to_date : (tree : Tree) (noted : Option ShownScreen) (kept : List Slot) (screen : ShownScreen) → IfSome noted (λ s. IsUpToDate tree (seen_screen s) kept)
    → option_eq (screens.ghosts).eq noted (Some screen) ≡ true → IsUpToDate tree (seen_screen screen) kept
up_to_date tree None kept screen is same = absurd (false≢true same)
up_to_date tree (Some shown) kept screen is same = subst (λ (s : ShownScreen). IsUpToDate tree (seen_screen s) kept) (same_screen shown screen same) is
