-- Boxes that were computed, where a page's elements stay as they are.
use Rattle.std.proofs.Common.{◌≡◌, ◌+◌, ℕ, List, Option, Some, None, option_map, refl, subst, sym, ap, ◌∙◌}
use Rattle.std.specs.Prelude.{Bool, true, false, option_and_then, unwrap_or}
use Rattle.script_model.specs.Syntax.{Operand}
use Rattle.page_model.specs.World.{Screen, Container, Tree, World, InElement, InDocument}
use Rattle.page_model.specs.Lookups.{element_at}
use Rattle.page_model.specs.Documents.{is_root_element, document_of_container}
use Rattle.page_model.specs.PageBoxes.{is_scroller}
use Rattle.page_model.specs.Scrolling.{scrolled_element, scrolled_thing}
use Rattle.page_model.specs.Operands.{Present, container_meant}
use Rattle.page_model.specs.Steps.{Step, Did}
use Rattle.kept_layout.specs.declared.slots.Slot.{Slot}
use Rattle.page_boxes.specs.Around.{LeavesOthers}
use Rattle.page_boxes.specs.Fresh.{IsFresh}
use Rattle.page_boxes.specs.Kept.{FillsOnly, LeavesUnboxed, due_count}
use Rattle.page_boxes.specs.Pages.{seen_screen}
use Rattle.page_layout.specs.Views.{LaidElements}
use Rattle.page_state.specs.Boxes.{Computes, ComputesIn, found, document_meant}
use Rattle.page_state.specs.Views.{PageView}
use Rattle.page_state.specs.Worlds.{world_of, view_of}
use Rattle.page_state.specs.declared.page.Page.TheInside.{Inside}

-- what is fresh is so through the tree and the boxes that are handed out
pub fresh_in : {tree handed : Tree} {screen : Screen} {kept boxes : List Slot} → IsFresh tree screen kept → handed ≡ tree → boxes ≡ kept → IsFresh handed screen boxes
fresh_in {handed} {screen} {kept} fresh same held =
    subst (λ (slots : List Slot). IsFresh handed screen slots) (sym held) (subst (λ (tree : Tree). IsFresh tree screen kept) (sym same) fresh)

module _ (page : Inside) (after : LaidElements) (same : after.elements ≡ page.laid.elements) where
  pub view_refreshed : (now : PageView) → view_of page ≡ now
      → view_of (record page { laid = after }) ≡ record now { kept = after.kept }
  view_refreshed now view_is =
      (λ i. record (view_of page) { world = record (world_of page) { tree = (same i).tree }; kept = after.kept }) ∙ ap (λ (v : PageView). record v { kept = after.kept }) view_is

  -- what the computation leaves, seen from outside
  pub computed : (now : PageView) → view_of page ≡ now → FillsOnly page.laid.kept after.kept → LeavesUnboxed page.laid.elements.tree (seen_screen page.screen) page.laid.kept after.kept → (from to : ℕ)
      → to + due_count page.laid.elements.tree (seen_screen page.screen) after.kept ≡ from + due_count page.laid.elements.tree (seen_screen page.screen) page.laid.kept
      → Computes now.world now.kept after.kept from to
  computed now view_is fills unboxed from to ticks = subst (λ (v : PageView). Computes v.world v.kept after.kept from to) view_is (record { fills = fills; unboxed = unboxed; ticks = ticks })

  -- the same of a computation in a document, found by the tree, and in those around it
  pub computed_in : (now : PageView) → view_of page ≡ now → FillsOnly page.laid.kept after.kept → LeavesUnboxed page.laid.elements.tree (seen_screen page.screen) page.laid.kept after.kept → (from to : ℕ)
      → to + due_count page.laid.elements.tree (seen_screen page.screen) after.kept ≡ from + due_count page.laid.elements.tree (seen_screen page.screen) page.laid.kept
      → (document : Tree → Option ℕ) → LeavesOthers page.laid.elements.tree (document (page.laid.elements.tree)) page.laid.kept after.kept
      → ComputesIn now.world (document (now.world.tree)) now.kept after.kept from to
  computed_in now view_is fills unboxed from to ticks document others =
      subst (λ (v : PageView). ComputesIn v.world (document (v.world.tree)) v.kept after.kept from to) view_is
      (record { computes = record { fills = fills; unboxed = unboxed; ticks = ticks }; others = others })

leaves_all : (tree : Tree) (document : Option ℕ) (slots : List Slot) → LeavesOthers tree document slots slots
leaves_all tree None slots = λ n. refl
leaves_all tree (Some document) slots = λ n other. refl

-- what is kept stays as it was
pub computes_nothing : (world : World) (document : Option ℕ) (slots : List Slot) (steps : ℕ) → ComputesIn world document slots slots steps steps
computes_nothing world document slots steps = record {
  computes = record { fills = record { marks = λ n is. is; found = λ n is. is }; unboxed = λ n none. refl; ticks = refl };
  others = leaves_all (world.tree) document slots;
}

thing_in : (tree : Tree) (screen : Screen) (container : Container)
    → unwrap_or (option_map (document_of_container tree) (scrolled_thing tree screen container)) (document_of_container tree container) ≡ document_of_container tree container
thing_in tree screen (InDocument document) = refl
thing_in tree screen (InElement n) = by (is_root_element tree n) (is_scroller tree screen n)
  where
    by : (root scroller : Bool) → unwrap_or (option_map (document_of_container tree) (scrolled_element n (element_at tree n).document root scroller)) (element_at tree n).document ≡ (element_at tree n).document
    by true scroller = refl
    by false true = refl
    by false false = refl

module _ (world : World) (old new : List Slot) (from to : ℕ) where
  -- the document is that of what was found
  pub computes_found : {A : Type 0} (step : Step A) (value : A) (document : A → Option ℕ) → step ≡ Did value → ComputesIn world (document value) old new from to
      → ComputesIn world (option_and_then document (found step)) old new from to
  computes_found {A} step value document is computes =
      subst (λ (it : Step A). ComputesIn world (option_and_then document (found it)) old new from to) (sym is) computes

  pub computes_meant : (present : Present) (operand : Operand) (container : Container) → container_meant world.names present operand ≡ Did container
      → ComputesIn world (Some (document_of_container (world.tree) container)) old new from to → ComputesIn world (document_meant world present operand) old new from to
  computes_meant present operand container is computes =
      subst (λ (it : Step Container). ComputesIn world (option_map (document_of_container (world.tree)) (found it)) old new from to) (sym is) computes

  -- what an operand's scrolling moves is in the operand's document
  pub computes_scrolled : (present : Present) (operand : Operand) (container : Container) → container_meant world.names present operand ≡ Did container
      → (target : Container) → scrolled_thing world.tree world.viewports.screen container ≡ Some target
      → ComputesIn world (Some (document_of_container (world.tree) target)) old new from to → ComputesIn world (document_meant world present operand) old new from to
  computes_scrolled present operand container is target thing computes =
      computes_meant present operand container is
      (subst (λ (document : ℕ). ComputesIn world (Some document) old new from to)
      (ap (λ (it : Option Container). unwrap_or (option_map (document_of_container (world.tree)) it) (document_of_container (world.tree) container)) (sym thing)
      ∙ thing_in (world.tree) (world.viewports.screen) container)
      computes)
