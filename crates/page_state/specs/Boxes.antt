-- How commands change the boxes that a page keeps. That boxes are kept, and when they are computed, is this project's own.
use Rattle.std.specs.Prelude.{◌≡◌, ◌≤◌, ℕ, ◌+◌, Bool, ◌||◌, List, Option, Some, None, option_map, option_and_then, Result, OnOk, OnErr}
use Rattle.script_model.specs.Syntax.{Operand, Test, Wider, Taller, Matches, Attached, Seen, Action, SetRatio, MakeBlock, MakeImage, MakeFrame, Append, Before, Remove, SetStyle, Grow, Load, MakeQueryList, ScrollTo, ScrollBy, Read}
use Rattle.page_model.specs.World.{Tree, World, Container, InElement, InDocument}
use Rattle.page_model.specs.Lookups.{query_list_at}
use Rattle.page_model.specs.Documents.{nodes_of, document_of_container}
use Rattle.page_model.specs.Operands.{Present, document_named, query_list_named, element_meant, container_meant}
use Rattle.page_model.specs.Steps.{Step, Did, Threw, Met}
use Rattle.kept_layout.specs.declared.slots.Slot.{Slot}
use Rattle.page_boxes.specs.Around.{rests_on, LeavesOthers}
use Rattle.page_boxes.specs.Kept.{FillsOnly, LeavesUnboxed, is_due, due_count as due_count_in}
use Rattle.page_layout.specs.Marks.{element_of, is_over, MarksOnly, MarksNone}
use Rattle.page_state.specs.declared.answers.Effect.{Effect}
use Rattle.page_state.specs.declared.answers.PageFault.{PageFault}

-- the number of boxes that are due in a world
abbrev pub due_count : World → List Slot → ℕ
due_count world kept = due_count_in world.tree world.viewports.screen kept

-- boxes are computed; the steps that this takes are the decrease in the number of due boxes. No mark is set, no box is dropped, and
-- nothing changes for an element without a box
pub record Computes (world : World) (old new : List Slot) (from to : ℕ) : Type 0 where
  pub fills : FillsOnly old new
  pub unboxed : LeavesUnboxed world.tree world.viewports.screen old new
  pub ticks : to + due_count world new ≡ from + due_count world old

-- the same for boxes of the given document and of the documents around it only, or for no box if no document is given
pub record ComputesIn (world : World) (document : Option ℕ) (old new : List Slot) (from to : ℕ) : Type 0 where
  pub computes : Computes world old new from to
  pub others : LeavesOthers world.tree document old new

-- a command that succeeds marks these elements and changes nothing else; one that is refused changes nothing
pub record Marks (marked : ℕ → Bool) (result : Result Effect PageFault) (old new : List Slot) : Type 0 where
  pub done : OnOk result (MarksOnly marked old new)
  pub refused : OnErr result (new ≡ old)

-- an element that was just made has no box: nothing that is kept changes, the same boxes are due in the tree afterwards as were
-- before, and there are no more of them
pub record LeavesDue (world : World) (after : Tree) (old new : List Slot) : Type 0 where
  pub marks : MarksNone old new
  pub due : (n : ℕ) → is_due after world.viewports.screen new n ≡ is_due world.tree world.viewports.screen old n
  pub count : due_count_in after world.viewports.screen new ≤ due_count world old

-- with another device pixel ratio the same boxes are due as before
abbrev pub StaysDue : (hundredths : ℕ) → (world : World) → (old new : List Slot) → Type 0
StaysDue hundredths world old new =
    (n : ℕ) → is_due world.tree (record (world.viewports.screen) { ratio = hundredths }) new n ≡ is_due world.tree (world.viewports.screen) old n

abbrev pub found : {A : Type 0} → Step A → Option A
found (Did value) = Some value
found (Threw kind) = None
found (Met kind) = None

-- the element that an operand refers to, if any
abbrev pub meant : World → Present → Operand → Option ℕ
meant world present operand = found (element_meant world.names present operand)

-- the document that an operand refers to, or that of the element that it refers to, if any
abbrev pub document_meant : World → Present → Operand → Option ℕ
document_meant world present operand = option_map (document_of_container world.tree) (found (container_meant world.names present operand))

-- the document on whose boxes the viewport size of a named document depends, if any
abbrev pub viewport_rests_on : World → List ℕ → Option ℕ
viewport_rests_on world name = option_and_then (λ document. rests_on world.tree (InDocument document)) (found (document_named world.names name))

-- the document on whose boxes the answer to a condition depends, if any
abbrev pub answer_rests_on : World → Present → Test → Option ℕ
answer_rests_on world present (Wider node _) = option_and_then (λ n. rests_on world.tree (InElement n)) (meant world present node)
answer_rests_on world present (Taller node _) = option_and_then (λ n. rests_on world.tree (InElement n)) (meant world present node)
answer_rests_on world present (Matches query) =
    option_and_then (λ list. rests_on world.tree (InDocument (query_list_at world.queries list).document)) (found (query_list_named world.names query))
answer_rests_on world present (Attached _) = None
answer_rests_on world present Seen = None

abbrev pub inside : Option Container → Option ℕ
inside None = None
inside (Some container) = element_of container

abbrev pub parent : Tree → Option ℕ → Option ℕ
parent tree None = None
parent tree (Some n) = (nodes_of tree n).parent

-- when an element moves, its old parent and its new one are marked, with their ancestors
abbrev pub is_moved : Tree → Tree → Option ℕ → Option ℕ → ℕ → Bool
is_moved before after node to m = is_over after (parent before node) m || is_over after to m

abbrev pub Still : List Slot → List Slot → ℕ → ℕ → Type 0
Still old new from to = (new ≡ old) × (to ≡ from)

-- what each command may do to the boxes, and in how many steps; `after` is the tree of the world afterwards
abbrev pub BoxesAfter : Present → Action → Result Effect PageFault → World → Tree → List Slot → List Slot → ℕ → ℕ → Type 0
BoxesAfter _ (SetRatio hundredths) _ world _ old new from to = Still old new from to × StaysDue hundredths world old new
BoxesAfter _ (MakeBlock _ _) _ world after old new from to = LeavesDue world after old new × (to ≡ from)
BoxesAfter _ (MakeImage _ _ _ _) _ world after old new from to = LeavesDue world after old new × (to ≡ from)
BoxesAfter _ (MakeFrame _ _ _) _ world after old new from to = LeavesDue world after old new × (to ≡ from)
BoxesAfter present (Append to_parent node) result world after old new from to =
    Marks (is_moved world.tree after (meant world present node) (inside (found (container_meant world.names present to_parent)))) result old new
    × (to ≡ from)
BoxesAfter present (Before to_parent node _) result world after old new from to =
    Marks (is_moved world.tree after (meant world present node) (inside (found (container_meant world.names present to_parent)))) result old new
    × (to ≡ from)
BoxesAfter present (Remove node) result world after old new from to =
    Marks (is_over after (parent world.tree (meant world present node))) result old new × (to ≡ from)
BoxesAfter present (SetStyle node _) result world after old new from to =
    Marks (is_over after (meant world present node)) result old new × (to ≡ from)
BoxesAfter present (Grow node _ _) result world after old new from to =
    Marks (is_over after (meant world present node)) result old new × (to ≡ from)
BoxesAfter present (Load node _ _) result world after old new from to =
    Marks (is_over after (meant world present node)) result old new × (to ≡ from)
BoxesAfter _ (MakeQueryList _ document _) _ world _ old new from to = ComputesIn world (viewport_rests_on world document) old new from to
BoxesAfter present (ScrollTo scrolled _ _) _ world _ old new from to = ComputesIn world (document_meant world present scrolled) old new from to
BoxesAfter present (ScrollBy scrolled _ _) _ world _ old new from to = ComputesIn world (document_meant world present scrolled) old new from to
BoxesAfter present (Read shown) _ world _ old new from to = ComputesIn world (document_meant world present shown) old new from to
BoxesAfter _ action _ _ _ old new from to = Still old new from to
