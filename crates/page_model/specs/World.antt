-- The world of a page, a record of parts: plain lists, and no box, clip or other kept result (DOM; HTML, event loops and documents;
-- Resize Observer, 3; Intersection Observer, 3.1). Elements, documents, observers, query lists and handlers are referred to by number,
-- from 0 in order of creation. Lengths are in units of 1/64 pixel, times in milliseconds.
--
-- Each part is kept by one crate, and a definition that changes a part takes that part and what it needs of others. Some lists are
-- indexed by document or element but may be shorter: nothing is stored then for the numbers beyond their end (`entry_or` and `put_at`
-- of Lookups), so that nothing is added to them when a document or an element is created.
use Rattle.std.specs.Prelude.{ℕ, Bool, List, Option}
use Rattle.px_units.specs.declared.BoxKind.{BoxKind}
use Rattle.px_units.specs.declared.Rect.{Rect}
use Rattle.layout_model.specs.Items.{Item}
use Rattle.text_io.specs.declared.kinds.EventKind.{EventKind}
use Rattle.text_io.specs.declared.kinds.Version.{Version}
use Rattle.script_model.specs.Margins.{Margins}
use Rattle.script_model.specs.Queries.{MediaQuery}

-- a size, or a scroll position
pub record Extent : Type 0 where
  pub across : ℕ
  pub down : ℕ

-- elements and documents -----------------------------------------------------------------------------------------------------

-- a root element has no parent; `document` is the node document, and `framed` the document inside a frame
pub record Element : Type 0 where
  pub item : Item
  pub parent : Option ℕ
  pub children : List ℕ
  pub document : ℕ
  pub framed : Option ℕ

-- a frame's document is Fresh until its frame is first in the tree of an Active document, and Dead once the frame was removed from one
pub data DocumentState : Type 0 where
  Fresh : DocumentState
  Active : DocumentState
  Dead : DocumentState

-- a document, with the frame that it is in and its root element
pub record Document : Type 0 where
  pub state : DocumentState
  pub frame : Option ℕ
  pub root : Option ℕ

-- all elements and documents, whether or not they are in a tree
pub record Tree : Type 0 where
  pub elements : List Element
  pub documents : List Document

-- an element or a document: what an element is placed in, as a child or as the root element; what is scrolled, a scroll container or a
-- viewport; and what holds boxes and clips them
pub data Container : Type 0 where
  InElement : (element : ℕ) → Container
  InDocument : (document : ℕ) → Container

-- viewports and scrolling ------------------------------------------------------------------------------------------------------

-- what the top document is shown on: the size of its viewport, and the number of device pixels per pixel, in hundredths of a percent
-- (CSSOM View, 4: devicePixelRatio)
pub record Screen : Type 0 where
  pub size : Extent
  pub ratio : ℕ

-- the screen, and for each document the viewport size that its last resize steps noted, if any
pub record Viewports : Type 0 where
  pub screen : Screen
  pub noted : List (Option Extent)

-- the stored scroll positions of elements and of documents, and each document's list of pending scroll events
pub record Scrolls : Type 0 where
  pub elements : List Extent
  pub documents : List Extent
  pub pending : List (List Container)

-- names ------------------------------------------------------------------------------------------------------------------------

-- what a name can stand for
pub data Thing : Type 0 where
  DocumentThing : (document : ℕ) → Thing
  ElementThing : (element : ℕ) → Thing
  ResizeObserverThing : (observer : ℕ) → Thing
  IntersectionObserverThing : (observer : ℕ) → Thing
  QueryListThing : (query : ℕ) → Thing

pub record Name : Type 0 where
  pub text : List ℕ
  pub thing : Thing

-- observers --------------------------------------------------------------------------------------------------------------------

-- `last` is the last reported size
pub record Observation : Type 0 where
  pub serial : ℕ
  pub target : ℕ
  pub observed : BoxKind
  pub last : Extent

pub record ResizeObserver : Type 0 where
  pub document : ℕ
  pub handler : Option ℕ
  pub targets : List Observation
  pub active : List Observation
  pub skipped : List Observation

-- `given` is the number of serial numbers assigned to observations so far, and so the next one
pub record ResizeObservers : Type 0 where
  pub given : ℕ
  pub made : List ResizeObserver

pub data Root : Type 0 where
  ImplicitRoot : Root
  DocumentRoot : (document : ℕ) → Root
  ElementRoot : (element : ℕ) → Root

-- what an update finds for a target; areas are in square units
pub record Finding : Type 0 where
  pub index : ℕ
  pub meets : Bool
  pub part : ℕ
  pub whole : ℕ
  pub root : Rect
  pub bounds : Rect
  pub cut : Rect

pub record Entry : Type 0 where
  pub target : ℕ
  pub time : ℕ
  pub finding : Finding

-- a `previous_index` of None stands for the standard's -1
pub record Registration : Type 0 where
  pub serial : ℕ
  pub target : ℕ
  pub previous_index : Option ℕ
  pub met : Bool

-- thresholds are in ten-thousandths, ascending
pub record IntersectionObserver : Type 0 where
  pub document : ℕ
  pub handler : Option ℕ
  pub root : Root
  pub margins : Margins
  pub thresholds : List ℕ
  pub registrations : List Registration
  pub queue : List Entry

-- `given` is the number of serial numbers assigned to registrations so far
pub record IntersectionObservers : Type 0 where
  pub given : ℕ
  pub made : List IntersectionObserver

-- query lists, listeners, callbacks and tasks ----------------------------------------------------------------------------------

-- `matched` is the state at the last evaluation, or at creation
pub record QueryList : Type 0 where
  pub document : ℕ
  pub query : List MediaQuery
  pub matched : Bool

pub data EventTarget : Type 0 where
  ElementTarget : (element : ℕ) → EventTarget
  DocumentTarget : (document : ℕ) → EventTarget
  WindowTarget : (document : ℕ) → EventTarget
  QueryTarget : (query : ℕ) → EventTarget

pub record Listener : Type 0 where
  pub serial : ℕ
  pub target : EventTarget
  pub event : EventKind
  pub handler : ℕ

pub record FrameCallback : Type 0 where
  pub serial : ℕ
  pub document : ℕ
  pub key : List ℕ
  pub handler : ℕ

pub record Timer : Type 0 where
  pub serial : ℕ
  pub document : ℕ
  pub key : List ℕ
  pub due : ℕ
  pub handler : ℕ

pub data Task : Type 0 where
  Notify : (document : ℕ) → Task
  Posted : (document handler : ℕ) → Task

-- the entries of a table in order of creation, and the number of serial numbers assigned so far, which is the next one
pub record Table (A : Type 0) : Type 0 where
  pub given : ℕ
  pub held : List A

-- the whole --------------------------------------------------------------------------------------------------------------------

-- `scroll_margins` are those of each intersection observer (Intersection Observer, 2.2: scrollMargin); `notifying` says for each
-- document whether a notify task is queued; `version` is that of the script, which determines limits and lines; `begun` is the number
-- of commands begun
pub record World : Type 0 where
  pub tree : Tree
  pub names : List Name
  pub viewports : Viewports
  pub scrolls : Scrolls
  pub resize_observers : ResizeObservers
  pub intersection_observers : IntersectionObservers
  pub scroll_margins : List Margins
  pub notifying : List Bool
  pub queries : List QueryList
  pub listeners : Table Listener
  pub frame_callbacks : Table FrameCallback
  pub timers : Table Timer
  pub tasks : List Task
  pub version : Version
  pub clock : ℕ
  pub begun : ℕ
