-- The words by which scripts and traces name versions, limits, exceptions and events.
use Rattle.std.specs.Prelude.{ℕ, List, [], ◌∷◌, Option, bytes_eq, codes}
use Rattle.std.specs.List.{find}
use Rattle.text_io.specs.declared.kinds.Version.{Version}
use Rattle.text_io.specs.declared.kinds.Version.TheVariants.{First, Second}
use Rattle.text_io.specs.declared.kinds.LimitKind.{LimitKind}
use Rattle.text_io.specs.declared.kinds.LimitKind.TheVariants.{Script, Line, Handlers, Nesting, Commands, Nodes, Depth, Documents, ResizeObservers, IntersectionObservers, ResizeObservations, IntersectionObservations, Listeners, Timers, FrameCallbacks, Tasks, Queries, Recorded, Pages}
use Rattle.text_io.specs.declared.kinds.ThrowKind.{ThrowKind}
use Rattle.text_io.specs.declared.kinds.ThrowKind.TheVariants.{ReferenceError, TypeError, HierarchyRequestError, NotFoundError, SyntaxError, RangeError}
use Rattle.text_io.specs.declared.kinds.EventKind.{EventKind}
use Rattle.text_io.specs.declared.kinds.EventKind.TheVariants.{Resize, Scroll, Error, Change}

-- the words of the versions of the script language, this project's own
abbrev pub version_word : Version → List ℕ
version_word First = codes "1"
version_word Second = codes "2"

-- this project's own words
abbrev pub limit_word : LimitKind → List ℕ
limit_word Script = codes "script"
limit_word Line = codes "line"
limit_word Handlers = codes "handlers"
limit_word Nesting = codes "nesting"
limit_word Commands = codes "commands"
limit_word Nodes = codes "nodes"
limit_word Depth = codes "depth"
limit_word Documents = codes "documents"
limit_word ResizeObservers = codes "resize-observers"
limit_word IntersectionObservers = codes "intersection-observers"
limit_word ResizeObservations = codes "resize-observations"
limit_word IntersectionObservations = codes "intersection-observations"
limit_word Listeners = codes "listeners"
limit_word Timers = codes "timers"
limit_word FrameCallbacks = codes "frame-callbacks"
limit_word Tasks = codes "tasks"
limit_word Queries = codes "queries"
limit_word Recorded = codes "recorded"
limit_word Pages = codes "pages"

-- the names of the exceptions (WebIDL)
abbrev pub throw_word : ThrowKind → List ℕ
throw_word ReferenceError = codes "ReferenceError"
throw_word TypeError = codes "TypeError"
throw_word HierarchyRequestError = codes "HierarchyRequestError"
throw_word NotFoundError = codes "NotFoundError"
throw_word SyntaxError = codes "SyntaxError"
throw_word RangeError = codes "RangeError"

-- the types of the events (CSSOM View, HTML)
abbrev pub event_word : EventKind → List ℕ
event_word Resize = codes "resize"
event_word Scroll = codes "scroll"
event_word Error = codes "error"
event_word Change = codes "change"

-- the first of these values that has this word
unfoldable pub named : {A : Type 0} → (A → List ℕ) → List A → List ℕ → Option A
named word_of values word = find (λ value. bytes_eq (word_of value) word) values

abbrev pub all_versions : List Version
all_versions = First ∷ Second ∷ []

abbrev pub event_kinds : List EventKind
event_kinds = Resize ∷ Scroll ∷ Error ∷ Change ∷ []

abbrev pub throw_kinds : List ThrowKind
throw_kinds = ReferenceError ∷ TypeError ∷ HierarchyRequestError ∷ NotFoundError ∷ SyntaxError ∷ RangeError ∷ []

abbrev pub limit_kinds : List LimitKind
limit_kinds =
    Script ∷ Line ∷ Handlers ∷ Nesting ∷ Commands ∷ Nodes ∷ Depth ∷ Documents ∷ ResizeObservers ∷ IntersectionObservers
    ∷ ResizeObservations ∷ IntersectionObservations ∷ Listeners ∷ Timers ∷ FrameCallbacks ∷ Tasks ∷ Queries ∷ Recorded ∷ Pages ∷ []

abbrev pub version_of : List ℕ → Option Version
version_of word = named version_word all_versions word

abbrev pub event_of : List ℕ → Option EventKind
event_of word = named event_word event_kinds word

abbrev pub throw_of : List ℕ → Option ThrowKind
throw_of word = named throw_word throw_kinds word

abbrev pub limit_of : List ℕ → Option LimitKind
limit_of word = named limit_word limit_kinds word
