-- Entries of lists by number, and changes of single entries. Numbers are assigned in order of creation, and nothing is ever removed
-- from these lists, so every number that a world holds is in range (a law of page_laws, over whole runs): the defaults for the lists
-- of elements, documents, observers and query lists are never used.
use Rattle.std.specs.Prelude.{ℕ, zero, suc, pos, Bool, true, false, cond, not, ◌==◌, List, [], ◌∷◌, ◌++◌, filter, slice_get, unwrap_or, Option, None}
use Rattle.std.specs.List.{list_any}
use Rattle.layout_model.specs.Styles.{all_four, first_style}
use Rattle.layout_model.specs.Items.{BlockKind, Item}
use Rattle.script_model.specs.Margins.{MarginPixels, Margins}
use Rattle.page_model.specs.World.{Extent, Element, Document, Dead, Tree, Container, InElement, InDocument, ResizeObserver, ResizeObservers, ImplicitRoot, IntersectionObserver, IntersectionObservers, QueryList, Table}

abbrev pub no_extent : Extent
no_extent = record { across = 0; down = 0 }

abbrev pub same_extent : Extent → Extent → Bool
same_extent a b = cond (a.across == b.across) (a.down == b.down) false

abbrev pub is_same_container : Container → Container → Bool
is_same_container (InElement a) (InElement b) = a == b
is_same_container (InDocument a) (InDocument b) = a == b
is_same_container a b = false

-- the entry with a number, or the default if the list ends before it
abbrev pub entry_or : {A : Type 0} → A → List A → ℕ → A
entry_or default held n = unwrap_or (slice_get held n) default

-- the list with the entry of one number set; a list that ends before it is filled up with the default
abbrev pub put_at : {A : Type 0} → A → ℕ → A → List A → List A
put_at default zero value [] = value ∷ []
put_at default zero value (x ∷ xs) = value ∷ xs
put_at default (suc n) value [] = default ∷ put_at default n value []
put_at default (suc n) value (x ∷ xs) = x ∷ put_at default n value xs

-- the list with the entry at an index changed
abbrev pub change_at : {A : Type 0} → (A → A) → ℕ → List A → List A
change_at change place [] = []
change_at change zero (x ∷ xs) = change x ∷ xs
change_at change (suc place) (x ∷ xs) = x ∷ change_at change place xs

-- the list with the entries at several indices changed
abbrev pub change_each : {A : Type 0} → (A → A) → List ℕ → List A → List A
change_each change [] xs = xs
change_each change (place ∷ places) xs = change_each change places (change_at change place xs)

-- a newly created element, with no parent and no children
abbrev pub new_element : Item → ℕ → Option ℕ → Element
new_element item document framed = record { item = item; parent = None; children = []; document = document; framed = framed }

abbrev pub no_element : Element
no_element = new_element (record { style = record first_style { hidden = true }; kind = BlockKind }) 0 None

abbrev pub no_document : Document
no_document = record { state = Dead; frame = None; root = None }

abbrev pub no_resize_observer : ResizeObserver
no_resize_observer = record { document = 0; handler = None; targets = []; active = []; skipped = [] }

abbrev pub no_margins : Margins
no_margins = all_four (MarginPixels (pos 0))

abbrev pub no_intersection_observer : IntersectionObserver
no_intersection_observer = record {
  document = 0;
  handler = None;
  root = ImplicitRoot;
  margins = no_margins;
  thresholds = [];
  registrations = [];
  queue = [];
}

abbrev pub no_query_list : QueryList
no_query_list = record { document = 0; query = []; matched = false }

abbrev pub element_at : Tree → ℕ → Element
element_at tree n = entry_or no_element tree.elements n

abbrev pub document_at : Tree → ℕ → Document
document_at tree n = entry_or no_document tree.documents n

abbrev pub resize_observer_at : ResizeObservers → ℕ → ResizeObserver
resize_observer_at it n = entry_or no_resize_observer it.made n

abbrev pub intersection_observer_at : IntersectionObservers → ℕ → IntersectionObserver
intersection_observer_at it n = entry_or no_intersection_observer it.made n

-- the scroll margins of an intersection observer
abbrev pub scroll_margins_at : List Margins → ℕ → Margins
scroll_margins_at margins n = entry_or no_margins margins n

abbrev pub query_list_at : List QueryList → ℕ → QueryList
query_list_at queries n = entry_or no_query_list queries n

abbrev pub change_element : (Element → Element) → ℕ → Tree → Tree
change_element change n tree = record tree { elements = change_at change n (tree.elements) }

abbrev pub change_document : (Document → Document) → ℕ → Tree → Tree
change_document change n tree = record tree { documents = change_at change n (tree.documents) }

abbrev pub change_resize_observer : (ResizeObserver → ResizeObserver) → ℕ → ResizeObservers → ResizeObservers
change_resize_observer change n it = record it { made = change_at change n (it.made) }

abbrev pub change_intersection_observer : (IntersectionObserver → IntersectionObserver) → ℕ → IntersectionObservers → IntersectionObservers
change_intersection_observer change n it = record it { made = change_at change n (it.made) }

-- whether a number is in a list
abbrev pub is_listed : ℕ → List ℕ → Bool
is_listed n xs = list_any (λ x. x == n) xs

abbrev pub without : ℕ → List ℕ → List ℕ
without n xs = filter (λ x. not (x == n)) xs

-- a table with one more entry at the end, with the next serial number
abbrev pub entered : {A : Type 0} → (ℕ → A) → Table A → Table A
entered make table = record { given = suc table.given; held = table.held ++ make (table.given) ∷ [] }

-- a table with the entries that pass a test
abbrev pub kept : {A : Type 0} → (A → Bool) → Table A → Table A
kept test table = record table { held = filter test (table.held) }
