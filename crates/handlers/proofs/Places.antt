-- Entries by their places.
use Rattle.std.proofs.Common.{◌≡◌, ℕ, zero, suc, ◌<◌, List, [], ◌∷◌, length, get_or, Bool, Option, Some, None, refl, ap, sym, subst, ◌∙◌, arith}
use Rattle.std.proofs.Common.{ℤ, pos, w64, to_z, of_z, ◌^◌}
use Rattle.std.proofs.lemmas.Int.{ints}
use Rattle.std.specs.Prelude.{map}
use Rattle.text_io.specs.declared.kinds.Version.{Version}
use Rattle.depth_gather.specs.Entries.{seen_entry}
use Rattle.depth_gather.specs.declared.entries.ResizeEntry.{ResizeEntry}
use Rattle.intersection_observer.specs.Seen.{seen_entries}
use Rattle.intersection_observer.specs.declared.entry.Entry.{Entry as CutEntry}
use Rattle.intersection_observer.specs.declared.root.WatcherId.{WatcherId}
use Rattle.page_model.specs.Gathering.{SizeEntry}
use Rattle.std.specs.List.{AllByRecursion}
use Rattle.element_tree.specs.declared.node.NodeId.{NodeId}
use Rattle.page_model.specs.Operands.{Present, ResizeEntry as Sized, IntersectionEntry as Cut}
use Rattle.page_model.specs.Ranges.{IsPresentIn}
use Rattle.page_model.specs.World.{World, Name, Entry}
use Rattle.trace_runs.specs.Writes.{Says}
use Rattle.trace_runs.proofs.Lines.{says_none}
use Rattle.page_names.specs.Things.{IsSubject}
use Rattle.page_state.specs.Things.{present_with}
use Rattle.resize_observer.specs.declared.observation.ObserverId.{ObserverId}
use Rattle.page_model.specs.Callbacks.{CutEntries, presents, entry_lines}
use Rattle.handlers.specs.Entries.{entries_of, present_at, AreIn}
use Rattle.handlers.specs.declared.entries.Entries.{Entries}
use Rattle.handlers.specs.declared.entries.Entries.TheVariants.{Nothing, Resize, Intersection}

-- the entry at a place
pub present_is : (entries : List Present) (place : ℕ) → place < length entries → present_at entries (Some place) ≡ get_or entries place (present_at entries (Some place))
present_is [] place within = absurd (omega arith)
present_is (entry ∷ entries) zero within = refl
present_is (entry ∷ entries) (suc place) within = present_is entries place (omega (arith, within))

at_place_in : (world : World) (entries : List Present) (place : ℕ) → AreIn world entries → IsPresentIn world (present_at entries (Some place))
at_place_in world [] place all = tt
at_place_in world (entry ∷ entries) zero all = all.0
at_place_in world (entry ∷ entries) (suc place) all = at_place_in world entries place all.1

pub present_in : (world : World) (entries : List Present) (subject : Option ℕ) → AreIn world entries → IsPresentIn world (present_at entries subject)
present_in world entries None all = tt
present_in world entries (Some place) all = at_place_in world entries place all

subject-in : (world : World) (target : Option NodeId) (meets : Option Bool) → IsPresentIn world (present_with target meets) → IsSubject (length (world.tree.elements)) target
subject-in world None meets within = tt
subject-in world (Some node) None within = within
subject-in world (Some node) (Some meets) within = within

-- the target of the entry that a command is run for is an element that there is
pub subject_in : (world : World) (entries : List Present) (subject : Option ℕ) (target : Option NodeId) (meets : Option Bool)
    → present_with target meets ≡ present_at entries subject → AreIn world entries → IsSubject (length (world.tree.elements)) target
subject_in world entries subject target meets is all =
    subject-in world target meets (subst (IsPresentIn world) (sym is) (present_in world entries subject all))

-- a fact of all at a place
pub at_mapped : {A B C : Type 0} (Holds : C → Type 0) (f : B → C) (g : A → B) (items : List A) (i : ℕ) (item : A) → AllByRecursion Holds (map f (map g items)) → i < length items
    → item ≡ get_or items i item → Holds (f (g item))
at_mapped Holds f g [] i item all within is = absurd (omega arith)
at_mapped Holds f g (first ∷ items) zero item all within is = subst (λ it. Holds (f (g it))) (sym is) all.0
at_mapped Holds f g (first ∷ items) (suc i) item all within is = at_mapped Holds f g items i item all.1 (omega (arith, within)) is

pub map_both : {A B C : Type 0} (f : B → C) (g : A → B) (items : List A) → map f (map g items) ≡ map (λ item. f (g item)) items
map_both f g [] = refl
map_both f g (item ∷ items) = ap (λ rest. f (g item) ∷ rest) (map_both f g items)

-- the entry at a place
sized_at : (list : List ResizeEntry) (place : ℕ) (entry : ResizeEntry) → place < length list → entry ≡ get_or list place entry
    → Sized (entry.target.0) ≡ present_at (map (λ (it : SizeEntry). Sized (it.target)) (map seen_entry list)) (Some place)
sized_at [] place entry within is = absurd (omega arith)
sized_at (first ∷ list) zero entry within is = ap (λ (it : ResizeEntry). Sized (it.target.0)) is
sized_at (first ∷ list) (suc place) entry within is = sized_at list place entry (omega (arith, within)) is

pub entry_found : (entries : Entries) (observer : ObserverId) (list : List ResizeEntry) (place : ℕ) (entry : ResizeEntry) → entries ≡ Resize observer list → place < length list
    → entry ≡ get_or list place entry → Sized (entry.target.0) ≡ present_at (presents (entries_of entries)) (Some place)
entry_found entries observer list place entry are within is = sized_at list place entry within is ∙ ap (λ it. present_at (presents (entries_of it)) (Some place)) (sym are)

-- the same of an intersection observer's
cut_at : (list : List CutEntry) (place : ℕ) (entry : CutEntry) → place < length list → entry ≡ get_or list place entry
    → Cut (entry.target.0) (entry.finding.meets) ≡ present_at (map (λ (it : Entry). Cut (it.target) (it.finding.meets)) (seen_entries list)) (Some place)
cut_at [] place entry within is = absurd (omega arith)
cut_at (first ∷ list) zero entry within is = ap (λ (it : CutEntry). Cut (it.target.0) (it.finding.meets)) is
cut_at (first ∷ list) (suc place) entry within is = cut_at list place entry (omega (arith, within)) is

pub cut_found : (entries : Entries) (observer : WatcherId) (told : List Entry) (list : List CutEntry) (place : ℕ) (entry : CutEntry) → entries ≡ Intersection observer told → seen_entries list ≡ told
    → place < length list → entry ≡ get_or list place entry → Cut (entry.target.0) (entry.finding.meets) ≡ present_at (presents (entries_of entries)) (Some place)
cut_found entries observer told list place entry are seen within is =
    cut_at list place entry within is
    ∙ ap (λ it. present_at (presents (CutEntries observer.0 it)) (Some place)) seen
    ∙ ap (λ it. present_at (presents (entries_of it)) (Some place)) (sym are)

-- a length of a line is written and read back
pub length_again : (given : ℤ) (units : ℕ) → units < 2 ^ 63 → given ≡ pos units → to_z w64 (of_z w64 given) ≡ pos units
length_again given units low is = ap (λ z. to_z w64 (of_z w64 z)) is ∙ omega (arith, ints)

-- no entries have no lines
pub nothing_told : (version : Version) (names : List Name) (entries : Entries) (now : Option (List ℕ)) → entries ≡ Nothing → Says now now (entry_lines version names (entries_of entries))
nothing_told version names entries now none =
    subst (λ (it : Entries). Says now now (entry_lines version names (entries_of it))) (sym none) (says_none now)
