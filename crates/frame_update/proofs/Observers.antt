-- The resize observers of a page stay in their order and in their documents while commands are run.
use Rattle.std.proofs.Common.{◌≡◌, refl, ap, sym, subst, ◌∙◌, arith, ◌≤◌}
use Rattle.std.proofs.lemmas.Option.{none-some, same_Some}
use Rattle.std.specs.Prelude.{ℕ, zero, suc, ◌<◌, ◌==◌, Bool, true, false, cond, List, [], ◌∷◌, ◌++◌, length, filter, take, drop, Option, Some, ⊤}
use Rattle.std.specs.List.{AllByRecursion}
use Rattle.script_model.specs.Syntax.{Action}
use Rattle.page_model.specs.World.{Thing, Observation, ResizeObserver, ResizeObservers, World}
use Rattle.page_model.specs.Lookups.{change_at, entry_or, no_resize_observer, resize_observer_at}
use Rattle.page_model.specs.Documents.{is_active}
use Rattle.page_model.specs.Operands.{Present, Handlers}
use Rattle.page_model.specs.Commands.{does}
use Rattle.page_model.specs.Callbacks.{Script, Entries, handler_names, presents, call}
use Rattle.page_model.specs.Gathering.{Sight, is_filled, is_of, with_reported, without_active}
use Rattle.page_model.specs.Loop.{emptied}
use Rattle.page_model.specs.Ranges.{Counts, AreObserved, IsResizeObserverIn, IsWithin}
use Rattle.page_laws.specs.Successors.{OnDid}
use Rattle.page_laws.proofs.Steps.{on_did-map}
use Rattle.page_laws.specs.Changed.{ResizeChange, Observed, Unobserved, Disconnected, Change, ResizeObserverMade, ResizeChanged}
use Rattle.page_laws.proofs.Commands.{does-any}
use Rattle.page_laws.proofs.Keeping.{carried-by, called-keeps}
use Rattle.page_laws.proofs.Later.{all-so}
use Rattle.resize_observer.specs.Observers.{observers_of}
use Rattle.depth_gather.specs.Deliveries.{Turn, active_at, first_turn, turn_from}
use Rattle.depth_gather.specs.Turning.{IsNext}

-- these observers are the first ones, each in its document
abbrev pub Begin : List ResizeObserver → List ResizeObserver → Type 0
Begin [] made = ⊤
Begin (x ∷ xs) [] = ⊥
Begin (x ∷ xs) (y ∷ ys) = (y.document ≡ x.document) × Begin xs ys

pub begin_same : (made : List ResizeObserver) → Begin made made
begin_same [] = tt
begin_same (x ∷ xs) = (refl, begin_same xs)

begin-more : (first made : List ResizeObserver) (y : ResizeObserver) → Begin first made → Begin first (made ++ y ∷ [])
begin-more [] made y begin = tt
begin-more (x ∷ xs) [] y begin = absurd begin
begin-more (x ∷ xs) (z ∷ zs) y begin = (begin.0, begin-more xs zs y (begin.1))

begin-changed : (change : ResizeObserver → ResizeObserver) → ((it : ResizeObserver) → (change it).document ≡ it.document) → (place : ℕ) (first made : List ResizeObserver) → Begin first made
    → Begin first (change_at change place made)
begin-changed change same place [] made begin = tt
begin-changed change same place (x ∷ xs) [] begin = absurd begin
begin-changed change same zero (x ∷ xs) (y ∷ ys) begin = (same y ∙ begin.0, begin.1)
begin-changed change same (suc place) (x ∷ xs) (y ∷ ys) begin = (begin.0, begin-changed change same place xs ys (begin.1))

pub begin_within : (first made : List ResizeObserver) → Begin first made → length first ≤ length made
begin_within [] made begin = omega arith
begin_within (x ∷ xs) [] begin = absurd begin
begin_within (x ∷ xs) (y ∷ ys) begin = let others : length xs ≤ length ys = begin_within xs ys (begin.1) in omega (arith, others)

counted-first : (document : ℕ) (x y : ResizeObserver) (xs ys : List ResizeObserver) → y.document ≡ x.document → length ys ≡ length xs
    → length (cond (is_of document y) (y ∷ ys) ys) ≡ length (cond (is_of document x) (x ∷ xs) xs)
counted-first document x y xs ys same counted = by_owner (x.document) (y.document) same
  where
    by_test : (is : Bool) → length (cond is (y ∷ ys) ys) ≡ length (cond is (x ∷ xs) xs)
    by_test true = ap suc counted
    by_test false = counted

    by_owner : (one other : ℕ) → other ≡ one → length (cond (other == document) (y ∷ ys) ys) ≡ length (cond (one == document) (x ∷ xs) xs)
    by_owner one other same = ap (λ (owner : ℕ). length (cond (owner == document) (y ∷ ys) ys)) same ∙ by_test (one == document)

counted-begin : (document number : ℕ) (first made : List ResizeObserver) → Begin first made → number ≤ length first
    → length (filter (is_of document) (take number made)) ≡ length (filter (is_of document) (take number first))
counted-begin document zero [] made begin few = taken-none document made
  where
    taken-none : (document : ℕ) (made : List ResizeObserver) → length (filter (is_of document) (take 0 made)) ≡ 0
    taken-none document [] = refl
    taken-none document (y ∷ ys) = refl
counted-begin document (suc number) [] made begin few = absurd (omega (arith, few))
counted-begin document number (x ∷ xs) [] begin few = absurd begin
counted-begin document zero (x ∷ xs) (y ∷ ys) begin few = refl
counted-begin document (suc number) (x ∷ xs) (y ∷ ys) begin few =
    counted-first document x y (filter (is_of document) (take number xs)) (filter (is_of document) (take number ys)) (begin.0) (counted-begin document number xs ys (begin.1) (omega (arith, few)))

-- the next place is the same once more observers were made
pub next_kept : (document place number : ℕ) (before after : ResizeObservers) → Begin (before.made) (after.made) → number ≤ length before.made → IsNext document place number before
    → IsNext document place number after
next_kept document place number before after begin few next = next ∙ sym (counted-begin document number (before.made) (after.made) begin few)

-- commands ------------------------------------------------------------------------------------------------------------------

module _ (first : List ResizeObserver) where
  -- the observers of a world begin with these
  abbrev Stands : World → Type 0
  Stands world = Begin first (world.resize_observers.made)

  module _ (world : World) (begin : Stands world) where
    more-stand : (y : ResizeObserver) → Begin first (world.resize_observers.made ++ y ∷ [])
    more-stand y = begin-more first (world.resize_observers.made) y begin

    changed-stand : (change : ResizeObserver → ResizeObserver) → ((it : ResizeObserver) → (change it).document ≡ it.document) → (place : ℕ)
        → Begin first (change_at change place (world.resize_observers.made))
    changed-stand change same place = begin-changed change same place first (world.resize_observers.made) begin

    resize-stand : {Known : Thing → Type 0} {after : ResizeObservers} → ResizeChange Known (world.resize_observers) after → Begin first (after.made)
    resize-stand (Observed observer n observed known) = changed-stand _ (λ it. refl) observer
    resize-stand (Unobserved observer n) = changed-stand _ (λ it. refl) observer
    resize-stand (Disconnected observer) = changed-stand _ (λ it. refl) observer

    change-stands : {Known : Thing → Type 0} {handlers : ℕ} {after : World} → Change Known handlers world after → Stands after
    change-stands (ResizeObserverMade name document handler known is less) = more-stand _
    change-stands (ResizeChanged it change) = resize-stand change
    change-stands change = begin

    does-stands : (handlers : Handlers) (present : Present) (action : Action) → OnDid (does handlers world present action) (λ effect. Stands (effect.world))
    does-stands handlers present action = on_did-map _ _ _ (λ effect change. change-stands change) (does-any handlers world present action)

-- behind a callback
pub called_stand : (first : List ResizeObserver) (script : Script) (document : ℕ) (handler : Option ℕ) (handed : Entries) (world : World) → Begin first (world.resize_observers.made)
    → Begin first ((call script document handler handed world).state.resize_observers.made)
called_stand first script document handler handed world begin =
    called-keeps script (Stands first) (λ (present : Present). ⊤)
    (carried-by script (Stands first) (λ (present : Present). ⊤) (λ now room here. here)
    (λ now present action is here. does-stands first now here (handler_names script) present action) tt)
    document handler handed world (all-so (presents handed)) begin

pub called_within : (script : Script) (document : ℕ) (handler : Option ℕ) (handed : Entries) (before after : World) → (call script document handler handed before).state ≡ after → (observer : ℕ)
    → observer < length before.resize_observers.made → observer < length after.resize_observers.made
called_within script document handler handed before after is observer made =
    let more : length before.resize_observers.made ≤ length after.resize_observers.made =
    subst (λ (now : World). length before.resize_observers.made ≤ length now.resize_observers.made) is
    (begin_within (before.resize_observers.made) _ (called_stand (before.resize_observers.made) script document handler handed before (begin_same (before.resize_observers.made)))) in
    omega (arith, more, made)

-- deliveries -----------------------------------------------------------------------------------------------------------------

pub reported_stand : (first : List ResizeObserver) (sight : Sight) (observer : ℕ) (delivered : List Observation) (it : ResizeObservers) → Begin first (it.made)
    → Begin first ((with_reported sight observer delivered it).made)
reported_stand first sight observer delivered it begin = begin-changed _ (λ each. refl) observer first (it.made) begin

pub emptied_stand : (first : List ResizeObserver) (document observer : ℕ) (world : World) → Begin first (world.resize_observers.made)
    → Begin first ((emptied document observer world).resize_observers.made)
emptied_stand first document observer world begin = by_test (is_active (world.tree) document)
  where
    by_test : (test : Bool) → Begin first ((cond test (record world { resize_observers = without_active observer (world.resize_observers) }) world).resize_observers.made)
    by_test true = begin-changed _ (λ each. refl) observer first (world.resize_observers.made) begin
    by_test false = begin

handler-kept : (change : ResizeObserver → ResizeObserver) → ((it : ResizeObserver) → (change it).handler ≡ it.handler) → (place observer : ℕ) (made : List ResizeObserver)
    → (entry_or no_resize_observer (change_at change place made) observer).handler ≡ (entry_or no_resize_observer made observer).handler
handler-kept change same place observer [] = refl
handler-kept change same zero zero (x ∷ xs) = same x
handler-kept change same zero (suc observer) (x ∷ xs) = refl
handler-kept change same (suc place) zero (x ∷ xs) = refl
handler-kept change same (suc place) (suc observer) (x ∷ xs) = handler-kept change same place observer xs

pub handler_reported : (sight : Sight) (observer : ℕ) (delivered : List Observation) (it : ResizeObservers)
    → (resize_observer_at (with_reported sight observer delivered it) observer).handler ≡ (resize_observer_at it observer).handler
handler_reported sight observer delivered it = handler-kept _ (λ each. refl) observer observer (it.made)

-- what is active in an observer is of elements that there are
active-of : (counts : Counts) (made : List ResizeObserver) (observer : ℕ) → AllByRecursion (IsResizeObserverIn counts) made → AreObserved counts (entry_or no_resize_observer made observer).active
active-of counts [] observer all = tt
active-of counts (x ∷ xs) zero all = all.0.active
active-of counts (x ∷ xs) (suc observer) all = active-of counts xs observer (all.1)

pub active_in : (counts : Counts) (world : World) (observer : ℕ) → IsWithin counts world → AreObserved counts (active_at (world.resize_observers) observer)
active_in counts world observer within = active-of counts (world.resize_observers.made) observer within.resize_observers

-- places ---------------------------------------------------------------------------------------------------------------------

pub first_place : (document : ℕ) (it : ResizeObservers) → IsNext document 0 0 it
first_place document it = none-taken (it.made)
  where
    none-taken : (made : List ResizeObserver) → 0 ≡ length (filter (is_of document) (take 0 made))
    none-taken [] = refl
    none-taken (y ∷ ys) = refl

fewer : (is : Bool) (x : ResizeObserver) (xs : List ResizeObserver) (most : ℕ) → length xs ≤ most → length (cond is (x ∷ xs) xs) ≤ suc most
fewer true x xs most few = omega (arith, few)
fewer false x xs most few = omega (arith, few)

few-passed : (document number : ℕ) (made : List ResizeObserver) → length (filter (is_of document) (take number made)) ≤ number
few-passed document zero [] = omega arith
few-passed document zero (x ∷ xs) = omega arith
few-passed document (suc number) [] = omega arith
few-passed document (suc number) (x ∷ xs) = fewer (is_of document x) x (filter (is_of document) (take number xs)) number (few-passed document number xs)

pub place_within : (document place number : ℕ) (it : ResizeObservers) → IsNext document place number it → place ≤ number
place_within document place number it next = let few : length (filter (is_of document) (take number (it.made))) ≤ number = few-passed document number (it.made) in omega (arith, few, next)

-- a turn is found past the place from which it is looked for
first-past : (test : Bool) (n place : ℕ) (others : Option Turn) (turn : Turn) → (others ≡ Some turn → suc place < turn.place)
    → cond test (Some (record { observer = n; place = suc place })) others ≡ Some turn → place < turn.place
first-past true n place others turn later found = let same : suc place ≡ turn.place = ap (λ (it : Turn). it.place) (same_Some _ turn found) in omega (arith, same)
first-past false n place others turn later found = let past : suc place < turn.place = later found in omega (arith, past)

found-past : (active : ℕ → List Observation) (place : ℕ) (places : List ℕ) (turn : Turn) → first_turn active place places ≡ Some turn → place < turn.place
found-past active place [] turn found = absurd (none-some turn found)
found-past active place (n ∷ ns) turn found =
    first-past (is_filled (active n)) n place (first_turn active (suc place) ns) turn (found-past active (suc place) ns turn) found

pub turn_past : (document place : ℕ) (it : ResizeObservers) (turn : Turn) → turn_from document place it ≡ Some turn → place < turn.place
turn_past document place it turn found = found-past (active_at it) place (drop place (observers_of it document)) turn found
