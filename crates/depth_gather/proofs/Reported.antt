-- Reports one after the other come to the broadcast's, since a number names one observation for good.
use Rattle.std.proofs.Common.{◌≡◌, ℕ, ◌+◌, ◌<◌, ◌∙◌, ap, refl, sym, subst, take, length, get_or}
use Rattle.std.proofs.lemmas.List.{map_push}
use Rattle.std.proofs.lemmas.Option.{get_or_from_slice_get, slice_get_within, unwrap_or-slice_get}
use Rattle.std.specs.Prelude.{Bool, true, false, cond, ◌==◌, ◌||◌, List, [], ◌∷◌, ◌++◌, All, map, slice_get, Some}
use Rattle.std.specs.List.{list_any, AllByRecursion}
use Rattle.std.proofs.lemmas.Bool.{eqb-true}
use Rattle.std.proofs.lemmas.List.Elements.{All-head, All-tail, All-get_or}
use Rattle.page_model.specs.World.{Extent, Observation, ResizeObserver}
use Rattle.page_model.specs.Lookups.{no_resize_observer}
use Rattle.page_model.specs.Gathering.{Sight, observed_size, reported, size_entry}
use Rattle.px_units.specs.declared.Size.{Size}
use Rattle.resize_observer.specs.declared.observation.Observation.{Observation as SeenObservation}
use Rattle.resize_observer.specs.Observations.{seen_size, seen_observation, seen_observations}
use Rattle.resize_observer.specs.Reports.{with_last}
use Rattle.resize_observer.specs.Serials.{Subject, IsNumbered, AreNumbered, HasSerials}
use Rattle.resize_observer.proofs.Reports.{same_subject}
use Rattle.resize_observer.specs.Observers.{HeldObservers, observer_at, changing, reported_at}
use Rattle.depth_gather.specs.Entries.{as_size, as_entry, HasLengths}
use Rattle.depth_gather.specs.Deliveries.{active_at, entries_in}
use Rattle.depth_gather.specs.declared.entries.ResizeEntry.{ResizeEntry}
use Rattle.depth_gather.proofs.Gatherings.{changing_twice, changing_same, changing_none, at_changing, one_more, target_read}

-- an observation that was reported, or not
abbrev either : Sight → Bool → Observation → Observation
either sight is it = cond is (record it { last = observed_size sight it }) it

swapped : (a b c : Bool) → (a || (b || c)) ≡ (b || (a || c))
swapped true true c = refl
swapped true false c = refl
swapped false b c = refl

any_last : {A : Type 0} (test : A → Bool) (xs : List A) (x : A) → list_any test (xs ++ x ∷ []) ≡ (test x || list_any test xs)
any_last test [] x = refl
any_last test (y ∷ ys) x = ap (λ others. test y || others) (any_last test ys x) ∙ swapped (test y) (test x) (list_any test ys)

-- a report of the same subject's size comes to one more in the list
told : (sight : Sight) (it each : Observation) (is before : Bool) → (is ≡ true → observed_size sight each ≡ observed_size sight it) →
    cond is (record (either sight before it) { last = observed_size sight each }) (either sight before it) ≡ either sight (is || before) it
told sight it each true true same = ap (λ (last : Extent). record it { last = last }) (same refl)
told sight it each true false same = ap (λ (last : Extent). record it { last = last }) (same refl)
told sight it each false before same = refl

same-serial : (sight : Sight) (is : Bool) (it : Observation) → (either sight is it).serial ≡ it.serial
same-serial sight true it = refl
same-serial sight false it = refl

one-told : (sight : Sight) (subjects : ℕ → Subject) (given : ℕ) (delivered : List Observation) (each it : Observation) → IsNumbered subjects given each → IsNumbered subjects given it →
    with_last (each.serial) (observed_size sight each) (reported sight delivered it) ≡ reported sight (delivered ++ each ∷ []) it
one-told sight subjects given delivered each it numbered is =
    let before : Bool = list_any (λ (one : Observation). one.serial == it.serial) delivered in
    ap (λ serial. cond (each.serial == serial) (record (either sight before it) { last = observed_size sight each }) (either sight before it)) (same-serial sight before it)
    ∙ told sight it each (each.serial == it.serial) before
    (λ same. ap (λ (subject : Subject). sight.size (subject.target) (subject.observed)) (same_subject subjects given each it numbered is (eqb-true (each.serial) (it.serial) same)))
    ∙ ap (λ is_reported. either sight is_reported it) (sym (any_last (λ (one : Observation). one.serial == it.serial) delivered each))

each-told : (sight : Sight) (subjects : ℕ → Subject) (given : ℕ) (delivered : List Observation) (each : Observation) (targets : List Observation) → IsNumbered subjects given each → All (IsNumbered subjects given) targets →
    map (with_last (each.serial) (observed_size sight each)) (map (reported sight delivered) targets) ≡ map (reported sight (delivered ++ each ∷ [])) targets
each-told sight subjects given delivered each [] numbered are = refl
each-told sight subjects given delivered each (it ∷ others) numbered are =
    ap (λ first. first ∷ map (with_last (each.serial) (observed_size sight each)) (map (reported sight delivered) others)) (one-told sight subjects given delivered each it numbered (All-head (IsNumbered subjects given) it others are))
    ∙ ap (λ rest. reported sight (delivered ++ each ∷ []) it ∷ rest) (each-told sight subjects given delivered each others numbered (All-tail (IsNumbered subjects given) it others are))

-- the first so many active observations of an observer are reported
abbrev pub reporting_first : Sight → ℕ → ℕ → HeldObservers → HeldObservers
reporting_first sight most observer it =
    changing (λ (each : ResizeObserver). record each { targets = map (reported sight (take most (active_at it.part observer))) (each.targets) }) observer it

abbrev first-reported : Sight → ℕ → ℕ → HeldObservers → ResizeObserver → ResizeObserver
first-reported sight most observer it each = record each { targets = map (reported sight (take most (active_at it.part observer))) (each.targets) }

none-reported : (sight : Sight) (targets : List Observation) → map (reported sight []) targets ≡ targets
none-reported sight [] = refl
none-reported sight (x ∷ xs) = ap (λ others. x ∷ others) (none-reported sight xs)

pub reporting_none : (sight : Sight) (observer : ℕ) (it : HeldObservers) → it ≡ reporting_first sight 0 observer it
reporting_none sight observer it =
    sym (changing_none observer it)
    ∙ changing_same (λ each. each) (first-reported sight 0 observer it) observer it
    (ap (λ (targets : List Observation). record (observer_at it observer) { targets = targets }) (sym (none-reported sight (observer_at it observer).targets)))

-- reports leave the active list as it is
pub active_kept : (sight : Sight) (most observer : ℕ) (it now : HeldObservers) → now ≡ reporting_first sight most observer it → observer < length it.part.made → active_at now.part observer ≡ active_at it.part observer
active_kept sight most observer it now is there = ap (λ (each : ResizeObserver). each.active) (at_changing (first-reported sight most observer it) observer it now is there)

numbered-one : (P : Observation → Type 0) (xs : List Observation) (place : ℕ) (x : Observation) → All P xs → slice_get xs place ≡ Some x → P x
numbered-one P xs place x all there = subst P (get_or_from_slice_get xs place x x there) (All-get_or P xs place x (slice_get_within xs place x there) all)

numbered-at : (P : ResizeObserver → Type 0) (it : HeldObservers) (observer : ℕ) → observer < length it.part.made → All P it.part.made → P (observer_at it observer)
numbered-at P it observer there all = subst P (sym (unwrap_or-slice_get it.part.made observer no_resize_observer)) (All-get_or P it.part.made observer no_resize_observer there all)

one-reported :
    (sight : Sight) (most observer : ℕ) (it : HeldObservers) (x : Observation) → observer < length it.part.made → HasSerials it.part.given it.part.made → slice_get (active_at it.part observer) most ≡ Some x →
    reported_at (x.serial) (observed_size sight x) (first-reported sight most observer it (observer_at it observer)) ≡ first-reported sight (most + 1) observer it (observer_at it observer)
one-reported sight most observer it x there serials found =
    let each : AreNumbered serials.subjects it.part.given (observer_at it observer) = numbered-at (AreNumbered serials.subjects it.part.given) it observer there serials.each in
    ap (λ (targets : List Observation). record (observer_at it observer) { targets = targets })
    (each-told sight serials.subjects it.part.given (take most (active_at it.part observer)) x (observer_at it observer).targets
    (numbered-one (IsNumbered serials.subjects it.part.given) (active_at it.part observer) most x each.active found) each.targets
    ∙ ap (λ (delivered : List Observation). map (reported sight delivered) (observer_at it observer).targets) (sym (one_more (active_at it.part observer) most x found)))

pub reporting_more :
    (sight : Sight) (most observer : ℕ) (it now after : HeldObservers) (items : List SeenObservation) (none : SeenObservation) (size : Size) →
    now ≡ reporting_first sight most observer it → observer < length it.part.made → HasSerials it.part.given it.part.made →
    seen_observations items ≡ active_at now.part observer → most < length items →
    size ≡ as_size (sight.size (get_or items most none).target.0 (get_or items most none).observed) →
    after ≡ changing (reported_at (get_or items most none).number (seen_size size)) observer now →
    after ≡ reporting_first sight (most + 1) observer it
reporting_more sight most observer it now after items none size is there serials seen within sized told_now =
    let x : Observation = seen_observation (get_or items most none) in
    let found : slice_get (active_at it.part observer) most ≡ Some x = target_read items (active_at it.part observer) most none (seen ∙ active_kept sight most observer it now is there) within in
    let report : ResizeObserver → ResizeObserver = reported_at (x.serial) (observed_size sight x) in
    told_now
    ∙ ap (λ (told : Size). changing (reported_at (x.serial) (seen_size told)) observer now) sized
    ∙ ap (changing report observer) is
    ∙ changing_twice report (first-reported sight most observer it) observer it
    ∙ changing_same (λ each. report (first-reported sight most observer it each)) (first-reported sight (most + 1) observer it) observer it (one-reported sight most observer it x there serials found)

-- entries in order

pub entries_more :
    (sight : Sight) (items : List SeenObservation) (place : ℕ) (none : SeenObservation) (before after : List ResizeEntry) (entry : ResizeEntry) → place < length items →
    after ≡ before ++ entry ∷ [] → entry ≡ as_entry (size_entry sight (seen_observation (get_or items place none))) →
    before ≡ entries_in sight (take place (seen_observations items)) → after ≡ entries_in sight (take (place + 1) (seen_observations items))
entries_more sight items place none before after entry within pushed is so_far =
    let x : Observation = seen_observation (get_or items place none) in
    let made : Observation → ResizeEntry = λ each. as_entry (size_entry sight each) in
    pushed
    ∙ ap (λ last. before ++ last ∷ []) is
    ∙ ap (λ (these : List ResizeEntry). these ++ made x ∷ []) so_far
    ∙ sym (map_push made (take place (seen_observations items)) x)
    ∙ ap (entries_in sight) (sym (one_more (seen_observations items) place x (target_read items (seen_observations items) place none refl within)))

pub lengths_more : (entries : List ResizeEntry) (last : ResizeEntry) → AllByRecursion HasLengths entries → HasLengths last → AllByRecursion HasLengths (entries ++ last ∷ [])
lengths_more [] last all is = (is, tt)
lengths_more (first ∷ others) last all is = (all.0, lengths_more others last all.1 is)
