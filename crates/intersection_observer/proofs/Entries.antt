-- Entries of a map by target, seen as registrations.
use Rattle.std.proofs.Common.{◌≡◌, ℕ, zero, suc, ◌∙◌, ap, refl, sym, subst, remove, set, get_or, position, length}
use Rattle.std.proofs.lemmas.Bool.{eq-eqb, eqb-true}
use Rattle.std.proofs.lemmas.Cmp.{nat_eq_equiv}
use Rattle.std.specs.Prelude.{Bool, true, false, cond, ◌==◌, ◌||◌, nat_eq, List, [], ◌∷◌, ◌++◌, map, slice_get, Option, Some, None, is_some}
use Rattle.std.proofs.lemmas.Option.{same_Some}
use Rattle.std.specs.List.{IsDistinct, AllByRecursion}
use Rattle.std.proofs.lemmas.List.{map_push, length-map}
use Rattle.indexmap.specs.IndexMap.{IndexMap, insert_entry, set_value_at}
use Rattle.indexmap.proofs.CallerLemmas.{insert_entry-new}
use Rattle.indexmap.proofs.SetLemmas.{map-remove}
use Rattle.std.specs.Map.{keys_of, values_of, lookup}
use Rattle.std.proofs.lemmas.List.Quantifiers.{position-Some}
use Rattle.page_model.specs.World.{Registration, IntersectionObserver}
use Rattle.page_model.specs.IntersectionObserving.{is_registered}
use Rattle.intersection_observer.specs.declared.registration.RegistrationId.{RegistrationId}
use Rattle.intersection_observer.specs.declared.registration.Registered.{Registered}
use Rattle.intersection_observer.specs.Seen.{seen_registration, serial_numbers}
use Rattle.intersection_observer.proofs.Only.{NoneFor, IsOnly}

abbrev pub serial : Registration → ℕ
serial it = it.serial

flipped : (a b : ℕ) → (a == b) ≡ (b == a)
flipped a b = nat_eq_equiv.symm a b

found : (this that : Bool) (entry : ℕ × Registered) (rest : Option Registered) (others : Bool) → this ≡ that → is_some rest ≡ others → is_some (cond this (Some entry.1) rest) ≡ (that || others)
found true true entry rest others same each = refl
found false false entry rest others same each = each
found true false entry rest others same each = cc
found false true entry rest others same each = cc

-- whether a target has an entry
pub observed : (n : ℕ) (entries : List (ℕ × Registered)) → is_some (lookup (nat_eq n) entries) ≡ is_registered n (map seen_registration entries)
observed n [] = refl
observed n (entry ∷ entries) =
    found (nat_eq n (entry.0)) (entry.0 == n) entry (lookup (nat_eq n) entries) (is_registered n (map seen_registration entries)) (flipped n (entry.0)) (observed n entries)

none_for : (n k : ℕ) (entries : List (ℕ × Registered)) → AllByRecursion (λ other. nat_eq k other ≡ false) (keys_of entries) → n ≡ k → NoneFor n (map seen_registration entries)
none_for n k [] apart same = tt
none_for n k (entry ∷ entries) apart same =
    (flipped (entry.0) n ∙ ap (λ m. m == entry.0) same ∙ apart.0, none_for n k entries (apart.1) same)

apart_at : (k place : ℕ) (entries : List (ℕ × Registered)) (entry : ℕ × Registered) → AllByRecursion (λ other. nat_eq k other ≡ false) (keys_of entries) → slice_get entries place ≡ Some entry → nat_eq k (entry.0) ≡ false
apart_at k place [] entry apart at = cc
apart_at k zero (x ∷ xs) entry apart at = ap (λ (it : Option (ℕ × Registered)). key_or k it) (sym at) ∙ apart.0
  where
    key_or : ℕ → Option (ℕ × Registered) → Bool
    key_or k None = false
    key_or k (Some it) = nat_eq k (it.0)
apart_at k (suc place) (x ∷ xs) entry apart at = apart_at k place xs entry (apart.1) at

-- the entry of a target, where keys are distinct
pub only_at : (n place : ℕ) (entries : List (ℕ × Registered)) (entry : ℕ × Registered) → IsDistinct nat_eq (keys_of entries) → slice_get entries place ≡ Some entry → n ≡ entry.0
    → IsOnly n place (seen_registration entry) (map seen_registration entries)
unfolding IsDistinct
only_at n place [] entry distinct at same = cc
only_at n zero (x ∷ xs) entry distinct at same =
    let first : x ≡ entry = same_Some x entry at in
    (ap seen_registration (sym first), eq-eqb (x.0) n (ap (λ (it : ℕ × Registered). it.0) first ∙ sym same), none_for n (x.0) xs (distinct.0) (same ∙ ap (λ (it : ℕ × Registered). it.0) (sym first)))
only_at n (suc place) (x ∷ xs) entry distinct at same =
    (ap (nat_eq (x.0)) same ∙ apart_at (x.0) place xs entry (distinct.0) at, only_at n place xs entry (distinct.1) at same)

-- no entry of a target

none_rest : (this that : Bool) (entry : ℕ × Registered) (rest : Option Registered) → this ≡ that → cond this (Some entry.1) rest ≡ None → (that ≡ false) × (rest ≡ None)
none_rest true that entry rest same none = cc
none_rest false that entry rest same none = (sym same, none)

pub none_found : (n : ℕ) (entries : List (ℕ × Registered)) → lookup (nat_eq n) entries ≡ None → NoneFor n (map seen_registration entries)
none_found n [] none = tt
none_found n (entry ∷ entries) none =
    let parts : ((entry.0 == n) ≡ false) × (lookup (nat_eq n) entries ≡ None) = none_rest (nat_eq n (entry.0)) (entry.0 == n) entry (lookup (nat_eq n) entries) (flipped n (entry.0)) none in
    (parts.0, none_found n entries (parts.1))

-- the serial numbers of entries

pub numbers_more : (names : List RegistrationId) (entries after : List (ℕ × Registered)) (n : ℕ) (value : Registered) → serial_numbers names ≡ map serial (map seen_registration entries)
    → after ≡ entries ++ (n, value) ∷ [] → serial_numbers (names ++ value.registration ∷ []) ≡ map serial (map seen_registration after)
numbers_more names entries after n value were more =
    map_push (λ (it : RegistrationId). it.0) names (value.registration)
    ∙ ap (λ numbers. numbers ++ value.registration.0 ∷ []) were
    ∙ sym (ap (λ (these : List (ℕ × Registered)). map serial (map seen_registration these)) more ∙ ap (map serial) (map_push seen_registration entries (n, value)) ∙ map_push serial (map seen_registration entries) (seen_registration (n, value)))

pub numbers_fewer : (names : List RegistrationId) (entries : List (ℕ × Registered)) (place : ℕ) → serial_numbers names ≡ map serial (map seen_registration entries)
    → serial_numbers (remove names place) ≡ map serial (map seen_registration (remove entries place))
numbers_fewer names entries place were =
    map-remove (λ (it : RegistrationId). it.0) names place
    ∙ ap (λ numbers. remove numbers place) were
    ∙ sym (ap (map serial) (map-remove seen_registration entries place) ∙ map-remove serial (map seen_registration entries) place)

pub numbers_same : (entries : List (ℕ × Registered)) (place : ℕ) (entry : ℕ × Registered) (value : Registered) → slice_get entries place ≡ Some entry → value.registration.0 ≡ entry.1.registration.0
    → map serial (map seen_registration (set_value_at entries place value)) ≡ map serial (map seen_registration entries)
numbers_same [] place entry value at same = cc
numbers_same (x ∷ xs) zero entry value at same =
    ap (λ n. n ∷ map serial (map seen_registration xs)) (same ∙ ap (λ (it : ℕ × Registered). it.1.registration.0) (sym (same_Some x entry at)))
numbers_same (x ∷ xs) (suc place) entry value at same = ap (λ numbers. x.1.registration.0 ∷ numbers) (numbers_same xs place entry value at same)

-- what is written at a place

pub value_set : (entries : List (ℕ × Registered)) (place : ℕ) (entry : ℕ × Registered) (value : Registered) → slice_get entries place ≡ Some entry
    → map seen_registration (set_value_at entries place value) ≡ set (map seen_registration entries) place (seen_registration (entry.0, value))
value_set [] place entry value at = cc
value_set (x ∷ xs) zero entry value at = ap (λ (it : ℕ × Registered). seen_registration (it.0, value) ∷ map seen_registration xs) (same_Some x entry at)
value_set (x ∷ xs) (suc place) entry value at = ap (λ others. seen_registration x ∷ others) (value_set xs place entry value at)

-- the place of a target

pub none_from : {A : Type 0} (found : Option A) → is_some found ≡ false → found ≡ None
none_from None none = refl
none_from (Some x) none = cc

key_at : (n place : ℕ) (entries : List (ℕ × Registered)) (entry : ℕ × Registered) → nat_eq n (get_or (keys_of entries) place 0) ≡ true → slice_get entries place ≡ Some entry → n ≡ entry.0
key_at n place [] entry passes at = cc
key_at n zero (x ∷ xs) entry passes at = eqb-true n (x.0) passes ∙ ap (λ (it : ℕ × Registered). it.0) (same_Some x entry at)
key_at n (suc place) (x ∷ xs) entry passes at = key_at n place xs entry passes at

pub key_for : (n place : ℕ) (entries : List (ℕ × Registered)) (entry : ℕ × Registered) → position (nat_eq n) (keys_of entries) ≡ Some place → slice_get entries place ≡ Some entry → n ≡ entry.0
key_for n place entries entry index at = key_at n place entries entry (position-Some (nat_eq n) (keys_of entries) place 0 index).1 at

entry_at : (n place : ℕ) (entries : List (ℕ × Registered)) (value : Registered) → nat_eq n (get_or (keys_of entries) place 0) ≡ true → slice_get (values_of entries) place ≡ Some value → slice_get entries place ≡ Some (n, value)
entry_at n place [] value passes at = cc
entry_at n zero (x ∷ xs) value passes at =
    ap (λ (it : Registered). Some (x.0, it)) (same_Some (x.1) value at) ∙ ap (λ (key : ℕ). Some (key, value)) (sym (eqb-true n (x.0) passes))
entry_at n (suc place) (x ∷ xs) value passes at = entry_at n place xs value passes at

pub entry_for : (n place : ℕ) (entries : List (ℕ × Registered)) (value : Registered) → position (nat_eq n) (keys_of entries) ≡ Some place → slice_get (values_of entries) place ≡ Some value → slice_get entries place ≡ Some (n, value)
entry_for n place entries value index at = entry_at n place entries value (position-Some (nat_eq n) (keys_of entries) place 0 index).1 at

-- one more entry, last
pub entry_more : {S : Type 0} (held : IndexMap ℕ Registered S) (n : ℕ) (value : Registered) → is_registered n (map seen_registration held.entries) ≡ false
    → insert_entry nat_eq held.entries n value ≡ held.entries ++ (n, value) ∷ []
entry_more held n value free = insert_entry-new nat_eq held n value (none_from (lookup (nat_eq n) held.entries) (observed n held.entries ∙ free))

-- an observer with other registrations, of the fields and of the value
pub with_registrations : (change : List Registration → List Registration) (these : List Registration) {it now : IntersectionObserver} → it ≡ now → these ≡ change it.registrations
    → record it { registrations = these } ≡ record now { registrations = change (now.registrations) }
with_registrations change these {it} {now} view are =
    ap (λ (registrations : List Registration). record it { registrations = registrations }) are ∙ ap (λ (each : IntersectionObserver). record each { registrations = change (each.registrations) }) view

-- the registration of a target, in the value
pub only_in :
    (n place : ℕ) (before : Registered) (entries : List (ℕ × Registered)) {it now : IntersectionObserver} → it ≡ now → map seen_registration entries ≡ it.registrations →
    IsDistinct nat_eq (keys_of entries) → position (nat_eq n) (keys_of entries) ≡ Some place → slice_get (values_of entries) place ≡ Some before →
    IsOnly n place (seen_registration (n, before)) (now.registrations)
only_in n place before entries {it} {now} view these distinct index value =
    subst (IsOnly n place (seen_registration (n, before))) (these ∙ ap (λ (each : IntersectionObserver). each.registrations) view)
    (only_at n place entries (n, before) distinct (entry_for n place entries before index value) refl)

-- as many names as entries
pub numbers_count : (names : List RegistrationId) (entries : List (ℕ × Registered)) → serial_numbers names ≡ map serial (map seen_registration entries) → length names ≡ length entries
numbers_count names entries same =
    sym (length-map names (λ (it : RegistrationId). it.0)) ∙ ap (λ numbers. length numbers) same
    ∙ length-map (map seen_registration entries) serial ∙ length-map entries seen_registration
