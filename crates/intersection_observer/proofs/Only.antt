-- A registration that is the only one for its target, at a place of a list.
use Rattle.std.proofs.Common.{◌≡◌, ℕ, zero, suc, ◌∙◌, ap, refl, sym, set, remove, append-nil}
use Rattle.std.proofs.lemmas.Bool.{eqb-true}
use Rattle.std.specs.Prelude.{Bool, true, false, cond, not, ◌==◌, ◌&&◌, ◌||◌, List, [], ◌∷◌, ◌++◌, map, filter_map, find, Option, Some, None, option_map, option_to_list}
use Rattle.std.specs.List.{cons_option}
use Rattle.page_model.specs.World.{Finding, Entry, Registration, IntersectionObserver}
use Rattle.page_model.specs.Intersections.{Settled, is_same_bool, is_news, settled}
use Rattle.page_model.specs.Documents.{is_number}
use Rattle.page_model.specs.IntersectionObserving.{is_registered}
use Rattle.intersection_observer.specs.Settling.{settled_if, settled_at, is_news_of}
use Rattle.intersection_observer.specs.Watchers.{serial_of, without_target}

abbrev pub NoneFor : ℕ → List Registration → Type 0
NoneFor n [] = Unit {0}
NoneFor n (x ∷ xs) = ((x.target == n) ≡ false) × NoneFor n xs

abbrev pub IsOnly : ℕ → ℕ → Registration → List Registration → Type 0
IsOnly n place it [] = ⊥
IsOnly n zero it (x ∷ xs) = (it ≡ x) × ((x.target == n) ≡ true) × NoneFor n xs
IsOnly n (suc place) it (x ∷ xs) = ((x.target == n) ≡ false) × IsOnly n place it xs

-- none for a target

pub none-registered : (n : ℕ) (xs : List Registration) → NoneFor n xs → is_registered n xs ≡ false
none-registered n [] none = refl
none-registered n (x ∷ xs) none = ap (λ b. b || is_registered n xs) (none.0) ∙ none-registered n xs (none.1)

pub none-without : (n : ℕ) (xs : List Registration) → NoneFor n xs → without_target n xs ≡ xs
none-without n [] none = refl
none-without n (x ∷ xs) none =
    ap (λ b. cond (not b) (x ∷ without_target n xs) (without_target n xs)) (none.0) ∙ ap (λ others. x ∷ others) (none-without n xs (none.1))

pub none-serial : (n : ℕ) (xs : List Registration) → NoneFor n xs → serial_of n xs ≡ None
none-serial n [] none = refl
none-serial n (x ∷ xs) none =
    ap (λ b. option_map (λ (it : Registration). it.serial) (cond b (Some x) (find (λ (it : Registration). it.target == n) xs))) (none.0) ∙ none-serial n xs (none.1)

pub none-news : (n : ℕ) (now : Finding) (xs : List Registration) → NoneFor n xs → is_news_of n now xs ≡ false
none-news n now [] none = refl
none-news n now (x ∷ xs) none = ap (λ b. b && is_news x now || is_news_of n now xs) (none.0) ∙ none-news n now xs (none.1)

unfoldable pub registrations_once : ℕ → ℕ → Finding → List Registration → List Registration
registrations_once n time now xs = map (λ (it : Settled). it.registration) (map (settled_if n time now) xs)

entries_once : ℕ → ℕ → Finding → List Registration → List Entry
entries_once n time now xs = filter_map (λ (it : Settled). it.entry) (map (settled_if n time now) xs)

none-settled : (n time : ℕ) (now : Finding) (xs : List Registration) → NoneFor n xs → registrations_once n time now xs ≡ xs
unfolding registrations_once
none-settled n time now [] none = refl
none-settled n time now (x ∷ xs) none =
    ap (λ (b : Bool). (cond b (settled time now x) (record { registration = x; entry = None })).registration ∷ registrations_once n time now xs) (none.0)
    ∙ ap (λ others. x ∷ others) (none-settled n time now xs (none.1))

none-queued : (n time : ℕ) (now : Finding) (xs : List Registration) → NoneFor n xs → entries_once n time now xs ≡ []
unfolding entries_once
none-queued n time now [] none = refl
none-queued n time now (x ∷ xs) none =
    ap (λ (b : Bool). cons_option (cond b (settled time now x) (record { registration = x; entry = None })).entry (entries_once n time now xs)) (none.0)
    ∙ none-queued n time now xs (none.1)

-- the only one for a target

pub only-without : (n place : ℕ) (it : Registration) (xs : List Registration) → IsOnly n place it xs → remove xs place ≡ without_target n xs
only-without n place it [] only = absurd only
only-without n zero it (x ∷ xs) only =
    sym (none-without n xs (only.2)) ∙ ap (λ b. cond (not b) (x ∷ without_target n xs) (without_target n xs)) (sym (only.1))
only-without n (suc place) it (x ∷ xs) only =
    ap (λ others. x ∷ others) (only-without n place it xs (only.1)) ∙ ap (λ b. cond (not b) (x ∷ without_target n xs) (without_target n xs)) (sym (only.0))

pub only-serial : (n place : ℕ) (it : Registration) (xs : List Registration) → IsOnly n place it xs → serial_of n xs ≡ Some (it.serial)
only-serial n place it [] only = absurd only
only-serial n zero it (x ∷ xs) only =
    ap (λ b. option_map (λ (it : Registration). it.serial) (cond b (Some x) (find (λ (it : Registration). it.target == n) xs))) (only.1) ∙ ap (λ (it : Registration). Some (it.serial)) (sym (only.0))
only-serial n (suc place) it (x ∷ xs) only =
    ap (λ b. option_map (λ (it : Registration). it.serial) (cond b (Some x) (find (λ (it : Registration). it.target == n) xs))) (only.0) ∙ only-serial n place it xs (only.1)

pub only-news : (n place : ℕ) (now : Finding) (it : Registration) (xs : List Registration) → IsOnly n place it xs → is_news it now ≡ is_news_of n now xs
only-news n place now it [] only = absurd only
only-news n zero now it (x ∷ xs) only =
    ap (λ (x : Registration). is_news x now) (only.0) ∙ sym (news_first (is_news x now) (x.target == n) (is_news_of n now xs) (only.1) (none-news n now xs (only.2)))
  where
    news_first : (news is others : Bool) → is ≡ true → others ≡ false → (is && news || others) ≡ news
    news_first true true true first rest = cc
    news_first true true false first rest = refl
    news_first false true true first rest = cc
    news_first false true false first rest = refl
    news_first news false others first rest = cc
only-news n (suc place) now it (x ∷ xs) only =
    only-news n place now it xs (only.1) ∙ ap (λ b. b && is_news x now || is_news_of n now xs) (sym (only.0))

only-settled : (n time place : ℕ) (now : Finding) (it : Registration) (xs : List Registration) → IsOnly n place it xs → set xs place (settled time now it).registration ≡ registrations_once n time now xs
unfolding registrations_once
only-settled n time place now it [] only = absurd only
only-settled n time zero now it (x ∷ xs) only =
    ap (λ (x : Registration). (settled time now x).registration ∷ xs) (only.0)
    ∙ ap (λ others. (settled time now x).registration ∷ others) (sym (none-settled n time now xs (only.2)))
    ∙ ap (λ (b : Bool). (cond b (settled time now x) (record { registration = x; entry = None })).registration ∷ registrations_once n time now xs) (sym (only.1))
only-settled n time (suc place) now it (x ∷ xs) only =
    ap (λ others. x ∷ others) (only-settled n time place now it xs (only.1))
    ∙ ap (λ (b : Bool). (cond b (settled time now x) (record { registration = x; entry = None })).registration ∷ registrations_once n time now xs) (sym (only.0))

alone : (entry : Option Entry) → option_to_list entry ≡ cons_option entry []
alone None = refl
alone (Some entry) = refl

only-queued : (n time place : ℕ) (now : Finding) (it : Registration) (xs : List Registration) → IsOnly n place it xs → option_to_list (settled time now it).entry ≡ entries_once n time now xs
unfolding entries_once
only-queued n time place now it [] only = absurd only
only-queued n time zero now it (x ∷ xs) only =
    ap (λ (x : Registration). option_to_list (settled time now x).entry) (only.0)
    ∙ alone (settled time now x).entry
    ∙ ap (λ others. cons_option (settled time now x).entry others) (sym (none-queued n time now xs (only.2)))
    ∙ ap (λ (b : Bool). cons_option (cond b (settled time now x) (record { registration = x; entry = None })).entry (entries_once n time now xs)) (sym (only.1))
only-queued n time (suc place) now it (x ∷ xs) only =
    only-queued n time place now it xs (only.1)
    ∙ ap (λ (b : Bool). cons_option (cond b (settled time now x) (record { registration = x; entry = None })).entry (entries_once n time now xs)) (sym (only.0))

-- an observer whose registration at a place is settled
pub settled-only : (n time place : ℕ) (now : Finding) (it : Registration) (observer : IntersectionObserver) → IsOnly n place it (observer.registrations)
    → record observer { registrations = set (observer.registrations) place (settled time now it).registration; queue = observer.queue ++ option_to_list (settled time now it).entry } ≡ settled_at n time now observer
unfolding registrations_once entries_once
settled-only n time place now it observer only =
    ap (λ (these : List Registration). record observer { registrations = these; queue = observer.queue ++ option_to_list (settled time now it).entry }) (only-settled n time place now it (observer.registrations) only)
    ∙ ap (λ (these : List Entry). record observer { registrations = registrations_once n time now (observer.registrations); queue = observer.queue ++ these }) (only-queued n time place now it (observer.registrations) only)

-- no news of it

pub only-itself : (n place : ℕ) (it : Registration) (xs : List Registration) → IsOnly n place it xs → set xs place it ≡ xs
only-itself n place it [] only = absurd only
only-itself n zero it (x ∷ xs) only = ap (λ (y : Registration). y ∷ xs) (only.0)
only-itself n (suc place) it (x ∷ xs) only = ap (λ others. x ∷ others) (only-itself n place it xs (only.1))

same_number : (previous : Option ℕ) (index : ℕ) → is_number previous index ≡ true → Some index ≡ previous
same_number None index same = cc
same_number (Some m) index same = ap Some (sym (eqb-true m index same))

same_bool : (a b : Bool) → is_same_bool a b ≡ true → b ≡ a
same_bool true true same = refl
same_bool true false same = cc
same_bool false true same = cc
same_bool false false same = refl

both : (a b : Bool) → not (a && b) ≡ false → (a ≡ true) × (b ≡ true)
both true true none = (refl, refl)
both true false none = cc
both false b none = cc

pub quiet-registration : (time : ℕ) (now : Finding) (it : Registration) → is_news it now ≡ false → (settled time now it).registration ≡ it
quiet-registration time now it none =
    let same : (is_number (it.previous_index) (now.index) ≡ true) × (is_same_bool (it.met) (now.meets) ≡ true) = both (is_number (it.previous_index) (now.index)) (is_same_bool (it.met) (now.meets)) none in
    ap (λ (previous : Option ℕ). record it { previous_index = previous; met = now.meets }) (same_number (it.previous_index) (now.index) (same.0))
    ∙ ap (λ (met : Bool). record it { met = met }) (same_bool (it.met) (now.meets) (same.1))

pub quiet-entry : (time : ℕ) (now : Finding) (it : Registration) → is_news it now ≡ false → (settled time now it).entry ≡ None
quiet-entry time now it none = ap (λ b. cond b (Some (record { target = it.target; time = time; finding = now })) None) none

-- what is no news changes nothing
pub settled-quiet : (n time place : ℕ) (now : Finding) (it : Registration) (observer : IntersectionObserver) → IsOnly n place it (observer.registrations) → is_news it now ≡ false
    → observer ≡ settled_at n time now observer
settled-quiet n time place now it observer only none =
    ap (λ (these : List Registration). record observer { registrations = these }) (sym (ap (set (observer.registrations) place) (quiet-registration time now it none) ∙ only-itself n place it (observer.registrations) only))
    ∙ ap (λ (these : List Entry). record observer { registrations = set (observer.registrations) place (settled time now it).registration; queue = these }) (sym (append-nil (observer.queue)))
    ∙ ap (λ (entry : Option Entry). record observer { registrations = set (observer.registrations) place (settled time now it).registration; queue = observer.queue ++ option_to_list entry }) (sym (quiet-entry time now it none))
    ∙ settled-only n time place now it observer only

-- a target that has no serial number has no registration
pub serial-none-without : (n : ℕ) (xs : List Registration) → serial_of n xs ≡ None → without_target n xs ≡ xs
serial-none-without n [] none = refl
serial-none-without n (x ∷ xs) none =
    elim (x.target == n) as (λ is. option_map (λ (it : Registration). it.serial) (cond is (Some x) (find (λ (it : Registration). it.target == n) xs)) ≡ None → cond (not is) (x ∷ without_target n xs) (without_target n xs) ≡ x ∷ xs) [
      | true ↦ λ absent. cc
      | false ↦ λ absent. ap (λ others. x ∷ others) (serial-none-without n xs absent)
    ] none
