-- Where registrations stand, through changes of the observers.
use Rattle.std.proofs.Common.{◌≡◌, ℕ, zero, suc, ◌<◌, ◌+◌, ◌∙◌, ap, refl, sym, set, get_or, length, arith}
use Rattle.std.specs.Prelude.{Bool, true, false, cond, ◌==◌, ◌||◌, List, [], ◌∷◌, ◌++◌, find, Option, Some, None, option_map}
use Rattle.std.specs.Option.{option_or}
use Rattle.std.proofs.lemmas.Bool.{eq-eqb, or_right}
use Rattle.std.proofs.lemmas.Option.{same_Some}
use Rattle.page_model.specs.World.{Registration, IntersectionObserver}
use Rattle.page_model.specs.Lookups.{entry_or, no_intersection_observer}
use Rattle.page_model.specs.IntersectionObserving.{is_registered}
use Rattle.intersection_observer.specs.Places.{Standing, has_serial, target_in, standing_from}

abbrev pub registrations_in : List IntersectionObserver → ℕ → List Registration
registrations_in made watcher = (entry_or no_intersection_observer made watcher).registrations

abbrev standing : ℕ → Option ℕ → Option Standing
standing watcher found = option_map (λ target. record { watcher = watcher; target = target }) found

-- an observer that has no registrations yet
pub standing-made : (serial watcher : ℕ) (made : List IntersectionObserver) (new : IntersectionObserver) → new.registrations ≡ [] → standing_from serial watcher (made ++ new ∷ []) ≡ standing_from serial watcher made
standing-made serial watcher [] new none = ap (λ (these : List Registration). option_or (standing watcher (target_in serial these)) None) none
standing-made serial watcher (x ∷ xs) new none = ap (option_or (standing watcher (target_in serial (x.registrations)))) (standing-made serial (suc watcher) xs new none)

-- one observer changed, in which the serial number has the same target
pub standing-set :
    (serial watcher : ℕ) (made : List IntersectionObserver) (place : ℕ) (old new : IntersectionObserver) →
    place < length made → old ≡ get_or made place old → target_in serial (new.registrations) ≡ target_in serial (old.registrations) →
    standing_from serial watcher (set made place new) ≡ standing_from serial watcher made
standing-set serial watcher [] place old new there is same = refl
standing-set serial watcher (x ∷ xs) zero old new there is same =
    ap (λ found. option_or (standing watcher found) (standing_from serial (suc watcher) xs)) (same ∙ ap (λ (it : IntersectionObserver). target_in serial (it.registrations)) is)
standing-set serial watcher (x ∷ xs) (suc place) old new there is same =
    ap (option_or (standing watcher (target_in serial (x.registrations)))) (standing-set serial (suc watcher) xs place old new (omega arith) is same)

neither : (first others : Option Standing) → option_or first others ≡ None → (first ≡ None) × (others ≡ None)
neither None others none = (refl, none)
neither (Some x) others none = cc

no_standing : (watcher : ℕ) (found : Option ℕ) → standing watcher found ≡ None → found ≡ None
no_standing watcher None none = refl
no_standing watcher (Some target) none = cc

-- a serial number that stood nowhere
pub standing-new :
    (serial watcher : ℕ) (made : List IntersectionObserver) (place target : ℕ) (new : IntersectionObserver) →
    place < length made → standing_from serial watcher made ≡ None → target_in serial (new.registrations) ≡ Some target →
    standing_from serial watcher (set made place new) ≡ Some (record { watcher = watcher + place; target = target })
standing-new serial watcher [] place target new there none is = absurd (elim there [ ])
standing-new serial watcher (x ∷ xs) zero target new there none is =
    ap (λ found. option_or (standing watcher found) (standing_from serial (suc watcher) xs)) is ∙ ap (λ (n : ℕ). Some (record { watcher = n; target = target })) (omega arith)
standing-new serial watcher (x ∷ xs) (suc place) target new there none is =
    let parts = neither (standing watcher (target_in serial (x.registrations))) (standing_from serial (suc watcher) xs) none in
    ap (λ found. option_or found (standing_from serial (suc watcher) (set xs place new))) (parts.0)
    ∙ standing-new serial (suc watcher) xs place target new (omega arith) (parts.1) is
    ∙ ap (λ (n : ℕ). Some (record { watcher = n; target = target })) (omega arith)

-- a serial number that stands nowhere
pub standing-none : (serial watcher : ℕ) (made : List IntersectionObserver) → ((k : ℕ) → target_in serial (registrations_in made k) ≡ None) → standing_from serial watcher made ≡ None
standing-none serial watcher [] none = refl
standing-none serial watcher (x ∷ xs) none =
    ap (λ found. option_or (standing watcher found) (standing_from serial (suc watcher) xs)) (none 0) ∙ standing-none serial (suc watcher) xs (λ k. none (suc k))

pub none-standing : (serial watcher : ℕ) (made : List IntersectionObserver) → standing_from serial watcher made ≡ None → (k : ℕ) → target_in serial (registrations_in made k) ≡ None
none-standing serial watcher [] none k = refl
none-standing serial watcher (x ∷ xs) none zero = no_standing watcher (target_in serial (x.registrations)) (neither _ _ none).0
none-standing serial watcher (x ∷ xs) none (suc k) = none-standing serial (suc watcher) xs (neither _ _ none).1 k

-- where a serial number stands
pub record StandsAt (serial watcher : ℕ) (made : List IntersectionObserver) (it : Standing) : Type 0 where
  pub place : ℕ
  pub number : it.watcher ≡ watcher + place
  pub there : place < length made
  pub target : target_in serial (registrations_in made place) ≡ Some (it.target)

first_of : (serial watcher : ℕ) (x : IntersectionObserver) (xs : List IntersectionObserver) (it : Standing) (found : Option ℕ) → target_in serial (x.registrations) ≡ found
    → option_or (standing watcher found) (standing_from serial (suc watcher) xs) ≡ Some it → (standing_from serial (suc watcher) xs ≡ Some it → StandsAt serial (suc watcher) xs it) → StandsAt serial watcher (x ∷ xs) it
first_of serial watcher x xs it None is at others =
    let rest : StandsAt serial (suc watcher) xs it = others at in
    record { place = suc rest.place; number = omega (arith, rest.number); there = omega (arith, rest.there); target = rest.target }
first_of serial watcher x xs it (Some target) is at others =
    let same : record { watcher = watcher; target = target } ≡ it = same_Some (record { watcher = watcher; target = target }) it at in
    record { place = 0; number = ap (λ (s : Standing). s.watcher) (sym same) ∙ omega arith; there = omega arith; target = is ∙ ap (λ (s : Standing). Some (s.target)) same }

pub stands_at : (serial watcher : ℕ) (made : List IntersectionObserver) (it : Standing) → standing_from serial watcher made ≡ Some it → StandsAt serial watcher made it
stands_at serial watcher [] it at = cc
stands_at serial watcher (x ∷ xs) it at = first_of serial watcher x xs it (target_in serial (x.registrations)) refl at (stands_at serial (suc watcher) xs it)

-- the target of a serial number is observed
one_found : (serial target : ℕ) (x : Registration) (xs : List Registration) (is : Bool) → option_map (λ (it : Registration). it.target) (cond is (Some x) (find (has_serial serial) xs)) ≡ Some target
    → (target_in serial xs ≡ Some target → is_registered target xs ≡ true) → ((x.target == target) || is_registered target xs) ≡ true
one_found serial target x xs true found others = ap (λ b. b || is_registered target xs) (eq-eqb (x.target) target (same_Some (x.target) target found))
one_found serial target x xs false found others = or_right (x.target == target) (is_registered target xs) (others found)

pub found-registered : (serial target : ℕ) (xs : List Registration) → target_in serial xs ≡ Some target → is_registered target xs ≡ true
found-registered serial target [] found = cc
found-registered serial target (x ∷ xs) found = one_found serial target x xs (x.serial == serial) found (found-registered serial target xs)

-- the registrations of an observer by its number

pub at-made : (made : List IntersectionObserver) (new : IntersectionObserver) → new.registrations ≡ [] → (k : ℕ) → registrations_in (made ++ new ∷ []) k ≡ registrations_in made k
at-made [] new none zero = none
at-made [] new none (suc k) = refl
at-made (x ∷ xs) new none zero = refl
at-made (x ∷ xs) new none (suc k) = at-made xs new none k

pub at-place : (made : List IntersectionObserver) (place : ℕ) (old : IntersectionObserver) → place < length made → old ≡ get_or made place old → registrations_in made place ≡ old.registrations
at-place [] place old there is = absurd (elim there [ ])
at-place (x ∷ xs) zero old there is = ap (λ (it : IntersectionObserver). it.registrations) (sym is)
at-place (x ∷ xs) (suc place) old there is = at-place xs place old (omega arith) is

-- what holds of the changed observer's registrations, and of each other's
pub at-set :
    (P : ℕ → List Registration → Type 0) (made : List IntersectionObserver) (place : ℕ) (new : IntersectionObserver) → place < length made →
    P place (new.registrations) → ((k : ℕ) → (k ≡ place → ⊥) → P k (registrations_in made k)) → (k : ℕ) → P k (registrations_in (set made place new) k)
at-set P [] place new there here others k = absurd (elim there [ ])
at-set P (x ∷ xs) zero new there here others zero = here
at-set P (x ∷ xs) zero new there here others (suc k) = others (suc k) (λ same. omega (arith, same))
at-set P (x ∷ xs) (suc place) new there here others zero = others 0 (λ same. omega (arith, same))
at-set P (x ∷ xs) (suc place) new there here others (suc k) =
    at-set (λ j. P (suc j)) xs place new (omega arith) here (λ j apart. others (suc j) (λ same. apart (omega (arith, same)))) k

-- a registration that stands is one of its observer's
pub stands-there : (serial : ℕ) (made : List IntersectionObserver) (it : Standing) → standing_from serial 0 made ≡ Some it → it.watcher < length made
stands-there serial made it found = let at : StandsAt serial 0 made it = stands_at serial 0 made it found in omega (arith, at.number, at.there)

pub stands-registered : (serial : ℕ) (made : List IntersectionObserver) (it : Standing) → standing_from serial 0 made ≡ Some it → is_registered (it.target) (registrations_in made (it.watcher)) ≡ true
stands-registered serial made it found =
    let at : StandsAt serial 0 made it = stands_at serial 0 made it found in
    let same : it.watcher ≡ at.place = omega (arith, at.number) in
    ap (λ n. is_registered (it.target) (registrations_in made n)) same ∙ found-registered serial (it.target) (registrations_in made at.place) at.target
