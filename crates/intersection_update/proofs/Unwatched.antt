-- An update of a document none of whose observers has a registration changes nothing.
use Rattle.std.proofs.Common.{◌≡◌, ◌<◌, ◌∙◌, ℕ, zero, suc, Bool, true, false, List, [], ◌∷◌, length, refl, ap, sym, true≢false, append-nil, arith}
use Rattle.std.specs.Prelude.{cond, ◌&&◌, ◌||◌, nat_lt, map, filter_map, slice_get, ◌++◌, Option, Some, None, is_some, unwrap_or}
use Rattle.std.specs.List.{list_any}
use Rattle.std.proofs.lemmas.Bool.{or_parts}
use Rattle.script_model.specs.Margins.{Margins}
use Rattle.page_model.specs.Shown.{Shown}
use Rattle.page_model.specs.World.{Tree, Finding, Entry, Registration, IntersectionObserver, IntersectionObservers}
use Rattle.page_model.specs.Lookups.{entry_or, no_intersection_observer, intersection_observer_at}
use Rattle.page_model.specs.IntersectionObserving.{is_registered}
use Rattle.page_model.specs.Intersections.{is_rooted_in, watchers, Settled, settled, settled_observer, has_queued}
use Rattle.intersection_observer.specs.Places.{Standing, standing_of}
use Rattle.intersection_observer.specs.Serials.{registrations_at}
use Rattle.intersection_observer.proofs.Standing.{stands-there, stands-registered}
use Rattle.intersection_update.specs.Watching.{is_watching, is_watched}
use Rattle.intersection_update.specs.Updating.{found_through, updated, has_news, settled_if_rooted, AreSettled}
use Rattle.intersection_update.specs.Keeping.{IsLookedAt}
use Rattle.intersection_update.proofs.Lists.{map_from, each_place}
use Rattle.intersection_update.proofs.Nowhere.{not_less}
use Rattle.intersection_update.proofs.Updates.{in_turn, not_queued}
use Rattle.intersection_update.proofs.Watched.{any_at}

empty : (xs : List Registration) → nat_lt 0 (length xs) ≡ false → xs ≡ []
empty [] is = refl
empty (x ∷ xs) is = absurd (omega (arith, not_less 0 (length (x ∷ xs)) is))

-- an observer without registrations is settled as it is
settled_empty : (time : ℕ) (find : IntersectionObserver → ℕ → Finding) (x : IntersectionObserver) → x.registrations ≡ [] → settled_observer time find x ≡ x
settled_empty time find x none =
    ap (λ (these : List Registration). record x {
      registrations = map (λ (it : Settled). it.registration) (map (λ (each : Registration). settled time (find x (each.target)) each) these);
      queue = x.queue ++ filter_map (λ (it : Settled). it.entry) (map (λ (each : Registration). settled time (find x (each.target)) each) these);
    }) none
    ∙ ap (λ (queue : List Entry). record x { registrations = []; queue = queue }) (append-nil (x.queue))
    ∙ ap (λ (these : List Registration). record x { registrations = these }) (sym none)

module _ (shown : Shown) (margins : List Margins) (tree : Tree) (document time : ℕ) where
  stays : (n : ℕ) (x : IntersectionObserver) (is : Bool) → (is && nat_lt 0 (length x.registrations)) ≡ false → cond is (settled_observer time (found_through shown margins n) x) x ≡ x
  stays n x true none = settled_empty time (found_through shown margins n) x (empty (x.registrations) none)
  stays n x false none = refl

  all_stay : (first : ℕ) (made : List IntersectionObserver) → list_any (is_watching tree document) made ≡ false → map_from first (settled_if_rooted shown margins tree document time) made ≡ made
  all_stay first [] none = refl
  all_stay first (x ∷ xs) none =
      let parts = or_parts (is_watching tree document x) (list_any (is_watching tree document) xs) none in
      ap (λ (y : IntersectionObserver). y ∷ map_from (suc first) (settled_if_rooted shown margins tree document time) xs) (stays first x (is_rooted_in tree document (x.root)) parts.0)
      ∙ ap (λ (ys : List IntersectionObserver). x ∷ ys) (all_stay (suc first) xs parts.1)

  pub unwatched_same : (it : IntersectionObservers) → is_watched tree document it ≡ false → updated shown margins tree document time it ≡ it
  unwatched_same it none =
      in_turn shown margins time (watchers tree document it) it
      ∙ ap (λ (made : List IntersectionObserver). record it { made = made })
      (each_place no_intersection_observer (λ (x : IntersectionObserver). is_rooted_in tree document (x.root)) (λ n x. settled_observer time (found_through shown margins n) x) (it.made)
      ∙ all_stay 0 (it.made) none)

pub none_queued : (it : IntersectionObservers) (numbers : List ℕ) → list_any (has_queued it it) numbers ≡ false
none_queued it [] = refl
none_queued it (n ∷ ns) = ap (λ b. b || list_any (has_queued it it) ns) (not_queued (length (intersection_observer_at it n).queue)) ∙ none_queued it ns

pub unwatched_told : (shown : Shown) (margins : List Margins) (tree : Tree) (document time : ℕ) (it : IntersectionObservers) → is_watched tree document it ≡ false →
    false ≡ has_news tree document it (updated shown margins tree document time it)
unwatched_told shown margins tree document time it none =
    sym (ap (has_news tree document it) (unwatched_same shown margins tree document time it none) ∙ none_queued it (watchers tree document it))

positive : (n : ℕ) → nat_lt 0 (suc n) ≡ true
positive n = grind arith

some_there : (target : ℕ) (xs : List Registration) → is_registered target xs ≡ true → nat_lt 0 (length xs) ≡ true
some_there target [] is = absurd (true≢false (sym is))
some_there target (x ∷ xs) is = positive (length xs)

not_at : (tree : Tree) (document serial : ℕ) (it : IntersectionObservers) → is_watched tree document it ≡ false → (place : Option Standing) → standing_of serial it ≡ place → is_some place ≡ true →
    is_rooted_in tree document (intersection_observer_at it (unwrap_or place (record { watcher = 0; target = 0 })).watcher).root ≡ true → ⊥
not_at tree document serial it none None is some rooted = true≢false (sym some)
not_at tree document serial it none (Some place) is some rooted =
    let x : IntersectionObserver = intersection_observer_at it place.watcher in
    let watching : is_watching tree document x ≡ true =
    ap (λ b. b && nat_lt 0 (length x.registrations)) rooted ∙ some_there place.target (x.registrations) (stands-registered serial (it.made) place is)
    in
    true≢false (sym (any_at (is_watching tree document) no_intersection_observer (it.made) place.watcher (stands-there serial (it.made) place is) watching) ∙ none)

pub none_looked_at : (tree : Tree) (document serial : ℕ) (it : IntersectionObservers) → is_watched tree document it ≡ false → IsLookedAt tree document it serial → ⊥
none_looked_at tree document serial it none looked = not_at tree document serial it none (standing_of serial it) refl looked.standing looked.rooted

some_of : (place : ℕ) (xs : List Registration) (x : Registration) → slice_get xs place ≡ Some x → nat_lt 0 (length xs) ≡ true
some_of place [] x is = absurd (let no : ⊥ = cc in no)
some_of place (y ∷ ys) x is = positive (length ys)

inside : (made : List IntersectionObserver) (n : ℕ) → nat_lt 0 (length (entry_or no_intersection_observer made n).registrations) ≡ true → n < length made
inside [] n some = absurd (true≢false (sym some))
inside (x ∷ xs) zero some = omega arith
inside (x ∷ xs) (suc n) some = let there : n < length xs = inside xs n some in omega (arith, there)

pub unwatched_settled : (shown : Shown) (margins : List Margins) (document : ℕ) (it : IntersectionObservers) → is_watched shown.tree document it ≡ false → AreSettled shown margins document it it
unwatched_settled shown margins document it none watcher place registration rooted at =
    let some : nat_lt 0 (length (registrations_at it watcher)) ≡ true = some_of place (registrations_at it watcher) registration at in
    let watching : is_watching shown.tree document (intersection_observer_at it watcher) ≡ true =
    ap (λ b. b && nat_lt 0 (length (registrations_at it watcher))) rooted ∙ some
    in
    absurd (true≢false (sym (any_at (is_watching shown.tree document) no_intersection_observer (it.made) watcher (inside (it.made) watcher some) watching) ∙ none))
