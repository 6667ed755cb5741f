-- The stale registrations of an observer settled one after the other, which settles all of them.
use Rattle.std.proofs.Common.{◌≡◌, ◌∙◌, ℕ, zero, suc, ◌<◌, ◌≤◌, ◌+◌, Bool, false, List, [], ◌∷◌, length, take, filter, map, get_or, Option, Some, None, option_map, unwrap_or, refl, ap, sym, subst, arith}
use Rattle.std.specs.Prelude.{◌&&◌, ◌==◌, not, slice_get, IsSome, IfSome, All}
use Rattle.std.specs.List.{list_any, AllByRecursion}
use Rattle.std.specs.FinMap.{FinMap}
use Rattle.std.specs.Ordering.{nat_cmp}
use Rattle.std.proofs.lemmas.List.{take_all, length-map}
use Rattle.std.proofs.lemmas.Option.{slice_get-map}
use Rattle.std.proofs.lemmas.List.Elements.{All-head, All-tail, All-filter, All-take}
use Rattle.script_model.specs.Margins.{Margins}
use Rattle.page_model.specs.Shown.{Shown}
use Rattle.page_model.specs.World.{Finding, Registration, IntersectionObserver, IntersectionObservers}
use Rattle.page_model.specs.Documents.{is_number}
use Rattle.page_model.specs.Lookups.{intersection_observer_at, scroll_margins_at, change_intersection_observer}
use Rattle.page_model.specs.Findings.{finding}
use Rattle.page_model.specs.Intersections.{is_same_bool, settled_observer}
use Rattle.element_tree.specs.declared.container.Container.{Container}
use Rattle.clip_chain.specs.Worlds.{scene_of}
use Rattle.intersection_observer.specs.declared.registration.RegistrationId.{RegistrationId}
use Rattle.intersection_observer.specs.Places.{Standing as Place, standing_of}
use Rattle.intersection_observer.specs.Seen.{seen_finding, serial_numbers}
use Rattle.intersection_observer.specs.Serials.{HasSerials, IsFound, registrations_at}
use Rattle.intersection_observer.specs.Settling.{with_settled, each_settled, is_news_at, is_news_for}
use Rattle.intersection_observer.proofs.Settling.{observer_settled}
use Rattle.candidate_index.specs.declared.index.Kept.{Kept}
use Rattle.candidate_index.specs.Findings.{finding_over}
use Rattle.candidate_index.specs.Registrations.{place_of, target_of, serials_at, finding_for, IsBetween}
use Rattle.candidate_index.specs.Held.{kept_of, is_stale_now}
use Rattle.candidate_index.proofs.Same.{still_kept}
use Rattle.kept_findings.specs.Held.{HeldFindings}
use Rattle.kept_findings.specs.Walks.{chain_between, spots_between, found_in}
use Rattle.kept_findings.specs.Views.{seen_by, seen_for}
use Rattle.kept_findings.specs.Registered.{AreRegistered}
use Rattle.kept_findings.specs.Stale.{chosen, IsQuiet}
use Rattle.kept_findings.proofs.Walking.{is_between}
use Rattle.kept_findings.proofs.Stale.{chosen_serials, Reached, reached, skipped}
use Rattle.page_geometry.specs.Scenes.{IsPageTree, standings_of, telling_of}
use Rattle.page_geometry.proofs.Scenes.{finding_is}
use Rattle.intersection_update.specs.Keeping.{HaveChains, is_stale_in}
use Rattle.intersection_update.specs.Updating.{found_through, AreAlike, Carried, IsBegun}
use Rattle.intersection_update.proofs.Carried.{carried_each, target_still}
use Rattle.intersection_update.proofs.Registrations.{by_parts, found_by, each_more, take_more}

-- the registration at a place of a list, by its serial number
pub record IsAt (xs : List Registration) (P : Registration → Type 0) (place serial : ℕ) : Type 0 where
  pub registration : Registration
  pub at : slice_get xs place ≡ Some registration
  pub number : registration.serial ≡ serial
  pub holds : P registration

abbrev head : ℕ → List ℕ → ℕ
head none [] = none
head none (x ∷ xs) = x

abbrev tail : List ℕ → List ℕ
tail [] = []
tail (x ∷ xs) = xs

is_at : (P : Registration → Type 0) (names : List RegistrationId) (xs : List Registration) (place : ℕ) (none : RegistrationId) →
    serial_numbers names ≡ map (λ (it : Registration). it.serial) xs → All P xs → place < length names → IsAt xs P place ((get_or names place none).0)
is_at P [] xs place none same all there = absurd (elim there [ ])
is_at P (n ∷ names) [] place none same all there = cc
is_at P (n ∷ names) (x ∷ xs) zero none same all there = record {
  registration = x;
  at = refl;
  number = sym (ap (head 0) same);
  holds = All-head P x xs all;
}
is_at P (n ∷ names) (x ∷ xs) (suc place) none same all there =
    let rest : IsAt xs P place ((get_or names place none).0) = is_at P names xs place none (ap tail same) (All-tail P x xs all) (omega (arith, there)) in
    record { registration = rest.registration; at = rest.at; number = rest.number; holds = rest.holds }

-- where an observer stops, and the registration there
pub record StopsAt (shown : Shown) (margins : List Margins) (time watcher : ℕ) (was now : IntersectionObservers) (serial : ℕ) : Type 0 where
  pub begun : IsBegun shown margins time watcher was now
  pub here : slice_get (serials_at was watcher) begun.place ≡ Some serial

-- observers that are alike find the same
finds_alike : (shown : Shown) (scroll : Margins) (a b : IntersectionObserver) (target : ℕ) → AreAlike a b → finding shown scroll b target ≡ finding shown scroll a target
finds_alike shown scroll a b target alike =
    by_parts shown scroll b target ∙ (λ i. found_by shown scroll (alike.root i) (alike.margins i) (alike.thresholds i) target) ∙ sym (by_parts shown scroll a target)

-- what is news depends on index and meeting alone
news_same : (o : Option Place) (f g : Finding) (it : IntersectionObservers) → f.index ≡ g.index → f.meets ≡ g.meets → is_news_at o f it ≡ is_news_at o g it
news_same None f g it index meets = refl
news_same (Some p) f g it index meets = λ i.
    list_any (λ (r : Registration). (r.target == p.target) && not (is_number (r.previous_index) (index i) && is_same_bool (r.met) (meets i))) (registrations_at it (p.watcher))

quiet_by : (serial : ℕ) (f : Finding) (it : IntersectionObservers) (last : Option Kept) → IsSome last → IfSome last (λ (k : Kept). seen_finding k.finding ≡ f) →
    IfSome last (λ (k : Kept). is_news_for serial (seen_finding k.finding) it ≡ false) → is_news_for serial f it ≡ false
quiet_by serial f it None some same quiet = let no : false ≡ Bool.true = some in cc
quiet_by serial f it (Some k) some same quiet = ap (λ (g : Finding). is_news_for serial g it) (sym same) ∙ quiet

module _ (shown : Shown) (margins : List Margins) (chained : HaveChains shown) (time watcher : ℕ) (was : IntersectionObservers) (kept : HeldFindings) where
  abbrev find : ℕ → Finding
  find target = found_through shown margins watcher (intersection_observer_at was watcher) target

  abbrev stale : ℕ → Bool
  stale serial = is_stale_in shown margins chained was kept.kept serial

  -- the stale ones, in order
  abbrev pub stale_ones : List Registration
  stale_ones = chosen stale (registrations_at was watcher)

  -- the first of them settled
  abbrev pub first_stale : ℕ → IntersectionObservers
  first_stale k = each_settled time find (take k stale_ones) was

  -- as they are listed
  pub numbers_are : (names items : List RegistrationId) (now : HeldFindings) → names ≡ items → now.kept ≡ kept.kept →
      ((between : ℕ → List Container) → All (IsBetween (scene_of shown) (standings_of shown) was between) (serials_at was watcher) →
      serial_numbers items ≡ filter (λ serial. is_stale_now (seen_for was margins serial (scene_of shown)) (standings_of shown) was between now.kept serial) (serials_at was watcher)) →
      serial_numbers names ≡ filter stale (serials_at was watcher)
  numbers_are names items now named same listed =
      let between = spots_between (scene_of shown) (standings_of shown) chained was in
      ap serial_numbers named
      ∙ listed between (λ k none below. is_between (scene_of shown) (standings_of shown) chained was (get_or (serials_at was watcher) k none))
      ∙ ap (λ (it : FinMap nat_cmp (Option Kept)). filter (λ serial. is_stale_now (seen_for was margins serial (scene_of shown)) (standings_of shown) was between it serial) (serials_at was watcher)) same

  pub as_many : (names : List RegistrationId) → serial_numbers names ≡ filter stale (serials_at was watcher) → length stale_ones ≡ length names
  as_many names same =
      sym (length-map stale_ones (λ (r : Registration). r.serial))
      ∙ ap (λ (ns : List ℕ). length ns) (chosen_serials stale (registrations_at was watcher) ∙ sym same)
      ∙ length-map names (λ (r : RegistrationId). r.0)

  module _ (page : IsPageTree shown.tree) (serials : HasSerials was) where
    pub next_of : (names : List RegistrationId) (none : RegistrationId) (k : ℕ) → serial_numbers names ≡ filter stale (serials_at was watcher) → k < length names →
        IsAt stale_ones (IsFound was watcher) k ((get_or names k none).0)
    next_of names none k same there =
        is_at (IsFound was watcher) names stale_ones k none (same ∙ sym (chosen_serials stale (registrations_at was watcher)))
        (All-filter (λ (r : Registration). stale (r.serial)) (IsFound was watcher) (registrations_at was watcher) (serials.found watcher)) there

    -- where it stands
    pub stands : (k serial : ℕ) (now : IntersectionObservers) → IsAt stale_ones (IsFound was watcher) k serial → Carried was now →
        standing_of serial now ≡ Some (record { watcher = watcher; target = target_of now serial })
    stands k serial now it carried =
        let there : standing_of serial now ≡ Some (record { watcher = watcher; target = it.registration.target }) =
        carried.standing serial ∙ ap (λ n. standing_of n was) (sym it.number) ∙ it.holds in
        there ∙ ap (λ (o : Option Place). Some (record { watcher = watcher; target = (unwrap_or o (record { watcher = 0; target = 0 })).target })) (sym there)

    pub next_settled : (k serial : ℕ) (now next : IntersectionObservers) → IsAt stale_ones (IsFound was watcher) k serial → now ≡ first_stale k →
        next ≡ with_settled serial time (found_in (scene_of shown) (standings_of shown) chained (telling_of shown) (scroll_margins_at margins watcher) (intersection_observer_at now watcher) (target_of now serial)) now →
        next ≡ first_stale (k + 1)
    next_settled k serial now next it is settled =
        let carried : Carried was now = subst (Carried was) (sym is) (carried_each time find (take k stale_ones) was) in
        let x : Registration = it.registration in
        let one_more : suc k ≡ k + 1 = omega arith in
        let target : target_of now serial ≡ x.target =
        target_still was now carried serial ∙ ap (λ n. target_of was n) (sym it.number) ∙ ap (λ (o : Option Place). (unwrap_or o (record { watcher = 0; target = 0 })).target) it.holds in
        let finds : found_in (scene_of shown) (standings_of shown) chained (telling_of shown) (scroll_margins_at margins watcher) (intersection_observer_at now watcher) (target_of now serial) ≡ find (x.target) =
        sym (finding_is shown page chained (scroll_margins_at margins watcher) (intersection_observer_at now watcher) (target_of now serial))
        ∙ finds_alike shown (scroll_margins_at margins watcher) (intersection_observer_at was watcher) (intersection_observer_at now watcher) (target_of now serial) (carried.alike watcher)
        ∙ ap find target in
        settled
        ∙ ap (λ (f : Finding). with_settled serial time f now) finds
        ∙ ap (λ n. with_settled n time (find (x.target)) now) (sym it.number)
        ∙ ap (with_settled (x.serial) time (find (x.target))) is
        ∙ sym (each_more time find (take k stale_ones) x was)
        ∙ ap (λ (these : List Registration). each_settled time find these was) (sym (take_more k stale_ones x it.at))
        ∙ ap first_stale one_more

    module _ (registered : AreRegistered was margins kept) where
      quiet_one : (x : Registration) → IsFound was watcher x → IsQuiet stale find watcher was x
      quiet_one x found = record {
        found = found;
        quiet = λ passed.
            let scene = scene_of shown in
            let view = seen_for was margins x.serial scene in
            let standings = standings_of shown in
            let between = spots_between scene standings chained was in
            let last = still_kept view standings was between (kept.kept) (x.serial) registered.held.found passed in
            let at : Place → Finding = λ p. finding_over (seen_by was margins p.watcher scene) (standings (intersection_observer_at was p.watcher).root p.target) (intersection_observer_at was p.watcher) (p.target) (chain_between scene standings chained (intersection_observer_at was p.watcher).root p.target) in
            let place : place_of was x.serial ≡ record { watcher = watcher; target = x.target } = ap (λ (o : Option Place). unwrap_or o (record { watcher = 0; target = 0 })) found in
            let told : find (x.target) ≡ found_in scene standings chained (telling_of shown) (scroll_margins_at margins watcher) (intersection_observer_at was watcher) (x.target) = finding_is shown page chained (scroll_margins_at margins watcher) (intersection_observer_at was watcher) (x.target) in
            news_same (standing_of x.serial was) (find (x.target)) (finding_for view standings was x.serial (between x.serial)) was
            (ap (λ (f : Finding). f.index) told ∙ ap (λ (p : Place). (at p).index) (sym place))
            (ap (λ (f : Finding). f.meets) told ∙ ap (λ (p : Place). (at p).meets) (sym place))
            ∙ quiet_by x.serial (finding_for view standings was x.serial (between x.serial)) was (kept_of kept.kept x.serial) (last.0) (last.1) (registered.settled x.serial);
      }

      quiet_ones : (xs : List Registration) → All (IsFound was watcher) xs → AllByRecursion (IsQuiet stale find watcher was) xs
      quiet_ones [] all = tt
      quiet_ones (x ∷ xs) all = (quiet_one x (All-head (IsFound was watcher) x xs all), quiet_ones xs (All-tail (IsFound was watcher) x xs all))

      -- once all of them are settled, the observer is
      pub stale_settled : (k : ℕ) → length stale_ones ≤ k → first_stale k ≡ change_intersection_observer (settled_observer time (found_through shown margins watcher)) watcher was
      stale_settled k past =
          ap (λ (these : List Registration). each_settled time find these was) (take_all k stale_ones past)
          ∙ skipped stale time find watcher (registrations_at was watcher) was serials (quiet_ones (registrations_at was watcher) (serials.found watcher))
          ∙ observer_settled time (found_through shown margins watcher) watcher was serials

      -- where it stops at one of them, those before it are settled
      pub stopped_at : (k serial : ℕ) (now : IntersectionObservers) → IsAt stale_ones (IsFound was watcher) k serial → k < length stale_ones → now ≡ first_stale k → StopsAt shown margins time watcher was now serial
      stopped_at k serial now it there is =
          let far : Reached stale (registrations_at was watcher) k = reached stale (registrations_at was watcher) k there in
          record {
            begun = record {
              place = far.place;
              settled =
                  is
                  ∙ ap (λ (these : List Registration). each_settled time find these was) far.before
                  ∙ skipped stale time find watcher (take far.place (registrations_at was watcher)) was serials
                  (quiet_ones (take far.place (registrations_at was watcher)) (All-take (IsFound was watcher) far.place (registrations_at was watcher) (serials.found watcher)));
            };
            here =
                slice_get-map (λ (r : Registration). r.serial) (registrations_at was watcher) far.place
                ∙ ap (option_map (λ (r : Registration). r.serial)) (far.here ∙ it.at)
                ∙ ap Some it.number;
          }
