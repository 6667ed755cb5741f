-- What a page keeps of registrations, through its commands.
use Rattle.std.proofs.Common.{◌≡◌, ◌∙◌, ℕ, ◌<◌, Bool, true, false, cond, ◌==◌, List, [], ◌∷◌, Option, Some, None, Ok, option_map, is_some, find, length, ap, refl, sym, subst, arith, tests}
use Rattle.std.specs.List.{All}
use Rattle.std.specs.Option.{IsSome}
use Rattle.std.specs.Ordering.{nat_cmp}
use Rattle.std.specs.Cmp.{nat_cmp_total, unsigned_tied}
use Rattle.std.specs.FinMap.{FinMap, get, insert, remove, contains_key, get-insert, get-remove}
use Rattle.std.proofs.lemmas.Bool.{false≢true}
use Rattle.std.proofs.lemmas.List.Elements.{All-head, All-tail}
use Rattle.script_model.specs.Margins.{Margins}
use Rattle.page_model.specs.World.{Root, Registration, IntersectionObserver, IntersectionObservers}
use Rattle.page_model.specs.Lookups.{no_intersection_observer, intersection_observer_at}
use Rattle.page_model.specs.IntersectionObserving.{is_registered, with_registration, without_registration}
use Rattle.element_tree.specs.declared.container.Container.{Container}
use Rattle.clip_chain.specs.Worlds.{element_spot, spot_of_root}
use Rattle.intersection_observer.specs.declared.registration.RegistrationId.{RegistrationId}
use Rattle.intersection_observer.specs.Answers.{Registers}
use Rattle.intersection_observer.specs.Places.{Standing as Place, standing_of, IsStanding}
use Rattle.intersection_observer.specs.Serials.{IsFound, HasSerials, registrations_at}
use Rattle.intersection_observer.specs.Watchers.{HeldWatchers, once_observed, serial_of, without_target}
use Rattle.intersection_observer.proofs.Entries.{none_from}
use Rattle.intersection_observer.proofs.Only.{serial-none-without}
use Rattle.kept_clips.specs.Touches.{last_touch}
use Rattle.kept_clips.specs.Held.{new_pair, pair_at, spots_of as spots_in}
use Rattle.kept_clips.specs.Seen.{sighting_of}
use Rattle.candidate_index.specs.declared.index.Kept.{Kept}
use Rattle.candidate_index.specs.Held.{kept_of}
use Rattle.candidate_index.proofs.Found.{kept_removed}
use Rattle.kept_findings.specs.Held.{HeldFindings, with_findings, without_findings, IsRoomier}
use Rattle.kept_findings.specs.Registered.{spots_of, AreRegistered}
use Rattle.kept_findings.proofs.Observed.{registered_observed, registered_unobserved}
use Rattle.kept_findings.proofs.Registering.{undone, put_own}
use Rattle.kept_findings.proofs.Settled.{apart_test, kept_other}
use Rattle.page_state.specs.Findings.{KeepsFindings}
use Rattle.intersection_observer.proofs.Counts.{some_from, none_mapped}
use Rattle.intersection_update.proofs.Lists.{unchanged}

-- where nothing is changed, or there is room for more alone

pub same_findings : (before after : IntersectionObservers) {old new : HeldFindings} → new ≡ old → KeepsFindings before after old new
same_findings before after same = record {
  sightings = λ spot. ap (λ (it : HeldFindings). sighting_of it.seen spot) same;
  count = ap (λ (it : HeldFindings). it.clips.touches.count) same;
  touches = λ spot. ap (λ (it : HeldFindings). last_touch it.clips.touches spot) same;
  pairs = λ serial was is. ap (λ (it : HeldFindings). pair_at it.clips serial) same;
  findings = λ serial was is. ap (λ (it : HeldFindings). kept_of it.kept serial) same;
}

pub roomier_then : {first second third : HeldFindings} → IsRoomier first second → IsRoomier second third → IsRoomier first third
roomier_then one two = record {
  pairs = two.pairs ∙ one.pairs;
  kept = two.kept ∙ one.kept;
  seen = λ spot. two.seen spot ∙ one.seen spot;
  count = two.count ∙ one.count;
  touches = λ spot. two.touches spot ∙ one.touches spot;
  room = λ spot may. two.room spot (one.room spot may);
}

-- by serial numbers that stand

module _ {A : Type 0} (it : FinMap nat_cmp A) (serial other : ℕ) (apart : ¬ other ≡ serial) where
  got_put : (value : A) → get (insert it serial value) other ≡ get it other
  got_put value = get-insert nat_cmp_total it serial value other ∙ ap (λ b. cond b (Some value) (get it other)) (unsigned_tied other serial ∙ apart_test other serial apart)

  got_out : get (remove it serial) other ≡ get it other
  got_out = get-remove nat_cmp_total it serial other ∙ ap (λ b. cond b None (get it other)) (unsigned_tied other serial ∙ apart_test other serial apart)

stands_apart : (it : IntersectionObservers) (serial other : ℕ) → standing_of serial it ≡ None → IsStanding other it → ¬ other ≡ serial
stands_apart it serial other none stands same =
    false≢true (sym (ap (λ (o : Option Place). is_some o) none) ∙ ap (λ n. is_some (standing_of n it)) (sym same) ∙ stands)

with_keeps : (before after : IntersectionObservers) (serial : ℕ) (root target : Container) (it : HeldFindings) → standing_of serial before ≡ None → KeepsFindings before after it (with_findings serial root target it)
with_keeps before after serial root target it none = record {
  sightings = λ spot. refl;
  count = refl;
  touches = λ spot. refl;
  pairs = λ other was is. got_put it.clips.pairs serial other (stands_apart before serial other none was) (new_pair root target);
  findings = λ other was is. kept_other it.kept serial other None (stands_apart before serial other none was);
}

without_keeps : (before after : IntersectionObservers) (serial : ℕ) (it : HeldFindings) → standing_of serial after ≡ None → KeepsFindings before after it (without_findings serial it)
without_keeps before after serial it none = record {
  sightings = λ spot. refl;
  count = refl;
  touches = λ spot. refl;
  pairs = λ other was is. got_out it.clips.pairs serial other (stands_apart after serial other none is);
  findings = λ other was is.
      kept_removed it.kept serial other ∙ ap (λ b. cond b None (kept_of it.kept other)) (apart_test other serial (stands_apart after serial other none is));
}

-- one change after the other, by which no registration stands again
pub keeps_then : (first second third : IntersectionObservers) (was then now : HeldFindings) → KeepsFindings first second was then → KeepsFindings second third then now
    → ((serial : ℕ) → IsStanding serial third → IsStanding serial second) → KeepsFindings first third was now
keeps_then first second third was then now one two fewer = record {
  sightings = λ spot. two.sightings spot ∙ one.sightings spot;
  count = two.count ∙ one.count;
  touches = λ spot. two.touches spot ∙ one.touches spot;
  pairs = λ serial at is. two.pairs serial (fewer serial is) is ∙ one.pairs serial at (fewer serial is);
  findings = λ serial at is. two.findings serial (fewer serial is) is ∙ one.findings serial at (fewer serial is);
}

-- a registration that is made

pub registers_some : {there room : Bool} {given : ℕ} {found : Option RegistrationId} {registration : RegistrationId} → found ≡ Some registration → Registers (Ok found) there room given
    → (there ≡ false) × (room ≡ true) × (registration.0 ≡ given)
registers_some {there} {room} {given} is answer = subst (λ (o : Option RegistrationId). Registers (Ok o) there room given) is answer

module _ (watchers : IntersectionObservers) (margins : List Margins) (it : HeldFindings) (serial : ℕ) (registered : AreRegistered watchers margins it) (none : standing_of serial watchers ≡ None) where
  pub no_pair : pair_at it.clips serial ≡ None
  no_pair = none_mapped spots_in (pair_at it.clips serial) (registered.held.pairs serial ∙ ap (λ (place : Option Place). option_map (spots_of watchers) place) none)

  not_added : get it.kept serial ≡ None
  not_added = none_from (get it.kept serial) (registered.held.added serial ∙ ap (λ (place : Option Place). is_some place) none)

  -- what is kept of one that isn't made after all is taken back
  pub taken_back : (root target : Container) → without_findings serial (with_findings serial root target it) ≡ it
  taken_back root target =
      λ i. record it { clips = record (it.clips) { pairs = undone it.clips.pairs serial (new_pair root target) no_pair i }; kept = undone it.kept serial None not_added i }

pub pair_put : (serial : ℕ) (root target : Container) (it now : HeldFindings) → now ≡ with_findings serial root target it → IsSome (pair_at now.clips serial)
pair_put serial root target it now is = subst (λ (h : HeldFindings). IsSome (pair_at h.clips serial)) (sym is) (put_own it.clips.pairs serial (new_pair root target))

module _ (watchers : HeldWatchers) (margins : List Margins) (w n serial : ℕ) (root : Root) (it now : HeldFindings) (serials : HasSerials watchers.part) (registered : AreRegistered watchers.part margins it)
    (number : serial ≡ watchers.part.given) (is : now ≡ with_findings serial (spot_of_root root) (element_spot n) it) where
  none_yet : standing_of serial watchers.part ≡ None
  none_yet = serials.fresh serial (omega (arith, number))

  pub registered_keeps : (after : IntersectionObservers) → KeepsFindings watchers.part after it now
  registered_keeps after = subst (KeepsFindings watchers.part after it) (sym is) (with_keeps watchers.part after serial (spot_of_root root) (element_spot n) it none_yet)

  pub registered_back : (back : HeldFindings) → back ≡ without_findings serial now → back ≡ it
  registered_back back forgotten = forgotten ∙ ap (without_findings serial) is ∙ taken_back watchers.part margins it serial registered none_yet (spot_of_root root) (element_spot n)

  pub registered_one : (after : HeldWatchers) → w < length watchers.part.made → is_registered n (registrations_at watchers.part w) ≡ false → root ≡ (intersection_observer_at watchers.part w).root
      → after ≡ record watchers { part = once_observed w n (watchers.part) } → AreRegistered after.part margins now
  registered_one after there free of observed =
      subst (λ (h : HeldWatchers). AreRegistered h.part margins now) (sym observed)
      (subst (λ b. AreRegistered (cond b (watchers.part) (with_registration w n (watchers.part))) margins now) (sym free)
      (subst (AreRegistered (with_registration w n (watchers.part)) margins) (sym (is ∙ (λ i. with_findings (number i) (spot_of_root (of i)) (element_spot n) it)))
      (registered_observed watchers.part margins w n it serials there free registered)))

-- a registration that is taken out

pub none_without : (it : IntersectionObservers) (w n : ℕ) → serial_of n (registrations_at it w) ≡ None → without_registration w n it ≡ it
none_without it w n none =
    ap (λ (made : List IntersectionObserver). record it { made = made })
    (unchanged no_intersection_observer (λ (each : IntersectionObserver). record each { registrations = without_target n (each.registrations) }) w (it.made)
    (ap (λ (these : List Registration). record (intersection_observer_at it w) { registrations = these }) (serial-none-without n (registrations_at it w) none)))

stands_by : (it : IntersectionObservers) (w n number : ℕ) (these : List Registration) → All (IsFound it w) these → serial_of n these ≡ Some number → is_some (standing_of number it) ≡ true
stands_by it w n number [] all found = cc
stands_by it w n number (x ∷ xs) all found =
    elim (x.target == n) as (λ is. option_map (λ (it : Registration). it.serial) (cond is (Some x) (find (λ (it : Registration). it.target == n) xs)) ≡ Some number → is_some (standing_of number it) ≡ true) [
      | true ↦ λ at.
          subst (λ (o : Option ℕ). is_some (standing_of number it) ≡ true) at
          (ap (λ (o : Option Place). is_some o) (subst (λ s. standing_of s it ≡ Some (record { watcher = w; target = x.target })) (some_same x.serial number at) (All-head (IsFound it w) x xs all)))
      | false ↦ λ at. stands_by it w n number xs (All-tail (IsFound it w) x xs all) at
    ] found
  where
    some_same : (a b : ℕ) → Some a ≡ Some b → a ≡ b
    some_same a b same = cc

module _ (before : IntersectionObservers) (margins : List Margins) (w n : ℕ) (it : HeldFindings) (serials : HasSerials before) (there : w < length before.made) (registered : AreRegistered before margins it) where
  abbrev after : IntersectionObservers
  after = without_registration w n before

  module _ (number : ℕ) (found : serial_of n (registrations_at before w) ≡ Some number) where
    pub pair_there : IsSome (pair_at it.clips number)
    pair_there = some_there (standing_of number before) (stands_by before w n number (registrations_at before w) (serials.found w) found) (registered.held.pairs number)
      where
        some_there : (place : Option Place) → is_some place ≡ true → option_map spots_in (pair_at it.clips number) ≡ option_map (spots_of before) place → is_some (pair_at it.clips number) ≡ true
        some_there None some same = absurd (false≢true some)
        some_there (Some place) some same = some_from spots_in (pair_at it.clips number) (spots_of before place) same

    pub forgotten : AreRegistered after margins (without_findings number it)
    forgotten = registered_unobserved before margins w n number it serials there found registered

    own_out : contains_key (remove it.kept number) number ≡ false
    own_out =
        ap (λ (o : Option (Option Kept)). is_some o)
        (get-remove nat_cmp_total it.kept number number ∙ ap (λ b. cond b None (get it.kept number)) (unsigned_tied number number ∙ eq_own number))
      where
        eq_own : (k : ℕ) → (k == k) ≡ true
        eq_own k = grind (arith, tests)

    gone : standing_of number after ≡ None
    gone = none_from (standing_of number after) (sym (forgotten.held.added number) ∙ own_out)

    pub forgotten_keeps : KeepsFindings before after it (without_findings number it)
    forgotten_keeps = without_keeps before after number it gone

    pub forgotten_fewer : (serial : ℕ) → IsStanding serial after → IsStanding serial before
    forgotten_fewer serial stands =
        sym (registered.held.added serial)
        ∙ ap (λ (o : Option (Option Kept)). is_some o) (sym (got_out it.kept number serial (stands_apart after number serial gone stands)))
        ∙ forgotten.held.added serial
        ∙ stands
