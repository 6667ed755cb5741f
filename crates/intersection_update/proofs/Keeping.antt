-- What is kept of registrations while those that are stale are settled.
use Rattle.std.proofs.Common.{◌≡◌, ◌∙◌, ℕ, ◌<◌, ◌≤◌, ◌+◌, Bool, true, false, cond, List, [], ◌∷◌, length, filter, map, get_or, Option, Some, None, unwrap_or, refl, ap, sym, subst, inl, inr, arith}
use Rattle.std.specs.Prelude.{◌⊎◌, All, slice_get}
use Rattle.std.specs.FinMap.{FinMap}
use Rattle.std.specs.Ordering.{nat_cmp}
use Rattle.std.proofs.lemmas.Bool.{false≢true}
use Rattle.std.proofs.lemmas.List.{get_or_default}
use Rattle.std.proofs.lemmas.List.Elements.{All-head, All-tail, All-cons, All-nil, All-weaker, filter_passes}
use Rattle.script_model.specs.Margins.{Margins}
use Rattle.page_model.specs.Shown.{Shown}
use Rattle.page_model.specs.World.{Registration, IntersectionObservers}
use Rattle.element_tree.specs.declared.container.Container.{Container}
use Rattle.clip_chain.specs.Worlds.{scene_of}
use Rattle.intersection_observer.specs.declared.registration.RegistrationId.{RegistrationId}
use Rattle.intersection_observer.specs.Places.{Standing as Place, target_in}
use Rattle.intersection_observer.specs.Seen.{serial_numbers}
use Rattle.intersection_observer.specs.Serials.{HasSerials, IsFound, registrations_at}
use Rattle.intersection_observer.proofs.Standing.{StandsAt as StandsIn, stands_at}
use Rattle.intersection_observer.proofs.Subjects.{found-all}
use Rattle.kept_clips.specs.Touches.{Touched, last_touch}
use Rattle.kept_clips.specs.Seen.{Seen, sighting_of, sighting_in}
use Rattle.kept_clips.specs.Looked.{IsLeft, ChangesByLooks, Looked}
use Rattle.candidate_index.specs.declared.index.Kept.{Kept}
use Rattle.candidate_index.specs.Registrations.{place_of, target_of, serials_at, basis_for}
use Rattle.candidate_index.specs.Held.{kept_of, is_stale}
use Rattle.kept_findings.specs.Held.{HeldFindings}
use Rattle.kept_findings.specs.Looks.{LookedAt, IsNoted}
use Rattle.kept_findings.specs.Walks.{AlongChain, IsNot, spots_between}
use Rattle.kept_findings.specs.Views.{seen_for}
use Rattle.kept_findings.proofs.Settled.{numbers_apart}
use Rattle.kept_findings.proofs.Walking.{all_serials, at_serial, along_weaker}
use Rattle.page_geometry.specs.Scenes.{standings_of}
use Rattle.intersection_update.specs.Keeping.{HaveChains, is_stale_in, StandsAt, IsSeen, AreLookedAlong, AreKeptTo, HaveLooked}
use Rattle.kept_findings.proofs.Viewing.{all_to_map}

abbrev Map : Type 0
Map = FinMap nat_cmp (Option Kept)

-- a fact of each registration of an observer is one of that which stands there

all_of_map : (P : ℕ → Type 0) (xs : List Registration) → All P (map (λ (r : Registration). r.serial) xs) → All (λ (r : Registration). P (r.serial)) xs
all_of_map P [] all = All-nil (λ (r : Registration). P (r.serial))
all_of_map P (x ∷ xs) all =
    All-cons (λ (r : Registration). P (r.serial)) x xs (All-head P x.serial (map (λ (r : Registration). r.serial) xs) all) (all_of_map P xs (All-tail P x.serial (map (λ (r : Registration). r.serial) xs) all))

pub at_standing : (P : ℕ → Type 0) (it : IntersectionObservers) (watcher serial : ℕ) → StandsAt it watcher serial → All P (serials_at it watcher) → P serial
at_standing P it watcher serial stands all =
    let at : StandsIn serial 0 (it.made) (record { watcher = watcher; target = target_of it serial }) = stands_at serial 0 (it.made) (record { watcher = watcher; target = target_of it serial }) stands in
    let same : at.place ≡ watcher = omega (arith, at.number) in
    found-all (λ each. P (each.0)) serial (target_of it serial) (registrations_at it watcher)
    (subst (λ w. target_in serial (registrations_at it w) ≡ Some (target_of it serial)) same at.target)
    (all_of_map P (registrations_at it watcher) all)

pub watcher_is : (it : IntersectionObservers) (watcher serial : ℕ) → StandsAt it watcher serial → (place_of it serial).watcher ≡ watcher
watcher_is it watcher serial stands = ap (λ (o : Option Place). (unwrap_or o (record { watcher = 0; target = 0 })).watcher) stands

-- what is so of those that pass a test and of those that don't is so of all
pub all_either : (P : ℕ → Type 0) (test : ℕ → Bool) (xs : List ℕ) → All P (filter test xs) → ((x : ℕ) → test x ≡ false → P x) → All P xs
all_either P test [] all others = All-nil P
all_either P test (x ∷ xs) all others =
    elim (test x) as (λ is. test x ≡ is → All P (cond is (x ∷ filter test xs) (filter test xs)) → All P (x ∷ xs)) [
      | true ↦ λ is these. All-cons P x xs (All-head P x (filter test xs) these) (all_either P test xs (All-tail P x (filter test xs) these) others)
      | false ↦ λ is these. All-cons P x xs (others x is) (all_either P test xs these others)
    ] refl all

module _ (shown : Shown) (margins : List Margins) (chained : HaveChains shown) (it : IntersectionObservers) where
  abbrev stale : Map → ℕ → Bool
  stale kept serial = is_stale_in shown margins chained it kept serial

  -- whether one is stale hangs on what is kept of it alone
  pub stale_by : (before after : Map) (serial : ℕ) (is : Bool) → kept_of after serial ≡ kept_of before serial → stale before serial ≡ is → stale after serial ≡ is
  stale_by before after serial is same before_is =
      ap (λ (o : Option Kept). is_stale o (basis_for (seen_for it margins serial (scene_of shown)) (standings_of shown) it serial (spots_between (scene_of shown) (standings_of shown) chained it serial))) same ∙ before_is

  -- so many of an observer's stale ones were settled
  pub record SoFar (watcher : ℕ) (before now : Map) (names : List RegistrationId) (count : ℕ) : Type 0 where
    pub same : (serial : ℕ) → stale before serial ≡ false → kept_of now serial ≡ kept_of before serial
    pub others : (serial : ℕ) → (¬ (place_of it serial).watcher ≡ watcher) → kept_of now serial ≡ kept_of before serial
    pub fresh : (k : ℕ) → k < count → stale now (get_or names k (record { 0 = 0 })).0 ≡ false
    pub rest : (serial : ℕ) → (kept_of now serial ≡ kept_of before serial) ⊎ (stale now serial ≡ false)

  pub none_so_far : (watcher : ℕ) (kept : Map) (names : List RegistrationId) → SoFar watcher kept kept names 0
  none_so_far watcher kept names = record {
    same = λ serial is. refl;
    others = λ serial apart. refl;
    fresh = λ k below. absurd (omega (arith, below));
    rest = λ serial. inl refl;
  }

  module _ (watcher serial : ℕ) (before now next : Map) (names : List RegistrationId) (count : ℕ) (so_far : SoFar watcher before now names count)
      (was_stale : stale before serial ≡ true) (place : (place_of it serial).watcher ≡ watcher) (left : (other : ℕ) → (¬ other ≡ serial) → kept_of next other ≡ kept_of now other) where
    pub same_more : (other : ℕ) → stale before other ≡ false → kept_of next other ≡ kept_of before other
    same_more other is = left other (λ same. false≢true (sym is ∙ ap (stale before) same ∙ was_stale)) ∙ so_far.same other is

    pub others_more : (other : ℕ) → (¬ (place_of it other).watcher ≡ watcher) → kept_of next other ≡ kept_of before other
    others_more other apart = left other (λ same. apart (ap (λ n. (place_of it n).watcher) same ∙ place)) ∙ so_far.others other apart

    -- the others are as they were or aren't stale any more
    pub rest_more : (other : ℕ) → (¬ other ≡ serial) → (kept_of next other ≡ kept_of before other) ⊎ (stale next other ≡ false)
    rest_more other apart = elim (so_far.rest other) [
      | inl same ↦ inl (left other apart ∙ same)
      | inr is ↦ inr (stale_by now next other false (left other apart) is)
    ]

    -- all but one that was refused memory
    pub kept_but_one : (place : ℕ) → slice_get (serials_at it watcher) place ≡ Some serial → kept_of next serial ≡ None → AreKeptTo shown margins chained it watcher place before next
    kept_but_one place here none other = elim (numbers_apart other serial) [
      | inl same ↦ inr (inr (record { at = here ∙ ap Some (sym same); none = ap (kept_of next) same ∙ none }))
      | inr apart ↦ (elim (rest_more other apart) [
        | inl left ↦ inl left
        | inr is ↦ inr (inl is)
      ])
    ]

    pub one_more : serial ≡ (get_or names count (record { 0 = 0 })).0 → stale next serial ≡ false → SoFar watcher before next names (count + 1)
    one_more named is = record {
      same = same_more;
      others = others_more;
      fresh = λ k below. elim (numbers_apart (get_or names k (record { 0 = 0 })).0 serial) [
        | inl same ↦ ap (stale next) same ∙ is
        | inr apart ↦ stale_by now next (get_or names k (record { 0 = 0 })).0 false (left (get_or names k (record { 0 = 0 })).0 apart) (so_far.fresh k (earlier k below apart))
      ];
      rest = λ other. elim (numbers_apart other serial) [
        | inl same ↦ inr (ap (stale next) same ∙ is)
        | inr apart ↦ rest_more other apart
      ];
    }
      where
        earlier : (k : ℕ) → k < count + 1 → (¬ (get_or names k (record { 0 = 0 })).0 ≡ serial) → k < count
        earlier k below apart = elim (numbers_apart k count) [
          | inl same ↦ absurd (apart (ap (λ n. (get_or names n (record { 0 = 0 })).0) same ∙ sym named))
          | inr other ↦ less k count below other
        ]
          where
            less : (m n : ℕ) → m < n + 1 → (¬ m ≡ n) → m < n
            less m n h ne = grind arith

  -- once all of them were, none is stale
  pub none_stale : (watcher : ℕ) (before now : Map) (names : List RegistrationId) (count : ℕ) → SoFar watcher before now names count → length names ≤ count →
      serial_numbers names ≡ filter (stale before) (serials_at it watcher) → (serial : ℕ) → StandsAt it watcher serial → stale now serial ≡ false
  none_stale watcher before now names count so_far past same serial stands =
      at_standing (λ s. stale now s ≡ false) it watcher serial stands
      (all_either (λ s. stale now s ≡ false) (stale before) (serials_at it watcher)
      (all_serials (λ s. stale now s ≡ false) names (filter (stale before) (serials_at it watcher)) same
      (λ k none below. subst (λ (r : RegistrationId). stale now r.0 ≡ false) (get_or_default names k (record { 0 = 0 }) none below) (so_far.fresh k (omega (arith, below, past)))))
      (λ s is. stale_by before now s false (so_far.same s is) is))

  -- each of them is stale at first
  pub stale_at : (watcher : ℕ) (before : Map) (names : List RegistrationId) (k : ℕ) (none : RegistrationId) → serial_numbers names ≡ filter (stale before) (serials_at it watcher) → k < length names →
      stale before (get_or names k none).0 ≡ true
  stale_at watcher before names k none same below =
      at_serial (λ s. stale before s ≡ true) names (filter (stale before) (serials_at it watcher)) same (filter_passes (stale before) (serials_at it watcher)) k none below

-- the spots on the chains of an observer's registrations, once they were looked at -----------------------------------------------------

-- a fact of each registration that stands at an observer is one of all that are listed there
pub all_standing : (P : ℕ → Type 0) (it : IntersectionObservers) (watcher : ℕ) → HasSerials it → ((serial : ℕ) → StandsAt it watcher serial → P serial) → All P (serials_at it watcher)
all_standing P it watcher serials each =
    all_to_map P (registrations_at it watcher) (All-weaker (IsFound it watcher) (λ (r : Registration). P (r.serial)) one (registrations_at it watcher) (serials.found watcher))
  where
    one : (r : Registration) → IsFound it watcher r → P (r.serial)
    one r found = each (r.serial) (found ∙ ap (λ (o : Option Place). Some (record { watcher = watcher; target = (unwrap_or o (record { watcher = 0; target = 0 })).target })) (sym found))

module _ (shown : Shown) (it : IntersectionObservers) (watcher : ℕ) (serials : HasSerials it) where
  pub looked_still : (before now last : HeldFindings) → AreLookedAlong shown it watcher before now → last.seen ≡ now.seen → last.clips.touches ≡ now.clips.touches → AreLookedAlong shown it watcher before last
  looked_still before now last along seen touches = record {
    touched = subst (λ (s : Seen). ChangesByLooks (scene_of shown) before.seen s before.clips.touches last.clips.touches) (sym seen)
        (subst (λ (t : Touched). ChangesByLooks (scene_of shown) before.seen now.seen before.clips.touches t) (sym touches) along.touched);
    left = λ spot off. let was = along.left spot off in record {
      touch = ap (λ (t : Touched). last_touch t spot) touches ∙ was.touch;
      sighting = ap (λ (s : Seen). sighting_of s spot) seen ∙ was.sighting;
    };
    seen = λ serial stands. subst (λ (s : Seen). IsSeen shown it s serial) (sym seen) (along.seen serial stands);
  }

  pub looked_along : (before now last : HeldFindings) (looks : LookedAt) → Looked (scene_of shown) before.seen now.seen before.clips now.clips → HaveLooked shown now.seen looks →
      All (AlongChain (IsNoted looks) (scene_of shown) (standings_of shown) it) (serials_at it watcher) →
      ((spot : Container) → All (AlongChain (IsNot spot) (scene_of shown) (standings_of shown) it) (serials_at it watcher) → IsLeft before.seen now.seen before.clips.touches now.clips.touches spot) →
      last.seen ≡ now.seen → last.clips.touches ≡ now.clips.touches → AreLookedAlong shown it watcher before last
  looked_along before now last looks looked known noted left seen touches =
      looked_still before now last
      (record {
        touched = looked.spots;
        left = λ spot off. left spot (all_standing (AlongChain (IsNot spot) (scene_of shown) (standings_of shown) it) it watcher serials off);
        seen = λ serial stands.
            along_weaker (scene_of shown) (standings_of shown) it (IsNoted looks) (λ spot. sighting_of now.seen spot ≡ Some (sighting_in (scene_of shown) spot)) (λ spot note. (known.looked spot note).sighting) serial
            (at_standing (AlongChain (IsNoted looks) (scene_of shown) (standings_of shown) it) it watcher serial stands noted);
      })
      seen touches
