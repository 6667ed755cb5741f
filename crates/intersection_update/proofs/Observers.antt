-- What an update does to what is kept of registrations, one observer after the other.
use Rattle.std.proofs.Common.{◌≡◌, ◌∙◌, ℕ, ◌<◌, ◌+◌, Bool, true, false, List, length, Option, Some, None, is_some, unwrap_or, refl, ap, sym, inl, inr, arith}
use Rattle.std.specs.Prelude.{◌⊎◌, slice_get}
use Rattle.std.specs.FinMap.{FinMap}
use Rattle.std.specs.Ordering.{nat_cmp}
use Rattle.std.proofs.lemmas.Bool.{false≢true}
use Rattle.script_model.specs.Margins.{Margins}
use Rattle.page_model.specs.Shown.{Shown}
use Rattle.page_model.specs.World.{IntersectionObservers}
use Rattle.page_model.specs.Lookups.{intersection_observer_at}
use Rattle.page_model.specs.Intersections.{is_rooted_in}
use Rattle.element_tree.specs.declared.container.Container.{Container}
use Rattle.clip_chain.specs.Scenes.{Scene}
use Rattle.clip_chain.specs.Worlds.{scene_of}
use Rattle.intersection_observer.specs.Places.{Standing as Place, standing_of}
use Rattle.intersection_observer.proofs.Standing.{stands-there}
use Rattle.kept_clips.specs.Touches.{Touched}
use Rattle.kept_clips.specs.Seen.{Seen, sighting_of, sighting_in}
use Rattle.kept_clips.specs.Looked.{IsLeft, ChangesByLooks}
use Rattle.kept_clips.proofs.Looking.{changes_then}
use Rattle.candidate_index.specs.declared.index.Kept.{Kept}
use Rattle.candidate_index.specs.Registrations.{place_of, observer_of, target_of}
use Rattle.candidate_index.specs.Held.{kept_of}
use Rattle.kept_findings.specs.Held.{HeldFindings}
use Rattle.kept_findings.specs.Walks.{IsNot, AlongChain}
use Rattle.kept_findings.proofs.Settled.{numbers_apart}
use Rattle.kept_findings.proofs.Walking.{along_weaker}
use Rattle.page_geometry.specs.Scenes.{standings_of}
use Rattle.intersection_update.specs.Updating.{Carried}
use Rattle.intersection_update.specs.Keeping.{HaveChains, is_stale_in, StandsAt, IsLookedAt, IsSeen, IsOff, AreLookedAlong, AreKeptTo}
use Rattle.intersection_update.proofs.Carried.{target_still, root_still, along_still, along_was, stale_still}
use Rattle.intersection_update.proofs.Keeping.{stale_by}

abbrev Map : Type 0
Map = FinMap nat_cmp (Option Kept)

-- where registrations stand

some_place : (o : Option Place) (d : Place) → is_some o ≡ true → o ≡ Some (unwrap_or o d)
some_place None d there = let no : false ≡ true = there in cc
some_place (Some p) d there = refl

some_is : (o : Option Place) (p : Place) → o ≡ Some p → is_some o ≡ true
some_is o p is = ap (λ (it : Option Place). is_some it) is

module _ (shown : Shown) (document : ℕ) (was it : IntersectionObservers) (carried : Carried was it) (number : ℕ) where
  -- a registration of the observer is one of those that are looked at
  pub looked_at_here : is_rooted_in shown.tree document (intersection_observer_at it number).root ≡ true → (serial : ℕ) → StandsAt it number serial → IsLookedAt shown.tree document was serial
  looked_at_here rooted serial stands =
      let there : standing_of serial was ≡ Some (record { watcher = number; target = target_of it serial }) = sym (carried.standing serial) ∙ stands in
      record {
        standing = some_is (standing_of serial was) (record { watcher = number; target = target_of it serial }) there;
        rooted =
            ap (λ (o : Option Place). is_rooted_in shown.tree document (intersection_observer_at was (unwrap_or o (record { watcher = 0; target = 0 })).watcher).root) there
            ∙ ap (is_rooted_in shown.tree document) (sym (carried.alike number).root)
            ∙ rooted;
      }

  -- and one of those stands at its observer
  pub stands_here : (serial : ℕ) → IsLookedAt shown.tree document was serial → (place_of was serial).watcher ≡ number → StandsAt it number serial
  stands_here serial looked place =
      carried.standing serial
      ∙ some_place (standing_of serial was) (record { watcher = 0; target = 0 }) looked.standing
      ∙ (λ i. Some (record { watcher = place i; target = sym (target_still was it carried serial) i }))

  pub rooted_here : (serial : ℕ) → IsLookedAt shown.tree document was serial → (place_of was serial).watcher ≡ number → is_rooted_in shown.tree document (intersection_observer_at it number).root ≡ true
  rooted_here serial looked place =
      ap (is_rooted_in shown.tree document) (carried.alike number).root
      ∙ ap (λ w. is_rooted_in shown.tree document (intersection_observer_at was w).root) (sym place)
      ∙ looked.rooted

-- those that are looked at afterwards were before, at an observer that there is
pub looked_at_before : (shown : Shown) (document : ℕ) (was it : IntersectionObservers) → Carried was it → (serial : ℕ) → IsLookedAt shown.tree document it serial → IsLookedAt shown.tree document was serial
looked_at_before shown document was it carried serial looked = record {
  standing = ap (λ (o : Option Place). is_some o) (sym (carried.standing serial)) ∙ looked.standing;
  rooted = ap (is_rooted_in shown.tree document) (sym (root_still was it carried serial)) ∙ looked.rooted;
}

pub there_is : (shown : Shown) (document : ℕ) (was : IntersectionObservers) (serial : ℕ) → IsLookedAt shown.tree document was serial → (place_of was serial).watcher < length was.made
there_is shown document was serial looked = stands-there serial (was.made) (place_of was serial) (some_place (standing_of serial was) (record { watcher = 0; target = 0 }) looked.standing)

-- an earlier observer or this one
pub one_earlier : (m n : ℕ) → m < n + 1 → (m ≡ n) ⊎ (m < n)
one_earlier m n below = elim (numbers_apart m n) [
  | inl same ↦ inl same
  | inr apart ↦ inr (less m n below apart)
]
  where
    less : (m n : ℕ) → m < n + 1 → (¬ m ≡ n) → m < n
    less m n h ne = grind arith

-- spots that were looked at ---------------------------------------------------------------------------------------------------------

-- a spot that was seen as it is stays so
seen_still : (scene : Scene) (before now : Seen) (was held : Touched) → ChangesByLooks scene before now was held → (spot : Container) →
    sighting_of before spot ≡ Some (sighting_in scene spot) → sighting_of now spot ≡ Some (sighting_in scene spot)
seen_still scene before now was held changes spot seen = elim (changes.each spot) [
  | inl left ↦ left.sighting ∙ seen
  | inr anew ↦ anew.sighting
]

pub all_seen_still : (shown : Shown) (it : IntersectionObservers) (before now : Seen) (was held : Touched) → ChangesByLooks (scene_of shown) before now was held → (serial : ℕ) → IsSeen shown it before serial → IsSeen shown it now serial
all_seen_still shown it before now was held changes serial seen =
    along_weaker (scene_of shown) (standings_of shown) it (λ spot. sighting_of before spot ≡ Some (sighting_in (scene_of shown) spot)) (λ spot. sighting_of now spot ≡ Some (sighting_in (scene_of shown) spot))
    (seen_still (scene_of shown) before now was held changes) serial seen

-- what so many observers' looks come to
pub record Looks (shown : Shown) (document : ℕ) (was : IntersectionObservers) (number : ℕ) (before now : HeldFindings) : Type 0 where
  pub touched : ChangesByLooks (scene_of shown) before.seen now.seen before.clips.touches now.clips.touches
  pub left : (spot : Container) → ((serial : ℕ) → IsLookedAt shown.tree document was serial → IsOff shown was spot serial) → IsLeft before.seen now.seen before.clips.touches now.clips.touches spot
  pub seen : (serial : ℕ) → IsLookedAt shown.tree document was serial → (place_of was serial).watcher < number → IsSeen shown was now.seen serial

module _ (shown : Shown) (document : ℕ) (was it : IntersectionObservers) (carried : Carried was it) (number : ℕ) where
  pub looks_more : (before now next : HeldFindings) → is_rooted_in shown.tree document (intersection_observer_at it number).root ≡ true → Looks shown document was number before now →
      AreLookedAlong shown it number now next → Looks shown document was (number + 1) before next
  looks_more before now next rooted so_far along = record {
    touched = changes_then (scene_of shown) before.seen now.seen next.seen before.clips.touches now.clips.touches next.clips.touches so_far.touched along.touched;
    left = λ spot off.
        let first = so_far.left spot off in
        let then = along.left spot (λ serial stands. along_still was it carried serial (scene_of shown) (standings_of shown) (IsNot spot) (off serial (looked_at_here shown document was it carried number rooted serial stands))) in
        record { touch = then.touch ∙ first.touch; sighting = then.sighting ∙ first.sighting };
    seen = λ serial looked below. elim (one_earlier (place_of was serial).watcher number below) [
      | inl here ↦ along_back serial (λ spot. sighting_of next.seen spot ≡ Some (sighting_in (scene_of shown) spot)) (along.seen serial (stands_here shown document was it carried number serial looked here))
      | inr earlier ↦ all_seen_still shown was now.seen next.seen now.clips.touches next.clips.touches along.touched serial (so_far.seen serial looked earlier)
    ];
  }
    where
      along_back : (serial : ℕ) (P : Container → Type 0) → AlongChain P (scene_of shown) (standings_of shown) it serial → AlongChain P (scene_of shown) (standings_of shown) was serial
      along_back serial P along = along_was was it carried serial (scene_of shown) (standings_of shown) P along

  pub looks_skip : (before now : HeldFindings) → is_rooted_in shown.tree document (intersection_observer_at it number).root ≡ false → Looks shown document was number before now → Looks shown document was (number + 1) before now
  looks_skip before now apart so_far = record {
    touched = so_far.touched;
    left = so_far.left;
    seen = λ serial looked below. elim (one_earlier (place_of was serial).watcher number below) [
      | inl here ↦ absurd (false≢true (sym apart ∙ rooted_here shown document was it carried number serial looked here))
      | inr earlier ↦ so_far.seen serial looked earlier
    ];
  }

-- what is kept -----------------------------------------------------------------------------------------------------------------------

module _ (shown : Shown) (margins : List Margins) (chained : HaveChains shown) (document : ℕ) (was : IntersectionObservers) where
  abbrev stale : Map → ℕ → Bool
  stale kept serial = is_stale_in shown margins chained was kept serial

  -- what so many observers that were settled leave
  pub record Leaves (number : ℕ) (before now : Map) : Type 0 where
    pub same : (serial : ℕ) → stale before serial ≡ false → kept_of now serial ≡ kept_of before serial
    pub others : (serial : ℕ) → is_rooted_in shown.tree document (observer_of was serial).root ≡ false → kept_of now serial ≡ kept_of before serial
    pub fresh : (serial : ℕ) → IsLookedAt shown.tree document was serial → (place_of was serial).watcher < number → stale now serial ≡ false
    pub rest : (serial : ℕ) → (kept_of now serial ≡ kept_of before serial) ⊎ (stale now serial ≡ false)

  pub leaves_all : (kept : Map) → Leaves 0 kept kept
  leaves_all kept = record {
    same = λ serial is. refl;
    others = λ serial apart. refl;
    fresh = λ serial looked below. absurd (omega (arith, below));
    rest = λ serial. inl refl;
  }

  module _ (it : IntersectionObservers) (carried : Carried was it) (number : ℕ) (before now next : Map) (so_far : Leaves number before now)
      (same : (serial : ℕ) → is_stale_in shown margins chained it now serial ≡ false → kept_of next serial ≡ kept_of now serial)
      (others : (serial : ℕ) → (¬ (place_of it serial).watcher ≡ number) → kept_of next serial ≡ kept_of now serial) where
    still : (kept : Map) (serial : ℕ) → is_stale_in shown margins chained it kept serial ≡ stale kept serial
    still kept serial = stale_still was it carried serial (scene_of shown) (standings_of shown) chained margins kept

    pub same_next : (serial : ℕ) → stale before serial ≡ false → kept_of next serial ≡ kept_of before serial
    same_next serial is =
        let first = so_far.same serial is in
        same serial (still now serial ∙ stale_by shown margins chained was before now serial false first is) ∙ first

    pub others_next : is_rooted_in shown.tree document (intersection_observer_at it number).root ≡ true → (serial : ℕ) → is_rooted_in shown.tree document (observer_of was serial).root ≡ false → kept_of next serial ≡ kept_of before serial
    others_next rooted serial apart =
        others serial (λ here. false≢true
        (sym apart
        ∙ ap (is_rooted_in shown.tree document) (sym (root_still was it carried serial))
        ∙ ap (λ w. is_rooted_in shown.tree document (intersection_observer_at it w).root) here
        ∙ rooted))
        ∙ so_far.others serial apart

    -- what isn't stale stays so
    pub fresh_next : (serial : ℕ) → stale now serial ≡ false → stale next serial ≡ false
    fresh_next serial is = stale_by shown margins chained was now next serial false (same serial (still now serial ∙ is)) is

    pub rest_by : (serial : ℕ) → kept_of next serial ≡ kept_of now serial → (kept_of next serial ≡ kept_of before serial) ⊎ (stale next serial ≡ false)
    rest_by serial left = elim (so_far.rest serial) [
      | inl first ↦ inl (left ∙ first)
      | inr is ↦ inr (fresh_next serial is)
    ]

    -- where it stops
    pub kept_to : (place : ℕ) → AreKeptTo shown margins chained it number place now next → AreKeptTo shown margins chained was number place before next
    kept_to place refused serial = elim (refused serial) [
      | inl left ↦ (elim (rest_by serial left) [
        | inl first ↦ inl first
        | inr is ↦ inr (inl is)
      ])
      | inr (inl is) ↦ inr (inl (sym (still next serial) ∙ is))
      | inr (inr expired) ↦ inr (inr (record { at = ap (λ (serials : List ℕ). slice_get serials place) (sym (carried.listed number)) ∙ expired.at; none = expired.none }))
    ]

    pub leaves_more : is_rooted_in shown.tree document (intersection_observer_at it number).root ≡ true →
        ((serial : ℕ) → StandsAt it number serial → is_stale_in shown margins chained it next serial ≡ false) →
        ((serial : ℕ) → (kept_of next serial ≡ kept_of now serial) ⊎ (is_stale_in shown margins chained it next serial ≡ false)) → Leaves (number + 1) before next
    leaves_more rooted fresh rest = record {
      same = same_next;
      others = others_next rooted;
      fresh = λ serial looked below. elim (one_earlier (place_of was serial).watcher number below) [
        | inl here ↦ sym (still next serial) ∙ fresh serial (stands_here shown document was it carried number serial looked here)
        | inr earlier ↦ fresh_next serial (so_far.fresh serial looked earlier)
      ];
      rest = λ serial. elim (rest serial) [
        | inl left ↦ rest_by serial left
        | inr is ↦ inr (sym (still next serial) ∙ is)
      ];
    }

  pub leaves_skip : (it : IntersectionObservers) → Carried was it → (number : ℕ) (before now : Map) → is_rooted_in shown.tree document (intersection_observer_at it number).root ≡ false → Leaves number before now → Leaves (number + 1) before now
  leaves_skip it carried number before now apart so_far = record {
    same = so_far.same;
    others = so_far.others;
    fresh = λ serial looked below. elim (one_earlier (place_of was serial).watcher number below) [
      | inl here ↦ absurd (false≢true (sym apart ∙ rooted_here shown document was it carried number serial looked here))
      | inr earlier ↦ so_far.fresh serial looked earlier
    ];
    rest = so_far.rest;
  }
