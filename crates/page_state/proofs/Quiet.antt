-- Documents that stay as their last update of intersections left them.
use Rattle.std.proofs.Common.{◌≡◌, ◌∙◌, ◌<◌, ℕ, zero, suc, Bool, true, false, ◌==◌, List, [], ◌∷◌, map, length, Result, Ok, Err, OnOk, replicate, inl, inr, refl, ap, sym, subst, arith, tests}
use Rattle.std.specs.Prelude.{is_ok}
use Rattle.std.proofs.lemmas.Bool.{false≢true}
use Rattle.script_model.specs.Margins.{Margins}
use Rattle.page_model.specs.World.{World, Container, Scrolls, IntersectionObservers}
use Rattle.page_model.specs.Lookups.{entry_or, change_at}
use Rattle.page_model.specs.Scrolls.{pending_of, without_pending}
use Rattle.page_model.specs.Intersections.{is_rooted_in, update_intersections, watchers}
use Rattle.page_model.specs.Shown.{Shown, shown_of}
use Rattle.clip_chain.specs.Worlds.{scene_of}
use Rattle.intersection_observer.specs.Serials.{HasSerials}
use Rattle.kept_clips.specs.Held.{pair_of}
use Rattle.kept_clips.specs.Looked.{ChangesByLooks}
use Rattle.kept_clips.specs.Touches.{last_number}
use Rattle.kept_clips.proofs.Looking.{changes_none}
use Rattle.candidate_index.specs.Held.{kept_of}
use Rattle.candidate_index.specs.Registrations.{observer_of}
use Rattle.kept_findings.specs.Held.{HeldFindings}
use Rattle.kept_findings.specs.Registered.{AreRegistered}
use Rattle.kept_findings.proofs.Settled.{numbers_apart}
use Rattle.intersection_update.specs.Keeping.{HaveChains, is_stale_in, IsLookedAt, IsSeen, HasCurrentClip}
use Rattle.intersection_update.specs.Updating.{updated, has_news, AreSettled, Carried}
use Rattle.intersection_update.proofs.Again.{updated_twice, updated_apart, seen_apart, fresh_apart, current_apart}
use Rattle.intersection_update.proofs.Each.{settled_each}
use Rattle.intersection_update.proofs.Unwatched.{none_queued}
use Rattle.page_boxes.specs.LaidOut.{is_marked}
use Rattle.page_boxes.proofs.Marks.{none_marked, marked_else}
use Rattle.page_state.specs.Findings.{Updates}
use Rattle.page_state.specs.Quiet.{IsQuiet, AreQuiet, NoneSettled, noted}
use Rattle.page_state.proofs.Updated.{comes_to}

pub none_settled : NoneSettled (replicate 64 false)
none_settled shown margins it found = record { each = λ document is. absurd (false≢true (sym (none_marked 64 document) ∙ is)) }

-- marks after an update ----------------------------------------------------------------------------------------------------------

module _ (shown : Shown) (margins : List Margins) (document time : ℕ) (before after : IntersectionObservers) (was now : HeldFindings)
    (changes : ChangesByLooks (scene_of shown) was.seen now.seen was.clips.touches now.clips.touches)
    (others : (serial : ℕ) → is_rooted_in shown.tree document (observer_of before serial).root ≡ false → kept_of now.kept serial ≡ kept_of was.kept serial)
    (pairs : (serial : ℕ) → is_rooted_in shown.tree document (observer_of before serial).root ≡ false → pair_of now.clips serial ≡ pair_of was.clips serial)
    (registered : AreRegistered before margins was) where
  -- what an update that ended well says of its document
  abbrev IsFresh : HaveChains shown → Type 0
  IsFresh chained = (serial : ℕ) → IsLookedAt shown.tree document after serial → is_stale_in shown margins chained after now.kept serial ≡ false

  abbrev IsCurrent : HaveChains shown → Type 0
  IsCurrent chained = now.clips.touches.count < last_number → (serial : ℕ) → IsLookedAt shown.tree document after serial → HasCurrentClip shown chained after now.clips serial

  abbrev AreSeen : Type 0
  AreSeen = (serial : ℕ) → IsLookedAt shown.tree document after serial → IsSeen shown after now.seen serial

  own_quiet : after ≡ updated shown margins shown.tree document time before → AreSeen → ((chained : HaveChains shown) → IsFresh chained) → ((chained : HaveChains shown) → IsCurrent chained)
      → IsQuiet shown margins document after now
  own_quiet is seen fresh current = record {
    same = λ later. subst (λ (it : IntersectionObservers). updated shown margins shown.tree document later it ≡ it) (sym is) (updated_twice shown margins shown.tree later time document before);
    updated = record { seen = seen; fresh = fresh; current = current };
  }

  other_quiet : after ≡ updated shown margins shown.tree document time before → Carried before after → (other : ℕ) → (¬ other ≡ document) → IsQuiet shown margins other before was → IsQuiet shown margins other after now
  other_quiet is carried other apart quiet = record {
    same = λ later. subst (λ (it : IntersectionObservers). updated shown margins shown.tree other later it ≡ it) (sym is)
        (updated_apart shown margins shown.tree later time other document apart before (quiet.same later));
    updated = record {
      seen = seen_apart shown other document apart before after carried was now changes quiet.updated.seen;
      fresh = λ chained. fresh_apart shown other document apart before after carried was now changes margins chained others (quiet.updated.fresh chained);
      current = λ chained. current_apart shown other document apart before after carried was now changes margins chained registered pairs quiet.updated.seen (quiet.updated.current chained);
    };
  }

  pub quiet_noted : {E : Type 0} (result : Result Bool E) (marks marked : List Bool) → marked ≡ noted document (is_ok result) marks → AreQuiet marks shown margins before was
      → OnOk result (after ≡ updated shown margins shown.tree document time before) → OnOk result (Carried before after) → OnOk result AreSeen
      → ((chained : HaveChains shown) → OnOk result (IsFresh chained)) → ((chained : HaveChains shown) → OnOk result (IsCurrent chained)) → AreQuiet marked shown margins after now
  quiet_noted (Ok value) marks marked is quiet done carried seen fresh current = record {
    each = λ other on. elim (numbers_apart other document) [
      | inl same ↦ subst (λ (n : ℕ). IsQuiet shown margins n after now) (sym same) (own_quiet done seen fresh current)
      | inr apart ↦
          other_quiet done carried other apart (quiet.each other (sym (marked_else marks document other apart) ∙ sym (ap (λ (these : List Bool). is_marked these other) is) ∙ on))
    ];
  }
  quiet_noted (Err fault) marks marked is quiet done carried seen fresh current = subst (λ (these : List Bool). AreQuiet these shown margins after now) (sym is) (none_settled shown margins after now)

-- an update of a document that is marked ------------------------------------------------------------------------------------------

module _ (document : ℕ) (world : World) (found : HeldFindings) (quiet : IsQuiet (shown_of world) (world.scroll_margins) document (world.intersection_observers) found) where
  pub quiet_updated : update_intersections document world ≡ world
  quiet_updated =
      comes_to document world false
      (sym (ap (has_news (world.tree) document (world.intersection_observers)) (quiet.same (world.clock)) ∙ none_queued (world.intersection_observers) (watchers (world.tree) document (world.intersection_observers))))
      ∙ ap (λ (it : IntersectionObservers). record world { intersection_observers = it }) (quiet.same (world.clock))

  pub quiet_settled : HasSerials world.intersection_observers → AreSettled (shown_of world) world.scroll_margins document world.intersection_observers world.intersection_observers
  quiet_settled serials =
      subst (AreSettled (shown_of world) (world.scroll_margins) document (world.intersection_observers)) (quiet.same (world.clock))
      (λ watcher place registration rooted at. settled_each (shown_of world) (world.scroll_margins) document (world.clock) watcher place registration (world.intersection_observers) serials rooted at)

-- where nothing is done
pub updates_none : (shown : Shown) (margins : List Margins) (document : ℕ) (it : IntersectionObservers) (found : HeldFindings) → Updates shown margins document it found found
updates_none shown margins document it found = record {
  touched = changes_none (scene_of shown) found.seen found.clips.touches;
  left = λ spot off. record { touch = refl; sighting = refl };
  kept = λ chained serial fresh. refl;
  others = λ serial apart. refl;
  pairs = λ serial apart. refl;
  computed = λ serial some. some;
}

-- an empty list of what scrolled that is taken --------------------------------------------------------------------------------------

taken_none : (place : ℕ) (lists : List (List Container)) → entry_or [] lists place ≡ [] → change_at (λ (list : List Container). []) place lists ≡ lists
taken_none place [] none = refl
taken_none zero (list ∷ lists) none = ap (λ (it : List Container). it ∷ lists) (sym none)
taken_none (suc place) (list ∷ lists) none = ap (λ (others : List (List Container)). list ∷ others) (taken_none place lists none)

pub nothing_pending : {A : Type 0} (see : A → Container) (document : ℕ) (it : Scrolls) (items : List A) → map see items ≡ pending_of document it → (length items == 0) ≡ true → without_pending document it ≡ it
nothing_pending see document it [] value none = ap (λ (pending : List (List Container)). record it { pending = pending }) (taken_none document (it.pending) (sym value))
nothing_pending see document it (x ∷ xs) value none = absurd (false≢true (sym (some (length xs)) ∙ none))
  where
    some : (n : ℕ) → (suc n == 0) ≡ false
    some n = grind (arith, tests)
