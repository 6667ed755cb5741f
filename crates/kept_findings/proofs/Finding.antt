-- What is found of a registration, told and settled.
use Rattle.std.proofs.Common.{◌≡◌, ◌∙◌, ℕ, true, false, not, List, Option, Some, unwrap_or, ap, sym, subst}
use Rattle.std.specs.Prelude.{IfSome}
use Rattle.std.specs.FinMap.{FinMap, insert, contains_key}
use Rattle.std.specs.Ordering.{nat_cmp}
use Rattle.script_model.specs.Margins.{Margins}
use Rattle.page_model.specs.World.{Root, Finding, IntersectionObserver, IntersectionObservers}
use Rattle.page_model.specs.Lookups.{intersection_observer_at, scroll_margins_at}
use Rattle.element_tree.specs.declared.container.Container.{Container}
use Rattle.clip_chain.specs.Scenes.{Scene}
use Rattle.intersection_observer.specs.Places.{Standing as Place, standing_of}
use Rattle.intersection_observer.specs.Seen.{seen_finding}
use Rattle.intersection_observer.specs.Serials.{HasSerials}
use Rattle.intersection_observer.specs.Settling.{with_settled}
use Rattle.candidate_index.specs.declared.index.Kept.{Kept}
use Rattle.candidate_index.specs.declared.scene.Standing.{Standing}
use Rattle.candidate_index.specs.Registrations.{observer_of, target_of, basis_for, finding_for}
use Rattle.candidate_index.specs.Held.{kept_of, is_stale, is_stale_now}
use Rattle.candidate_index.proofs.Same.{same_is}
use Rattle.kept_findings.specs.Held.{HeldFindings, with_expired}
use Rattle.kept_findings.specs.Walks.{AreChained, spots_between, found_in}
use Rattle.kept_findings.specs.Views.{seen_for}
use Rattle.kept_findings.specs.Registered.{AreHeld, IsSettled, AreRegistered}
use Rattle.kept_findings.proofs.Settled.{registered_settled, registered_expired, kept_own, kept_other}

-- the observer of a registration that stands
pub observer_is : (it : IntersectionObservers) (serial watcher target : ℕ) → standing_of serial it ≡ Some (record { watcher = watcher; target = target }) → observer_of it serial ≡ intersection_observer_at it watcher
observer_is it serial watcher target stands = ap (λ (o : Option Place). intersection_observer_at it (unwrap_or o (record { watcher = 0; target = 0 })).watcher) stands

-- what is told of it is what its observer finds
pub told_is : (scene : Scene) (standings : Root → ℕ → Standing) (chained : AreChained scene standings) (telling : Root → ℕ → Finding → Finding) (it : IntersectionObservers) (margins : List Margins) (serial watcher target n : ℕ) (root : Root) (found told : Finding)
    → standing_of serial it ≡ Some (record { watcher = watcher; target = n }) → (intersection_observer_at it watcher).root ≡ root → target_of it serial ≡ target
    → found ≡ finding_for (seen_for it margins serial scene) standings it serial (spots_between scene standings chained it serial) → told ≡ telling root target found
    → told ≡ found_in scene standings chained telling (scroll_margins_at margins watcher) (intersection_observer_at it watcher) (target_of it serial)
told_is scene standings chained telling it margins serial watcher target n root found told stands rooted targets finds tells =
    let observer = observer_is it serial watcher n stands in
    let roots : root ≡ (observer_of it serial).root = sym rooted ∙ ap (λ (x : IntersectionObserver). x.root) (sym observer) in
    tells
    ∙ (λ i. telling (roots i) (sym targets i) (finds i))
    ∙ ap (λ v. found_in scene standings chained telling (scroll_margins_at margins v) (intersection_observer_at it v) (target_of it serial))
    (ap (λ (o : Option Place). (unwrap_or o (record { watcher = 0; target = 0 })).watcher) stands)

module _ (it : IntersectionObservers) (margins : List Margins) (before after : HeldFindings) (serial time : ℕ) (last : Kept) (told : Finding) (registered : AreRegistered it margins before) (held : AreHeld it margins after)
    (kept : after.kept ≡ insert (before.kept) serial (Some last)) where
  others_settled : (other : ℕ) → (¬ other ≡ serial) → IsSettled it other (kept_of after.kept other)
  others_settled other apart =
      subst (IsSettled it other) (sym (ap (λ k. kept_of k other) kept ∙ kept_other before.kept serial other (Some last) apart)) (registered.settled other)

  pub registered_found : HasSerials it → (seen_finding last.finding).index ≡ told.index → (seen_finding last.finding).meets ≡ told.meets → AreRegistered (with_settled serial time told it) margins after
  registered_found serials index meets =
      registered_settled it margins after serial time told serials held others_settled
      (subst (λ (o : Option Kept). IfSome o (λ (k : Kept). ((seen_finding k.finding).index ≡ told.index) × ((seen_finding k.finding).meets ≡ told.meets)))
      (sym (ap (λ k. kept_of k serial) kept ∙ kept_own before.kept serial (Some last))) (index, meets))

  pub registered_refused : contains_key after.kept serial ≡ true → AreRegistered it margins (with_expired serial after)
  registered_refused there = registered_expired it margins after serial held there others_settled

-- what is kept of a registration once it was found
module _ (scene : Scene) (standings : Root → ℕ → Standing) (it : IntersectionObservers) (serial : ℕ) (before after : FinMap nat_cmp (Option Kept)) (last : Kept) (kept : after ≡ insert before serial (Some last)) where
  pub fresh_found : (between : ℕ → List Container) → last.basis ≡ basis_for scene standings it serial (between serial) → is_stale_now scene standings it between after serial ≡ false
  fresh_found between is =
      let now = basis_for scene standings it serial (between serial) in
      ap (λ o. is_stale o now) (ap (λ k. kept_of k serial) kept ∙ kept_own before serial (Some last)) ∙ ap (λ b. not b) ((same_is last.basis now).1 is)

  pub others_found : (other : ℕ) → (¬ other ≡ serial) → kept_of after other ≡ kept_of before other
  others_found other apart = ap (λ k. kept_of k other) kept ∙ kept_other before serial other (Some last) apart
