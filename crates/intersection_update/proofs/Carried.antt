-- What settling leaves of the observers: where registrations stand, and by what their observers find.
use Rattle.std.proofs.Common.{◌≡◌, ◌∙◌, ℕ, List, [], ◌∷◌, length, map, Option, Some, None, unwrap_or, refl, ap, sym, subst}
use Rattle.std.specs.FinMap.{FinMap}
use Rattle.std.specs.Ordering.{nat_cmp}
use Rattle.script_model.specs.Margins.{Margins}
use Rattle.page_model.specs.World.{Root, Finding, Registration, IntersectionObserver, IntersectionObservers}
use Rattle.page_model.specs.Chains.{moved_out}
use Rattle.page_model.specs.Lookups.{no_intersection_observer, intersection_observer_at, scroll_margins_at}
use Rattle.element_tree.specs.declared.container.Container.{Container}
use Rattle.clip_chain.specs.Scenes.{Scene, through, root_bounds}
use Rattle.clip_chain.specs.Worlds.{element_spot, spot_of_root}
use Rattle.intersection_observer.specs.Places.{Standing as Place, standing_of}
use Rattle.intersection_observer.specs.Settling.{settled_at, settled_standing, with_settled, each_settled}
use Rattle.intersection_observer.proofs.Subjects.{subjects_of, settled-subjects}
use Rattle.kept_clips.specs.Held.{HeldClips}
use Rattle.candidate_index.specs.declared.scene.Standing.{Standing}
use Rattle.candidate_index.specs.declared.basis.Basis.{Basis}
use Rattle.candidate_index.specs.declared.index.Kept.{Kept}
use Rattle.candidate_index.specs.Findings.{sight_over}
use Rattle.candidate_index.specs.Registrations.{place_of, observer_of, target_of, serials_at, IfChained}
use Rattle.candidate_index.specs.Asked.{asked_if, asked_for, steps_if, steps_for}
use Rattle.candidate_index.specs.Held.{kept_of, is_stale, is_stale_now}
use Rattle.kept_findings.specs.Walks.{EachAlong, AlongChain, AreChained, chain_between, spots_between}
use Rattle.kept_findings.specs.Views.{seen_for}
use Rattle.kept_findings.proofs.Settled.{at_changed, standing_settled, serials_settled}
use Rattle.intersection_update.specs.Updating.{AreAlike, Carried}
use Rattle.element_tree.proofs.Nodes.{length-changed}

pub carried_same : (it : IntersectionObservers) → Carried it it
carried_same it = record {
  standing = λ serial. refl;
  alike = λ watcher. record { root = refl; margins = refl; thresholds = refl };
  listed = λ watcher. refl;
  serials = λ has. has;
  count = refl;
}

pub carried_then : (first second third : IntersectionObservers) → Carried first second → Carried second third → Carried first third
carried_then first second third one two = record {
  standing = λ serial. two.standing serial ∙ one.standing serial;
  alike = λ watcher. record {
    root = (two.alike watcher).root ∙ (one.alike watcher).root;
    margins = (two.alike watcher).margins ∙ (one.alike watcher).margins;
    thresholds = (two.alike watcher).thresholds ∙ (one.alike watcher).thresholds;
  };
  listed = λ watcher. two.listed watcher ∙ one.listed watcher;
  serials = λ has. two.serials (one.serials has);
  count = two.count ∙ one.count;
}

alike_by : (place : Option Place) (time watcher : ℕ) (now : Finding) (it : IntersectionObservers) → AreAlike (intersection_observer_at it watcher) (intersection_observer_at (settled_standing place time now it) watcher)
alike_by None time watcher now it = record { root = refl; margins = refl; thresholds = refl }
alike_by (Some place) time watcher now it =
    at_changed AreAlike (λ x. record { root = refl; margins = refl; thresholds = refl }) no_intersection_observer (settled_at (place.target) time now)
    (λ x. record { root = refl; margins = refl; thresholds = refl }) (place.watcher) watcher (it.made)

-- the serial numbers of registrations, which settling leaves
numbers : List Registration → List ℕ
numbers xs = map (λ (r : Registration). r.serial) xs

by_subjects : (xs : List Registration) → map (λ (each : ℕ × ℕ). each.0) (subjects_of xs) ≡ numbers xs
unfolding numbers
by_subjects [] = refl
by_subjects (x ∷ xs) = ap (λ others. x.serial ∷ others) (by_subjects xs)

numbers_settled : (n time : ℕ) (now : Finding) (x : IntersectionObserver) → numbers (settled_at n time now x).registrations ≡ numbers (x.registrations)
numbers_settled n time now x =
    sym (by_subjects (settled_at n time now x).registrations) ∙ ap (λ these. map (λ (each : ℕ × ℕ). each.0) these) (settled-subjects n time now (x.registrations)) ∙ by_subjects (x.registrations)

listed_by : (place : Option Place) (time watcher : ℕ) (now : Finding) (it : IntersectionObservers) → serials_at (settled_standing place time now it) watcher ≡ serials_at it watcher
unfolding numbers
listed_by None time watcher now it = refl
listed_by (Some place) time watcher now it =
    at_changed (λ (a b : IntersectionObserver). numbers (b.registrations) ≡ numbers (a.registrations)) (λ x. refl) no_intersection_observer (settled_at (place.target) time now)
    (numbers_settled (place.target) time now) (place.watcher) watcher (it.made)

count_by_place : (place : Option Place) (time : ℕ) (now : Finding) (it : IntersectionObservers) → length (settled_standing place time now it).made ≡ length it.made
count_by_place None time now it = refl
count_by_place (Some place) time now it = length-changed (settled_at (place.target) time now) (place.watcher) (it.made)

pub carried_once : (serial time : ℕ) (now : Finding) (it : IntersectionObservers) → Carried it (with_settled serial time now it)
carried_once serial time now it = record {
  standing = standing_settled serial time now it;
  alike = λ watcher. alike_by (standing_of serial it) time watcher now it;
  listed = λ watcher. listed_by (standing_of serial it) time watcher now it;
  serials = serials_settled serial time now it;
  count = count_by_place (standing_of serial it) time now it;
}

pub carried_each : (time : ℕ) (find : ℕ → Finding) (xs : List Registration) (it : IntersectionObservers) → Carried it (each_settled time find xs it)
carried_each time find [] it = carried_same it
carried_each time find (x ∷ xs) it =
    let next : IntersectionObservers = with_settled (x.serial) time (find (x.target)) it in
    carried_then it next (each_settled time find xs next) (carried_once x.serial time (find (x.target)) it) (carried_each time find xs next)

-- by what registrations are found
module _ (before after : IntersectionObservers) (carried : Carried before after) (serial : ℕ) where
  pub place_still : place_of after serial ≡ place_of before serial
  place_still = ap (λ (o : Option Place). unwrap_or o (record { watcher = 0; target = 0 })) (carried.standing serial)

  watcher_still : (place_of after serial).watcher ≡ (place_of before serial).watcher
  watcher_still = ap (λ (p : Place). p.watcher) place_still

  pub target_still : target_of after serial ≡ target_of before serial
  target_still = ap (λ (p : Place). p.target) place_still

  pub root_still : (observer_of after serial).root ≡ (observer_of before serial).root
  root_still = ap (λ (p : Place). (intersection_observer_at after p.watcher).root) place_still ∙ (carried.alike (place_of before serial).watcher).root

  margins_still : (observer_of after serial).margins ≡ (observer_of before serial).margins
  margins_still = ap (λ (p : Place). (intersection_observer_at after p.watcher).margins) place_still ∙ (carried.alike (place_of before serial).watcher).margins

  module _ (scene : Scene) (standings : Root → ℕ → Standing) where
    pub along_still : (P : Container → Type 0) → AlongChain P scene standings before serial → AlongChain P scene standings after serial
    along_still P along =
        let Q : Root → ℕ → Type 0 = λ root target. IfChained (standings root target) (EachAlong P scene (element_spot target) (spot_of_root root)) in
        subst (λ root. Q root (target_of after serial)) (sym root_still) (subst (Q (observer_of before serial).root) (sym target_still) along)

    pub along_was : (P : Container → Type 0) → AlongChain P scene standings after serial → AlongChain P scene standings before serial
    along_was P along =
        let Q : Root → ℕ → Type 0 = λ root target. IfChained (standings root target) (EachAlong P scene (element_spot target) (spot_of_root root)) in
        subst (λ root. Q root (target_of before serial)) root_still (subst (Q (observer_of after serial).root) target_still along)

    module _ (chained : AreChained scene standings) where
      basis_by : List Margins → ℕ → Root → Margins → ℕ → Basis
      basis_by scroll watcher root margins target =
          let view = through (spot_of_root root) (scroll_margins_at scroll watcher) scene in
          record {
            limits = moved_out margins (root_bounds view (spot_of_root root));
            sight = sight_over view (standings root target) target (chain_between scene standings chained root target);
          }

      pub stale_still : (scroll : List Margins) (kept : FinMap nat_cmp (Option Kept)) →
          is_stale_now (seen_for after scroll serial scene) standings after (spots_between scene standings chained after) kept serial
          ≡ is_stale_now (seen_for before scroll serial scene) standings before (spots_between scene standings chained before) kept serial
      unfolding basis_by
      stale_still scroll kept = λ i. is_stale (kept_of kept serial) (basis_by scroll (watcher_still i) (root_still i) (margins_still i) (target_still i))

      -- and the steps and clips of one
      pub asked_still : (scroll : List Margins) (clips : HeldClips) →
          asked_for (seen_for after scroll serial scene) standings after (spots_between scene standings chained after) serial clips
          ≡ asked_for (seen_for before scroll serial scene) standings before (spots_between scene standings chained before) serial clips
      asked_still scroll clips = λ i.
          asked_if (standings (root_still i) (target_still i)) (through (spot_of_root (root_still i)) (scroll_margins_at scroll (watcher_still i)) scene) (chain_between scene standings chained (root_still i) (target_still i)) serial clips

      pub steps_still : (clips : HeldClips) → steps_for scene standings after (spots_between scene standings chained after) serial clips ≡ steps_for scene standings before (spots_between scene standings chained before) serial clips
      steps_still clips = λ i. steps_if (standings (root_still i) (target_still i)) (chain_between scene standings chained (root_still i) (target_still i)) serial clips
