-- Registrations that are looked at one after the other, as far as it has come.
use Rattle.std.proofs.Common.{◌≡◌, ◌∙◌, ℕ, ◌+◌, ◌<◌, ◌≤◌, Bool, List, [], ◌∷◌, ◌++◌, length, get_or, drop, filter, ap, sym, subst, arith, append_assoc, add-one}
use Rattle.std.specs.List.{All}
use Rattle.std.proofs.Math.Seq.{drop-cons}
use Rattle.std.proofs.Math.ListN.{get_or-map}
use Rattle.std.proofs.lemmas.List.{length-map, append-nil, drop_all}
use Rattle.std.proofs.lemmas.List.Elements.{filter-append}
use Rattle.page_model.specs.World.{Root, IntersectionObservers}
use Rattle.element_tree.specs.declared.container.Container.{Container}
use Rattle.clip_chain.specs.Scenes.{Scene}
use Rattle.kept_clips.specs.Held.{HeldClips}
use Rattle.intersection_observer.specs.Seen.{serial_numbers}
use Rattle.intersection_observer.specs.declared.registration.RegistrationId.{RegistrationId}
use Rattle.candidate_index.specs.declared.scene.Standing.{Standing}
use Rattle.candidate_index.specs.Asked.{asked_for, steps_for, all_asked, all_steps}

-- what is left to be looked at

pub rest_is : (rs : List RegistrationId) (k : ℕ) (d : RegistrationId) → k < length rs → serial_numbers (drop k rs) ≡ (get_or rs k d).0 ∷ serial_numbers (drop (k + 1) rs)
rest_is rs k d below =
    ap serial_numbers (drop-cons rs k d below)
    ∙ ap (λ n. (get_or rs k d).0 ∷ serial_numbers (drop n rs)) (sym (add-one k))

pub at_all : (P : ℕ → Type 0) (serials : List ℕ) (rs : List RegistrationId) (k : ℕ) (d : RegistrationId) → serial_numbers rs ≡ serials → k < length rs → All P serials → P (get_or rs k d).0
at_all P serials rs k d value below all =
    let long : length serials ≡ length rs = ap length (sym value) ∙ length-map rs (λ (it : RegistrationId). it.0) in
    let found : get_or serials k d.0 ≡ (get_or rs k d).0 = ap (λ (s : List ℕ). get_or s k d.0) (sym value) ∙ get_or-map (λ (it : RegistrationId). it.0) rs k d in
    subst P found (all k d.0 (omega (arith, long, below)))

pub stale_step : (test : ℕ → Bool) (items more rest left serials : List ℕ) (x : ℕ) → items ++ filter test rest ≡ filter test serials → rest ≡ x ∷ left → more ≡ items ++ filter test (x ∷ []) → more ++ filter test left ≡ filter test serials
stale_step test items more rest left serials x so_far is added =
    ap (λ s. s ++ filter test left) added
    ∙ append_assoc items (filter test (x ∷ [])) (filter test left)
    ∙ ap (λ s. items ++ s) (sym (filter-append test (x ∷ []) left))
    ∙ ap (λ r. items ++ filter test r) (sym is)
    ∙ so_far

module _ (scene : Scene) (standings : Root → ℕ → Standing) (it : IntersectionObservers) (between : ℕ → List Container) where
  pub clips_step : (rest left : List ℕ) (x : ℕ) (clips later all : HeldClips) → all_asked scene standings it between rest clips ≡ all → rest ≡ x ∷ left → later ≡ asked_for scene standings it between x clips → all_asked scene standings it between left later ≡ all
  clips_step rest left x clips later all so_far is asked =
      ap (all_asked scene standings it between left) asked
      ∙ ap (λ r. all_asked scene standings it between r clips) (sym is)
      ∙ so_far

  pub ticks_step : (rest left : List ℕ) (x : ℕ) (clips later : HeldClips) (steps more all : ℕ) → steps + all_steps scene standings it between rest clips ≡ all → rest ≡ x ∷ left → later ≡ asked_for scene standings it between x clips → more ≡ steps + steps_for scene standings it between x clips → more + all_steps scene standings it between left later ≡ all
  ticks_step rest left x clips later steps more all so_far is asked ticked =
      let one : all_steps scene standings it between left later ≡ all_steps scene standings it between left (asked_for scene standings it between x clips) = ap (all_steps scene standings it between left) asked in
      let two : all_steps scene standings it between rest clips ≡ steps_for scene standings it between x clips + all_steps scene standings it between left (asked_for scene standings it between x clips) = ap (λ r. all_steps scene standings it between r clips) is in
      omega (arith, one, two, so_far, ticked)

-- at the end nothing is left

pub nothing_left : (test : ℕ → Bool) (items : List ℕ) (rs : List RegistrationId) (k : ℕ) → length rs ≤ k → items ≡ items ++ filter test (serial_numbers (drop k rs))
nothing_left test items rs k past =
    sym (append-nil items) ∙ ap (λ (r : List RegistrationId). items ++ filter test (serial_numbers r)) (sym (drop_all k rs past))
