-- Clips that are valid once they were asked for, and stay so while no spot on their chains is touched.
use Rattle.std.proofs.Common.{◌≡◌, ◌∙◌, ℕ, ◌<◌, ◌+◌, Bool, true, false, cond, ◌&&◌, nat_lt, nat_le, List, [], ◌∷◌, ◌++◌, Option, Some, None, is_some, ap, refl, sym, subst, inl, inr, arith}
use Rattle.std.specs.Prelude.{All}
use Rattle.std.specs.List.{AllByRecursion, list_all}
use Rattle.std.proofs.lemmas.Bool.{false≢true}
use Rattle.std.proofs.lemmas.List.Elements.{All-cons, All-nil}
use Rattle.script_model.specs.Margins.{Margins}
use Rattle.page_model.specs.Shown.{Shown}
use Rattle.page_model.specs.World.{Root, IntersectionObservers}
use Rattle.page_model.specs.Lookups.{intersection_observer_at}
use Rattle.page_model.specs.Intersections.{is_rooted_in}
use Rattle.element_tree.specs.declared.container.Container.{Container}
use Rattle.clip_chain.specs.Scenes.{Scene}
use Rattle.clip_chain.specs.Chains.{Leads}
use Rattle.clip_chain.specs.Worlds.{scene_of, element_spot, spot_of_root}
use Rattle.intersection_observer.specs.Places.{Standing as Place}
use Rattle.kept_clips.specs.declared.pair.Pair.{Pair}
use Rattle.kept_clips.specs.declared.pair.Computed.{Computed}
use Rattle.kept_clips.specs.Clips.{clip_between}
use Rattle.kept_clips.specs.Touches.{Touched, last_number, last_touch}
use Rattle.kept_clips.specs.Held.{HeldClips, pair_of, with_clip}
use Rattle.kept_clips.specs.Chains.{chain_of, is_untouched, stands, is_current}
use Rattle.kept_clips.specs.Numbers.{AreNumbered}
use Rattle.kept_clips.specs.Seen.{Seen, sighting_of, sighting_in}
use Rattle.kept_clips.specs.Looked.{ChangesByLooks}
use Rattle.candidate_index.specs.declared.scene.Standing.{Standing}
use Rattle.candidate_index.specs.declared.scene.Standing.TheVariants.{Apart, NoBox, Chained}
use Rattle.candidate_index.specs.Registrations.{place_of, observer_of, target_of, serials_at, standing_for, IfChained}
use Rattle.candidate_index.specs.Asked.{asked_if, asked_for, all_asked}
use Rattle.kept_findings.specs.Held.{HeldFindings}
use Rattle.kept_findings.specs.Registered.{AreRegistered}
use Rattle.kept_findings.specs.Walks.{EachAlong, spots_between, chain_between}
use Rattle.kept_findings.proofs.Along.{all_weaker}
use Rattle.kept_findings.proofs.Pairing.{IsPairOf, pair_by, standing_spots}
use Rattle.kept_findings.proofs.Settled.{numbers_apart}
use Rattle.kept_findings.proofs.Ticking.{current_now, current_apart}
use Rattle.kept_findings.proofs.Walking.{is_between}
use Rattle.page_geometry.specs.Scenes.{standings_of}
use Rattle.intersection_update.specs.Updating.{Carried}
use Rattle.intersection_update.specs.Keeping.{HaveChains, IsLookedAt, IsSeen, HasCurrentClip}
use Rattle.intersection_update.proofs.Carried.{place_still, target_still, root_still}
use Rattle.intersection_update.proofs.Keeping.{at_standing}
use Rattle.intersection_update.proofs.Observers.{stands_here, rooted_here, one_earlier}
use Rattle.intersection_update.proofs.Steps.{numbered_asked, touches_asked}

-- once it was asked for

module _ (scene : Scene) (standings : Root → ℕ → Standing) (it : IntersectionObservers) (between : ℕ → List Container) where
  abbrev CurrentIf : Standing → ℕ → HeldClips → Type 0
  CurrentIf s serial clips = IfChained s (is_current clips serial (between serial) ≡ true)

  abbrev pub IsCurrent : HeldClips → ℕ → Type 0
  IsCurrent clips serial = CurrentIf (standing_for standings it serial) serial clips

  own_by : (serial : ℕ) (clips : HeldClips) (b : Bool) → AreNumbered clips → clips.touches.count < last_number → is_current clips serial (between serial) ≡ b
      → is_current (cond b clips (with_clip serial (clip_between scene (between serial)) clips)) serial (between serial) ≡ true
  own_by serial clips true numbered below e = e
  own_by serial clips false numbered below e = current_now clips serial (clip_between scene (between serial)) (between serial) numbered below

  own_if : (s : Standing) (serial : ℕ) (clips : HeldClips) → AreNumbered clips → clips.touches.count < last_number → CurrentIf s serial (asked_if s scene (between serial) serial clips)
  own_if Apart serial clips numbered below = tt
  own_if NoBox serial clips numbered below = tt
  own_if Chained serial clips numbered below = own_by serial clips (is_current clips serial (between serial)) numbered below refl

  still_by : (serial other : ℕ) (clips : HeldClips) (b : Bool) → is_current clips serial (between serial) ≡ b → is_current clips other (between other) ≡ true
      → is_current (cond b clips (with_clip serial (clip_between scene (between serial)) clips)) other (between other) ≡ true
  still_by serial other clips true e was = was
  still_by serial other clips false e was = elim (numbers_apart other serial) [
    | inl same ↦ absurd (false≢true (sym e ∙ ap (λ n. is_current clips n (between n)) (sym same) ∙ was))
    | inr apart ↦ current_apart scene standings it between serial other (clip_between scene (between serial)) clips apart ∙ was
  ]

  still_if : (one two : Standing) (serial other : ℕ) (clips : HeldClips) → CurrentIf two other clips → CurrentIf two other (asked_if one scene (between serial) serial clips)
  still_if Apart two serial other clips was = was
  still_if NoBox two serial other clips was = was
  still_if Chained Apart serial other clips was = tt
  still_if Chained NoBox serial other clips was = tt
  still_if Chained Chained serial other clips was = still_by serial other clips (is_current clips serial (between serial)) refl was

  still_once : (serial other : ℕ) (clips : HeldClips) → IsCurrent clips other → IsCurrent (asked_for scene standings it between serial clips) other
  still_once serial other clips was = still_if (standing_for standings it serial) (standing_for standings it other) serial other clips was

  -- and while others are
  pub still_asked : (serial other : ℕ) (clips now : HeldClips) → now ≡ asked_for scene standings it between serial clips → IsCurrent clips other → IsCurrent now other
  still_asked serial other clips now is was = subst (λ (held : HeldClips). IsCurrent held other) (sym is) (still_once serial other clips was)

  still_all : (serials : List ℕ) (other : ℕ) (clips : HeldClips) → IsCurrent clips other → IsCurrent (all_asked scene standings it between serials clips) other
  still_all [] other clips was = was
  still_all (serial ∷ serials) other clips was = still_all serials other (asked_for scene standings it between serial clips) (still_once serial other clips was)

  all_current : (serials : List ℕ) (clips : HeldClips) → AreNumbered clips → clips.touches.count < last_number → All (λ serial. IsCurrent (all_asked scene standings it between serials clips) serial) serials
  all_current [] clips numbered below = All-nil (λ serial. IsCurrent clips serial)
  all_current (serial ∷ serials) clips numbered below =
      let next : HeldClips = asked_for scene standings it between serial clips in
      All-cons (λ other. IsCurrent (all_asked scene standings it between serials next) other) serial serials
      (still_all serials serial next (own_if (standing_for standings it serial) serial clips numbered below))
      (all_current serials next (numbered_asked scene standings it between serial clips numbered)
      (subst (λ (t : Touched). t.count < last_number) (sym (touches_asked scene standings it between serial clips)) below))

  pub current_first : (serials : List ℕ) (clips now : HeldClips) → AreNumbered clips → now ≡ all_asked scene standings it between serials clips → now.touches ≡ clips.touches → now.touches.count < last_number
      → All (IsCurrent now) serials
  current_first serials clips now numbered is touches below =
      subst (λ (held : HeldClips). All (IsCurrent held) serials) (sym is) (all_current serials clips numbered (subst (λ (t : Touched). t.count < last_number) touches below))

-- while no spot on the chain is touched

untouched_same : (old new : Touched) (since : ℕ) (spots : List Container) → AllByRecursion (λ spot. last_touch new spot ≡ last_touch old spot) spots
    → list_all (is_untouched new since) spots ≡ list_all (is_untouched old since) spots
untouched_same old new since [] all = refl
untouched_same old new since (spot ∷ spots) all = λ i. nat_le (all.0 i) since && untouched_same old new since spots (all.1) i

stands_same : (computed : Option Computed) (old new : Touched) (chain : List Container) → AllByRecursion (λ spot. last_touch new spot ≡ last_touch old spot) chain → stands new computed chain ≡ stands old computed chain
stands_same None old new chain all = refl
stands_same (Some c) old new chain all = ap (λ b. nat_lt c.touches last_number && b) (untouched_same old new (c.touches) chain all)

-- a spot that was looked at isn't touched again
touch_same : (scene : Scene) (before now : Seen) (old new : Touched) → ChangesByLooks scene before now old new → (spot : Container) → sighting_of before spot ≡ Some (sighting_in scene spot)
    → last_touch new spot ≡ last_touch old spot
touch_same scene before now old new changes spot seen = elim (changes.each spot) [
  | inl left ↦ left.touch
  | inr anew ↦ absurd (anew.differs seen)
]

if_chained : (s : Standing) (A B C D : Type 0) → (A → B → C → D) → IfChained s A → IfChained s B → IfChained s C → IfChained s D
if_chained Apart A B C D f a b c = tt
if_chained NoBox A B C D f a b c = tt
if_chained Chained A B C D f a b c = f a b c

module _ (shown : Shown) (chained : HaveChains shown) (was : IntersectionObservers) where
  abbrev between_spots : ℕ → List Container
  between_spots serial = spots_between (scene_of shown) (standings_of shown) chained was serial

  pub current_still : (now next : HeldFindings) (serial : ℕ) → ChangesByLooks (scene_of shown) now.seen next.seen now.clips.touches next.clips.touches → pair_of next.clips serial ≡ pair_of now.clips serial
      → IsPairOf now.clips serial (spot_of_root (observer_of was serial).root) (element_spot (target_of was serial)) → IsSeen shown was now.seen serial
      → HasCurrentClip shown chained was now.clips serial → HasCurrentClip shown chained was next.clips serial
  current_still now next serial changes same pair seen is =
      let scene = scene_of shown in
      let root = spot_of_root (observer_of was serial).root in
      let target = element_spot (target_of was serial) in
      let between = between_spots serial in
      let P : Container → Type 0 = λ spot. sighting_of now.seen spot ≡ Some (sighting_in scene spot) in
      let Q : Container → Type 0 = λ spot. last_touch next.clips.touches spot ≡ last_touch now.clips.touches spot in
      if_chained (standing_for (standings_of shown) was serial) (EachAlong P scene target root) (Leads scene target between root)
      (is_current now.clips serial between ≡ true) (is_current next.clips serial between ≡ true)
      (λ each leads current.
      let chain_is : target ∷ (between ++ root ∷ []) ≡ chain_of (pair_of now.clips serial) between = λ i. sym pair.target_held i ∷ (between ++ sym pair.root_held i ∷ []) in
      let still : AllByRecursion Q (target ∷ (between ++ root ∷ [])) =
      all_weaker P Q (touch_same scene now.seen next.seen now.clips.touches next.clips.touches changes) (target ∷ (between ++ root ∷ [])) (each between leads) in
      ap (λ (p : Pair). stands next.clips.touches p.computed (chain_of p between)) same
      ∙ stands_same (pair_of now.clips serial).computed now.clips.touches next.clips.touches (chain_of (pair_of now.clips serial) between) (subst (AllByRecursion Q) chain_is still)
      ∙ current)
      seen (is_between scene (standings_of shown) chained was serial) is

  -- one observer after the other --------------------------------------------------------------------------------------------------

  module _ (it : IntersectionObservers) (carried : Carried was it) (clips : HeldClips) (serial : ℕ) where
    abbrev AtPlace : Root → ℕ → Type 0
    AtPlace root target = IfChained (standings_of shown root target) (is_current clips serial (chain_between (scene_of shown) (standings_of shown) chained root target) ≡ true)

    current_was : HasCurrentClip shown chained it clips serial → HasCurrentClip shown chained was clips serial
    current_was is =
        subst (λ root. AtPlace root (target_of was serial)) (root_still was it carried serial) (subst (AtPlace (observer_of it serial).root) (target_still was it carried serial) is)

    pub current_then : HasCurrentClip shown chained was clips serial → HasCurrentClip shown chained it clips serial
    current_then is =
        subst (λ root. AtPlace root (target_of it serial)) (sym (root_still was it carried serial)) (subst (AtPlace (observer_of was serial).root) (sym (target_still was it carried serial)) is)

  module _ (document : ℕ) where
    -- the clips of so many observers' registrations
    abbrev pub AreCurrent : ℕ → HeldFindings → Type 0
    AreCurrent number now =
        now.clips.touches.count < last_number → (serial : ℕ) → IsLookedAt shown.tree document was serial → (place_of was serial).watcher < number → HasCurrentClip shown chained was now.clips serial

    module _ (it : IntersectionObservers) (carried : Carried was it) (number : ℕ) where
      pub current_skip : (now : HeldFindings) → is_rooted_in shown.tree document (intersection_observer_at it number).root ≡ false → AreCurrent number now → AreCurrent (number + 1) now
      current_skip now apart so_far below serial looked early = elim (one_earlier (place_of was serial).watcher number early) [
        | inl here ↦ absurd (false≢true (sym apart ∙ rooted_here shown document was it carried number serial looked here))
        | inr earlier ↦ so_far below serial looked earlier
      ]

      pub current_more : (margins : List Margins) (now next : HeldFindings) → AreRegistered it margins now
          → ((serial : ℕ) → IsLookedAt shown.tree document was serial → (place_of was serial).watcher < number → IsSeen shown was now.seen serial)
          → ChangesByLooks (scene_of shown) now.seen next.seen now.clips.touches next.clips.touches
          → ((serial : ℕ) → (¬ (place_of it serial).watcher ≡ number) → pair_of next.clips serial ≡ pair_of now.clips serial)
          → (next.clips.touches.count < last_number → All (HasCurrentClip shown chained it next.clips) (serials_at it number)) → AreCurrent number now → AreCurrent (number + 1) next
      current_more margins now next registered seen changes pairs own so_far below serial looked early = elim (one_earlier (place_of was serial).watcher number early) [
        | inl here ↦
            current_was it carried next.clips serial
            (at_standing (HasCurrentClip shown chained it next.clips) it number serial (stands_here shown document was it carried number serial looked here) (own below))
        | inr earlier ↦
            let place = ap (λ (p : Place). p.watcher) (place_still was it carried serial) in
            let there = ap (λ (o : Option Place). is_some o) (carried.standing serial) ∙ looked.standing in
            let pair = pair_by now.clips serial (spot_of_root (observer_of was serial).root) (element_spot (target_of was serial))
            (registered.held.pairs serial ∙ standing_spots it serial there ∙ (λ i. Some (spot_of_root (root_still was it carried serial i), element_spot (target_still was it carried serial i)))) in
            let fewer = changes.count in
            current_still now next serial changes (pairs serial (λ same. absurd (omega (arith, earlier, same, place)))) pair (seen serial looked earlier)
            (so_far (omega (arith, fewer, below)) serial looked earlier)
      ]
