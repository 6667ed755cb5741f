-- Clips that are asked for once their chains were seen: exact of what was seen, and for the same spots.
use Rattle.std.proofs.Common.{◌≡◌, ◌∙◌, ℕ, Bool, true, false, cond, List, [], ◌∷◌, get_or, Option, Some, Result, ap, refl, sym, subst, inl, inr}
use Rattle.std.specs.Prelude.{OnOk, OnErr}
use Rattle.std.specs.FinMap.{FinMap}
use Rattle.std.specs.Ordering.{nat_cmp}
use Rattle.std.specs.List.{All}
use Rattle.std.proofs.lemmas.List.Elements.{All-head, All-tail}
use Rattle.script_model.specs.Margins.{Margins}
use Rattle.page_model.specs.World.{Root, IntersectionObservers}
use Rattle.element_tree.specs.declared.container.Container.{Container}
use Rattle.clip_chain.specs.Scenes.{Scene}
use Rattle.clip_chain.specs.Chains.{Leads}
use Rattle.clip_chain.specs.Worlds.{element_spot, spot_of_root}
use Rattle.intersection_observer.specs.Places.{IsStanding}
use Rattle.intersection_observer.specs.Seen.{serial_numbers}
use Rattle.intersection_observer.specs.declared.registration.RegistrationId.{RegistrationId}
use Rattle.kept_clips.specs.Clips.{clip_between}
use Rattle.kept_clips.specs.declared.clip.Clip.{Clip}
use Rattle.kept_clips.specs.declared.pair.Pair.{Pair}
use Rattle.kept_clips.specs.Held.{HeldClips, pair_of, spots_at, computed_now, with_clip}
use Rattle.kept_clips.specs.Chains.{is_current, IsExactPair, IsExact}
use Rattle.kept_clips.specs.Scenes.{AgreesAt}
use Rattle.kept_clips.specs.Seen.{Seen, scene_seen}
use Rattle.kept_clips.proofs.Pairs.{either, of_inserted, spots_computed}
use Rattle.kept_clips.proofs.Agreeing.{exact_now, exact_asked}
use Rattle.candidate_index.specs.declared.index.Kept.{Kept}
use Rattle.candidate_index.specs.declared.scene.Standing.{Standing}
use Rattle.candidate_index.specs.declared.scene.Standing.TheVariants.{Apart, NoBox, Chained}
use Rattle.candidate_index.specs.Registrations.{observer_of, target_of, standing_for, IfChained, IsBetween, HasClip, IsReady}
use Rattle.candidate_index.specs.Asked.{asked_if, asked_for, all_asked}
use Rattle.candidate_index.proofs.Keeping.{if_still}
use Rattle.kept_findings.specs.Walks.{EachAlong, AlongChain}
use Rattle.kept_findings.specs.Views.{seen_for}
use Rattle.kept_findings.specs.Registered.{spots_for, AreHeld}
use Rattle.kept_findings.proofs.Settled.{numbers_apart, apart_test}
use Rattle.kept_findings.proofs.Walking.{all_serials, at_serial}
use Rattle.kept_findings.proofs.Pairing.{IsPairOf, pair_by, standing_spots, agrees_along, leads_of}

-- the same spots and touches, and each clip as exact of what its observer sees of what was seen as before
pub record Stays (views : ℕ → Scene) (before now : HeldClips) : Type 0 where
  pub spots : (serial : ℕ) → spots_at now serial ≡ spots_at before serial
  pub touches : now.touches ≡ before.touches
  pub exact : ((serial : ℕ) → IsExact (views serial) before serial) → (serial : ℕ) → IsExact (views serial) now serial

pub stays_same : (views : ℕ → Scene) (clips : HeldClips) → Stays views clips clips
stays_same views clips = record { spots = λ serial. refl; touches = refl; exact = λ all. all }

stays_then : (views : ℕ → Scene) (first second third : HeldClips) → Stays views first second → Stays views second third → Stays views first third
stays_then views first second third one two = record {
  spots = λ serial. two.spots serial ∙ one.spots serial;
  touches = two.touches ∙ one.touches;
  exact = λ all. two.exact (one.exact all);
}

-- what is known of a chain that leads to the root
pub record IsKnown (seen now : Scene) (spots : Option (Container × Container)) (root target : Container) (between : List Container) : Type 0 where
  pub spots_are : spots ≡ Some (root, target)
  pub agrees : EachAlong (AgreesAt seen now) now target root
  pub leads : Leads now target between root

-- the clip of another pair was computed
exact_apart : (view : Scene) (clips : HeldClips) (serial other : ℕ) (clip : Clip) → (¬ other ≡ serial) → IsExact view clips other → IsExact view (with_clip serial clip clips) other
exact_apart view clips serial other clip apart exact =
    let pair : Pair = computed_now clip (clips.touches) (pair_of clips serial) in
    subst (IsExactPair view clips.touches) (sym (of_inserted clips serial other pair ∙ ap (λ b. cond b pair (pair_of clips other)) (apart_test other serial apart))) exact

-- registrations whose observers see this of what was seen, and this of what there is now
module _ (views : ℕ → Scene) (seen now : Scene) (standings : Root → ℕ → Standing) (it : IntersectionObservers) (between : ℕ → List Container) where
  abbrev pub Known : ℕ → Type 0
  Known serial =
      (views serial ≡ seen)
      × IfChained (standing_for standings it serial)
      (IsKnown seen now (spots_for it serial) (spot_of_root (observer_of it serial).root) (element_spot (target_of it serial)) (between serial))

  pub known_of : (serial : ℕ) → views serial ≡ seen → IsStanding serial it → IfChained (standing_for standings it serial) (EachAlong (AgreesAt seen now) now (element_spot (target_of it serial)) (spot_of_root (observer_of it serial).root))
      → IsBetween now standings it between serial → Known serial
  known_of serial is there walked leads = (is, by_standing (standing_for standings it serial) walked leads)
    where
      by_standing : (s : Standing) → IfChained s (EachAlong (AgreesAt seen now) now (element_spot (target_of it serial)) (spot_of_root (observer_of it serial).root))
          → IfChained s (Leads now (element_spot (target_of it serial)) (between serial) (spot_of_root (observer_of it serial).root))
          → IfChained s (IsKnown seen now (spots_for it serial) (spot_of_root (observer_of it serial).root) (element_spot (target_of it serial)) (between serial))
      by_standing Apart walked leads = tt
      by_standing NoBox walked leads = tt
      by_standing Chained walked leads = record { spots_are = standing_spots it serial there; agrees = walked; leads = leads }

  one_asked : (clips : HeldClips) (serial : ℕ) (root target : Container) → views serial ≡ seen → IsPairOf clips serial root target → EachAlong (AgreesAt seen now) now target root → Leads now target (between serial) root
      → (b : Bool) → Stays views clips (cond b clips (with_clip serial (clip_between now (between serial)) clips))
  one_asked clips serial root target is pair agrees leads true = stays_same views clips
  one_asked clips serial root target is pair agrees leads false = record {
    spots = λ other. spots_computed clips serial other (clip_between now (between serial)) pair.held;
    touches = refl;
    exact = λ all other. elim (numbers_apart other serial) [
      | inl same ↦
          subst (λ n. IsExact (views n) (with_clip serial (clip_between now (between serial)) clips) n) (sym same)
          (subst (λ (view : Scene). IsExact view (with_clip serial (clip_between now (between serial)) clips) serial) (sym is)
          (exact_asked seen now clips serial (agrees_along seen now clips serial root target pair agrees) (between serial)
          (leads_of seen now clips serial root target pair (between serial) leads) serial (subst (λ (view : Scene). IsExact view clips serial) is (all serial))))
      | inr apart ↦ exact_apart (views other) clips serial other (clip_between now (between serial)) apart (all other)
    ];
  }

  by_standing_asked : (s : Standing) (clips : HeldClips) (serial : ℕ) (root target : Container) → views serial ≡ seen → spots_at clips serial ≡ spots_for it serial → IfChained s (IsKnown seen now (spots_for it serial) root target (between serial))
      → Stays views clips (asked_if s now (between serial) serial clips)
  by_standing_asked Apart clips serial root target is spots known = stays_same views clips
  by_standing_asked NoBox clips serial root target is spots known = stays_same views clips
  by_standing_asked Chained clips serial root target is spots known =
      one_asked clips serial root target is (pair_by clips serial root target (spots ∙ known.spots_are)) known.agrees known.leads (is_current clips serial (between serial))

  pub asked_stays : (clips : HeldClips) (serial : ℕ) → spots_at clips serial ≡ spots_for it serial → Known serial → Stays views clips (asked_for now standings it between serial clips)
  asked_stays clips serial spots known =
      by_standing_asked (standing_for standings it serial) clips serial (spot_of_root (observer_of it serial).root) (element_spot (target_of it serial)) known.0 spots known.1

  pub all_stay : (serials : List ℕ) (clips : HeldClips) → ((serial : ℕ) → spots_at clips serial ≡ spots_for it serial) → All Known serials → Stays views clips (all_asked now standings it between serials clips)
  all_stay [] clips spots known = stays_same views clips
  all_stay (serial ∷ serials) clips spots known =
      let one : Stays views clips (asked_for now standings it between serial clips) = asked_stays clips serial (spots serial) (All-head Known serial serials known) in
      stays_then views clips (asked_for now standings it between serial clips) (all_asked now standings it between serials (asked_for now standings it between serial clips)) one
      (all_stay serials (asked_for now standings it between serial clips) (λ other. one.spots other ∙ spots other) (All-tail Known serial serials known))

  -- what the index asks of the clips
  pub ready_of : (clips : HeldClips) → ((serial : ℕ) → spots_at clips serial ≡ spots_for it serial) → ((serial : ℕ) → IsExact (views serial) clips serial) → (serial : ℕ) → Known serial → IsReady now standings it clips serial
  ready_of clips spots exact serial known =
      let root = spot_of_root (observer_of it serial).root in
      let target = element_spot (target_of it serial) in
      if_still (standing_for standings it serial) (IsKnown seen now (spots_for it serial) root target (between serial)) (HasClip now clips serial (observer_of it serial).root (target_of it serial))
      (λ this.
      let pair : IsPairOf clips serial root target = pair_by clips serial root target (spots serial ∙ this.spots_are) in
      record {
        held = pair.held;
        root_held = pair.root_held;
        target_held = pair.target_held;
        above = (between serial, this.leads);
        exact = exact_now seen now clips serial (agrees_along seen now clips serial root target pair this.agrees) (subst (λ (view : Scene). IsExact view clips serial) known.0 (exact serial));
      })
      known.1

  module _ (rs : List RegistrationId) (serials : List ℕ) (same : serial_numbers rs ≡ serials) (alike : All (λ serial. views serial ≡ seen) serials) (standing : All (λ (r : RegistrationId). IsStanding r.0 it) rs)
      (walked : All (AlongChain (AgreesAt seen now) now standings it) serials) (leads : (serial : ℕ) → IsBetween now standings it between serial) where
    all_known : All Known serials
    all_known =
        all_serials Known rs serials same
        (λ k none below.
        known_of (get_or rs k none).0 (at_serial (λ serial. views serial ≡ seen) rs serials same alike k none below) (standing k none below) (at_serial (AlongChain (AgreesAt seen now) now standings it) rs serials same walked k none below) (leads (get_or rs k none).0))

    pub all_ready : (clips : HeldClips) → ((serial : ℕ) → spots_at clips serial ≡ spots_for it serial) → ((serial : ℕ) → IsExact (views serial) clips serial) → All (IsReady now standings it clips) serials
    all_ready clips spots exact = λ k d below. ready_of clips spots exact (get_or serials k d) (all_known k d below)

    -- through a call that asks for the clips of all of them, or is refused
    pub stays_asked : {A E : Type 0} (result : Result A E) (clips new : HeldClips) → ((serial : ℕ) → spots_at clips serial ≡ spots_for it serial)
        → OnOk result (new ≡ all_asked now standings it between serials clips) → OnErr result (new ≡ clips) → Stays views clips new
    stays_asked result clips new spots ok err =
        either result (Stays views clips) clips new (all_asked now standings it between serials clips) ok err (all_stay serials clips spots all_known) (stays_same views clips)

-- what is kept of the registrations through calls that ask for clips
pub held_still : (it : IntersectionObservers) (margins : List Margins) (sightings : Seen) (clips new : HeldClips) (kept : FinMap nat_cmp (Option Kept))
    → Stays (λ serial. seen_for it margins serial (scene_seen sightings)) clips new
    → AreHeld it margins (record { seen = sightings; clips = clips; kept = kept }) → AreHeld it margins (record { seen = sightings; clips = new; kept = kept })
held_still it margins sightings clips new kept stays held = record {
  pairs = λ serial. stays.spots serial ∙ held.pairs serial;
  added = held.added;
  found = held.found;
  exact = stays.exact held.exact;
}
