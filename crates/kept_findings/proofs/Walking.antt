-- The chains of registrations, and lists of registrations by their serial numbers.
use Rattle.std.proofs.Common.{◌≡◌, ◌∙◌, ℕ, ◌<◌, List, [], ◌∷◌, ◌++◌, length, get_or, Some, option_map, ap, refl, sym, subst}
use Rattle.std.specs.List.{All}
use Rattle.std.proofs.Math.ListN.{get_or-map}
use Rattle.std.proofs.lemmas.List.{length-map}
use Rattle.page_model.specs.World.{Root, IntersectionObservers}
use Rattle.page_model.specs.Lookups.{intersection_observer_at}
use Rattle.element_tree.specs.declared.container.Container.{Container}
use Rattle.clip_chain.specs.Scenes.{Scene}
use Rattle.clip_chain.specs.Chains.{Leads, IsAbove}
use Rattle.clip_chain.specs.Worlds.{element_spot, spot_of_root}
use Rattle.intersection_observer.specs.Places.{Standing as Place, standing_of}
use Rattle.intersection_observer.specs.Seen.{serial_numbers}
use Rattle.intersection_observer.specs.declared.registration.RegistrationId.{RegistrationId}
use Rattle.kept_clips.specs.Held.{HeldClips}
use Rattle.kept_clips.specs.Seen.{Seen}
use Rattle.kept_clips.specs.Looked.{Looked, MayBeSeen}
use Rattle.kept_findings.proofs.Along.{all_weaker}
use Rattle.kept_clips.proofs.Looking.{may_after}
use Rattle.candidate_index.specs.declared.scene.Standing.{Standing}
use Rattle.candidate_index.specs.declared.scene.Standing.TheVariants.{Apart, NoBox, Chained}
use Rattle.candidate_index.specs.Registrations.{observer_of, target_of, standing_for, IfChained, IsBetween}
use Rattle.candidate_index.proofs.Keeping.{if_still}
use Rattle.candidate_index.proofs.Places.{looked_up}
use Rattle.kept_findings.specs.Walks.{EachAlong, AreChained, AlongChain, MayBeWalked, between_by, spots_between}

-- what is known of each registration of a list is known of each serial number
pub all_serials : (P : ℕ → Type 0) (rs : List RegistrationId) (serials : List ℕ) → serial_numbers rs ≡ serials → ((k : ℕ) (none : RegistrationId) → k < length rs → P (get_or rs k none).0) → All P serials
all_serials P rs serials same each = λ k d lt.
    let found : get_or serials k d ≡ (get_or rs k (record { 0 = d })).0 =
    ap (λ (s : List ℕ). get_or s k d) (sym same) ∙ get_or-map (λ (it : RegistrationId). it.0) rs k (record { 0 = d }) in
    let long : length serials ≡ length rs = ap (λ (s : List ℕ). length s) (sym same) ∙ length-map rs (λ (it : RegistrationId). it.0) in
    subst P (sym found) (each k (record { 0 = d }) (subst (λ n. k < n) long lt))

pub at_serial : (P : ℕ → Type 0) (rs : List RegistrationId) (serials : List ℕ) → serial_numbers rs ≡ serials → All P serials → (k : ℕ) (none : RegistrationId) → k < length rs → P (get_or rs k none).0
at_serial P rs serials same all k none lt =
    let found : get_or serials k none.0 ≡ (get_or rs k none).0 =
    ap (λ (s : List ℕ). get_or s k none.0) (sym same) ∙ get_or-map (λ (it : RegistrationId). it.0) rs k none in
    let long : length serials ≡ length rs = ap (λ (s : List ℕ). length s) (sym same) ∙ length-map rs (λ (it : RegistrationId). it.0) in
    subst P found (all k none.0 (subst (λ n. k < n) (sym long) lt))

-- a fact of a chain that leads to the root

pub chained_fact : (s : Standing) (fact : Type 0) → fact → IfChained s fact
chained_fact Apart fact h = tt
chained_fact NoBox fact h = tt
chained_fact Chained fact h = h

pub unless_chained : (s : Standing) (fact : Type 0) → (s ≡ Chained → ⊥) → IfChained s fact
unless_chained Apart fact other = tt
unless_chained NoBox fact other = tt
unless_chained Chained fact other = absurd (other refl)

leads_by : (s : Standing) (scene : Scene) (root target : Container) (above : IfChained s (IsAbove scene root target)) → IfChained s (Leads scene target (between_by s scene root target above) root)
leads_by Apart scene root target above = tt
leads_by NoBox scene root target above = tt
leads_by Chained scene root target above = above.1

module _ (scene : Scene) (standings : Root → ℕ → Standing) where
  pub is_between : (chained : AreChained scene standings) (it : IntersectionObservers) (serial : ℕ) → IsBetween scene standings it (spots_between scene standings chained it) serial
  is_between chained it serial =
      leads_by (standing_for standings it serial) scene (spot_of_root (observer_of it serial).root) (element_spot (target_of it serial)) (chained (observer_of it serial).root (target_of it serial))

  module _ (it : IntersectionObservers) where
    pub along_weaker : (P Q : Container → Type 0) → ((spot : Container) → P spot → Q spot) → (serial : ℕ) → AlongChain P scene standings it serial → AlongChain Q scene standings it serial
    along_weaker P Q each serial along =
        let target = element_spot (target_of it serial) in
        let root = spot_of_root (observer_of it serial).root in
        if_still (standing_for standings it serial) (EachAlong P scene target root) (EachAlong Q scene target root)
        (λ all between lead. all_weaker P Q each (target ∷ (between ++ root ∷ [])) (all between lead)) along

    pub room_after : (before now : Seen) (was held : HeldClips) → Looked scene before now was held → (serial : ℕ) → MayBeWalked scene standings it before was serial → MayBeWalked scene standings it now held serial
    room_after before now was held looked serial room =
        along_weaker (MayBeSeen before was) (MayBeSeen now held) (λ spot. may_after scene before now was held spot looked) serial room

-- the root and the target of a registration, as they are looked up

module _ (it : IntersectionObservers) (serial : ℕ) where
  pub root_known : (watcher : ℕ) (root : Root) → option_map (λ (p : Place). p.watcher) (standing_of serial it) ≡ Some watcher → root ≡ (intersection_observer_at it watcher).root → (observer_of it serial).root ≡ root
  root_known watcher root found is =
      ap (λ w. (intersection_observer_at it w).root) (looked_up (λ (p : Place). p.watcher) (standing_of serial it) (record { watcher = 0; target = 0 }) watcher found) ∙ sym is

  pub target_known : (target : ℕ) → option_map (λ (p : Place). p.target) (standing_of serial it) ≡ Some target → target_of it serial ≡ target
  target_known target found = looked_up (λ (p : Place). p.target) (standing_of serial it) (record { watcher = 0; target = 0 }) target found

  -- a fact of its chain, by these
  module _ (P : Container → Type 0) (scene : Scene) (standings : Root → ℕ → Standing) where
    abbrev pub AlongFrom : Root → ℕ → Type 0
    AlongFrom root target = IfChained (standings root target) (EachAlong P scene (element_spot target) (spot_of_root root))

    module _ (root : Root) (target : ℕ) (rooted : (observer_of it serial).root ≡ root) (targets : target_of it serial ≡ target) where
      pub along_there : AlongChain P scene standings it serial → AlongFrom root target
      along_there all = subst (λ r. AlongFrom r target) rooted (subst (AlongFrom (observer_of it serial).root) targets all)

      pub along_here : AlongFrom root target → AlongChain P scene standings it serial
      along_here all = subst (λ r. AlongFrom r (target_of it serial)) (sym rooted) (subst (AlongFrom root) (sym targets) all)
