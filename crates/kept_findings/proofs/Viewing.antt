-- Scenes as observers see them through scroll margins: what is known of chains is known there too, and which clips are exact.
use Rattle.std.proofs.Common.{◌≡◌, ◌∙◌, ℕ, zero, suc, ◌<◌, Bool, false, cond, not, ◌&&◌, nat_le, nat_lt, List, [], ◌∷◌, ◌++◌, get_or, length, filter, map, Option, Some, None, option_map, unwrap_or, ap, refl, sym, subst, arith}
use Rattle.std.specs.Prelude.{IfSome}
use Rattle.std.specs.List.{All, list_all}
use Rattle.std.specs.FinMap.{FinMap}
use Rattle.std.specs.Ordering.{nat_cmp}
use Rattle.std.proofs.lemmas.List.Elements.{All-head, All-tail, All-cons, All-nil, All-weaker}
use Rattle.script_model.specs.Margins.{Margins}
use Rattle.page_model.specs.World.{Root, Registration, IntersectionObservers}
use Rattle.page_model.specs.Lookups.{intersection_observer_at, scroll_margins_at}
use Rattle.page_model.specs.Chains.{moved_out}
use Rattle.element_tree.specs.declared.container.Container.{Container}
use Rattle.clip_chain.specs.Scenes.{Scene, is_spot, through}
use Rattle.clip_chain.specs.Chains.{Leads}
use Rattle.clip_chain.specs.Worlds.{element_spot, spot_of_root}
use Rattle.clip_chain.proofs.Moving.{root_unmoved, leads_through, leads_back}
use Rattle.intersection_observer.specs.Places.{Standing as Place}
use Rattle.intersection_observer.specs.Serials.{HasSerials, IsFound, registrations_at}
use Rattle.kept_clips.specs.declared.pair.Pair.{Pair}
use Rattle.kept_clips.specs.declared.pair.Computed.{Computed}
use Rattle.kept_clips.specs.Clips.{clip_between}
use Rattle.kept_clips.specs.Touches.{Touched, last_number, last_touch}
use Rattle.kept_clips.specs.Held.{HeldClips, pair_at, pair_of, spots_of, spots_at}
use Rattle.kept_clips.specs.Chains.{chain_of, is_untouched, stands, IsExactPair, IsExact}
use Rattle.kept_clips.specs.Scenes.{AgreesAt, IsSpotwise}
use Rattle.kept_clips.proofs.Pairs.{no_pair}
use Rattle.candidate_index.specs.declared.scene.Standing.{Standing}
use Rattle.candidate_index.specs.declared.index.Kept.{Kept}
use Rattle.candidate_index.specs.Registrations.{place_of, observer_of, target_of, serials_at, standing_for, IsBetween, IsRootUnmoved}
use Rattle.candidate_index.specs.Held.{is_stale_now}
use Rattle.candidate_index.proofs.Keeping.{if_still}
use Rattle.kept_findings.proofs.Along.{all_weaker}
use Rattle.kept_findings.specs.Walks.{EachAlong, AlongChain}
use Rattle.kept_findings.specs.Views.{seen_by, seen_for}

through_agrees : (root : Container) (margins : Margins) (seen now : Scene) (spot : Container) → AgreesAt seen now spot → AgreesAt (through root margins seen) (through root margins now) spot
through_agrees root margins seen now spot agrees = record {
  container = agrees.container;
  clip = λ i. cond (agrees.scrolls i && not (is_spot root spot)) (option_map (moved_out margins) (agrees.clip i)) (agrees.clip i);
  scrolls = agrees.scrolls;
}

-- an observer's scroll margins among all of them
pub margins_got : (margins : List Margins) (n : ℕ) (default : Margins) → n < length margins → get_or margins n default ≡ scroll_margins_at margins n
margins_got [] n default there = absurd (elim there [ ])
margins_got (x ∷ xs) zero default there = refl
margins_got (x ∷ xs) (suc n) default there = margins_got xs n default (omega (arith, there))

pub view_is : (it : IntersectionObservers) (margins : List Margins) (watcher : ℕ) (root : Container) (own : Margins) (scene : Scene) → root ≡ spot_of_root (intersection_observer_at it watcher).root → own ≡ scroll_margins_at margins watcher
    → through root own scene ≡ seen_by it margins watcher scene
view_is it margins watcher root own scene rooted has = λ i. through (rooted i) (has i) scene

-- the registrations of an observer stand there
pub all_to_map : (P : ℕ → Type 0) (xs : List Registration) → All (λ (r : Registration). P (r.serial)) xs → All P (map (λ (r : Registration). r.serial) xs)
all_to_map P [] all = All-nil P
all_to_map P (x ∷ xs) all =
    All-cons P x.serial (map (λ (r : Registration). r.serial) xs) (All-head (λ (r : Registration). P (r.serial)) x xs all) (all_to_map P xs (All-tail (λ (r : Registration). P (r.serial)) x xs all))

pub places_at : (it : IntersectionObservers) (watcher : ℕ) → HasSerials it → All (λ serial. (place_of it serial).watcher ≡ watcher) (serials_at it watcher)
places_at it watcher serials =
    all_to_map (λ serial. (place_of it serial).watcher ≡ watcher) (registrations_at it watcher)
    (All-weaker (IsFound it watcher) (λ (r : Registration). (place_of it (r.serial)).watcher ≡ watcher) (λ r found. ap (λ (o : Option Place). (unwrap_or o (record { watcher = 0; target = 0 })).watcher) found)
    (registrations_at it watcher) (serials.found watcher))

pub filter_same : (f g : ℕ → Bool) (xs : List ℕ) → All (λ x. f x ≡ g x) xs → filter f xs ≡ filter g xs
filter_same f g [] all = refl
filter_same f g (x ∷ xs) all =
    let here : f x ≡ g x = All-head (λ n. f n ≡ g n) x xs all in
    let rest : filter f xs ≡ filter g xs = filter_same f g xs (All-tail (λ n. f n ≡ g n) x xs all) in
    λ i. cond (here i) (x ∷ rest i) (rest i)

module _ (it : IntersectionObservers) (margins : List Margins) (watcher : ℕ) where
  -- which of them are stale, by what is kept
  pub stale_alike : (standings : Root → ℕ → Standing) (scene : Scene) (between : ℕ → List Container) (kept : FinMap nat_cmp (Option Kept)) (serials : List ℕ) → All (λ serial. (place_of it serial).watcher ≡ watcher) serials
      → filter (is_stale_now (seen_by it margins watcher scene) standings it between kept) serials ≡ filter (λ serial. is_stale_now (seen_for it margins serial scene) standings it between kept serial) serials
  stale_alike standings scene between kept serials at =
      filter_same (is_stale_now (seen_by it margins watcher scene) standings it between kept) (λ serial. is_stale_now (seen_for it margins serial scene) standings it between kept serial) serials
      (λ k d below. ap (λ w. is_stale_now (seen_by it margins w scene) standings it between kept (get_or serials k d)) (sym (at k d below)))

  pub all_unmoved : (scene : Scene) (serials : List ℕ) → All (λ serial. (place_of it serial).watcher ≡ watcher) serials → All (IsRootUnmoved (seen_by it margins watcher scene) it) serials
  all_unmoved scene serials at =
      λ k d below.
      subst (λ w. (seen_by it margins watcher scene).moved (spot_of_root (intersection_observer_at it w).root) ≡ false) (sym (at k d below))
      (root_unmoved scene (scroll_margins_at margins watcher) (spot_of_root (intersection_observer_at it watcher).root))

  pub seen_spotwise : IsSpotwise (seen_by it margins watcher)
  seen_spotwise = λ before after spot agrees. through_agrees (spot_of_root (intersection_observer_at it watcher).root) (scroll_margins_at margins watcher) before after spot agrees

  module _ (standings : Root → ℕ → Standing) (now : Scene) where
    pub walked_through : (seen : Scene) (serial : ℕ) → AlongChain (AgreesAt seen now) now standings it serial
        → AlongChain (AgreesAt (seen_by it margins watcher seen) (seen_by it margins watcher now)) (seen_by it margins watcher now) standings it serial
    walked_through seen serial walked =
        let target = element_spot (target_of it serial) in
        let root = spot_of_root (observer_of it serial).root in
        let P : Container → Type 0 = AgreesAt seen now in
        let Q : Container → Type 0 = AgreesAt (seen_by it margins watcher seen) (seen_by it margins watcher now) in
        if_still (standing_for standings it serial) (EachAlong P now target root) (EachAlong Q (seen_by it margins watcher now) target root)
        (λ each between lead.
        all_weaker P Q (λ spot. seen_spotwise seen now spot) (target ∷ (between ++ root ∷ []))
        (each between (leads_back now (scroll_margins_at margins watcher) (spot_of_root (intersection_observer_at it watcher).root) target root between lead))) walked

    pub all_walked_through : (seen : Scene) (serials : List ℕ) → All (AlongChain (AgreesAt seen now) now standings it) serials
        → All (AlongChain (AgreesAt (seen_by it margins watcher seen) (seen_by it margins watcher now)) (seen_by it margins watcher now) standings it) serials
    all_walked_through seen serials walked = λ k d below. walked_through seen (get_or serials k d) (walked k d below)

    pub between_through : (between : ℕ → List Container) (serial : ℕ) → IsBetween now standings it between serial → IsBetween (seen_by it margins watcher now) standings it between serial
    between_through between serial leads =
        let target = element_spot (target_of it serial) in
        let root = spot_of_root (observer_of it serial).root in
        if_still (standing_for standings it serial) (Leads now target (between serial) root) (Leads (seen_by it margins watcher now) target (between serial) root)
        (leads_through now (scroll_margins_at margins watcher) (spot_of_root (intersection_observer_at it watcher).root) target root (between serial)) leads

    pub all_between_through : (between : ℕ → List Container) (serials : List ℕ) → All (IsBetween now standings it between) serials → All (IsBetween (seen_by it margins watcher now) standings it between) serials
    all_between_through between serials leads = λ k d below. between_through between (get_or serials k d) (leads k d below)

-- clips that are exact of any scene

pub exact_uncomputed : (view : Scene) (clips : HeldClips) (serial : ℕ) → (pair_of clips serial).computed ≡ None → IsExact view clips serial
exact_uncomputed view clips serial none =
    λ between lead current. subst (λ (o : Option Computed). IfSome o (λ (c : Computed). c.clip ≡ clip_between view between)) (sym none) tt

unheld : (o : Option Pair) → option_map spots_of o ≡ None → (unwrap_or o no_pair).computed ≡ None
unheld None e = refl
unheld (Some p) e = let wrong : Some (spots_of p) ≡ None = e in absurd (let no : ⊥ = cc in no)

pub exact_unheld : (view : Scene) (clips : HeldClips) (serial : ℕ) → spots_at clips serial ≡ None → IsExact view clips serial
exact_unheld view clips serial none = exact_uncomputed view clips serial (unheld (pair_at clips serial) none)

-- room for more spots leaves them exact

module _ (was now : Touched) (same : (spot : Container) → last_touch now spot ≡ last_touch was spot) where
  same_tests : (since : ℕ) (spots : List Container) → list_all (is_untouched now since) spots ≡ list_all (is_untouched was since) spots
  same_tests since [] = refl
  same_tests since (spot ∷ spots) =
      ap (λ n. nat_le n since && list_all (is_untouched now since) spots) (same spot)
      ∙ ap (λ b. is_untouched was since spot && b) (same_tests since spots)

  same_stands : (computed : Option Computed) (spots : List Container) → stands now computed spots ≡ stands was computed spots
  same_stands None spots = refl
  same_stands (Some c) spots = ap (λ b. nat_lt c.touches last_number && b) (same_tests c.touches spots)

pub exact_roomier : (view : Scene) (was now : HeldClips) (number : ℕ) → now.pairs ≡ was.pairs → ((spot : Container) → last_touch now.touches spot ≡ last_touch was.touches spot) → IsExact view was number → IsExact view now number
exact_roomier view was now number pairs same exact =
    let pair : Pair = pair_of was number in
    let own : pair_of now number ≡ pair = ap (λ ps. pair_of (record was { pairs = ps }) number) pairs in
    subst (IsExactPair view now.touches) (sym own) (λ between lead current. exact between lead (sym (same_stands was.touches now.touches same pair.computed (chain_of pair between)) ∙ current))
