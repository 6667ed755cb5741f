-- The pair of a registration that stands.
use Rattle.std.proofs.Common.{◌≡◌, ℕ, true, false, List, [], ◌∷◌, ◌++◌, Option, Some, None, option_map, is_some, unwrap_or, ap, refl, sym, subst}
use Rattle.std.specs.List.{AllByRecursion}
use Rattle.std.proofs.lemmas.Option.{same_Some}
use Rattle.page_model.specs.World.{IntersectionObservers}
use Rattle.element_tree.specs.declared.container.Container.{Container}
use Rattle.clip_chain.specs.Scenes.{Scene}
use Rattle.clip_chain.specs.Chains.{Leads}
use Rattle.clip_chain.specs.Worlds.{element_spot, spot_of_root, view_spot}
use Rattle.intersection_observer.specs.Places.{Standing as Place, standing_of, IsStanding}
use Rattle.kept_clips.specs.declared.pair.Pair.{Pair}
use Rattle.kept_clips.specs.Held.{HeldClips, new_pair, pair_at, pair_of, IsHeld, spots_of as spots_in, spots_at}
use Rattle.kept_clips.specs.Chains.{AgreesAlong}
use Rattle.kept_clips.specs.Scenes.{AgreesAt}
use Rattle.candidate_index.specs.Registrations.{observer_of, target_of}
use Rattle.kept_findings.specs.Walks.{EachAlong}
use Rattle.kept_findings.specs.Registered.{spots_of, spots_for}

abbrev no_pair : Pair
no_pair = new_pair (view_spot 0) (view_spot 0)

-- a pair that is held for two spots
pub record IsPairOf (clips : HeldClips) (serial : ℕ) (root target : Container) : Type 0 where
  pub held : IsHeld clips serial
  pub root_held : (pair_of clips serial).root ≡ root
  pub target_held : (pair_of clips serial).of ≡ target

by_option : (o : Option Pair) (root target : Container) → option_map spots_in o ≡ Some (root, target)
    → (is_some o ≡ true) × ((unwrap_or o no_pair).root ≡ root) × ((unwrap_or o no_pair).of ≡ target)
by_option None root target e = let wrong : None ≡ Some (root, target) = e in absurd (let no : ⊥ = cc in no)
by_option (Some p) root target e =
    let same : (p.root, p.of) ≡ (root, target) = same_Some (p.root, p.of) (root, target) e in
    (refl, ap (λ (both : Container × Container). both.0) same, ap (λ (both : Container × Container). both.1) same)

pub pair_by : (clips : HeldClips) (serial : ℕ) (root target : Container) → spots_at clips serial ≡ Some (root, target) → IsPairOf clips serial root target
pair_by clips serial root target e =
    let parts = by_option (pair_at clips serial) root target e in
    record { held = parts.0; root_held = parts.1; target_held = parts.2 }

some_spots : (watchers : IntersectionObservers) (o : Option Place) (d : Place) → is_some o ≡ true → option_map (spots_of watchers) o ≡ Some (spots_of watchers (unwrap_or o d))
some_spots watchers None d there = let wrong : false ≡ true = there in absurd (let no : ⊥ = cc in no)
some_spots watchers (Some p) d there = refl

pub standing_spots : (watchers : IntersectionObservers) (serial : ℕ) → IsStanding serial watchers → spots_for watchers serial ≡ Some (spot_of_root (observer_of watchers serial).root, element_spot (target_of watchers serial))
standing_spots watchers serial there = some_spots watchers (standing_of serial watchers) (record { watcher = 0; target = 0 }) there

all_front : {A : Type 0} (P : A → Type 0) (xs ys : List A) → AllByRecursion P (xs ++ ys) → AllByRecursion P xs
all_front P [] ys all = tt
all_front P (x ∷ xs) ys all = (all.0, all_front P xs ys (all.1))

-- what is seen along the chain of its two spots
module _ (seen now : Scene) (clips : HeldClips) (serial : ℕ) (root target : Container) (pair : IsPairOf clips serial root target) where
  pub agrees_along : EachAlong (AgreesAt seen now) now target root → AgreesAlong seen now (pair_of clips serial)
  agrees_along each =
      let Q : Container → Container → Type 0 = λ r t. (between : List Container) → Leads now t between r → AllByRecursion (AgreesAt seen now) (t ∷ between) in
      let front : Q root target = λ between lead. let all = each between lead in (all.0, all_front (AgreesAt seen now) between (root ∷ []) (all.1)) in
      subst (λ r. Q r (pair_of clips serial).of) (sym pair.root_held) (subst (λ t. Q root t) (sym pair.target_held) front)

  pub leads_of : (between : List Container) → Leads now target between root → Leads now (pair_of clips serial).of between (pair_of clips serial).root
  leads_of between lead =
      subst (λ (r : Container). Leads now (pair_of clips serial).of between r) (sym pair.root_held)
      (subst (λ (t : Container). Leads now t between root) (sym pair.target_held) lead)
