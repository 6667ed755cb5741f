-- What the tests need of their page and of lists of registrations.
use Rattle.std.proofs.Common.{◌≡◌, ◌∙◌, ◌⊎◌, ℕ, ◌+◌, ◌<◌, List, [], ◌∷◌, Option, length, get_or, inl, inr, ap, sym, subst, arith}
use Rattle.std.specs.List.{All}
use Rattle.std.proofs.Math.ListN.{get_or-map}
use Rattle.std.proofs.lemmas.List.{length-map, get_or_default}
use Rattle.element_tree.specs.declared.container.Container.{Container}
use Rattle.clip_chain.specs.Chains.{Leads}
use Rattle.intersection_observer.specs.Seen.{serial_numbers}
use Rattle.intersection_observer.specs.declared.registration.RegistrationId.{RegistrationId}
use Rattle.kept_clips.specs.Held.{HeldClips}
use Rattle.candidate_index.specs.declared.scene.Standing.{Standing}
use Rattle.candidate_index.specs.declared.scene.Standing.TheVariants.{Apart, NoBox, Chained}
use Rattle.candidate_index.specs.Registrations.{IfChained}
use Rattle.observer_tests.specs.Sample.{Sides, sample, AreExact}

-- clips don't hang on boxes

leads_still : (clips : List (Option Sides)) (boxes others : List Sides) (view : Sides) (from root : Container) (between : List Container) → Leads (sample clips others view) from between root → Leads (sample clips boxes view) from between root
leads_still clips boxes others view from root [] h = h
leads_still clips boxes others view from root (next ∷ more) h = (h.0, h.1, leads_still clips boxes others view next root more h.2)

pub exact_still : (clips more : List (Option Sides)) (boxes others : List Sides) (view wide : Sides) (held : HeldClips) → more ≡ clips → wide ≡ view → AreExact (sample clips boxes view) held → AreExact (sample more others wide) held
exact_still clips more boxes others view wide held e f exact =
    subst (λ (c : List (Option Sides)). AreExact (sample c others wide) held) (sym e)
    (subst (λ (v : Sides). AreExact (sample clips others v) held) (sym f)
    (λ pair between leads stands. exact pair between (leads_still clips boxes others view _ _ between leads) stands))

pub if_any : (standing : Standing) (fact : Type 0) → fact → IfChained standing fact
if_any Apart fact h = tt
if_any NoBox fact h = tt
if_any Chained fact h = h

-- registrations that are looked at one after the other

module _ (P : ℕ → Type 0) (rs : List RegistrationId) where
  here_or_before : (k n : ℕ) (d e : RegistrationId) → ((m : ℕ) (f : RegistrationId) → m < k → P (get_or rs m f).0) → k < length rs → P (get_or rs k d).0 → (n < k) ⊎ (n ≡ k) → P (get_or rs n e).0
  here_or_before k n d e before below here (inl h) = before n e h
  here_or_before k n d e before below here (inr h) =
      subst (λ m. P (get_or rs m e).0) (sym h) (subst (λ (r : RegistrationId). P r.0) (get_or_default rs k d e below) here)

  split : (n k : ℕ) → n < k + 1 → (n < k) ⊎ (n ≡ k)
  split n k h = grind arith

  pub one_more : (k : ℕ) (d : RegistrationId) → ((m : ℕ) (f : RegistrationId) → m < k → P (get_or rs m f).0) → k < length rs → P (get_or rs k d).0 → (n : ℕ) (e : RegistrationId) → n < k + 1 → P (get_or rs n e).0
  one_more k d before below here n e h = here_or_before k n d e before below here (split n k h)

  pub all_of : (serials : List ℕ) → serial_numbers rs ≡ serials → ((m : ℕ) (f : RegistrationId) → m < length rs → P (get_or rs m f).0) → All P serials
  all_of serials value each = λ k d below.
      let long : length serials ≡ length rs = ap length (sym value) ∙ length-map rs (λ (it : RegistrationId). it.0) in
      let found : get_or serials k d ≡ (get_or rs k (record { 0 = d })).0 = ap (λ (s : List ℕ). get_or s k d) (sym value) ∙ get_or-map (λ (it : RegistrationId). it.0) rs k (record { 0 = d }) in
      subst P (sym found) (each k (record { 0 = d }) (omega (arith, long, below)))
