-- What is kept of registrations once one of them is settled.
use Rattle.std.proofs.Common.{◌≡◌, ◌∙◌, ℕ, zero, suc, ◌<◌, ◌≢◌, Bool, true, false, cond, ◌==◌, ◌&&◌, ◌||◌, not, List, [], ◌∷◌, ◌++◌, length, Option, Some, None, option_map, is_some, unwrap_or, ap, refl, sym, subst, inl, inr, arith}
use Rattle.std.specs.Prelude.{◌⊎◌, nat_eq, find, IfSome}
use Rattle.std.specs.List.{AllByRecursion, IsDistinct}
use Rattle.std.specs.Ordering.{nat_cmp}
use Rattle.std.specs.FinMap.{FinMap, get, insert, contains_key}
use Rattle.std.proofs.lemmas.Bool.{eqb-true, eq-eqb, false≢true, and_right}
use Rattle.std.proofs.lemmas.Bool.Decides.{Decides-eqb}
use Rattle.std.proofs.lemmas.Option.{same_Some}
use Rattle.script_model.specs.Margins.{Margins}
use Rattle.page_model.specs.World.{Finding, Registration, IntersectionObserver, IntersectionObservers}
use Rattle.page_model.specs.Documents.{is_number}
use Rattle.page_model.specs.Lookups.{entry_or, change_at, no_intersection_observer, intersection_observer_at, scroll_margins_at, change_intersection_observer}
use Rattle.page_model.specs.IntersectionObserving.{without_queue}
use Rattle.page_model.specs.Intersections.{settled, is_news, is_same_bool}
use Rattle.clip_chain.specs.Scenes.{Scene, through}
use Rattle.clip_chain.specs.Worlds.{element_spot, spot_of_root}
use Rattle.intersection_observer.specs.Places.{Standing as Place, has_serial, target_in, standing_of}
use Rattle.intersection_observer.specs.Seen.{seen_finding}
use Rattle.intersection_observer.specs.Serials.{HasSerials, registrations_at, targets_of}
use Rattle.intersection_observer.specs.Settling.{settled_at, settled_standing, with_settled, is_news_of, is_news_at, is_news_for}
use Rattle.intersection_observer.proofs.Standing.{StandsAt, stands_at, stands-there, standing-made}
use Rattle.intersection_observer.proofs.Subjects.{subjects_of}
use Rattle.candidate_index.specs.declared.index.Kept.{Kept}
use Rattle.candidate_index.specs.Held.{kept_of, IsFound, AreFound}
use Rattle.candidate_index.proofs.Found.{kept_inserted, found_inserted}
use Rattle.kept_clips.specs.Held.{spots_at}
use Rattle.kept_clips.specs.Chains.{IsExact}
use Rattle.kept_clips.specs.Seen.{scene_seen}
use Rattle.kept_clips.proofs.Seeing.{same_scene}
use Rattle.kept_findings.specs.Held.{HeldFindings, with_expired, IsRoomier}
use Rattle.kept_findings.proofs.Registering.{there_still}
use Rattle.kept_findings.specs.Views.{seen_by, seen_for}
use Rattle.kept_findings.specs.Registered.{spots_of, AreHeld, IsSettled, AreRegistered}
use Rattle.kept_findings.proofs.Viewing.{exact_unheld, exact_roomier}
use Rattle.intersection_observer.proofs.Settling.{KeepsSubjects, standing-changed, settled-keeps, serials-changed}
use Rattle.intersection_observer.proofs.Only.{registrations_once}

-- lists in which one entry is changed

pub at_changed : {A : Type 0} (R : A → A → Type 0) → ((x : A) → R x x) → (default : A) (change : A → A) → ((x : A) → R x (change x)) → (place k : ℕ) (xs : List A) → R (entry_or default xs k) (entry_or default (change_at change place xs) k)
at_changed R same default change each place k [] = same default
at_changed R same default change each zero zero (x ∷ xs) = each x
at_changed R same default change each zero (suc k) (x ∷ xs) = same (entry_or default xs k)
at_changed R same default change each (suc place) zero (x ∷ xs) = same x
at_changed R same default change each (suc place) (suc k) (x ∷ xs) = at_changed R same default change each place k xs

pub changed_apart : {A : Type 0} (default : A) (change : A → A) (place k : ℕ) (xs : List A) → (¬ k ≡ place) → entry_or default (change_at change place xs) k ≡ entry_or default xs k
changed_apart default change place k [] apart = refl
changed_apart default change zero zero (x ∷ xs) apart = absurd (apart refl)
changed_apart default change zero (suc k) (x ∷ xs) apart = refl
changed_apart default change (suc place) zero (x ∷ xs) apart = refl
changed_apart default change (suc place) (suc k) (x ∷ xs) apart = changed_apart default change place k xs (λ e. apart (ap suc e))

pub changed_here : {A : Type 0} (default : A) (change : A → A) (place : ℕ) (xs : List A) → place < length xs → entry_or default (change_at change place xs) place ≡ change (entry_or default xs place)
changed_here default change place [] there = absurd (elim there [ ])
changed_here default change zero (x ∷ xs) there = refl
changed_here default change (suc place) (x ∷ xs) there = changed_here default change place xs (omega arith)

pub numbers_apart : (a b : ℕ) → (a ≡ b) ⊎ (a ≢ b)
numbers_apart a b = by_test (a == b) refl
  where
    by_test : (t : Bool) → (a == b) ≡ t → (a ≡ b) ⊎ (a ≢ b)
    by_test true e = inl ((Decides-eqb a b).0 e)
    by_test false e = inr (λ same. false≢true (sym e ∙ (Decides-eqb a b).1 same))

pub apart_test : (a b : ℕ) → (¬ a ≡ b) → (a == b) ≡ false
apart_test a b apart = by_test (a == b) refl
  where
    by_test : (t : Bool) → (a == b) ≡ t → (a == b) ≡ false
    by_test true e = absurd (apart ((Decides-eqb a b).0 e))
    by_test false e = e

-- where registrations stand stays

subjects-changed : (change : IntersectionObserver → IntersectionObserver) → KeepsSubjects change → (place : ℕ) (it : IntersectionObservers) (k : ℕ) → subjects_of (registrations_at (change_intersection_observer change place it) k) ≡ subjects_of (registrations_at it k)
subjects-changed change keeps place it k =
    at_changed (λ (a b : IntersectionObserver). subjects_of (b.registrations) ≡ subjects_of (a.registrations)) (λ x. refl) no_intersection_observer change keeps place k (it.made)

standing_by : (place : Option Place) (time : ℕ) (now : Finding) (it : IntersectionObservers) (other : ℕ) → standing_of other (settled_standing place time now it) ≡ standing_of other it
standing_by None time now it other = refl
standing_by (Some place) time now it other =
    standing-changed (settled_at (place.target) time now) (settled-keeps (place.target) time now) other 0 (place.watcher) (it.made)

pub standing_settled : (serial time : ℕ) (now : Finding) (it : IntersectionObservers) (other : ℕ) → standing_of other (with_settled serial time now it) ≡ standing_of other it
standing_settled serial time now it other = standing_by (standing_of serial it) time now it other

serials_by : (place : Option Place) (time : ℕ) (now : Finding) (it : IntersectionObservers) → HasSerials it → HasSerials (settled_standing place time now it)
serials_by None time now it serials = serials
serials_by (Some place) time now it serials = serials-changed (settled_at (place.target) time now) (settled-keeps (place.target) time now) (place.watcher) it serials

pub serials_settled : (serial time : ℕ) (now : Finding) (it : IntersectionObservers) → HasSerials it → HasSerials (with_settled serial time now it)
serials_settled serial time now it serials = serials_by (standing_of serial it) time now it serials

-- and what is found by observers

pub record AreAlike (a b : IntersectionObserver) : Type 0 where
  pub root : b.root ≡ a.root
  pub thresholds : b.thresholds ≡ a.thresholds

pub alike_by : (place : Option Place) (time watcher : ℕ) (now : Finding) (it : IntersectionObservers) → AreAlike (intersection_observer_at it watcher) (intersection_observer_at (settled_standing place time now it) watcher)
alike_by None time watcher now it = record { root = refl; thresholds = refl }
alike_by (Some place) time watcher now it =
    at_changed AreAlike (λ x. record { root = refl; thresholds = refl }) no_intersection_observer (settled_at (place.target) time now) (λ x. record { root = refl; thresholds = refl }) (place.watcher) watcher (it.made)

-- news ---------------------------------------------------------------------------------------------------------------------------------

-- of another target
news_apart : (m n time : ℕ) (f now : Finding) (xs : List Registration) → (¬ m ≡ n) → is_news_of m f (registrations_once n time now xs) ≡ is_news_of m f xs
unfolding registrations_once
news_apart m n time f now [] apart = refl
news_apart m n time f now (x ∷ xs) apart =
    elim (x.target == n) as (λ is. (x.target == n) ≡ is →
    ((((cond is (settled time now x) (record { registration = x; entry = None })).registration.target == m) && is_news (cond is (settled time now x) (record { registration = x; entry = None })).registration f) || is_news_of m f (registrations_once n time now xs))
    ≡ (((x.target == m) && is_news x f) || is_news_of m f xs)) [
      | true ↦ λ is.
          let other : (x.target == m) ≡ false = apart_test x.target m (λ same. apart (sym same ∙ eqb-true x.target n is)) in
          ap (λ b. (b && is_news (settled time now x).registration f) || is_news_of m f (registrations_once n time now xs)) other
          ∙ news_apart m n time f now xs apart
          ∙ ap (λ b. (b && is_news x f) || is_news_of m f xs) (sym other)
      | false ↦ λ is. ap (λ b. ((x.target == m) && is_news x f) || b) (news_apart m n time f now xs apart)
    ] refl

same_number : (n : ℕ) → is_number (Some n) n ≡ true
same_number n = eq-eqb n n refl

same_meets : (b : Bool) → is_same_bool b b ≡ true
same_meets true = refl
same_meets false = refl

no_news : (time : ℕ) (f now : Finding) (x : Registration) → f.index ≡ now.index → f.meets ≡ now.meets → is_news (settled time now x).registration f ≡ false
no_news time f now x index meets =
    ap (λ b. not (b && is_same_bool (now.meets) (f.meets))) (ap (is_number (Some (now.index))) index ∙ same_number (now.index))
    ∙ ap (λ b. not b) (ap (is_same_bool (now.meets)) meets ∙ same_meets (now.meets))

-- of what was settled by the same
own_news : (n time : ℕ) (f now : Finding) (xs : List Registration) → f.index ≡ now.index → f.meets ≡ now.meets → is_news_of n f (registrations_once n time now xs) ≡ false
unfolding registrations_once
own_news n time f now [] index meets = refl
own_news n time f now (x ∷ xs) index meets =
    elim (x.target == n) as (λ is. (x.target == n) ≡ is →
    ((((cond is (settled time now x) (record { registration = x; entry = None })).registration.target == n) && is_news (cond is (settled time now x) (record { registration = x; entry = None })).registration f) || is_news_of n f (registrations_once n time now xs))
    ≡ false) [
      | true ↦ λ is. ap (λ b. b || is_news_of n f (registrations_once n time now xs)) (and_right (x.target == n) (is_news (settled time now x).registration f) (no_news time f now x index meets)) ∙ own_news n time f now xs index meets
      | false ↦ λ is. ap (λ b. (b && is_news x f) || is_news_of n f (registrations_once n time now xs)) is ∙ own_news n time f now xs index meets
    ] refl

-- a target is that of one serial number alone

not_there : (t n : ℕ) (xs : List Registration) → AllByRecursion (λ other. nat_eq t other ≡ false) (targets_of xs) → target_in n xs ≡ Some t → ⊥
not_there t n [] apart found = let wrong : None ≡ Some t = found in (let no : ⊥ = cc in no)
not_there t n (x ∷ xs) apart found =
    elim (x.serial == n) as (λ is. option_map (λ (it : Registration). it.target) (cond is (Some x) (find (has_serial n) xs)) ≡ Some t → ⊥) [
      | true ↦ λ here. false≢true (sym (apart.0) ∙ eq-eqb t x.target (sym (same_Some x.target t here)))
      | false ↦ λ later. not_there t n xs (apart.1) later
    ] found

sole_serial : (a b t : ℕ) (xs : List Registration) → IsDistinct nat_eq (targets_of xs) → target_in a xs ≡ Some t → target_in b xs ≡ Some t → a ≡ b
unfolding IsDistinct
sole_serial a b t [] distinct one two = let wrong : None ≡ Some t = one in absurd (let no : ⊥ = cc in no)
sole_serial a b t (x ∷ xs) distinct one two =
    elim (x.serial == a) as (λ is_a. (x.serial == a) ≡ is_a → option_map (λ (it : Registration). it.target) (cond is_a (Some x) (find (has_serial a) xs)) ≡ Some t → a ≡ b) [
      | true ↦ λ is_a here. (elim (x.serial == b) as (λ is_b. (x.serial == b) ≡ is_b → option_map (λ (it : Registration). it.target) (cond is_b (Some x) (find (has_serial b) xs)) ≡ Some t → a ≡ b) [
        | true ↦ λ is_b too. sym (eqb-true x.serial a is_a) ∙ eqb-true x.serial b is_b
        | false ↦ λ is_b later. absurd (not_there t b xs (subst (λ n. AllByRecursion (λ other. nat_eq n other ≡ false) (targets_of xs)) (same_Some x.target t here) (distinct.0)) later)
      ] refl two)
      | false ↦ λ is_a later. (elim (x.serial == b) as (λ is_b. (x.serial == b) ≡ is_b → option_map (λ (it : Registration). it.target) (cond is_b (Some x) (find (has_serial b) xs)) ≡ Some t → a ≡ b) [
        | true ↦ λ is_b here. absurd (not_there t a xs (subst (λ n. AllByRecursion (λ other. nat_eq n other ≡ false) (targets_of xs)) (same_Some x.target t here) (distinct.0)) later)
        | false ↦ λ is_b later_too. sole_serial a b t xs (distinct.1) later later_too
      ] refl two)
    ] refl one

target_there : (serial : ℕ) (it : IntersectionObservers) (place : Place) → standing_of serial it ≡ Some place → target_in serial (registrations_at it (place.watcher)) ≡ Some (place.target)
target_there serial it place found =
    let at : StandsAt serial 0 (it.made) place = stands_at serial 0 (it.made) place found in
    let same : at.place ≡ place.watcher = omega (arith, at.number) in
    subst (λ (w : ℕ). target_in serial (registrations_at it w) ≡ Some (place.target)) same at.target

module _ (it : IntersectionObservers) (serials : HasSerials it) (serial time : ℕ) (now : Finding) where
  other_by : (other : ℕ) (f : Finding) → (¬ other ≡ serial) → (one two : Option Place) → standing_of serial it ≡ one → standing_of other it ≡ two → is_news_at two f it ≡ false → is_news_at two f (settled_standing one time now it) ≡ false
  unfolding registrations_once
  other_by other f apart None two e g quiet = quiet
  other_by other f apart (Some q) None e g quiet = refl
  other_by other f apart (Some q) (Some p) e g quiet = elim (numbers_apart p.target q.target) [
    | inl same_target ↦ (elim (numbers_apart p.watcher q.watcher) [
      | inl same_watcher ↦ absurd (apart (sole_serial other serial p.target (registrations_at it p.watcher) (serials.targets p.watcher) (target_there other it p g)
          (subst (λ w. target_in serial (registrations_at it w) ≡ Some (p.target)) (sym same_watcher) (target_there serial it q e ∙ ap Some (sym same_target)))))
      | inr watcher_apart ↦ ap (λ (x : IntersectionObserver). is_news_of p.target f (x.registrations)) (changed_apart no_intersection_observer (settled_at (q.target) time now) q.watcher p.watcher (it.made) watcher_apart) ∙ quiet
    ])
    | inr target_apart ↦
        at_changed (λ (a b : IntersectionObserver). is_news_of p.target f (b.registrations) ≡ is_news_of p.target f (a.registrations)) (λ x. refl) no_intersection_observer (settled_at (q.target) time now)
        (λ x. news_other p q f x target_apart) q.watcher p.watcher (it.made)
        ∙ quiet
  ]
    where
      news_other : (p q : Place) (f : Finding) (x : IntersectionObserver) → (¬ p.target ≡ q.target) → is_news_of p.target f (settled_at (q.target) time now x).registrations ≡ is_news_of p.target f (x.registrations)
      news_other p q f x target_apart = news_apart p.target q.target time f now (x.registrations) target_apart

  pub other_quiet : (other : ℕ) (f : Finding) → (¬ other ≡ serial) → is_news_for other f it ≡ false → is_news_for other f (with_settled serial time now it) ≡ false
  other_quiet other f apart quiet =
      ap (λ (place : Option Place). is_news_at place f (with_settled serial time now it)) (standing_settled serial time now it other)
      ∙ other_by other f apart (standing_of serial it) (standing_of other it) refl refl quiet

  own_by : (f : Finding) → f.index ≡ now.index → f.meets ≡ now.meets → (one : Option Place) → standing_of serial it ≡ one → is_news_at one f (settled_standing one time now it) ≡ false
  unfolding registrations_once
  own_by f index meets None e = refl
  own_by f index meets (Some p) e =
      ap (λ (x : IntersectionObserver). is_news_of p.target f (x.registrations)) (changed_here no_intersection_observer (settled_at (p.target) time now) p.watcher (it.made) (stands-there serial (it.made) p e))
      ∙ own_news p.target time f now (registrations_at it p.watcher) index meets

  pub own_quiet : (f : Finding) → f.index ≡ now.index → f.meets ≡ now.meets → is_news_for serial f (with_settled serial time now it) ≡ false
  own_quiet f index meets =
      ap (λ (place : Option Place). is_news_at place f (with_settled serial time now it)) (standing_settled serial time now it serial)
      ∙ own_by f index meets (standing_of serial it) refl

-- what is kept ------------------------------------------------------------------------------------------------------------------------

-- registrations that stand as they did, with observers that find the same by the same thresholds
pub record Carries (before after : IntersectionObservers) : Type 0 where
  pub standing : (serial : ℕ) → standing_of serial after ≡ standing_of serial before
  pub alike : (serial : ℕ) (place : Place) → standing_of serial before ≡ Some place → AreAlike (intersection_observer_at before (place.watcher)) (intersection_observer_at after (place.watcher))

pub none_kept : (o : Option (Option Kept)) → is_some o ≡ false → unwrap_or o None ≡ None
none_kept None none = refl
none_kept (Some kept) none = let wrong : true ≡ false = none in absurd (let no : ⊥ = cc in no)

module _ (before after : IntersectionObservers) (margins now : List Margins) (carried : Carries before after)
    (same_margins : (serial : ℕ) (place : Place) → standing_of serial before ≡ Some place → scroll_margins_at now (place.watcher) ≡ scroll_margins_at margins (place.watcher)) (it : HeldFindings) where
  same_spots : (serial : ℕ) (place : Option Place) → standing_of serial before ≡ place → option_map (spots_of after) place ≡ option_map (spots_of before) place
  same_spots serial None e = refl
  same_spots serial (Some p) e = ap (λ root. Some (spot_of_root root, element_spot (p.target))) (carried.alike serial p e).root

  found_by : (serial : ℕ) (place : Option Place) → standing_of serial before ≡ place → (contains_key it.kept serial ≡ is_some place) → IsFound (intersection_observer_at before (unwrap_or place (record { watcher = 0; target = 0 })).watcher).thresholds (kept_of it.kept serial)
      → IsFound (intersection_observer_at after (unwrap_or place (record { watcher = 0; target = 0 })).watcher).thresholds (kept_of it.kept serial)
  found_by serial None e added found = subst (IsFound (intersection_observer_at after 0).thresholds) (sym (none_kept (get it.kept serial) added)) tt
  found_by serial (Some p) e added found = subst (λ thresholds. IsFound thresholds (kept_of it.kept serial)) (sym (carried.alike serial p e).thresholds) found

  abbrev view_at : IntersectionObservers → List Margins → Option Place → Scene
  view_at watchers list place = seen_by watchers list (unwrap_or place (record { watcher = 0; target = 0 })).watcher (scene_seen it.seen)

  exact_by : (serial : ℕ) (place : Option Place) → standing_of serial before ≡ place → spots_at it.clips serial ≡ option_map (spots_of before) place → IsExact (view_at before margins place) it.clips serial
      → IsExact (view_at after now place) it.clips serial
  exact_by serial None e spots exact = exact_unheld (view_at after now None) it.clips serial spots
  exact_by serial (Some p) e spots exact =
      subst (λ (view : Scene). IsExact view it.clips serial)
      (λ i. through (spot_of_root (sym (carried.alike serial p e).root i)) (sym (same_margins serial p e) i) (scene_seen it.seen)) exact

  pub held_carried : AreHeld before margins it → AreHeld after now it
  held_carried held = record {
    pairs = λ serial. held.pairs serial ∙ sym (ap (option_map (spots_of after)) (carried.standing serial) ∙ same_spots serial (standing_of serial before) refl);
    added = λ serial. held.added serial ∙ ap (λ (place : Option Place). is_some place) (sym (carried.standing serial));
    found = record {
      found = λ serial.
          subst (λ (place : Option Place). IsFound (intersection_observer_at after (unwrap_or place (record { watcher = 0; target = 0 })).watcher).thresholds (kept_of it.kept serial)) (sym (carried.standing serial))
          (found_by serial (standing_of serial before) refl (held.added serial) (held.found.found serial));
    };
    exact = λ serial.
        subst (λ (place : Option Place). IsExact (view_at after now place) it.clips serial) (sym (carried.standing serial))
        (exact_by serial (standing_of serial before) refl (held.pairs serial) (held.exact serial));
  }

  module _ (news : (serial : ℕ) (place : Place) → standing_of serial before ≡ Some place → registrations_at after (place.watcher) ≡ registrations_at before (place.watcher)) where
    settled_by : (serial : ℕ) (place : Option Place) (f : Finding) → standing_of serial before ≡ place → is_news_at place f before ≡ false → is_news_at place f after ≡ false
    settled_by serial None f e quiet = refl
    settled_by serial (Some p) f e quiet = ap (is_news_of (p.target) f) (news serial p e) ∙ quiet

    settled_of : (serial : ℕ) (kept : Option Kept) → IsSettled before serial kept → IsSettled after serial kept
    settled_of serial None quiet = tt
    settled_of serial (Some kept) quiet =
        ap (λ (place : Option Place). is_news_at place (seen_finding kept.finding) after) (carried.standing serial)
        ∙ settled_by serial (standing_of serial before) (seen_finding kept.finding) refl quiet

    pub registered_carried : AreRegistered before margins it → AreRegistered after now it
    registered_carried registered = record {
      held = held_carried registered.held;
      settled = λ serial. settled_of serial (kept_of it.kept serial) (registered.settled serial);
    }

pub held_settled : (watchers : IntersectionObservers) (margins : List Margins) (it : HeldFindings) (serial time : ℕ) (now : Finding) → AreHeld watchers margins it → AreHeld (with_settled serial time now watchers) margins it
held_settled watchers margins it serial time now held =
    held_carried watchers (with_settled serial time now watchers) margins margins
    (record { standing = standing_settled serial time now watchers; alike = λ other place e. alike_by (standing_of serial watchers) time (place.watcher) now watchers })
    (λ other place e. refl) it held

-- the others stay settled, and the one that was found is
pub registered_settled : (watchers : IntersectionObservers) (margins : List Margins) (it : HeldFindings) (serial time : ℕ) (now : Finding) → HasSerials watchers → AreHeld watchers margins it
    → ((other : ℕ) → (¬ other ≡ serial) → IsSettled watchers other (kept_of it.kept other))
    → IfSome (kept_of it.kept serial) (λ (last : Kept). ((seen_finding last.finding).index ≡ now.index) × ((seen_finding last.finding).meets ≡ now.meets))
    → AreRegistered (with_settled serial time now watchers) margins it
registered_settled watchers margins it serial time now serials held others last = record {
  held = held_settled watchers margins it serial time now held;
  settled = λ other. elim (numbers_apart other serial) [
    | inl same ↦ subst (λ n. IsSettled (with_settled serial time now watchers) n (kept_of it.kept n)) (sym same) (own_of (kept_of it.kept serial) last)
    | inr apart ↦ other_of other apart (kept_of it.kept other) (others other apart)
  ];
}
  where
    own_of : (kept : Option Kept) → IfSome kept (λ (it : Kept). ((seen_finding it.finding).index ≡ now.index) × ((seen_finding it.finding).meets ≡ now.meets)) → IsSettled (with_settled serial time now watchers) serial kept
    own_of None same = tt
    own_of (Some kept) same = own_quiet watchers serials serial time now (seen_finding kept.finding) (same.0) (same.1)

    other_of : (other : ℕ) → (¬ other ≡ serial) → (kept : Option Kept) → IsSettled watchers other kept → IsSettled (with_settled serial time now watchers) other kept
    other_of other apart None quiet = tt
    other_of other apart (Some kept) quiet = other_quiet watchers serials serial time now other (seen_finding kept.finding) apart quiet

-- what is kept of one registration alone is replaced

pub kept_own : (kept : FinMap nat_cmp (Option Kept)) (serial : ℕ) (value : Option Kept) → kept_of (insert kept serial value) serial ≡ value
kept_own kept serial value = kept_inserted kept serial serial value ∙ ap (λ b. cond b value (kept_of kept serial)) (eq-eqb serial serial refl)

pub kept_other : (kept : FinMap nat_cmp (Option Kept)) (serial other : ℕ) (value : Option Kept) → (¬ other ≡ serial) → kept_of (insert kept serial value) other ≡ kept_of kept other
kept_other kept serial other value apart = kept_inserted kept serial other value ∙ ap (λ b. cond b value (kept_of kept other)) (apart_test other serial apart)

-- one that expired
pub registered_expired : (watchers : IntersectionObservers) (margins : List Margins) (it : HeldFindings) (serial : ℕ) → AreHeld watchers margins it → contains_key it.kept serial ≡ true
    → ((other : ℕ) → (¬ other ≡ serial) → IsSettled watchers other (kept_of it.kept other)) → AreRegistered watchers margins (with_expired serial it)
registered_expired watchers margins it serial held there others = record {
  held = record {
    pairs = held.pairs;
    added = λ other. there_still it.kept serial None there other ∙ held.added other;
    found = found_inserted watchers it.kept serial None tt held.found;
    exact = held.exact;
  };
  settled = λ other. elim (numbers_apart other serial) [
    | inl same ↦ subst (IsSettled watchers other) (sym (ap (kept_of (insert (it.kept) serial None)) same ∙ kept_own it.kept serial None)) tt
    | inr apart ↦ subst (IsSettled watchers other) (sym (kept_other it.kept serial other None apart)) (others other apart)
  ];
}

-- where neither pairs nor what was found differ
pub registered_alike : (watchers : IntersectionObservers) (margins : List Margins) (before now : HeldFindings) → ((serial : ℕ) → spots_at now.clips serial ≡ spots_at before.clips serial) → now.kept ≡ before.kept
    → ((serial : ℕ) → IsExact (seen_for watchers margins serial (scene_seen before.seen)) before.clips serial → IsExact (seen_for watchers margins serial (scene_seen now.seen)) now.clips serial)
    → AreRegistered watchers margins before → AreRegistered watchers margins now
registered_alike watchers margins before now spots kept exact registered = record {
  held = record {
    pairs = λ serial. spots serial ∙ registered.held.pairs serial;
    added = λ serial. ap (λ kept. contains_key kept serial) kept ∙ registered.held.added serial;
    found = subst (AreFound watchers) (sym kept) registered.held.found;
    exact = λ serial. exact serial (registered.held.exact serial);
  };
  settled = λ serial. subst (λ kept. IsSettled watchers serial (kept_of kept serial)) (sym kept) (registered.settled serial);
}

pub registered_roomier : (watchers : IntersectionObservers) (margins : List Margins) (before now : HeldFindings) → IsRoomier before now → AreRegistered watchers margins before → AreRegistered watchers margins now
registered_roomier watchers margins before now roomier =
    registered_alike watchers margins before now (λ serial. ap (λ pairs. spots_at (record before.clips { pairs = pairs }) serial) roomier.pairs) roomier.kept
    (λ serial exact.
    subst (λ (scene : Scene). IsExact (seen_for watchers margins serial scene) now.clips serial) (sym (same_scene before.seen now.seen roomier.seen))
    (exact_roomier (seen_for watchers margins serial (scene_seen before.seen)) before.clips now.clips serial roomier.pairs roomier.touches exact))

-- what commands leave as it is ---------------------------------------------------------------------------------------------------------

entry_left : {A : Type 0} (default : A) (xs ys : List A) (n : ℕ) → n < length xs → entry_or default (xs ++ ys) n ≡ entry_or default xs n
entry_left default [] ys n there = absurd (elim there [ ])
entry_left default (x ∷ xs) ys zero there = refl
entry_left default (x ∷ xs) ys (suc n) there = entry_left default xs ys n (omega arith)

-- one more observer
pub registered_made : (watchers : IntersectionObservers) (margins now : List Margins) (new : IntersectionObserver) (it : HeldFindings) → new.registrations ≡ []
    → ((watcher : ℕ) → watcher < length watchers.made → scroll_margins_at now watcher ≡ scroll_margins_at margins watcher)
    → AreRegistered watchers margins it → AreRegistered (record watchers { made = watchers.made ++ new ∷ [] }) now it
registered_made watchers margins now new it none same_margins registered =
    let same : (serial : ℕ) (place : Place) → standing_of serial watchers ≡ Some place → intersection_observer_at (record watchers { made = watchers.made ++ new ∷ [] }) (place.watcher) ≡ intersection_observer_at watchers (place.watcher) =
    λ serial place e. entry_left no_intersection_observer (watchers.made) (new ∷ []) (place.watcher) (stands-there serial (watchers.made) place e) in
    registered_carried watchers (record watchers { made = watchers.made ++ new ∷ [] }) margins now
    (record {
      standing = λ serial. standing-made serial 0 (watchers.made) new none;
      alike = λ serial place e. record {
        root = ap (λ (x : IntersectionObserver). x.root) (same serial place e);
        thresholds = ap (λ (x : IntersectionObserver). x.thresholds) (same serial place e);
      };
    })
    (λ serial place e. same_margins place.watcher (stands-there serial (watchers.made) place e))
    it
    (λ serial place e. ap (λ (x : IntersectionObserver). x.registrations) (same serial place e))
    registered

-- a queue that is handed out
pub registered_taken : (watchers : IntersectionObservers) (margins : List Margins) (watcher : ℕ) (it : HeldFindings) → AreRegistered watchers margins it → AreRegistered (without_queue watcher watchers) margins it
registered_taken watchers margins watcher it registered =
    let change : IntersectionObserver → IntersectionObserver = λ each. record each { queue = [] } in
    registered_carried watchers (without_queue watcher watchers) margins margins
    (record {
      standing = λ serial. standing-changed change (λ observer. refl) serial 0 watcher (watchers.made);
      alike = λ serial place e. at_changed AreAlike (λ x. record { root = refl; thresholds = refl }) no_intersection_observer change (λ x. record { root = refl; thresholds = refl }) watcher (place.watcher) (watchers.made);
    })
    (λ serial place e. refl)
    it
    (λ serial place e. at_changed (λ (a b : IntersectionObserver). b.registrations ≡ a.registrations) (λ x. refl) no_intersection_observer change (λ x. refl) watcher (place.watcher) (watchers.made))
    registered
