-- What is kept of registrations through one that is made and one that is taken out.
use Rattle.std.proofs.Common.{◌≡◌, ◌∙◌, ℕ, zero, suc, ◌<◌, Bool, true, false, cond, not, ◌==◌, ◌&&◌, ◌||◌, List, [], ◌∷◌, ◌++◌, length, get_or, set, filter, Option, Some, None, option_map, is_some, unwrap_or, ap, refl, sym, subst, inl, inr, arith}
use Rattle.std.specs.Ordering.{nat_cmp}
use Rattle.std.specs.Cmp.{nat_cmp_total, unsigned_tied}
use Rattle.std.specs.FinMap.{FinMap, get, insert, remove, contains_key, get-insert, get-remove}
use Rattle.std.proofs.lemmas.Bool.{eq-eqb, false≢true}
use Rattle.script_model.specs.Margins.{Margins}
use Rattle.page_model.specs.World.{Finding, Registration, IntersectionObserver, IntersectionObservers}
use Rattle.page_model.specs.Lookups.{entry_or, change_at, no_intersection_observer, intersection_observer_at, scroll_margins_at}
use Rattle.page_model.specs.IntersectionObserving.{is_registered, with_registration, without_registration}
use Rattle.page_model.specs.Intersections.{is_news}
use Rattle.element_tree.specs.declared.container.Container.{Container}
use Rattle.clip_chain.specs.Scenes.{Scene, through}
use Rattle.clip_chain.specs.Worlds.{element_spot, spot_of_root}
use Rattle.intersection_observer.specs.Places.{Standing as Place, standing_from, standing_of}
use Rattle.intersection_observer.specs.Seen.{seen_finding}
use Rattle.intersection_observer.specs.Serials.{HasSerials, registrations_at}
use Rattle.intersection_observer.specs.Settling.{is_news_of, is_news_at}
use Rattle.intersection_observer.specs.Watchers.{serial_of, without_target}
use Rattle.intersection_observer.proofs.Standing.{stands-registered}
use Rattle.intersection_observer.proofs.Subjects.{IsSole, sole}
use Rattle.intersection_observer.proofs.Numbers.{standing-observed, standing-unobserved}
use Rattle.kept_clips.specs.declared.pair.Pair.{Pair}
use Rattle.kept_clips.specs.Held.{new_pair, pair_of, spots_of as spots_in, spots_at, with_pair, without_pair}
use Rattle.kept_clips.specs.Chains.{IsExact}
use Rattle.kept_clips.specs.Seen.{scene_seen}
use Rattle.kept_clips.proofs.Pairs.{no_pair, of_inserted, of_removed, exact_inserted, exact_removed, exact_new}
use Rattle.candidate_index.specs.declared.index.Kept.{Kept}
use Rattle.candidate_index.specs.Held.{kept_of, IsFound}
use Rattle.candidate_index.proofs.Found.{kept_removed}
use Rattle.kept_findings.specs.Held.{HeldFindings, with_findings, without_findings}
use Rattle.kept_findings.specs.Views.{seen_by, seen_for}
use Rattle.kept_findings.specs.Registered.{spots_of, spots_for, IsSettled, AreRegistered}
use Rattle.kept_findings.proofs.Viewing.{exact_uncomputed}
use Rattle.kept_findings.proofs.Settled.{AreAlike, at_changed, changed_apart, changed_here, numbers_apart, apart_test, kept_own, kept_other}

-- a changed entry as one that is written

change_is_set : {A : Type 0} (default : A) (change : A → A) (place : ℕ) (xs : List A) → place < length xs → change_at change place xs ≡ set xs place (change (entry_or default xs place))
change_is_set default change place [] there = absurd (elim there [ ])
change_is_set default change zero (x ∷ xs) there = refl
change_is_set default change (suc place) (x ∷ xs) there = ap (λ others. x ∷ others) (change_is_set default change place xs (omega arith))

entry_got : {A : Type 0} (default : A) (place : ℕ) (xs : List A) → place < length xs → entry_or default xs place ≡ get_or xs place (entry_or default xs place)
entry_got default place [] there = absurd (elim there [ ])
entry_got default zero (x ∷ xs) there = refl
entry_got default (suc place) (x ∷ xs) there = entry_got default place xs (omega arith)

own_test : (n : ℕ) → (n == n) ≡ true
own_test n = eq-eqb n n refl

-- by where registrations stand afterwards: one serial number alone has another place

module _ (before after : IntersectionObservers) (margins : List Margins) (it now : HeldFindings) (number : ℕ) (place : Option Place)
    (standing : (serial : ℕ) → standing_of serial after ≡ cond (number == serial) place (standing_of serial before))
    (alike : (w : ℕ) → AreAlike (intersection_observer_at before w) (intersection_observer_at after w))
    (news : (serial : ℕ) (p : Place) (f : Finding) → (¬ serial ≡ number) → standing_of serial before ≡ Some p → is_news_of (p.target) f (registrations_at before (p.watcher)) ≡ false → is_news_of (p.target) f (registrations_at after (p.watcher)) ≡ false)
    (spots_own : spots_at now.clips number ≡ option_map (spots_of before) place)
    (added_own : contains_key now.kept number ≡ is_some place)
    (kept_none : kept_of now.kept number ≡ None)
    (spots_other : (serial : ℕ) → (¬ serial ≡ number) → spots_at now.clips serial ≡ spots_at it.clips serial)
    (added_other : (serial : ℕ) → (¬ serial ≡ number) → contains_key now.kept serial ≡ contains_key it.kept serial)
    (kept_others : (serial : ℕ) → (¬ serial ≡ number) → kept_of now.kept serial ≡ kept_of it.kept serial)
    (seen : now.seen ≡ it.seen)
    (exact_own : (view : Scene) → IsExact view now.clips number)
    (exact_other : (serial : ℕ) (view : Scene) → IsExact view it.clips serial → IsExact view now.clips serial)
    (registered : AreRegistered before margins it) where
  at_own : standing_of number after ≡ place
  at_own = standing number ∙ ap (λ b. cond b place (standing_of number before)) (own_test number)

  at_other : (serial : ℕ) → (¬ serial ≡ number) → standing_of serial after ≡ standing_of serial before
  at_other serial apart = standing serial ∙ ap (λ b. cond b place (standing_of serial before)) (apart_test number serial (λ e. apart (sym e)))

  same_spots : (o : Option Place) → option_map (spots_of before) o ≡ option_map (spots_of after) o
  same_spots None = refl
  same_spots (Some p) = ap (λ root. Some (spot_of_root root, element_spot (p.target))) (sym (alike p.watcher).root)

  found_other : (serial : ℕ) → (¬ serial ≡ number) → IsFound (intersection_observer_at after (unwrap_or (standing_of serial after) (record { watcher = 0; target = 0 })).watcher).thresholds (kept_of now.kept serial)
  found_other serial apart =
      subst (λ (o : Option Place). IsFound (intersection_observer_at after (unwrap_or o (record { watcher = 0; target = 0 })).watcher).thresholds (kept_of now.kept serial)) (sym (at_other serial apart))
      (subst (λ thresholds. IsFound thresholds (kept_of now.kept serial)) (sym (alike (unwrap_or (standing_of serial before) (record { watcher = 0; target = 0 })).watcher).thresholds)
      (subst (IsFound (intersection_observer_at before (unwrap_or (standing_of serial before) (record { watcher = 0; target = 0 })).watcher).thresholds) (sym (kept_others serial apart)) (registered.held.found.found serial)))

  quiet_by : (serial : ℕ) (f : Finding) (o : Option Place) → (¬ serial ≡ number) → standing_of serial before ≡ o → is_news_at o f before ≡ false → is_news_at o f after ≡ false
  quiet_by serial f None apart e quiet = refl
  quiet_by serial f (Some p) apart e quiet = news serial p f apart e quiet

  settled_other : (serial : ℕ) → (¬ serial ≡ number) → (kept : Option Kept) → IsSettled before serial kept → IsSettled after serial kept
  settled_other serial apart None quiet = tt
  settled_other serial apart (Some kept) quiet =
      ap (λ (o : Option Place). is_news_at o (seen_finding kept.finding) after) (at_other serial apart)
      ∙ quiet_by serial (seen_finding kept.finding) (standing_of serial before) apart refl quiet

  exact_there : (serial : ℕ) → (¬ serial ≡ number) → IsExact (seen_for after margins serial (scene_seen now.seen)) now.clips serial
  exact_there serial apart =
      let watcher : ℕ = (unwrap_or (standing_of serial before) (record { watcher = 0; target = 0 })).watcher in
      subst (λ (o : Option Place). IsExact (seen_by after margins (unwrap_or o (record { watcher = 0; target = 0 })).watcher (scene_seen now.seen)) now.clips serial) (sym (at_other serial apart))
      (subst (λ (view : Scene). IsExact view now.clips serial)
      (λ i. through (spot_of_root (sym (alike watcher).root i)) (scroll_margins_at margins watcher) (scene_seen (sym seen i)))
      (exact_other serial (seen_by before margins watcher (scene_seen it.seen)) (registered.held.exact serial)))

  pub registered_but : AreRegistered after margins now
  registered_but = record {
    held = record {
      pairs = λ serial. elim (numbers_apart serial number) [
        | inl same ↦ subst (λ n. spots_at now.clips n ≡ spots_for after n) (sym same) (spots_own ∙ same_spots place ∙ ap (λ (o : Option Place). option_map (spots_of after) o) (sym at_own))
        | inr apart ↦ spots_other serial apart ∙ registered.held.pairs serial ∙ same_spots (standing_of serial before) ∙ ap (λ (o : Option Place). option_map (spots_of after) o) (sym (at_other serial apart))
      ];
      added = λ serial. elim (numbers_apart serial number) [
        | inl same ↦ subst (λ n. contains_key now.kept n ≡ is_some (standing_of n after)) (sym same) (added_own ∙ ap (λ (o : Option Place). is_some o) (sym at_own))
        | inr apart ↦ added_other serial apart ∙ registered.held.added serial ∙ ap (λ (o : Option Place). is_some o) (sym (at_other serial apart))
      ];
      found = record {
        found = λ serial. elim (numbers_apart serial number) [
          | inl same ↦ subst (IsFound (intersection_observer_at after (unwrap_or (standing_of serial after) (record { watcher = 0; target = 0 })).watcher).thresholds) (sym (ap (kept_of now.kept) same ∙ kept_none)) tt
          | inr apart ↦ found_other serial apart
        ];
      };
      exact = λ serial. elim (numbers_apart serial number) [
        | inl same ↦ subst (λ n. IsExact (seen_for after margins serial (scene_seen now.seen)) now.clips n) (sym same) (exact_own (seen_for after margins serial (scene_seen now.seen)))
        | inr apart ↦ exact_there serial apart
      ];
    };
    settled = λ serial. elim (numbers_apart serial number) [
      | inl same ↦ subst (IsSettled after serial) (sym (ap (kept_of now.kept) same ∙ kept_none)) tt
      | inr apart ↦ settled_other serial apart (kept_of now.kept serial) (subst (IsSettled before serial) (sym (kept_others serial apart)) (registered.settled serial))
    ];
  }

-- one that is made -----------------------------------------------------------------------------------------------------------------------

abbrev made_as : ℕ → ℕ → Registration
made_as given n = record { serial = given; target = n; previous_index = None; met = false }

news_more : (m : ℕ) (f : Finding) (xs : List Registration) (new : Registration) → (new.target == m) ≡ false → is_news_of m f xs ≡ false → is_news_of m f (xs ++ new ∷ []) ≡ false
news_more m f [] new other quiet = ap (λ b. (b && is_news new f) || false) other
news_more m f (x ∷ xs) new other quiet =
    elim ((x.target == m) && is_news x f) as (λ b. (b || is_news_of m f xs) ≡ false → (b || is_news_of m f (xs ++ new ∷ [])) ≡ false) [
      | true ↦ λ e. e
      | false ↦ λ e. news_more m f xs new other e
    ] quiet

other_target : (n m : ℕ) (xs : List Registration) → is_registered n xs ≡ false → is_registered m xs ≡ true → (n == m) ≡ false
other_target n m xs none some = apart_test n m (λ e. false≢true (sym none ∙ ap (λ t. is_registered t xs) e ∙ some))

spots_put : (pairs : FinMap nat_cmp Pair) (number serial : ℕ) (pair : Pair) → option_map spots_in (get (insert pairs number pair) serial) ≡ option_map spots_in (cond (serial == number) (Some pair) (get pairs serial))
spots_put pairs number serial pair = ap (λ (o : Option Pair). option_map spots_in o) (get-insert nat_cmp_total pairs number pair serial ∙ ap (λ b. cond b (Some pair) (get pairs serial)) (unsigned_tied serial number))

key_put : (kept : FinMap nat_cmp (Option Kept)) (number serial : ℕ) (value : Option Kept) → contains_key (insert kept number value) serial ≡ is_some (cond (serial == number) (Some value) (get kept serial))
key_put kept number serial value = ap (λ (o : Option (Option Kept)). is_some o) (get-insert nat_cmp_total kept number value serial ∙ ap (λ b. cond b (Some value) (get kept serial)) (unsigned_tied serial number))

pub registered_observed : (it : IntersectionObservers) (margins : List Margins) (w n : ℕ) (kept : HeldFindings) → HasSerials it → w < length it.made → is_registered n (registrations_at it w) ≡ false → AreRegistered it margins kept
    → AreRegistered (with_registration w n it) margins (with_findings (it.given) (spot_of_root (intersection_observer_at it w).root) (element_spot n) kept)
registered_observed it margins w n kept serials there free registered =
    let new : Registration = made_as it.given n in
    let change : IntersectionObserver → IntersectionObserver = λ each. record each { registrations = each.registrations ++ new ∷ [] } in
    let old : IntersectionObserver = entry_or no_intersection_observer it.made w in
    let root : Container = spot_of_root old.root in
    let pair : Pair = new_pair root (element_spot n) in
    registered_but it (with_registration w n it) margins kept (with_findings (it.given) root (element_spot n) kept) it.given (Some (record { watcher = w; target = n }))
    (λ serial.
    ap (standing_from serial 0) (change_is_set no_intersection_observer change w it.made there)
    ∙ standing-observed it.made w old (change old) new there (entry_got no_intersection_observer w it.made there) refl (serials.fresh it.given (omega arith)) serial)
    (λ k. at_changed AreAlike (λ x. record { root = refl; thresholds = refl }) no_intersection_observer change (λ x. record { root = refl; thresholds = refl }) w k it.made)
    (λ serial p f apart e quiet. elim (numbers_apart p.watcher w) [
      | inl same ↦
          let regs : registrations_at it p.watcher ≡ old.registrations = ap (registrations_at it) same in
          ap (λ k. is_news_of p.target f (registrations_at (with_registration w n it) k)) same
          ∙ ap (λ (x : IntersectionObserver). is_news_of p.target f (x.registrations)) (changed_here no_intersection_observer change w it.made there)
          ∙ news_more p.target f old.registrations new
          (other_target n p.target old.registrations free (ap (is_registered p.target) (sym regs) ∙ stands-registered serial it.made p e))
          (ap (is_news_of p.target f) (sym regs) ∙ quiet)
      | inr other ↦ ap (λ (x : IntersectionObserver). is_news_of p.target f (x.registrations)) (changed_apart no_intersection_observer change w p.watcher it.made other) ∙ quiet
    ])
    (spots_put kept.clips.pairs it.given it.given pair ∙ ap (λ b. option_map spots_in (cond b (Some pair) (get kept.clips.pairs it.given))) (own_test it.given))
    (key_put kept.kept it.given it.given None ∙ ap (λ b. is_some (cond b (Some None) (get kept.kept it.given))) (own_test it.given))
    (kept_own kept.kept it.given None)
    (λ serial apart. spots_put kept.clips.pairs it.given serial pair ∙ ap (λ b. option_map spots_in (cond b (Some pair) (get kept.clips.pairs serial))) (apart_test serial it.given apart))
    (λ serial apart. key_put kept.kept it.given serial None ∙ ap (λ b. is_some (cond b (Some None) (get kept.kept serial))) (apart_test serial it.given apart))
    (λ serial apart. kept_other kept.kept it.given serial None apart)
    refl
    (λ view.
    exact_uncomputed view (with_pair it.given root (element_spot n) kept.clips) it.given
    (ap (λ (p : Pair). p.computed) (of_inserted kept.clips it.given it.given pair ∙ ap (λ b. cond b pair (pair_of kept.clips it.given)) (own_test it.given))))
    (λ serial view exact. exact_inserted view kept.clips it.given pair serial (exact_new view kept.clips.touches root (element_spot n)) exact)
    registered

-- one that is taken out ------------------------------------------------------------------------------------------------------------------

news_fewer : (m n : ℕ) (f : Finding) (xs : List Registration) → is_news_of m f xs ≡ false → is_news_of m f (without_target n xs) ≡ false
news_fewer m n f [] quiet = refl
news_fewer m n f (x ∷ xs) quiet =
    elim (x.target == n) as (λ is. is_news_of m f (cond (not is) (x ∷ without_target n xs) (without_target n xs)) ≡ false) [
      | true ↦ news_fewer m n f xs (or_right ((x.target == m) && is_news x f) (is_news_of m f xs) quiet)
      | false ↦ both_false ((x.target == m) && is_news x f) (is_news_of m f xs) (is_news_of m f (without_target n xs)) quiet (news_fewer m n f xs)
    ]
  where
    or_right : (a b : Bool) → (a || b) ≡ false → b ≡ false
    or_right true b e = absurd (let wrong : true ≡ false = e in false≢true (sym wrong))
    or_right false b e = e

    both_false : (a b c : Bool) → (a || b) ≡ false → (b ≡ false → c ≡ false) → (a || c) ≡ false
    both_false true b c e next = e
    both_false false b c e next = next e

spots_out : (pairs : FinMap nat_cmp Pair) (number serial : ℕ) → option_map spots_in (get (remove pairs number) serial) ≡ option_map spots_in (cond (serial == number) None (get pairs serial))
spots_out pairs number serial = ap (λ (o : Option Pair). option_map spots_in o) (get-remove nat_cmp_total pairs number serial ∙ ap (λ b. cond b None (get pairs serial)) (unsigned_tied serial number))

key_out : (kept : FinMap nat_cmp (Option Kept)) (number serial : ℕ) → contains_key (remove kept number) serial ≡ is_some (cond (serial == number) None (get kept serial))
key_out kept number serial = ap (λ (o : Option (Option Kept)). is_some o) (get-remove nat_cmp_total kept number serial ∙ ap (λ b. cond b None (get kept serial)) (unsigned_tied serial number))

pub registered_unobserved : (it : IntersectionObservers) (margins : List Margins) (w n number : ℕ) (kept : HeldFindings) → HasSerials it → w < length it.made → serial_of n (registrations_at it w) ≡ Some number → AreRegistered it margins kept
    → AreRegistered (without_registration w n it) margins (without_findings number kept)
registered_unobserved it margins w n number kept serials there found registered =
    let change : IntersectionObserver → IntersectionObserver = λ each. record each { registrations = filter (λ (registration : Registration). not (registration.target == n)) (each.registrations) } in
    let old : IntersectionObserver = entry_or no_intersection_observer it.made w in
    let only : IsSole n number old.registrations = sole n number old.registrations (serials.targets w) found in
    registered_but it (without_registration w n it) margins kept (without_findings number kept) number None
    (λ serial.
    ap (standing_from serial 0) (change_is_set no_intersection_observer change w it.made there)
    ∙ standing-unobserved it.given it.made w n number old (change old) there (entry_got no_intersection_observer w it.made there) refl serials only serial)
    (λ k. at_changed AreAlike (λ x. record { root = refl; thresholds = refl }) no_intersection_observer change (λ x. record { root = refl; thresholds = refl }) w k it.made)
    (λ serial p f apart e quiet.
    at_changed (λ (a b : IntersectionObserver). is_news_of p.target f (a.registrations) ≡ false → is_news_of p.target f (b.registrations) ≡ false) (λ x same. same) no_intersection_observer change
    (λ x was. news_fewer p.target n f (x.registrations) was) w p.watcher it.made quiet)
    (spots_out kept.clips.pairs number number ∙ ap (λ b. option_map spots_in (cond b None (get kept.clips.pairs number))) (own_test number))
    (key_out kept.kept number number ∙ ap (λ b. is_some (cond b None (get kept.kept number))) (own_test number))
    (kept_removed kept.kept number number ∙ ap (λ b. cond b None (kept_of kept.kept number)) (own_test number))
    (λ serial apart. spots_out kept.clips.pairs number serial ∙ ap (λ b. option_map spots_in (cond b None (get kept.clips.pairs serial))) (apart_test serial number apart))
    (λ serial apart. key_out kept.kept number serial ∙ ap (λ b. is_some (cond b None (get kept.kept serial))) (apart_test serial number apart))
    (λ serial apart. kept_removed kept.kept number serial ∙ ap (λ b. cond b None (kept_of kept.kept serial)) (apart_test serial number apart))
    refl
    (λ view.
    exact_uncomputed view (without_pair number kept.clips) number
    (ap (λ (p : Pair). p.computed) (of_removed kept.clips number number ∙ ap (λ b. cond b no_pair (pair_of kept.clips number)) (own_test number))))
    (λ serial view exact. exact_removed view kept.clips number serial exact)
    registered
