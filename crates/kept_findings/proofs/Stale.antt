-- The stale registrations of an observer settled one after the other: the same as all of them, since what isn't stale is no news.
use Rattle.std.proofs.Common.{◌≡◌, ◌∙◌, ℕ, zero, suc, ◌<◌, Bool, true, false, cond, List, [], ◌∷◌, length, take, filter, map, ap, refl, sym, inl, inr, arith}
use Rattle.std.specs.Prelude.{slice_get}
use Rattle.std.specs.List.{AllByRecursion}
use Rattle.std.proofs.lemmas.Option.{same_Some}
use Rattle.page_model.specs.World.{Finding, Registration, IntersectionObservers}
use Rattle.intersection_observer.specs.Places.{Standing as Place, standing_of}
use Rattle.intersection_observer.specs.Serials.{HasSerials}
use Rattle.intersection_observer.specs.Settling.{with_settled, is_news_for, each_settled}
use Rattle.intersection_observer.proofs.Settling.{quiet_settled}
use Rattle.kept_findings.proofs.Along.{all_weaker}
use Rattle.kept_findings.specs.Stale.{chosen, IsQuiet}
use Rattle.kept_findings.proofs.Settled.{numbers_apart, standing_settled, serials_settled, other_quiet, own_quiet}

module _ (P : ℕ → Bool) where
  pub chosen_serials : (xs : List Registration) → map (λ (r : Registration). r.serial) (chosen P xs) ≡ filter P (map (λ (r : Registration). r.serial) xs)
  chosen_serials [] = refl
  chosen_serials (x ∷ xs) =
      elim (P x.serial) as (λ is. map (λ (r : Registration). r.serial) (cond is (x ∷ chosen P xs) (chosen P xs)) ≡ cond is (x.serial ∷ filter P (map (λ (r : Registration). r.serial) xs)) (filter P (map (λ (r : Registration). r.serial) xs))) [
        | true ↦ ap (λ others. x.serial ∷ others) (chosen_serials xs)
        | false ↦ chosen_serials xs
      ]

  -- how far all of them have come when so many of these have
  pub record Reached (xs : List Registration) (k : ℕ) : Type 0 where
    pub place : ℕ
    pub before : take k (chosen P xs) ≡ chosen P (take place xs)
    pub here : slice_get xs place ≡ slice_get (chosen P xs) k

  reached_first : (x : Registration) (xs : List Registration) → P x.serial ≡ true → ((k : ℕ) → k < length (chosen P xs) → Reached xs k) → (k : ℕ) → k < length (x ∷ chosen P xs) → Reached (x ∷ xs) k
  reached_first x xs is others zero there = record {
    place = 0;
    before = refl;
    here = ap (λ b. slice_get (cond b (x ∷ chosen P xs) (chosen P xs)) 0) (sym is);
  }
  reached_first x xs is others (suc k) there =
      let rest : Reached xs k = others k (omega (arith, there)) in
      record {
        place = suc rest.place;
        before = ap (λ b. take (suc k) (cond b (x ∷ chosen P xs) (chosen P xs))) is ∙ ap (λ these. x ∷ these) rest.before ∙ ap (λ b. cond b (x ∷ chosen P (take rest.place xs)) (chosen P (take rest.place xs))) (sym is);
        here = rest.here ∙ ap (λ b. slice_get (cond b (x ∷ chosen P xs) (chosen P xs)) (suc k)) (sym is);
      }

  pub reached : (xs : List Registration) (k : ℕ) → k < length (chosen P xs) → Reached xs k
  reached [] k there = absurd (elim there [ ])
  reached (x ∷ xs) k there =
      elim (P x.serial) as (λ is. P x.serial ≡ is → k < length (cond is (x ∷ chosen P xs) (chosen P xs)) → Reached (x ∷ xs) k) [
        | true ↦ λ is later. reached_first x xs is (λ j below. reached xs j below) k later
        | false ↦ λ is later.
            let rest : Reached xs k = reached xs k later in
            record {
              place = suc rest.place;
              before = ap (λ b. take k (cond b (x ∷ chosen P xs) (chosen P xs))) is ∙ rest.before ∙ ap (λ b. cond b (x ∷ chosen P (take rest.place xs)) (chosen P (take rest.place xs))) (sym is);
              here = rest.here ∙ ap (λ b. slice_get (cond b (x ∷ chosen P xs) (chosen P xs)) k) (sym is);
            }
      ] refl there

  module _ (time : ℕ) (find : ℕ → Finding) (watcher : ℕ) where
    quiet_after : (it : IntersectionObservers) (x r : Registration) → HasSerials it → IsQuiet P find watcher it x → IsQuiet P find watcher it r → IsQuiet P find watcher (with_settled (x.serial) time (find (x.target)) it) r
    quiet_after it x r serials its this = record {
      found = standing_settled x.serial time (find x.target) it r.serial ∙ this.found;
      quiet = λ passed. elim (numbers_apart r.serial x.serial) [
        | inl same ↦
            let targets : r.target ≡ x.target = ap (λ (p : Place). p.target) (same_Some (record { watcher = watcher; target = r.target }) (record { watcher = watcher; target = x.target }) (sym this.found ∙ ap (λ n. standing_of n it) same ∙ its.found)) in
            ap (λ n. is_news_for n (find r.target) (with_settled (x.serial) time (find (x.target)) it)) same
            ∙ own_quiet it serials x.serial time (find x.target) (find r.target) (ap (λ t. (find t).index) targets) (ap (λ t. (find t).meets) targets)
        | inr apart ↦ other_quiet it serials x.serial time (find x.target) r.serial (find r.target) apart (this.quiet passed)
      ];
    }

    pub skipped : (xs : List Registration) (it : IntersectionObservers) → HasSerials it → AllByRecursion (IsQuiet P find watcher it) xs → each_settled time find (chosen P xs) it ≡ each_settled time find xs it
    skipped [] it serials all = refl
    skipped (x ∷ xs) it serials all =
        let next : IntersectionObservers = with_settled (x.serial) time (find (x.target)) it in
        elim (P x.serial) as (λ is. P x.serial ≡ is → each_settled time find (cond is (x ∷ chosen P xs) (chosen P xs)) it ≡ each_settled time find xs next) [
          | true ↦ λ is.
              skipped xs next (serials_settled x.serial time (find x.target) it serials) (all_weaker (IsQuiet P find watcher it) (IsQuiet P find watcher next) (λ r. quiet_after it x r serials (all.0)) xs (all.1))
          | false ↦ λ is. skipped xs it serials (all.1) ∙ ap (each_settled time find xs) (sym (quiet_settled x.serial time (find x.target) it ((all.0).quiet is)))
        ] refl
