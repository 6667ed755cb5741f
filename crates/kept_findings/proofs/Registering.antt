-- What is kept through one more registration or one less, and through what is found of one.
use Rattle.std.proofs.Common.{◌≡◌, ◌∙◌, ℕ, Bool, true, false, cond, ◌==◌, ◌<◌, ◌-◌, suc, List, ◌++◌, length, Option, Some, None, is_some, option_map, unwrap_or, ap, refl, sym, subst, arith, length-append}
use Rattle.std.proofs.lemmas.Bool.{eqb-true, eq-eqb}
use Rattle.std.specs.Cmp.{nat_cmp_total, unsigned_tied}
use Rattle.std.specs.FinMap.{FinMap, get, insert, remove, contains_key, get-insert, get-remove, get-empty, empty, same_map, nat_cmp-IsAntisymmetric}
use Rattle.std.specs.Ordering.{nat_cmp, eq_by_cmp}
use Rattle.std.specs.Prelude.{replicate}
use Rattle.std.proofs.lemmas.List.{length-replicate}
use Rattle.script_model.specs.Margins.{Margins}
use Rattle.page_model.specs.World.{IntersectionObservers}
use Rattle.intersection_observer.specs.Places.{Standing as Place, standing_of}
use Rattle.kept_clips.specs.declared.pair.Pair.{Pair}
use Rattle.kept_clips.specs.Held.{spots_of as spots_in}
use Rattle.kept_clips.specs.Seen.{scene_seen}
use Rattle.candidate_index.specs.declared.index.Kept.{Kept}
use Rattle.candidate_index.specs.Held.{AreFound}
use Rattle.kept_findings.specs.Held.{no_findings}
use Rattle.kept_findings.specs.Views.{seen_for}
use Rattle.kept_findings.specs.Registered.{spots_of, IsSettled, AreRegistered}
use Rattle.kept_findings.proofs.Viewing.{exact_unheld}

module _ {A : Type 0} where
  both_ways : (b : Bool) (v : A) (o : Option A) → cond b None (cond b (Some v) o) ≡ cond b None o
  both_ways true v o = refl
  both_ways false v o = refl

  gone : (m : FinMap nat_cmp A) (k q : ℕ) (b : Bool) → (q == k) ≡ b → get m k ≡ None → cond b None (get m q) ≡ get m q
  gone m k q true same none = sym (ap (get m) (eqb-true q k same) ∙ none)
  gone m k q false same none = refl

  -- what was put in where nothing was, and taken out again
  pub undone : (m : FinMap nat_cmp A) (k : ℕ) (v : A) → get m k ≡ None → remove (insert m k v) k ≡ m
  undone m k v none =
      same_map nat_cmp_total nat_cmp-IsAntisymmetric (remove (insert m k v) k) m
      (λ q.
      get-remove nat_cmp_total (insert m k v) k q
      ∙ ap (λ (o : Option A). cond (eq_by_cmp nat_cmp q k) None o) (get-insert nat_cmp_total m k v q)
      ∙ both_ways (eq_by_cmp nat_cmp q k) v (get m q)
      ∙ ap (λ b. cond b None (get m q)) (unsigned_tied q k)
      ∙ gone m k q (q == k) refl none)

  pub put_own : (m : FinMap nat_cmp A) (k : ℕ) (v : A) → contains_key (insert m k v) k ≡ true
  put_own m k v =
      ap (λ (o : Option A). is_some o) (get-insert nat_cmp_total m k v k ∙ ap (λ b. cond b (Some v) (get m k)) (unsigned_tied k k))
      ∙ ap (λ b. is_some (cond b (Some v) (get m k))) (eq-eqb k k refl)

  put_there : (b : Bool) (v : A) (o : Option A) → (b ≡ true → is_some o ≡ true) → is_some (cond b (Some v) o) ≡ is_some o
  put_there true v o there = sym (there refl)
  put_there false v o there = refl

  -- a value in place of one that is there
  pub there_still : (m : FinMap nat_cmp A) (k : ℕ) (v : A) → contains_key m k ≡ true → (q : ℕ) → contains_key (insert m k v) q ≡ contains_key m q
  there_still m k v there q =
      ap (λ (o : Option A). is_some o) (get-insert nat_cmp_total m k v q ∙ ap (λ b. cond b (Some v) (get m q)) (unsigned_tied q k))
      ∙ put_there (q == k) v (get m q) (λ same. ap (contains_key m) (eqb-true q k same) ∙ there)

-- nothing is kept where nothing stands
pub none_registered : (watchers : IntersectionObservers) (margins : List Margins) → ((serial : ℕ) → standing_of serial watchers ≡ None) → AreFound watchers empty → AreRegistered watchers margins no_findings
none_registered watchers margins none found = record {
  held = record {
    pairs = λ serial. ap (λ (o : Option Pair). option_map spots_in o) (get-empty nat_cmp serial) ∙ ap (λ (o : Option Place). option_map (spots_of watchers) o) (sym (none serial));
    added = λ serial. ap (λ (o : Option (Option Kept)). is_some o) (get-empty nat_cmp serial) ∙ ap (λ (o : Option Place). is_some o) (sym (none serial));
    found = found;
    exact = λ serial.
        exact_unheld (seen_for watchers margins serial (scene_seen no_findings.seen)) no_findings.clips serial (ap (λ (o : Option Pair). option_map spots_in o) (get-empty nat_cmp serial));
  };
  settled = λ serial. subst (IsSettled watchers serial) (sym (ap (λ (o : Option (Option Kept)). unwrap_or o None) (get-empty nat_cmp serial))) tt;
}

-- room for more spots
longer : {A : Type 0} (xs : List A) (n : ℕ) (x : A) → n < length (xs ++ replicate (suc n - length xs) x)
longer xs n x = omega (arith, length-append xs (replicate (suc n - length xs) x), length-replicate (suc n - length xs) x)

still : {A : Type 0} (xs ys : List A) (n : ℕ) → n < length xs → n < length (xs ++ ys)
still xs ys n h = omega (arith, h, length-append xs ys)

-- what becomes of room by both calls that make it
