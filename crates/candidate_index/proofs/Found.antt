-- What is kept stays found from its basis, whatever becomes of one registration.
use Rattle.std.proofs.Common.{◌≡◌, ◌∙◌, ℕ, Bool, true, false, cond, ◌==◌, Option, Some, None, ap, refl, sym, subst, unwrap_or}
use Rattle.std.proofs.lemmas.Bool.{eqb-true}
use Rattle.std.specs.Cmp.{nat_cmp_total, unsigned_tied}
use Rattle.std.specs.FinMap.{FinMap, get, insert, remove, get-insert, get-remove, get-empty, empty}
use Rattle.std.specs.Ordering.{nat_cmp, eq_by_cmp}
use Rattle.page_model.specs.World.{IntersectionObservers}
use Rattle.candidate_index.specs.declared.index.Kept.{Kept}
use Rattle.candidate_index.specs.Registrations.{observer_of}
use Rattle.candidate_index.specs.Held.{kept_of, IsFound, AreFound}

abbrev Map : Type 0
Map = FinMap nat_cmp (Option Kept)

chosen : (b : Bool) (p : Option Kept) (o : Option (Option Kept)) → unwrap_or (cond b (Some p) o) None ≡ cond b p (unwrap_or o None)
chosen true p o = refl
chosen false p o = refl

dropped : (b : Bool) (o : Option (Option Kept)) → unwrap_or (cond b None o) None ≡ cond b None (unwrap_or o None)
dropped true o = refl
dropped false o = refl

pub kept_inserted : (it : Map) (serial other : ℕ) (kept : Option Kept) → kept_of (insert it serial kept) other ≡ cond (other == serial) kept (kept_of it other)
kept_inserted it serial other kept =
    ap (λ (o : Option (Option Kept)). unwrap_or o None) (get-insert nat_cmp_total it serial kept other)
    ∙ chosen (eq_by_cmp nat_cmp other serial) kept (get it other)
    ∙ ap (λ b. cond b kept (kept_of it other)) (unsigned_tied other serial)

pub kept_removed : (it : Map) (serial other : ℕ) → kept_of (remove it serial) other ≡ cond (other == serial) None (kept_of it other)
kept_removed it serial other =
    ap (λ (o : Option (Option Kept)). unwrap_or o None) (get-remove nat_cmp_total it serial other)
    ∙ dropped (eq_by_cmp nat_cmp other serial) (get it other)
    ∙ ap (λ b. cond b None (kept_of it other)) (unsigned_tied other serial)

either_found : (P : Option Kept → Type 0) (b : Bool) (p q : Option Kept) → (b ≡ true → P p) → P q → P (cond b p q)
either_found P true p q hp hq = hp refl
either_found P false p q hp hq = hq

module _ (watchers : IntersectionObservers) where
  pub found_inserted : (it : Map) (serial : ℕ) (kept : Option Kept) → IsFound (observer_of watchers serial).thresholds kept → AreFound watchers it → AreFound watchers (insert it serial kept)
  found_inserted it serial kept here all = record {
    found = λ other.
        subst (IsFound (observer_of watchers other).thresholds) (sym (kept_inserted it serial other kept))
        (either_found (IsFound (observer_of watchers other).thresholds) (other == serial) kept (kept_of it other)
        (λ same. subst (λ n. IsFound (observer_of watchers n).thresholds kept) (sym (eqb-true other serial same)) here)
        (all.found other));
  }

  pub found_removed : (it : Map) (serial : ℕ) → AreFound watchers it → AreFound watchers (remove it serial)
  found_removed it serial all = record {
    found = λ other.
        subst (IsFound (observer_of watchers other).thresholds) (sym (kept_removed it serial other))
        (either_found (IsFound (observer_of watchers other).thresholds) (other == serial) None (kept_of it other) (λ same. tt) (all.found other));
  }

  pub found_empty : AreFound watchers empty
  found_empty = record {
    found = λ other. subst (IsFound (observer_of watchers other).thresholds) (sym (ap (λ (o : Option (Option Kept)). unwrap_or o None) (get-empty nat_cmp other))) tt;
  }
