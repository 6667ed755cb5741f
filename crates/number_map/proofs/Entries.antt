-- Entries in any order, and the finite map that they are.
use Rattle.std.proofs.Common.{◌≡◌, ◌∙◌, ℕ, cond, List, [], ◌∷◌, Some, None, ap, refl, sym, nat_eq, is_some, true}
use Rattle.std.specs.Cmp.{nat_cmp_total, unsigned_tied, nat_eq_equiv}
use Rattle.std.specs.FinMap.{get, insert, remove, contains_key, from_entries, find, get-from_entries, get-insert, get-remove, same_map, nat_cmp-IsAntisymmetric}
use Rattle.std.specs.Map.{lookup}
use Rattle.std.specs.Ordering.{nat_cmp, eq_by_cmp}

tied : (number other : ℕ) → eq_by_cmp nat_cmp other number ≡ nat_eq number other
tied number other = unsigned_tied other number ∙ nat_eq_equiv.symm other number

module _ {X : Type 0} where
  found : (number : ℕ) (es : List (ℕ × X)) → find nat_cmp number es ≡ lookup (nat_eq number) es
  found number [] = refl
  found number (e ∷ es) =
      ap (λ b. cond b (Some e.1) (find nat_cmp number es)) (unsigned_tied number e.0)
      ∙ ap (cond (nat_eq number e.0) (Some e.1)) (found number es)

  pub got : (es : List (ℕ × X)) (number : ℕ) → get (from_entries {R = nat_cmp} es) number ≡ lookup (nat_eq number) es
  got es number = get-from_entries nat_cmp_total es number ∙ found number es

  pub inserted : (es fs : List (ℕ × X)) (number : ℕ) (value : X) → ((q : ℕ) → lookup (nat_eq q) fs ≡ cond (nat_eq number q) (Some value) (lookup (nat_eq q) es)) → from_entries {R = nat_cmp} fs ≡ insert (from_entries {R = nat_cmp} es) number value
  inserted es fs number value updates = same_map nat_cmp_total nat_cmp-IsAntisymmetric _ _ (λ q.
      got fs q ∙ updates q
      ∙ ap (cond (nat_eq number q) (Some value)) (sym (got es q))
      ∙ sym (ap (λ b. cond b (Some value) (get (from_entries {R = nat_cmp} es) q)) (tied number q))
      ∙ sym (get-insert nat_cmp_total (from_entries {R = nat_cmp} es) number value q))

  pub removed : (es fs : List (ℕ × X)) (number : ℕ) → ((q : ℕ) → lookup (nat_eq q) fs ≡ cond (nat_eq number q) None (lookup (nat_eq q) es)) → from_entries {R = nat_cmp} fs ≡ remove (from_entries {R = nat_cmp} es) number
  removed es fs number updates = same_map nat_cmp_total nat_cmp-IsAntisymmetric _ _ (λ q.
      got fs q ∙ updates q
      ∙ ap (cond (nat_eq number q) None) (sym (got es q))
      ∙ sym (ap (λ b. cond b None (get (from_entries {R = nat_cmp} es) q)) (tied number q))
      ∙ sym (get-remove nat_cmp_total (from_entries {R = nat_cmp} es) number q))

  pub absent : (es : List (ℕ × X)) (number : ℕ) → lookup (nat_eq number) es ≡ None → contains_key (from_entries {R = nat_cmp} es) number ≡ true → ⊥
  absent es number none there = let e : Some true ≡ None = ap (λ b. cond b (Some true) None) (sym there ∙ ap is_some (got es number ∙ none)) in cc
