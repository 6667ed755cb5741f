-- Thresholds in range.
use Rattle.std.proofs.Common.{◌≡◌, ℕ, zero, suc, ◌*◌, ◌^◌, ◌<◌, ◌≤◌, true, false, cond, List, [], ◌∷◌, map, length, get_or, Some, None, refl, sym, ap, ◌∙◌, arith}
use Rattle.std.specs.Prelude.{ℤ, pos, negsuc, unsigned_abs, int_le, is_some}
use Rattle.std.specs.List.{list_all}
use Rattle.std.proofs.lemmas.Bool.{and_parts, leb-true}
use Rattle.std.specs.Int.{w64, cast_signed, cast_unsigned}
use Rattle.std.proofs.lemmas.Int.{ints}
use Rattle.std.proofs.lemmas.Nat.{mul-le}
use Rattle.script_model.specs.MarginText.{in_range, ascending, at_least_one, thresholds_of}

pub small : (x : ℤ) → in_range x ≡ true → unsigned_abs x ≤ 10000
small (pos n) e = leb-true n 10000 (and_parts (int_le (pos 0) (pos n)) (int_le (pos n) (pos 10000)) e).1
small (negsuc n) e = cc

pub value_fits : (x : ℤ) → in_range x ≡ true → cast_signed w64 (cast_unsigned w64 x) ≡ x
value_fits x e = let h = small x e in omega (arith, ints)

pub each_in_range : (xs : List ℤ) (i : ℕ) (d : ℤ) → i < length xs → list_all in_range xs ≡ true → in_range (get_or xs i d) ≡ true
each_in_range [] i d h e = absurd (omega arith)
each_in_range (x ∷ xs) zero d h e = (and_parts (in_range x) (list_all in_range xs) e).0
each_in_range (x ∷ xs) (suc i) d h e = each_in_range xs i d (omega arith) (and_parts (in_range x) (list_all in_range xs) e).1

pub reached_fits : (t w : ℕ) → t < 2 ^ 16 → w ≤ 2 ^ 80 → t * w < 2 ^ 128
reached_fits t w h g = let m = mul-le t w 65535 (2 ^ 80) (omega arith) g in omega (arith, m)

pub no_value : (ts : List ℕ) → length ts ≡ 0 → at_least_one ts ≡ 0 ∷ []
no_value [] e = refl
no_value (t ∷ ts) e = absurd (omega arith)

pub some_value : (ts : List ℕ) → 0 < length ts → at_least_one ts ≡ ts
some_value [] h = absurd (omega arith)
some_value (t ∷ ts) h = refl

pub out_of_range : (values : List ℤ) → list_all in_range values ≡ false → thresholds_of values ≡ None
unfolding thresholds_of
out_of_range values e =
    ap (λ v. cond v (Some (at_least_one (ascending (map (λ value. unsigned_abs value) values)))) None) e

pub all_in_range : (values : List ℤ) (ts : List ℕ) → list_all in_range values ≡ true → ts ≡ at_least_one (ascending (map (λ value. unsigned_abs value) values)) → thresholds_of values ≡ Some ts
unfolding thresholds_of
all_in_range values ts e same =
    ap (λ v. cond v (Some (at_least_one (ascending (map (λ value. unsigned_abs value) values)))) None) e
    ∙ ap (λ l. Some l) (sym same)

pub gives_some : (values : List ℤ) → list_all in_range values ≡ true → is_some (thresholds_of values) ≡ true
gives_some values e =
    ap (λ o. is_some o) (all_in_range values (at_least_one (ascending (map (λ value. unsigned_abs value) values))) e refl)
