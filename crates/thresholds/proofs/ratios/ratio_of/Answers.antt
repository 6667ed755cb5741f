use Rattle.std.proofs.Common.{◌≡◌, ◌≤◌, ℕ, true, false, ap, sym, subst, ◌∙◌, arith}
use Rattle.std.proofs.lemmas.Bool.Decides.{nat_tests}
use Rattle.std.specs.Prelude.{unwrap_or, option_map, ◌==◌}
use Rattle.px_units.specs.Rects.{area}
use Rattle.page_model.specs.Findings.{Ratio, all_or_nothing}
use Rattle.thresholds.proofs.Areas.{area_most, seen_less, ratio_none, ratio_some}
use Rattle.thresholds.proofs.ratios.ratio_of.Goals as goal

zero_is : (n : ℕ) → n ≡ 0 → (n == 0) ≡ true
zero_is n is = grind (arith, nat_tests)

some_is : (n : ℕ) → 1 ≤ n → (n == 0) ≡ false
some_is n is = grind (arith, nat_tests)

pub returns-then-whole-eq0 : goal.returns-then-whole-eq0
returns-then-whole-eq0 c =
    c.all_or_nothing.ensures
    ∙ ap all_or_nothing c.is_some.ensures
    ∙ ratio_none c.args.bounds c.args.cut (zero_is (area c.args.bounds) (sym c.area-whole.ensures ∙ c.if-whole-eq0.true))

pub invariant_of-result : goal.invariant_of-result
invariant_of-result c = record {
  within = subst (λ n. n ≤ c.area-whole.result) (sym c.area_seen.ensures)
      (subst (λ n. unwrap_or (option_map area c.args.cut) 0 ≤ n) (sym c.area-whole.ensures)
      (seen_less c.args.bounds c.args.cut c.requires.inside));
  some = omega (arith, c.if-whole-eq0.false);
  bound = subst (λ n. n ≤ 1208925819614629174706176) (sym c.area-whole.ensures) (area_most c.args.bounds c.requires.width c.requires.height);
}

pub returns : goal.returns
returns c =
    ap (λ part. let it : Ratio = record { part = part; whole = c.area-whole.result } in it) c.area_seen.ensures
    ∙ ap (λ whole. let it : Ratio = record { part = unwrap_or (option_map area c.args.cut) 0; whole = whole } in it) c.area-whole.ensures
    ∙ ratio_some c.args.bounds c.args.cut (some_is (area c.args.bounds) (subst (λ n. 1 ≤ n) c.area-whole.ensures (omega (arith, c.if-whole-eq0.false))))
