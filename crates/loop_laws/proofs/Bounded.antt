-- A loop whose measure falls with each step isn't cut off by a bound above the measure.
use Rattle.std.proofs.Common.{◌≡◌, refl, ap, sym, ◌∙◌, arith, ◌≤◌}
use Rattle.std.specs.Prelude.{ℕ, zero, suc, ◌<◌, Bool, true, false}
use Rattle.page_model.specs.Runs.{Flow, Next, Thrown, Limited, Said, behind, follow, ◌followed_by◌, only_if, repeat}
use Rattle.page_laws.proofs.Places.{repeat-not}
use Rattle.loop_laws.proofs.Folds.{by-flow}

-- where the rest comes to the same after a step without a throw or a limit

follow-same : {S : Type 0} (flow : Flow) (said : Said S) (rest other : S → Said S) → said.flow ≡ flow →
    (said.flow ≡ Next → rest (said.state) ≡ other (said.state)) → follow flow rest said ≡ follow flow other said
unfolding follow
follow-same Next said rest other is same = ap (behind (said.lines)) (same is)
follow-same Thrown said rest other is same = refl
follow-same Limited said rest other is same = refl

pub then-same : {S : Type 0} (said : Said S) (rest other : S → Said S) → (said.flow ≡ Next → rest (said.state) ≡ other (said.state)) →
    (said followed_by rest) ≡ (said followed_by other)
unfolding ◌followed_by◌
then-same said rest other same = follow-same (said.flow) said rest other refl same

-- `IsLeft left s`: the measure of `s` is at most `left`
module _ {S : Type 0} (goes_on : S → Bool) (step : S → Said S) (IsLeft : ℕ → S → Type 0) where
  -- what a step leaves where the loop goes on behind it
  pub record IsLess (left : ℕ) (s : S) : Type 0 where
    pub now : ℕ
    pub less : now < left
    pub is : IsLeft now s

  module _ (falls : (left : ℕ) (s : S) → IsLeft left s → goes_on s ≡ true → (step s).flow ≡ Next → goes_on (step s).state ≡ true →
      IsLess left (step s).state) where
    -- the steps behind the first one
    others-same : (most more left : ℕ) (s : S) → left ≤ most → left ≤ more →
        ((less : ℕ) (s : S) → IsLeft less s → less < most → less < more → repeat goes_on step most s ≡ repeat goes_on step more s) →
        (goes_on s ≡ true → IsLess left s) → (goes : Bool) → goes_on s ≡ goes → repeat goes_on step most s ≡ repeat goes_on step more s
    others-same most more left s fits fits' same falls true is =
        let rest : IsLess left s = falls is in same (rest.now) s (rest.is) (omega (arith, rest.less, fits)) (omega (arith, rest.less, fits'))
    others-same most more left s fits fits' same falls false is =
        repeat-not goes_on step most s is ∙ sym (repeat-not goes_on step more s is)

    by_test : (most more left : ℕ) (s : S) → IsLeft left s → left ≤ most → left ≤ more →
        ((less : ℕ) (s : S) → IsLeft less s → less < most → less < more → repeat goes_on step most s ≡ repeat goes_on step more s) →
        (goes : Bool) → goes_on s ≡ goes →
        only_if (λ now. step now followed_by repeat goes_on step most) s goes ≡ only_if (λ now. step now followed_by repeat goes_on step more) s goes
    by_test most more left s is fits fits' same false goes = refl
    by_test most more left s is fits fits' same true goes =
        then-same (step s) (repeat goes_on step most) (repeat goes_on step more) (λ next.
        others-same most more left (step s).state fits fits' same (falls left s is goes next) (goes_on (step s).state) refl)

    pub same-bounds : (most more left : ℕ) (s : S) → IsLeft left s → left < most → left < more → repeat goes_on step most s ≡ repeat goes_on step more s
    unfolding repeat
    same-bounds zero more left s is fits fits' = absurd (let no : ⊥ = omega (arith, fits) in no)
    same-bounds (suc most) zero left s is fits fits' = absurd (let no : ⊥ = omega (arith, fits') in no)
    same-bounds (suc most) (suc more) left s is fits fits' =
        by_test most more left s is (omega (arith, fits)) (omega (arith, fits')) (same-bounds most more) (goes_on s) refl

    -- one step taken out of the loop, which keeps its bound
    pub unrolled : (most left : ℕ) (s : S) → IsLeft left s → left < most → goes_on s ≡ true →
        repeat goes_on step most s ≡ (step s followed_by repeat goes_on step most)
    unfolding repeat
    unrolled most left s is fits goes =
        same-bounds most (suc most) left s is fits (omega (arith, fits))
        ∙ ap (only_if (λ now. step now followed_by repeat goes_on step most) s) goes

    -- a loop that ends without a throw or a limit ends by its test

    if-rests : (most left : ℕ) (s : S) → IsLeft left s → left ≤ most →
        ((less : ℕ) (s : S) → IsLeft less s → less < most → (repeat goes_on step most s).flow ≡ Next → goes_on (repeat goes_on step most s).state ≡ false) →
        (goes : Bool) → goes_on s ≡ goes → (only_if (λ now. step now followed_by repeat goes_on step most) s goes).flow ≡ Next →
        goes_on (only_if (λ now. step now followed_by repeat goes_on step most) s goes).state ≡ false
    if-rests most left s is fits each false goes = λ next. goes
    if-rests most left s is fits each true goes =
        by-flow (λ (it : Said S). it.flow ≡ Next → goes_on it.state ≡ false) (repeat goes_on step most) (step s)
        (λ next. by (goes_on (step s).state) refl (falls left s is goes next)) (λ never next. absurd (never next))
      where
        by : (goes : Bool) → goes_on (step s).state ≡ goes → (goes_on (step s).state ≡ true → IsLess left (step s).state) →
            (repeat goes_on step most (step s).state).flow ≡ Next → goes_on (repeat goes_on step most (step s).state).state ≡ false
        by true goes less next =
            let rest : IsLess left (step s).state = less goes in each (rest.now) (step s).state (rest.is) (omega (arith, rest.less, fits)) next
        by false goes less next = ap (λ (it : Said S). goes_on it.state) (repeat-not goes_on step most (step s).state goes) ∙ goes

    pub rests : (most left : ℕ) (s : S) → IsLeft left s → left < most → (repeat goes_on step most s).flow ≡ Next →
        goes_on (repeat goes_on step most s).state ≡ false
    unfolding repeat
    rests zero left s is fits next = absurd (let no : ⊥ = omega (arith, fits) in no)
    rests (suc most) left s is fits next = if-rests most left s is (omega (arith, fits)) (rests most) (goes_on s) refl next
