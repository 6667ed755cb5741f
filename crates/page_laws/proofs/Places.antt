-- A loop over a list by place ends by the list's length.
use Rattle.std.proofs.Common.{◌≡◌, refl, sym, ap, arith, tests, ◌≤◌}
use Rattle.std.specs.Prelude.{ℕ, zero, suc, ◌+◌, ◌&&◌, nat_lt, Bool, true, false}
use Rattle.std.proofs.lemmas.Bool.{and_right}
use Rattle.page_model.specs.Runs.{Flow, Next, Thrown, Limited, Said, Turn, silent, behind, follow, ◌followed_by◌, only_if, lifted, repeat, by_place, at_place, most_steps}
use Rattle.page_laws.specs.Bounds.{places_up_to}

follow-same : {S : Type 0} (flow : Flow) (rest rest' : S → Said S) (said : Said S) → rest (said.state) ≡ rest' (said.state) →
    follow flow rest said ≡ follow flow rest' said
unfolding follow
follow-same Next rest rest' said same = ap (behind (said.lines)) same
follow-same Thrown rest rest' said same = refl
follow-same Limited rest rest' said same = refl

then-same : {S : Type 0} (rest rest' : S → Said S) (said : Said S) → rest (said.state) ≡ rest' (said.state) → (said followed_by rest) ≡ (said followed_by rest')
unfolding ◌followed_by◌
then-same rest rest' said same = follow-same (said.flow) rest rest' said same

pub repeat-not : {S : Type 0} (goes_on : S → Bool) (step : S → Said S) (most : ℕ) (state : S) → goes_on state ≡ false →
    repeat goes_on step most state ≡ silent state
unfolding repeat
repeat-not goes_on step zero state fails = refl
repeat-not goes_on step (suc most) state fails = ap (only_if (λ now. step now followed_by repeat goes_on step most) state) fails

not-less : (a b : ℕ) → b ≤ a → nat_lt a b ≡ false
not-less a b most = grind (arith, tests)

module _ {S : Type 0} (P : S → Type 0) (count : S → ℕ) (goes_on : S → Bool) (step : ℕ → S → Said S) (limit : ℕ) (bounded : (s : S) → P s → count s ≤ limit)
    (kept : (place : ℕ) (s : S) → P s → P (step place s).state) where
  abbrev goes : Turn S → Bool
  goes turn = goes_on (turn.state) && nat_lt (turn.place) (count (turn.state))

  abbrev turns : Turn S → Said (Turn S)
  turns turn = lifted (at_place (suc turn.place)) (step (turn.place) (turn.state))

  ended : (turn : Turn S) → P (turn.state) → limit ≤ turn.place → goes turn ≡ false
  ended turn here past =
      let most : count (turn.state) ≤ limit = bounded (turn.state) here in
      and_right (goes_on (turn.state)) _ (not-less (turn.place) (count (turn.state)) (omega arith))

  only-same : (one other : Turn S → Said (Turn S)) (turn : Turn S) (test : Bool) → one turn ≡ other turn → only_if one turn test ≡ only_if other turn test
  only-same one other turn true same = same
  only-same one other turn false same = refl

  never-cut : (most more : ℕ) (turn : Turn S) → P (turn.state) → limit ≤ most + turn.place → limit ≤ more + turn.place →
      repeat goes turns most turn ≡ repeat goes turns more turn
  unfolding repeat
  never-cut zero zero turn here fits fits' = refl
  never-cut zero (suc more) turn here fits fits' = sym (repeat-not goes turns (suc more) turn (ended turn here (omega arith)))
  never-cut (suc most) zero turn here fits fits' = repeat-not goes turns (suc most) turn (ended turn here (omega arith))
  never-cut (suc most) (suc more) turn here fits fits' =
      only-same (λ now. turns now followed_by repeat goes turns most) (λ now. turns now followed_by repeat goes turns more) turn (goes turn)
      (then-same (repeat goes turns most) (repeat goes turns more) (turns turn)
      (never-cut most more (at_place (suc turn.place) (step (turn.place) (turn.state)).state) (kept (turn.place) (turn.state) here) (omega arith)
      (omega arith)))

  pub same-places : (most : ℕ) (state : S) → P state → limit ≤ most → limit ≤ most_steps →
      by_place count goes_on step state ≡ places_up_to most count goes_on step state
  unfolding by_place places_up_to
  same-places most state here fits fits' =
      ap (lifted (λ (turn : Turn S). turn.state)) (never-cut most_steps most (at_place 0 state) here (omega arith) (omega arith))
