-- The loops of the definitions, a step at a time.
use Rattle.std.proofs.Common.{◌≡◌, ℕ, suc, zero, ◌+◌, ◌-◌, ◌<◌, ◌≤◌, Bool, true, false, List, [], ◌∷◌, length, drop, get_or, refl, ap, sym, ◌∙◌, arith, add-one}
use Rattle.std.proofs.Math.Bool.{and-false}
use Rattle.std.proofs.lemmas.Bool.{lt-ltb, le-ltb}
use Rattle.std.proofs.lemmas.List.{drop_more, drop_all}
use Rattle.std.specs.Prelude.{map, nat_lt, ◌&&◌}
use Rattle.page_model.specs.Runs.{Said, Flow, Next, Thrown, Limited, silent, behind, ◌followed_by◌, follow, lifted, for_each, repeat, by_place, Turn, at_place, most_steps}
use Rattle.trace_runs.proofs.Runs.{only_if_true, only_if_false}

-- for each ------------------------------------------------------------------------------------------------------------------

-- a step more
pub each_more : {A S : Type 0} (step : A → S → Said S) (items : List A) (i : ℕ) (item : A) (state : S) → i < length items → item ≡ get_or items i item
    → for_each step (drop i items) state ≡ step item state followed_by for_each step (drop (i + 1) items)
unfolding for_each
each_more step items i item state within is =
    ap (λ rest. for_each step rest state) (drop_more items i item within)
    ∙ ap (λ it. step it state followed_by for_each step (drop (i + 1) items)) (sym is)

-- no step is left
pub each_none : {A S : Type 0} (step : A → S → Said S) (items : List A) (i : ℕ) (state : S) → length items ≤ i → for_each step (drop i items) state ≡ silent state
unfolding for_each
each_none step items i state past = ap (λ rest. for_each step rest state) (drop_all i items past)

-- the same rest behind a step
followed-same : {S : Type 0} {rest other : S → Said S} → ((state : S) → rest state ≡ other state) → (flow : Flow) (said : Said S) → follow flow rest said ≡ follow flow other said
unfolding follow
followed-same same Next said = ap (behind (said.lines)) (same (said.state))
followed-same same Thrown said = refl
followed-same same Limited said = refl

pub followed_same : {S : Type 0} {rest other : S → Said S} (said : Said S) → ((state : S) → rest state ≡ other state) → said followed_by rest ≡ said followed_by other
unfolding ◌followed_by◌
followed_same said same = followed-same same (said.flow) said

-- the steps for what items stand for
pub each_mapped : {A B S : Type 0} (step : B → S → Said S) (seen : A → B) (items : List A) (state : S) → for_each (λ item. step (seen item)) items state ≡ for_each step (map seen items) state
unfolding for_each
each_mapped step seen [] state = refl
each_mapped step seen (item ∷ items) state = followed_same (step (seen item) state) (each_mapped step seen items)

-- as long as a test holds ---------------------------------------------------------------------------------------------------

-- a turn more
pub repeat_more : {S : Type 0} (goes_on : S → Bool) (step : S → Said S) (most : ℕ) (state : S) → goes_on state ≡ true
    → repeat goes_on step (suc most) state ≡ step state followed_by repeat goes_on step most
unfolding repeat
repeat_more goes_on step most state holds = only_if_true (λ now. step now followed_by repeat goes_on step most) state holds

-- no turn is left
pub repeat_none : {S : Type 0} (goes_on : S → Bool) (step : S → Said S) (most : ℕ) (state : S) → goes_on state ≡ false → repeat goes_on step most state ≡ silent state
unfolding repeat
repeat_none goes_on step zero state fails = refl
repeat_none goes_on step (suc most) state fails = only_if_false (λ now. step now followed_by repeat goes_on step most) state fails

-- by place ------------------------------------------------------------------------------------------------------------------

-- the state of a turn, said of all that follows
lifted-followed : {S : Type 0} (place : ℕ) (rest : Turn S → Said (Turn S)) (flow : Flow) (said : Said S)
    → lifted (λ turn. turn.state) (follow flow rest (lifted (at_place place) said)) ≡ follow flow (λ state. lifted (λ turn. turn.state) (rest (at_place place state))) said
unfolding follow
lifted-followed place rest Next said = refl
lifted-followed place rest Thrown said = refl
lifted-followed place rest Limited said = refl

lifted_followed : {S : Type 0} (place : ℕ) (rest : Turn S → Said (Turn S)) (said : Said S)
    → lifted (λ turn. turn.state) (lifted (at_place place) said followed_by rest) ≡ said followed_by (λ state. lifted (λ turn. turn.state) (rest (at_place place state)))
unfolding ◌followed_by◌
lifted_followed place rest said = lifted-followed place rest (said.flow) said

a-turn-less : (place : ℕ) → place < most_steps → most_steps - place ≡ suc (most_steps - (place + 1))
a-turn-less place few = omega arith

module _ {S : Type 0} (count : S → ℕ) (goes_on : S → Bool) (step : ℕ → S → Said S) where
  abbrev going : Turn S → Bool
  going turn = goes_on (turn.state) && nat_lt (turn.place) (count (turn.state))

  abbrev turn_at : Turn S → Said (Turn S)
  turn_at turn = lifted (at_place (suc turn.place)) (step (turn.place) (turn.state))

  abbrev turns : ℕ → ℕ → S → Said S
  turns most place state = lifted (λ turn. turn.state) (repeat going turn_at most (at_place place state))

  -- the turns from a place on
  pub places : ℕ → S → Said S
  places place state = turns (most_steps - place) place state

  -- all of them
  pub places_all : (state : S) → by_place count goes_on step state ≡ places 0 state
  unfolding by_place places
  places_all state = refl

  turns-more : (most place : ℕ) (state : S) → going (at_place place state) ≡ true → turns (suc most) place state ≡ step place state followed_by turns most (suc place)
  turns-more most place state holds =
      ap (lifted (λ turn. turn.state)) (repeat_more going turn_at most (at_place place state) holds)
      ∙ lifted_followed (suc place) (repeat going turn_at most) (step place state)

  -- a turn more
  pub places_more : (place : ℕ) (state : S) → place < most_steps → goes_on state ≡ true → place < count state → places place state ≡ step place state followed_by places (place + 1)
  unfolding places
  places_more place state few holds within =
      ap (λ most. turns most place state) (a-turn-less place few)
      ∙ turns-more (most_steps - (place + 1)) place state (ap (λ test. test && nat_lt place (count state)) holds ∙ lt-ltb place (count state) within)
      ∙ ap (λ (next : ℕ). step place state followed_by turns (most_steps - (place + 1)) next) (sym (add-one place))

  places-none : (place : ℕ) (state : S) → going (at_place place state) ≡ false → places place state ≡ silent state
  unfolding places
  places-none place state ends = ap (lifted (λ turn. turn.state)) (repeat_none going turn_at (most_steps - place) (at_place place state) ends)

  -- no place is left
  pub places_none : (place : ℕ) (state : S) → count state ≤ place → places place state ≡ silent state
  places_none place state past = places-none place state (ap (λ test. goes_on state && test) (le-ltb place (count state) past) ∙ and-false (goes_on state))

  -- the test holds no more
  pub places_left : (place : ℕ) (state : S) → goes_on state ≡ false → places place state ≡ silent state
  places_left place state fails = places-none place state (ap (λ test. test && nat_lt place (count state)) fails)
