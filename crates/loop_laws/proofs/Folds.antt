-- What holds from one step of a run to the next, over the lines that are said and what is listed between them, holds along its whole.
use Rattle.std.proofs.Common.{◌≡◌, refl, sym, subst, ◌∙◌}
use Rattle.std.proofs.lemmas.List.{append-nil}
use Rattle.std.specs.Prelude.{ℕ, zero, suc, Bool, true, false, ◌&&◌, nat_lt, List, [], ◌∷◌, ◌++◌}
use Rattle.std.specs.List.{AllByRecursion}
use Rattle.script_model.specs.TraceLines.{TraceLine}
use Rattle.page_model.specs.Runs.{Flow, Next, Thrown, Limited, Said, Turn, behind, lifted, follow, ◌followed_by◌, only_if, for_each, repeat, by_place, at_place, most_steps}
use Rattle.page_laws.proofs.Lists.{all-append}
use Rattle.loop_laws.specs.Moments.{onward, following, listed_if, along_each, along_repeat, along_places}

pub all-each : {A : Type 0} (P : A → Type 0) (xs : List A) → ((x : A) → P x) → AllByRecursion P xs
all-each P [] each = tt
all-each P (x ∷ xs) each = (each x, all-each P xs each)

pub all-two : {A : Type 0} (P Q R : A → Type 0) → ((x : A) → P x → Q x → R x) → (xs : List A) → AllByRecursion P xs → AllByRecursion Q xs → AllByRecursion R xs
all-two P Q R each [] one other = tt
all-two P Q R each (x ∷ xs) one other = (each x (one.0) (other.0), all-two P Q R each xs (one.1) (other.1))

pub all-split : {A : Type 0} (P : A → Type 0) (xs ys : List A) → AllByRecursion P (xs ++ ys) → AllByRecursion P xs × AllByRecursion P ys
all-split P [] ys all = (tt, all)
all-split P (x ∷ xs) ys all = let others = all-split P xs ys (all.1) in ((all.0, others.0), others.1)

-- a rest that is run where neither a throw nor a limit came
pub by-flow : {S : Type 0} (T : Said S → Type 0) (rest : S → Said S) (said : Said S) → (said.flow ≡ Next → T (behind (said.lines) (rest (said.state)))) →
    ((said.flow ≡ Next → ⊥) → T said) → T (said followed_by rest)
unfolding ◌followed_by◌ follow
by-flow T rest said next never = by (said.flow) refl
  where
    by : (flow : Flow) → said.flow ≡ flow → T (follow flow rest said)
    by Next is = next is
    by Thrown is = never (λ other. absurd (let no : Thrown ≡ Next = sym is ∙ other in cc))
    by Limited is = never (λ other. absurd (let no : Limited ≡ Next = sym is ∙ other in cc))

-- `R a lines xs b`: from `a` to `b`, where these lines are said and `xs` are listed between them
pub record IsJoined {S B : Type 0} (R : S → List TraceLine → List B → S → Type 0) : Type 0 where
  pub none : (s : S) → R s [] [] s
  pub both : (a b c : S) (lines more : List TraceLine) (xs ys : List B) → R a lines xs b → R b more ys c → R a (lines ++ more) (xs ++ ys) c

abbrev pub Runs : {S B : Type 0} → (S → List TraceLine → List B → S → Type 0) → S → List B → Said S → Type 0
Runs R s xs said = R s (said.lines) xs (said.state)

-- the same where `P` is kept, and known
abbrev pub While : {S B : Type 0} → (S → Type 0) → (S → List TraceLine → List B → S → Type 0) → S → List TraceLine → List B → S → Type 0
While P R a lines xs b = P a → P b × R a lines xs b

pub while-joined : {S B : Type 0} (P : S → Type 0) (R : S → List TraceLine → List B → S → Type 0) → IsJoined R → IsJoined (While P R)
while-joined P R joined = record {
  none = λ s here. (here, joined.none s);
  both = λ a b c lines more xs ys one other here.
      let first = one here in
      let second = other (first.0) in
      (second.0, joined.both a b c lines more xs ys (first.1) (second.1));
}

-- what holds of all that is listed, or of all lines
pub all-joined : {S B : Type 0} (F : B → Type 0) → IsJoined (λ (a : S) (lines : List TraceLine) (xs : List B) (b : S). AllByRecursion F xs)
all-joined F = record { none = λ s. tt; both = λ a b c lines more xs ys one other. all-append F xs ys one other }

pub lines-joined : {S B : Type 0} (Q : TraceLine → Type 0) → IsJoined (λ (a : S) (lines : List TraceLine) (xs : List B) (b : S). AllByRecursion Q lines)
lines-joined Q = record { none = λ s. tt; both = λ a b c lines more xs ys one other. all-append Q lines more one other }

module _ {S B : Type 0} (R : S → List TraceLine → List B → S → Type 0) (joined : IsJoined R) where
  follow-along : (first : S) (xs : List B) (flow : Flow) (rest : S → Said S) (list : S → List B) (said : Said S) → Runs R first xs said →
      ((s : S) → Runs R s (list s) (rest s)) → Runs R first (xs ++ onward flow list (said.state)) (follow flow rest said)
  unfolding follow onward
  follow-along first xs Next rest list said here each =
      joined.both first (said.state) (rest (said.state)).state (said.lines) _ xs (list (said.state)) here (each (said.state))
  follow-along first xs Thrown rest list said here each = subst (λ (ys : List B). Runs R first ys said) (sym (append-nil xs)) here
  follow-along first xs Limited rest list said here each = subst (λ (ys : List B). Runs R first ys said) (sym (append-nil xs)) here

  pub then-along : (first : S) (xs : List B) (rest : S → Said S) (list : S → List B) (said : Said S) → Runs R first xs said →
      ((s : S) → Runs R s (list s) (rest s)) → Runs R first (xs ++ following said list) (said followed_by rest)
  unfolding ◌followed_by◌
  then-along first xs rest list said here each = follow-along first xs (said.flow) rest list said here each

  -- a rest that lists nothing
  follow-behind : (first : S) (xs : List B) (flow : Flow) (rest : S → Said S) (said : Said S) → Runs R first xs said → ((s : S) → Runs R s [] (rest s)) →
      Runs R first xs (follow flow rest said)
  unfolding follow
  follow-behind first xs Next rest said here each =
      subst (λ (ys : List B). Runs R first ys (follow Next rest said)) (append-nil xs)
      (joined.both first (said.state) (rest (said.state)).state (said.lines) _ xs [] here (each (said.state)))
  follow-behind first xs Thrown rest said here each = here
  follow-behind first xs Limited rest said here each = here

  pub then-behind : (first : S) (xs : List B) (rest : S → Said S) (said : Said S) → Runs R first xs said → ((s : S) → Runs R s [] (rest s)) →
      Runs R first xs (said followed_by rest)
  unfolding ◌followed_by◌
  then-behind first xs rest said here each = follow-behind first xs (said.flow) rest said here each

  pub if-along : (step : S → Said S) (list : S → List B) (s : S) (test : Bool) → (test ≡ true → Runs R s (list s) (step s)) →
      Runs R s (listed_if list s test) (only_if step s test)
  if-along step list s true there = there refl
  if-along step list s false there = joined.none s

  pub each-along : {A : Type 0} (In : A → Type 0) (step : A → S → Said S) (list : A → S → List B) (items : List A) → AllByRecursion In items →
      ((item : A) (s : S) → In item → Runs R s (list item s) (step item s)) → (s : S) → Runs R s (along_each list step items s) (for_each step items s)
  unfolding for_each along_each
  each-along In step list [] all each s = joined.none s
  each-along In step list (item ∷ others) all each s =
      then-along s (list item s) (for_each step others) (along_each list step others) (step item s) (each item s (all.0)) (each-along In step list others (all.1) each)

  pub repeat-along : (goes_on : S → Bool) (step : S → Said S) (list : S → List B) (most : ℕ) →
      ((s : S) → goes_on s ≡ true → Runs R s (list s) (step s)) → (s : S) → Runs R s (along_repeat goes_on list step most s) (repeat goes_on step most s)
  unfolding repeat along_repeat
  repeat-along goes_on step list zero each s = joined.none s
  repeat-along goes_on step list (suc most) each s =
      if-along (λ now. step now followed_by repeat goes_on step most) (λ now. list now ++ following (step now) (along_repeat goes_on list step most)) s
      (goes_on s)
      (λ goes. then-along s (list s) (repeat goes_on step most) (along_repeat goes_on list step most) (step s) (each s goes)
      (repeat-along goes_on step list most each))

  -- steps that list nothing, and behind them some that do
  split-follow : (first : S) (flow : Flow) (some all : S → Said S) (list : S → List B) (said : Said S) → said.flow ≡ flow → Runs R first [] said →
      ((s : S) → Runs R s (following (some s) list) (all s)) → Runs R first (following (follow flow some said) list) (follow flow all said)
  unfolding follow onward
  split-follow first Next some all list said is here each =
      joined.both first (said.state) (all (said.state)).state (said.lines) _ [] (following (some (said.state)) list) here (each (said.state))
  split-follow first Thrown some all list said is here each =
      subst (λ (flow : Flow). Runs R first (onward flow list (said.state)) said) (sym is) here
  split-follow first Limited some all list said is here each =
      subst (λ (flow : Flow). Runs R first (onward flow list (said.state)) said) (sym is) here

  pub split-along : {A : Type 0} (In : A → Type 0) (step : A → S → Said S) (more : List A) (list : S → List B) →
      ((s : S) → Runs R s (list s) (for_each step more s)) → ((item : A) (s : S) → In item → Runs R s [] (step item s)) → (items : List A) →
      AllByRecursion In items → (s : S) → Runs R s (following (for_each step items s) list) (for_each step (items ++ more) s)
  unfolding for_each onward ◌followed_by◌
  split-along In step more list behind each [] all s = behind s
  split-along In step more list behind each (item ∷ items) all s =
      split-follow s (step item s).flow (for_each step items) (for_each step (items ++ more)) list (step item s) refl (each item s (all.0))
      (split-along In step more list behind each items (all.1))

pub places-along : {S B : Type 0} (R : S → List TraceLine → List B → S → Type 0) (joined : IsJoined R) (count : S → ℕ) (goes_on : S → Bool)
    (step : ℕ → S → Said S) (list : ℕ → S → List B) → ((place : ℕ) (s : S) → Runs R s (list place s) (step place s)) → (s : S) →
    Runs R s (along_places count goes_on list step s) (by_place count goes_on step s)
unfolding by_place along_places
places-along {S = S} {B = B} R joined count goes_on step list each s =
    repeat-along (λ (a : Turn S) (lines : List TraceLine) (xs : List B) (b : Turn S). R (a.state) lines xs (b.state))
    (record {
      none = λ turn. joined.none (turn.state);
      both = λ a b c lines more xs ys one other. joined.both (a.state) (b.state) (c.state) lines more xs ys one other;
    })
    (λ turn. goes_on (turn.state) && nat_lt (turn.place) (count (turn.state)))
    (λ turn. lifted (at_place (suc turn.place)) (step (turn.place) (turn.state)))
    (λ turn. list (turn.place) (turn.state))
    most_steps
    (λ turn goes. each (turn.place) (turn.state))
    (at_place 0 s)
