-- What holds of what a sequence of steps comes to.
use Rattle.std.proofs.Common.{◌≡◌, refl, subst, arith, tests}
use Rattle.std.specs.Prelude.{ℕ, ◌<◌, nat_lt, Bool, true, false, Option, Some, None, IfSome}
use Rattle.text_io.specs.declared.kinds.ThrowKind.{ThrowKind}
use Rattle.text_io.specs.declared.kinds.LimitKind.{LimitKind}
use Rattle.page_model.specs.Steps.{Step, Did, Threw, Met, ◌>>=◌, ◌>>◌, required, met_unless}
use Rattle.page_laws.specs.Successors.{OnDid}

pub bind : {A B : Type 0} (step : Step A) (next : A → Step B) (Holds : B → Type 0) → ((value : A) → OnDid (next value) Holds) → OnDid (step >>= next) Holds
unfolding OnDid ◌>>=◌
bind (Did value) next Holds each = each value
bind (Threw exception) next Holds each = tt
bind (Met limit) next Holds each = tt

-- the next step where the first one is known to come to the value
pub known : {A B : Type 0} (step : Step A) (next : A → Step B) (Holds : B → Type 0) → ((value : A) → step ≡ Did value → OnDid (next value) Holds) →
    OnDid (step >>= next) Holds
unfolding OnDid ◌>>=◌
known (Did value) next Holds each = each value refl
known (Threw exception) next Holds each = tt
known (Met limit) next Holds each = tt

pub both : {A B : Type 0} (step : Step A) (next : Step B) (Holds : B → Type 0) → OnDid next Holds → OnDid (step >> next) Holds
unfolding OnDid ◌>>◌
both (Did value) next Holds there = there
both (Threw exception) next Holds there = tt
both (Met limit) next Holds there = tt

pub did : {A : Type 0} (value : A) (Holds : A → Type 0) → Holds value → OnDid (Did value) Holds
unfolding OnDid
did value Holds holds = holds

-- what is known of a step that comes to this
pub of_did : {A : Type 0} (step : Step A) (value : A) (Holds : A → Type 0) → step ≡ Did value → OnDid step Holds → Holds value
unfolding OnDid
of_did (Did other) value Holds is here = let both : Did other ≡ Did value = is in let same : other ≡ value = cc in subst Holds same here
of_did step value Holds is here = cc

pub known-did : {A : Type 0} (step : Step A) (Holds : A → Type 0) → ((value : A) → step ≡ Did value → Holds value) → OnDid step Holds
unfolding OnDid
known-did (Did value) Holds each = each value refl
known-did (Threw exception) Holds each = tt
known-did (Met limit) Holds each = tt

-- the next step where something is known of the value
pub bind-in : {A B : Type 0} (step : Step A) (next : A → Step B) (Fact : A → Type 0) (Holds : B → Type 0) → OnDid step Fact →
    ((value : A) → Fact value → OnDid (next value) Holds) → OnDid (step >>= next) Holds
unfolding OnDid ◌>>=◌
bind-in (Did value) next Fact Holds fact each = each value fact
bind-in (Threw exception) next Fact Holds fact each = tt
bind-in (Met limit) next Fact Holds fact each = tt

pub required-in : {A : Type 0} (exception : ThrowKind) (found : Option A) (Fact : A → Type 0) → IfSome found Fact → OnDid (required exception found) Fact
unfolding OnDid
required-in exception None Fact fact = tt
required-in exception (Some value) Fact fact = fact

-- the next step where there is room
pub room-then : {B : Type 0} (limit : LimitKind) (count most : ℕ) (next : Step B) (Holds : B → Type 0) → (count < most → OnDid next Holds) →
    OnDid (met_unless (nat_lt count most) limit >> next) Holds
unfolding OnDid ◌>>◌
room-then limit count most next Holds each = by_room (nat_lt count most) refl
  where
    by_room : (has_room : Bool) → nat_lt count most ≡ has_room → OnDid (met_unless has_room limit >> next) Holds
    by_room true is = each (grind (arith, tests, is))
    by_room false is = tt

pub on_did-all : {A : Type 0} (step : Step A) (Holds : A → Type 0) → ((value : A) → Holds value) → OnDid step Holds
unfolding OnDid
on_did-all (Did value) Holds each = each value
on_did-all (Threw exception) Holds each = tt
on_did-all (Met limit) Holds each = tt

pub on_did-map : {A : Type 0} (step : Step A) (Holds More : A → Type 0) → ((value : A) → Holds value → More value) → OnDid step Holds → OnDid step More
unfolding OnDid
on_did-map (Did value) Holds More each here = each value here
on_did-map (Threw exception) Holds More each here = tt
on_did-map (Met limit) Holds More each here = tt

pub on_did-with : {A : Type 0} (step : Step A) (One Two Both : A → Type 0) → ((value : A) → One value → Two value → Both value) → OnDid step One →
    OnDid step Two → OnDid step Both
unfolding OnDid
on_did-with (Did value) One Two Both each one two = each value one two
on_did-with (Threw exception) One Two Both each one two = tt
on_did-with (Met limit) One Two Both each one two = tt
