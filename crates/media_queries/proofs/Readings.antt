-- What holds of each value that a reader gives.
use Rattle.std.proofs.Common.{ℕ, Bool, true, false, cond}
use Rattle.std.specs.Prelude.{Result, Ok, Err}
use Rattle.script_model.specs.Readers.{◌>>=◌}

abbrev pub OnValue : {A : Type 0} → (A → Type 0) → Result A ℕ → Type 0
OnValue P (Ok value) = P value
OnValue P (Err left) = Unit {0}

pub then_on : {A B : Type 0} → (P : A → Type 0) (Q : B → Type 0) (read : Result A ℕ) (next : A → Result B ℕ)
    → OnValue P read → ((value : A) → P value → OnValue Q (next value)) → OnValue Q (read >>= next)
then_on P Q (Ok value) next h goes_on = goes_on value h
then_on P Q (Err left) next h goes_on = tt

pub either_on : {A : Type 0} → (P : A → Type 0) (test : Bool) (first second : Result A ℕ) → OnValue P first → OnValue P second → OnValue P (cond test first second)
either_on P true first second h g = h
either_on P false first second h g = g

pub weaker_on : {A : Type 0} → (P Q : A → Type 0) (read : Result A ℕ) → OnValue P read → ((value : A) → P value → Q value) → OnValue Q read
weaker_on P Q (Ok value) h weaker = weaker value h
weaker_on P Q (Err left) h weaker = tt
