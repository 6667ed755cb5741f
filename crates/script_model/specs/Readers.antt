-- How readers are chained: the first fault ends them.
use Rattle.std.specs.Prelude.{Bool, true, false, List, [], ◌∷◌, Option, Some, None, Result, Ok, Err}

infixl 10 ◌>>=◌
abbrev pub ◌>>=◌ : {A B E : Type 0} → Result A E → (A → Result B E) → Result B E
Ok value >>= next = next value
Err fault >>= next = Err fault

-- the value of an option, or this fault if there is none
abbrev pub or_fault : {A E : Type 0} → E → Option A → Result A E
or_fault fault None = Err fault
or_fault fault (Some value) = Ok value

-- the same result with its fault mapped by a function
abbrev pub with_fault : {A E F : Type 0} → (E → F) → Result A E → Result A F
with_fault seen (Ok value) = Ok value
with_fault seen (Err fault) = Err (seen fault)

unfoldable pub is_empty : {A : Type 0} → List A → Bool
is_empty [] = true
is_empty (x ∷ xs) = false
