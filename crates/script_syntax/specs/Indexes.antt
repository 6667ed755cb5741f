-- The handlers of a script by their indices among its items, and their numbers by name.
use Rattle.std.specs.Prelude.{◌≡◌, ℕ, ◌<◌, ◌^◌, Bool, cond, List, [], ◌∷◌, ◌++◌, length, map, filter, take, slice_get, Option, Some, None, bytes_eq}
use Rattle.script_model.specs.Syntax.{Item}
use Rattle.script_model.specs.Scripts.{handlers_in, number_in, handler_number}
use Rattle.script_syntax.specs.Seen.{is_handler}

-- the handlers among the first so many items
pub record IndexedTo (items : List Item) (most : ℕ) (places : List ℕ) (number_of : List ℕ → Option ℕ) : Type 0 where
  pub few : length places < 2 ^ 32
  pub placed : map (λ place. slice_get items place) places ≡ map Some (filter is_handler (take most items))
  pub named : (name : List ℕ) → number_of name ≡ number_in (handlers_in (take most items)) name

pub record Indexed (items : List Item) (places : List ℕ) (number_of : List ℕ → Option ℕ) : Type 0 where
  pub few : length places < 2 ^ 32
  pub placed : map (λ place. slice_get items place) places ≡ map Some (filter is_handler items)
  pub named : (name : List ℕ) → number_of name ≡ handler_number items name

-- the number of a name after a handler, with the same name or another, was given this number; of handlers with one name the first counts
abbrev pub noted : Bool → ℕ → Option ℕ → Option ℕ
noted same number (Some before) = Some before
noted same number None = cond same (Some number) None

-- one more handler is known
pub record Noted (place : ℕ) (name : List ℕ) (places : List ℕ) (number_of : List ℕ → Option ℕ) (places' : List ℕ) (number_of' : List ℕ → Option ℕ) : Type 0 where
  pub few : length places' < 2 ^ 32
  pub placed : places' ≡ places ++ (place ∷ [])
  pub named : (asked : List ℕ) → number_of' asked ≡ noted (bytes_eq asked name) (length places) (number_of asked)
