-- A sink in memory that keeps all that it takes. This project's own choice.
use Rattle.std.specs.Prelude.{ℕ, List}

-- the bytes taken, and how many writes failed
pub record Gathered : Type 0 where
  pub taken : List ℕ
  pub faults : ℕ
