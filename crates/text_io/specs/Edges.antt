-- What is known about the std readers and writers behind a source and a sink.
use Rattle.std.specs.Prelude.{ℕ, List, Option}

-- the bytes that a reader has left, if they are known, and how many reads failed
pub record Reading : Type 0 where
  pub left : Option (List ℕ)
  pub faults : ℕ

-- the bytes that a writer holds, if they are known, and how many writes failed
pub record Writing : Type 0 where
  pub taken : Option (List ℕ)
  pub faults : ℕ
