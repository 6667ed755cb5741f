-- A table of a world, and the limit on its entries.
use Rattle.std.specs.Prelude.{ℕ, Bool, nat_lt, length, map}
use Rattle.page_model.specs.World.{Table}

pub record Bounded (A : Type 0) : Type 0 where
  pub part : Table A
  pub most : ℕ

-- whether one more entry may be held
abbrev pub has_room : {A : Type 0} → Bounded A → Bool
has_room it = nat_lt (length it.part.held) it.most

-- a table of what its entries stand for
abbrev pub seen_table : {A B : Type 0} → (A → B) → Bounded A → Bounded B
seen_table seen it = record { part = record { given = it.part.given; held = map seen (it.part.held) }; most = it.most }
