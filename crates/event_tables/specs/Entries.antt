-- Entries of a table as they are kept: by serial number, each with its key, and the serial numbers by key.
use Rattle.std.specs.Prelude.{◌≡◌, ℕ, ◌<◌, Bool, List, map}
use Rattle.std.specs.List.{AllByRecursion, IsDistinct}
use Rattle.std.specs.List.Sorted.{IsStrictlySortedBy}
use Rattle.std.specs.Map.{keys_of, lookup}
use Rattle.std.specs.Ordering.{nat_cmp}

-- a serial number, and what is kept under it: a key with its value
abbrev pub Entry : Type 0 → Type 0 → Type 0
Entry K V = ℕ × (K × V)

-- whether an entry has a key
abbrev pub has_key : {K V : Type 0} → (K → K → Bool) → K → Entry K V → Bool
has_key same key entry = same key entry.1.0

-- the key of each entry with its serial number
abbrev pub numbered : {K V : Type 0} → List (Entry K V) → List (K × ℕ)
numbered entries = map (λ (entry : Entry _ _). (entry.1.0, entry.0)) entries

-- the entries are in order of their serial numbers, which were all given; their keys differ, and `serials` has each entry's
-- number under its key
pub record IsIndexed {K V : Type 0} (same : K → K → Bool) (given : ℕ) (entries : List (Entry K V)) (serials : List (K × ℕ)) : Type 0 where
  pub ordered : IsStrictlySortedBy nat_cmp (keys_of entries)
  pub below : AllByRecursion (λ (serial : ℕ). serial < given) (keys_of entries)
  pub apart : IsDistinct same (keys_of (numbered entries))
  pub found : (key : K) → lookup (same key) serials ≡ lookup (same key) (numbered entries)
