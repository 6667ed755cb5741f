-- The fields after a line's kind: a space before each, and a line feed after the last.
use Rattle.std.specs.Prelude.{ℕ, Bool, nat_lt, List, [], ◌∷◌, ◌++◌}

-- a byte greater than the space; a field that is one word has only such bytes
abbrev pub is_field_byte : ℕ → Bool
is_field_byte byte = nat_lt 32 byte

-- fields, each after a space, followed by a text
abbrev pub before : List (List ℕ) → List ℕ → List ℕ
before [] rest = rest
before (field ∷ fields) rest = 32 ∷ (field ++ before fields rest)

-- a text followed by fields, each after a space
abbrev pub with_fields : List ℕ → List (List ℕ) → List ℕ
with_fields text [] = text
with_fields text (field ∷ fields) = with_fields (text ++ (32 ∷ field)) fields
