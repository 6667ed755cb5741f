-- Entries of a table of words: the forms of the parts after a word, and what they make. Reading takes the parts by their forms; printing
-- gives the words of values that are typed by the same forms.
use Rattle.std.specs.Prelude.{ℕ, cond, List, [], ◌∷◌, Option, Some, None, bytes_eq}
use Rattle.script_model.specs.Keywords.{Keyword}
use Rattle.script_model.specs.Forms.{Form, Meant, From}
use Rattle.script_text.specs.Parts.{Part, PartOf}

pub record Entry (A : Type 0) : Type 0 where
  pub forms : List Form
  pub makes : From forms A

-- what a table has for a word: the same as `lookup`, but computed wherever it is used
abbrev pub entry_at : {A : Type 0} → List (Keyword A) → List ℕ → Option A
entry_at [] word = None
entry_at (k ∷ ks) word = cond (bytes_eq word k.word) (Some k.means) (entry_at ks word)

-- a value for each form
abbrev pub Values : List Form → Type 0
Values [] = Unit {0}
Values (form ∷ forms) = Meant form × Values forms

-- the values that may come after a word; there are none if the table doesn't have the word
abbrev pub ValuesOf : {A : Type 0} → Option (Entry A) → Type 0
ValuesOf None = ⊥
ValuesOf (Some entry) = Values entry.forms

-- a word of a table, with the values of its parts
pub record Phrase {A : Type 0} (at : List ℕ → Option (Entry A)) : Type 0 where
  pub word : List ℕ
  pub values : ValuesOf (at word)

-- a function that takes these values one by one
abbrev pub one_by_one : {A : Type 0} (forms : List Form) → (Values forms → A) → From forms A
one_by_one [] of = of tt
one_by_one (form ∷ forms) of = λ value. one_by_one forms (λ values. of (value, values))

abbrev pub Takes : {A : Type 0} → Option (Entry A) → Type 0 → Type 0
Takes None B = Unit {0}
Takes (Some entry) B = From entry.forms B

abbrev pub takes : {A B : Type 0} (entry : Option (Entry A)) → (ValuesOf entry → B) → Takes entry B
takes None of = tt
takes (Some entry) of = one_by_one entry.forms of

-- the phrase that a word and the values of its parts make
abbrev pub phrase_at : {A : Type 0} (at : List ℕ → Option (Entry A)) (word : List ℕ) → Takes (at word) (Phrase at)
phrase_at at word = takes (at word) (λ values. record { word = word; values = values })

abbrev pub parts : (forms : List Form) → Values forms → List Part
parts [] values = []
parts (form ∷ forms) values = PartOf form values.0 ∷ parts forms values.1

abbrev pub parts_behind : {A : Type 0} (entry : Option (Entry A)) → ValuesOf entry → List Part
parts_behind None values = absurd values
parts_behind (Some entry) values = parts entry.forms values
