-- What a condition is read as is in the grammar's ranges, and its printed words find room where those that were read stand.
use Rattle.std.proofs.Common.{◌≡◌, ℕ, ◌+◌, ◌≤◌, Bool, true, false, cond, List, [], ◌∷◌, ◌++◌, length, Some, None, refl, ap, sym, ◌∙◌, arith, subst}
use Rattle.std.specs.Prelude.{Option, Ok, bytes_eq, codes}
use Rattle.std.proofs.lemmas.Slice.Eq.{bytes_eq-Decides}
use Rattle.script_model.specs.Syntax.{Test, Condition}
use Rattle.script_model.specs.Readers.{◌>>=◌}
use Rattle.script_model.specs.Keywords.{lookup}
use Rattle.script_model.specs.Lexing.{Word, Row}
use Rattle.script_model.specs.Forms.{word_as, made}
use Rattle.script_model.specs.Commands.{TestShape, TestOf, tests}
use Rattle.script_model.specs.Statements.{negation_in, test_in, condition_behind, condition_as}
use Rattle.media_queries.proofs.Readings.{OnValue, then_on}
use Rattle.script_text.specs.Parts.{Part, all_words}
use Rattle.script_text.specs.Phrases.{test_head, test_parts, condition_words}
use Rattle.script_text.specs.WellFormed.{IfSome, AreMeant}
use Rattle.script_text.proofs.Tables.{Each, looked_up}
use Rattle.script_text.proofs.ReadRows.{room, room_append, IsRow, row_earlier, word_on, row_behind}
use Rattle.script_text.proofs.ReadForms.{Shows, Made, made_read}

-- Words that stand at the head of a line or of a test.

-- the value of a word, which this holds of, with the row behind it
pub record WordRead {A : Type 0} (Is : List ℕ → A → Type 0) (column last : ℕ) (read : A × Row) : Type 0 where
  pub word : List ℕ
  pub is : Is word read.0
  pub row : IsRow (column + (length word + 1)) last read.1

pub word_read : {A : Type 0} (of : List ℕ → Option A) (Is : List ℕ → A → Type 0) → ((text : List ℕ) → IfSome (Is text) (of text)) → (column last : ℕ) (r : Row) → IsRow column last r
    → OnValue (WordRead Is column last) (word_as of r)
word_read {A} of Is reads column last r row =
    word_on of (WordRead Is column last) r (λ w ws e. some w ws e (of w.text) (reads w.text)) where
      some : (w : Word) (ws : List Word) → r.left ≡ w ∷ ws → (found : Option A) → IfSome (Is w.text) found → IfSome (λ value. WordRead Is column last (value, record r { left = ws })) found
      some w ws e None is = tt
      some w ws e (Some value) is = record { word = w.text; is = is; row = row_behind column last r w ws (length w.text) (omega arith) row e }

-- Conditions.

-- a test's word, and its parts
Asks : List ℕ → Test → List Part → Type 0
Asks word test parts = (test_head test ≡ word) × (test_parts test ≡ parts)

TestShows : List ℕ → TestShape → Type 0
TestShows word (TestOf forms makes) = Shows forms makes (Asks word)

tests_show : Each TestShows tests
unfolding TestShows Asks
tests_show = assumption

abbrev pub ConditionRead : ℕ → ℕ → Condition → Type 0
ConditionRead column last condition = AreMeant (test_parts condition.asks) × (column + room (condition_words condition) ≤ last + 1)

-- the words before a test
negation : Bool → List (List ℕ)
negation negated = cond negated (codes "not" ∷ []) []

asked : (negated : Bool) (column last : ℕ) (word : List ℕ) (test : Test) → Made (Asks word) (column + room (negation negated) + (length word + 1)) last test
    → ConditionRead column last (record { negated = negated; asks = test })
unfolding Asks negation room
asked negated column last word test m =
    let is = m.is in
    let fits = m.fits in
    let words : room (negation negated ++ (test_head test ∷ all_words (test_parts test))) ≡ room (negation negated) + (length word + 1 + room (all_words m.parts)) =
    room_append (negation negated) (test_head test ∷ all_words (test_parts test))
    ∙ ap (λ (t : List ℕ). room (negation negated) + (length t + 1 + room (all_words (test_parts test)))) is.0
    ∙ ap (λ (parts : List Part). room (negation negated) + (length word + 1 + room (all_words parts))) is.1 in
    (subst AreMeant (sym is.1) m.meant, omega arith)

shape_read : (negated : Bool) (column last : ℕ) (word : List ℕ) (shape : TestShape) (r : Row) → TestShows word shape → IsRow (column + room (negation negated) + (length word + 1)) last r
    → OnValue (ConditionRead column last) (test_in shape r >>= λ asks. Ok (record { negated = negated; asks = asks }))
unfolding test_in TestShows
shape_read negated column last word (TestOf forms makes) r shows row =
    let next : ℕ = column + room (negation negated) + (length word + 1) in
    then_on (Made (Asks word) next last) (ConditionRead column last) (made forms makes r) (λ asks. Ok (record { negated = negated; asks = asks })) (made_read forms makes (Asks word) shows next last r row)
    (λ test m. asked negated column last word test m)

behind_read : (negated : Bool) (column last : ℕ) (r : Row) → IsRow (column + room (negation negated)) last r → OnValue (ConditionRead column last) (condition_behind negated r)
unfolding condition_behind
behind_read negated column last r row =
    let next : ℕ = column + room (negation negated) in
    then_on (WordRead TestShows next last) (ConditionRead column last) (word_as (lookup tests) r) (λ test. test_in test.0 test.1 >>= λ asks. Ok (record { negated = negated; asks = asks }))
    (word_read (lookup tests) TestShows (looked_up TestShows tests tests_show) next last r row)
    (λ test w. shape_read negated column last w.word test.0 test.1 w.is w.row)

not_word : (column last : ℕ) (r : Row) (w : Word) (ws : List Word) → bytes_eq w.text (codes "not") ≡ true → IsRow column last r → r.left ≡ w ∷ ws
    → IsRow (column + room (negation true)) last (record r { left = ws })
unfolding negation room
not_word column last r w ws e row left =
    let long = ap length ((bytes_eq-Decides w.text (codes "not")).0 e) in
    let behind = row_behind column last r w ws (length w.text) (omega arith) row left in
    row_earlier (column + 4) (column + (length w.text + 1)) last (record r { left = ws }) (omega arith) behind

no_negation : (column last : ℕ) (r : Row) → IsRow column last r → IsRow (column + room (negation false)) last r
unfolding negation room
no_negation column last r row = row_earlier (column + 0) column last r (omega arith) row

pub condition_read : (column last : ℕ) (r : Row) → IsRow column last r → OnValue (ConditionRead column last) (condition_as r)
unfolding condition_as negation_in
condition_read column last r row = by_words r.left refl where
  chosen : (w : Word) (ws : List Word) (negated : Bool) → bytes_eq w.text (codes "not") ≡ negated → r.left ≡ w ∷ ws
      → OnValue (ConditionRead column last) (condition_behind (cond {A = Bool × Row} negated (true, record r { left = ws }) (false, r)).0 (cond {A = Bool × Row} negated (true, record r { left = ws }) (false, r)).1)
  chosen w ws true e left = behind_read true column last (record r { left = ws }) (not_word column last r w ws e row left)
  chosen w ws false e left = behind_read false column last r (no_negation column last r row)

  by_words : (words : List Word) → r.left ≡ words → OnValue (ConditionRead column last) (condition_behind (negation_in words r).0 (negation_in words r).1)
  by_words [] left = behind_read false column last r (no_negation column last r row)
  by_words (w ∷ ws) left = chosen w ws (bytes_eq w.text (codes "not")) refl left
