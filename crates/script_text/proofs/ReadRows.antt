-- The words of a line stand one behind the other, each with room for itself and a byte behind it.
use Rattle.std.proofs.Common.{◌≡◌, ℕ, ◌+◌, ◌-◌, ◌<◌, ◌≤◌, Bool, true, false, cond, ◌==◌, List, [], ◌∷◌, ◌++◌, length, take, Some, None, refl, arith, subst, length-take, length-append}
use Rattle.std.specs.Prelude.{Option, Ok}
use Rattle.std.specs.List.{list_all, join_with_byte}
use Rattle.std.proofs.lemmas.Bool.{and_from, eqb-true, eqb-false}
use Rattle.word_model.specs.Numbers.{begins_with}
use Rattle.script_model.specs.Readers.{◌>>=◌, or_fault}
use Rattle.script_model.specs.Lexing.{Word, Row}
use Rattle.script_model.specs.Lines.{is_word_byte}
use Rattle.script_model.specs.Forms.{next_in, next_of, word_as}
use Rattle.media_queries.proofs.Readings.{OnValue}
use Rattle.script_text.specs.WellFormed.{IfSome}
use Rattle.script_text.proofs.WordBytes.{IsWord}
use Rattle.script_model.specs.Lines.{joined, runs_from, before_comment, words_of, after_words, row_of}
use Rattle.script_text.specs.ScriptText.{line_text}

-- Room.

-- how much room words take, with one byte behind each
unfoldable pub room : List (List ℕ) → ℕ
room [] = 0
room (t ∷ ts) = length t + 1 + room ts

pub room_append : (ts us : List (List ℕ)) → room (ts ++ us) ≡ room ts + room us
unfolding room
room_append [] us = omega arith
room_append (t ∷ ts) us = let e = room_append ts us in omega arith

-- words that stand one behind the other from this column on, a byte between each two, and end before this one
unfoldable pub StandFrom : ℕ → ℕ → List Word → Type 0
StandFrom column last [] = column ≤ last + 1
StandFrom column last (w ∷ ws) = (column ≤ w.column) × IsWord w.text × StandFrom (w.column + length w.text + 1) last ws

pub from_earlier : (first column last : ℕ) (words : List Word) → first ≤ column → StandFrom column last words → StandFrom first last words
unfolding StandFrom
from_earlier first column last [] h stand = omega arith
from_earlier first column last (w ∷ ws) h stand = (omega (arith, stand.0), stand.1, stand.2)

pub some_room : (column last : ℕ) (words : List Word) → StandFrom column last words → column ≤ last + 1
unfolding StandFrom
some_room column last [] stand = stand
some_room column last (w ∷ ws) stand = let h = some_room (w.column + length w.text + 1) last ws stand.2 in omega (arith, stand.0)

-- a line's words so, and its bytes before the same column
pub record IsRow (column last : ℕ) (r : Row) : Type 0 where
  pub words : StandFrom column last r.left
  pub bytes : length r.bytes + 1 ≤ last

pub row_earlier : (first column last : ℕ) (r : Row) → first ≤ column → IsRow column last r → IsRow first last r
row_earlier first column last r h row = record { words = from_earlier first column last r.left h row.words; bytes = row.bytes }

-- One word.

found_on : {A : Type 0} (P : A × Row → Type 0) (fault : ℕ) (rest : Row) (found : Option A) → IfSome (λ value. P (value, rest)) found → OnValue P (or_fault fault found >>= λ value. Ok (value, rest))
found_on P fault rest None h = tt
found_on P fault rest (Some value) h = h

-- the next word of a row, if it has one, is read so
pub word_on : {A : Type 0} (of : List ℕ → Option A) (P : A × Row → Type 0) (r : Row) → ((w : Word) (ws : List Word) → r.left ≡ w ∷ ws → IfSome (λ value. P (value, record r { left = ws })) (of w.text))
    → OnValue P (word_as of r)
unfolding word_as next_of next_in
word_on {A} of P r h = by_words r.left h where
  by_words : (words : List Word) → ((w : Word) (ws : List Word) → words ≡ w ∷ ws → IfSome (λ value. P (value, record r { left = ws })) (of w.text))
      → OnValue P (next_in words r >>= λ next. or_fault next.0.column (of next.0.text) >>= λ value. Ok (value, next.1))
  by_words [] g = tt
  by_words (w ∷ ws) g = found_on P w.column (record r { left = ws }) (of w.text) (g w ws refl)

next_stands : (column last : ℕ) (r : Row) (w : Word) (ws : List Word) → IsRow column last r → r.left ≡ w ∷ ws → StandFrom column last (w ∷ ws)
next_stands column last r w ws row e = subst (StandFrom column last) e row.words

pub row_behind : (column last : ℕ) (r : Row) (w : Word) (ws : List Word) (long : ℕ) → long ≤ length w.text → IsRow column last r → r.left ≡ w ∷ ws → IsRow (column + (long + 1)) last (record r { left = ws })
unfolding StandFrom
row_behind column last r w ws long short row e =
    let stand = next_stands column last r w ws row e in
    record { words = from_earlier (column + (long + 1)) (w.column + length w.text + 1) last ws (omega (arith, stand.0)) stand.2; bytes = row.bytes }

-- The row of a line.

-- runs of bytes of words, so standing
StandAsRuns : ℕ → ℕ → List Word → Type 0
StandAsRuns column last [] = column ≤ last + 1
StandAsRuns column last (w ∷ ws) = (column ≤ w.column) × (0 < length w.text) × (list_all is_word_byte w.text ≡ true) × StandAsRuns (w.column + length w.text + 1) last ws

runs_earlier : (column last : ℕ) (words : List Word) → StandAsRuns (column + 1) last words → StandAsRuns column last words
unfolding StandAsRuns
runs_earlier column last [] runs = omega (arith, runs)
runs_earlier column last (w ∷ ws) runs = (omega (arith, runs.0), runs.1, runs.2, runs.3)

joined_runs : (column last b : ℕ) (words : List Word) → is_word_byte b ≡ true → column + 1 ≤ last → StandAsRuns (column + 1) last words → StandAsRuns column last (joined column b words)
unfolding StandAsRuns joined
joined_runs column last b [] word within runs = (omega arith, omega arith, and_from _ _ word refl, omega arith)
joined_runs column last b (w ∷ ws) word within runs = chosen (w.column == column + 1) refl where
  chosen : (next : Bool) → (w.column == column + 1) ≡ next
      → StandAsRuns column last (cond next (record { column = column; text = b ∷ w.text } ∷ ws) (record { column = column; text = b ∷ [] } ∷ w ∷ ws))
  chosen true e =
      let near : w.column ≡ column + 1 = eqb-true w.column (column + 1) e in
      (omega arith, omega arith, and_from _ _ word runs.2, subst (λ (n : ℕ). StandAsRuns n last ws) (omega arith) runs.3)
  chosen false e =
      let far = eqb-false w.column (column + 1) e in
      (omega arith, omega arith, and_from _ _ word refl, (omega (arith, runs.0, far), runs.1, runs.2, runs.3))

runs_stand : (column : ℕ) (bytes : List ℕ) → StandAsRuns column (column + length bytes) (runs_from column bytes)
unfolding StandAsRuns runs_from
runs_stand column [] = omega arith
runs_stand column (b ∷ bs) =
    chosen (is_word_byte b) refl (subst (λ (n : ℕ). StandAsRuns (column + 1) n (runs_from (column + 1) bs)) (omega arith) (runs_stand (column + 1) bs)) where
      chosen : (word : Bool) → is_word_byte b ≡ word → StandAsRuns (column + 1) (column + length (b ∷ bs)) (runs_from (column + 1) bs)
          → StandAsRuns column (column + length (b ∷ bs)) (cond word (joined column b (runs_from (column + 1) bs)) (runs_from (column + 1) bs))
      chosen true e behind = joined_runs column (column + length (b ∷ bs)) b (runs_from (column + 1) bs) e (omega arith) behind
      chosen false e behind = runs_earlier column (column + length (b ∷ bs)) (runs_from (column + 1) bs) behind

run_word : (text : List ℕ) → 0 < length text → list_all is_word_byte text ≡ true → begins_with 35 text ≡ false → IsWord text
unfolding begins_with
run_word [] some all no_comment = absurd (omega arith)
run_word (b ∷ bs) some all no_comment = record { first = b; others = bs; text_is = refl; bytes = all; no_comment = no_comment }

-- words up to a comment, by the column after the one before them
record StandBehind (column last : ℕ) (words : List Word) : Type 0 where
  stand : StandFrom (column + 1) (after_words column words) words
  ends : after_words column words ≤ last

runs_room : (column last : ℕ) (words : List Word) → StandAsRuns column last words → column ≤ last + 1
unfolding StandAsRuns
runs_room column last [] runs = runs
runs_room column last (w ∷ ws) runs = let h = runs_room (w.column + length w.text + 1) last ws runs.3 in omega (arith, runs.0)

uncommented : (column last : ℕ) (words : List Word) → column ≤ last → StandAsRuns (column + 1) last words → StandBehind column last (before_comment words)
unfolding StandAsRuns StandFrom before_comment after_words
uncommented column last [] h runs = record { stand = omega arith; ends = h }
uncommented column last (w ∷ ws) h runs =
    chosen (begins_with 35 w.text) refl (uncommented (w.column + length w.text) last ws (let long = runs_room (w.column + length w.text + 1) last ws runs.3 in omega arith) runs.3) where
      chosen : (comment : Bool) → begins_with 35 w.text ≡ comment → StandBehind (w.column + length w.text) last (before_comment ws) → StandBehind column last (cond comment [] (w ∷ before_comment ws))
      chosen true e behind = record { stand = omega arith; ends = h }
      chosen false e behind = record { stand = (runs.0, run_word w.text runs.1 runs.2 e, behind.stand); ends = behind.ends }

-- a line's row, and where it ends
pub record LineRow (line : List ℕ) : Type 0 where
  pub row : IsRow 1 (after_words 1 (words_of line)) (row_of (words_of line) line)
  pub ends : after_words 1 (words_of line) ≤ 1 + length line

line_words : (line : List ℕ) → StandBehind 0 (1 + length line) (words_of line)
unfolding words_of
line_words line = uncommented 0 (1 + length line) (runs_from 1 line) (omega arith) (runs_stand 1 line)

-- bytes before a column are fewer
few_bytes : (after : ℕ) (line : List ℕ) → 0 < after → length (take (after - 1) line) + 1 ≤ after
few_bytes after line some = let e = length-take (after - 1) line in omega arith

row_stands : (line : List ℕ) (words : List Word) → StandBehind 0 (1 + length line) words → IsRow 1 (after_words 1 words) (row_of words line) × (after_words 1 words ≤ 1 + length line)
unfolding row_of StandFrom after_words
row_stands line [] stands = (record { words = omega arith; bytes = few_bytes 1 line (omega arith) }, omega arith)
row_stands line (w ∷ ws) stands =
    let stand = stands.stand in
    let after : ℕ = after_words (w.column + length w.text) ws in
    let long = some_room (w.column + length w.text + 1) after ws stand.2 in
    (record { words = stand; bytes = few_bytes after line (omega (arith, stand.0)) }, stands.ends)

pub line_row : (line : List ℕ) → LineRow line
line_row line = let stands = row_stands line (words_of line) (line_words line) in record { row = stands.0; ends = stands.1 }

-- The printed line.

joined_long : (t : List ℕ) (ts : List (List ℕ)) → length (join_with_byte 32 (t ∷ ts)) + 1 ≡ room (t ∷ ts)
unfolding room
joined_long t [] = omega arith
joined_long t (u ∷ us) = let e = length-append t (32 ∷ join_with_byte 32 (u ∷ us)) in let f = joined_long u us in omega arith

-- words with room for each and a byte behind it make a line that is shorter
pub line_short : (words : List (List ℕ)) (last : ℕ) → room words ≤ last → length (line_text words) ≤ last - 1
unfolding line_text room
line_short [] last fits = omega arith
line_short (t ∷ ts) last fits = let e = joined_long t ts in omega arith
