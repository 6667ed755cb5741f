-- A media query list in a line, and its fault.
use Rattle.std.proofs.Common.{◌≡◌, ℕ, ◌+◌, ◌-◌, ◌≤◌, List, [], ◌∷◌, length, drop, Result, Ok, Err, ap, arith}
use Rattle.script_model.specs.Readers.{with_fault}
use Rattle.script_model.specs.Lexing.{Word, Row}
use Rattle.script_model.specs.Media.{query_list, queries_at}
use Rattle.script_model.specs.Queries.{MediaQuery}
use Rattle.script_model.specs.Forms.{next_in, next_of, query_from, query_as, part_as, QueryForm}
use Rattle.script_syntax.specs.Lines.{rest_in, rest_of}

within : (answer : Result (List MediaQuery) ℕ) (size column : ℕ) → with_fault (λ left. size + 1 - left) answer ≡ Err column → column ≤ size + 1
within (Ok queries) size column e = cc
within (Err left) size column e = let f : size + 1 - left ≡ column = cc in omega arith

-- the column is at most one past the text's end
pub column_within : (text : List ℕ) (column : ℕ) → query_list text ≡ Err column → column ≤ length text + 1
unfolding query_list
column_within text column e = within (queries_at text) (length text) column e

abbrev ok_value : {A : Type 0} → A → Result A ℕ → A
ok_value other (Ok value) = value
ok_value other (Err column) = other

abbrev err_value : {A : Type 0} → ℕ → Result A ℕ → ℕ
err_value other (Ok value) = other
err_value other (Err column) = column

abbrev Rest : Type 0
Rest = ℕ × List ℕ × Row

abbrev row_of : List Word → ℕ → List ℕ → Row
row_of words after bytes = record { left = words; after = after; bytes = bytes }

ok_in : (words : List Word) (after : ℕ) (bytes : List ℕ) (column : ℕ) (text : List ℕ) (rest : Row) (queries : List MediaQuery)
    → rest_in words (row_of words after bytes) ≡ Ok (column, text, rest) → query_list text ≡ Ok queries
    → part_as QueryForm (row_of words after bytes) ≡ Ok (queries, rest)
unfolding part_as query_as next_of next_in query_from
ok_in [] after bytes column text rest queries e q = cc
ok_in (w ∷ ws) after bytes column text rest queries e q =
    let t : drop (w.column - 1) bytes ≡ text = ap (λ (r : Result Rest ℕ). (ok_value (column, text, rest) r).1) e in
    let r : row_of [] after bytes ≡ rest = ap (λ (r : Result Rest ℕ). (ok_value (column, text, rest) r).2) e in
    rw (t, q) (ap (λ (left : Row). Ok (queries, left)) r)

err_in : (words : List Word) (after : ℕ) (bytes : List ℕ) (column : ℕ) (text : List ℕ) (rest : Row) (at : ℕ)
    → rest_in words (row_of words after bytes) ≡ Ok (column, text, rest) → query_list text ≡ Err at
    → part_as QueryForm (row_of words after bytes) ≡ Err (column + (at - 1))
unfolding part_as query_as next_of next_in query_from
err_in [] after bytes column text rest at e q = cc
err_in (w ∷ ws) after bytes column text rest at e q =
    let t : drop (w.column - 1) bytes ≡ text = ap (λ (r : Result Rest ℕ). (ok_value (column, text, rest) r).1) e in
    let c : w.column ≡ column = ap (λ (r : Result Rest ℕ). (ok_value (column, text, rest) r).0) e in
    rw (t, q) (ap (λ (n : ℕ). Err (n + (at - 1))) c)

missing_in : (words : List Word) (after : ℕ) (bytes : List ℕ) (column : ℕ)
    → rest_in words (row_of words after bytes) ≡ Err column → part_as QueryForm (row_of words after bytes) ≡ Err column
unfolding part_as query_as next_of next_in
missing_in [] after bytes column e = ap (λ (n : ℕ). Err n) (ap (λ (r : Result Rest ℕ). err_value column r) e)
missing_in (w ∷ ws) after bytes column e = cc

pub query_ok : (row : Row) (column : ℕ) (text : List ℕ) (rest : Row) (queries : List MediaQuery)
    → rest_of row ≡ Ok (column, text, rest) → query_list text ≡ Ok queries → part_as QueryForm row ≡ Ok (queries, rest)
query_ok row column text rest queries e q = ok_in row.left row.after row.bytes column text rest queries e q

pub query_err : (row : Row) (column : ℕ) (text : List ℕ) (rest : Row) (at : ℕ)
    → rest_of row ≡ Ok (column, text, rest) → query_list text ≡ Err at → part_as QueryForm row ≡ Err (column + (at - 1))
query_err row column text rest at e q = err_in row.left row.after row.bytes column text rest at e q

pub query_missing : (row : Row) (column : ℕ) → rest_of row ≡ Err column → part_as QueryForm row ≡ Err column
query_missing row column e = missing_in row.left row.after row.bytes column e
