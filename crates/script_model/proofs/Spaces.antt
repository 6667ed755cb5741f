-- What indentation and comments change in a line's words.
use Rattle.std.proofs.Common.{◌≡◌, ◌∙◌, refl, ap, ℕ, ◌+◌, ◌≤◌, Bool, true, false, List, [], ◌∷◌, ◌++◌, length, arith}
use Rattle.std.specs.Prelude.{cond, map, ◌==◌}
use Rattle.std.specs.List.{list_all}
use Rattle.std.proofs.lemmas.Bool.{and_parts}
use Rattle.std.proofs.lemmas.Bool.Decides.{nat_tests}
use Rattle.word_model.specs.Numbers.{begins_with}
use Rattle.script_model.specs.Lexing.{Word}
use Rattle.script_model.specs.Media.{is_blank}
use Rattle.script_model.specs.Lines.{is_word_byte, joined, runs_from, before_comment, words_of}
use Rattle.script_model.specs.Shifts.{moved}
use Rattle.script_model.proofs.Runs.{StartsFrom, runs_start, apart, skips, joins, comment_joined}

joined_moved : (columns column byte : ℕ) (words : List Word) → joined (column + columns) byte (map (moved columns) words) ≡ map (moved columns) (joined column byte words)
unfolding joined
joined_moved columns column byte [] = refl
joined_moved columns column byte (w ∷ ws) =
    ap (λ (next : Bool). cond next (record { column = column + columns; text = byte ∷ w.text } ∷ map (moved columns) ws) (record { column = column + columns; text = byte ∷ [] } ∷ moved columns w ∷ map (moved columns) ws)) same
    ∙ chosen (w.column == column + 1) where
      same : (w.column + columns == column + columns + 1) ≡ (w.column == column + 1)
      same = grind (arith, nat_tests)

      chosen : (next : Bool) → cond next (record { column = column + columns; text = byte ∷ w.text } ∷ map (moved columns) ws) (record { column = column + columns; text = byte ∷ [] } ∷ moved columns w ∷ map (moved columns) ws) ≡ map (moved columns) (cond next (record { column = column; text = byte ∷ w.text } ∷ ws) (record { column = column; text = byte ∷ [] } ∷ w ∷ ws))
      chosen true = refl
      chosen false = refl

runs_moved : (columns column : ℕ) (bytes : List ℕ) → runs_from (column + columns) bytes ≡ map (moved columns) (runs_from column bytes)
unfolding runs_from
runs_moved columns column [] = refl
runs_moved columns column (b ∷ bs) = chosen (ap (λ (c : ℕ). runs_from c bs) (omega arith) ∙ runs_moved columns (column + 1) bs) (is_word_byte b) where
  chosen : runs_from (column + columns + 1) bs ≡ map (moved columns) (runs_from (column + 1) bs) → (word : Bool) →
      cond word (joined (column + columns) b (runs_from (column + columns + 1) bs)) (runs_from (column + columns + 1) bs) ≡ map (moved columns) (cond word (joined column b (runs_from (column + 1) bs)) (runs_from (column + 1) bs))
  chosen behind true = ap (joined (column + columns) b) behind ∙ joined_moved columns column b _
  chosen behind false = behind

comment_moved : (columns : ℕ) (words : List Word) → before_comment (map (moved columns) words) ≡ map (moved columns) (before_comment words)
unfolding before_comment
comment_moved columns [] = refl
comment_moved columns (w ∷ ws) = chosen (comment_moved columns ws) (begins_with 35 w.text) where
  chosen : before_comment (map (moved columns) ws) ≡ map (moved columns) (before_comment ws) → (comment : Bool) →
      cond comment [] (moved columns w ∷ before_comment (map (moved columns) ws)) ≡ map (moved columns) (cond comment [] (w ∷ before_comment ws))
  chosen behind true = refl
  chosen behind false = ap (λ (x : List Word). moved columns w ∷ x) behind

no_word_byte : (b : ℕ) → is_blank b ≡ true → is_word_byte b ≡ false
no_word_byte b h = grind (arith, nat_tests)

skipped : (column : ℕ) (blanks line : List ℕ) → list_all is_blank blanks ≡ true → runs_from column (blanks ++ line) ≡ runs_from (column + length blanks) line
skipped column [] line h = ap (λ (c : ℕ). runs_from c line) (omega arith)
skipped column (b ∷ bs) line h =
    skips column b (bs ++ line) (no_word_byte b (and_parts _ _ h).0)
    ∙ skipped (column + 1) bs line (and_parts _ _ h).1
    ∙ ap (λ (c : ℕ). runs_from c line) (omega arith)

pub indented : (blanks line : List ℕ) → list_all is_blank blanks ≡ true → words_of (blanks ++ line) ≡ map (moved (length blanks)) (words_of line)
unfolding words_of
indented blanks line h = ap before_comment (skipped 1 blanks line h ∙ runs_moved (length blanks) 1 line) ∙ comment_moved (length blanks) (runs_from 1 line)

-- ---- a comment

joined_before : (column byte : ℕ) (words more : List Word) → StartsFrom (column + 1 + 1) more → joined column byte (words ++ more) ≡ joined column byte words ++ more
unfolding joined
joined_before column byte [] more h = apart column byte more h
joined_before column byte (w ∷ ws) more h = chosen (w.column == column + 1) where
  chosen : (next : Bool) → cond next (record { column = column; text = byte ∷ w.text } ∷ (ws ++ more)) (record { column = column; text = byte ∷ [] } ∷ w ∷ (ws ++ more)) ≡ cond next (record { column = column; text = byte ∷ w.text } ∷ ws) (record { column = column; text = byte ∷ [] } ∷ w ∷ ws) ++ more
  chosen true = refl
  chosen false = refl

later : (near far : ℕ) (words : List Word) → near ≤ far → StartsFrom far words → StartsFrom near words
later near far [] h starts = tt
later near far (w ∷ ws) h starts = omega arith

parted : (column : ℕ) (line more : List ℕ) → runs_from column (line ++ (32 ∷ more)) ≡ runs_from column line ++ runs_from (column + length line + 1) more
unfolding runs_from
parted column [] more = ap (λ (c : ℕ). runs_from c more) (omega arith)
parted column (b ∷ bs) more =
    chosen (parted (column + 1) bs more ∙ ap (λ (c : ℕ). runs_from (column + 1) bs ++ runs_from c more) (omega arith)) (is_word_byte b) where
      chosen : runs_from (column + 1) (bs ++ (32 ∷ more)) ≡ runs_from (column + 1) bs ++ runs_from (column + length (b ∷ bs) + 1) more → (word : Bool) →
          cond word (joined column b (runs_from (column + 1) (bs ++ (32 ∷ more)))) (runs_from (column + 1) (bs ++ (32 ∷ more))) ≡ cond word (joined column b (runs_from (column + 1) bs)) (runs_from (column + 1) bs) ++ runs_from (column + length (b ∷ bs) + 1) more
      chosen behind true =
          ap (joined column b) behind ∙ joined_before column b (runs_from (column + 1) bs) _ (later (column + 1 + 1) (column + length (b ∷ bs) + 1) _ (omega arith) (runs_start (column + length (b ∷ bs) + 1) more))
      chosen behind false = behind

ended : (words more : List Word) → before_comment more ≡ [] → before_comment (words ++ more) ≡ before_comment words
unfolding before_comment
ended [] more h = h
ended (w ∷ ws) more h = chosen (ended ws more h) (begins_with 35 w.text) where
  chosen : before_comment (ws ++ more) ≡ before_comment ws → (comment : Bool) → cond comment [] (w ∷ before_comment (ws ++ more)) ≡ cond comment [] (w ∷ before_comment ws)
  chosen behind true = refl
  chosen behind false = ap (λ (x : List Word). w ∷ x) behind

pub commented : (line comment : List ℕ) → words_of (line ++ (32 ∷ 35 ∷ comment)) ≡ words_of line
unfolding words_of
commented line comment =
    ap before_comment (parted 1 line (35 ∷ comment))
    ∙ ended (runs_from 1 line) _ (ap before_comment (joins (1 + length line + 1) 35 comment refl) ∙ comment_joined (1 + length line + 1) _)
