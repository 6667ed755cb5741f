-- A line and its line feed are read as the line's words.
use Rattle.std.proofs.Common.{◌≡◌, ◌∙◌, refl, ap, ℕ, ◌+◌, ◌-◌, ◌≤◌, Bool, true, false, List, [], ◌∷◌, ◌++◌, length, arith, subst}
use Rattle.std.specs.Prelude.{cond, reverse, take, ◌==◌}
use Rattle.std.proofs.lemmas.Bool.{eqb-true}
use Rattle.word_model.specs.Numbers.{begins_with}
use Rattle.std.specs.List.{list_all}
use Rattle.std.proofs.lemmas.List.{append-nil, reverse-reverse, reverse-append, take-append-le}
use Rattle.script_model.specs.Lexing.{Word, Scan, Lexed, line_start, word_closed, close_word, passed, space, line_before, add_line, lex_on}
use Rattle.script_model.specs.Lines.{is_word_byte, is_line_byte, joined, runs_from, before_comment, words_of, after_words, row_of, line_with}
use Rattle.script_model.proofs.LineScan.{over, over_goes, passed_over, fed, returned}
use Rattle.script_model.proofs.LineWords.{Adds, words_over}

line_made : (words : List Word) (line : List ℕ) (number : ℕ) (t : Scan) (lexed : Lexed) →
    t.number ≡ number → t.after ≡ after_words 1 words → take (t.after - 1) (reverse t.bytes) ≡ take (after_words 1 words - 1) line → line_before words t lexed ≡ line_with words number line lexed
unfolding line_before line_with row_of
line_made [] line number t lexed number_is after_is bytes_are = refl
line_made (w ∷ ws) line number t lexed number_is after_is bytes_are =
    let made : ℕ → ℕ → List ℕ → Lexed = λ n a b. record lexed { lines = record { number = n; row = record { left = w ∷ ws; after = a; bytes = b } } ∷ lexed.lines } in
    ap (λ (n : ℕ). made n t.after (take (t.after - 1) (reverse t.bytes))) number_is
    ∙ ap (λ (a : ℕ). made number a (take (t.after - 1) (reverse t.bytes))) after_is
    ∙ ap (λ (b : List ℕ). made number (after_words 1 (w ∷ ws)) b) bytes_are

space_number : (s : Scan) → (space 13 s).number ≡ (close_word s).number
unfolding space passed
space_number s = refl

adds_of : (line : List ℕ) (number : ℕ) → Adds line number [] [] 1 (words_of line) (close_word (over line (line_start number)))
unfolding line_start words_of
adds_of line number = words_over line number 1 1 [] [] [] refl refl (omega arith)

pub line_is_read : (number : ℕ) (line rest : List ℕ) → list_all is_line_byte line ≡ true → length line ≤ 4096 →
    lex_on (line_start number) (line ++ (10 ∷ rest)) ≡ line_with (words_of line) number line (lex_on (line_start (number + 1)) rest)
unfolding add_line line_start
line_is_read number line rest all short =
    let u : Scan = over line (line_start number) in
    let t : Scan = close_word u in
    let adds = adds_of line number in
    let goes = over_goes line (line_start number) in
    passed_over line (10 ∷ rest) (line_start number) all (omega arith)
    ∙ fed u rest
    ∙ ap (λ (n : ℕ). line_before t.words t (lex_on (line_start (n + 1)) rest)) goes.number
    ∙ ap (λ (ws : List Word). line_before ws t (lex_on (line_start (number + 1)) rest)) adds.words_are
    ∙ line_made (words_of line) line number t _ adds.number_is adds.after_is
    (ap (λ (a : ℕ). take (a - 1) (reverse t.bytes)) adds.after_is
    ∙ ap (take (after_words 1 (words_of line) - 1)) (ap reverse (adds.bytes_are ∙ append-nil (reverse line)) ∙ reverse-reverse line))

-- ---- the end of the last word

EndsBy : ℕ → List Word → Type 0
EndsBy column [] = Unit
EndsBy column (w ∷ ws) = (w.column + length w.text ≤ column) × EndsBy column ws

joined_ends : (last column byte : ℕ) (words : List Word) → column + 1 ≤ last → EndsBy last words → EndsBy last (joined column byte words)
unfolding joined EndsBy
joined_ends last column byte [] h ends = (omega arith, tt)
joined_ends last column byte (w ∷ ws) h ends = chosen (w.column == column + 1) refl where
  chosen : (next : Bool) → (w.column == column + 1) ≡ next → EndsBy last (cond next (record { column = column; text = byte ∷ w.text } ∷ ws) (record { column = column; text = byte ∷ [] } ∷ w ∷ ws))
  chosen true e = let near : w.column ≡ column + 1 = eqb-true w.column (column + 1) e in (omega (arith, ends.0), ends.1)
  chosen false e = (omega arith, ends)

runs_end : (column : ℕ) (bytes : List ℕ) → EndsBy (column + length bytes) (runs_from column bytes)
unfolding runs_from EndsBy
runs_end column [] = tt
runs_end column (b ∷ bs) = chosen (subst (λ (c : ℕ). EndsBy c (runs_from (column + 1) bs)) (omega arith) (runs_end (column + 1) bs)) (is_word_byte b) where
  chosen : EndsBy (column + length (b ∷ bs)) (runs_from (column + 1) bs) → (word : Bool) → EndsBy (column + length (b ∷ bs)) (cond word (joined column b (runs_from (column + 1) bs)) (runs_from (column + 1) bs))
  chosen behind true = joined_ends _ column b _ (omega arith) behind
  chosen behind false = behind

comment_ends : (last : ℕ) (words : List Word) → EndsBy last words → EndsBy last (before_comment words)
unfolding before_comment EndsBy
comment_ends last [] ends = tt
comment_ends last (w ∷ ws) ends = chosen (comment_ends last ws ends.1) (begins_with 35 w.text) where
  chosen : EndsBy last (before_comment ws) → (comment : Bool) → EndsBy last (cond comment [] (w ∷ before_comment ws))
  chosen behind true = tt
  chosen behind false = (ends.0, behind)

after_ends : (last column : ℕ) (words : List Word) → column ≤ last → EndsBy last words → after_words column words ≤ last
unfolding after_words EndsBy
after_ends last column [] h ends = h
after_ends last column (w ∷ ws) h ends = after_ends last (w.column + length w.text) ws ends.0 ends.1

pub words_end : (line : List ℕ) → after_words 1 (words_of line) ≤ 1 + length line
unfolding words_of
words_end line = after_ends (1 + length line) 1 (words_of line) (omega arith) (comment_ends _ _ (runs_end 1 line))

-- ---- a carriage return before the line feed

no_open_word : (begun : List ℕ) (s : Scan) → s.open_word ≡ begun → (word_closed begun s).open_word ≡ []
unfolding word_closed
no_open_word [] s e = e
no_open_word (x ∷ xs) s e = refl

closed_again : (byte : ℕ) (s : Scan) → close_word (space byte s) ≡ passed byte (close_word s)
unfolding space close_word passed word_closed
closed_again byte s = ap (λ (begun : List ℕ). word_closed begun (passed byte (close_word s))) (no_open_word s.open_word s refl)

pub line_is_read_returned : (number : ℕ) (line rest : List ℕ) → list_all is_line_byte line ≡ true → length line ≤ 4095 →
    lex_on (line_start number) (line ++ (13 ∷ 10 ∷ rest)) ≡ line_with (words_of line) number line (lex_on (line_start (number + 1)) rest)
unfolding add_line line_start passed
line_is_read_returned number line rest all short =
    let u : Scan = over line (line_start number) in
    let t : Scan = passed 13 (close_word u) in
    let adds = adds_of line number in
    let goes = over_goes line (line_start number) in
    let last = words_end line in
    let again = closed_again 13 u in
    passed_over line (13 ∷ 10 ∷ rest) (line_start number) all (omega arith)
    ∙ returned u rest (omega (arith, goes.column))
    ∙ fed (space 13 u) rest
    ∙ ap (λ (n : ℕ). add_line (close_word (space 13 u)) (lex_on (line_start (n + 1)) rest)) (space_number u ∙ adds.number_is)
    ∙ ap (λ (v : Scan). add_line v (lex_on (line_start (number + 1)) rest)) again
    ∙ ap (λ (ws : List Word). line_before ws t (lex_on (line_start (number + 1)) rest)) adds.words_are
    ∙ line_made (words_of line) line number t _ adds.number_is adds.after_is
    (ap (λ (a : ℕ). take (a - 1) (reverse t.bytes)) adds.after_is
    ∙ ap (take (after_words 1 (words_of line) - 1)) (reverse-append (13 ∷ []) (close_word u).bytes ∙ ap (λ (x : List ℕ). x ++ (13 ∷ [])) (ap reverse (adds.bytes_are ∙ append-nil (reverse line)) ∙ reverse-reverse line))
    ∙ take-append-le (after_words 1 (words_of line) - 1) line (13 ∷ []) (omega arith))
