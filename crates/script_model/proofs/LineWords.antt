-- The words that the scan of a line closes are the line's.
use Rattle.std.proofs.Common.{◌≡◌, ◌∙◌, refl, sym, ap, ℕ, ◌+◌, ◌-◌, ◌<◌, Bool, true, false, List, [], ◌∷◌, ◌++◌, length, arith}
use Rattle.std.specs.Prelude.{cond, ◌&&◌, ◌==◌, reverse}
use Rattle.std.specs.List.{list_all}
use Rattle.std.proofs.lemmas.Bool.{and_from, eqb-true}
use Rattle.std.proofs.lemmas.List.{append-nil, append_assoc, reverse-append, length-reverse}
use Rattle.std.proofs.lemmas.List.Folds.{list_all-append}
use Rattle.word_model.specs.Numbers.{begins_with}
use Rattle.script_model.specs.Readers.{is_empty}
use Rattle.script_model.specs.Lexing.{Word, Scan, word_closed, close_word, passed, space, word_byte_in, word_byte}
use Rattle.script_model.specs.Lines.{is_word_byte, joined, runs_from, before_comment, after_words}
use Rattle.script_model.proofs.LineScan.{one, over}
use Rattle.script_model.proofs.Runs.{Stops, skips, joins, run, comment_joined}

-- a scan of a line that isn't in a comment, with these closed words and this open one
abbrev scan : ℕ → ℕ → List ℕ → List Word → ℕ → List ℕ → Bool → Scan
scan number column bytes words after open_word in_comment = record {
  number = number;
  column = column;
  bytes = bytes;
  words = words;
  after = after;
  open_word = open_word;
  in_comment = in_comment;
}

-- what the bytes of a line add to closed words
pub record Adds (line : List ℕ) (number : ℕ) (bytes : List ℕ) (words : List Word) (after : ℕ) (more : List Word) (t : Scan) : Type 0 where
  pub number_is : t.number ≡ number
  pub bytes_are : t.bytes ≡ reverse line ++ bytes
  pub words_are : t.words ≡ words ++ more
  pub after_is : t.after ≡ after_words after more

reverse_on : (b : ℕ) (bs more : List ℕ) → reverse bs ++ (b ∷ more) ≡ reverse (b ∷ bs) ++ more
reverse_on b bs more = sym (append_assoc (reverse bs) (b ∷ []) more) ∙ ap (λ (x : List ℕ). x ++ more) (sym (reverse-append (b ∷ []) bs))

-- in a comment
comment_step : (is_word : Bool) (b number column after : ℕ) (bytes : List ℕ) (words : List Word) →
    cond is_word (word_byte b (scan number column bytes words after [] true)) (space b (scan number column bytes words after [] true)) ≡ scan number (column + 1) (b ∷ bytes) words after [] true
unfolding word_byte word_byte_in space close_word word_closed passed
comment_step true b number column after bytes words = refl
comment_step false b number column after bytes words = refl

comment_over : (line : List ℕ) (number column after : ℕ) (bytes : List ℕ) (words : List Word) →
    close_word (over line (scan number column bytes words after [] true)) ≡ scan number (column + length line) (reverse line ++ bytes) words after [] true
unfolding over one close_word word_closed
comment_over [] number column after bytes words = ap (λ (c : ℕ). scan number c bytes words after [] true) (omega arith)
comment_over (b ∷ bs) number column after bytes words =
    ap (λ (t : Scan). close_word (over bs t)) (comment_step (is_word_byte b) b number column after bytes words)
    ∙ comment_over bs number (column + 1) after (b ∷ bytes) words
    ∙ ap (λ (c : ℕ). scan number c (reverse bs ++ (b ∷ bytes)) words after [] true) (omega arith)
    ∙ ap (λ (x : List ℕ). scan number (column + length (b ∷ bs)) x words after [] true) (reverse_on b bs bytes)

-- ---- outside a comment

abbrev Words : List ℕ → ℕ → ℕ → ℕ → List ℕ → List Word → List ℕ → Type 0
Words line number column after bytes words begun =
    Adds line number bytes words after (before_comment (runs_from (column - length begun) (reverse begun ++ line))) (close_word (over line (scan number column bytes words after begun false)))

carried : (b : ℕ) (bs : List ℕ) (number after nearer : ℕ) (bytes : List ℕ) (words closed more fewer : List Word) (s t : Scan) →
    Adds bs number (b ∷ bytes) closed nearer fewer (close_word (over bs s)) → s ≡ t → closed ++ fewer ≡ words ++ more → after_words nearer fewer ≡ after_words after more →
    Adds (b ∷ bs) number bytes words after more (close_word (over bs t))
carried b bs number after nearer bytes words closed more fewer s t adds same joins_up ends_up = record {
  number_is = ap (λ (u : Scan). (close_word (over bs u)).number) (sym same) ∙ adds.number_is;
  bytes_are = ap (λ (u : Scan). (close_word (over bs u)).bytes) (sym same) ∙ adds.bytes_are ∙ reverse_on b bs bytes;
  words_are = ap (λ (u : Scan). (close_word (over bs u)).words) (sym same) ∙ adds.words_are ∙ joins_up;
  after_is = ap (λ (u : Scan). (close_word (over bs u)).after) (sym same) ∙ adds.after_is ∙ ends_up;
}

-- a whole run is the first word
first_word : (column : ℕ) (r rest : List ℕ) → 0 < length r → list_all is_word_byte r ≡ true → begins_with 35 r ≡ false → Stops rest →
    before_comment (runs_from column (r ++ rest)) ≡ record { column = column; text = r } ∷ before_comment (runs_from (column + length r) rest)
unfolding before_comment
first_word column [] rest some_byte all quiet stops = absurd (omega arith)
first_word column (y ∷ ys) rest some_byte all quiet stops =
    ap before_comment (run column y ys rest all stops)
    ∙ ap (λ (comment : Bool). cond comment [] (record { column = column; text = y ∷ ys } ∷ before_comment (runs_from (column + length (y ∷ ys)) rest))) quiet

at_space : (b : ℕ) (s : Scan) → is_word_byte b ≡ false → space b s ≡ one b s
unfolding one
at_space b s e = sym (ap (λ (word : Bool). cond word (word_byte b s) (space b s)) e)

at_word : (b : ℕ) (s : Scan) → is_word_byte b ≡ true → word_byte b s ≡ one b s
unfolding one
at_word b s e = sym (ap (λ (word : Bool). cond word (word_byte b s) (space b s)) e)

-- no byte is left: the word that is being read closes
at_end : (number column after : ℕ) (bytes : List ℕ) (words : List Word) (begun : List ℕ) →
    list_all is_word_byte (reverse begun) ≡ true → begins_with 35 (reverse begun) ≡ false → length begun < column → Words [] number column after bytes words begun
unfolding over close_word word_closed runs_from before_comment after_words
at_end number column after bytes words [] all quiet room = record { number_is = refl; bytes_are = refl; words_are = sym (append-nil words); after_is = refl }
at_end number column after bytes words (x ∷ xs) all quiet room =
    let long = length-reverse (x ∷ xs) in
    let first = first_word (column - length (x ∷ xs)) (reverse (x ∷ xs)) [] (omega arith) all quiet tt in
    record {
      number_is = refl;
      bytes_are = refl;
      words_are = ap (λ (m : List Word). words ++ m) (sym first);
      after_is = (omega arith) ∙ ap (after_words after) (sym first);
    }

-- a space after no word
space_alone : (b : ℕ) (bs : List ℕ) (number column after : ℕ) (bytes : List ℕ) (words : List Word) → is_word_byte b ≡ false →
    Words bs number (column + 1) after (b ∷ bytes) words [] → Words (b ∷ bs) number column after bytes words []
unfolding over space close_word word_closed passed
space_alone b bs number column after bytes words e behind =
    let same : before_comment (runs_from (column + 1 - 0) bs) ≡ before_comment (runs_from (column - 0) (b ∷ bs)) =
    ap before_comment (ap (λ (c : ℕ). runs_from c bs) (omega arith) ∙ sym (skips (column - 0) b bs e)) in
    carried b bs number after after bytes words words _ _ _ _ behind (at_space b (scan number column bytes words after [] false) e) (ap (λ (m : List Word). words ++ m) same) (ap (after_words after) same)

-- a space after a word
space_behind : (b : ℕ) (bs : List ℕ) (number column after x : ℕ) (xs bytes : List ℕ) (words : List Word) → is_word_byte b ≡ false →
    list_all is_word_byte (reverse (x ∷ xs)) ≡ true → begins_with 35 (reverse (x ∷ xs)) ≡ false → length (x ∷ xs) < column →
    Words bs number (column + 1) column (b ∷ bytes) (words ++ (record { column = column - length (x ∷ xs); text = reverse (x ∷ xs) } ∷ [])) [] →
    Words (b ∷ bs) number column after bytes words (x ∷ xs)
unfolding over space close_word word_closed passed after_words
space_behind b bs number column after x xs bytes words e all quiet room behind =
    let long = length-reverse (x ∷ xs) in
    let r : List ℕ = reverse (x ∷ xs) in
    let k : ℕ = column - length (x ∷ xs) in
    let w : Word = record { column = k; text = r } in
    let same : before_comment (runs_from k (r ++ (b ∷ bs))) ≡ w ∷ before_comment (runs_from (column + 1 - 0) bs) =
    first_word k r (b ∷ bs) (omega arith) all quiet e ∙ ap (λ (ws : List Word). w ∷ before_comment ws) (skips (k + length r) b bs e ∙ ap (λ (c : ℕ). runs_from c bs) (omega arith)) in
    carried b bs number after column bytes words _ _ _ _ _ behind (at_space b (scan number column bytes words after (x ∷ xs) false) e)
    (append_assoc words (w ∷ []) _ ∙ ap (λ (m : List Word). words ++ m) (sym same))
    (ap (λ (c : ℕ). after_words c (before_comment (runs_from (column + 1 - 0) bs))) (omega arith) ∙ ap (after_words after) (sym same))

-- a `#` after no word begins a comment
comment_alone : (b : ℕ) (bs : List ℕ) (number column after : ℕ) (bytes : List ℕ) (words : List Word) → is_word_byte b ≡ true → (b == 35) ≡ true →
    Words (b ∷ bs) number column after bytes words []
unfolding over word_byte word_byte_in is_empty passed after_words
comment_alone b bs number column after bytes words e sharp =
    let s : Scan = scan number column bytes words after [] false in
    let begins : scan number (column + 1) (b ∷ bytes) words after [] true ≡ one b s =
    sym (ap (λ (fresh : Bool). word_byte_in false (fresh && true) b s) sharp) ∙ at_word b s e in
    let over_it = comment_over bs number (column + 1) after (b ∷ bytes) words in
    let ended : scan number (column + 1 + length bs) (reverse bs ++ (b ∷ bytes)) words after [] true ≡ close_word (over bs (one b s)) =
    sym over_it ∙ ap (λ (t : Scan). close_word (over bs t)) begins in
    let none : [] ≡ before_comment (runs_from (column - 0) (b ∷ bs)) =
    sym (ap before_comment (joins (column - 0) b bs e ∙ ap (λ (c : ℕ). joined (column - 0) c (runs_from (column - 0 + 1) bs)) (eqb-true b 35 sharp)) ∙ comment_joined (column - 0) _) in
    record {
      number_is = ap (λ (t : Scan). t.number) (sym ended);
      bytes_are = ap (λ (t : Scan). t.bytes) (sym ended) ∙ reverse_on b bs bytes;
      words_are = ap (λ (t : Scan). t.words) (sym ended) ∙ sym (append-nil words) ∙ ap (λ (m : List Word). words ++ m) none;
      after_is = ap (λ (t : Scan). t.after) (sym ended) ∙ ap (after_words after) none;
    }

-- another byte begins a word
word_alone : (b : ℕ) (bs : List ℕ) (number column after : ℕ) (bytes : List ℕ) (words : List Word) → is_word_byte b ≡ true → (b == 35) ≡ false →
    Words bs number (column + 1) after (b ∷ bytes) words (b ∷ []) → Words (b ∷ bs) number column after bytes words []
unfolding over word_byte word_byte_in is_empty passed
word_alone b bs number column after bytes words e other behind =
    let s : Scan = scan number column bytes words after [] false in
    let same : before_comment (runs_from (column + 1 - 1) (b ∷ bs)) ≡ before_comment (runs_from (column - 0) (b ∷ bs)) =
    ap (λ (c : ℕ). before_comment (runs_from c (b ∷ bs))) (omega arith) in
    carried b bs number after after bytes words words _ _ _ _ behind
    (sym (ap (λ (fresh : Bool). word_byte_in false (fresh && true) b s) other) ∙ at_word b s e)
    (ap (λ (m : List Word). words ++ m) same) (ap (after_words after) same)

never_fresh : (sharp : Bool) → (sharp && false) ≡ false
never_fresh true = refl
never_fresh false = refl

-- a byte goes on with a word
word_behind : (b : ℕ) (bs : List ℕ) (number column after x : ℕ) (xs bytes : List ℕ) (words : List Word) → is_word_byte b ≡ true →
    Words bs number (column + 1) after (b ∷ bytes) words (b ∷ x ∷ xs) → Words (b ∷ bs) number column after bytes words (x ∷ xs)
unfolding over word_byte word_byte_in is_empty passed
word_behind b bs number column after x xs bytes words e behind =
    let s : Scan = scan number column bytes words after (x ∷ xs) false in
    let same : before_comment (runs_from (column + 1 - length (b ∷ x ∷ xs)) (reverse (b ∷ x ∷ xs) ++ bs)) ≡ before_comment (runs_from (column - length (x ∷ xs)) (reverse (x ∷ xs) ++ (b ∷ bs))) =
    ap (λ (c : ℕ). before_comment (runs_from c (reverse (b ∷ x ∷ xs) ++ bs))) (omega arith)
    ∙ ap (λ (line : List ℕ). before_comment (runs_from (column - length (x ∷ xs)) line)) (sym (reverse_on b (x ∷ xs) bs)) in
    carried b bs number after after bytes words words _ _ _ _ behind
    (sym (ap (λ (fresh : Bool). word_byte_in false fresh b s) (never_fresh (b == 35))) ∙ at_word b s e)
    (ap (λ (m : List Word). words ++ m) same) (ap (after_words after) same)

all_with : (b : ℕ) (bs : List ℕ) → is_word_byte b ≡ true → list_all is_word_byte (reverse bs) ≡ true → list_all is_word_byte (reverse (b ∷ bs)) ≡ true
all_with b bs e all =
    ap (list_all is_word_byte) (reverse-append (b ∷ []) bs) ∙ list_all-append is_word_byte (reverse bs) (b ∷ []) ∙ and_from _ _ all (and_from _ _ e refl)

begins_as : (r more : List ℕ) → 0 < length r → begins_with 35 (r ++ more) ≡ begins_with 35 r
unfolding begins_with
begins_as [] more h = absurd (omega arith)
begins_as (y ∷ ys) more h = refl

quiet_with : (b x : ℕ) (xs : List ℕ) → begins_with 35 (reverse (x ∷ xs)) ≡ false → begins_with 35 (reverse (b ∷ x ∷ xs)) ≡ false
quiet_with b x xs quiet =
    let long = length-reverse (x ∷ xs) in
    ap (begins_with 35) (reverse-append (b ∷ []) (x ∷ xs)) ∙ begins_as (reverse (x ∷ xs)) (b ∷ []) (omega arith) ∙ quiet

-- after no word: a space, a `#` or a word's first byte
after_none : (b : ℕ) (bs : List ℕ) (number column after : ℕ) (bytes : List ℕ) (words : List Word) (is_word sharp : Bool) → is_word_byte b ≡ is_word → (b == 35) ≡ sharp →
    Words bs number (column + 1) after (b ∷ bytes) words [] → (is_word_byte b ≡ true → (b == 35) ≡ false → Words bs number (column + 1) after (b ∷ bytes) words (b ∷ [])) →
    Words (b ∷ bs) number column after bytes words []
after_none b bs number column after bytes words false sharp e f spaced worded = space_alone b bs number column after bytes words e spaced
after_none b bs number column after bytes words true true e f spaced worded = comment_alone b bs number column after bytes words e f
after_none b bs number column after bytes words true false e f spaced worded = word_alone b bs number column after bytes words e f (worded e f)

-- after a word's byte: a space or another one
after_some : (b : ℕ) (bs : List ℕ) (number column after x : ℕ) (xs bytes : List ℕ) (words : List Word) (is_word : Bool) → is_word_byte b ≡ is_word →
    list_all is_word_byte (reverse (x ∷ xs)) ≡ true → begins_with 35 (reverse (x ∷ xs)) ≡ false → length (x ∷ xs) < column →
    Words bs number (column + 1) column (b ∷ bytes) (words ++ (record { column = column - length (x ∷ xs); text = reverse (x ∷ xs) } ∷ [])) [] →
    (is_word_byte b ≡ true → Words bs number (column + 1) after (b ∷ bytes) words (b ∷ x ∷ xs)) → Words (b ∷ bs) number column after bytes words (x ∷ xs)
after_some b bs number column after x xs bytes words false e all quiet room spaced worded = space_behind b bs number column after x xs bytes words e all quiet room spaced
after_some b bs number column after x xs bytes words true e all quiet room spaced worded = word_behind b bs number column after x xs bytes words e (worded e)

pub words_over : (line : List ℕ) (number column after : ℕ) (bytes : List ℕ) (words : List Word) (begun : List ℕ) →
    list_all is_word_byte (reverse begun) ≡ true → begins_with 35 (reverse begun) ≡ false → length begun < column → Words line number column after bytes words begun
unfolding begins_with
words_over [] number column after bytes words begun all quiet room = at_end number column after bytes words begun all quiet room
words_over (b ∷ bs) number column after bytes words [] all quiet room =
    after_none b bs number column after bytes words (is_word_byte b) (b == 35) refl refl
    (words_over bs number (column + 1) after (b ∷ bytes) words [] refl refl (omega arith))
    (λ e f. words_over bs number (column + 1) after (b ∷ bytes) words (b ∷ []) (and_from _ _ e refl) f (omega arith))
words_over (b ∷ bs) number column after bytes words (x ∷ xs) all quiet room =
    after_some b bs number column after x xs bytes words (is_word_byte b) refl all quiet room
    (words_over bs number (column + 1) column (b ∷ bytes) (words ++ (record { column = column - length (x ∷ xs); text = reverse (x ∷ xs) } ∷ [])) [] refl refl (omega arith))
    (λ e. words_over bs number (column + 1) after (b ∷ bytes) words (b ∷ x ∷ xs) (all_with b (x ∷ xs) e all) (quiet_with b x xs quiet) (omega arith))
