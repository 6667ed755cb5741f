-- A line that ends is kept if it has a word, and the next one begins.
use Rattle.std.proofs.Common.{◌≡◌, ℕ, ◌+◌, ◌-◌, ◌<◌, ◌≤◌, ◌==◌, Bool, true, false, cond, List, [], ◌∷◌, ◌++◌, length, take, drop, get_or, refl, ap, sym, ◌∙◌, arith, append_assoc, length-drop, Option, Some, None}
use Rattle.std.specs.Prelude.{map, reverse}
use Rattle.std.specs.List.{All}
use Rattle.std.proofs.lemmas.Bool.{eqb-true, eqb-false}
use Rattle.std.proofs.lemmas.List.{reverse-reverse, map_push, length-map, take_rest, take-take, take-append-drop, drop_all, flat_map_more}
use Rattle.std.proofs.Math.Seq.{take-length}
use Rattle.std.proofs.lemmas.List.Elements.{All-nil, All-push, All-same, All-weaker}
use Rattle.std.proofs.lemmas.List.Sums.{count_by_more_yes}
use Rattle.script_model.specs.Lexing.{Scan, Word, Lexed, Line as LineOfWords, line_start, line_before, add_line}
use Rattle.script_lexer.specs.declared.places.Span.{Span}
use Rattle.script_lexer.specs.declared.places.Line.{Line}
use Rattle.script_lexer.specs.Texts.{part, word_seen, after_of, line_words, words_of, line_seen, InLine, feeds_before, BeginsLine, LineFits}
use Rattle.script_lexer.specs.Places.{Places, closed_from, closed, line_kept, next_line_at, scan_seen, kept_seen, behind, Sound}
use Rattle.script_lexer.proofs.Parts.{part_none}

-- the line that ends
abbrev pub ended_line : Places → Line
ended_line p = record { number = p.ended + 1; start = p.start; first = p.first; count = length p.words - p.first }

abbrev row_line : ℕ → List Word → ℕ → List ℕ → LineOfWords
row_line number words after bytes = record { number = number; row = record { left = words; after = after; bytes = bytes } }

abbrev line_of_spans : List ℕ → Places → List Span → LineOfWords
line_of_spans bytes p spans = row_line (p.ended + 1) (map (word_seen bytes p.start) spans) (after_of p.start spans) (take (after_of p.start spans - 1) (drop p.start bytes))

abbrev with_line : LineOfWords → Lexed → Lexed
with_line line lexed = record { lines = line ∷ lexed.lines; ending = lexed.ending }

abbrev lexed_of : List LineOfWords → Lexed → Lexed
lexed_of lines lexed = record { lines = lines; ending = lexed.ending }

before_none : (ws : List Word) (s : Scan) (lexed : Lexed) → ws ≡ [] → line_before ws s lexed ≡ lexed
unfolding line_before
before_none ws s lexed none = ap (λ (xs : List Word). line_before xs s lexed) none

before_some : (ws : List Word) (s : Scan) (lexed : Lexed) → 0 < length ws → line_before ws s lexed ≡ with_line (row_line s.number ws s.after (take (s.after - 1) (reverse s.bytes))) lexed
unfolding line_before
before_some [] s lexed some = absurd (omega arith)
before_some (w ∷ ws) s lexed some = refl

-- the row of the line that ends
row_is : (bytes : List ℕ) (at : ℕ) (p : Places) → p.start ≤ at → after_of p.start (drop p.first p.words) + p.start ≤ at + 1
    → row_line (p.ended + 1) (map (word_seen bytes p.start) (drop p.first p.words)) (after_of p.start (drop p.first p.words))
    (take (after_of p.start (drop p.first p.words) - 1) (reverse (reverse (part p.start at bytes))))
    ≡ line_seen bytes p.words (ended_line p)
row_is bytes at p start after =
    let fits : after_of p.start (drop p.first p.words) - 1 ≤ at - p.start = omega arith in
    ap (λ (line : List ℕ). row_line (p.ended + 1) (map (word_seen bytes p.start) (drop p.first p.words)) (after_of p.start (drop p.first p.words)) (take (after_of p.start (drop p.first p.words) - 1) line))
    (reverse-reverse (part p.start at bytes))
    ∙ ap (λ (line : List ℕ). row_line (p.ended + 1) (map (word_seen bytes p.start) (drop p.first p.words)) (after_of p.start (drop p.first p.words)) line)
    (take-take (after_of p.start (drop p.first p.words) - 1) (at - p.start) (drop p.start bytes) fits)
    ∙ ap (line_of_spans bytes p) (sym (take_rest p.words p.first))

added_in : (bytes : List ℕ) (at : ℕ) (p : Places) (lexed : Lexed) (c : Bool) → (p.first == length p.words) ≡ c → p.first ≤ length p.words → p.start ≤ at
    → after_of p.start (drop p.first p.words) + p.start ≤ at + 1
    → behind (kept_seen bytes p) (line_before (map (word_seen bytes p.start) (drop p.first p.words)) (scan_seen bytes at p) lexed)
    ≡ behind (kept_seen bytes (cond c p (record p { lines = p.lines ++ ended_line p ∷ [] }))) lexed
added_in bytes at p lexed true is first start after =
    let same : p.first ≡ length p.words = eqb-true p.first (length p.words) is in
    ap (behind (kept_seen bytes p)) (before_none (map (word_seen bytes p.start) (drop p.first p.words)) (scan_seen bytes at p) lexed
    (ap (map (word_seen bytes p.start)) (drop_all p.first p.words (omega arith))))
added_in bytes at p lexed false is first start after =
    let other = eqb-false p.first (length p.words) is in
    let fewer : p.first < length p.words = omega (arith, other) in
    let some : 0 < length (map (word_seen bytes p.start) (drop p.first p.words)) = omega (arith, length-map (drop p.first p.words) (word_seen bytes p.start), length-drop p.first p.words) in
    ap (behind (kept_seen bytes p)) (before_some (map (word_seen bytes p.start) (drop p.first p.words)) (scan_seen bytes at p) lexed some)
    ∙ ap (λ (line : LineOfWords). behind (kept_seen bytes p) (with_line line lexed)) (row_is bytes at p start after)
    ∙ ap (λ (lines : List LineOfWords). lexed_of lines lexed)
    (sym (append_assoc (kept_seen bytes p) (line_seen bytes p.words (ended_line p) ∷ []) lexed.lines))
    ∙ ap (λ (lines : List LineOfWords). lexed_of (lines ++ lexed.lines) lexed) (sym (map_push (line_seen bytes p.words) p.lines (ended_line p)))

-- the line that ends stands before what follows
pub line_added : (bytes : List ℕ) (at : ℕ) (p : Places) (lexed : Lexed) → Sound bytes at p
    → behind (kept_seen bytes p) (add_line (scan_seen bytes at p) lexed) ≡ behind (kept_seen bytes (line_kept p)) lexed
unfolding add_line
line_added bytes at p lexed s = added_in bytes at p lexed (p.first == length p.words) refl s.first_within s.start_before s.after_within

later_span : (start at size : ℕ) (span : Span) → at ≤ size → InLine start at span → InLine start size span
later_span start at size span within h = (h.0, h.1, omega (arith, h.2))

ended_fits : (bytes : List ℕ) (at : ℕ) (p : Places) → Sound bytes at p → LineFits bytes p.words (ended_line p)
ended_fits bytes at p s = record {
  begins = s.begins;
  numbered = ap (λ (n : ℕ). n + 1) s.started;
  counted = omega (arith, s.first_within);
  within = All-same (InLine p.start (length bytes)) (line_words p.words (ended_line p)) (drop p.first p.words) (take_rest p.words p.first)
      (All-weaker (InLine p.start at) (InLine p.start (length bytes)) (λ (span : Span). later_span p.start at (length bytes) span s.inside) (drop p.first p.words) s.spans_within);
}

fits_in : (bytes : List ℕ) (at : ℕ) (p : Places) (c : Bool) → Sound bytes at p
    → All (LineFits bytes (cond c p (record p { lines = p.lines ++ ended_line p ∷ [] })).words) (cond c p (record p { lines = p.lines ++ ended_line p ∷ [] })).lines
fits_in bytes at p true s = s.lines_fit
fits_in bytes at p false s = All-push (LineFits bytes p.words) p.lines (ended_line p) s.lines_fit (ended_fits bytes at p s)

pub kept_fit : (bytes : List ℕ) (at : ℕ) (p : Places) → Sound bytes at p → All (LineFits bytes (line_kept p).words) (line_kept p).lines
kept_fit bytes at p s = fits_in bytes at p (p.first == length p.words) s

-- each word so far is a word of a line
laid_in : (p : Places) (c : Bool) → (p.first == length p.words) ≡ c → words_of p.words p.lines ≡ take p.first p.words
    → words_of p.words (cond c p (record p { lines = p.lines ++ ended_line p ∷ [] })).lines ≡ p.words
laid_in p true is laid = laid ∙ ap (λ (n : ℕ). take n p.words) (eqb-true p.first (length p.words) is) ∙ take-length p.words
laid_in p false is laid =
    sym (flat_map_more (line_words p.words) [] p.lines (ended_line p))
    ∙ ap (λ (ws : List Span). ws ++ line_words p.words (ended_line p)) laid
    ∙ ap (λ (ws : List Span). take p.first p.words ++ ws) (take_rest p.words p.first)
    ∙ take-append-drop p.first p.words

laid_words : (p : Places) (c : Bool) → words_of p.words (cond c p (record p { lines = p.lines ++ ended_line p ∷ [] })).lines ≡ p.words
    → (cond c p (record p { lines = p.lines ++ ended_line p ∷ [] })).words
    ≡ words_of (cond c p (record p { lines = p.lines ++ ended_line p ∷ [] })).words (cond c p (record p { lines = p.lines ++ ended_line p ∷ [] })).lines
laid_words p true laid = sym laid
laid_words p false laid = sym laid

pub kept_laid : (bytes : List ℕ) (at : ℕ) (p : Places) → Sound bytes at p → (line_kept p).words ≡ words_of (line_kept p).words (line_kept p).lines
kept_laid bytes at p s = laid_words p (p.first == length p.words) (laid_in p (p.first == length p.words) refl s.laid)

abbrev start_scan : List ℕ → ℕ → ℕ → ℕ → List ℕ → List Span → Scan
start_scan bytes number start column line spans = record {
  number = number;
  column = column;
  bytes = line;
  words = map (word_seen bytes start) spans;
  after = after_of start spans;
  open_word = [];
  in_comment = false;
}

start_seen : (bytes : List ℕ) (at number : ℕ) (words : List Span) → start_scan bytes number (at + 1) (at + 1 - (at + 1) + 1) (reverse (part (at + 1) (at + 1) bytes)) (drop (length words) words) ≡ line_start number
unfolding line_start
start_seen bytes at number words =
    let column : at + 1 - (at + 1) + 1 ≡ 1 = omega arith in
    ap (λ (n : ℕ). start_scan bytes number (at + 1) n (reverse (part (at + 1) (at + 1) bytes)) (drop (length words) words)) column
    ∙ ap (λ (xs : List ℕ). start_scan bytes number (at + 1) 1 (reverse xs) (drop (length words) words)) (part_none (at + 1) bytes)
    ∙ ap (start_scan bytes number (at + 1) 1 []) (drop_all (length words) words (omega arith))

next_in : (bytes : List ℕ) (at : ℕ) (p : Places) (c : Bool)
    → scan_seen bytes (at + 1) (next_line_at at (cond c (record p { open_word = None }) (record p { open_word = None; lines = p.lines ++ ended_line p ∷ [] }))) ≡ line_start (p.ended + 1 + 1)
next_in bytes at p true = start_seen bytes at (p.ended + 1 + 1) p.words
next_in bytes at p false = start_seen bytes at (p.ended + 1 + 1) p.words

-- the next line begins
pub next_closed : (bytes : List ℕ) (at : ℕ) (p : Places) (w : Option ℕ)
    → scan_seen bytes (at + 1) (next_line_at at (line_kept (closed_from w at (record p { open_word = w })))) ≡ line_start (p.ended + 1 + 1)
next_closed bytes at p None = next_in bytes at p (p.first == length p.words)
next_closed bytes at p (Some from) = next_in bytes at (record p { words = p.words ++ (record { from = from; to = at }) ∷ [] }) (p.first == length (p.words ++ (record { from = from; to = at }) ∷ []))

kept_in : (bytes : List ℕ) (at : ℕ) (p : Places) (c : Bool)
    → kept_seen bytes (next_line_at at (cond c p (record p { lines = p.lines ++ ended_line p ∷ [] }))) ≡ kept_seen bytes (cond c p (record p { lines = p.lines ++ ended_line p ∷ [] }))
kept_in bytes at p true = refl
kept_in bytes at p false = refl

pub next_kept : (bytes : List ℕ) (at : ℕ) (p : Places) → kept_seen bytes (next_line_at at (line_kept p)) ≡ kept_seen bytes (line_kept p)
next_kept bytes at p = kept_in bytes at p (p.first == length p.words)

after_none : (at : ℕ) (words : List Span) → after_of (at + 1) (drop (length words) words) ≡ 1
after_none at words = ap (after_of (at + 1)) (drop_all (length words) words (omega arith))

-- a line begins behind a line feed, with the next number
behind_feed : (bytes : List ℕ) (at : ℕ) → get_or bytes at 0 ≡ 10 → BeginsLine bytes (at + 1)
behind_feed bytes at feed some = let same : at + 1 - 1 ≡ at = omega arith in ap (λ (n : ℕ). get_or bytes n 0) same ∙ feed

fed_more : (bytes : List ℕ) (at ended : ℕ) → at < length bytes → get_or bytes at 0 ≡ 10 → ended ≡ feeds_before at bytes → ended + 1 ≡ feeds_before (at + 1) bytes
fed_more bytes at ended within feed fed =
    ap (λ (n : ℕ). n + 1) fed ∙ sym (count_by_more_yes (λ byte. byte == 10) bytes at 0 within (ap (λ byte. byte == 10) feed))

sound_in : (bytes : List ℕ) (at : ℕ) (p : Places) (c : Bool) → at < length bytes → get_or bytes at 0 ≡ 10 → Sound bytes at (record p { open_word = None })
    → All (LineFits bytes p.words) (cond c (record p { open_word = None }) (record p { open_word = None; lines = p.lines ++ ended_line p ∷ [] })).lines
    → words_of p.words (cond c (record p { open_word = None }) (record p { open_word = None; lines = p.lines ++ ended_line p ∷ [] })).lines ≡ p.words
    → Sound bytes (at + 1) (next_line_at at (cond c (record p { open_word = None }) (record p { open_word = None; lines = p.lines ++ ended_line p ∷ [] })))
sound_in bytes at p true within feed s fit laid = record {
  inside = omega arith;
  start_before = omega arith;
  first_within = omega arith;
  ended_before = omega (arith, s.ended_before, s.start_before);
  begins = behind_feed bytes at feed;
  started = fed_more bytes at p.ended within feed s.fed;
  fed = fed_more bytes at p.ended within feed s.fed;
  open_within = tt;
  after_within = omega (arith, after_none at p.words);
  spans_within = All-same (InLine (at + 1) (at + 1)) (drop (length p.words) p.words) [] (drop_all (length p.words) p.words (omega arith)) (All-nil (InLine (at + 1) (at + 1)));
  lines_fit = fit;
  laid = laid ∙ sym (take-length p.words);
}
sound_in bytes at p false within feed s fit laid = record {
  inside = omega arith;
  start_before = omega arith;
  first_within = omega arith;
  ended_before = omega (arith, s.ended_before, s.start_before);
  begins = behind_feed bytes at feed;
  started = fed_more bytes at p.ended within feed s.fed;
  fed = fed_more bytes at p.ended within feed s.fed;
  open_within = tt;
  after_within = omega (arith, after_none at p.words);
  spans_within = All-same (InLine (at + 1) (at + 1)) (drop (length p.words) p.words) [] (drop_all (length p.words) p.words (omega arith)) (All-nil (InLine (at + 1) (at + 1)));
  lines_fit = fit;
  laid = laid ∙ sym (take-length p.words);
}

fit_words : (bytes : List ℕ) (p : Places) (c : Bool) → All (LineFits bytes (cond c p (record p { lines = p.lines ++ ended_line p ∷ [] })).words) (cond c p (record p { lines = p.lines ++ ended_line p ∷ [] })).lines
    → All (LineFits bytes p.words) (cond c p (record p { lines = p.lines ++ ended_line p ∷ [] })).lines
fit_words bytes p true fit = fit
fit_words bytes p false fit = fit

pub sound_next : (bytes : List ℕ) (at : ℕ) (p : Places) → at < length bytes → get_or bytes at 0 ≡ 10 → Sound bytes at (record p { open_word = None }) → Sound bytes (at + 1) (next_line_at at (line_kept (record p { open_word = None })))
sound_next bytes at p within feed s =
    sound_in bytes at p (p.first == length p.words) within feed s
    (fit_words bytes (record p { open_word = None }) (p.first == length p.words) (fits_in bytes at (record p { open_word = None }) (p.first == length p.words) s))
    (laid_in (record p { open_word = None }) (p.first == length p.words) refl s.laid)

feed_in : (bytes : List ℕ) (at : ℕ) (p : Places) (w : Option ℕ) → at < length bytes → get_or bytes at 0 ≡ 10 → Sound bytes at (closed_from w at (record p { open_word = w }))
    → Sound bytes (at + 1) (next_line_at at (line_kept (closed_from w at (record p { open_word = w }))))
feed_in bytes at p None within feed s = sound_next bytes at p within feed s
feed_in bytes at p (Some from) within feed s = sound_next bytes at (record p { words = p.words ++ (record { from = from; to = at }) ∷ [] }) within feed s

pub sound_feed : (bytes : List ℕ) (at : ℕ) (p : Places) → at < length bytes → get_or bytes at 0 ≡ 10 → Sound bytes at (closed at p) → Sound bytes (at + 1) (next_line_at at (line_kept (closed at p)))
sound_feed bytes at p within feed s = feed_in bytes at p p.open_word within feed s
