-- Each step of the places is a step of the scan that they stand for.
use Rattle.std.proofs.Common.{◌≡◌, ℕ, ◌+◌, ◌-◌, ◌<◌, ◌≤◌, ◌&&◌, ◌==◌, Bool, true, false, cond, List, [], ◌∷◌, ◌++◌, length, drop, get_or, refl, ap, sym, ◌∙◌, arith, length-append, Option, Some, None}
use Rattle.std.specs.Prelude.{map, reverse}
use Rattle.std.specs.List.{All}
use Rattle.std.proofs.lemmas.List.{reverse-reverse, take-append-le, drop-append-le, map_push}
use Rattle.std.proofs.lemmas.List.Elements.{All-push, All-same, All-weaker}
use Rattle.std.proofs.lemmas.List.Sums.{fold-append, count_by_more_no}
use Rattle.script_model.specs.Readers.{is_empty}
use Rattle.script_model.specs.Lexing.{Scan, Word, word_closed, close_word, passed, word_byte_in, word_byte}
use Rattle.script_lexer.specs.declared.places.Span.{Span}
use Rattle.script_lexer.specs.Texts.{part, word_seen, after_of, InLine, LineFits}
use Rattle.script_lexer.specs.Places.{Places, closed_from, begun_in, begun, scan_seen, kept_seen, OpenIn, Sound}
use Rattle.script_lexer.proofs.Parts.{part_none, back_more, back_length, not_empty, fit_stay, lines_stay, all_stay}

abbrev word_with : ℕ → List ℕ → Word
word_with column text = record { column = column; text = text }

abbrev closed_scan : List ℕ → ℕ → Places → List Word → ℕ → Scan
closed_scan bytes at p words after = record {
  number = p.ended + 1;
  column = at - p.start + 1;
  bytes = reverse (part p.start at bytes);
  words = words;
  after = after;
  open_word = [];
  in_comment = p.in_comment;
}

abbrev scan_with : List ℕ → Places → ℕ → List ℕ → List ℕ → Bool → Scan
scan_with text p column line word comment = record {
  number = p.ended + 1;
  column = column;
  bytes = line;
  words = map (word_seen text p.start) (drop p.first p.words);
  after = after_of p.start (drop p.first p.words);
  open_word = word;
  in_comment = comment;
}

abbrev span_of : ℕ → ℕ → Span
span_of from at = record { from = from; to = at }

with_closed : Scan → List Word → Scan
with_closed s words = record s { words = words; after = s.column; open_word = [] }

closed_some : (bs : List ℕ) (s : Scan) → 0 < length bs → word_closed bs s ≡ with_closed s (s.words ++ word_with (s.column - length bs) (reverse bs) ∷ [])
unfolding word_closed with_closed
closed_some [] s some = absurd (omega arith)
closed_some (b ∷ bs) s some = refl

-- a word that ends is one more word of its line
word_more : (bytes : List ℕ) (at from start : ℕ) → start ≤ from → from < at → at ≤ length bytes
    → word_with (at - start + 1 - length (reverse (part from at bytes))) (reverse (reverse (part from at bytes))) ≡ word_seen bytes start (span_of from at)
word_more bytes at from start low high within =
    let long : length (reverse (part from at bytes)) ≡ at - from = back_length from at bytes (omega arith) within in
    let column : at - start + 1 - length (reverse (part from at bytes)) ≡ from - start + 1 = omega arith in
    ap (λ (n : ℕ). word_with n (reverse (reverse (part from at bytes)))) column ∙ ap (word_with (from - start + 1)) (reverse-reverse (part from at bytes))

after_push : (start first : ℕ) (words : List Span) (span : Span) → first ≤ length words → after_of start (drop first (words ++ span ∷ [])) ≡ span.to - start + 1
after_push start first words span within =
    ap (after_of start) (drop-append-le first words (span ∷ []) within) ∙ fold-append (λ (before : ℕ) (s : Span). s.to - start + 1) 1 (drop first words) (span ∷ [])

pub closed_seen : (bytes : List ℕ) (at : ℕ) (p : Places) (w : Option ℕ) → p.first ≤ length p.words → at ≤ length bytes → OpenIn p.start at p.in_comment w
    → close_word (scan_seen bytes at (record p { open_word = w })) ≡ scan_seen bytes at (closed_from w at (record p { open_word = w }))
unfolding close_word word_closed with_closed
closed_seen bytes at p None first within open_in = refl
closed_seen bytes at p (Some from) first within open_in =
    let long : length (reverse (part from at bytes)) ≡ at - from = back_length from at bytes (omega arith) within in
    let words : map (word_seen bytes p.start) (drop p.first p.words) ++ word_with (at - p.start + 1 - length (reverse (part from at bytes))) (reverse (reverse (part from at bytes))) ∷ []
    ≡ map (word_seen bytes p.start) (drop p.first (p.words ++ span_of from at ∷ []))
    = ap (λ (w : Word). map (word_seen bytes p.start) (drop p.first p.words) ++ w ∷ []) (word_more bytes at from p.start open_in.0 open_in.1 within)
    ∙ sym (map_push (word_seen bytes p.start) (drop p.first p.words) (span_of from at))
    ∙ ap (map (word_seen bytes p.start)) (sym (drop-append-le p.first p.words (span_of from at ∷ []) first)) in
    closed_some (reverse (part from at bytes)) (scan_seen bytes at (record p { open_word = Some from })) (omega arith)
    ∙ ap (λ (ws : List Word). closed_scan bytes at p ws (at - p.start + 1)) words
    ∙ ap (closed_scan bytes at p (map (word_seen bytes p.start) (drop p.first (p.words ++ span_of from at ∷ [])))) (sym (after_push p.start p.first p.words (span_of from at) first))

later_with : (bytes : List ℕ) (at : ℕ) (p : Places) (word : List ℕ) (comment : Bool) → p.start ≤ at → at < length bytes
    → passed (get_or bytes at 0) (scan_with bytes p (at - p.start + 1) (reverse (part p.start at bytes)) word comment)
    ≡ scan_with bytes p (at + 1 - p.start + 1) (reverse (part p.start (at + 1) bytes)) word comment
unfolding passed
later_with bytes at p word comment start within =
    let column : at - p.start + 1 + 1 ≡ at + 1 - p.start + 1 = omega arith in
    ap (λ (n : ℕ). scan_with bytes p n (get_or bytes at 0 ∷ reverse (part p.start at bytes)) word comment) column
    ∙ ap (λ (line : List ℕ). scan_with bytes p (at + 1 - p.start + 1) line word comment) (sym (back_more p.start at bytes start within))

-- the places behind a word that ended, one byte on
pub closed_passed : (bytes : List ℕ) (at : ℕ) (p : Places) (w : Option ℕ) → p.start ≤ at → at < length bytes
    → passed (get_or bytes at 0) (scan_seen bytes at (closed_from w at (record p { open_word = w })))
    ≡ scan_seen bytes (at + 1) (closed_from w at (record p { open_word = w }))
closed_passed bytes at p None start within = later_with bytes at p [] p.in_comment start within
closed_passed bytes at p (Some from) start within = later_with bytes at (record p { words = p.words ++ span_of from at ∷ [] }) [] p.in_comment start within

pub closed_kept : (bytes : List ℕ) (at : ℕ) (p : Places) (w : Option ℕ) → All (LineFits bytes p.words) p.lines
    → kept_seen bytes (closed_from w at (record p { open_word = w })) ≡ kept_seen bytes p
closed_kept bytes at p None fit = refl
closed_kept bytes at p (Some from) fit = lines_stay bytes p.words (span_of from at ∷ []) p.lines fit

pub sound_closed : (bytes : List ℕ) (at : ℕ) (p : Places) (w : Option ℕ) → Sound bytes at (record p { open_word = w }) → Sound bytes at (closed_from w at (record p { open_word = w }))
sound_closed bytes at p None s = s
sound_closed bytes at p (Some from) s =
    let after : after_of p.start (drop p.first (p.words ++ span_of from at ∷ [])) ≡ at - p.start + 1 = after_push p.start p.first p.words (span_of from at) s.first_within in
    let low : p.start ≤ from = s.open_within.0 in
    let high : from < at = s.open_within.1 in
    let start : p.start ≤ at = s.start_before in
    let end : at ≤ at = omega arith in record {
      inside = s.inside;
      start_before = s.start_before;
      first_within = omega (arith, s.first_within, length-append p.words (span_of from at ∷ []));
      ended_before = s.ended_before;
      begins = s.begins;
      started = s.started;
      fed = s.fed;
      open_within = tt;
      after_within = omega arith;
      spans_within = All-same (InLine p.start at) (drop p.first (p.words ++ span_of from at ∷ [])) (drop p.first p.words ++ span_of from at ∷ []) (drop-append-le p.first p.words (span_of from at ∷ []) s.first_within)
          (All-push (InLine p.start at) (drop p.first p.words) (span_of from at) s.spans_within (low, high, end));
      lines_fit = fit_stay bytes p.words (span_of from at ∷ []) p.lines s.lines_fit;
      laid = all_stay bytes p.words (span_of from at ∷ []) p.lines s.lines_fit ∙ s.laid ∙ sym (take-append-le p.first p.words (span_of from at ∷ []) s.first_within);
    }

later_open : (start at : ℕ) (comment : Bool) (w : Option ℕ) → OpenIn start at comment w → OpenIn start (at + 1) comment w
later_open start at comment None open_in = tt
later_open start at comment (Some from) open_in = (open_in.0, omega (arith, open_in.1), open_in.2)

later_span : (start at : ℕ) (span : Span) → InLine start at span → InLine start (at + 1) span
later_span start at span h = (h.0, h.1, omega (arith, h.2))

pub sound_later : (bytes : List ℕ) (at : ℕ) (p : Places) → at < length bytes → (get_or bytes at 0 == 10) ≡ false → Sound bytes at p → Sound bytes (at + 1) p
sound_later bytes at p within no_feed s = record {
  inside = omega arith;
  start_before = omega (arith, s.start_before);
  first_within = s.first_within;
  ended_before = s.ended_before;
  begins = s.begins;
  started = s.started;
  fed = s.fed ∙ sym (count_by_more_no (λ byte. byte == 10) bytes at 0 within no_feed);
  open_within = later_open p.start at p.in_comment p.open_word s.open_within;
  after_within = omega (arith, s.after_within);
  spans_within = All-weaker (InLine p.start at) (InLine p.start (at + 1)) (later_span p.start at) (drop p.first p.words) s.spans_within;
  lines_fit = s.lines_fit;
  laid = s.laid;
}

and_false : (b : Bool) → (b && false) ≡ false
and_false true = refl
and_false false = refl

first_byte : (bytes : List ℕ) (at : ℕ) → at < length bytes → get_or bytes at 0 ∷ [] ≡ reverse (part at (at + 1) bytes)
first_byte bytes at within =
    sym (back_more at at bytes (omega arith) within ∙ ap (λ (xs : List ℕ). get_or bytes at 0 ∷ reverse xs) (part_none at bytes))

begins : (bytes : List ℕ) (at : ℕ) (p : Places) (c : Bool) → p.start ≤ at → at < length bytes
    → word_byte_in false (c && true) (get_or bytes at 0) (scan_with bytes p (at - p.start + 1) (reverse (part p.start at bytes)) [] false)
    ≡ scan_seen bytes (at + 1) (cond c (record p { open_word = None; in_comment = true }) (record p { open_word = Some at; in_comment = false }))
unfolding word_byte_in
begins bytes at p true start within = later_with bytes at p [] true start within
begins bytes at p false start within =
    later_with bytes at p (get_or bytes at 0 ∷ []) false start within
    ∙ ap (λ (word : List ℕ). scan_with bytes p (at + 1 - p.start + 1) (reverse (part p.start (at + 1) bytes)) word false) (first_byte bytes at within)

-- a byte of a word or a comment
pub begun_seen : (bytes : List ℕ) (at : ℕ) (p : Places) (comment : Bool) (w : Option ℕ) → p.start ≤ at → at < length bytes → OpenIn p.start at comment w
    → word_byte (get_or bytes at 0) (scan_seen bytes at (record p { open_word = w; in_comment = comment }))
    ≡ scan_seen bytes (at + 1) (begun_in comment w (get_or bytes at 0) at (record p { open_word = w; in_comment = comment }))
unfolding word_byte word_byte_in is_empty
begun_seen bytes at p true None start within open_in = later_with bytes at p [] true start within
begun_seen bytes at p true (Some from) start within open_in = let no : true ≡ false = open_in.2 in cc
begun_seen bytes at p false (Some from) start within open_in =
    let low : from ≤ at = omega (arith, open_in.1) in
    let long : length (reverse (part from at bytes)) ≡ at - from = back_length from at bytes low (omega arith) in
    let some : 0 < length (reverse (part from at bytes)) = omega (arith, open_in.1) in
    let fresh : (get_or bytes at 0 == 35 && is_empty (reverse (part from at bytes))) ≡ false =
    ap (λ (e : Bool). get_or bytes at 0 == 35 && e) (not_empty (reverse (part from at bytes)) some) ∙ and_false (get_or bytes at 0 == 35) in
    ap (λ (f : Bool). word_byte_in false f (get_or bytes at 0) (scan_with bytes p (at - p.start + 1) (reverse (part p.start at bytes)) (reverse (part from at bytes)) false)) fresh
    ∙ later_with bytes at p (get_or bytes at 0 ∷ reverse (part from at bytes)) false start within
    ∙ ap (λ (word : List ℕ). scan_with bytes p (at + 1 - p.start + 1) (reverse (part p.start (at + 1) bytes)) word false) (sym (back_more from at bytes low within))
begun_seen bytes at p false None start within open_in = begins bytes at p (get_or bytes at 0 == 35) start within

sound_begins : (bytes : List ℕ) (at : ℕ) (p : Places) (c : Bool) → at < length bytes → Sound bytes (at + 1) (record p { open_word = None; in_comment = false })
    → p.start ≤ at → Sound bytes (at + 1) (cond c (record p { open_word = None; in_comment = true }) (record p { open_word = Some at; in_comment = false }))
sound_begins bytes at p true within s start = record {
  inside = s.inside;
  start_before = s.start_before;
  first_within = s.first_within;
  ended_before = s.ended_before;
  begins = s.begins;
  started = s.started;
  fed = s.fed;
  open_within = tt;
  after_within = s.after_within;
  spans_within = s.spans_within;
  lines_fit = s.lines_fit;
  laid = s.laid;
}
sound_begins bytes at p false within s start =
    let here : at < at + 1 = omega arith in record {
      inside = s.inside;
      start_before = s.start_before;
      first_within = s.first_within;
      ended_before = s.ended_before;
      begins = s.begins;
      started = s.started;
      fed = s.fed;
      open_within = (start, here, refl);
      after_within = s.after_within;
      spans_within = s.spans_within;
      lines_fit = s.lines_fit;
      laid = s.laid;
    }

pub sound_begun : (bytes : List ℕ) (at : ℕ) (p : Places) (comment : Bool) (w : Option ℕ) → at < length bytes → (get_or bytes at 0 == 10) ≡ false → Sound bytes at (record p { open_word = w; in_comment = comment })
    → Sound bytes (at + 1) (begun_in comment w (get_or bytes at 0) at (record p { open_word = w; in_comment = comment }))
sound_begun bytes at p true w within no_feed s = sound_later bytes at (record p { open_word = w; in_comment = true }) within no_feed s
sound_begun bytes at p false (Some from) within no_feed s = sound_later bytes at (record p { open_word = Some from; in_comment = false }) within no_feed s
sound_begun bytes at p false None within no_feed s =
    sound_begins bytes at p (get_or bytes at 0 == 35) within (sound_later bytes at (record p { open_word = None; in_comment = false }) within no_feed s) s.start_before

kept_begins : (bytes : List ℕ) (at : ℕ) (p : Places) (c : Bool) → kept_seen bytes (cond c (record p { in_comment = true }) (record p { open_word = Some at })) ≡ kept_seen bytes p
kept_begins bytes at p true = refl
kept_begins bytes at p false = refl

begun_kept_in : (bytes : List ℕ) (at : ℕ) (p : Places) (byte : ℕ) (comment : Bool) (w : Option ℕ) → kept_seen bytes (begun_in comment w byte at p) ≡ kept_seen bytes p
begun_kept_in bytes at p byte true w = refl
begun_kept_in bytes at p byte false (Some from) = refl
begun_kept_in bytes at p byte false None = kept_begins bytes at p (byte == 35)

pub begun_kept : (bytes : List ℕ) (at : ℕ) (p : Places) (byte : ℕ) → kept_seen bytes (begun byte at p) ≡ kept_seen bytes p
begun_kept bytes at p byte = begun_kept_in bytes at p byte p.in_comment p.open_word
