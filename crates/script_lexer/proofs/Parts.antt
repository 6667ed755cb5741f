-- Parts of a text, one byte longer, and words of lines when further words stand behind them.
use Rattle.std.proofs.Common.{◌≡◌, ℕ, ◌+◌, ◌-◌, ◌<◌, ◌≤◌, List, [], ◌∷◌, ◌++◌, length, take, drop, get_or, refl, ap, sym, ◌∙◌, arith, length-append, length-drop}
use Rattle.std.specs.Prelude.{map, reverse, false}
use Rattle.std.specs.List.{All}
use Rattle.std.proofs.lemmas.List.{length-take-le, length-reverse, get_or-drop, take_more, reverse-append, take-append-le, drop-append-le}
use Rattle.std.proofs.lemmas.List.Elements.{All-head, All-tail, All-weaker, All-same}
use Rattle.std.proofs.Math.Seq.{take-length}
use Rattle.script_model.specs.Readers.{is_empty}
use Rattle.script_lexer.specs.declared.places.Span.{Span}
use Rattle.script_lexer.specs.declared.places.Line.{Line}
use Rattle.script_lexer.specs.Texts.{part, word_seen, after_of, line_words, words_of, line_seen, InLine, LineFits}

pub part_none : (at : ℕ) (bytes : List ℕ) → part at at bytes ≡ []
part_none at bytes = let none : at - at ≡ 0 = omega arith in ap (λ (n : ℕ). take n (drop at bytes)) none

pub part_more : (from at : ℕ) (bytes : List ℕ) → from ≤ at → at < length bytes → part from (at + 1) bytes ≡ part from at bytes ++ get_or bytes at 0 ∷ []
part_more from at bytes before within =
    let count : at + 1 - from ≡ at - from + 1 = omega arith in
    let place : from + (at - from) ≡ at = omega arith in
    let there : get_or (drop from bytes) (at - from) 0 ≡ get_or bytes at 0 = get_or-drop from bytes (at - from) 0 ∙ ap (λ (n : ℕ). get_or bytes n 0) place in
    let long : at - from < length (drop from bytes) = omega (arith, length-drop from bytes) in
    ap (λ (n : ℕ). take n (drop from bytes)) count ∙ take_more (drop from bytes) (at - from) 0 long ∙ ap (λ (b : ℕ). part from at bytes ++ b ∷ []) there

pub back_more : (from at : ℕ) (bytes : List ℕ) → from ≤ at → at < length bytes → reverse (part from (at + 1) bytes) ≡ get_or bytes at 0 ∷ reverse (part from at bytes)
back_more from at bytes before within = ap reverse (part_more from at bytes before within) ∙ reverse-append (part from at bytes) (get_or bytes at 0 ∷ [])

pub back_length : (from at : ℕ) (bytes : List ℕ) → from ≤ at → at ≤ length bytes → length (reverse (part from at bytes)) ≡ at - from
back_length from at bytes before within =
    length-reverse (part from at bytes) ∙ length-take-le (at - from) (drop from bytes) (omega (arith, length-drop from bytes))

pub not_empty : (xs : List ℕ) → 0 < length xs → is_empty xs ≡ false
unfolding is_empty
not_empty [] some = absurd (omega arith)
not_empty (x ∷ xs) some = refl

-- the words of a line stay the same
pub words_stay : (words more : List Span) (line : Line) → line.first + line.count ≤ length words → line_words (words ++ more) line ≡ line_words words line
words_stay words more line within =
    let short : line.count ≤ length (drop line.first words) = omega (arith, length-drop line.first words) in
    ap (take line.count) (drop-append-le line.first words more (omega arith)) ∙ take-append-le line.count (drop line.first words) more short

pub fits_stays : (bytes : List ℕ) (words more : List Span) (line : Line) → LineFits bytes words line → LineFits bytes (words ++ more) line
fits_stays bytes words more line fits = record {
  begins = fits.begins;
  numbered = fits.numbered;
  counted = omega (arith, length-append words more, fits.counted);
  within = All-same (InLine line.start (length bytes)) (line_words (words ++ more) line) (line_words words line) (words_stay words more line fits.counted) fits.within;
}

pub fit_stay : (bytes : List ℕ) (words more : List Span) (lines : List Line) → All (LineFits bytes words) lines → All (LineFits bytes (words ++ more)) lines
fit_stay bytes words more lines fit = All-weaker (LineFits bytes words) (LineFits bytes (words ++ more)) (fits_stays bytes words more) lines fit

line_stays : (bytes : List ℕ) (words more : List Span) (line : Line) → line.first + line.count ≤ length words → line_seen bytes (words ++ more) line ≡ line_seen bytes words line
line_stays bytes words more line within =
    ap (λ (ws : List Span). record {
      number = line.number;
      row = record {
        left = map (word_seen bytes line.start) ws;
        after = after_of line.start ws;
        bytes = take (after_of line.start ws - 1) (drop line.start bytes);
      };
    }) (words_stay words more line within)

pub lines_stay : (bytes : List ℕ) (words more : List Span) (lines : List Line) → All (LineFits bytes words) lines → map (line_seen bytes (words ++ more)) lines ≡ map (line_seen bytes words) lines
lines_stay bytes words more [] fit = refl
lines_stay bytes words more (line ∷ lines) fit =
    let here : LineFits bytes words line = All-head (LineFits bytes words) line lines fit in
    let first = line_stays bytes words more line here.counted in
    let rest = lines_stay bytes words more lines (All-tail (LineFits bytes words) line lines fit) in
    cc (first, rest)

-- the words of all lines stay the same
pub all_stay : (bytes : List ℕ) (words more : List Span) (lines : List Line) → All (LineFits bytes words) lines → words_of (words ++ more) lines ≡ words_of words lines
all_stay bytes words more [] fit = refl
all_stay bytes words more (line ∷ lines) fit =
    let here : LineFits bytes words line = All-head (LineFits bytes words) line lines fit in
    ap (λ (ws : List Span). ws ++ words_of (words ++ more) lines) (words_stay words more line here.counted)
    ∙ ap (λ (ws : List Span). line_words words line ++ ws) (all_stay bytes words more lines (All-tail (LineFits bytes words) line lines fit))

-- the first of these words, as many as they are
pub first_taken : (count : ℕ) (words first : List Span) → count ≤ length words → first ≡ take count words → take (length first) words ≡ first
first_taken count words first within is =
    let long : length first ≡ count = ap length is ∙ length-take-le count words within in
    ap (λ (n : ℕ). take n words) long ∙ sym is

-- all of them are the first
pub all_taken : (words first : List Span) → words ≡ first → take (length first) words ≡ first
all_taken words first is = first_taken (length words) words first (omega arith) (sym is ∙ sym (take-length words))
