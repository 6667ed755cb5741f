-- The places kept while a text is read, how one byte changes them, and the scan that they stand for.
use Rattle.std.specs.Prelude.{ℕ, ◌+◌, ◌-◌, ◌<◌, ◌≤◌, ◌≡◌, ◌⊎◌, Bool, true, false, cond, ◌==◌, List, [], ◌∷◌, ◌++◌, length, take, drop, get_or, slice_index, map, reverse, Option, Some, None}
use Rattle.std.specs.List.{All}
use Rattle.word_model.specs.Numbers.{begins_with}
use Rattle.script_model.specs.Lexing.{Scan, Lexed, Line as LineOfWords, ByteClass, ends}
use Rattle.script_lexer.specs.Limited.{class_within, lex_within, lexed_within}
use Rattle.script_lexer.specs.Texts.{part, word_seen, after_of, words_of, line_seen, InLine, feeds_before, BeginsLine, LineFits, fault_seen, ending_seen, lines_before}
use Rattle.script_lexer.specs.declared.places.Span.{Span}
use Rattle.script_lexer.specs.declared.places.Line.{Line}
use Rattle.script_lexer.specs.declared.places.LexFault.{LexFault}

-- the lines and words so far, how many lines have ended, and for the line that is being read its start, the number of its first word, the
-- start of the word that is being read, and whether a comment has begun
pub record Places : Type 0 where
  pub lines : List Line
  pub words : List Span
  pub ended : ℕ
  pub start : ℕ
  pub first : ℕ
  pub open_word : Option ℕ
  pub in_comment : Bool

abbrev pub no_places : Places
no_places = record { lines = []; words = []; ended = 0; start = 0; first = 0; open_word = None; in_comment = false }

abbrev pub closed_from : Option ℕ → ℕ → Places → Places
closed_from None at p = p
closed_from (Some from) at p = record p { words = p.words ++ (record { from = from; to = at } ∷ []); open_word = None }

-- the word that is being read ends before this place
abbrev pub closed : ℕ → Places → Places
closed at p = closed_from p.open_word at p

-- the line that is being read is kept, if it has a word
abbrev pub line_kept : Places → Places
line_kept p = cond (p.first == length p.words) p (record p {
  lines = p.lines ++ (record { number = p.ended + 1; start = p.start; first = p.first; count = length p.words - p.first } ∷ []);
})

-- the next line begins after this place
abbrev pub next_line_at : ℕ → Places → Places
next_line_at at p = record p { ended = p.ended + 1; start = at + 1; first = length p.words; in_comment = false }

abbrev pub begun_in : Bool → Option ℕ → ℕ → ℕ → Places → Places
begun_in true word byte at p = p
begun_in false (Some from) byte at p = p
begun_in false None byte at p = cond (byte == 35) (record p { in_comment = true }) (record p { open_word = Some at })

-- the byte at this place is part of a word or of a comment
abbrev pub begun : ℕ → ℕ → Places → Places
begun byte at p = begun_in p.in_comment p.open_word byte at p

abbrev pub open_seen : List ℕ → ℕ → Option ℕ → List ℕ
open_seen bytes at None = []
open_seen bytes at (Some from) = reverse (part from at bytes)

-- the scan of the line up to this place
abbrev pub scan_seen : List ℕ → ℕ → Places → Scan
scan_seen bytes at p = record {
  number = p.ended + 1;
  column = at - p.start + 1;
  bytes = reverse (part p.start at bytes);
  words = map (word_seen bytes p.start) (drop p.first p.words);
  after = after_of p.start (drop p.first p.words);
  open_word = open_seen bytes at p.open_word;
  in_comment = p.in_comment;
}

abbrev pub kept_seen : List ℕ → Places → List LineOfWords
kept_seen bytes p = map (line_seen bytes p.words) p.lines

abbrev pub behind : List LineOfWords → Lexed → Lexed
behind lines lexed = record { lines = lines ++ lexed.lines; ending = lexed.ending }

-- the lines and ending of the whole text, from what was read of it and what is still to come
abbrev pub to_come : ℕ → List ℕ → ℕ → Places → Lexed
to_come most_line bytes at p = behind (kept_seen bytes p) (lex_within most_line (scan_seen bytes at p) (drop at bytes))

-- the word that is being read, if any, begins within its line and outside a comment
abbrev pub OpenIn : ℕ → ℕ → Bool → Option ℕ → Type 0
OpenIn start at in_comment None = Unit
OpenIn start at in_comment (Some from) = (start ≤ from) × (from < at) × (in_comment ≡ false)

-- what holds for the places between two bytes
pub record Sound (bytes : List ℕ) (at : ℕ) (p : Places) : Type 0 where
  pub inside : at ≤ length bytes
  pub start_before : p.start ≤ at
  pub first_within : p.first ≤ length p.words
  pub ended_before : p.ended ≤ p.start
  pub begins : BeginsLine bytes p.start
  pub started : p.ended ≡ feeds_before p.start bytes
  pub fed : p.ended ≡ feeds_before at bytes
  pub open_within : OpenIn p.start at p.in_comment p.open_word
  pub after_within : after_of p.start (drop p.first p.words) + p.start ≤ at + 1
  pub spans_within : All (InLine p.start at) (drop p.first p.words)
  pub lines_fit : All (LineFits bytes p.words) p.lines
  pub laid : words_of p.words p.lines ≡ take p.first p.words

-- the text goes on, or ends here with a fault
abbrev pub WentOn : ℕ → List ℕ → ℕ → Places → Option LexFault → Lexed → Type 0
WentOn most_line bytes at p None whole = (Sound bytes at p) × (to_come most_line bytes at p ≡ whole)
WentOn most_line bytes at p (Some fault) whole =
    (All (LineFits bytes p.words) p.lines) × (p.ended ≤ p.start) × (p.start ≤ length bytes)
    × (behind (kept_seen bytes p) (ends (fault_seen fault)) ≡ whole) × (lines_before (fault_seen fault) ≡ p.ended)
    × (take (length (words_of p.words p.lines)) p.words ≡ words_of p.words p.lines)

-- the role of the byte at a place
abbrev pub class_at : ℕ → List ℕ → ℕ → Places → ByteClass
class_at most_line bytes at p = class_within most_line (get_or bytes at 0) (begins_with 10 (drop (at + 1) bytes)) (at - p.start + 1)

-- a text has the same byte at a place as these bytes, in the same role
abbrev pub SameByte : ℕ → List ℕ → List ℕ → ℕ → Places → Type 0
SameByte most_line bytes text at p =
    (at < length text) × (get_or text at 0 ≡ get_or bytes at 0) × (class_at most_line text at p ≡ class_at most_line bytes at p)

-- the byte at a place has been read: each text with that byte goes on in this way, or ends here with this fault
abbrev pub Looked : ℕ → List ℕ → ℕ → Places → Places → Option LexFault → Type 0
Looked most_line bytes at p q fault =
    (text : List ℕ) → SameByte most_line bytes text at p → Sound text at p → WentOn most_line text (at + 1) q fault (to_come most_line text at p)

-- how many of these bytes can be classified: a carriage return at the end has to wait for the byte after it
abbrev pub settled : List ℕ → ℕ
settled bytes = cond (slice_index bytes (length bytes - 1) == 13) (length bytes - 1) (length bytes)

-- the bytes before a place can be classified, if `more` follows all of these bytes
abbrev pub IsSettled : ℕ → List ℕ → List ℕ → Type 0
IsSettled at bytes more = (at ≤ settled bytes) ⊎ (more ≡ [])

-- the bytes before a place have been read: each text that begins with all of these bytes goes on in this way
abbrev pub IsRead : ℕ → List ℕ → ℕ → Places → Option LexFault → Type 0
IsRead most_line bytes at p fault =
    (more : List ℕ) → IsSettled at bytes more → WentOn most_line (bytes ++ more) at p fault (lexed_within most_line (bytes ++ more))

-- lines and words were added, and none was removed
abbrev pub Grown : Places → Places → Type 0
Grown p q = (take (length p.lines) q.lines ≡ p.lines) × (take (length p.words) q.words ≡ p.words)

-- how many lines a text has that ends here: a last one without a line feed counts if it has a byte
abbrev pub lines_up_to : Option LexFault → ℕ → Places → ℕ
lines_up_to None size p = cond (p.start == size) p.ended (p.ended + 1)
lines_up_to (Some fault) size p = p.ended

-- the places of a whole text, up to its first fault
pub record Scanned (most_line : ℕ) (bytes : List ℕ) (p : Places) (fault : Option LexFault) : Type 0 where
  pub lines_fit : All (LineFits bytes p.words) p.lines
  pub ended_before : p.ended ≤ p.start
  pub start_before : p.start ≤ length bytes
  pub whole : record { lines = kept_seen bytes p; ending = ending_seen fault (lines_up_to fault (length bytes) p) } ≡ lexed_within most_line bytes
  pub counted : lines_before (lexed_within most_line bytes).ending ≡ lines_up_to fault (length bytes) p
  pub begin : take (length (words_of p.words p.lines)) p.words ≡ words_of p.words p.lines
  pub all : fault ≡ None → p.words ≡ words_of p.words p.lines
