-- What places in a text stand for: the words between them.
use Rattle.std.specs.Prelude.{◌≡◌, ℕ, ◌+◌, ◌-◌, ◌<◌, ◌≤◌, ◌==◌, List, length, take, drop, map, slice_index, Option, Some, None}
use Rattle.std.specs.List.{All, fold, count_by, flat_map}
use Rattle.script_model.specs.Lexing.{Word, Line as LineOfWords, Ending, Whole, BadByte as BadByteAt, LongLine, Lexed}
use Rattle.script_lexer.specs.declared.places.Span.{Span}
use Rattle.script_lexer.specs.declared.places.Line.{Line}
use Rattle.script_lexer.specs.declared.places.LexFault.{LexFault}
use Rattle.script_lexer.specs.declared.places.LexFault.TheVariants.{BadByte, LineTooLong}

-- a text, the places of its lines and words, how many lines it has, and what ended it
pub record TextParts : Type 0 where
  pub bytes : List ℕ
  pub lines : List Line
  pub words : List Span
  pub line_count : ℕ
  pub fault : Option LexFault

-- the bytes from one place up to another
abbrev pub part : ℕ → ℕ → List ℕ → List ℕ
part from to bytes = take (to - from) (drop from bytes)

-- a word of a line that begins at `start`
abbrev pub word_seen : List ℕ → ℕ → Span → Word
word_seen bytes start span = record { column = span.from - start + 1; text = part span.from span.to bytes }

-- the column after the last of these words
abbrev pub after_of : ℕ → List Span → ℕ
after_of start spans = fold (λ before span. span.to - start + 1) 1 spans

-- the words of a line
abbrev pub line_words : List Span → Line → List Span
line_words words line = take line.count (drop line.first words)

-- the words of all these lines, in order
abbrev pub words_of : List Span → List Line → List Span
words_of words lines = flat_map (line_words words) lines

abbrev pub line_seen : List ℕ → List Span → Line → LineOfWords
line_seen bytes words line = record {
  number = line.number;
  row = record {
    left = map (word_seen bytes line.start) (line_words words line);
    after = after_of line.start (line_words words line);
    bytes = take (after_of line.start (line_words words line) - 1) (drop line.start bytes);
  };
}

abbrev pub fault_seen : LexFault → Ending
fault_seen (BadByte line column) = BadByteAt line column
fault_seen (LineTooLong line) = LongLine line

abbrev pub ending_seen : Option LexFault → ℕ → Ending
ending_seen None line_count = Whole (line_count + 1)
ending_seen (Some fault) line_count = fault_seen fault

-- the lines, words and ending that a text's places stand for
abbrev pub text_seen : TextParts → Lexed
text_seen text = record {
  lines = map (line_seen text.bytes text.words) text.lines;
  ending = ending_seen text.fault text.line_count;
}

-- how many lines end before the place where a text ends
abbrev pub lines_before : Ending → ℕ
lines_before (Whole next_line) = next_line - 1
lines_before (BadByteAt line column) = line - 1
lines_before (LongLine line) = line - 1

-- a word between two places
abbrev pub InLine : ℕ → ℕ → Span → Type 0
InLine start end span = (start ≤ span.from) × (span.from < span.to) × (span.to ≤ end)

-- how many line feeds there are before a place
abbrev pub feeds_before : ℕ → List ℕ → ℕ
feeds_before place bytes = count_by (λ byte. byte == 10) (take place bytes)

-- a line begins at 0 and directly after each line feed
abbrev pub BeginsLine : List ℕ → ℕ → Type 0
BeginsLine bytes place = 0 < place → slice_index bytes (place - 1) ≡ 10

-- the start of a line is where a line begins, its number is that of this line, and its words exist, each between its start and the end of
-- the text
pub record LineFits (bytes : List ℕ) (words : List Span) (line : Line) : Type 0 where
  pub begins : BeginsLine bytes line.start
  pub numbered : line.number ≡ feeds_before line.start bytes + 1
  pub counted : line.first + line.count ≤ length words
  pub within : All (InLine line.start (length bytes)) (line_words words line)

-- the bytes that a lexer was fed, and the maximum number of bytes of a line
pub record Fed : Type 0 where
  pub text : List ℕ
  pub most_line : ℕ
