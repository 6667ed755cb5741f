-- The lines and words of a script's text, and the first fault among its bytes. All of this is this project's own choice. Lines and
-- columns are numbered from 1; a column is the position of a byte in its line.
use Rattle.std.specs.Prelude.{ℕ, ◌+◌, ◌-◌, Bool, true, false, cond, ◌&&◌, ◌||◌, ◌==◌, nat_lt, nat_le, List, [], ◌∷◌, ◌++◌, length, take, reverse}
use Rattle.word_model.specs.Numbers.{begins_with}
use Rattle.text_io.specs.declared.kinds.LimitKind.TheVariants as limits
use Rattle.text_io.specs.Limits.{common_limit}
use Rattle.script_model.specs.Readers.{is_empty}

-- a maximal run of bytes from 33 to 126
pub record Word : Type 0 where
  pub column : ℕ
  pub text : List ℕ

-- words of a line from left to right; `after` is the column after the line's last word, and `bytes` are the bytes of the line before
-- that column
pub record Row : Type 0 where
  pub left : List Word
  pub after : ℕ
  pub bytes : List ℕ

-- a line that has at least one word
pub record Line : Type 0 where
  pub number : ℕ
  pub row : Row

-- how a text ends: completely, with the number of the line after its last one; at a byte that isn't allowed there; or at the 4,097th
-- byte of a line
pub data Ending : Type 0 where
  Whole : (next_line : ℕ) → Ending
  BadByte : (line column : ℕ) → Ending
  LongLine : (line : ℕ) → Ending

-- the lines before the ending, except those without a word
pub record Lexed : Type 0 where
  pub lines : List Line
  pub ending : Ending

-- what has been read of a line: `column` is that of its next byte, `words` are the complete words, and `after` is the column after
-- them. The bytes of the line, and those of the word that is being read, are in reverse order
pub record Scan : Type 0 where
  pub number : ℕ
  pub column : ℕ
  pub bytes : List ℕ
  pub words : List Word
  pub after : ℕ
  pub open_word : List ℕ
  pub in_comment : Bool

unfoldable pub line_start : ℕ → Scan
line_start number = record {
  number = number;
  column = 1;
  bytes = [];
  words = [];
  after = 1;
  open_word = [];
  in_comment = false;
}

-- the word that is being read ends before the next byte
unfoldable pub word_closed : List ℕ → Scan → Scan
word_closed [] s = s
word_closed (b ∷ bs) s = record s {
  words = s.words ++ (record { column = s.column - length (b ∷ bs); text = reverse (b ∷ bs) } ∷ []);
  after = s.column;
  open_word = [];
}

unfoldable pub close_word : Scan → Scan
unfolding word_closed
close_word s = word_closed s.open_word s

-- moves on by one byte
unfoldable pub passed : ℕ → Scan → Scan
passed byte s = record s { column = s.column + 1; bytes = byte ∷ s.bytes }

unfoldable pub space : ℕ → Scan → Scan
unfolding close_word passed
space byte s = passed byte (close_word s)

-- a byte of a word or of a comment; a comment starts at a word that begins with `#`
unfoldable pub word_byte_in : Bool → Bool → ℕ → Scan → Scan
unfolding passed
word_byte_in true fresh byte s = passed byte s
word_byte_in false true byte s = passed byte (record s { in_comment = true })
word_byte_in false false byte s = passed byte (record s { open_word = byte ∷ s.open_word })

unfoldable pub word_byte : ℕ → Scan → Scan
unfolding word_byte_in is_empty
word_byte byte s = word_byte_in s.in_comment (byte == 35 && is_empty s.open_word) byte s

-- the line that was read, if it has a word, before the lines that follow
unfoldable pub line_before : List Word → Scan → Lexed → Lexed
line_before [] s lexed = lexed
line_before (w ∷ ws) s lexed = record lexed {
  lines = record {
    number = s.number;
    row = record { left = w ∷ ws; after = s.after; bytes = take (s.after - 1) (reverse s.bytes) };
  } ∷ lexed.lines;
}

unfoldable pub add_line : Scan → Lexed → Lexed
unfolding line_before
add_line s lexed = line_before s.words s lexed

unfoldable pub ends : Ending → Lexed
ends ending = record { lines = []; ending = ending }

-- the role of a byte in a line
pub data ByteClass : Type 0 where
  LineFeedByte : ByteClass
  LongByte : ByteClass
  SpaceByte : ByteClass
  WordByte : ByteClass
  ForbiddenByte : ByteClass

-- a carriage return is allowed only directly before a line feed
unfoldable pub class_of : ℕ → Bool → ℕ → ByteClass
class_of byte feed_next column =
    cond (byte == 10) LineFeedByte
    (cond (nat_lt (common_limit limits.Line) column) LongByte
    (cond (byte == 32 || byte == 9 || (byte == 13 && feed_next)) SpaceByte
    (cond (nat_le 33 byte && nat_le byte 126) WordByte ForbiddenByte)))

-- what one byte of a text does, and how the scan continues
unfoldable pub look_as : ByteClass → ℕ → Scan → (Scan → Lexed) → Lexed
unfolding close_word space word_byte add_line line_start ends
look_as LineFeedByte byte s on = add_line (close_word s) (on (line_start (s.number + 1)))
look_as LongByte byte s on = ends (LongLine s.number)
look_as SpaceByte byte s on = on (space byte s)
look_as WordByte byte s on = on (word_byte byte s)
look_as ForbiddenByte byte s on = ends (BadByte s.number s.column)

unfoldable pub look_at : ℕ → Bool → Scan → (Scan → Lexed) → Lexed
unfolding class_of look_as
look_at byte feed_next s on = look_as (class_of byte feed_next s.column) byte s on

-- at the end of the text, a last line without a line feed counts as a line if it has a byte
unfoldable pub next_line : Scan → ℕ
next_line s = cond (s.column == 1) s.number (s.number + 1)

unfoldable pub lex_on : Scan → List ℕ → Lexed
unfolding look_at add_line close_word ends next_line begins_with
lex_on s [] = add_line (close_word s) (ends (Whole (next_line s)))
lex_on s (b ∷ bs) = look_at b (begins_with 10 bs) s (λ t. lex_on t bs)

unfoldable pub lexed : List ℕ → Lexed
unfolding lex_on line_start
lexed text = lex_on (line_start 1) text
