-- The forms of the parts of a line, and how a line's parts are read from left to right. A fault is the column of the first word that
-- doesn't fit, or the column after the line's last word if a word is missing. The forms are this project's own choice. A form that
-- accepts more in version 2 of the language carries the version.
use Rattle.std.specs.Prelude.{ℕ, ℤ, ◌+◌, ◌-◌, Bool, ◌||◌, cond, List, [], ◌∷◌, drop, Option, Some, None, Result, Ok, Err, bytes_eq, codes}
use Rattle.std.specs.List.{join_with_byte}
use Rattle.word_model.specs.Numbers.{whole_of, length_of, signed_of, percent_of, number_of}
use Rattle.px_units.specs.declared.BoxKind.{BoxKind}
use Rattle.layout_model.specs.Styles.{Declaration}
use Rattle.text_io.specs.declared.kinds.EventKind.{EventKind}
use Rattle.text_io.specs.declared.kinds.Version.{Version}
use Rattle.text_io.specs.declared.kinds.Version.TheVariants.{First, Second}
use Rattle.script_model.specs.Queries.{MediaQuery}
use Rattle.script_model.specs.Syntax.{Operand, Aim, Dimension}
use Rattle.script_model.specs.Readers.{◌>>=◌, or_fault, with_fault}
use Rattle.script_model.specs.Keywords.{lookup}
use Rattle.script_model.specs.Lexing.{Word, Row}
use Rattle.script_model.specs.Words.{name_of, node_of, aim_of, or_dash, just, events, boxes, dimensions}
use Rattle.script_model.specs.Properties.{property_of}
use Rattle.script_model.specs.Media.{query_list}

-- what a reader reads from a line, with the words that are left, or a fault
abbrev pub Taken : Type 0 → Type 0
Taken A = Result (A × Row) ℕ

unfoldable pub next_in : List Word → Row → Taken Word
next_in [] row = Err row.after
next_in (w ∷ ws) row = Ok (w, record row { left = ws })

-- the next word; a fault if none is left
unfoldable pub next_of : Row → Taken Word
unfolding next_in
next_of row = next_in row.left row

-- the next word, as this reader reads it
unfoldable pub word_as : {A : Type 0} → (List ℕ → Option A) → Row → Taken A
unfolding next_of
word_as of row =
    next_of row >>= λ next. or_fault next.0.column (of next.0.text) >>= λ value. Ok (value, next.1)

unfoldable pub none_in : List Word → Result (Unit {0}) ℕ
none_in [] = Ok tt
none_in (w ∷ ws) = Err w.column

-- a fault if a word is left
unfoldable pub none_left : Row → Result (Unit {0}) ℕ
unfolding none_in
none_left row = none_in row.left

-- a property of the version, and a value of the property
unfoldable pub declaration_as : Version → Row → Taken Declaration
unfolding word_as property_of
declaration_as version row = word_as (property_of version) row >>= λ property. word_as property.0 property.1

-- the words before the first one that passes a test
unfoldable pub words_before : (List ℕ → Bool) → List Word → List (List ℕ)
words_before stops [] = []
words_before stops (w ∷ ws) = cond (stops w.text) [] (w.text ∷ words_before stops ws)

-- that word and those after it
unfoldable pub words_from : (List ℕ → Bool) → List Word → List Word
words_from stops [] = []
words_from stops (w ∷ ws) = cond (stops w.text) (w ∷ ws) (words_from stops ws)

-- a margin ends before the word `threshold`, in version 2 also before `scroll`
abbrev pub ends_margin : Version → List ℕ → Bool
ends_margin First word = bytes_eq word (codes "threshold")
ends_margin Second word = bytes_eq word (codes "threshold") || bytes_eq word (codes "scroll")

-- the words of a margin, joined by one space
unfoldable pub margin_as : Version → Row → Taken (List ℕ)
unfolding words_before words_from
margin_as version row =
    Ok (
      join_with_byte 32 (words_before (ends_margin version) row.left),
      record row { left = words_from (ends_margin version) row.left },
    )

-- a margin after the word `scroll`, if that is the next word
unfoldable pub scroll_in : List Word → Row → Taken (Option (List ℕ))
unfolding margin_as
scroll_in [] row = Ok (None, row)
scroll_in (w ∷ ws) row =
    cond (bytes_eq w.text (codes "scroll"))
    (margin_as Second (record row { left = ws }) >>= λ margin. Ok (Some margin.0, margin.1))
    (Ok (None, row))

-- a scroll margin, which scripts of version 1 don't have
unfoldable pub scroll_as : Version → Row → Taken (Option (List ℕ))
unfolding scroll_in
scroll_as First row = Ok (None, row)
scroll_as Second row = scroll_in row.left row

-- a margin, and a scroll margin if there is one
abbrev pub MarginTexts : Type 0
MarginTexts = List ℕ × Option (List ℕ)

unfoldable pub margins_as : Version → Row → Taken MarginTexts
unfolding margin_as scroll_as
margins_as version row =
    margin_as version row >>= λ margin. scroll_as version margin.1 >>= λ scroll. Ok ((margin.0, scroll.0), scroll.1)

unfoldable pub numbers_of : List Word → Result (List ℤ) ℕ
unfolding number_of
numbers_of [] = Ok []
numbers_of (w ∷ ws) =
    or_fault w.column (number_of w.text) >>= λ number. numbers_of ws >>= λ others. Ok (number ∷ others)

-- all words that are left, each of which has to be a number
unfoldable pub numbers_as : Row → Taken (List ℤ)
unfolding numbers_of
numbers_as row = numbers_of row.left >>= λ numbers. Ok (numbers, record row { left = [] })

-- the text from this word to the end of the line's last word, as a media query list
unfoldable pub query_from : Word → Row → Taken (List MediaQuery)
unfolding query_list
query_from first row =
    with_fault (λ column. first.column + (column - 1)) (query_list (drop (first.column - 1) row.bytes)) >>= λ queries.
    Ok (queries, record row { left = [] })

unfoldable pub query_as : Row → Taken (List MediaQuery)
unfolding next_of query_from
query_as row = next_of row >>= λ next. query_from next.0 row

pub data Form : Type 0 where
  NameForm : Form
  NodeForm : Form
  AimForm : Form
  HandlerForm : Form
  RootForm : Form
  LengthForm : Form
  SignedForm : Form
  PercentForm : Form
  WholeForm : Form
  EventForm : Form
  BoxForm : (version : Version) → Form
  DimensionForm : Form
  DeclarationForm : (version : Version) → Form
  JustForm : (word : List ℕ) → Form
  MarginForm : (version : Version) → Form
  NumbersForm : Form
  QueryForm : Form

-- the type of value that a part of this form stands for
abbrev pub Meant : Form → Type 0
Meant NameForm = List ℕ
Meant NodeForm = Operand
Meant AimForm = Aim
Meant HandlerForm = Option (List ℕ)
Meant RootForm = Option Operand
Meant LengthForm = ℕ
Meant SignedForm = ℤ
Meant PercentForm = ℕ
Meant WholeForm = ℕ
Meant EventForm = EventKind
Meant (BoxForm version) = BoxKind
Meant DimensionForm = Dimension
Meant (DeclarationForm version) = Declaration
Meant (JustForm word) = Unit {0}
Meant (MarginForm version) = MarginTexts
Meant NumbersForm = List ℤ
Meant QueryForm = List MediaQuery

-- reads the next part of a line, which has to have this form
unfoldable pub part_as : (form : Form) → Row → Taken (Meant form)
unfolding word_as name_of node_of aim_of or_dash length_of signed_of percent_of whole_of lookup declaration_as just margins_as numbers_as query_as
part_as NameForm row = word_as name_of row
part_as NodeForm row = word_as node_of row
part_as AimForm row = word_as aim_of row
part_as HandlerForm row = word_as (or_dash name_of) row
part_as RootForm row = word_as (or_dash node_of) row
part_as LengthForm row = word_as length_of row
part_as SignedForm row = word_as signed_of row
part_as PercentForm row = word_as percent_of row
part_as WholeForm row = word_as whole_of row
part_as EventForm row = word_as (lookup events) row
part_as (BoxForm version) row = word_as (lookup (boxes version)) row
part_as DimensionForm row = word_as (lookup dimensions) row
part_as (DeclarationForm version) row = declaration_as version row
part_as (JustForm word) row = word_as (just word) row
part_as (MarginForm version) row = margins_as version row
part_as NumbersForm row = numbers_as row
part_as QueryForm row = query_as row

-- the functions that make a value from the parts of these forms
abbrev pub From : List Form → Type 0 → Type 0
From [] A = A
From (form ∷ forms) A = Meant form → From forms A

-- the value that the words of a line make; all words have to be used
unfoldable pub made : {A : Type 0} (forms : List Form) → From forms A → Row → Result A ℕ
unfolding none_left part_as
made [] value row = none_left row >>= λ end. Ok value
made (form ∷ forms) makes row = part_as form row >>= λ part. made forms (makes part.0) part.1
