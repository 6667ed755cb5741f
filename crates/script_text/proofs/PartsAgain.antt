-- The parts of a line are read as what they stand for.
use Rattle.std.proofs.Common.{◌≡◌, ℕ, ℤ, ◌+◌, Bool, true, false, cond, ◌&&◌, ◌==◌, List, [], ◌∷◌, ◌++◌, length, Some, None, refl, ap, sym, ◌∙◌, subst, append-nil, append_assoc}
use Rattle.std.specs.Prelude.{Option, Result, Ok, ◌||◌, bytes_eq, map, codes}
use Rattle.std.specs.List.{list_all, join_with_byte}
use Rattle.std.proofs.lemmas.Bool.{and_parts, eqb-true}
use Rattle.std.proofs.lemmas.Slice.Eq.{bytes_eq-Decides}
use Rattle.word_model.specs.Numbers.{decimal, length_of, signed_of, percent_of, whole_of}
use Rattle.word_model.proofs.RoundTrip.{reads_back}
use Rattle.layout_model.specs.Styles.{Declaration}
use Rattle.text_io.specs.Kinds.{event_word}
use Rattle.text_io.specs.declared.kinds.Version.{Version}
use Rattle.text_io.specs.declared.kinds.Version.TheVariants.{First, Second}
use Rattle.script_model.specs.Readers.{◌>>=◌, or_fault}
use Rattle.script_model.specs.Keywords.{lookup}
use Rattle.script_model.specs.Lexing.{Word, Row}
use Rattle.script_model.specs.Words.{name_of, node_of, aim_of, or_dash, just, events, boxes, dimensions}
use Rattle.script_model.specs.MarginText.{before_first, split_at_spaces, parts_of}
use Rattle.script_model.specs.Properties.{ValueReader, property_of}
use Rattle.script_model.specs.Forms.{Taken, next_in, next_of, word_as, none_in, none_left, declaration_as, words_before, words_from, ends_margin, margin_as, scroll_in, scroll_as, MarginTexts, margins_as, numbers_of, numbers_as, Form, NameForm, NodeForm, AimForm, HandlerForm, RootForm, LengthForm, SignedForm, PercentForm, WholeForm, EventForm, BoxForm, DimensionForm, DeclarationForm, JustForm, MarginForm, NumbersForm, QueryForm, Meant, part_as, From, made}
use Rattle.media_queries.specs.LengthText.{length_text}
use Rattle.script_text.specs.NumberText.{percent_text, signed_text, number_text}
use Rattle.script_text.specs.WordText.{operand_text, aim_text, dash_or, box_text, dimension_text}
use Rattle.script_text.specs.Parts.{scroll_words, part_words, all_words}
use Rattle.script_text.specs.Entries.{Entry, Values, ValuesOf, parts, parts_behind}
use Rattle.script_text.specs.DeclarationText.{property_text, value_text}
use Rattle.script_text.specs.WellFormed.{IsMargin, is_margin_word, IsScrollMargin, IsDeclaration, AreNumbers, IsMeant, AreMeant}
use Rattle.script_text.proofs.FormParts.{bytes_same}
use Rattle.script_text.proofs.NumbersAgain.{percent_again, length_again, signed_again, number_again}
use Rattle.script_text.proofs.WordBytes.{IsWord, not_true, is_word, as_word}
use Rattle.script_text.proofs.WordsAgain.{name_again, node_again, aim_again, handler_again, root_again, event_again, box_again, dimension_again}
use Rattle.script_text.proofs.DeclarationsAgain.{declaration_again}

-- words with one space behind each, the first at this column
unfoldable pub words_at : ℕ → List (List ℕ) → List Word
words_at column [] = []
words_at column (t ∷ ts) = record { column = column; text = t } ∷ words_at (column + length t + 1) ts

unfoldable pub past : ℕ → List (List ℕ) → ℕ
past column [] = column
past column (t ∷ ts) = past (column + length t + 1) ts

pub words_parted : (column : ℕ) (ts us : List (List ℕ)) → words_at column (ts ++ us) ≡ words_at column ts ++ words_at (past column ts) us
unfolding words_at past
words_parted column [] us = refl
words_parted column (t ∷ ts) us = ap (λ (ws : List Word). record { column = column; text = t } ∷ ws) (words_parted (column + length t + 1) ts us)

abbrev pub row : List Word → ℕ → List ℕ → Row
row words after bytes = record { left = words; after = after; bytes = bytes }

-- a row is read as this value, with these words left
abbrev pub Gives : {A : Type 0} → (Row → Taken A) → A → List Word → List Word → Type 0
Gives reader value words rest = (after : ℕ) (bytes : List ℕ) → reader (row words after bytes) ≡ Ok (value, row rest after bytes)

pub word_read : {A : Type 0} (of : List ℕ → Option A) (value : A) (column : ℕ) (text : List ℕ) (rest : List Word) → of text ≡ Some value
    → Gives (word_as of) value (record { column = column; text = text } ∷ rest) rest
unfolding word_as next_of next_in
word_read {A} of value column text rest h after bytes =
    ap (λ (found : Option A). or_fault column found >>= λ value. Ok (value, row rest after bytes)) h

declaration_read : (version : Version) (declaration : Declaration) → IsDeclaration version declaration → (column : ℕ) (rest : List Word)
    → Gives (declaration_as version) declaration (words_at column (property_text declaration ∷ value_text declaration ∷ []) ++ rest) rest
unfolding declaration_as words_at
declaration_read version declaration h column rest after bytes =
    let again = declaration_again version declaration h in
    let second : List Word = words_at (column + length (property_text declaration) + 1) (value_text declaration ∷ []) ++ rest in
    ap (λ (r : Taken ValueReader). r >>= λ property. word_as property.0 property.1) (word_read (property_of version) again.reader column (property_text declaration) second again.named after bytes)
    ∙ word_read again.reader declaration (column + length (property_text declaration) + 1) (value_text declaration) rest again.again.read after bytes

-- Margins.

no_stop : (version : Version) (word : List ℕ) → is_margin_word version word ≡ true → ends_margin version word ≡ false
unfolding is_margin_word
no_stop version word h = not_true (ends_margin version word) (and_parts _ _ h).1

-- words that end a margin, or the line's end
abbrev pub StopsAt : Version → List Word → Type 0
StopsAt version [] = Unit {0}
StopsAt version (w ∷ ws) = ends_margin version w.text ≡ true

stop_before : (version : Version) (rest : List Word) → StopsAt version rest → words_before (ends_margin version) rest ≡ []
unfolding words_before
stop_before version [] h = refl
stop_before version (w ∷ ws) h = ap (λ t. cond t [] (w.text ∷ words_before (ends_margin version) ws)) h

stop_from : (version : Version) (rest : List Word) → StopsAt version rest → words_from (ends_margin version) rest ≡ rest
unfolding words_from
stop_from version [] h = refl
stop_from version (w ∷ ws) h = ap (λ t. cond t (w ∷ ws) (words_from (ends_margin version) ws)) h

before_stop : (version : Version) (column : ℕ) (ts : List (List ℕ)) (rest : List Word) → list_all (is_margin_word version) ts ≡ true → StopsAt version rest
    → words_before (ends_margin version) (words_at column ts ++ rest) ≡ ts
unfolding words_before words_at
before_stop version column [] rest all stops = stop_before version rest stops
before_stop version column (t ∷ ts) rest all stops =
    let next : List Word = words_at (column + length t + 1) ts ++ rest in
    ap (λ b. cond b [] (t ∷ words_before (ends_margin version) next)) (no_stop version t (and_parts _ _ all).0)
    ∙ ap (λ (us : List (List ℕ)). t ∷ us) (before_stop version (column + length t + 1) ts rest (and_parts _ _ all).1 stops)

from_stop : (version : Version) (column : ℕ) (ts : List (List ℕ)) (rest : List Word) → list_all (is_margin_word version) ts ≡ true → StopsAt version rest
    → words_from (ends_margin version) (words_at column ts ++ rest) ≡ rest
unfolding words_from words_at
from_stop version column [] rest all stops = stop_from version rest stops
from_stop version column (t ∷ ts) rest all stops =
    let next : List Word = words_at (column + length t + 1) ts ++ rest in
    ap (λ b. cond b (record { column = column; text = t } ∷ next) (words_from (ends_margin version) next)) (no_stop version t (and_parts _ _ all).0)
    ∙ from_stop version (column + length t + 1) ts rest (and_parts _ _ all).1 stops

joined_first : (b : ℕ) (texts : List (List ℕ)) → join_with_byte 32 (before_first b texts) ≡ b ∷ join_with_byte 32 texts
unfolding before_first
joined_first b [] = refl
joined_first b (t ∷ []) = refl
joined_first b (t ∷ u ∷ us) = refl

split_some : (text : List ℕ) → (first : List ℕ) × (others : List (List ℕ)) × (split_at_spaces text ≡ first ∷ others)
unfolding split_at_spaces before_first
split_some [] = ([], [], refl)
split_some (b ∷ bs) =
    let behind = split_some bs in
    elim (b == 32) as (λ v. (first : List ℕ) × (others : List (List ℕ)) × (cond v ([] ∷ split_at_spaces bs) (before_first b (split_at_spaces bs)) ≡ first ∷ others)) [
      | true ↦ ([], split_at_spaces bs, refl)
      | false ↦ (b ∷ behind.0, behind.1, ap (before_first b) behind.2)
    ]

space_joined : (texts : List (List ℕ)) (first : List ℕ) (others : List (List ℕ)) → texts ≡ first ∷ others → join_with_byte 32 ([] ∷ texts) ≡ 32 ∷ join_with_byte 32 texts
space_joined texts first others e = subst (λ (ts : List (List ℕ)). join_with_byte 32 ([] ∷ ts) ≡ 32 ∷ join_with_byte 32 ts) (sym e) refl

split_joined : (text : List ℕ) → join_with_byte 32 (split_at_spaces text) ≡ text
unfolding split_at_spaces
split_joined [] = refl
split_joined (b ∷ bs) =
    let some = split_some bs in
    elim (b == 32) as (λ v. (b == 32) ≡ v → join_with_byte 32 (cond v ([] ∷ split_at_spaces bs) (before_first b (split_at_spaces bs))) ≡ b ∷ bs) [
      | true ↦ λ e.
          space_joined (split_at_spaces bs) some.0 some.1 some.2 ∙ ap (λ (t : List ℕ). 32 ∷ t) (split_joined bs) ∙ ap (λ c. c ∷ bs) (sym (eqb-true b 32 e))
      | false ↦ λ e. joined_first b (split_at_spaces bs) ∙ ap (λ (t : List ℕ). b ∷ t) (split_joined bs)
    ] refl

pub parts_joined : (margin : List ℕ) → join_with_byte 32 (parts_of margin) ≡ margin
unfolding parts_of
parts_joined [] = refl
parts_joined (b ∷ bs) = split_joined (b ∷ bs)

margin_read : (version : Version) (margin : List ℕ) → IsMargin version margin → (column : ℕ) (rest : List Word) → StopsAt version rest
    → Gives (margin_as version) margin (words_at column (parts_of margin) ++ rest) rest
unfolding margin_as
margin_read version margin h column rest stops after bytes =
    ap (λ (ts : List (List ℕ)). Ok (join_with_byte 32 ts, row (words_from (ends_margin version) (words_at column (parts_of margin) ++ rest)) after bytes))
    (before_stop version column (parts_of margin) rest h stops)
    ∙ ap (λ (ws : List Word). Ok (join_with_byte 32 (parts_of margin), row ws after bytes)) (from_stop version column (parts_of margin) rest h stops)
    ∙ ap (λ (text : List ℕ). Ok (text, row rest after bytes)) (parts_joined margin)

-- words that end all margins of a line: `threshold`, or the line's end
abbrev pub EndsMargins : List Word → Type 0
EndsMargins [] = Unit {0}
EndsMargins (w ∷ ws) = bytes_eq w.text (codes "threshold") ≡ true

no_scroll : (text : List ℕ) → bytes_eq text (codes "threshold") ≡ true → bytes_eq text (codes "scroll") ≡ false
no_scroll text h = ap (λ (t : List ℕ). bytes_eq t (codes "scroll")) ((bytes_eq-Decides text (codes "threshold")).0 h)

stops_there : (version : Version) (rest : List Word) → EndsMargins rest → StopsAt version rest
stops_there version [] h = tt
stops_there First (w ∷ ws) h = h
stops_there Second (w ∷ ws) h = ap (λ t. t || bytes_eq w.text (codes "scroll")) h

none_next : (rest : List Word) → EndsMargins rest → Gives (scroll_as Second) None rest rest
unfolding scroll_as scroll_in
none_next [] h after bytes = refl
none_next (w ∷ ws) h after bytes =
    ap (λ (t : Bool). cond {A = Taken (Option (List ℕ))} t (margin_as Second (row ws after bytes) >>= λ margin. Ok (Some margin.0, margin.1)) (Ok (None, row (w ∷ ws) after bytes)))
    (no_scroll w.text h)

scroll_next : (margin : List ℕ) → IsMargin Second margin → (column : ℕ) (rest : List Word) → EndsMargins rest
    → Gives (scroll_as Second) (Some margin) (words_at column (codes "scroll" ∷ parts_of margin) ++ rest) rest
unfolding scroll_as scroll_in words_at
scroll_next margin h column rest ends after bytes =
    ap (λ (r : Taken (List ℕ)). r >>= λ margin. Ok (Some margin.0, margin.1))
    (margin_read Second margin h (column + length (codes "scroll") + 1) rest (stops_there Second rest ends) after bytes)

scroll_read : (version : Version) (scroll : Option (List ℕ)) → IsScrollMargin version scroll → (column : ℕ) (rest : List Word) → EndsMargins rest
    → Gives (scroll_as version) scroll (words_at column (scroll_words scroll) ++ rest) rest
unfolding scroll_as words_at
scroll_read First None h column rest ends after bytes = refl
scroll_read First (Some margin) h column rest ends after bytes = absurd h
scroll_read Second None h column rest ends after bytes = none_next rest ends after bytes
scroll_read Second (Some margin) h column rest ends after bytes = scroll_next margin h column rest ends after bytes

-- a margin ends where a scroll margin begins
scroll_stops : (version : Version) (scroll : Option (List ℕ)) → IsScrollMargin version scroll → (column : ℕ) (rest : List Word) → EndsMargins rest
    → StopsAt version (words_at column (scroll_words scroll) ++ rest)
unfolding words_at
scroll_stops version None h column rest ends = stops_there version rest ends
scroll_stops First (Some margin) h column rest ends = absurd h
scroll_stops Second (Some margin) h column rest ends = refl

margins_read : (version : Version) (margins : MarginTexts) → IsMargin version margins.0 → IsScrollMargin version margins.1 → (column : ℕ) (rest : List Word) → EndsMargins rest
    → Gives (margins_as version) margins (words_at column (parts_of margins.0 ++ scroll_words margins.1) ++ rest) rest
unfolding margins_as
margins_read version margins is scrolled column rest ends after bytes =
    let ts : List (List ℕ) = parts_of margins.0 in
    let next : ℕ = past column ts in
    let behind : List Word = words_at next (scroll_words margins.1) in
    ap (λ (ws : List Word). margins_as version (row ws after bytes))
    (ap (λ (ws : List Word). ws ++ rest) (words_parted column ts (scroll_words margins.1)) ∙ append_assoc (words_at column ts) behind rest)
    ∙ ap (λ (r : Taken (List ℕ)). r >>= λ margin. scroll_as version margin.1 >>= λ scroll. Ok ((margin.0, scroll.0), scroll.1))
    (margin_read version margins.0 is column (behind ++ rest) (scroll_stops version margins.1 scrolled next rest ends) after bytes)
    ∙ ap (λ (r : Taken (Option (List ℕ))). r >>= λ scroll. Ok ((margins.0, scroll.0), scroll.1)) (scroll_read version margins.1 scrolled next rest ends after bytes)

-- Numbers.

numbers_read : (numbers : List ℤ) → AreNumbers numbers → (column : ℕ) → numbers_of (words_at column (map number_text numbers)) ≡ Ok numbers
unfolding numbers_of words_at
numbers_read [] h column = refl
numbers_read (n ∷ ns) h column =
    let next : List Word = words_at (column + length (number_text n) + 1) (map number_text ns) in
    ap (λ (found : Option ℤ). or_fault column found >>= λ number. numbers_of next >>= λ others. Ok (number ∷ others)) (number_again n h.0).read
    ∙ ap (λ (r : Result (List ℤ) ℕ). r >>= λ others. Ok (n ∷ others)) (numbers_read ns h.1 (column + length (number_text n) + 1))

all_numbers : (numbers : List ℤ) → AreNumbers numbers → (column : ℕ) → Gives numbers_as numbers (words_at column (map number_text numbers)) []
unfolding numbers_as
all_numbers numbers h column after bytes =
    ap (λ (r : Result (List ℤ) ℕ). r >>= λ numbers. Ok (numbers, row [] after bytes)) (numbers_read numbers h column)

-- Any part but queries.

just_read : (word : List ℕ) → just word word ≡ Some tt
unfolding just
just_read word = ap (λ b. cond b (Some tt) None) (bytes_same word)

-- what may stand behind a part of this form
abbrev pub Follows : Form → List Word → Type 0
Follows (MarginForm version) rest = EndsMargins rest
Follows NumbersForm rest = rest ≡ []
Follows QueryForm rest = ⊥
Follows (JustForm word) rest = IsWord word
Follows form rest = Unit {0}

no_more : {A : Type 0} (reader : Row → Taken A) (value : A) (words rest : List Word) → rest ≡ [] → Gives reader value words [] → Gives reader value (words ++ rest) rest
no_more reader value words rest none h =
    subst (λ (rest : List Word). Gives reader value (words ++ rest) rest) (sym none) (subst (λ (ws : List Word). Gives reader value ws []) (sym (append-nil words)) h)

pub part_again : (form : Form) (value : Meant form) → IsMeant form value → (column : ℕ) (rest : List Word) → Follows form rest
    → Gives (part_as form) value (words_at column (part_words form value) ++ rest) rest
unfolding part_as words_at
part_again NameForm name h column rest follows = word_read name_of name column name rest (name_again name h).read
part_again NodeForm operand h column rest follows = word_read node_of operand column (operand_text operand) rest (node_again operand h).read
part_again AimForm aim h column rest follows = word_read aim_of aim column (aim_text aim) rest (aim_again aim h).read
part_again HandlerForm handler h column rest follows = word_read (or_dash name_of) handler column (dash_or (λ name. name) handler) rest (handler_again handler h).read
part_again RootForm root h column rest follows = word_read (or_dash node_of) root column (dash_or operand_text root) rest (root_again root h).read
part_again LengthForm units h column rest follows = word_read length_of units column (length_text units) rest (length_again units h).read
part_again SignedForm units h column rest follows = word_read signed_of units column (signed_text units) rest (signed_again units h).read
part_again PercentForm hundredths h column rest follows = word_read percent_of hundredths column (percent_text hundredths) rest (percent_again hundredths h).read
part_again WholeForm number h column rest follows = word_read whole_of number column (decimal number) rest (reads_back number h)
part_again EventForm event h column rest follows = word_read (lookup events) event column (event_word event) rest (event_again event).read
part_again (BoxForm version) box h column rest follows = word_read (lookup (boxes version)) box column (box_text box) rest (box_again version box h).read
part_again DimensionForm dimension h column rest follows = word_read (lookup dimensions) dimension column (dimension_text dimension) rest (dimension_again dimension).read
part_again (DeclarationForm version) declaration h column rest follows = declaration_read version declaration h column rest
part_again (JustForm word) value h column rest follows = word_read (just word) tt column word rest (just_read word)
part_again (MarginForm version) margins h column rest follows = margins_read version margins h.0 h.1 column rest follows
part_again NumbersForm numbers h column rest follows = no_more numbers_as numbers (words_at column (map number_text numbers)) rest follows (all_numbers numbers h column)
part_again QueryForm queries h column rest follows = absurd follows

-- Whole lines.

abbrev is_end : List Form → Bool
is_end [] = true
is_end (form ∷ forms) = false

-- whether these are the forms of what ends all margins: the word `threshold`, or the line's end
abbrev is_stop : List Form → Bool
is_stop [] = true
is_stop (JustForm word ∷ forms) = bytes_eq word (codes "threshold")
is_stop forms = false

-- whether parts of these forms may stand behind a part of this form
abbrev may_follow : Form → List Form → Bool
may_follow (MarginForm version) forms = is_stop forms
may_follow NumbersForm forms = is_end forms
may_follow QueryForm forms = false
may_follow (JustForm word) forms = is_word word
may_follow form forms = true

-- margins stand before `threshold`, numbers at the end, and queries nowhere
abbrev pub stand : List Form → Bool
stand [] = true
stand (form ∷ forms) = may_follow form forms && stand forms

pub follows : (form : Form) (forms : List Form) (values : Values forms) → may_follow form forms ≡ true → (column : ℕ) → Follows form (words_at column (all_words (parts forms values)))
unfolding words_at
follows (MarginForm version) [] values h column = tt
follows (MarginForm version) (JustForm word ∷ forms) values h column = h
follows (MarginForm version) (form ∷ forms) values h column = absurd cc
follows NumbersForm [] values h column = refl
follows NumbersForm (form ∷ forms) values h column = absurd cc
follows QueryForm forms values h column = absurd cc
follows (JustForm word) forms values h column = as_word word h
follows form forms values h column = tt

-- what the values of these parts make
abbrev pub applied : {A : Type 0} (forms : List Form) → From forms A → Values forms → A
applied [] value values = value
applied (form ∷ forms) makes values = applied forms (makes values.0) values.1

pub made_again : {A : Type 0} (forms : List Form) (makes : From forms A) (values : Values forms) → stand forms ≡ true → AreMeant (parts forms values) → (column after : ℕ) (bytes : List ℕ)
    → made forms makes (row (words_at column (all_words (parts forms values))) after bytes) ≡ Ok (applied forms makes values)
unfolding made none_left none_in words_at
made_again [] value values stands h column after bytes = refl
made_again (form ∷ forms) makes values stands h column after bytes =
    let both = and_parts _ _ stands in
    let behind : List (List ℕ) = all_words (parts forms values.1) in
    let next : ℕ = past column (part_words form values.0) in
    ap (λ (ws : List Word). part_as form (row ws after bytes) >>= λ part. made forms (makes part.0) part.1) (words_parted column (part_words form values.0) behind)
    ∙ ap (λ (r : Taken (Meant form)). r >>= λ part. made forms (makes part.0) part.1)
    (part_again form values.0 h.0 column (words_at next behind) (follows form forms values.1 both.0 next) after bytes)
    ∙ made_again forms (makes values.0) values.1 both.1 h.1 next after bytes

-- What stands behind a word of a table.

abbrev pub stands : {A : Type 0} → Option (Entry A) → Bool
stands None = false
stands (Some entry) = stand entry.forms

abbrev pub made_of : {A : Type 0} (entry : Option (Entry A)) → ValuesOf entry → A
made_of None values = absurd values
made_of (Some entry) values = applied entry.forms entry.makes values

-- a row is read as what the values make
abbrev pub IsMadeOf : {A : Type 0} (entry : Option (Entry A)) → ValuesOf entry → Row → Type 0
IsMadeOf None values r = ⊥
IsMadeOf (Some entry) values r = made entry.forms entry.makes r ≡ Ok (applied entry.forms entry.makes values)

pub phrase_again : {A : Type 0} (entry : Option (Entry A)) (values : ValuesOf entry) → stands entry ≡ true → AreMeant (parts_behind entry values) → (column after : ℕ) (bytes : List ℕ)
    → IsMadeOf entry values (row (words_at column (all_words (parts_behind entry values))) after bytes)
phrase_again None values stands h column after bytes = absurd values
phrase_again (Some entry) values stands h column after bytes = made_again entry.forms entry.makes values stands h column after bytes
