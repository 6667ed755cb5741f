-- What the parts of a line are read as is in the grammar's ranges, and their printed words find room where the words that
-- were read stand.
use Rattle.std.proofs.Common.{◌≡◌, ℕ, ℤ, ◌+◌, ◌-◌, ◌≤◌, Bool, true, false, cond, not, ◌&&◌, ◌==◌, List, [], ◌∷◌, ◌++◌, length, drop, Some, None, refl, ap, sym, ◌∙◌, arith, subst, length-drop}
use Rattle.std.specs.Prelude.{Option, Ok, map, bytes_eq, codes}
use Rattle.std.specs.List.{list_all, join_with_byte}
use Rattle.std.proofs.lemmas.Bool.{and_from, and_parts}
use Rattle.std.proofs.lemmas.Bool.Decides.{nat_tests}
use Rattle.std.proofs.lemmas.Slice.Eq.{bytes_eq-Decides}
use Rattle.word_model.specs.Numbers.{begins_with, decimal, length_of, signed_of, percent_of, whole_of, number_of}
use Rattle.layout_model.specs.Styles.{Declaration}
use Rattle.text_io.specs.Kinds.{event_word}
use Rattle.text_io.specs.declared.kinds.Version.{Version}
use Rattle.text_io.specs.declared.kinds.Version.TheVariants.{First, Second}
use Rattle.script_model.specs.Readers.{◌>>=◌, or_fault, with_fault, is_empty}
use Rattle.script_model.specs.Keywords.{lookup}
use Rattle.script_model.specs.Lexing.{Word, Row}
use Rattle.script_model.specs.Lines.{is_word_byte}
use Rattle.script_model.specs.Words.{name_of, node_of, aim_of, or_dash, just, events, boxes, dimensions}
use Rattle.script_model.specs.MarginText.{before_first, split_at_spaces, parts_of}
use Rattle.script_model.specs.Properties.{ValueReader, property_of}
use Rattle.script_model.specs.Media.{query_list}
use Rattle.script_model.specs.Forms.{next_in, next_of, word_as, none_in, none_left, declaration_as, words_before, words_from, ends_margin, margin_as, scroll_in, scroll_as, margins_as, numbers_of, numbers_as, query_from, query_as, Form, NameForm, NodeForm, AimForm, HandlerForm, RootForm, LengthForm, SignedForm, PercentForm, WholeForm, EventForm, BoxForm, DimensionForm, DeclarationForm, JustForm, MarginForm, NumbersForm, QueryForm, Meant, part_as, From, made}
use Rattle.media_queries.specs.LengthText.{length_text}
use Rattle.media_queries.specs.QueryText.{list_text}
use Rattle.media_queries.proofs.Readings.{OnValue, then_on, weaker_on}
use Rattle.script_text.specs.NumberText.{percent_text, signed_text, number_text}
use Rattle.script_text.specs.WordText.{operand_text, aim_text, dash_or, box_text, dimension_text}
use Rattle.script_text.specs.DeclarationText.{property_text, value_text}
use Rattle.script_text.specs.Parts.{Part, PartOf, scroll_words, part_words, all_words}
use Rattle.script_text.specs.WellFormed.{IsName, IsOperand, IfSome, IsNumber, AreNumbers, is_margin_word, IsMargin, IsScrollMargin, IsBox, IsQueryList, IsMeant, AreMeant}
use Rattle.script_text.proofs.WordBytes.{IsWord}
use Rattle.script_text.proofs.Tables.{Each, looked_up}
use Rattle.script_text.proofs.ReadValues.{if_some, Fits, ReadsFit, keyword_fits, name_fits, node_fits, aim_fits, dash_fits, just_fits, length_fits, signed_fits, percent_fits, whole_fits, number_fits}
use Rattle.script_text.proofs.ReadDeclarations.{DeclarationFits, ReaderFits, property_fits}
use Rattle.script_text.proofs.ReadQueries.{queries_fit}
use Rattle.script_text.proofs.ReadRows.{room, room_append, StandFrom, from_earlier, some_room, IsRow, row_earlier, word_on, row_behind}

-- a value with the row behind it, where its printed words would end
record PartRead (form : Form) (column last : ℕ) (read : Meant form × Row) : Type 0 where
  meant : IsMeant form read.0
  row : IsRow (column + room (part_words form read.0)) last read.1

word_part : (form : Form) (of : List ℕ → Option (Meant form)) (text_of : Meant form → List ℕ) → ReadsFit of (IsMeant form) text_of
    → ((value : Meant form) → part_words form value ≡ text_of value ∷ []) → (column last : ℕ) (r : Row) → IsRow column last r → OnValue (PartRead form column last) (word_as of r)
unfolding room
word_part form of text_of reads words column last r row =
    word_on of (PartRead form column last) r (λ w ws e. some w ws e (of w.text) (reads w.text)) where
      some : (w : Word) (ws : List Word) → r.left ≡ w ∷ ws → (found : Option (Meant form)) → IfSome (Fits (IsMeant form) text_of w.text) found
          → IfSome (λ value. PartRead form column last (value, record r { left = ws })) found
      some w ws e None fits = tt
      some w ws e (Some value) fits =
          let behind : IsRow (column + (length (text_of value) + 1)) last (record r { left = ws }) = row_behind column last r w ws (length (text_of value)) fits.1 row e in
          record {
            meant = fits.0;
            row = subst (λ (ts : List (List ℕ)). IsRow (column + room ts) last (record r { left = ws })) (sym (words value))
                (row_earlier (column + room (text_of value ∷ [])) (column + (length (text_of value) + 1)) last (record r { left = ws }) (omega arith) behind);
          }

-- Declarations.

-- what reads a property's values, and the row behind the property's word
record PropertyRead (version : Version) (column last : ℕ) (read : ValueReader × Row) : Type 0 where
  property : List ℕ
  fits : ReaderFits version property read.0
  row : IsRow (column + (length property + 1)) last read.1

property_read : (version : Version) (column last : ℕ) (r : Row) → IsRow column last r → OnValue (PropertyRead version column last) (word_as (property_of version) r)
property_read version column last r row =
    word_on (property_of version) (PropertyRead version column last) r (λ w ws e. some w ws e (property_of version w.text) (property_fits version w.text)) where
      some : (w : Word) (ws : List Word) → r.left ≡ w ∷ ws → (found : Option ValueReader) → IfSome (ReaderFits version w.text) found
          → IfSome (λ reader. PropertyRead version column last (reader, record r { left = ws })) found
      some w ws e None fits = tt
      some w ws e (Some reader) fits = record { property = w.text; fits = fits; row = row_behind column last r w ws (length w.text) (omega arith) row e }

value_read : (version : Version) (column last : ℕ) (reader : ValueReader) (r : Row) → PropertyRead version column last (reader, r) → OnValue (PartRead (DeclarationForm version) column last) (word_as reader r)
unfolding room
value_read version column last reader r p =
    word_on reader (PartRead (DeclarationForm version) column last) r (λ w ws e. some w ws e (reader w.text) (p.fits w.text)) where
      some : (w : Word) (ws : List Word) → r.left ≡ w ∷ ws → (found : Option Declaration) → IfSome (DeclarationFits version p.property w.text) found
          → IfSome (λ declaration. PartRead (DeclarationForm version) column last (declaration, record r { left = ws })) found
      some w ws e None fits = tt
      some w ws e (Some declaration) fits =
          let first = fits.property_short in
          let second = fits.value_short in
          let behind = row_behind (column + (length p.property + 1)) last r w ws (length w.text) (omega arith) p.row e in
          record {
            meant = fits.meant;
            row = row_earlier (column + room (property_text declaration ∷ value_text declaration ∷ [])) (column + (length p.property + 1) + (length w.text + 1)) last (record r { left = ws }) (omega arith) behind;
          }

declaration_read : (version : Version) (column last : ℕ) (r : Row) → IsRow column last r → OnValue (PartRead (DeclarationForm version) column last) (declaration_as version r)
unfolding declaration_as
declaration_read version column last r row =
    then_on (PropertyRead version column last) (PartRead (DeclarationForm version) column last) (word_as (property_of version) r) (λ property. word_as property.0 property.1) (property_read version column last r row)
    (λ property p. value_read version column last property.0 property.1 p)

-- Margins.

before_stop : (stops : List ℕ → Bool) (column last : ℕ) (words : List Word) → StandFrom column last words → StandFrom (column + room (words_before stops words)) last (words_from stops words)
unfolding words_before words_from room StandFrom
before_stop stops column last [] stand = omega (arith, stand)
before_stop stops column last (w ∷ ws) stand = chosen (stops w.text) (before_stop stops (w.column + length w.text + 1) last ws stand.2) where
  chosen : (here : Bool) → StandFrom (w.column + length w.text + 1 + room (words_before stops ws)) last (words_from stops ws)
      → StandFrom (column + room (cond here [] (w.text ∷ words_before stops ws))) last (cond here (w ∷ ws) (words_from stops ws))
  chosen true behind = (omega (arith, stand.0), stand.1, stand.2)
  chosen false behind =
      from_earlier (column + (length w.text + 1 + room (words_before stops ws))) (w.column + length w.text + 1 + room (words_before stops ws)) last (words_from stops ws) (omega (arith, stand.0)) behind

margin_word : (version : Version) (text : List ℕ) → IsWord text → ends_margin version text ≡ false → is_margin_word version text ≡ true
unfolding is_margin_word is_empty begins_with
margin_word version text word other =
    let b : ℕ = word.first in
    let bs : List ℕ = word.others in
    ap (λ (t : List ℕ). not (is_empty t) && list_all is_word_byte t && not (begins_with 35 t) && not (ends_margin version text)) word.text_is
    ∙ ap (λ (t : Bool). t && not (b == 35) && not (ends_margin version text)) word.bytes
    ∙ ap (λ (t : Bool). not t && not (ends_margin version text)) word.no_comment
    ∙ ap not other

before_words : (version : Version) (column last : ℕ) (words : List Word) → StandFrom column last words → list_all (is_margin_word version) (words_before (ends_margin version) words) ≡ true
unfolding words_before StandFrom
before_words version column last [] stand = refl
before_words version column last (w ∷ ws) stand = chosen (ends_margin version w.text) refl (before_words version (w.column + length w.text + 1) last ws stand.2) where
  chosen : (here : Bool) → ends_margin version w.text ≡ here → list_all (is_margin_word version) (words_before (ends_margin version) ws) ≡ true
      → list_all (is_margin_word version) (cond here [] (w.text ∷ words_before (ends_margin version) ws)) ≡ true
  chosen true e behind = refl
  chosen false e behind = and_from _ _ (margin_word version w.text stand.1 e) behind

no_space : (b : ℕ) → is_word_byte b ≡ true → (b == 32) ≡ false
no_space b h = grind (arith, nat_tests)

split_last : (text : List ℕ) → list_all is_word_byte text ≡ true → split_at_spaces text ≡ text ∷ []
unfolding split_at_spaces before_first
split_last [] all = refl
split_last (b ∷ bs) all =
    ap (λ (t : Bool). cond t ([] ∷ split_at_spaces bs) (before_first b (split_at_spaces bs))) (no_space b (and_parts _ _ all).0)
    ∙ ap (before_first b) (split_last bs (and_parts _ _ all).1)

split_first : (text rest : List ℕ) → list_all is_word_byte text ≡ true → split_at_spaces (text ++ (32 ∷ rest)) ≡ text ∷ split_at_spaces rest
unfolding split_at_spaces before_first
split_first [] rest all = refl
split_first (b ∷ bs) rest all =
    let next : List ℕ = bs ++ (32 ∷ rest) in
    ap (λ (t : Bool). cond t ([] ∷ split_at_spaces next) (before_first b (split_at_spaces next))) (no_space b (and_parts _ _ all).0)
    ∙ ap (before_first b) (split_first bs rest (and_parts _ _ all).1)

margin_bytes : (version : Version) (text : List ℕ) → is_margin_word version text ≡ true → list_all is_word_byte text ≡ true
unfolding is_margin_word
margin_bytes version text h = (and_parts _ _ (and_parts _ _ (and_parts _ _ h).0).0).1

split_again : (version : Version) (t : List ℕ) (ts : List (List ℕ)) → list_all (is_margin_word version) (t ∷ ts) ≡ true → split_at_spaces (join_with_byte 32 (t ∷ ts)) ≡ t ∷ ts
split_again version t [] all = split_last t (margin_bytes version t (and_parts _ _ all).0)
split_again version t (u ∷ us) all =
    split_first t (join_with_byte 32 (u ∷ us)) (margin_bytes version t (and_parts _ _ all).0) ∙ ap (λ (ts : List (List ℕ)). t ∷ ts) (split_again version u us (and_parts _ _ all).1)

no_empty : (version : Version) → is_margin_word version [] ≡ true → ⊥
unfolding is_margin_word is_empty
no_empty version h = cc

-- the words of a margin are found again in its text
parts_again : (version : Version) (ts : List (List ℕ)) → list_all (is_margin_word version) ts ≡ true → parts_of (join_with_byte 32 ts) ≡ ts
unfolding parts_of
parts_again version [] all = refl
parts_again version ([] ∷ ts) all = absurd (no_empty version (and_parts (is_margin_word version []) (list_all (is_margin_word version) ts) all).0)
parts_again version ((b ∷ bs) ∷ []) all = split_again version (b ∷ bs) [] all
parts_again version ((b ∷ bs) ∷ u ∷ us) all = split_again version (b ∷ bs) (u ∷ us) all

-- a margin with the row behind it, where its printed words would end
record MarginRead (version : Version) (column last : ℕ) (read : List ℕ × Row) : Type 0 where
  meant : IsMargin version read.0
  row : IsRow (column + room (parts_of read.0)) last read.1

margin_read : (version : Version) (column last : ℕ) (r : Row) → IsRow column last r → OnValue (MarginRead version column last) (margin_as version r)
unfolding margin_as
margin_read version column last r row =
    let words : List (List ℕ) = words_before (ends_margin version) r.left in
    let all : list_all (is_margin_word version) words ≡ true = before_words version column last r.left row.words in
    let parts : words ≡ parts_of (join_with_byte 32 words) = sym (parts_again version words all) in
    record {
      meant = subst (λ (ts : List (List ℕ)). list_all (is_margin_word version) ts ≡ true) parts all;
      row = subst (λ (ts : List (List ℕ)). IsRow (column + room ts) last (record r { left = words_from (ends_margin version) r.left })) parts
          (record { words = before_stop (ends_margin version) column last r.left row.words; bytes = row.bytes });
    }

-- the same of a scroll margin
record ScrollRead (version : Version) (column last : ℕ) (read : Option (List ℕ) × Row) : Type 0 where
  meant : IsScrollMargin version read.0
  row : IsRow (column + room (scroll_words read.0)) last read.1

none_read : (version : Version) (column last : ℕ) (r : Row) → IsRow column last r → ScrollRead version column last (None, r)
unfolding room
none_read version column last r row = record { meant = tt; row = row_earlier (column + 0) column last r (omega arith) row }

some_read : (column last : ℕ) (r : Row) (w : Word) (ws : List Word) → r.left ≡ w ∷ ws → bytes_eq w.text (codes "scroll") ≡ true → IsRow column last r
    → OnValue (ScrollRead Second column last) (margin_as Second (record r { left = ws }) >>= λ margin. Ok (Some margin.0, margin.1))
unfolding room
some_read column last r w ws e word row =
    let long : length w.text ≡ 6 = ap length ((bytes_eq-Decides w.text (codes "scroll")).0 word) in
    let behind : IsRow (column + (6 + 1)) last (record r { left = ws }) = row_behind column last r w ws 6 (omega (arith, long)) row e in
    then_on (MarginRead Second (column + (6 + 1)) last) (ScrollRead Second column last) (margin_as Second (record r { left = ws })) (λ margin. Ok (Some margin.0, margin.1))
    (margin_read Second (column + (6 + 1)) last (record r { left = ws }) behind)
    (λ margin m. record {
      meant = m.meant;
      row = row_earlier (column + room (codes "scroll" ∷ parts_of margin.0)) (column + (6 + 1) + room (parts_of margin.0)) last margin.1 (omega arith) m.row;
    })

scroll_in_read : (column last : ℕ) (words : List Word) (r : Row) → r.left ≡ words → IsRow column last r → OnValue (ScrollRead Second column last) (scroll_in words r)
unfolding scroll_in
scroll_in_read column last [] r e row = none_read Second column last r row
scroll_in_read column last (w ∷ ws) r e row = chosen (bytes_eq w.text (codes "scroll")) refl where
  chosen : (here : Bool) → bytes_eq w.text (codes "scroll") ≡ here
      → OnValue (ScrollRead Second column last) (cond here (margin_as Second (record r { left = ws }) >>= λ margin. Ok (Some margin.0, margin.1)) (Ok (None, r)))
  chosen true h = some_read column last r w ws e h row
  chosen false h = none_read Second column last r row

scroll_read : (version : Version) (column last : ℕ) (r : Row) → IsRow column last r → OnValue (ScrollRead version column last) (scroll_as version r)
unfolding scroll_as
scroll_read First column last r row = none_read First column last r row
scroll_read Second column last r row = scroll_in_read column last r.left r refl row

margins_read : (version : Version) (column last : ℕ) (r : Row) → IsRow column last r → OnValue (PartRead (MarginForm version) column last) (margins_as version r)
unfolding margins_as
margins_read version column last r row =
    then_on (MarginRead version column last) (PartRead (MarginForm version) column last) (margin_as version r) (λ margin. scroll_as version margin.1 >>= λ scroll. Ok ((margin.0, scroll.0), scroll.1))
    (margin_read version column last r row)
    (λ margin m.
    let next : ℕ = column + room (parts_of margin.0) in
    then_on (ScrollRead version next last) (PartRead (MarginForm version) column last) (scroll_as version margin.1) (λ scroll. Ok ((margin.0, scroll.0), scroll.1))
    (scroll_read version next last margin.1 m.row)
    (λ scroll s. record {
      meant = (m.meant, s.meant);
      row = row_earlier (column + room (parts_of margin.0 ++ scroll_words scroll.0)) (next + room (scroll_words scroll.0)) last scroll.1
          (omega (arith, room_append (parts_of margin.0) (scroll_words scroll.0))) s.row;
    }))

-- Numbers.

NumbersRead : ℕ → ℕ → List ℤ → Type 0
NumbersRead column last numbers = AreNumbers numbers × (column + room (map number_text numbers) ≤ last + 1)

numbers_on : (column last : ℕ) (words : List Word) → StandFrom column last words → OnValue (NumbersRead column last) (numbers_of words)
unfolding numbers_of NumbersRead StandFrom room
numbers_on column last [] stand = (tt, omega (arith, stand))
numbers_on column last (w ∷ ws) stand = some (number_of w.text) (number_fits w.text) (numbers_on (w.column + length w.text + 1) last ws stand.2) where
  some : (found : Option ℤ) → IfSome (Fits IsNumber number_text w.text) found → OnValue (NumbersRead (w.column + length w.text + 1) last) (numbers_of ws)
      → OnValue (NumbersRead column last) (or_fault w.column found >>= λ number. numbers_of ws >>= λ others. Ok (number ∷ others))
  some None fits behind = tt
  some (Some number) fits behind =
      then_on (NumbersRead (w.column + length w.text + 1) last) (NumbersRead column last) (numbers_of ws) (λ others. Ok (number ∷ others)) behind
      (λ others o. ((fits.0, o.0), omega (arith, fits.1, o.1, stand.0)))

numbers_read : (column last : ℕ) (r : Row) → IsRow column last r → OnValue (PartRead NumbersForm column last) (numbers_as r)
unfolding numbers_as NumbersRead StandFrom
numbers_read column last r row =
    then_on (NumbersRead column last) (PartRead NumbersForm column last) (numbers_of r.left) (λ numbers. Ok (numbers, record r { left = [] })) (numbers_on column last r.left row.words)
    (λ numbers n. record { meant = n.0; row = record { words = n.1; bytes = row.bytes } })

-- Media queries.

query_read : (column last : ℕ) (r : Row) → IsRow column last r → OnValue (PartRead QueryForm column last) (query_as r)
unfolding query_as next_of next_in query_from StandFrom room
query_read column last r row = by_words r.left row.words where
  by_words : (words : List Word) → StandFrom column last words → OnValue (PartRead QueryForm column last) (next_in words r >>= λ next. query_from next.0 r)
  by_words [] stand = tt
  by_words (w ∷ ws) stand =
      let text : List ℕ = drop (w.column - 1) r.bytes in
      let long : length text ≡ length r.bytes - (w.column - 1) = length-drop (w.column - 1) r.bytes in
      let behind = some_room (w.column + length w.text + 1) last ws stand.2 in
      let bytes = row.bytes in
      then_on (λ queries. IsQueryList queries × (length (list_text queries) ≤ length text)) (PartRead QueryForm column last)
      (with_fault (λ column. w.column + (column - 1)) (query_list text)) (λ queries. Ok (queries, record r { left = [] })) (queries_fit text (λ column. w.column + (column - 1)))
      (λ queries q. record { meant = q.0; row = record { words = omega (arith, q.1, stand.0); bytes = row.bytes } })

-- Boxes.

boxes_fit : (version : Version) → Each (λ word box. IsBox version box × (word ≡ box_text box)) (boxes version)
boxes_fit First = ((tt, refl), ((tt, refl), tt))
boxes_fit Second = ((tt, refl), ((tt, refl), ((tt, refl), tt)))

box_fits : (version : Version) → ReadsFit (lookup (boxes version)) (IsBox version) box_text
box_fits version text =
    if_some (Fits (IsBox version) box_text text) (lookup (boxes version) text)
    (λ box found.
    let is = subst (IfSome (λ box. IsBox version box × (text ≡ box_text box))) found (looked_up (λ word box. IsBox version box × (word ≡ box_text box)) (boxes version) (boxes_fit version) text) in
    let long = ap length is.1 in
    (is.0, omega arith))

-- Any part.

part_read : (form : Form) (column last : ℕ) (r : Row) → IsRow column last r → OnValue (PartRead form column last) (part_as form r)
unfolding part_as
part_read NameForm column last r row = word_part NameForm name_of (λ name. name) name_fits (λ value. refl) column last r row
part_read NodeForm column last r row = word_part NodeForm node_of operand_text node_fits (λ value. refl) column last r row
part_read AimForm column last r row = word_part AimForm aim_of aim_text aim_fits (λ value. refl) column last r row
part_read HandlerForm column last r row =
    word_part HandlerForm (or_dash name_of) (dash_or (λ name. name)) (dash_fits name_of IsName (λ name. name) name_fits) (λ value. refl) column last r row
part_read RootForm column last r row = word_part RootForm (or_dash node_of) (dash_or operand_text) (dash_fits node_of IsOperand operand_text node_fits) (λ value. refl) column last r row
part_read LengthForm column last r row = word_part LengthForm length_of length_text length_fits (λ value. refl) column last r row
part_read SignedForm column last r row = word_part SignedForm signed_of signed_text signed_fits (λ value. refl) column last r row
part_read PercentForm column last r row = word_part PercentForm percent_of percent_text percent_fits (λ value. refl) column last r row
part_read WholeForm column last r row = word_part WholeForm whole_of decimal whole_fits (λ value. refl) column last r row
part_read EventForm column last r row =
    word_part EventForm (lookup events) event_word (keyword_fits event_word events assumption) (λ value. refl) column last r row
part_read (BoxForm version) column last r row = word_part (BoxForm version) (lookup (boxes version)) box_text (box_fits version) (λ value. refl) column last r row
part_read DimensionForm column last r row =
    word_part DimensionForm (lookup dimensions) dimension_text (keyword_fits dimension_text dimensions assumption) (λ value. refl) column last r row
part_read (DeclarationForm version) column last r row = declaration_read version column last r row
part_read (JustForm word) column last r row = word_part (JustForm word) (just word) (λ unit. word) (just_fits word) (λ value. refl) column last r row
part_read (MarginForm version) column last r row = margins_read version column last r row
part_read NumbersForm column last r row = numbers_read column last r row
part_read QueryForm column last r row = query_read column last r row

-- All parts.

-- what holds of each value that parts of these forms make, and of these parts
abbrev pub Shows : {A : Type 0} (forms : List Form) → From forms A → (A → List Part → Type 0) → Type 0
Shows [] value Is = Is value []
Shows (form ∷ forms) makes Is = (meant : Meant form) → Shows forms (makes meant) (λ value parts. Is value (PartOf form meant ∷ parts))

pub record Made {A : Type 0} (Is : A → List Part → Type 0) (column last : ℕ) (value : A) : Type 0 where
  pub parts : List Part
  pub is : Is value parts
  pub meant : AreMeant parts
  pub fits : column + room (all_words parts) ≤ last + 1

pub nothing_left : {A : Type 0} (Is : A → List Part → Type 0) (value : A) → Is value [] → (column last : ℕ) (r : Row) → IsRow column last r
    → OnValue (Made Is column last) (none_left r >>= λ end. Ok value)
unfolding none_left none_in room
nothing_left Is value is column last r row = by_words r.left where
  by_words : (words : List Word) → OnValue (Made Is column last) (none_in words >>= λ end. Ok value)
  by_words [] = record { parts = []; is = is; meant = tt; fits = let h = some_room column last r.left row.words in omega arith }
  by_words (w ∷ ws) = tt

pub made_read : {A : Type 0} (forms : List Form) (makes : From forms A) (Is : A → List Part → Type 0) → Shows forms makes Is → (column last : ℕ) (r : Row) → IsRow column last r
    → OnValue (Made Is column last) (made forms makes r)
unfolding made
made_read [] value Is shows column last r row = nothing_left Is value shows column last r row
made_read {A} (form ∷ forms) makes Is shows column last r row =
    then_on (PartRead form column last) (Made Is column last) (part_as form r) (λ part. made forms (makes part.0) part.1) (part_read form column last r row)
    (λ part p.
    let next : ℕ = column + room (part_words form part.0) in
    let So : A → List Part → Type 0 = λ value parts. Is value (PartOf form part.0 ∷ parts) in
    weaker_on (Made So next last) (Made Is column last) (made forms (makes part.0) part.1) (made_read forms (makes part.0) So (shows part.0) next last part.1 p.row)
    (λ value m.
    let fits = m.fits in
    record { parts = PartOf form part.0 ∷ m.parts; is = m.is; meant = (p.meant, m.meant); fits = omega (arith, fits, room_append (part_words form part.0) (all_words m.parts)) }))
