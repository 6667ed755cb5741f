-- The words of a declaration are read as the declaration.
use Rattle.std.proofs.Common.{◌≡◌, ℕ, ◌≤◌, ℤ, Bool, true, false, cond, List, ◌∷◌, ◌++◌, Some, None, refl, ap, ◌∙◌, arith}
use Rattle.std.specs.Prelude.{Option, option_map, bytes_eq, codes}
use Rattle.std.proofs.lemmas.Bool.{ne_eqb}
use Rattle.word_model.specs.Numbers.{length_of, signed_of, percent_of, signed_percent_of}
use Rattle.px_units.specs.Lengths.{LengthValue, Automatic, Pixels, Percentage, InsetValue, AutomaticInset, InsetPixels, InsetPercentage}
use Rattle.layout_model.specs.Styles.{Declaration, SetDisplay, SetWidth, SetHeight, SetMinWidth, SetMinHeight, SetMaxWidth, SetMaxHeight, SetMargin, SetPadding, SetBorder, SetBoxSizing, SetOverflow, SetPosition, SetTop, SetRight, SetBottom, SetLeft, Side, TopSide, BoxSizing, ContentBox, Overflow, OverflowVisible, Position, StaticPosition}
use Rattle.text_io.specs.declared.kinds.Version.{Version}
use Rattle.text_io.specs.declared.kinds.Version.TheVariants.{First, Second}
use Rattle.script_model.specs.Keywords.{lookup}
use Rattle.script_model.specs.Properties.{either_of, size_of, auto_or_size_of, none_or_size_of, inset_of, displays, box_sizings, overflows, positions, ValueReader, sets, properties, positioned_properties, property_of}
use Rattle.script_model.proofs.Named.{named_in_both, named_in_second}
use Rattle.media_queries.specs.LengthText.{length_text}
use Rattle.script_text.specs.NumberText.{percent_text, signed_text, signed_percent_text}
use Rattle.script_text.specs.DeclarationText.{side_text, display_text, size_text, none_or_text, box_sizing_text, overflow_text, position_text, inset_text, property_text, value_text}
use Rattle.script_text.specs.WellFormed.{IfSome, IsSize, IsAutoOrSize, IsInset, IsOfSecond, IsDeclaration}
use Rattle.script_text.proofs.WordBytes.{IsWord, as_word, IsNumeral}
use Rattle.script_text.proofs.NumbersAgain.{Reads, percent_again, percent_no_length, length_again, signed_again, signed_percent_again, signed_percent_no_length}
use Rattle.script_text.proofs.WordsAgain.{IsReadAs, word_differs, keyword_again}
use Rattle.script_text.proofs.Tables.{table_word}

size_again : (value : LengthValue) → IsSize value → Reads size_of value (size_text value)
unfolding size_of size_text either_of
size_again Automatic h = absurd h
size_again (Pixels units) h =
    let again = length_again units h in
    record { read = ap (λ (r : Option ℕ). either_of (option_map Pixels r) (option_map Percentage (percent_of (length_text units)))) again.read; numeral = again.numeral }
size_again (Percentage hundredths) h =
    let again = percent_again hundredths h in
    record {
      read = ap (λ (r : Option ℕ). either_of (option_map Pixels r) (option_map Percentage (percent_of (percent_text hundredths)))) (percent_no_length hundredths h)
          ∙ ap (option_map Percentage) again.read;
      numeral = again.numeral;
    }

-- a number's word begins with a byte before the letters
no_auto : (text : List ℕ) (word : IsWord text) → word.first ≤ 57 → bytes_eq text (codes "auto") ≡ false
no_auto text word low = word_differs 97 (codes "uto") text word (ne_eqb word.first 97 (λ e. omega arith))

no_word : (c : ℕ) (cs text : List ℕ) (numeral : IsNumeral text) → 58 ≤ c → bytes_eq text (c ∷ cs) ≡ false
no_word c cs text numeral h = let low = numeral.low in word_differs c cs text numeral.word (ne_eqb numeral.word.first c (λ e. omega arith))

auto_sized : (value : LengthValue) → IsSize value → IsReadAs auto_or_size_of value (size_text value)
unfolding auto_or_size_of
auto_sized value h =
    let again = size_again value h in
    record {
      read = ap (λ t. cond t (Some Automatic) (size_of (size_text value))) (no_word 97 (codes "uto") (size_text value) again.numeral (omega arith)) ∙ again.read;
      word = again.numeral.word;
    }

auto_again : (value : LengthValue) → IsAutoOrSize value → IsReadAs auto_or_size_of value (size_text value)
unfolding auto_or_size_of size_text
auto_again Automatic h = record { read = refl; word = as_word (codes "auto") refl }
auto_again (Pixels units) h = auto_sized (Pixels units) h
auto_again (Percentage hundredths) h = auto_sized (Percentage hundredths) h

none_again : (value : Option LengthValue) → IfSome IsSize value → IsReadAs none_or_size_of value (none_or_text value)
unfolding none_or_size_of
none_again None h = record { read = refl; word = as_word (codes "none") refl }
none_again (Some value) h =
    let again = size_again value h in
    record {
      read = ap (λ t. cond t (Some None) (option_map (λ v. Some v) (size_of (size_text value)))) (no_word 110 (codes "one") (size_text value) again.numeral (omega arith))
          ∙ ap (option_map (λ v. Some v)) again.read;
      word = again.numeral.word;
    }

margin_found : (side : Side) → lookup properties (codes "margin" ++ side_text side) ≡ Some (sets (SetMargin side) size_of)
unfolding lookup
margin_found TopSide = refl
margin_found side = refl

margin_unpositioned : (side : Side) → lookup positioned_properties (codes "margin" ++ side_text side) ≡ None
unfolding lookup
margin_unpositioned TopSide = refl
margin_unpositioned side = refl

padding_found : (side : Side) → lookup properties (codes "padding" ++ side_text side) ≡ Some (sets (SetPadding side) size_of)
unfolding lookup
padding_found TopSide = refl
padding_found side = refl

padding_unpositioned : (side : Side) → lookup positioned_properties (codes "padding" ++ side_text side) ≡ None
unfolding lookup
padding_unpositioned TopSide = refl
padding_unpositioned side = refl

border_found : (side : Side) → lookup properties (codes "border" ++ side_text side) ≡ Some (sets (SetBorder side) length_of)
unfolding lookup
border_found TopSide = refl
border_found side = refl

border_unpositioned : (side : Side) → lookup positioned_properties (codes "border" ++ side_text side) ≡ None
unfolding lookup
border_unpositioned TopSide = refl
border_unpositioned side = refl

display_found : (hidden : Bool) → lookup displays (display_text hidden) ≡ Some hidden
unfolding lookup
display_found true = refl
display_found hidden = refl

box_sizing_found : (value : BoxSizing) → lookup box_sizings (box_sizing_text value) ≡ Some value
unfolding lookup
box_sizing_found ContentBox = refl
box_sizing_found value = refl

overflow_found : (value : Overflow) → lookup overflows (overflow_text value) ≡ Some value
unfolding lookup
overflow_found OverflowVisible = refl
overflow_found value = refl

position_found : (value : Position) → lookup positions (position_text value) ≡ Some value
unfolding lookup
position_found StaticPosition = refl
position_found value = refl

sized : (value : LengthValue) → IsSize value → IsReadAs size_of value (size_text value)
sized value h = let again = size_again value h in record { read = again.read; word = again.numeral.word }

bordered : (units : ℕ) → units ≤ 64000000 → IsReadAs length_of units (length_text units)
bordered units h = let again = length_again units h in record { read = again.read; word = again.numeral.word }

inset_again : (value : InsetValue) → IsInset value → IsReadAs inset_of value (inset_text value)
unfolding inset_of inset_text either_of
inset_again AutomaticInset h = record { read = refl; word = as_word (codes "auto") refl }
inset_again (InsetPixels units) h =
    let again = signed_again units h in
    let text : List ℕ = signed_text units in
    record {
      read = ap (λ t. cond t (Some AutomaticInset) (either_of (option_map InsetPixels (signed_of text)) (option_map InsetPercentage (signed_percent_of text)))) (no_auto text again.word again.low)
          ∙ ap (λ (r : Option ℤ). either_of (option_map InsetPixels r) (option_map InsetPercentage (signed_percent_of text))) again.read;
      word = again.word;
    }
inset_again (InsetPercentage hundredths) h =
    let again = signed_percent_again hundredths h in
    let text : List ℕ = signed_percent_text hundredths in
    record {
      read = ap (λ t. cond t (Some AutomaticInset) (either_of (option_map InsetPixels (signed_of text)) (option_map InsetPercentage (signed_percent_of text)))) (no_auto text again.word again.low)
          ∙ ap (λ (r : Option ℤ). either_of (option_map InsetPixels r) (option_map InsetPercentage (signed_percent_of text))) (signed_percent_no_length hundredths h)
          ∙ ap (option_map InsetPercentage) again.read;
      word = again.word;
    }

-- a property's word is in the version's table of properties, and what stands there reads the value
pub record Declared (version : Version) (declaration : Declaration) (property value : List ℕ) : Type 0 where
  pub reader : ValueReader
  pub named : property_of version property ≡ Some reader
  pub again : IsReadAs reader declaration value

pub property_word : (version : Version) (property : List ℕ) (reader : ValueReader) → property_of version property ≡ Some reader → IsWord property
unfolding property_of
property_word First property reader named = table_word properties refl property reader named
property_word Second property reader named = table_word (positioned_properties ++ properties) refl property reader named

declared : {A : Type 0} (version : Version) (declare : A → Declaration) (of : List ℕ → Option A) (value : A) (property text : List ℕ) → property_of version property ≡ Some (sets declare of) → IsReadAs of value text
    → Declared version (declare value) property text
declared version declare of value property text named again =
    record { reader = sets declare of; named = named; again = record { read = ap (option_map declare) again.read; word = again.word } }

in_both : {A : Type 0} (version : Version) (declare : A → Declaration) (of : List ℕ → Option A) (value : A) (property text : List ℕ) → lookup properties property ≡ Some (sets declare of)
    → lookup positioned_properties property ≡ None → IsReadAs of value text → Declared version (declare value) property text
in_both version declare of value property text found none again =
    declared version declare of value property text (named_in_both version property (sets declare of) found none) again

in_second : {A : Type 0} (version : Version) (declare : A → Declaration) (of : List ℕ → Option A) (value : A) (property text : List ℕ) → IsOfSecond version
    → lookup positioned_properties property ≡ Some (sets declare of) → IsReadAs of value text → Declared version (declare value) property text
in_second First declare of value property text second found again = absurd second
in_second Second declare of value property text second found again =
    declared Second declare of value property text (named_in_second property (sets declare of) found) again

pub declaration_again : (version : Version) (declaration : Declaration) → IsDeclaration version declaration → Declared version declaration (property_text declaration) (value_text declaration)
unfolding lookup
declaration_again version (SetDisplay hidden) h = in_both version SetDisplay _ hidden _ _ refl refl (keyword_again displays refl _ hidden (display_found hidden))
declaration_again version (SetWidth value) h = in_both version SetWidth _ value _ _ refl refl (auto_again value h)
declaration_again version (SetHeight value) h = in_both version SetHeight _ value _ _ refl refl (auto_again value h)
declaration_again version (SetMinWidth value) h = in_both version SetMinWidth _ value _ _ refl refl (sized value h)
declaration_again version (SetMinHeight value) h = in_both version SetMinHeight _ value _ _ refl refl (sized value h)
declaration_again version (SetMaxWidth value) h = in_both version SetMaxWidth _ value _ _ refl refl (none_again value h)
declaration_again version (SetMaxHeight value) h = in_both version SetMaxHeight _ value _ _ refl refl (none_again value h)
declaration_again version (SetMargin side value) h = in_both version (SetMargin side) _ value _ _ (margin_found side) (margin_unpositioned side) (sized value h)
declaration_again version (SetPadding side value) h = in_both version (SetPadding side) _ value _ _ (padding_found side) (padding_unpositioned side) (sized value h)
declaration_again version (SetBorder side units) h = in_both version (SetBorder side) _ units _ _ (border_found side) (border_unpositioned side) (bordered units h)
declaration_again version (SetBoxSizing value) h = in_both version SetBoxSizing _ value _ _ refl refl (keyword_again box_sizings refl _ value (box_sizing_found value))
declaration_again version (SetOverflow value) h = in_both version SetOverflow _ value _ _ refl refl (keyword_again overflows refl _ value (overflow_found value))
declaration_again version (SetPosition value) h = in_second version SetPosition _ value _ _ h refl (keyword_again positions refl _ value (position_found value))
declaration_again version (SetTop value) h = in_second version SetTop _ value _ _ h.0 refl (inset_again value h.1)
declaration_again version (SetRight value) h = in_second version SetRight _ value _ _ h.0 refl (inset_again value h.1)
declaration_again version (SetBottom value) h = in_second version SetBottom _ value _ _ h.0 refl (inset_again value h.1)
declaration_again version (SetLeft value) h = in_second version SetLeft _ value _ _ h.0 refl (inset_again value h.1)
