-- A declaration that is read has a value of its property's row, and is no longer printed than the two words that were read.
use Rattle.std.proofs.Common.{◌≡◌, ℕ, ℤ, ◌≤◌, true, List, ◌++◌, length, Some, None, refl, ap, arith}
use Rattle.std.specs.Prelude.{Option, option_map, unsigned_abs, bytes_eq, codes}
use Rattle.word_model.specs.Numbers.{length_of, signed_of, percent_of, signed_percent_of}
use Rattle.px_units.specs.Lengths.{LengthValue, Automatic, Pixels, Percentage, InsetValue, AutomaticInset, InsetPixels, InsetPercentage}
use Rattle.layout_model.specs.Styles.{Declaration, SetDisplay, SetWidth, SetHeight, SetMinWidth, SetMinHeight, SetMaxWidth, SetMaxHeight, SetMargin, SetPadding, SetBorder, SetBoxSizing, SetOverflow, SetPosition, SetTop, SetRight, SetBottom, SetLeft, TopSide, RightSide, BottomSide, LeftSide, AllSides}
use Rattle.text_io.specs.declared.kinds.Version.{Version}
use Rattle.text_io.specs.declared.kinds.Version.TheVariants.{First, Second}
use Rattle.script_model.specs.Keywords.{lookup}
use Rattle.script_model.specs.Properties.{either_of, size_of, auto_or_size_of, none_or_size_of, inset_of, displays, box_sizings, overflows, positions, ValueReader, sets, properties, positioned_properties, property_of}
use Rattle.media_queries.specs.LengthText.{length_text}
use Rattle.script_text.specs.NumberText.{percent_text, signed_text, signed_percent_text}
use Rattle.script_text.specs.DeclarationText.{display_text, size_text, none_or_text, box_sizing_text, overflow_text, position_text, inset_text, property_text, value_text}
use Rattle.script_text.specs.WellFormed.{IfSome, IsLength, IsPercentage, IsSize, IsAutoOrSize, IsInset, IsDeclaration}
use Rattle.script_text.proofs.Tables.{Each, looked_up}
use Rattle.script_text.proofs.ReadValues.{mapped_some, chosen_some, Fits, ReadsFit, same_long, keyword_fits, length_fits, percent_fits, signed_fits, signed_percent_fits}

-- Values.

pixels_fit : (text : List ℕ) (units : ℕ) → Fits IsLength length_text text units → Fits IsSize size_text text (Pixels units)
unfolding size_text
pixels_fit text units fits = fits

percentage_fits : (text : List ℕ) (hundredths : ℕ) → Fits IsPercentage percent_text text hundredths → Fits IsSize size_text text (Percentage hundredths)
unfolding size_text
percentage_fits text hundredths fits = fits

either_some : {A : Type 0} (Is : A → Type 0) (first second : Option A) → IfSome Is first → IfSome Is second → IfSome Is (either_of first second)
unfolding either_of
either_some Is None second h g = g
either_some Is (Some value) second h g = h

size_fits : ReadsFit size_of IsSize size_text
unfolding size_of
size_fits text =
    either_some (Fits IsSize size_text text) (option_map Pixels (length_of text)) (option_map Percentage (percent_of text))
    (mapped_some (Fits IsLength length_text text) (Fits IsSize size_text text) Pixels (length_of text) (length_fits text) (pixels_fit text))
    (mapped_some (Fits IsPercentage percent_text text) (Fits IsSize size_text text) Percentage (percent_of text) (percent_fits text) (percentage_fits text))

size_or_auto : (value : LengthValue) → IsSize value → IsAutoOrSize value
size_or_auto Automatic h = tt
size_or_auto (Pixels units) h = h
size_or_auto (Percentage hundredths) h = h

auto_long : (text : List ℕ) → bytes_eq text (codes "auto") ≡ true → length (size_text Automatic) ≤ length text
unfolding size_text
auto_long text h = same_long text (codes "auto") h

auto_fits : ReadsFit auto_or_size_of IsAutoOrSize size_text
unfolding auto_or_size_of
auto_fits text =
    let Auto : LengthValue → Type 0 = Fits IsAutoOrSize size_text text in
    chosen_some Auto (bytes_eq text (codes "auto")) (Some Automatic) (size_of text) (λ h. (tt, auto_long text h)) (λ h. weaker (size_of text) (size_fits text)) where
      weaker : (found : Option LengthValue) → IfSome (Fits IsSize size_text text) found → IfSome (Fits IsAutoOrSize size_text text) found
      weaker None fits = tt
      weaker (Some value) fits = (size_or_auto value fits.0, fits.1)

none_fits : ReadsFit none_or_size_of (IfSome IsSize) none_or_text
unfolding none_or_size_of
none_fits text =
    let NoneOrSize : Option LengthValue → Type 0 = Fits (IfSome IsSize) none_or_text text in
    chosen_some NoneOrSize (bytes_eq text (codes "none")) (Some None) (option_map (λ (value : LengthValue). Some value) (size_of text)) (λ h. (tt, same_long text (codes "none") h))
    (λ h. mapped_some (Fits IsSize size_text text) NoneOrSize (λ (value : LengthValue). Some value) (size_of text) (size_fits text) (λ value fits. fits))

inset_pixels_fit : (text : List ℕ) (units : ℤ) → Fits (λ units. IsLength (unsigned_abs units)) signed_text text units → Fits IsInset inset_text text (InsetPixels units)
unfolding inset_text
inset_pixels_fit text units fits = fits

inset_percentage_fits : (text : List ℕ) (hundredths : ℤ) → Fits (λ hundredths. IsPercentage (unsigned_abs hundredths)) signed_percent_text text hundredths → Fits IsInset inset_text text (InsetPercentage hundredths)
unfolding inset_text
inset_percentage_fits text hundredths fits = fits

automatic_inset_long : (text : List ℕ) → bytes_eq text (codes "auto") ≡ true → length (inset_text AutomaticInset) ≤ length text
unfolding inset_text
automatic_inset_long text h = same_long text (codes "auto") h

inset_fits : ReadsFit inset_of IsInset inset_text
unfolding inset_of
inset_fits text =
    let Inset : InsetValue → Type 0 = Fits IsInset inset_text text in
    let pixels : Option InsetValue = option_map InsetPixels (signed_of text) in
    let percentage : Option InsetValue = option_map InsetPercentage (signed_percent_of text) in
    chosen_some Inset (bytes_eq text (codes "auto")) (Some AutomaticInset) (either_of pixels percentage) (λ h. (tt, automatic_inset_long text h))
    (λ h. either_some Inset pixels percentage
    (mapped_some (Fits (λ units. IsLength (unsigned_abs units)) signed_text text) Inset InsetPixels (signed_of text) (signed_fits text) (inset_pixels_fit text))
    (mapped_some (Fits (λ hundredths. IsPercentage (unsigned_abs hundredths)) signed_percent_text text) Inset InsetPercentage (signed_percent_of text) (signed_percent_fits text) (inset_percentage_fits text)))

-- Properties.

-- what holds of a table's first word, and of the others
infixr 3 ◌also◌
◌also◌ : {A B : Type 0} → A → B → A × B
first also others = (first, others)

-- a declaration with its value in range, and neither word longer printed than it was
pub record DeclarationFits (version : Version) (property value : List ℕ) (declaration : Declaration) : Type 0 where
  pub meant : IsDeclaration version declaration
  pub property_short : length (property_text declaration) ≤ length property
  pub value_short : length (value_text declaration) ≤ length value

abbrev pub ReaderFits : Version → List ℕ → ValueReader → Type 0
ReaderFits version property reader = (value : List ℕ) → IfSome (DeclarationFits version property value) (reader value)

-- what a declaration is made of says how it is printed
Declares : {A : Type 0} → Version → (A → Type 0) → (A → List ℕ) → (A → Declaration) → List ℕ → Type 0
Declares {A} version Is text_of declare property =
    (value : A) → (Is value → IsDeclaration version (declare value)) × (property_text (declare value) ≡ property) × (value_text (declare value) ≡ text_of value)

sets_fit : {A : Type 0} (version : Version) (of : List ℕ → Option A) (Is : A → Type 0) (text_of : A → List ℕ) (property : List ℕ) (declare : A → Declaration) → ReadsFit of Is text_of → Declares version Is text_of declare property
    → ReaderFits version property (sets declare of)
unfolding Declares
sets_fit version of Is text_of property declare reads declares value =
    mapped_some (Fits Is text_of value) (DeclarationFits version property value) declare (of value) (reads value)
    (λ read fits.
    let d = declares read in
    let e = ap length d.1 in
    let f = ap length d.2 in
    let short = fits.1 in
    record { meant = d.0 fits.0; property_short = omega arith; value_short = omega arith })

displays_fit : ReadsFit (lookup displays) (λ hidden. Unit {0}) display_text
displays_fit = keyword_fits display_text displays assumption

box_sizings_fit : ReadsFit (lookup box_sizings) (λ value. Unit {0}) box_sizing_text
box_sizings_fit = keyword_fits box_sizing_text box_sizings assumption

overflows_fit : ReadsFit (lookup overflows) (λ value. Unit {0}) overflow_text
overflows_fit = keyword_fits overflow_text overflows assumption

positions_fit : ReadsFit (lookup positions) (λ value. Unit {0}) position_text
positions_fit = keyword_fits position_text positions assumption

properties_fit : (version : Version) → Each (ReaderFits version) properties
unfolding Declares
properties_fit version =
    sets_fit version _ _ _ _ SetDisplay displays_fit (assumption)
    also sets_fit version _ _ _ _ SetWidth auto_fits (assumption)
    also sets_fit version _ _ _ _ SetHeight auto_fits (assumption)
    also sets_fit version _ _ _ _ SetMinWidth size_fits (assumption)
    also sets_fit version _ _ _ _ SetMinHeight size_fits (assumption)
    also sets_fit version _ _ _ _ SetMaxWidth none_fits (assumption)
    also sets_fit version _ _ _ _ SetMaxHeight none_fits (assumption)
    also sets_fit version _ _ _ _ (SetMargin TopSide) size_fits (assumption)
    also sets_fit version _ _ _ _ (SetMargin RightSide) size_fits (assumption)
    also sets_fit version _ _ _ _ (SetMargin BottomSide) size_fits (assumption)
    also sets_fit version _ _ _ _ (SetMargin LeftSide) size_fits (assumption)
    also sets_fit version _ _ _ _ (SetMargin AllSides) size_fits (assumption)
    also sets_fit version _ _ _ _ (SetPadding TopSide) size_fits (assumption)
    also sets_fit version _ _ _ _ (SetPadding RightSide) size_fits (assumption)
    also sets_fit version _ _ _ _ (SetPadding BottomSide) size_fits (assumption)
    also sets_fit version _ _ _ _ (SetPadding LeftSide) size_fits (assumption)
    also sets_fit version _ _ _ _ (SetPadding AllSides) size_fits (assumption)
    also sets_fit version _ _ _ _ (SetBorder TopSide) length_fits (assumption)
    also sets_fit version _ _ _ _ (SetBorder RightSide) length_fits (assumption)
    also sets_fit version _ _ _ _ (SetBorder BottomSide) length_fits (assumption)
    also sets_fit version _ _ _ _ (SetBorder LeftSide) length_fits (assumption)
    also sets_fit version _ _ _ _ (SetBorder AllSides) length_fits (assumption)
    also sets_fit version _ _ _ _ SetBoxSizing box_sizings_fit (assumption)
    also sets_fit version _ _ _ _ SetOverflow overflows_fit (assumption)
    also tt

both_fit : Each (ReaderFits Second) (positioned_properties ++ properties)
unfolding Declares
both_fit =
    sets_fit Second _ _ _ _ SetPosition positions_fit (λ value. (λ h. tt, refl, refl))
    also sets_fit Second _ _ _ _ SetTop inset_fits (λ value. (λ h. (tt, h), refl, refl))
    also sets_fit Second _ _ _ _ SetRight inset_fits (λ value. (λ h. (tt, h), refl, refl))
    also sets_fit Second _ _ _ _ SetBottom inset_fits (λ value. (λ h. (tt, h), refl, refl))
    also sets_fit Second _ _ _ _ SetLeft inset_fits (λ value. (λ h. (tt, h), refl, refl))
    also properties_fit Second

pub property_fits : (version : Version) (property : List ℕ) → IfSome (ReaderFits version property) (property_of version property)
unfolding property_of
property_fits First property = looked_up (ReaderFits First) properties (properties_fit First) property
property_fits Second property = looked_up (ReaderFits Second) (positioned_properties ++ properties) both_fit property
