-- A property's word with a value's word, as a line's words and as a declaration.
use Rattle.std.proofs.Common.{◌≡◌, ℕ, Bool, true, false, cond, ◌&&◌, List, [], ◌∷◌, Option, Some, None, Ok, Err, refl, ap, sym, ◌∙◌, subst}
use Rattle.std.specs.Prelude.{is_some, not, bytes_eq}
use Rattle.std.proofs.lemmas.Bool.{and_parts}
use Rattle.std.proofs.lemmas.Slice.Eq.{bytes_eq-Decides}
use Rattle.layout_model.specs.Styles.{Declaration}
use Rattle.text_io.specs.declared.kinds.Version.{Version}
use Rattle.text_io.specs.declared.kinds.Version.TheVariants.{First, Second}
use Rattle.script_model.specs.Keywords.{Keyword, lookup}
use Rattle.script_model.specs.Readers.{◌>>=◌, or_fault}
use Rattle.script_model.specs.Lexing.{Word, Row}
use Rattle.script_model.specs.Forms.{next_of, Taken, word_as, part_as, declaration_as, DeclarationForm}
use Rattle.script_model.specs.Properties.{ValueReader, properties, positioned_properties, property_of}
use Rattle.script_model.proofs.Named.{of_first, named_in_both}
use Rattle.style_values.specs.declared.StyleFault.{StyleFault}
use Rattle.style_values.specs.Reading.{read_by, or_bad_value}

abbrev with_row : {A : Type 0} → ℕ → Option A → Row → Taken A
with_row {A = A} column value row = ◌>>=◌ {B = A × Row} (or_fault column value) (λ read. Ok (read, row))

abbrev value_after : Taken ValueReader → Taken Declaration
value_after property = ◌>>=◌ {B = Declaration × Row} property (λ known. word_as known.0 known.1)

value_ok : (value : Option Declaration) (column : ℕ) (row : Row) (declaration : Declaration)
    → or_bad_value value ≡ Ok declaration → with_row column value row ≡ Ok (declaration, row)
value_ok None column row declaration e = cc
value_ok (Some read) column row declaration e = cc

value_err : (value : Option Declaration) (column : ℕ) (row : Row) (fault : StyleFault)
    → or_bad_value value ≡ Err fault → with_row column value row ≡ Err column
value_err None column row fault e = refl
value_err (Some read) column row fault e = cc

ok_in : (known : Option ValueReader) (column : ℕ) (row : Row) (value : Word) (rest : Row) (declaration : Declaration)
    → is_some known ≡ true → next_of row ≡ Ok (value, rest) → read_by known value.text ≡ Ok declaration
    → value_after (with_row column known row) ≡ Ok (declaration, rest)
unfolding word_as
ok_in None column row value rest declaration s n r = cc
ok_in (Some read) column row value rest declaration s n r = rw n (value_ok (read value.text) value.column rest declaration r)

err_in : (known : Option ValueReader) (column : ℕ) (row : Row) (value : Word) (rest : Row) (fault : StyleFault)
    → is_some known ≡ true → next_of row ≡ Ok (value, rest) → read_by known value.text ≡ Err fault
    → value_after (with_row column known row) ≡ Err value.column
unfolding word_as
err_in None column row value rest fault s n r = cc
err_in (Some read) column row value rest fault s n r = rw n (value_err (read value.text) value.column rest fault r)

-- No word of the first version's table is in the other one, so a property that both versions have reads the same values.

abbrev are_free : List (Keyword ValueReader) → Bool
are_free [] = true
are_free (k ∷ ks) = not (is_some (lookup positioned_properties k.word)) && are_free ks

none_found : (found : Option ValueReader) → not (is_some found) ≡ true → found ≡ None
none_found None h = refl
none_found (Some reader) h = cc

free : (ks : List (Keyword ValueReader)) → are_free ks ≡ true → (text : List ℕ) (reader : ValueReader) → lookup ks text ≡ Some reader → lookup positioned_properties text ≡ None
unfolding lookup
free [] all text reader found = cc
free (k ∷ ks) all text reader found = pick (bytes_eq text k.word) refl (free ks (and_parts _ _ all).1 text reader) found
  where
    pick : (same : Bool) → bytes_eq text k.word ≡ same → (lookup ks text ≡ Some reader → lookup positioned_properties text ≡ None) → cond same (Some k.means) (lookup ks text) ≡ Some reader
        → lookup positioned_properties text ≡ None
    pick true e others f =
        subst (λ (t : List ℕ). lookup positioned_properties t ≡ None) (sym ((bytes_eq-Decides text k.word).0 e))
        (none_found (lookup positioned_properties k.word) (and_parts _ _ all).0)
    pick false e others f = others f

unpositioned : (text : List ℕ) (reader : ValueReader) → lookup properties text ≡ Some reader → lookup positioned_properties text ≡ None
unfolding lookup
unpositioned text reader found = free properties refl text reader found

in_both : (name : List ℕ) (found : Option ValueReader) → lookup properties name ≡ found → is_some found ≡ true → property_of First name ≡ property_of Second name
in_both name None is some = cc
in_both name (Some reader) is some =
    named_in_both First name reader is (unpositioned name reader is) ∙ sym (named_in_both Second name reader is (unpositioned name reader is))

read_alike : (version : Version) (name : List ℕ) → is_some (property_of version name) ≡ true → property_of Second name ≡ property_of version name
read_alike First name some = sym (in_both name (lookup properties name) refl (ap is_some (sym (of_first name)) ∙ some))
read_alike Second name some = refl

pub declared_ok : (version : Version) (row : Row) (property : Word) (next : Row) (value : Word) (rest : Row) (declaration : Declaration)
    → next_of row ≡ Ok (property, next) → is_some (property_of version property.text) ≡ true → next_of next ≡ Ok (value, rest)
    → read_by (property_of Second property.text) value.text ≡ Ok declaration → part_as (DeclarationForm version) row ≡ Ok (declaration, rest)
unfolding part_as declaration_as word_as
declared_ok version row property next value rest declaration n s m r =
    let known : read_by (property_of version property.text) value.text ≡ Ok declaration = ap (λ known. read_by known value.text) (sym (read_alike version property.text s)) ∙ r in
    rw n (ok_in (property_of version property.text) property.column next value rest declaration s m known)

pub declared_err : (version : Version) (row : Row) (property : Word) (next : Row) (value : Word) (rest : Row) (fault : StyleFault)
    → next_of row ≡ Ok (property, next) → is_some (property_of version property.text) ≡ true → next_of next ≡ Ok (value, rest)
    → read_by (property_of Second property.text) value.text ≡ Err fault → part_as (DeclarationForm version) row ≡ Err value.column
unfolding part_as declaration_as word_as
declared_err version row property next value rest fault n s m r =
    let known : read_by (property_of version property.text) value.text ≡ Err fault = ap (λ known. read_by known value.text) (sym (read_alike version property.text s)) ∙ r in
    rw n (err_in (property_of version property.text) property.column next value rest fault s m known)
