-- What reads the values of a property, by its name and by the version.
use Rattle.std.proofs.Common.{◌≡◌, ℕ, Bool, true, false, List, [], ◌∷◌, ◌++◌, cond, Option, Some, None, refl, ap, ◌∙◌}
use Rattle.std.specs.Prelude.{bytes_eq}
use Rattle.text_io.specs.declared.kinds.Version.{Version}
use Rattle.text_io.specs.declared.kinds.Version.TheVariants.{First, Second}
use Rattle.script_model.specs.Keywords.{Keyword, lookup}
use Rattle.script_model.specs.Properties.{ValueReader, either_of, properties, positioned_properties, property_of}

cond_either : {A : Type 0} (b : Bool) (x : A) (y z : Option A) → cond b (Some x) (either_of y z) ≡ either_of (cond b (Some x) y) z
unfolding either_of
cond_either true x y z = refl
cond_either false x y z = refl

-- the first of two tables is looked at first
lookup_joined : {A : Type 0} (xs ys : List (Keyword A)) (text : List ℕ) → lookup (xs ++ ys) text ≡ either_of (lookup xs text) (lookup ys text)
unfolding lookup either_of
lookup_joined [] ys text = refl
lookup_joined (k ∷ ks) ys text =
    ap (cond (bytes_eq text k.word) (Some k.means)) (lookup_joined ks ys text) ∙ cond_either (bytes_eq text k.word) k.means (lookup ks text) (lookup ys text)

pub of_first : (name : List ℕ) → property_of First name ≡ lookup properties name
unfolding property_of
of_first name = refl

in_second : (name : List ℕ) → property_of Second name ≡ lookup (positioned_properties ++ properties) name
unfolding property_of
in_second name = refl

pub of_second : (name : List ℕ) → property_of Second name ≡ either_of (lookup positioned_properties name) (lookup properties name)
of_second name = in_second name ∙ lookup_joined positioned_properties properties name

second_is : (first second : Option ValueReader) (reader : ValueReader) → first ≡ None → second ≡ Some reader → either_of first second ≡ Some reader
unfolding either_of
second_is None second reader none found = found
second_is (Some x) second reader none found = cc

first_is : (first second : Option ValueReader) (reader : ValueReader) → first ≡ Some reader → either_of first second ≡ Some reader
unfolding either_of
first_is None second reader found = cc
first_is (Some x) second reader found = found

-- a property of the first version, which both versions have
pub named_in_both : (version : Version) (name : List ℕ) (reader : ValueReader) → lookup properties name ≡ Some reader → lookup positioned_properties name ≡ None → property_of version name ≡ Some reader
named_in_both First name reader found none = of_first name ∙ found
named_in_both Second name reader found none = of_second name ∙ second_is (lookup positioned_properties name) (lookup properties name) reader none found

-- one that the second version has besides
pub named_in_second : (name : List ℕ) (reader : ValueReader) → lookup positioned_properties name ≡ Some reader → property_of Second name ≡ Some reader
named_in_second name reader found = of_second name ∙ first_is (lookup positioned_properties name) (lookup properties name) reader found
