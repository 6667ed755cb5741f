-- A property by its name, of those of the first version and of those that the second has besides.
use Rattle.std.proofs.Common.{◌≡◌, ℕ, Bool, true, false, List, cond, Option, Some, None, refl, ap, sym, ◌∙◌}
use Rattle.std.specs.Prelude.{option_map, is_some}
use Rattle.text_io.specs.declared.kinds.Version.{Version}
use Rattle.text_io.specs.declared.kinds.Version.TheVariants.{First, Second}
use Rattle.script_model.specs.Keywords.{lookup}
use Rattle.script_model.specs.Properties.{either_of, properties, positioned_properties, property_of}
use Rattle.script_model.proofs.Named.{of_first, of_second}
use Rattle.style_values.specs.Versions.{reads}

pub either_some : {A B : Type 0} (see : A → B) (x : A) (first second : Option B) → option_map see (Some x) ≡ first → option_map see (Some x) ≡ either_of first second
unfolding either_of
either_some see x None second is = cc
either_some see x (Some y) second is = is

pub either_none : {A B : Type 0} (see : A → B) (rest : Option A) (first second : Option B) → option_map see None ≡ first → option_map see rest ≡ second → option_map see rest ≡ either_of first second
unfolding either_of
either_none see rest None second is of = of
either_none see rest (Some y) second is of = cc

pub is_mapped : {A B : Type 0} (see : A → B) (found : Option A) → is_some (option_map see found) ≡ is_some found
is_mapped see None = refl
is_mapped see (Some x) = refl

pub seen_some : {A B : Type 0} (see : A → B) (found : Option A) (seen : Option B) → option_map see found ≡ seen → is_some seen ≡ is_some found
seen_some see found seen is = ap is_some (sym is) ∙ is_mapped see found

some_either : {A : Type 0} (first second : Option A) (a b : Bool) → is_some first ≡ a → is_some second ≡ b → is_some (either_of first second) ≡ cond a true b
unfolding either_of
some_either None second true b is of = cc
some_either None second false b is of = of
some_either (Some x) second true b is of = refl
some_either (Some x) second false b is of = cc

pub reads_first : (name : List ℕ) → is_some (lookup properties name) ≡ true → (version : Version) → is_some (property_of version name) ≡ reads version (Some First)
reads_first name is First = ap is_some (of_first name) ∙ is
reads_first name is Second = ap is_some (of_second name) ∙ some_either (lookup positioned_properties name) (lookup properties name) (is_some (lookup positioned_properties name)) true refl is ∙ always (is_some (lookup positioned_properties name))
  where
    always : (a : Bool) → cond a true true ≡ true
    always true = refl
    always false = refl

pub reads_second : (name : List ℕ) → is_some (lookup properties name) ≡ false → is_some (lookup positioned_properties name) ≡ true → (version : Version) → is_some (property_of version name) ≡ reads version (Some Second)
reads_second name not is First = ap is_some (of_first name) ∙ not
reads_second name not is Second = ap is_some (of_second name) ∙ some_either (lookup positioned_properties name) (lookup properties name) true false is not

pub reads_none : (name : List ℕ) → is_some (lookup properties name) ≡ false → is_some (lookup positioned_properties name) ≡ false → (version : Version) → is_some (property_of version name) ≡ reads version None
reads_none name not is First = ap is_some (of_first name) ∙ not
reads_none name not is Second = ap is_some (of_second name) ∙ some_either (lookup positioned_properties name) (lookup properties name) false false is not
