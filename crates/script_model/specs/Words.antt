-- The forms of single words. All of them are this project's own choice.
use Rattle.std.specs.Prelude.{ℕ, cond, ◌==◌, List, [], ◌∷◌, Option, Some, None, option_map, bytes_eq, codes}
use Rattle.word_model.specs.Names.{is_name}
use Rattle.px_units.specs.declared.BoxKind.{BoxKind}
use Rattle.px_units.specs.declared.BoxKind.TheVariants.{Content, Border, Device}
use Rattle.text_io.specs.declared.kinds.EventKind.{EventKind}
use Rattle.text_io.specs.declared.kinds.EventKind.TheVariants as event
use Rattle.text_io.specs.declared.kinds.Version.{Version}
use Rattle.text_io.specs.declared.kinds.Version.TheVariants.{First, Second}
use Rattle.text_io.specs.Kinds.{event_word, version_word}
use Rattle.script_model.specs.Keywords.{Keyword, keyword}
use Rattle.script_model.specs.Syntax.{Operand, Named, Target, Aim, PlainAim, WindowAim, Dimension, WidthDimension, HeightDimension}

unfoldable pub name_of : List ℕ → Option (List ℕ)
name_of text = cond (is_name text) (Some text) None

-- a name, or `$target`
unfoldable pub node_of : List ℕ → Option Operand
unfolding name_of
node_of text = cond (bytes_eq text (codes "$target")) (Some Target) (option_map Named (name_of text))

-- a node, or `@` and the name of a document
unfoldable pub aim_of : List ℕ → Option Aim
unfolding name_of node_of
aim_of [] = None
aim_of (b ∷ bs) = cond (b == 64) (option_map WindowAim (name_of bs)) (option_map PlainAim (node_of (b ∷ bs)))

-- what a reader reads, or `-` for None
unfoldable pub or_dash : {A : Type 0} → (List ℕ → Option A) → List ℕ → Option (Option A)
or_dash of text = cond (bytes_eq text (codes "-")) (Some None) (option_map Some (of text))

-- exactly this word
unfoldable pub just : List ℕ → List ℕ → Option (Unit {0})
just word text = cond (bytes_eq text word) (Some tt) None

abbrev pub events : List (Keyword EventKind)
events =
    keyword (event_word event.Resize) event.Resize
    ∷ keyword (event_word event.Scroll) event.Scroll
    ∷ keyword (event_word event.Error) event.Error
    ∷ keyword (event_word event.Change) event.Change
    ∷ []

abbrev pub versions : List (Keyword Version)
versions = keyword (version_word First) First ∷ keyword (version_word Second) Second ∷ []

-- the boxes that scripts of a version can observe
abbrev pub boxes : Version → List (Keyword BoxKind)
boxes First = keyword (codes "content") Content ∷ keyword (codes "border") Border ∷ []
boxes Second = keyword (codes "content") Content ∷ keyword (codes "border") Border ∷ keyword (codes "device") Device ∷ []

abbrev pub dimensions : List (Keyword Dimension)
dimensions = keyword (codes "width") WidthDimension ∷ keyword (codes "height") HeightDimension ∷ []
