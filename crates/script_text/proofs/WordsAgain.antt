-- The words of names, nodes and fixed words are read as what they stand for.
use Rattle.std.proofs.Common.{◌≡◌, ℕ, true, false, cond, ◌&&◌, ◌==◌, List, [], ◌∷◌, Some, None, refl, ap, ◌∙◌}
use Rattle.std.specs.Prelude.{Option, option_map, bytes_eq, codes}
use Rattle.std.specs.List.{list_all}
use Rattle.word_model.specs.Names.{is_name}
use Rattle.px_units.specs.declared.BoxKind.{BoxKind}
use Rattle.px_units.specs.declared.BoxKind.TheVariants.{Content, Border, Device}
use Rattle.text_io.specs.declared.kinds.Version.{Version}
use Rattle.text_io.specs.declared.kinds.Version.TheVariants.{First, Second}
use Rattle.text_io.specs.Kinds.{event_word}
use Rattle.text_io.specs.declared.kinds.EventKind.{EventKind}
use Rattle.text_io.specs.declared.kinds.EventKind.TheVariants as event
use Rattle.script_model.specs.Syntax.{Operand, Named, Target, Aim, PlainAim, WindowAim, Dimension, WidthDimension}
use Rattle.script_model.specs.Keywords.{Keyword, lookup}
use Rattle.script_model.specs.Lines.{is_word_byte}
use Rattle.script_model.specs.Words.{name_of, node_of, aim_of, or_dash, events, boxes, dimensions}
use Rattle.script_text.specs.WordText.{operand_text, aim_text, dash_or, box_text, dimension_text}
use Rattle.script_text.specs.WellFormed.{IsName, IsOperand, IsAim, IsBox, IfSome}
use Rattle.script_text.proofs.WordBytes.{IsWord, as_word, letter_first, name_first, name_word}
use Rattle.script_text.proofs.Tables.{are_words, table_word}

-- a word that is read so
pub record IsReadAs {A : Type 0} (of : List ℕ → Option A) (value : A) (text : List ℕ) : Type 0 where
  pub read : of text ≡ Some value
  pub word : IsWord text

pub first_differs : (b c : ℕ) (bs cs : List ℕ) → (b == c) ≡ false → bytes_eq (b ∷ bs) (c ∷ cs) ≡ false
first_differs b c bs cs h = ap (λ t. t && bytes_eq bs cs) h

pub word_differs : (c : ℕ) (cs text : List ℕ) (word : IsWord text) → (word.first == c) ≡ false → bytes_eq text (c ∷ cs) ≡ false
word_differs c cs text word h = ap (λ (t : List ℕ). bytes_eq t (c ∷ cs)) word.text_is ∙ first_differs word.first c word.others cs h

pub name_again : (name : List ℕ) → IsName name → IsReadAs name_of name name
unfolding name_of
name_again name h = record { read = ap (λ t. cond t (Some name) None) h; word = name_word name h }

node_named : (name : List ℕ) → IsName name → node_of name ≡ Some (Named name)
unfolding node_of
node_named [] h = absurd cc
node_named (b ∷ bs) h =
    ap (λ t. cond t (Some Target) (option_map Named (name_of (b ∷ bs)))) (first_differs b 36 bs (codes "target") (letter_first b (name_first b bs h)).no_dollar)
    ∙ ap (option_map Named) (name_again (b ∷ bs) h).read

target_word : IsWord (codes "$target")
target_word = as_word (codes "$target") refl

pub node_again : (operand : Operand) → IsOperand operand → IsReadAs node_of operand (operand_text operand)
unfolding node_of
node_again (Named name) h = record { read = node_named name h; word = name_word name h }
node_again Target h = record { read = refl; word = target_word }

aim_named : (name : List ℕ) → IsName name → aim_of name ≡ Some (PlainAim (Named name))
unfolding aim_of
aim_named [] h = absurd cc
aim_named (b ∷ bs) h =
    ap (λ t. cond t (option_map WindowAim (name_of bs)) (option_map PlainAim (node_of (b ∷ bs)))) (letter_first b (name_first b bs h)).no_at
    ∙ ap (option_map PlainAim) (node_named (b ∷ bs) h)

at_word : (name : List ℕ) → IsWord name → IsWord (64 ∷ name)
at_word name word = record { first = 64; others = name; text_is = refl; bytes = ap (λ (t : List ℕ). list_all is_word_byte t) word.text_is ∙ word.bytes; no_comment = refl }

pub aim_again : (aim : Aim) → IsAim aim → IsReadAs aim_of aim (aim_text aim)
unfolding aim_of
aim_again (PlainAim (Named name)) h = record { read = aim_named name h; word = name_word name h }
aim_again (PlainAim Target) h = record { read = refl; word = target_word }
aim_again (WindowAim document) h = record { read = ap (option_map WindowAim) (name_again document h).read; word = at_word document (name_word document h) }

dash_word : IsWord (codes "-")
dash_word = as_word (codes "-") refl

some_again : {A : Type 0} (of : List ℕ → Option A) (value : A) (text : List ℕ) → of text ≡ Some value → bytes_eq text (codes "-") ≡ false → or_dash of text ≡ Some (Some value)
unfolding or_dash
some_again of value text again h =
    ap (λ t. cond t (Some None) (option_map (λ v. Some v) (of text))) h ∙ ap (option_map (λ v. Some v)) again

no_dash_name : (name : List ℕ) → is_name name ≡ true → bytes_eq name (codes "-") ≡ false
no_dash_name [] h = absurd cc
no_dash_name (b ∷ bs) h = first_differs b 45 bs [] (letter_first b (name_first b bs h)).no_minus

pub handler_again : (handler : Option (List ℕ)) → IfSome IsName handler → IsReadAs (or_dash name_of) handler (dash_or (λ name. name) handler)
unfolding or_dash
handler_again None h = record { read = refl; word = dash_word }
handler_again (Some name) h = record { read = some_again name_of name name (name_again name h).read (no_dash_name name h); word = name_word name h }

pub root_again : (root : Option Operand) → IfSome IsOperand root → IsReadAs (or_dash node_of) root (dash_or operand_text root)
unfolding or_dash
root_again None h = record { read = refl; word = dash_word }
root_again (Some (Named name)) h = record { read = some_again node_of (Named name) name (node_named name h) (no_dash_name name h); word = name_word name h }
root_again (Some Target) h = record { read = some_again node_of Target (codes "$target") (node_again Target tt).read refl; word = target_word }

-- a word of a table is read as what the table has there
pub keyword_again : {A : Type 0} (ks : List (Keyword A)) → are_words ks ≡ true → (text : List ℕ) (value : A) → lookup ks text ≡ Some value → IsReadAs (lookup ks) value text
keyword_again ks words text value found = record { read = found; word = table_word ks words text value found }

event_found : (kind : EventKind) → lookup events (event_word kind) ≡ Some kind
unfolding lookup
event_found event.Resize = refl
event_found kind = refl

pub event_again : (kind : EventKind) → IsReadAs (lookup events) kind (event_word kind)
event_again kind = keyword_again events refl (event_word kind) kind (event_found kind)

box_found : (version : Version) (box : BoxKind) → IsBox version box → lookup (boxes version) (box_text box) ≡ Some box
unfolding lookup
box_found First Content h = refl
box_found First Border h = refl
box_found First Device h = absurd h
box_found Second Content h = refl
box_found Second Border h = refl
box_found Second Device h = refl

box_words : (version : Version) → are_words (boxes version) ≡ true
box_words First = refl
box_words Second = refl

pub box_again : (version : Version) (box : BoxKind) → IsBox version box → IsReadAs (lookup (boxes version)) box (box_text box)
box_again version box h = keyword_again (boxes version) (box_words version) (box_text box) box (box_found version box h)

dimension_found : (dimension : Dimension) → lookup dimensions (dimension_text dimension) ≡ Some dimension
unfolding lookup
dimension_found WidthDimension = refl
dimension_found dimension = refl

pub dimension_again : (dimension : Dimension) → IsReadAs (lookup dimensions) dimension (dimension_text dimension)
dimension_again dimension = keyword_again dimensions refl (dimension_text dimension) dimension (dimension_found dimension)
