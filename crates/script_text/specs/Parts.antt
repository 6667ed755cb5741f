-- The parts of a line and their words. A list of media queries is printed as one text, with one space wherever a space is required; the
-- words of a margin are printed as they were read, and a scroll margin that was left out has no words.
use Rattle.std.specs.Prelude.{ℕ, List, [], ◌∷◌, ◌++◌, map, Option, Some, None, codes}
use Rattle.word_model.specs.Numbers.{decimal}
use Rattle.text_io.specs.Kinds.{event_word}
use Rattle.script_model.specs.MarginText.{parts_of}
use Rattle.script_model.specs.Forms.{Form, NameForm, NodeForm, AimForm, HandlerForm, RootForm, LengthForm, SignedForm, PercentForm, WholeForm, EventForm, BoxForm, DimensionForm, DeclarationForm, JustForm, MarginForm, NumbersForm, QueryForm, Meant}
use Rattle.media_queries.specs.LengthText.{length_text}
use Rattle.media_queries.specs.QueryText.{list_text}
use Rattle.script_text.specs.NumberText.{percent_text, signed_text, number_text}
use Rattle.script_text.specs.WordText.{operand_text, aim_text, dash_or, box_text, dimension_text}
use Rattle.script_text.specs.DeclarationText.{property_text, value_text}

-- a part of a line: its form, and what it stands for
pub data Part : Type 0 where
  PartOf : (form : Form) (value : Meant form) → Part

-- the words of a scroll margin
abbrev pub scroll_words : Option (List ℕ) → List (List ℕ)
scroll_words None = []
scroll_words (Some margin) = codes "scroll" ∷ parts_of margin

-- the words of a part of this form
abbrev pub part_words : (form : Form) → Meant form → List (List ℕ)
part_words NameForm name = name ∷ []
part_words NodeForm operand = operand_text operand ∷ []
part_words AimForm aim = aim_text aim ∷ []
part_words HandlerForm handler = dash_or (λ name. name) handler ∷ []
part_words RootForm root = dash_or operand_text root ∷ []
part_words LengthForm units = length_text units ∷ []
part_words SignedForm units = signed_text units ∷ []
part_words PercentForm hundredths = percent_text hundredths ∷ []
part_words WholeForm number = decimal number ∷ []
part_words EventForm event = event_word event ∷ []
part_words (BoxForm version) box = box_text box ∷ []
part_words DimensionForm dimension = dimension_text dimension ∷ []
part_words (DeclarationForm version) declaration = property_text declaration ∷ value_text declaration ∷ []
part_words (JustForm word) unit = word ∷ []
part_words (MarginForm version) margins = parts_of margins.0 ++ scroll_words margins.1
part_words NumbersForm numbers = map number_text numbers
part_words QueryForm queries = list_text queries ∷ []

abbrev pub all_words : List Part → List (List ℕ)
all_words [] = []
all_words (PartOf form value ∷ parts) = part_words form value ++ all_words parts
