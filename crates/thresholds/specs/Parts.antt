-- Parts of a root margin as this crate holds them.
use Rattle.std.specs.Prelude.{ℕ, pos, negsuc, ◌≤ℤ◌, option_map, List, [], ◌∷◌, Option, Some, None}
use Rattle.script_model.specs.Margins.{MarginPart, MarginPixels, MarginPercentage}
use Rattle.script_model.specs.MarginText.{split_at_spaces, parts_read}
use Rattle.thresholds.specs.declared.parts.Part.{Part}
use Rattle.thresholds.specs.declared.parts.Part.TheVariants.{Pixels, Percentage}

-- what a part stands for
abbrev pub seen_part : Part → MarginPart
seen_part (Pixels px) = MarginPixels px.0
seen_part (Percentage percent) = MarginPercentage percent.0

-- the part that stands for this one
abbrev pub part_for : MarginPart → Part
part_for (MarginPixels units) = Pixels (record { 0 = units })
part_for (MarginPercentage hundredths) = Percentage (record { 0 = hundredths })

-- at most 1,000,000 pixels or 10,000 percent, positive or negative
abbrev pub IsWithinForm : Part → Type 0
IsWithinForm (Pixels px) = (negsuc 63999999 ≤ℤ px.0) × (px.0 ≤ℤ pos 64000000)
IsWithinForm (Percentage percent) = (negsuc 999999 ≤ℤ percent.0) × (percent.0 ≤ℤ pos 1000000)

-- the texts of the parts behind a space, none if there is no space
abbrev pub texts_behind : Option (List ℕ) → List (List ℕ)
texts_behind None = []
texts_behind (Some text) = split_at_spaces text

-- the parts of a text that isn't empty
abbrev pub read_all : List ℕ → Option (List MarginPart)
read_all text = parts_read (split_at_spaces text)

-- a part and the others behind it, none if those can't be read
abbrev pub after : MarginPart → Option (List MarginPart) → Option (List MarginPart)
after part others = option_map (λ rest. part ∷ rest) others
