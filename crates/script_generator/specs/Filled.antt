-- Templates: texts with a number in them.
use Rattle.std.specs.Prelude.{ℕ, ◌==◌, cond, List, [], ◌∷◌, flat_map}
use Rattle.word_model.specs.Numbers.{decimal}

-- a template with the number, in decimal, for each `#`
unfoldable pub filled : ℕ → List ℕ → List ℕ
filled number template = flat_map (λ byte. cond (byte == 35) (decimal number) (byte ∷ [])) template
