-- Commands without blocks and ticks, on lines of their own.
use Rattle.std.proofs.Common.{◌≡◌, refl, ap, ℕ, ◌+◌, ◌≤◌, List, [], ◌∷◌, ◌++◌, arith}
use Rattle.std.specs.Prelude.{map, codes}
use Rattle.word_model.specs.Numbers.{decimal}
use Rattle.text_io.specs.declared.kinds.Version.TheVariants.{First}
use Rattle.script_model.specs.Syntax.{Action, Simple, Item, Outside, Tick}
use Rattle.script_model.specs.Scripts.{handlers_in}
use Rattle.script_text.specs.NumberedLines.{items_lines, item_lines, command_lines}
use Rattle.script_text.specs.Phrases.{action_words}
use Rattle.script_text.specs.WellFormed.{IsAction, IsCommand, IsItem, AreItems, command_depth, item_depth, items_depth}
use Rattle.script_generator.proofs.Consecutive.{Words, consecutive}

pub data Plain : Type 0 where
  Does : (action : Action) → Plain
  Ticks : (time : ℕ) → Plain

abbrev pub plain_words : Plain → Words
plain_words (Does action) = action_words action
plain_words (Ticks time) = codes "tick" ∷ decimal time ∷ []

abbrev pub plain_item : ℕ → Plain → Item
plain_item line (Does action) = Outside (Simple line action)
plain_item line (Ticks time) = Tick line time

-- on the lines behind the one of this number
unfoldable pub plain_items : ℕ → List Plain → List Item
plain_items line [] = []
plain_items line (p ∷ ps) = plain_item (line + 1) p ∷ plain_items (line + 1) ps

pub plain_lines : (line : ℕ) (ps : List Plain) → items_lines (plain_items line ps) ≡ consecutive line (map plain_words ps)
unfolding plain_items consecutive items_lines item_lines command_lines
plain_lines line [] = refl
plain_lines line (Does action ∷ ps) = ap (λ rest. record { number = line + 1; words = action_words action } ∷ rest) (plain_lines (line + 1) ps)
plain_lines line (Ticks time ∷ ps) = ap (λ rest. record { number = line + 1; words = codes "tick" ∷ decimal time ∷ [] } ∷ rest) (plain_lines (line + 1) ps)

pub plain_handlers : (line : ℕ) (ps : List Plain) → handlers_in (plain_items line ps) ≡ []
unfolding plain_items handlers_in
plain_handlers line [] = refl
plain_handlers line (Does action ∷ ps) = plain_handlers (line + 1) ps
plain_handlers line (Ticks time ∷ ps) = plain_handlers (line + 1) ps

pub plain_depth : (line : ℕ) (ps : List Plain) → items_depth (plain_items line ps) ≤ 0
unfolding plain_items items_depth item_depth command_depth
plain_depth line [] = omega arith
plain_depth line (Does action ∷ ps) = let rest = plain_depth (line + 1) ps in omega arith
plain_depth line (Ticks time ∷ ps) = let rest = plain_depth (line + 1) ps in omega arith

-- each command is of the first version, and each operand has its form
abbrev pub IsPlain : Plain → Type 0
IsPlain (Does action) = IsAction First action
IsPlain (Ticks time) = time ≤ 1000000000000

unfoldable pub ArePlain : List Plain → Type 0
ArePlain [] = Unit {0}
ArePlain (p ∷ ps) = IsPlain p × ArePlain ps

pub plain_both : (xs ys : List Plain) → ArePlain xs → ArePlain ys → ArePlain (xs ++ ys)
unfolding ArePlain
plain_both [] ys are others = others
plain_both (x ∷ xs) ys are others = (are.0, plain_both xs ys are.1 others)

pub plain_allowed : (line : ℕ) (ps : List Plain) → ArePlain ps → AreItems First (plain_items line ps)
unfolding plain_items ArePlain AreItems IsItem IsCommand
plain_allowed line [] are = tt
plain_allowed line (Does action ∷ ps) are = (are.0, plain_allowed (line + 1) ps are.1)
plain_allowed line (Ticks time ∷ ps) are = (are.0, plain_allowed (line + 1) ps are.1)
