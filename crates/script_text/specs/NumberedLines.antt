-- The lines of a script that have words, each with its number.
use Rattle.std.specs.Prelude.{ℕ, List, [], ◌∷◌, ◌++◌, codes}
use Rattle.word_model.specs.Numbers.{decimal}
use Rattle.script_model.specs.Syntax.{Command, Simple, Each, When, Block, NoMore, Then, Item, Outside, Tick, Handler}
use Rattle.script_model.specs.MarginText.{parts_of}
use Rattle.media_queries.specs.LengthText.{length_text}
use Rattle.media_queries.specs.QueryText.{list_text}
use Rattle.script_text.specs.NumberText.{signed_text, number_text}
use Rattle.script_text.specs.DeclarationText.{size_text, inset_text}
use Rattle.script_text.specs.Phrases.{action_words, condition_words}

pub record NumberedLine : Type 0 where
  pub number : ℕ
  pub words : List (List ℕ)

abbrev pub numbered : ℕ → List (List ℕ) → NumberedLine
numbered number words = record { number = number; words = words }

abbrev pub end_line : ℕ → NumberedLine
end_line number = numbered number (codes "end" ∷ [])

-- a command's line, and if it has a block, the lines of the block and that of its `end`
unfoldable mutual
  unfolding decimal parts_of length_text list_text signed_text number_text size_text inset_text

  pub command_lines : Command → List NumberedLine
  command_lines (Simple line action) = numbered line (action_words action) ∷ []
  command_lines (Each line block last) =
      numbered line (codes "each" ∷ []) ∷ (block_lines block ++ (end_line last ∷ []))
  command_lines (When line condition block last) =
      numbered line (codes "when" ∷ condition_words condition) ∷ (block_lines block ++ (end_line last ∷ []))

  pub block_lines : Block → List NumberedLine
  block_lines NoMore = []
  block_lines (Then command others) = command_lines command ++ block_lines others

unfoldable pub item_lines : Item → List NumberedLine
unfolding decimal command_lines block_lines
item_lines (Outside command) = command_lines command
item_lines (Tick line time) = numbered line (codes "tick" ∷ decimal time ∷ []) ∷ []
item_lines (Handler line name block last) =
    numbered line (codes "handler" ∷ name ∷ []) ∷ (block_lines block ++ (end_line last ∷ []))

unfoldable pub items_lines : List Item → List NumberedLine
unfolding item_lines
items_lines [] = []
items_lines (item ∷ items) = item_lines item ++ items_lines items
