-- Words moved to other columns, and lines with other numbers.
use Rattle.std.specs.Prelude.{ℕ, ◌+◌, map, Ok, Err}
use Rattle.script_model.specs.Syntax.{Command, Simple, Each, When, Block, NoMore, Then, Item, Outside, Tick, Handler}
use Rattle.script_model.specs.Lexing.{Word, Line, Ending, Whole, BadByte, LongLine, Lexed}
use Rattle.script_model.specs.Reading.{Refusal, SyntaxAt, LimitAt, Reading}

abbrev pub moved : ℕ → Word → Word
moved columns word = record word { column = word.column + columns }

abbrev pub renumbered : ℕ → Line → Line
renumbered lines line = record line { number = line.number + lines }

abbrev pub ending_renumbered : ℕ → Ending → Ending
ending_renumbered lines (Whole next_line) = Whole (next_line + lines)
ending_renumbered lines (BadByte line column) = BadByte (line + lines) column
ending_renumbered lines (LongLine line) = LongLine (line + lines)

-- all lines, with their numbers increased by `lines`
abbrev pub all_renumbered : ℕ → Lexed → Lexed
all_renumbered lines lexed = record {
  lines = map (renumbered lines) lexed.lines;
  ending = ending_renumbered lines lexed.ending;
}

-- commands, items and refusals, with their line numbers increased by `lines`
unfoldable mutual
  pub command_later : ℕ → Command → Command
  command_later lines (Simple line action) = Simple (line + lines) action
  command_later lines (Each line block end_line) = Each (line + lines) (block_later lines block) (end_line + lines)
  command_later lines (When line condition block end_line) =
      When (line + lines) condition (block_later lines block) (end_line + lines)

  pub block_later : ℕ → Block → Block
  block_later lines NoMore = NoMore
  block_later lines (Then command others) = Then (command_later lines command) (block_later lines others)

unfoldable pub item_later : ℕ → Item → Item
unfolding command_later block_later
item_later lines (Outside command) = Outside (command_later lines command)
item_later lines (Tick line time) = Tick (line + lines) time
item_later lines (Handler line name block end_line) =
    Handler (line + lines) name (block_later lines block) (end_line + lines)

abbrev pub refusal_later : ℕ → Refusal → Refusal
refusal_later lines (SyntaxAt line column) = SyntaxAt (line + lines) column
refusal_later lines (LimitAt limit line) = LimitAt limit (line + lines)

abbrev pub reading_later : ℕ → Reading → Reading
reading_later lines (Ok script) = Ok (record script { items = map (item_later lines) (script.items) })
reading_later lines (Err refusal) = Err (refusal_later lines refusal)
