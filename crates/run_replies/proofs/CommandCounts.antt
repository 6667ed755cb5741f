-- The commands of a script, counted: a script has no more of them than lines.
use Rattle.std.proofs.Common.{◌≡◌, ◌∙◌, ap, sym, ℕ, ◌+◌, ◌-◌, ◌<◌, ◌≤◌, List, [], ◌∷◌, ◌++◌, length, drop, get_or, arith, length-append}
use Rattle.std.proofs.lemmas.List.{drop_more, drop_all, length-replicate}
use Rattle.std.specs.Prelude.{map, replicate, codes}
use Rattle.text_io.specs.declared.kinds.LimitKind.TheVariants as limits
use Rattle.text_io.specs.Kinds.{version_word}
use Rattle.text_io.specs.Limits.{common_limit}
use Rattle.script_model.specs.Syntax.{Command, Simple, Each, When, Block, NoMore, Then, Item, Outside, Tick, Handler, Script}
use Rattle.script_model.specs.Scripts.{commands_in, block_commands, item_commands, command_count}
use Rattle.script_syntax.specs.Seen.{block_of, command_at, command_of, item_of}
use Rattle.script_syntax.specs.declared.operands.Condition.{Condition}
use Rattle.script_syntax.specs.declared.commands.Action.{Action}
use Rattle.script_syntax.specs.declared.commands.Body.{Body}
use Rattle.script_syntax.specs.declared.commands.Command as code
use Rattle.script_syntax.specs.declared.commands.Item as code_item
use Rattle.script_syntax.specs.declared.commands.What.{What}
use Rattle.script_syntax.specs.declared.commands.What.TheVariants as what
use Rattle.script_text.specs.NumberedLines.{NumberedLine, end_line, command_lines, block_lines, item_lines, items_lines}
use Rattle.script_text.specs.ScriptText.{line_text, lines_text, script_text}
use Rattle.script_text.specs.WellFormed.{Rise, IsWellFormed}

mutual
  unfolding commands_in block_commands command_lines block_lines

  command_few : (command : Command) → commands_in command ≤ length (command_lines command)
  command_few (Simple line action) = omega arith
  command_few (Each line block last) =
      let inside = block_few block in
      let both = length-append (block_lines block) (end_line last ∷ []) in
      omega arith
  command_few (When line condition block last) =
      let inside = block_few block in
      let both = length-append (block_lines block) (end_line last ∷ []) in
      omega arith

  block_few : (block : Block) → block_commands block ≤ length (block_lines block)
  block_few NoMore = omega arith
  block_few (Then command others) =
      let first = command_few command in
      let rest = block_few others in
      let both = length-append (command_lines command) (block_lines others) in
      omega arith

item_few : (item : Item) → item_commands item ≤ length (item_lines item)
unfolding item_lines
item_few (Outside command) = command_few command
item_few (Tick line time) = omega arith
item_few (Handler line name block last) =
    let inside = block_few block in
    let both = length-append (block_lines block) (end_line last ∷ []) in
    omega arith

items_few : (items : List Item) → command_count items ≤ length (items_lines items)
unfolding command_count items_lines
items_few [] = omega arith
items_few (item ∷ items) =
    let first = item_few item in
    let rest = items_few items in
    let both = length-append (item_lines item) (items_lines items) in
    omega arith

-- each line has a line feed before it
lines_long : (number : ℕ) (lines : List NumberedLine) → Rise number lines → length lines ≤ length (lines_text number lines)
unfolding Rise lines_text
lines_long number [] rise = omega arith
lines_long number (l ∷ ls) rise =
    let later : number < l.number = rise.0 in
    let rest = lines_long l.number ls rise.1 in
    let feeds = length-replicate {A = ℕ} (l.number - number) 10 in
    let front = length-append (replicate {A = ℕ} (l.number - number) 10) (line_text l.words ++ lines_text l.number ls) in
    let back = length-append (line_text l.words) (lines_text l.number ls) in
    omega arith

pub few_commands : (script : Script) → IsWellFormed script → command_count (script.items) ≤ 16777216
unfolding script_text
few_commands script well =
    let few = items_few (script.items) in
    let long = lines_long 1 (items_lines (script.items)) well.numbers_rise in
    let short : length (codes "script " ++ version_word (script.version) ++ lines_text 1 (items_lines (script.items))) ≤ common_limit limits.Script = well.short_text in
    let both = length-append (codes "script " ++ version_word (script.version)) (lines_text 1 (items_lines (script.items))) in
    omega arith

-- from a place on
pub commands_more : (commands : List code.Command) (place : ℕ) (command : code.Command) → place < length commands → command ≡ get_or commands place command
    → block_commands (block_of (drop place commands)) ≡ commands_in (command_of command) + block_commands (block_of (drop (place + 1) commands))
unfolding block_commands
commands_more commands place command within is =
    ap (λ rest. block_commands (block_of rest)) (drop_more commands place command within)
    ∙ ap (λ it. commands_in (command_of it) + block_commands (block_of (drop (place + 1) commands))) (sym is)

pub commands_none : (commands : List code.Command) (place : ℕ) → length commands ≤ place → block_commands (block_of (drop place commands)) ≡ 0
unfolding block_commands
commands_none commands place past = ap (λ rest. block_commands (block_of rest)) (drop_all place commands past)

pub items_more : (items : List code_item.Item) (place : ℕ) (item : code_item.Item) → place < length items → item ≡ get_or items place item
    → command_count (map item_of (drop place items)) ≡ item_commands (item_of item) + command_count (map item_of (drop (place + 1) items))
unfolding command_count
items_more items place item within is =
    ap (λ rest. command_count (map item_of rest)) (drop_more items place item within)
    ∙ ap (λ it. item_commands (item_of it) + command_count (map item_of (drop (place + 1) items))) (sym is)

pub items_none : (items : List code_item.Item) (place : ℕ) → length items ≤ place → command_count (map item_of (drop place items)) ≡ 0
unfolding command_count
items_none items place past = ap (λ rest. command_count (map item_of rest)) (drop_all place items past)

-- a command, by what it does
pub each_count : (line : ℕ) (command : What) (body : Body) → command ≡ what.Each body → commands_in (command_at line command) ≡ 1 + block_commands body.commands
unfolding commands_in
each_count line command body is = ap (λ it. commands_in (command_at line it)) is

pub when_count : (line : ℕ) (command : What) (condition : Condition) (body : Body) → command ≡ what.When condition body
    → commands_in (command_at line command) ≡ 1 + block_commands body.commands
unfolding commands_in
when_count line command condition body is = ap (λ it. commands_in (command_at line it)) is

pub simple_count : (line : ℕ) (command : What) (action : Action) → command ≡ what.Act action → 1 ≡ commands_in (command_at line command)
unfolding commands_in
simple_count line command action is = sym (ap (λ it. commands_in (command_at line it)) is)
