-- The lines of commands and blocks are read as the commands, those of items as the items.
use Rattle.std.proofs.Common.{◌≡◌, ◌∙◌, refl, sym, ap, ℕ, ◌+◌, ◌<◌, ◌≤◌, true, false, cond, List, [], ◌∷◌, ◌++◌, length, arith, subst, append_assoc, append-nil}
use Rattle.std.specs.Prelude.{map, count_by, reverse, bytes_eq, Result, Ok, Err, codes}
use Rattle.std.specs.List.{list_any}
use Rattle.std.proofs.lemmas.Bool.{lt-ltb}
use Rattle.std.proofs.lemmas.Grind.{common_steps}
use Rattle.std.proofs.lemmas.List.{reverse-append}
use Rattle.word_model.specs.Numbers.{decimal}
use Rattle.text_io.specs.declared.kinds.LimitKind.TheVariants as limits
use Rattle.text_io.specs.declared.kinds.Version.{Version}
use Rattle.script_model.specs.Readers.{◌>>=◌, with_fault, is_empty}
use Rattle.script_model.specs.Syntax.{Action, Condition, Command, Simple, Each, When, Block, NoMore, Then, Item, Outside, Tick, Handler}
use Rattle.script_model.specs.Scripts.{handlers_in}
use Rattle.script_model.specs.Lexing.{Line}
use Rattle.script_model.specs.Statements.{Statement, Does, Ticks, OpensEach, OpensWhen, OpensHandler, Ends, Standing}
use Rattle.script_model.specs.Reading.{Refusal, SyntaxAt, LimitAt, Opening, EachBlock, WhenBlock, HandlerBlock, Frame, State, put_in, put, block_before, is_block, opened, open_block, open_handler, closed, close_in, placed, standing, step, steps}
use Rattle.script_text.specs.Phrases.{action_words, condition_words}
use Rattle.script_text.specs.NumberedLines.{NumberedLine, numbered, end_line, command_lines, block_lines, item_lines, items_lines}
use Rattle.script_text.specs.WellFormed.{IsAction, IsCommand, IsBlock, IsItem, AreItems, command_depth, block_depth, item_depth, items_depth, AreNew}
use Rattle.script_text.proofs.LineWords.{line_of, States}
use Rattle.script_text.proofs.LinesSay.{action_states, each_states, when_states, end_states, tick_states, handler_states}

abbrev pub state : Version → List Frame → List Item → List (List ℕ) → State
state version frames items names = record { version = version; frames = frames; items = items; names = names }

abbrev pub blocks : List Frame → ℕ
blocks frames = count_by (λ frame. is_block frame.opening) frames

pub each_counts : (line : ℕ) (commands : List Command) (frames : List Frame) → blocks (record { line = line; opening = EachBlock; commands = commands } ∷ frames) ≡ blocks frames + 1
each_counts line commands frames = grind (arith, common_steps)

pub when_counts : (line : ℕ) (condition : Condition) (commands : List Command) (frames : List Frame) → blocks (record { line = line; opening = WhenBlock condition; commands = commands } ∷ frames) ≡ blocks frames + 1
when_counts line condition commands frames = grind (arith, common_steps)

pub handler_counts : (line : ℕ) (name : List ℕ) (commands : List Command) (frames : List Frame) → blocks (record { line = line; opening = HandlerBlock name; commands = commands } ∷ frames) ≡ blocks frames
handler_counts line name commands frames = grind (arith, common_steps)

one_step : (s t : State) (l : NumberedLine) (statement : Statement) → States (standing s) l statement → placed l.number statement s ≡ Ok t → (rest : List Line)
    → steps s (line_of l ∷ rest) ≡ steps t rest
unfolding steps step line_of
one_step s t l statement says places rest =
    ap (λ (r : Result Statement ℕ). (with_fault (SyntaxAt l.number) r >>= λ statement. placed l.number statement s) >>= λ next. steps next rest) says
    ∙ ap (λ (r : Result State Refusal). r >>= λ next. steps next rest) places

-- a block's commands before those that a frame has, the last one first
added : Block → List Command → List Command
added NoMore commands = commands
added (Then command others) commands = added others (command ∷ commands)

added_before : (block : Block) (commands : List Command) → block_before (added block commands) NoMore ≡ block_before commands block
unfolding added block_before
added_before NoMore commands = refl
added_before (Then command others) commands = added_before others (command ∷ commands)

lines_append : (ls ms : List NumberedLine) (rest : List Line) → map line_of (ls ++ ms) ++ rest ≡ map line_of ls ++ (map line_of ms ++ rest)
lines_append [] ms rest = refl
lines_append (l ∷ ls) ms rest = ap (λ (xs : List Line). line_of l ∷ xs) (lines_append ls ms rest)

opens : (line : ℕ) (opening : Opening) (s : State) → blocks s.frames < 16 → open_block line opening s ≡ Ok (opened line opening s)
unfolding open_block
opens line opening s h = ap (λ b. cond b (Ok (opened line opening s)) (Err (LimitAt limits.Nesting line))) (lt-ltb (blocks s.frames) 16 h)

-- a frame of an opening with these commands
abbrev pub frame : ℕ → Opening → List Command → Frame
frame line opening commands = record { line = line; opening = opening; commands = commands }

opened_is : (version : Version) (line : ℕ) (opening : Opening) (frames : List Frame) (items : List Item) (names : List (List ℕ))
    → opened line opening (state version frames items names) ≡ state version (frame line opening [] ∷ frames) items names
unfolding opened
opened_is version line opening frames items names = refl

open_each : (version : Version) (line : ℕ) (frames : List Frame) (items : List Item) (names : List (List ℕ)) → blocks frames < 16
    → placed line OpensEach (state version frames items names) ≡ Ok (state version (frame line EachBlock [] ∷ frames) items names)
unfolding placed
open_each version line frames items names h = opens line EachBlock (state version frames items names) h ∙ ap (λ (s : State). Ok s) (opened_is version line EachBlock frames items names)

open_when : (version : Version) (line : ℕ) (condition : Condition) (frames : List Frame) (items : List Item) (names : List (List ℕ)) → blocks frames < 16
    → placed line (OpensWhen condition) (state version frames items names) ≡ Ok (state version (frame line (WhenBlock condition) [] ∷ frames) items names)
unfolding placed
open_when version line condition frames items names h =
    opens line (WhenBlock condition) (state version frames items names) h ∙ ap (λ (s : State). Ok s) (opened_is version line (WhenBlock condition) frames items names)

close_each : (version : Version) (line last : ℕ) (block : Block) (frames : List Frame) (items : List Item) (names : List (List ℕ))
    → placed last Ends (state version (frame line EachBlock (added block []) ∷ frames) items names) ≡ Ok (put (Each line block last) (state version frames items names))
unfolding placed close_in closed block_before
close_each version line last block frames items names = ap (λ (b : Block). Ok (put (Each line b last) (state version frames items names))) (added_before block [])

close_when : (version : Version) (line last : ℕ) (condition : Condition) (block : Block) (frames : List Frame) (items : List Item) (names : List (List ℕ))
    → placed last Ends (state version (frame line (WhenBlock condition) (added block []) ∷ frames) items names) ≡ Ok (put (When line condition block last) (state version frames items names))
unfolding placed close_in closed block_before
close_when version line last condition block frames items names = ap (λ (b : Block). Ok (put (When line condition b last) (state version frames items names))) (added_before block [])

close_handler : (version : Version) (line last : ℕ) (name : List ℕ) (block : Block) (items : List Item) (names : List (List ℕ))
    → placed last Ends (state version (frame line (HandlerBlock name) (added block []) ∷ []) items names) ≡ Ok (state version [] (Handler line name block last ∷ items) names)
unfolding placed close_in closed block_before
close_handler version line last name block items names = ap (λ (b : Block). Ok (state version [] (Handler line name b last ∷ items) names)) (added_before block [])

inside : (version : Version) (f : Frame) (fs : List Frame) (items : List Item) (names : List (List ℕ)) → standing (state version (f ∷ fs) items names) ≡ record { version = version; outside = false; names = names }
unfolding standing is_empty
inside version f fs items names = refl

outside : (version : Version) (items : List Item) (names : List (List ℕ)) → standing (state version [] items names) ≡ record { version = version; outside = true; names = names }
unfolding standing is_empty
outside version items names = refl

ends_here : (version : Version) (f : Frame) (fs : List Frame) (items : List Item) (names : List (List ℕ)) (last : ℕ) → States (standing (state version (f ∷ fs) items names)) (end_line last) Ends
ends_here version f fs items names last = subst (λ (place : Standing). States place (end_line last) Ends) (sym (inside version f fs items names)) (end_states version names last)

does_step : (line : ℕ) (action : Action) (s : State) → placed line (Does action) s ≡ Ok (put (Simple line action) s)
unfolding placed
does_step line action s = refl

pub put_inside : (version : Version) (f : Frame) (fs : List Frame) (items : List Item) (names : List (List ℕ)) (command : Command)
    → put command (state version (f ∷ fs) items names) ≡ state version (frame f.line f.opening (command ∷ f.commands) ∷ fs) items names
unfolding put put_in
put_inside version f fs items names command = refl

pub put_outside : (version : Version) (items : List Item) (names : List (List ℕ)) (command : Command) → put command (state version [] items names) ≡ state version [] (Outside command ∷ items) names
unfolding put put_in
put_outside version items names command = refl

action_there : (version : Version) (frames : List Frame) (items : List Item) (names : List (List ℕ)) (line : ℕ) (action : Action) → IsAction version action
    → States (standing (state version frames items names)) (numbered line (action_words action)) (Does action)
unfolding standing
action_there version frames items names line action h = action_states (standing (state version frames items names)) line action h

mutual
  unfolding command_lines block_lines IsCommand IsBlock command_depth block_depth added

  command_read : (version : Version) (command : Command) → IsCommand version command → (frames : List Frame) (items : List Item) (names : List (List ℕ)) → blocks frames + command_depth command ≤ 16 → (rest : List Line)
      → steps (state version frames items names) (map line_of (command_lines command) ++ rest) ≡ steps (put command (state version frames items names)) rest
  command_read version (Simple line action) h frames items names deep rest =
      one_step (state version frames items names) (put (Simple line action) (state version frames items names)) (numbered line (action_words action)) (Does action)
      (action_there version frames items names line action h) (does_step line action (state version frames items names)) rest
  command_read version (Each line block last) h frames items names deep rest =
      let f : List Command → Frame = λ commands. frame line EachBlock commands in
      one_step (state version frames items names) (state version (f [] ∷ frames) items names) (numbered line (codes "each" ∷ [])) OpensEach
      (each_states (standing (state version frames items names)) line) (open_each version line frames items names (omega arith)) (map line_of (block_lines block ++ (end_line last ∷ [])) ++ rest)
      ∙ ap (steps (state version (f [] ∷ frames) items names)) (lines_append (block_lines block) (end_line last ∷ []) rest)
      ∙ block_read version block h line EachBlock [] frames items names (omega (arith, each_counts line [] frames)) (line_of (end_line last) ∷ rest)
      ∙ one_step (state version (f (added block []) ∷ frames) items names) (put (Each line block last) (state version frames items names)) (end_line last) Ends
      (ends_here version (f (added block [])) frames items names last) (close_each version line last block frames items names) rest
  command_read version (When line condition block last) h frames items names deep rest =
      let f : List Command → Frame = λ commands. frame line (WhenBlock condition) commands in
      one_step (state version frames items names) (state version (f [] ∷ frames) items names) (numbered line (codes "when" ∷ condition_words condition)) (OpensWhen condition)
      (when_states (standing (state version frames items names)) line condition h.0) (open_when version line condition frames items names (omega arith)) (map line_of (block_lines block ++ (end_line last ∷ [])) ++ rest)
      ∙ ap (steps (state version (f [] ∷ frames) items names)) (lines_append (block_lines block) (end_line last ∷ []) rest)
      ∙ block_read version block h.1 line (WhenBlock condition) [] frames items names (omega (arith, when_counts line condition [] frames)) (line_of (end_line last) ∷ rest)
      ∙ one_step (state version (f (added block []) ∷ frames) items names) (put (When line condition block last) (state version frames items names)) (end_line last) Ends
      (ends_here version (f (added block [])) frames items names last) (close_when version line last condition block frames items names) rest

  block_read : (version : Version) (block : Block) → IsBlock version block → (line : ℕ) (opening : Opening) (commands : List Command) (frames : List Frame) (items : List Item) (names : List (List ℕ))
      → blocks (frame line opening commands ∷ frames) + block_depth block ≤ 16 → (rest : List Line)
      → steps (state version (frame line opening commands ∷ frames) items names) (map line_of (block_lines block) ++ rest) ≡ steps (state version (frame line opening (added block commands) ∷ frames) items names) rest
  block_read version NoMore h line opening commands frames items names deep rest = refl
  block_read version (Then command others) h line opening commands frames items names deep rest =
      ap (steps (state version (frame line opening commands ∷ frames) items names)) (lines_append (command_lines command) (block_lines others) rest)
      ∙ command_read version command h.0 (frame line opening commands ∷ frames) items names (omega arith) (map line_of (block_lines others) ++ rest)
      ∙ ap (λ (s : State). steps s (map line_of (block_lines others) ++ rest)) (put_inside version (frame line opening commands) frames items names command)
      ∙ block_read version others h.1 line opening (command ∷ commands) frames items names (omega arith) rest

-- Items.

-- the names of handlers so far
named : Item → List (List ℕ) → List (List ℕ)
named (Outside command) names = names
named (Tick line time) names = names
named (Handler line name block last) names = name ∷ names

outside_says : (version : Version) (items : List Item) (names : List (List ℕ)) (l : NumberedLine) (statement : Statement)
    → States (record { version = version; outside = true; names = names }) l statement → States (standing (state version [] items names)) l statement
outside_says version items names l statement h = subst (λ (place : Standing). States place l statement) (sym (outside version items names)) h

ticks_step : (version : Version) (line time : ℕ) (items : List Item) (names : List (List ℕ)) → placed line (Ticks time) (state version [] items names) ≡ Ok (state version [] (Tick line time ∷ items) names)
unfolding placed
ticks_step version line time items names = refl

handler_step : (version : Version) (line : ℕ) (name : List ℕ) (items : List Item) (names : List (List ℕ)) → length names < 4096
    → placed line (OpensHandler name) (state version [] items names) ≡ Ok (state version (frame line (HandlerBlock name) [] ∷ []) items (name ∷ names))
unfolding placed open_handler opened
handler_step version line name items names h =
    ap (λ b. cond b (Ok (state version (frame line (HandlerBlock name) [] ∷ []) items (name ∷ names))) (Err (LimitAt limits.Handlers line))) (lt-ltb (length names) 4096 h)

-- what an item's handlers want
abbrev MayStand : List (List ℕ) → Item → Type 0
MayStand names (Outside command) = Unit {0}
MayStand names (Tick line time) = Unit {0}
MayStand names (Handler line name block last) = (list_any (bytes_eq name) names ≡ false) × (length names < 4096)

item_read : (version : Version) (item : Item) → IsItem version item → item_depth item ≤ 16 → (items : List Item) (names : List (List ℕ)) → MayStand names item → (rest : List Line)
    → steps (state version [] items names) (map line_of (item_lines item) ++ rest) ≡ steps (state version [] (item ∷ items) (named item names)) rest
unfolding item_lines IsItem item_depth named added
item_read version (Outside command) h deep items names may rest =
    let few : 0 + command_depth command ≤ 16 = omega (arith, deep) in
    command_read version command h [] items names few rest ∙ ap (λ (s : State). steps s rest) (put_outside version items names command)
item_read version (Tick line time) h deep items names may rest =
    one_step (state version [] items names) (state version [] (Tick line time ∷ items) names) (numbered line (codes "tick" ∷ decimal time ∷ [])) (Ticks time)
    (outside_says version items names _ (Ticks time) (tick_states version names line time h)) (ticks_step version line time items names) rest
item_read version (Handler line name block last) h deep items names may rest =
    let f : List Command → Frame = λ commands. frame line (HandlerBlock name) commands in
    one_step (state version [] items names) (state version (f [] ∷ []) items (name ∷ names)) (numbered line (codes "handler" ∷ name ∷ [])) (OpensHandler name)
    (outside_says version items names _ (OpensHandler name) (handler_states version names line name h.0 may.0)) (handler_step version line name items names may.1) (map line_of (block_lines block ++ (end_line last ∷ [])) ++ rest)
    ∙ ap (steps (state version (f [] ∷ []) items (name ∷ names))) (lines_append (block_lines block) (end_line last ∷ []) rest)
    ∙ block_read version block h.1 line (HandlerBlock name) [] [] items (name ∷ names) (omega (arith, handler_counts line name [] [])) (line_of (end_line last) ∷ rest)
    ∙ one_step (state version (f (added block []) ∷ []) items (name ∷ names)) (state version [] (Handler line name block last ∷ items) (name ∷ names)) (end_line last) Ends
    (ends_here version (f (added block [])) [] items (name ∷ names) last) (close_handler version line last name block items (name ∷ names)) rest

-- items before those that were read, the last one first
onto : List Item → List Item → List Item
onto [] items = items
onto (i ∷ is) items = onto is (i ∷ items)

all_named : List Item → List (List ℕ) → List (List ℕ)
all_named [] names = names
all_named (i ∷ is) names = all_named is (named i names)

pub MayAll : List (List ℕ) → List Item → Type 0
MayAll names [] = Unit {0}
MayAll names (i ∷ is) = MayStand names i × MayAll (named i names) is

pub may_all : (items : List Item) (names : List (List ℕ)) → AreNew names (handlers_in items) → length names + length (handlers_in items) ≤ 4096 → MayAll names items
unfolding handlers_in AreNew MayAll named
may_all [] names new few = tt
may_all (Outside command ∷ is) names new few = (tt, may_all is names new few)
may_all (Tick line time ∷ is) names new few = (tt, may_all is names new few)
may_all (Handler line name block last ∷ is) names new few = ((new.0, omega arith), may_all is (name ∷ names) new.1 (omega arith))

items_read : (version : Version) (is : List Item) → AreItems version is → items_depth is ≤ 16 → (items : List Item) (names : List (List ℕ)) → MayAll names is
    → steps (state version [] items names) (map line_of (items_lines is) ++ []) ≡ Ok (state version [] (onto is items) (all_named is names))
unfolding items_lines AreItems items_depth MayAll onto all_named steps
items_read version [] h deep items names may = refl
items_read version (i ∷ is) h deep items names may =
    ap (steps (state version [] items names)) (lines_append (item_lines i) (items_lines is) [])
    ∙ item_read version i h.0 (omega arith) items names may.0 (map line_of (items_lines is) ++ [])
    ∙ items_read version is h.1 (omega arith) (i ∷ items) (named i names) may.1

onto_reversed : (is items : List Item) → reverse (onto is items) ≡ reverse items ++ is
unfolding onto
onto_reversed [] items = sym (append-nil (reverse items))
onto_reversed (i ∷ is) items =
    onto_reversed is (i ∷ items) ∙ ap (λ (xs : List Item). xs ++ is) (reverse-append (i ∷ []) items) ∙ append_assoc (reverse items) (i ∷ []) is

-- what the lines of items are read as
pub record AllRead (version : Version) (items : List Item) : Type 0 where
  pub reversed : List Item
  pub names : List (List ℕ)
  pub read : steps (state version [] [] []) (map line_of (items_lines items)) ≡ Ok (state version [] reversed names)
  pub same : reverse reversed ≡ items

pub all_read : (version : Version) (items : List Item) → AreItems version items → items_depth items ≤ 16 → MayAll [] items → AllRead version items
all_read version items h deep may = record {
  reversed = onto items [];
  names = all_named items [];
  read = ap (steps (state version [] [] [])) (sym (append-nil (map line_of (items_lines items)))) ∙ items_read version items h deep [] [] may;
  same = onto_reversed items [];
}
