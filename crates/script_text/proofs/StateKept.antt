-- What holds of all that was read so far, and stays so at each line: operands are in range, blocks are within their limit,
-- handlers stand outside all blocks, are few and have different names; and the lines printed for it are those of the
-- statements read, in their order.
use Rattle.std.proofs.Common.{◌≡◌, ◌∙◌, refl, sym, ap, ℕ, ◌+◌, ◌<◌, ◌≤◌, max, Bool, true, false, cond, nat_lt, List, [], ◌∷◌, ◌++◌, length, arith, subst, append_assoc, append-nil}
use Rattle.std.specs.Prelude.{bytes_eq, Result, Ok, Err, codes}
use Rattle.std.specs.List.{list_any}
use Rattle.std.proofs.lemmas.Bool.{ltb-true}
use Rattle.word_model.specs.Numbers.{decimal}
use Rattle.text_io.specs.declared.kinds.LimitKind.TheVariants as limits
use Rattle.text_io.specs.declared.kinds.Version.{Version}
use Rattle.script_model.specs.Readers.{is_empty}
use Rattle.script_model.specs.Syntax.{Action, Condition, Command, Simple, Each, When, Block, NoMore, Then, Item, Outside, Tick, Handler}
use Rattle.script_model.specs.Statements.{Statement, Does, Ticks, OpensEach, OpensWhen, OpensHandler, Ends}
use Rattle.script_model.specs.Reading.{Refusal, LimitAt, Opening, EachBlock, WhenBlock, HandlerBlock, Frame, State, put, block_before, opened, open_block, open_handler, closed, close_in, placed, standing}
use Rattle.script_text.specs.Phrases.{action_words, test_parts, condition_words}
use Rattle.script_text.specs.NumberedLines.{NumberedLine, numbered, end_line, command_lines, block_lines, item_lines}
use Rattle.script_text.specs.WellFormed.{IsName, AreMeant, IsAction, IsCommand, IsBlock, IsItem, command_depth, block_depth, item_depth}
use Rattle.script_text.proofs.Nesting.{state, blocks, frame, each_counts, when_counts, handler_counts, put_inside, put_outside}
use Rattle.script_text.proofs.ReadStatements.{statement_words, IsStatement}

-- Commands that stand last first, and the block that they become.

abbrev pub AreCommands : Version → List Command → Type 0
AreCommands version [] = Unit {0}
AreCommands version (c ∷ cs) = IsCommand version c × AreCommands version cs

abbrev pub commands_depth : List Command → ℕ
commands_depth [] = 0
commands_depth (c ∷ cs) = max (command_depth c) (commands_depth cs)

abbrev pub commands_lines : List Command → List NumberedLine
commands_lines [] = []
commands_lines (c ∷ cs) = commands_lines cs ++ command_lines c

block_good : (version : Version) (cs : List Command) (others : Block) → AreCommands version cs → IsBlock version others → IsBlock version (block_before cs others)
unfolding block_before IsBlock
block_good version [] others h k = k
block_good version (c ∷ cs) others h k = block_good version cs (Then c others) h.1 (h.0, k)

block_deep : (cs : List Command) (others : Block) → block_depth (block_before cs others) ≡ max (commands_depth cs) (block_depth others)
unfolding block_before block_depth
block_deep [] others = omega arith
block_deep (c ∷ cs) others = omega (arith, block_deep cs (Then c others))

block_printed : (cs : List Command) (others : Block) → block_lines (block_before cs others) ≡ commands_lines cs ++ block_lines others
unfolding block_before block_lines
block_printed [] others = refl
block_printed (c ∷ cs) others = block_printed cs (Then c others) ∙ sym (append_assoc (commands_lines cs) (command_lines c) (block_lines others))

-- the whole block
pub record IsClosed (version : Version) (cs : List Command) (block : Block) : Type 0 where
  pub meant : IsBlock version block
  pub depth : block_depth block ≡ commands_depth cs
  pub lines : block_lines block ≡ commands_lines cs

closed_good : (version : Version) (cs : List Command) → AreCommands version cs → IsClosed version cs (block_before cs NoMore)
unfolding IsBlock block_depth block_lines
closed_good version cs h = record {
  meant = block_good version cs NoMore h tt;
  depth = omega (arith, block_deep cs NoMore);
  lines = block_printed cs NoMore ∙ append-nil (commands_lines cs);
}

-- What is open.

abbrev pub IsOpening : Opening → List Frame → Type 0
IsOpening EachBlock fs = Unit {0}
IsOpening (WhenBlock condition) fs = AreMeant (test_parts condition.asks)
IsOpening (HandlerBlock name) fs = IsName name × (fs ≡ [])

pub record IsFrame (version : Version) (f : Frame) (fs : List Frame) : Type 0 where
  pub opening : IsOpening f.opening fs
  pub commands : AreCommands version f.commands
  pub nested : blocks (f ∷ fs) + commands_depth f.commands ≤ 16

abbrev pub AreFrames : Version → List Frame → Type 0
AreFrames version [] = Unit {0}
AreFrames version (f ∷ fs) = IsFrame version f fs × AreFrames version fs

abbrev pub opening_words : Opening → List (List ℕ)
opening_words EachBlock = codes "each" ∷ []
opening_words (WhenBlock condition) = codes "when" ∷ condition_words condition
opening_words (HandlerBlock name) = codes "handler" ∷ name ∷ []

abbrev pub frames_lines : List Frame → List NumberedLine
frames_lines [] = []
frames_lines (f ∷ fs) = frames_lines fs ++ (numbered f.line (opening_words f.opening) ∷ commands_lines f.commands)

abbrev pub opening_names : Opening → List (List ℕ)
opening_names EachBlock = []
opening_names (WhenBlock condition) = []
opening_names (HandlerBlock name) = name ∷ []

abbrev pub frames_names : List Frame → List (List ℕ)
frames_names [] = []
frames_names (f ∷ fs) = opening_names f.opening ++ frames_names fs

-- Items, the last first.

pub record IsKept (version : Version) (item : Item) : Type 0 where
  pub meant : IsItem version item
  pub nested : item_depth item ≤ 16

abbrev pub AreKept : Version → List Item → Type 0
AreKept version [] = Unit {0}
AreKept version (i ∷ is) = IsKept version i × AreKept version is

abbrev pub kept_lines : List Item → List NumberedLine
kept_lines [] = []
kept_lines (i ∷ is) = kept_lines is ++ item_lines i

abbrev pub item_names : Item → List (List ℕ)
item_names (Outside command) = []
item_names (Tick line time) = []
item_names (Handler line name block last) = name ∷ []

abbrev pub kept_names : List Item → List (List ℕ)
kept_names [] = []
kept_names (i ∷ is) = item_names i ++ kept_names is

-- no name is one of those behind it
abbrev pub Differ : List (List ℕ) → Type 0
Differ [] = Unit {0}
Differ (n ∷ ns) = (list_any (bytes_eq n) ns ≡ false) × Differ ns

pub record IsKeptState (s : State) : Type 0 where
  pub frames : AreFrames s.version s.frames
  pub items : AreKept s.version s.items
  pub names_are : s.names ≡ frames_names s.frames ++ kept_names s.items
  pub differ : Differ s.names
  pub few : length s.names ≤ 4096

abbrev pub state_lines : State → List NumberedLine
state_lines s = kept_lines s.items ++ frames_lines s.frames

-- a state of the same version with these lines more is kept
pub record Follows (s : State) (more : List NumberedLine) (t : State) : Type 0 where
  pub same : t.version ≡ s.version
  pub kept : IsKeptState t
  pub lines : state_lines t ≡ state_lines s ++ more

-- A command is put.

outside_kept : (version : Version) (c : Command) → IsCommand version c → command_depth c ≤ 16 → IsKept version (Outside c)
unfolding IsItem item_depth
outside_kept version c h deep = record { meant = h; nested = deep }

outside_lines : (c : Command) → item_lines (Outside c) ≡ command_lines c
unfolding item_lines
outside_lines c = refl

put_follows : (version : Version) (c : Command) → IsCommand version c → (frames : List Frame) (items : List Item) (names : List (List ℕ)) → blocks frames + command_depth c ≤ 16 → IsKeptState (state version frames items names)
    → Follows (state version frames items names) (command_lines c) (put c (state version frames items names))
put_follows version c h [] items names deep is =
    subst (Follows (state version [] items names) (command_lines c)) (sym (put_outside version items names c)) (record {
      same = refl;
      kept = record { frames = tt; items = (outside_kept version c h (omega arith), is.items); names_are = is.names_are; differ = is.differ; few = is.few };
      lines = append-nil (kept_lines items ++ item_lines (Outside c)) ∙ ap (λ (ls : List NumberedLine). kept_lines items ++ ls) (outside_lines c)
          ∙ ap (λ (ls : List NumberedLine). ls ++ command_lines c) (sym (append-nil (kept_lines items)));
    })
put_follows version c h (f ∷ fs) items names deep is =
    let first : IsFrame version f fs = is.frames.0 in
    let head : NumberedLine = numbered f.line (opening_words f.opening) in
    subst (Follows (state version (f ∷ fs) items names) (command_lines c)) (sym (put_inside version f fs items names c)) (record {
      same = refl;
      kept = record {
        frames = (record { opening = first.opening; commands = (h, first.commands); nested = omega (arith, first.nested) }, is.frames.1);
        items = is.items;
        names_are = is.names_are;
        differ = is.differ;
        few = is.few;
      };
      lines = ap (λ (ls : List NumberedLine). kept_lines items ++ ls) (sym (append_assoc (frames_lines fs) (head ∷ commands_lines f.commands) (command_lines c)))
          ∙ sym (append_assoc (kept_lines items) (frames_lines (f ∷ fs)) (command_lines c));
    })

-- A block or a handler is opened.

frames_blocks : (version : Version) (fs : List Frame) → AreFrames version fs → blocks fs ≤ 16
frames_blocks version [] h = omega arith
frames_blocks version (f ∷ fs) h = omega (arith, h.0.nested)

opened_lines : (line : ℕ) (opening : Opening) (frames : List Frame) (items : List Item)
    → kept_lines items ++ frames_lines (frame line opening [] ∷ frames) ≡ (kept_lines items ++ frames_lines frames) ++ (numbered line (opening_words opening) ∷ [])
opened_lines line opening frames items = sym (append_assoc (kept_lines items) (frames_lines frames) (numbered line (opening_words opening) ∷ []))

each_opened : (version : Version) (line : ℕ) (frames : List Frame) (items : List Item) (names : List (List ℕ)) → blocks frames < 16 → IsKeptState (state version frames items names)
    → Follows (state version frames items names) (numbered line (codes "each" ∷ []) ∷ []) (state version (frame line EachBlock [] ∷ frames) items names)
each_opened version line frames items names few is = record {
  same = refl;
  kept = record {
    frames = (record { opening = tt; commands = tt; nested = omega (arith, each_counts line [] frames) }, is.frames);
    items = is.items;
    names_are = is.names_are;
    differ = is.differ;
    few = is.few;
  };
  lines = opened_lines line EachBlock frames items;
}

when_opened : (version : Version) (line : ℕ) (condition : Condition) (frames : List Frame) (items : List Item) (names : List (List ℕ)) → AreMeant (test_parts condition.asks) → blocks frames < 16 → IsKeptState (state version frames items names)
    → Follows (state version frames items names) (numbered line (codes "when" ∷ condition_words condition) ∷ []) (state version (frame line (WhenBlock condition) [] ∷ frames) items names)
when_opened version line condition frames items names h few is = record {
  same = refl;
  kept = record {
    frames = (record { opening = h; commands = tt; nested = omega (arith, when_counts line condition [] frames) }, is.frames);
    items = is.items;
    names_are = is.names_are;
    differ = is.differ;
    few = is.few;
  };
  lines = opened_lines line (WhenBlock condition) frames items;
}

handler_opened : (version : Version) (line : ℕ) (name : List ℕ) (items : List Item) (names : List (List ℕ)) → IsName name → list_any (bytes_eq name) names ≡ false → length names < 4096 → IsKeptState (state version [] items names)
    → Follows (state version [] items names) (numbered line (codes "handler" ∷ name ∷ []) ∷ []) (state version (frame line (HandlerBlock name) [] ∷ []) items (name ∷ names))
handler_opened version line name items names h new few is = record {
  same = refl;
  kept = record {
    frames = (record { opening = (h, refl); commands = tt; nested = omega (arith, handler_counts line name [] []) }, tt);
    items = is.items;
    names_are = ap (λ (ns : List (List ℕ)). name ∷ ns) is.names_are;
    differ = (new, is.differ);
    few = omega arith;
  };
  lines = opened_lines line (HandlerBlock name) [] items;
}

-- A block or a handler is closed.

regrouped : (items frames block last : List NumberedLine) → (items ++ frames) ++ (block ++ last) ≡ (items ++ (frames ++ block)) ++ last
regrouped items frames block last =
    sym (append_assoc (items ++ frames) block last) ∙ ap (λ (ls : List NumberedLine). ls ++ last) (append_assoc items frames block)

each_lines : (line last : ℕ) (cs : List Command) (block : Block) → block_lines block ≡ commands_lines cs
    → command_lines (Each line block last) ≡ (numbered line (codes "each" ∷ []) ∷ commands_lines cs) ++ (end_line last ∷ [])
unfolding command_lines
each_lines line last cs block e = ap (λ (ls : List NumberedLine). numbered line (codes "each" ∷ []) ∷ (ls ++ (end_line last ∷ []))) e

when_lines : (line last : ℕ) (condition : Condition) (cs : List Command) (block : Block) → block_lines block ≡ commands_lines cs
    → command_lines (When line condition block last) ≡ (numbered line (codes "when" ∷ condition_words condition) ∷ commands_lines cs) ++ (end_line last ∷ [])
unfolding command_lines
when_lines line last condition cs block e = ap (λ (ls : List NumberedLine). numbered line (codes "when" ∷ condition_words condition) ∷ (ls ++ (end_line last ∷ []))) e

handler_lines : (line last : ℕ) (name : List ℕ) (cs : List Command) (block : Block) → block_lines block ≡ commands_lines cs
    → item_lines (Handler line name block last) ≡ (numbered line (codes "handler" ∷ name ∷ []) ∷ commands_lines cs) ++ (end_line last ∷ [])
unfolding item_lines
handler_lines line last name cs block e = ap (λ (ls : List NumberedLine). numbered line (codes "handler" ∷ name ∷ []) ∷ (ls ++ (end_line last ∷ []))) e

-- the lines of a closed block, put where the open one stood
put_closed : (s t : State) (f : Frame) (last : ℕ) (c : Command) → command_lines c ≡ (numbered f.line (opening_words f.opening) ∷ commands_lines f.commands) ++ (end_line last ∷ []) → Follows s (command_lines c) t
    → Follows (record s { frames = f ∷ s.frames }) (end_line last ∷ []) t
put_closed s t f last c e follows = record {
  same = follows.same;
  kept = follows.kept;
  lines = follows.lines ∙ ap (λ (ls : List NumberedLine). state_lines s ++ ls) e
      ∙ regrouped (kept_lines s.items) (frames_lines s.frames) (numbered f.line (opening_words f.opening) ∷ commands_lines f.commands) (end_line last ∷ []);
}

each_good : (version : Version) (line last : ℕ) (block : Block) → IsBlock version block → IsCommand version (Each line block last)
unfolding IsCommand
each_good version line last block h = h

each_deep : (line last : ℕ) (block : Block) → command_depth (Each line block last) ≡ block_depth block + 1
unfolding command_depth
each_deep line last block = omega arith

each_closed : (version : Version) (line last : ℕ) (cs : List Command) (fs : List Frame) (items : List Item) (names : List (List ℕ)) → IsKeptState (state version (frame line EachBlock cs ∷ fs) items names)
    → Follows (state version (frame line EachBlock cs ∷ fs) items names) (end_line last ∷ []) (put (Each line (block_before cs NoMore) last) (state version fs items names))
each_closed version line last cs fs items names is =
    let block : Block = block_before cs NoMore in
    let closed : IsClosed version cs block = closed_good version cs is.frames.0.commands in
    let below : IsKeptState (state version fs items names) = record { frames = is.frames.1; items = is.items; names_are = is.names_are; differ = is.differ; few = is.few } in
    put_closed (state version fs items names) (put (Each line block last) (state version fs items names)) (frame line EachBlock cs) last (Each line block last) (each_lines line last cs block closed.lines)
    (put_follows version (Each line block last) (each_good version line last block closed.meant) fs items names
    (omega (arith, is.frames.0.nested, each_counts line cs fs, each_deep line last block, closed.depth)) below)

when_good : (version : Version) (line last : ℕ) (condition : Condition) (block : Block) → AreMeant (test_parts condition.asks) → IsBlock version block → IsCommand version (When line condition block last)
unfolding IsCommand
when_good version line last condition block h k = (h, k)

when_deep : (line last : ℕ) (condition : Condition) (block : Block) → command_depth (When line condition block last) ≡ block_depth block + 1
unfolding command_depth
when_deep line last condition block = omega arith

when_closed : (version : Version) (line last : ℕ) (condition : Condition) (cs : List Command) (fs : List Frame) (items : List Item) (names : List (List ℕ)) → IsKeptState (state version (frame line (WhenBlock condition) cs ∷ fs) items names)
    → Follows (state version (frame line (WhenBlock condition) cs ∷ fs) items names) (end_line last ∷ []) (put (When line condition (block_before cs NoMore) last) (state version fs items names))
when_closed version line last condition cs fs items names is =
    let block : Block = block_before cs NoMore in
    let closed : IsClosed version cs block = closed_good version cs is.frames.0.commands in
    let below : IsKeptState (state version fs items names) = record { frames = is.frames.1; items = is.items; names_are = is.names_are; differ = is.differ; few = is.few } in
    put_closed (state version fs items names) (put (When line condition block last) (state version fs items names)) (frame line (WhenBlock condition) cs) last (When line condition block last) (when_lines line last condition cs block closed.lines)
    (put_follows version (When line condition block last) (when_good version line last condition block is.frames.0.opening closed.meant) fs items names
    (omega (arith, is.frames.0.nested, when_counts line condition cs fs, when_deep line last condition block, closed.depth)) below)

handler_kept : (version : Version) (line last : ℕ) (name : List ℕ) (block : Block) → IsName name → IsBlock version block → block_depth block ≤ 16 → IsKept version (Handler line name block last)
unfolding IsItem item_depth
handler_kept version line last name block h k deep = record { meant = (h, k); nested = deep }

handler_alone_closed : (version : Version) (line last : ℕ) (name : List ℕ) (cs : List Command) (items : List Item) (names : List (List ℕ)) → IsKeptState (state version (frame line (HandlerBlock name) cs ∷ []) items names)
    → Follows (state version (frame line (HandlerBlock name) cs ∷ []) items names) (end_line last ∷ []) (state version [] (Handler line name (block_before cs NoMore) last ∷ items) names)
handler_alone_closed version line last name cs items names is =
    let block : Block = block_before cs NoMore in
    let closed : IsClosed version cs block = closed_good version cs is.frames.0.commands in
    record {
      same = refl;
      kept = record {
        frames = tt;
        items = (handler_kept version line last name block is.frames.0.opening.0 closed.meant (omega (arith, is.frames.0.nested, closed.depth)), is.items);
        names_are = is.names_are;
        differ = is.differ;
        few = is.few;
      };
      lines = append-nil (kept_lines items ++ item_lines (Handler line name block last))
          ∙ ap (λ (ls : List NumberedLine). kept_lines items ++ ls) (handler_lines line last name cs block closed.lines)
          ∙ sym (append_assoc (kept_lines items) (numbered line (codes "handler" ∷ name ∷ []) ∷ commands_lines cs) (end_line last ∷ []));
    }

handler_closed : (version : Version) (line last : ℕ) (name : List ℕ) (cs : List Command) (fs : List Frame) (items : List Item) (names : List (List ℕ)) → fs ≡ [] → IsKeptState (state version (frame line (HandlerBlock name) cs ∷ fs) items names)
    → Follows (state version (frame line (HandlerBlock name) cs ∷ fs) items names) (end_line last ∷ []) (state version fs (Handler line name (block_before cs NoMore) last ∷ items) names)
handler_closed version line last name cs [] items names e is = handler_alone_closed version line last name cs items names is
handler_closed version line last name cs (f ∷ fs) items names e is = absurd cc

close_follows : (version : Version) (line last : ℕ) (opening : Opening) (cs : List Command) (fs : List Frame) (items : List Item) (names : List (List ℕ)) → IsKeptState (state version (frame line opening cs ∷ fs) items names)
    → Follows (state version (frame line opening cs ∷ fs) items names) (end_line last ∷ []) (closed opening line (block_before cs NoMore) last (state version fs items names))
unfolding closed
close_follows version line last EachBlock cs fs items names is = each_closed version line last cs fs items names is
close_follows version line last (WhenBlock condition) cs fs items names is = when_closed version line last condition cs fs items names is
close_follows version line last (HandlerBlock name) cs fs items names is = handler_closed version line last name cs fs items names is.frames.0.opening.1 is

-- A statement is placed.

ok_is : (x y : State) → ◌≡◌ {A = Result State Refusal} (Ok x) (Ok y) → x ≡ y
ok_is x y e = cc

-- what an `if` gives that is no refusal
chosen : (b : Bool) (x : State) (refusal : Refusal) (y : State) → ◌≡◌ {A = Result State Refusal} (cond b (Ok x) (Err refusal)) (Ok y) → (b ≡ true) × (x ≡ y)
chosen true x refusal y e = (refl, ok_is x y e)
chosen false x refusal y e = absurd cc

block_opened : (version : Version) (line : ℕ) (opening : Opening) (frames : List Frame) (items : List Item) (names : List (List ℕ)) (t : State) → open_block line opening (state version frames items names) ≡ Ok t
    → (blocks frames < 16) × (state version (frame line opening [] ∷ frames) items names ≡ t)
unfolding open_block opened
block_opened version line opening frames items names t e =
    let c = chosen (nat_lt (blocks frames) 16) (state version (frame line opening [] ∷ frames) items names) (LimitAt limits.Nesting line) t e in
    (ltb-true (blocks frames) 16 c.0, c.1)

handler_may : (version : Version) (line : ℕ) (name : List ℕ) (frames : List Frame) (items : List Item) (names : List (List ℕ)) (t : State) → open_handler line name (state version frames items names) ≡ Ok t
    → (length names < 4096) × (state version (frame line (HandlerBlock name) [] ∷ frames) items (name ∷ names) ≡ t)
unfolding open_handler opened
handler_may version line name frames items names t e =
    let c = chosen (nat_lt (length names) 4096) (state version (frame line (HandlerBlock name) [] ∷ frames) items (name ∷ names)) (LimitAt limits.Handlers line) t e in
    (ltb-true (length names) 4096 c.0, c.1)

simple_good : (version : Version) (line : ℕ) (action : Action) → IsAction version action → IsCommand version (Simple line action)
unfolding IsCommand
simple_good version line action h = h

simple_deep : (line : ℕ) (action : Action) → command_depth (Simple line action) ≡ 0
unfolding command_depth
simple_deep line action = refl

simple_lines : (line : ℕ) (action : Action) → command_lines (Simple line action) ≡ numbered line (action_words action) ∷ []
unfolding command_lines
simple_lines line action = refl

does_follows : (version : Version) (line : ℕ) (action : Action) (frames : List Frame) (items : List Item) (names : List (List ℕ)) → IsAction version action → IsKeptState (state version frames items names)
    → Follows (state version frames items names) (numbered line (action_words action) ∷ []) (put (Simple line action) (state version frames items names))
does_follows version line action frames items names h is =
    subst (λ (ls : List NumberedLine). Follows (state version frames items names) ls (put (Simple line action) (state version frames items names))) (simple_lines line action)
    (put_follows version (Simple line action) (simple_good version line action h) frames items names (omega (arith, simple_deep line action, frames_blocks version frames is.frames)) is)

tick_kept : (version : Version) (line time : ℕ) → time ≤ 1000000000000 → IsKept version (Tick line time)
unfolding IsItem item_depth
tick_kept version line time h = record { meant = h; nested = omega arith }

tick_lines : (line time : ℕ) → item_lines (Tick line time) ≡ numbered line (codes "tick" ∷ decimal time ∷ []) ∷ []
unfolding item_lines
tick_lines line time = refl

ticks_follows : (version : Version) (line time : ℕ) (items : List Item) (names : List (List ℕ)) → time ≤ 1000000000000 → IsKeptState (state version [] items names)
    → Follows (state version [] items names) (numbered line (codes "tick" ∷ decimal time ∷ []) ∷ []) (state version [] (Tick line time ∷ items) names)
ticks_follows version line time items names h is = record {
  same = refl;
  kept = record { frames = tt; items = (tick_kept version line time h, is.items); names_are = is.names_are; differ = is.differ; few = is.few };
  lines = append-nil (kept_lines items ++ item_lines (Tick line time)) ∙ ap (λ (ls : List NumberedLine). kept_lines items ++ ls) (tick_lines line time)
      ∙ ap (λ (ls : List NumberedLine). ls ++ (numbered line (codes "tick" ∷ decimal time ∷ []) ∷ [])) (sym (append-nil (kept_lines items)));
}

pub placed_follows : (version : Version) (line : ℕ) (statement : Statement) (frames : List Frame) (items : List Item) (names : List (List ℕ)) (t : State) → IsStatement (standing (state version frames items names)) statement
    → placed line statement (state version frames items names) ≡ Ok t → IsKeptState (state version frames items names) → Follows (state version frames items names) (numbered line (statement_words statement) ∷ []) t
unfolding placed standing is_empty close_in
placed_follows version line (Does action) frames items names t h e is =
    subst (Follows (state version frames items names) (numbered line (action_words action) ∷ [])) (ok_is _ t e) (does_follows version line action frames items names h is)
placed_follows version line (Ticks time) [] items names t h e is =
    subst (Follows (state version [] items names) (numbered line (codes "tick" ∷ decimal time ∷ []) ∷ [])) (ok_is _ t e) (ticks_follows version line time items names h.0 is)
placed_follows version line (Ticks time) (f ∷ fs) items names t h e is = absurd (cc h.1)
placed_follows version line OpensEach frames items names t h e is =
    let may = block_opened version line EachBlock frames items names t e in
    subst (Follows (state version frames items names) (numbered line (codes "each" ∷ []) ∷ [])) may.1 (each_opened version line frames items names may.0 is)
placed_follows version line (OpensWhen condition) frames items names t h e is =
    let may = block_opened version line (WhenBlock condition) frames items names t e in
    subst (Follows (state version frames items names) (numbered line (codes "when" ∷ condition_words condition) ∷ [])) may.1 (when_opened version line condition frames items names h may.0 is)
placed_follows version line (OpensHandler name) [] items names t h e is =
    let may = handler_may version line name [] items names t e in
    subst (Follows (state version [] items names) (numbered line (codes "handler" ∷ name ∷ []) ∷ [])) may.1 (handler_opened version line name items names h.0 h.1 may.0 is)
placed_follows version line (OpensHandler name) (f ∷ fs) items names t h e is = absurd (cc h.2)
placed_follows version line Ends [] items names t h e is = absurd (cc h)
placed_follows version line Ends (f ∷ fs) items names t h e is =
    subst (Follows (state version (f ∷ fs) items names) (end_line line ∷ [])) (ok_is _ t e) (close_follows version f.line line f.opening f.commands fs items names is)
