-- A text that is read from a later line on gives the same script with later lines.
use Rattle.std.proofs.Common.{◌≡◌, ◌∙◌, refl, sym, ap, ℕ, ◌+◌, Bool, true, false, List, [], ◌∷◌, ◌++◌, length}
use Rattle.std.specs.Prelude.{cond, map, reverse, nat_lt, fold, count_by, Result, Ok, Err}
use Rattle.std.proofs.lemmas.List.{map-append, reverse-append}
use Rattle.text_io.specs.declared.kinds.LimitKind.TheVariants as limits
use Rattle.text_io.specs.declared.kinds.Version.{Version}
use Rattle.text_io.specs.Limits.{common_limit}
use Rattle.script_model.specs.Syntax.{Command, Simple, Each, When, Block, NoMore, Then, Item, Script}
use Rattle.script_model.specs.Readers.{◌>>=◌, with_fault, is_empty}
use Rattle.script_model.specs.Lexing.{Line, Ending, Whole, BadByte, LongLine, Lexed}
use Rattle.script_model.specs.Statements.{Statement, Does, Ticks, OpensEach, OpensWhen, OpensHandler, Ends, statement_of, version_as}
use Rattle.script_model.specs.Reading.{Refusal, SyntaxAt, LimitAt, Opening, EachBlock, WhenBlock, HandlerBlock, Frame, State, nothing_read, put_in, put, block_before, is_block, opened, open_block, open_handler, closed, close_in, placed, standing, step, steps, finished, read_lines, read_lexed}
use Rattle.script_model.specs.Shifts.{renumbered, ending_renumbered, all_renumbered, command_later, block_later, item_later, refusal_later, reading_later}

abbrev frame_later : ℕ → Frame → Frame
frame_later lines frame = record {
  line = frame.line + lines;
  opening = frame.opening;
  commands = map (command_later lines) frame.commands;
}

abbrev state_later : ℕ → State → State
state_later lines s = record {
  version = s.version;
  frames = map (frame_later lines) s.frames;
  items = map (item_later lines) s.items;
  names = s.names;
}

abbrev result_later : {A : Type 0} → (A → A) → ℕ → Result A Refusal → Result A Refusal
result_later later lines (Ok x) = Ok (later x)
result_later later lines (Err refusal) = Err (refusal_later lines refusal)

put_later : (frames : List Frame) (lines : ℕ) (command : Command) (s : State) → put_in (map (frame_later lines) frames) (command_later lines command) (state_later lines s) ≡ state_later lines (put_in frames command s)
unfolding put_in item_later
put_later [] lines command s = refl
put_later (f ∷ fs) lines command s = refl

before_later : (commands : List Command) (lines : ℕ) (others : Block) → block_before (map (command_later lines) commands) (block_later lines others) ≡ block_later lines (block_before commands others)
unfolding block_before block_later
before_later [] lines others = refl
before_later (c ∷ cs) lines others = before_later cs lines (Then c others)

closed_later : (opening : Opening) (line : ℕ) (block : Block) (end_line lines : ℕ) (s : State) → closed opening (line + lines) (block_later lines block) (end_line + lines) (state_later lines s) ≡ state_later lines (closed opening line block end_line s)
unfolding closed put command_later item_later
closed_later EachBlock line block end_line lines s = put_later s.frames lines (Each line block end_line) s
closed_later (WhenBlock condition) line block end_line lines s = put_later s.frames lines (When line condition block end_line) s
closed_later (HandlerBlock name) line block end_line lines s = refl

close_later : (frames : List Frame) (end_line lines : ℕ) (s : State) → close_in (map (frame_later lines) frames) (end_line + lines) (state_later lines s) ≡ state_later lines (close_in frames end_line s)
unfolding close_in block_later
close_later [] end_line lines s = refl
close_later (f ∷ fs) end_line lines s =
    ap (λ (block : Block). closed f.opening (f.line + lines) block (end_line + lines) (record (state_later lines s) { frames = map (frame_later lines) fs })) (before_later f.commands lines NoMore)
    ∙ closed_later f.opening f.line (block_before f.commands NoMore) end_line lines (record s { frames = fs })

blocks_from : (frames : List Frame) (lines before : ℕ) → fold (λ n frame. n + cond (is_block frame.opening) 1 0) before (map (frame_later lines) frames) ≡ fold (λ n frame. n + cond (is_block frame.opening) 1 0) before frames
blocks_from [] lines before = refl
blocks_from (f ∷ fs) lines before = blocks_from fs lines (before + cond (is_block f.opening) 1 0)

blocks_later : (frames : List Frame) (lines : ℕ) → count_by (λ frame. is_block frame.opening) (map (frame_later lines) frames) ≡ count_by (λ frame. is_block frame.opening) frames
blocks_later frames lines = blocks_from frames lines 0

chosen_later : (room : Bool) (lines : ℕ) (near : State) (refusal : Refusal) → cond room (Ok (state_later lines near)) (Err (refusal_later lines refusal)) ≡ result_later (state_later lines) lines (cond room (Ok near) (Err refusal))
chosen_later true lines near refusal = refl
chosen_later false lines near refusal = refl

open_later : (line lines : ℕ) (opening : Opening) (s : State) → open_block (line + lines) opening (state_later lines s) ≡ result_later (state_later lines) lines (open_block line opening s)
unfolding open_block opened
open_later line lines opening s =
    ap (λ (n : ℕ). cond (nat_lt n (common_limit limits.Nesting)) (Ok (opened (line + lines) opening (state_later lines s))) (Err (LimitAt limits.Nesting (line + lines)))) (blocks_later s.frames lines)
    ∙ chosen_later _ lines (opened line opening s) (LimitAt limits.Nesting line)

placed_later : (statement : Statement) (line lines : ℕ) (s : State) → placed (line + lines) statement (state_later lines s) ≡ result_later (state_later lines) lines (placed line statement s)
unfolding placed put open_handler opened command_later item_later
placed_later (Does action) line lines s = ap (λ (t : State). Ok t) (put_later s.frames lines (Simple line action) s)
placed_later (Ticks time) line lines s = refl
placed_later OpensEach line lines s = open_later line lines EachBlock s
placed_later (OpensWhen condition) line lines s = open_later line lines (WhenBlock condition) s
placed_later (OpensHandler name) line lines s =
    chosen_later (nat_lt (length s.names) (common_limit limits.Handlers)) lines (opened line (HandlerBlock name) (record s { names = name ∷ s.names })) (LimitAt limits.Handlers line)
placed_later Ends line lines s = ap (λ (t : State). Ok t) (close_later s.frames line lines s)

empty_later : (frames : List Frame) (lines : ℕ) → is_empty (map (frame_later lines) frames) ≡ is_empty frames
unfolding is_empty
empty_later [] lines = refl
empty_later (f ∷ fs) lines = refl

bound_later : {A : Type 0} (read : Result A ℕ) (line lines : ℕ) (near far : A → Result State Refusal) → ((x : A) → far x ≡ result_later (state_later lines) lines (near x)) →
    (with_fault (SyntaxAt (line + lines)) read >>= far) ≡ result_later (state_later lines) lines (with_fault (SyntaxAt line) read >>= near)
bound_later (Ok x) line lines near far alike = alike x
bound_later (Err column) line lines near far alike = refl

step_later : (s : State) (line : Line) (lines : ℕ) → step (state_later lines s) (renumbered lines line) ≡ result_later (state_later lines) lines (step s line)
unfolding step standing
step_later s line lines =
    ap (λ (outside : Bool). with_fault (SyntaxAt (line.number + lines)) (statement_of (record { version = s.version; outside = outside; names = s.names }) line.row) >>= λ statement. placed (line.number + lines) statement (state_later lines s)) (empty_later s.frames lines)
    ∙ bound_later (statement_of (standing s) line.row) line.number lines _ _ (λ statement. placed_later statement line.number lines s)

behind_later : (read : Result State Refusal) (lines : ℕ) (near far : State → Result State Refusal) → ((s : State) → far (state_later lines s) ≡ result_later (state_later lines) lines (near s)) →
    (result_later (state_later lines) lines read >>= far) ≡ result_later (state_later lines) lines (read >>= near)
behind_later (Ok s) lines near far alike = alike s
behind_later (Err refusal) lines near far alike = refl

steps_later : (list : List Line) (lines : ℕ) (s : State) → steps (state_later lines s) (map (renumbered lines) list) ≡ result_later (state_later lines) lines (steps s list)
unfolding steps
steps_later [] lines s = refl
steps_later (l ∷ ls) lines s =
    ap (λ (read : Result State Refusal). read >>= λ next. steps next (map (renumbered lines) ls)) (step_later s l lines)
    ∙ behind_later (step s l) lines (λ next. steps next ls) (λ next. steps next (map (renumbered lines) ls)) (steps_later ls lines)

reverse_later : (items : List Item) (lines : ℕ) → reverse (map (item_later lines) items) ≡ map (item_later lines) (reverse items)
reverse_later [] lines = refl
reverse_later (i ∷ is) lines =
    reverse-append (item_later lines i ∷ []) (map (item_later lines) is)
    ∙ ap (λ (front : List Item). front ++ (item_later lines i ∷ [])) (reverse_later is lines)
    ∙ sym (map-append (item_later lines) (reverse is) (i ∷ []))
    ∙ ap (map (item_later lines)) (sym (reverse-append (i ∷ []) is))

finished_later : (version : Version) (frames : List Frame) (items : List Item) (ending : Ending) (lines : ℕ) →
    finished version (map (frame_later lines) frames) (map (item_later lines) items) (ending_renumbered lines ending) ≡ reading_later lines (finished version frames items ending)
unfolding finished
finished_later version [] items (Whole next_line) lines = ap (λ (x : List Item). Ok (record { version = version; items = x })) (reverse_later items lines)
finished_later version [] items (BadByte line column) lines = refl
finished_later version [] items (LongLine line) lines = refl
finished_later version (f ∷ fs) items (Whole next_line) lines = refl
finished_later version (f ∷ fs) items (BadByte line column) lines = refl
finished_later version (f ∷ fs) items (LongLine line) lines = refl

last_later : (read : Result State Refusal) (ending : Ending) (lines : ℕ) →
    (result_later (state_later lines) lines read >>= λ s. finished s.version s.frames s.items (ending_renumbered lines ending)) ≡ reading_later lines (read >>= λ s. finished s.version s.frames s.items ending)
last_later (Ok s) ending lines = finished_later s.version s.frames s.items ending lines
last_later (Err refusal) ending lines = refl

first_later : (version : Result Version ℕ) (line lines : ℕ) (near far : Version → Result Script Refusal) → ((x : Version) → far x ≡ reading_later lines (near x)) →
    (with_fault (SyntaxAt (line + lines)) version >>= far) ≡ reading_later lines (with_fault (SyntaxAt line) version >>= near)
first_later (Ok x) line lines near far alike = alike x
first_later (Err column) line lines near far alike = refl

lines_later : (list : List Line) (ending : Ending) (lines : ℕ) → read_lines (map (renumbered lines) list) (ending_renumbered lines ending) ≡ reading_later lines (read_lines list ending)
unfolding read_lines
lines_later [] (Whole next_line) lines = refl
lines_later [] (BadByte line column) lines = refl
lines_later [] (LongLine line) lines = refl
lines_later (l ∷ ls) ending lines =
    first_later (version_as l.row) l.number lines _ _ (λ version.
    ap (λ (read : Result State Refusal). read >>= λ s. finished s.version s.frames s.items (ending_renumbered lines ending)) (steps_later ls lines (nothing_read version))
    ∙ last_later (steps (nothing_read version) ls) ending lines)

pub lexed_later : (lexed : Lexed) (lines : ℕ) → read_lexed (all_renumbered lines lexed) ≡ reading_later lines (read_lexed lexed)
unfolding read_lexed
lexed_later lexed lines = lines_later lexed.lines lexed.ending lines
