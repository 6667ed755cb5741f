-- A page that is run at each line from the first on: its items are run one after another.
use Rattle.std.proofs.Common.{◌≡◌, ◌∙◌, refl, sym, ap, subst, ℕ, zero, suc, ◌+◌, ◌<◌, ◌≤◌, Bool, true, false, cond, List, [], ◌∷◌, ◌++◌, arith}
use Rattle.std.specs.Prelude.{◌==◌, Ok, Err}
use Rattle.std.proofs.lemmas.Bool.{eqb-true, eqb-false}
use Rattle.std.proofs.lemmas.List.{append-nil}
use Rattle.script_model.specs.Syntax.{Item, Outside, Tick, Handler}
use Rattle.script_model.specs.Scripts.{NamedBlock, handlers_in}
use Rattle.script_model.specs.Reading.{Reading}
use Rattle.script_model.specs.TraceLines.{TraceLine}
use Rattle.page_model.specs.World.{World}
use Rattle.page_model.specs.Runs.{Flow, Next, Thrown, Limited, Said, for_each, caught_flow, caught, ◌followed_by◌, follow}
use Rattle.page_model.specs.Outcome.{Ending, LimitMet, opening_world, run_item, run_items, ending_of, outcome_read}
use Rattle.stream_runs.specs.PageRuns.{Standing, Going, Over, Turn, passed, stands_by, went_on, item_line, turn_at, opened_with, ending_at, refused_lines}

-- lines, and then a turn
abbrev pub then_turn : List TraceLine → Turn → Turn
then_turn lines turn = record { lines = lines ++ turn.lines; standing = turn.standing }

-- a page at these lines, one after another
abbrev pub lines_run : List ℕ → Standing → Turn
lines_run [] standing = passed standing
lines_run (line ∷ lines) standing = then_turn (turn_at line standing).lines (lines_run lines (turn_at line standing).standing)

-- so many numbers behind one
abbrev pub up_from : ℕ → ℕ → List ℕ
up_from k zero = []
up_from k (suc n) = (k + 1) ∷ up_from (k + 1) n

-- items begin on rising lines, behind the first number and up to the other
abbrev pub AreWithin : ℕ → ℕ → List Item → Type 0
AreWithin k most [] = Unit {0}
AreWithin k most (item ∷ items) = (k < item_line item) × (item_line item ≤ most) × AreWithin (item_line item) most items

-- ---- single turns

turn-over : (line : ℕ) (ending : Ending) → turn_at line (Over ending) ≡ passed (Over ending)
unfolding turn_at
turn-over line ending = refl

turn-none : (line : ℕ) (handlers : List NamedBlock) (world : World) → turn_at line (Going handlers [] world) ≡ passed (Going handlers [] world)
unfolding turn_at
turn-none line handlers world = refl

turn-passed : (line : ℕ) (handlers : List NamedBlock) (item : Item) (others : List Item) (world : World) → (item_line item == line) ≡ false
    → turn_at line (Going handlers (item ∷ others) world) ≡ passed (Going handlers (item ∷ others) world)
unfolding turn_at
turn-passed line handlers item others world other =
    ap (λ here. cond here (went_on handlers others (run_item handlers item world)) (passed (Going handlers (item ∷ others) world))) other

turn-taken : (line : ℕ) (handlers : List NamedBlock) (item : Item) (others : List Item) (world : World) → (item_line item == line) ≡ true
    → turn_at line (Going handlers (item ∷ others) world) ≡ went_on handlers others (run_item handlers item world)
unfolding turn_at
turn-taken line handlers item others world is =
    ap (λ here. cond here (went_on handlers others (run_item handlers item world)) (passed (Going handlers (item ∷ others) world))) is

-- where the first turn is this, the lines from there on are so
turned-first : (line : ℕ) (lines : List ℕ) (standing : Standing) (turn : Turn) → turn_at line standing ≡ turn
    → lines_run (line ∷ lines) standing ≡ then_turn turn.lines (lines_run lines turn.standing)
turned-first line lines standing turn is = ap (λ (t : Turn). then_turn t.lines (lines_run lines t.standing)) is

-- a page whose run is over stays so
pub over_stays : (lines : List ℕ) (ending : Ending) → lines_run lines (Over ending) ≡ passed (Over ending)
over_stays [] ending = refl
over_stays (line ∷ lines) ending =
    turned-first line lines (Over ending) (passed (Over ending)) (turn-over line ending)
    ∙ ap (λ t. then_turn [] t) (over_stays lines ending)

-- ---- flows

never-thrown : (flow : Flow) → caught_flow flow ≡ Thrown → ⊥
unfolding caught_flow
never-thrown Next is = absurd (let no : ⊥ = cc in no)
never-thrown Thrown is = absurd (let no : ⊥ = cc in no)
never-thrown Limited is = absurd (let no : ⊥ = cc in no)

next-never : Next ≡ Thrown → ⊥
next-never is = absurd (let no : ⊥ = cc in no)

-- a throw ends an item, and nothing more
item-never-throws : (handlers : List NamedBlock) (item : Item) (world : World) → (run_item handlers item world).flow ≡ Thrown → ⊥
unfolding run_item caught
item-never-throws handlers (Outside command) world is = never-thrown _ is
item-never-throws handlers (Tick line time) world is = never-thrown _ is
item-never-throws handlers (Handler line name block end_line) world is = next-never is

-- an item was run, and then the lines behind it
item-run : (flow : Flow) (said_lines : List TraceLine) (state : World) (handlers : List NamedBlock) (others : List Item) (rest : World → Said World) (lines : List ℕ) → (flow ≡ Thrown → ⊥)
    → lines_run lines (Going handlers others state) ≡ went_on handlers [] (rest state)
    → then_turn said_lines (lines_run lines (stands_by flow handlers others state))
    ≡ went_on handlers [] ((record { lines = said_lines; flow = flow; state = state }) followed_by rest)
unfolding ◌followed_by◌ follow
item-run Next said_lines state handlers others rest lines never later = ap (λ t. then_turn said_lines t) later
item-run Thrown said_lines state handlers others rest lines never later = absurd (never refl)
item-run Limited said_lines state handlers others rest lines never later =
    ap (λ t. then_turn said_lines t) (over_stays lines LimitMet)
    ∙ ap (λ ls. record { lines = ls; standing = Over LimitMet }) (append-nil said_lines)

-- ---- all items

first-said : (handlers : List NamedBlock) (item : Item) (others : List Item) (world : World)
    → for_each (run_item handlers) (item ∷ others) world ≡ run_item handlers item world followed_by for_each (run_item handlers) others
unfolding for_each
first-said handlers item others world = refl

none-said : (handlers : List NamedBlock) (world : World) → passed (Going handlers [] world) ≡ went_on handlers [] (for_each (run_item handlers) [] world)
unfolding for_each
none-said handlers world = refl

-- an item and those behind it, where the first line is that of the item, and where it isn't
one-run : (n k most : ℕ) (handlers : List NamedBlock) (item : Item) (others : List Item) (world : World) → most ≡ k + suc n → AreWithin k most (item ∷ others)
    → ((state : World) → AreWithin (k + 1) most others → lines_run (up_from (k + 1) n) (Going handlers others state) ≡ went_on handlers [] (for_each (run_item handlers) others state))
    → (AreWithin (k + 1) most (item ∷ others) → lines_run (up_from (k + 1) n) (Going handlers (item ∷ others) world) ≡ went_on handlers [] (for_each (run_item handlers) (item ∷ others) world))
    → (here : Bool) → (item_line item == (k + 1)) ≡ here
    → lines_run (up_from k (suc n)) (Going handlers (item ∷ others) world) ≡ went_on handlers [] (for_each (run_item handlers) (item ∷ others) world)
one-run n k most handlers item others world is within taken passes true at =
    let said : Said World = run_item handlers item world in
    turned-first (k + 1) (up_from (k + 1) n) (Going handlers (item ∷ others) world) (went_on handlers others said) (turn-taken (k + 1) handlers item others world at)
    ∙ item-run said.flow said.lines said.state handlers others (for_each (run_item handlers) others) (up_from (k + 1) n) (item-never-throws handlers item world)
    (taken said.state (subst (λ line. AreWithin line most others) (eqb-true (item_line item) (k + 1) at) within.2))
    ∙ ap (λ all. went_on handlers [] all) (sym (first-said handlers item others world))
one-run n k most handlers item others world is within taken passes false at =
    let above = within.0 in
    let other = eqb-false (item_line item) (k + 1) at in
    turned-first (k + 1) (up_from (k + 1) n) (Going handlers (item ∷ others) world) (passed (Going handlers (item ∷ others) world)) (turn-passed (k + 1) handlers item others world at)
    ∙ ap (λ t. then_turn [] t) (passes (later above other, within.1, within.2))
  where
    later : k < item_line item → (item_line item ≡ k + 1 → ⊥) → k + 1 < item_line item
    later above other = omega (arith, above, other)

-- the items that begin on these lines are run
pub all_run : (n k most : ℕ) (handlers : List NamedBlock) (items : List Item) (world : World) → most ≡ k + n → AreWithin k most items
    → lines_run (up_from k n) (Going handlers items world) ≡ went_on handlers [] (for_each (run_item handlers) items world)
all_run zero k most handlers [] world is within = none-said handlers world
all_run zero k most handlers (item ∷ others) world is within = absurd (let above = within.0 in let below = within.1 in omega arith)
all_run (suc n) k most handlers [] world is within =
    turned-first (k + 1) (up_from (k + 1) n) (Going handlers [] world) (passed (Going handlers [] world)) (turn-none (k + 1) handlers world)
    ∙ ap (λ t. then_turn [] t) (all_run n (k + 1) most handlers [] world (omega arith) tt)
all_run (suc n) k most handlers (item ∷ others) world is within =
    one-run n k most handlers item others world is within (λ state inside. all_run n (k + 1) most handlers others state (omega arith) inside)
    (λ inside. all_run n (k + 1) most handlers (item ∷ others) world (omega arith) inside) (item_line item == (k + 1)) refl

-- ---- a whole page

ending-stands : (flow : Flow) (handlers : List NamedBlock) (state : World) → ending_at (stands_by flow handlers [] state) ≡ ending_of flow
unfolding ending_of
ending-stands Next handlers state = refl
ending-stands Thrown handlers state = refl
ending-stands Limited handlers state = refl

-- the items of a script that is read begin within so many lines
abbrev pub FitsIn : ℕ → Reading → Type 0
FitsIn n (Ok script) = AreWithin 0 n script.items
FitsIn n (Err refusal) = Unit {0}

-- what a page says before its first line and at so many lines, and how it stands then, is the outcome of its script
pub record IsOutcome (read : Reading) (turn : Turn) : Type 0 where
  pub lines : refused_lines read ++ turn.lines ≡ (outcome_read read).lines
  pub ending : ending_at turn.standing ≡ (outcome_read read).ending

pub as_alone : (n : ℕ) (read : Reading) → FitsIn n read → IsOutcome read (lines_run (up_from 0 n) (opened_with read))
unfolding outcome_read run_items
as_alone n (Ok script) within =
    let all = all_run n 0 n (handlers_in script.items) script.items (opening_world script.version) (omega arith) within in
    let said : Said World = for_each (run_item (handlers_in script.items)) script.items (opening_world script.version) in
    record {
      lines = ap (λ (t : Turn). t.lines) all;
      ending = ap (λ (t : Turn). ending_at t.standing) all ∙ ending-stands said.flow (handlers_in script.items) said.state;
    }
as_alone n (Err refusal) within =
    let over = over_stays (up_from 0 n) (ending_at (opened_with (Err refusal))) in
    record {
      lines = ap (λ (t : Turn). refused_lines (Err refusal) ++ t.lines) over;
      ending = ap (λ (t : Turn). ending_at t.standing) over;
    }
