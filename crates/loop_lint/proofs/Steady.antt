-- In a steady script no command of a round uproots anything, so the depths of a loop grow.
use Rattle.std.proofs.Common.{◌≡◌, refl, subst, arith, ◌≤◌, true≢false}
use Rattle.std.proofs.lemmas.List.{length-map}
use Rattle.std.proofs.lemmas.List.Sums.{sum_by-cons}
use Rattle.std.specs.Prelude.{ℕ, suc, ◌+◌, ◌*◌, Bool, true, false, cond, List, [], ◌∷◌, map, sum_by, count_by, ⊤}
use Rattle.std.specs.List.{AllByRecursion}
use Rattle.text_io.specs.declared.kinds.Version.{Version}
use Rattle.script_model.specs.Syntax.{Action, Append, Before, Remove, Command, Simple, Each, When, Item}
use Rattle.script_model.specs.Scripts.{handlers_in}
use Rattle.script_model.specs.TraceLines.{TraceLine}
use Rattle.page_model.specs.World.{World}
use Rattle.page_model.specs.Operands.{Present}
use Rattle.page_model.specs.Commands.{does}
use Rattle.page_model.specs.Runs.{most_steps}
use Rattle.page_model.specs.Callbacks.{Script, handler_names, presents}
use Rattle.page_model.specs.Loop.{gather, round}
use Rattle.page_laws.proofs.Steps.{on_did-all}
use Rattle.page_laws.proofs.Lists.{all-append, all-map}
use Rattle.page_laws.proofs.Keeping.{counted}
use Rattle.page_laws.proofs.Later.{all-so}
use Rattle.page_laws.proofs.RunsInRange.{IsEntryIn}
use Rattle.loop_laws.specs.Moments.{Moment}
use Rattle.loop_laws.specs.Rounds.{goes_on, round_depth}
use Rattle.loop_laws.specs.RunLoops.{Loop, loops_of_run}
use Rattle.loop_laws.specs.Uprooting.{moved_operand, lifts, uproots_by, uproots, gathered_targets, uprootings}
use Rattle.loop_laws.specs.WholeLoops.{round_starts, GoesDeeper}
use Rattle.loop_laws.proofs.Folds.{while-joined, all-joined, repeat-along}
use Rattle.loop_laws.proofs.Loops.{loop-goes-deeper, loop-ends}
use Rattle.loop_laws.proofs.Walk.{CommandHolds, moment_of, IsAlong, call-along, IsDelivered, broadcasts-along, IsTold, IsWalked, round-fine, loop-fine}
use Rattle.loop_lint.specs.LoopHandlers.{is_empty, is_unnamed, loop_handler_lines}
use Rattle.loop_lint.specs.Verdicts.{moves, is_steady}
use Rattle.loop_lint.specs.RunLoops.{AreGrowing, IsSteadyLoop}
use Rattle.loop_lint.proofs.Holding.{Fails}
use Rattle.loop_lint.proofs.Tame.{tame-at}
use Rattle.loop_lint.proofs.Held.{IsHeld, held-walked, run-in}

none-summed : {A : Type 0} (f : A → ℕ) (xs : List A) → AllByRecursion (λ x. f x ≡ 0) xs → sum_by f xs ≡ 0
none-summed f [] all = refl
none-summed f (x ∷ xs) all =
    let first : f x ≡ 0 = all.0 in
    let others : sum_by f xs ≡ 0 = none-summed f xs (all.1) in
    let sum : sum_by f (x ∷ xs) ≡ f x + sum_by f xs = sum_by-cons f x xs in
    omega (arith, sum, first, others)

abbrev weight : Bool → ℕ
weight passes = cond passes 1 0

none-counted : {A : Type 0} (test : A → Bool) (xs : List A) → AllByRecursion (λ x. test x ≡ false) xs → count_by test xs ≡ 0
none-counted test xs all =
    none-summed (λ x. weight (test x)) xs (all-map (λ x. test x ≡ false) (λ x. weight (test x) ≡ 0) (λ x is. by (test x) is) xs all)
  where
    by : (passes : Bool) → passes ≡ false → weight passes ≡ 0
    by true is = absurd (true≢false is)
    by false is = refl

-- no command of a steady handler uproots ------------------------------------------------------------------------------------------

module _ (script : Script) (targets : List ℕ) where
  gentle-action : (now : Moment) (action : Action) → moves action ≡ false → lifts script targets now action (moved_operand action) ≡ false
  gentle-action now (Append parent node) still = absurd (true≢false still)
  gentle-action now (Before parent node sibling) still = absurd (true≢false still)
  gentle-action now (Remove node) still = absurd (true≢false still)
  gentle-action now action still = refl

  abbrev IsGentle : Moment → Type 0
  IsGentle now = uproots script targets now ≡ false

  gentle : (now : Moment) (command : Command) → CommandHolds (Fails moves) command → uproots_by script targets now command ≡ false
  unfolding CommandHolds
  gentle now (Simple line action) holds = gentle-action now action holds
  gentle now (Each line block end_line) holds = refl
  gentle now (When line condition block end_line) holds = refl

  abbrev Gentles : World → List TraceLine → List Moment → World → Type 0
  Gentles before lines moments now = AllByRecursion IsGentle moments

  gentle-along : IsAlong script (Fails moves) (λ (present : Present). ⊤) Gentles
  unfolding uproots
  gentle-along = record {
    joined = all-joined IsGentle;
    plain = λ world lines plain. tt;
    begun = λ world present command fits is room. (gentle (moment_of world present command) command fits, tt);
    does = λ line action present world fits is room. on_did-all (does (handler_names script) (counted world) present action) _
        (λ effect. (gentle-action (moment_of world present (Simple line action)) action fits, tt));
    none = tt;
  }

-- loops -------------------------------------------------------------------------------------------------------------------------

growing : (script : Script) (document before : ℕ) (starts : List World) → GoesDeeper script document before starts →
    AllByRecursion (λ start. uprootings script document start ≡ 0) starts → AreGrowing before (map (round_depth script document) starts)
growing script document before [] deeper none = tt
growing script document before (start ∷ others) deeper none =
    ((deeper.0) (none.0), growing script document (round_depth script document start) others (deeper.1) (none.1))

short : (mapped rounds moved most : ℕ) → mapped ≡ rounds → moved ≡ 0 → rounds ≤ suc moved * most → mapped ≤ most
short mapped rounds moved most same none few =
    let once : rounds ≤ suc 0 * most = subst (λ (n : ℕ). rounds ≤ suc n * most) none few in omega (arith, same, once)

module _ (items : List Item) (steady : is_steady items ≡ true) where
  abbrev script : Script
  script = handlers_in items

  empty : is_empty (loop_handler_lines moves items) ≡ true
  unfolding is_steady
  empty = steady

  abbrev Held : World → Type 0
  Held world = IsHeld moves items empty world

  walked : IsWalked script Held IsEntryIn
  walked = held-walked moves items empty

  abbrev Any : List TraceLine → List Loop → Type 0
  Any lines loops = ⊤

  any : IsTold Any
  any = record { nothing = tt; both = λ lines more loops others one other. tt; plain = λ line plain. tt }

  module _ (document : ℕ) where
    rooted-delivered : (start : World) → IsDelivered script document Held IsEntryIn (Gentles script (gathered_targets document start))
    rooted-delivered start = record {
      joined = (gentle-along script (gathered_targets document start)).joined;
      due = walked.due document;
      calls = λ observer delivered handed world are here. (
        walked.calls document _ handed _ are (walked.reported observer delivered world here),
        call-along script _ _ _ (gentle-along script (gathered_targets document start)) document _ handed _ (all-so (presents handed))
            (tame-at moves (is_unnamed items) script (world.resize_observers) observer (here.tame)),
      );
      emptied = λ observer before world lines moments is here there. (walked.emptied document observer world is here, there);
    }

    rooted : (start : World) → Held start → uprootings script document start ≡ 0
    unfolding uprootings
    rooted start here =
        none-counted (uproots script (gathered_targets document start)) _
        (broadcasts-along script document Held IsEntryIn (Gentles script (gathered_targets document start)) (rooted-delivered start) start here).1

    starts-rooted : (world : World) → Held world → AllByRecursion (λ start. uprootings script document start ≡ 0) (round_starts script document world)
    unfolding round_starts
    starts-rooted world here =
        (repeat-along (λ (before : World) (lines : List TraceLine) (starts : List World) (now : World).
        Held before → Held now × AllByRecursion (λ start. uprootings script document start ≡ 0) starts)
        (while-joined Held _ (all-joined (λ start. uprootings script document start ≡ 0)))
        (goes_on document) (round script document) (λ now. now ∷ []) most_steps
        (λ now goes held. ((round-fine script Held IsEntryIn walked Any any (λ text depth. tt) document now held).0, (rooted now held, tt)))
        (gather document 0 world) (walked.gathered document 0 world here)).1

    steady-loop : (world : World) → Held world → IsSteadyLoop script (record { document = document; world = world })
    steady-loop world here = record {
      growing = growing script document 0 (round_starts script document world) (loop-goes-deeper script document world (here.limits)) (starts-rooted world here);
      short = short _ _ _ _ (length-map (round_starts script document world) (round_depth script document))
          (none-summed (uprootings script document) (round_starts script document world) (starts-rooted world here)) (loop-ends script document world (here.limits));
    }

  abbrev Steadies : List TraceLine → List Loop → Type 0
  Steadies lines loops = AllByRecursion (IsSteadyLoop script) loops

  steadies : IsTold Steadies
  steadies = record {
    nothing = tt;
    both = λ lines more loops others one other. all-append (IsSteadyLoop script) loops others one other;
    plain = λ line plain. tt;
  }

  pub steady-loops : (version : Version) → AllByRecursion (IsSteadyLoop script) (loops_of_run version items)
  steady-loops =
      run-in moves items empty Steadies steadies
      (λ document now here. ((loop-fine script Held IsEntryIn walked Any any (λ text depth. tt) document (λ text. tt) now here).0, (steady-loop document now here, tt)))
