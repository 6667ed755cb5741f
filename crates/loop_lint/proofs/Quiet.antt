-- In a quiet script a loop has one round at most, behind which nothing has changed, and so no error.
use Rattle.std.proofs.Common.{◌≡◌, refl, ap, sym, subst, ◌∙◌, arith, tests, ◌≤◌, true≢false}
use Rattle.std.specs.Prelude.{ℕ, zero, suc, ◌+◌, ◌<◌, ◌&&◌, nat_lt, Bool, true, false, cond, List, [], ◌∷◌, map, length, unwrap_or, Ok}
use Rattle.std.specs.List.{AllByRecursion}
use Rattle.script_model.specs.Syntax.{Item}
use Rattle.script_model.specs.Scripts.{handlers_in}
use Rattle.script_model.specs.Reading.{Reading, reading}
use Rattle.script_model.specs.TraceLines.{TraceLine, EventLine, FiredError}
use Rattle.text_io.specs.declared.kinds.Version.{Version}
use Rattle.script_model.specs.Syntax.{Script as WholeScript}
use Rattle.page_model.specs.World.{World, Observation}
use Rattle.page_model.specs.Documents.{is_active}
use Rattle.page_model.specs.Lookups.{resize_observer_at}
use Rattle.page_model.specs.Gathering.{sight_of, size_entry, with_reported, without_active, has_active, due_at}
use Rattle.page_model.specs.Runs.{Next, Said, Turn, silent, only_if, lifted, repeat, by_place, at_place, most_steps}
use Rattle.page_model.specs.Callbacks.{Script, SizeEntries, presents, call}
use Rattle.page_model.specs.Loop.{Broadcast, gather, emptied, deliver_some, broadcast, round, round_ended, resize_loop}
use Rattle.page_model.specs.Outcome.{opening_world, run_items, outcome, outcome_read}
use Rattle.page_laws.proofs.Lists.{all-append}
use Rattle.page_laws.proofs.Keeping.{repeat-keeps}
use Rattle.page_laws.proofs.RunsInRange.{IsEntryIn}
use Rattle.loop_laws.specs.Rounds.{goes_on, rounds_up_to}
use Rattle.loop_laws.specs.RunLoops.{Loop, is_loop_line}
use Rattle.loop_laws.specs.WholeLoops.{resize_rounds, has_undelivered, fire_error}
use Rattle.loop_laws.proofs.Bounded.{IsLess, rests, then-same}
use Rattle.loop_laws.proofs.Loops.{errors-exact, rounds-rest, begins-below}
use Rattle.loop_laws.proofs.Folds.{by-flow}
use Rattle.loop_laws.proofs.Waiting.{gather-deeper}
use Rattle.loop_laws.proofs.Walk.{count_of, goes_of, step_of, first_of, IsTold, IsWalked, delivery-along, delivers-fine, then-fine, round-fine, rounds-fine}
use Rattle.loop_lint.specs.LoopHandlers.{is_empty, is_unnamed, loop_handler_lines}
use Rattle.loop_lint.specs.Verdicts.{disturbs, is_quiet}
use Rattle.loop_lint.specs.RunLoops.{is_error_line}
use Rattle.loop_lint.proofs.Tame.{tame-at}
use Rattle.loop_lint.proofs.Held.{IsHeld, held-walked, run-in}
use Rattle.loop_lint.proofs.Calm.{call-calm}
use Rattle.loop_lint.proofs.Waiting.{AreFine, WaitsThere, Settled, passed-fine, reported-now, emptied-fine, calm-fine, gather-fine, settled-gather, rest-settled, all-waiting, all-settled}

-- a loop over a list by place that ends without a throw or a limit ends by its test -------------------------------------------------------

module _ {S : Type 0} (P : S → Type 0) (count : S → ℕ) (goes_on : S → Bool) (step : ℕ → S → Said S) (limit : ℕ) (bounded : (s : S) → P s → count s ≤ limit)
    (kept : (place : ℕ) (s : S) → P s → P (step place s).state) where
  abbrev goes : Turn S → Bool
  goes turn = goes_on (turn.state) && nat_lt (turn.place) (count (turn.state))

  abbrev turns : Turn S → Said (Turn S)
  turns turn = lifted (at_place (suc turn.place)) (step (turn.place) (turn.state))

  record IsTurnLeft (left : ℕ) (turn : Turn S) : Type 0 where
    here : P (turn.state)
    near : limit < left + turn.place

  both-true : (a b : Bool) → (a && b) ≡ true → b ≡ true
  both-true true b both = both
  both-true false b both = absurd (true≢false (sym both))

  falls : (left : ℕ) (turn : Turn S) → IsTurnLeft left turn → goes turn ≡ true → (turns turn).flow ≡ Next → goes (turns turn).state ≡ true →
      IsLess goes turns IsTurnLeft left (turns turn).state
  falls zero turn is there next still =
      let within = both-true (goes_on (turn.state)) _ there in
      let most : count (turn.state) ≤ limit = bounded (turn.state) (is.here) in
      let near : limit < 0 + turn.place = is.near in
      absurd (grind (arith, tests, within, most, near))
  falls (suc left) turn is there next still = record {
    now = left;
    less = omega arith;
    is = record { here = kept (turn.place) (turn.state) (is.here); near = let near : limit < suc left + turn.place = is.near in omega (arith, near) };
  }

  turns-rest : (turn : Turn S) → P (turn.state) → limit < most_steps → suc limit < most_steps → turn.place ≡ 0 → (repeat goes turns most_steps turn).flow ≡ Next →
      goes (repeat goes turns most_steps turn).state ≡ false
  turns-rest turn here few fewer first next =
      rests goes turns IsTurnLeft falls most_steps (suc limit) turn (record { here = here; near = omega (arith, first) }) fewer next

if-true : (a b : Bool) → (a && b) ≡ false → a ≡ true → b ≡ false
if-true true b none is = none
if-true false b none is = absurd (true≢false (sym is))

when-true : (a b : Bool) → (a ≡ true → b ≡ false) → (a && b) ≡ false
when-true true b each = each refl
when-true false b each = refl

-- a quiet script -----------------------------------------------------------------------------------------------------------------------

module _ (items : List Item) (quiet : is_quiet items ≡ true) where
  abbrev script : Script
  script = handlers_in items

  empty : is_empty (loop_handler_lines disturbs items) ≡ true
  unfolding is_quiet
  empty = quiet

  abbrev Held : World → Type 0
  Held world = IsHeld disturbs items empty world

  walked : IsWalked script Held IsEntryIn
  walked = held-walked disturbs items empty

  -- no line is an error's
  abbrev IsPlain : TraceLine → Type 0
  IsPlain line = is_error_line line ≡ false

  abbrev Quiets : List TraceLine → List Loop → Type 0
  Quiets lines loops = AllByRecursion IsPlain lines

  no-error : (line : TraceLine) → is_loop_line line ≡ false → IsPlain line
  no-error (EventLine (FiredError document)) is = absurd (true≢false is)
  no-error (EventLine other) is = refl
  no-error other is = refl

  quiets : IsTold Quiets
  quiets = record {
    nothing = tt;
    both = λ lines more loops others one other. all-append IsPlain lines more one other;
    plain = λ line plain. (no-error line plain, tt);
  }

  module _ (document : ℕ) where
    abbrev FineAt : ℕ → World → Type 0
    FineAt place world = AreFine document place (sight_of world) (world.resize_observers)

    -- as the turn comes to a place
    record IsComing (place : ℕ) (so_far : Broadcast) : Type 0 where
      held : Held (so_far.world)
      fine : FineAt place (so_far.world)

    emptied-now : (place : ℕ) (now : World) → FineAt (suc place) now → FineAt (suc place) (emptied document place now)
    emptied-now place now fine = by (is_active (now.tree) document)
      where
        by : (active : Bool) → FineAt (suc place) (cond active (record now { resize_observers = without_active place (now.resize_observers) }) now)
        by true = emptied-fine document place (sight_of now) (now.resize_observers) fine
        by false = fine

    some-fine : (place : ℕ) (so_far : Broadcast) (delivered : List Observation) → due_at document place (so_far.world.resize_observers) ≡ delivered →
        AllByRecursion (λ (it : Observation). it.target < length so_far.world.tree.elements) delivered → Held (so_far.world) → FineAt place (so_far.world) →
        FineAt (suc place) (deliver_some script document place so_far delivered).state.world
    some-fine place so_far [] is are held fine = passed-fine document place (sight_of (so_far.world)) (so_far.world.resize_observers) fine is
    some-fine place so_far (first ∷ others) is are held fine =
        let world = so_far.world in
        let now = record world { resize_observers = with_reported (sight_of world) place (first ∷ others) (world.resize_observers) } in
        let handler = (resize_observer_at (world.resize_observers) place).handler in
        let handed = SizeEntries place (map (size_entry (sight_of world)) (first ∷ others)) in
        let range = (walked.reported place (first ∷ others) world held).range in
        emptied-now place (call script document handler handed now).state
        (calm-fine document (suc place) (length script) now range (call script document handler handed now).state
        (call-calm (WaitsThere document (suc place) (length script) now range) document script now range document handler handed (all-sized (first ∷ others) are)
        (tame-at disturbs (is_unnamed items) script (world.resize_observers) place (held.tame)))
        (subst (λ (due : List Observation). AreFine document (suc place) (sight_of world) (with_reported (sight_of world) place due (world.resize_observers))) is
        (reported-now document place (sight_of world) (world.resize_observers) fine)))
      where
        all-sized : (these : List Observation) → AllByRecursion (λ (it : Observation). it.target < length so_far.world.tree.elements) these →
            AllByRecursion (IsEntryIn (length so_far.world.tree.elements)) (presents (SizeEntries place (map (size_entry (sight_of (so_far.world))) these)))
        all-sized [] all = tt
        all-sized (x ∷ xs) all = (all.0, all-sized xs (all.1))

    delivery-held : (place : ℕ) (so_far : Broadcast) → Held (so_far.world) → Held (step_of script document place so_far).state.world
    delivery-held place so_far held =
        (delivery-along script document Held IsEntryIn _ (delivers-fine script Held IsEntryIn walked Quiets quiets document) place so_far held).0

    coming-on : (place : ℕ) (so_far : Broadcast) → IsComing place so_far → IsComing (suc place) (step_of script document place so_far).state
    coming-on place so_far coming = record {
      held = delivery-held place so_far (coming.held);
      fine = some-fine place so_far (due_at document place (so_far.world.resize_observers)) refl
          (walked.due document place (so_far.world) (coming.held)) (coming.held) (coming.fine);
    }

    -- the turns of a broadcast

    abbrev goes_now : Turn Broadcast → Bool
    goes_now turn = goes_of document (turn.state) && nat_lt (turn.place) (count_of (turn.state))

    abbrev turn_now : Turn Broadcast → Said (Turn Broadcast)
    turn_now turn = lifted (at_place (suc turn.place)) (step_of script document (turn.place) (turn.state))

    abbrev whole : World → Said (Turn Broadcast)
    whole world = repeat goes_now turn_now most_steps (at_place 0 (first_of world))

    whole-rests : (world : World) → Held world → (whole world).flow ≡ Next →
        (goes_of document ((whole world).state.state) && nat_lt ((whole world).state.place) (count_of ((whole world).state.state))) ≡ false
    whole-rests world held =
        turns-rest (λ (b : Broadcast). Held (b.world)) count_of (goes_of document) (step_of script document) 4096 (λ so_far here. here.limits.resize_observers)
        delivery-held (at_place 0 (first_of world)) held (omega arith) (omega arith) refl

    -- behind a broadcast

    record IsDelivered (said : Said Broadcast) : Type 0 where
      waiting : FineAt 0 said.state.world
      settled : said.flow ≡ Next → is_active (said.state.world.tree) document ≡ true → Settled document (sight_of (said.state.world)) (said.state.world.resize_observers)

    past-count : (place count : ℕ) → nat_lt place count ≡ false → count ≤ place
    past-count place count is = grind (arith, tests, is)

    broadcast-delivers : (world : World) → Held world → FineAt 0 world → IsDelivered (broadcast script document world)
    unfolding broadcast by_place
    broadcast-delivers world held fine =
        let coming : IsComing ((whole world).state.place) ((whole world).state.state) =
        repeat-keeps (λ (turn : Turn Broadcast). IsComing (turn.place) (turn.state)) goes_now turn_now most_steps
        (λ turn coming is. coming-on (turn.place) (turn.state) coming) (at_place 0 (first_of world)) (record { held = held; fine = fine }) in
        record {
          waiting = all-waiting document ((whole world).state.place) _ _ (coming.fine);
          settled = λ next active.
              all-settled document ((whole world).state.place) _ _ (coming.fine)
              (past-count ((whole world).state.place) (count_of ((whole world).state.state))
              (if-true (goes_of document ((whole world).state.state)) _ (whole-rests world held next) active));
        }

    -- rounds

    ended-waiting : (so_far : Broadcast) (active : Bool) → is_active (so_far.world.tree) document ≡ active → FineAt 0 (so_far.world) →
        (is_active (so_far.world.tree) document ≡ true → Settled document (sight_of (so_far.world)) (so_far.world.resize_observers)) →
        FineAt 0 (only_if (round_ended document) so_far active).state.world
    unfolding gather
    ended-waiting so_far true is fine settled = settled-gather document (unwrap_or (so_far.shallowest) 0) (so_far.world) (settled is)
    ended-waiting so_far false is fine settled = fine

    round-waits : (world : World) → Held world → FineAt 0 world → FineAt 0 (round script document world).state
    round-waits world held fine =
        let said = broadcast script document world in
        let delivered = broadcast-delivers world held fine in
        by-flow (λ (it : Said Broadcast). FineAt 0 (it.state.world)) _ said
        (λ next. ended-waiting (said.state) (is_active (said.state.world.tree) document) refl (delivered.waiting) (delivered.settled next))
        (λ never. delivered.waiting)

    first-waits : (world : World) → FineAt 0 (gather document 0 world)
    unfolding gather
    first-waits world = gather-fine document world

    rounds-waiting : (world : World) → Held world → IsComing 0 (first_of (resize_rounds script document world).state)
    unfolding resize_rounds rounds_up_to
    rounds-waiting world held =
        repeat-keeps (λ now. IsComing 0 (first_of now)) (goes_on document) (round script document) most_steps
        (λ now waiting is. record {
          held = (round-fine script Held IsEntryIn walked Quiets quiets (λ text depth. (refl, tt)) document now (waiting.held)).0;
          fine = round-waits now (waiting.held) (waiting.fine);
        })
        (gather document 0 world)
        (record { held = walked.gathered document 0 world held; fine = first-waits world })

    at-rest : (now : World) → FineAt 0 now → goes_on document now ≡ false → (is_active (now.tree) document && has_undelivered document now) ≡ false
    at-rest now fine none =
        when-true (is_active (now.tree) document) (has_undelivered document now) (λ active.
        rest-settled document (sight_of now) (now.resize_observers.made)
        (if-true (is_active (now.tree) document) (has_active document (now.resize_observers)) none active) (fine.each))

    -- a loop

    rounds-end : (world : World) → Held world → (resize_rounds script document world).flow ≡ Next → goes_on document (resize_rounds script document world).state ≡ false
    unfolding resize_rounds
    rounds-end world held =
        rounds-rest script document (gather document 0 world) 0 (walked.gathered document 0 world held).limits (gather-deeper document 0 world) most_steps
        (begins-below (gather document 0 world))

    loop-quiet : (world : World) → Held world → Held (resize_loop script document world).state × Quiets (resize_loop script document world).lines []
    loop-quiet world held =
        let said = resize_rounds script document world in
        subst (λ (said : Said World). Held (said.state) × Quiets (said.lines) [])
        (sym (errors-exact script document world (held.limits)
        ∙ then-same said (λ now. only_if (fire_error script document) now (is_active (now.tree) document && has_undelivered document now)) (λ now. silent now)
        (λ next. ap (only_if (fire_error script document) (said.state))
        (at-rest (said.state) (rounds-waiting world held).fine (rounds-end world held next)))))
        (then-fine script Held IsEntryIn walked Quiets quiets world said (λ now. silent now)
        (rounds-fine script Held IsEntryIn walked Quiets quiets (λ text depth. (refl, tt)) document world) (λ now here. (here, tt)) held)

  pub quiet-lines : (version : Version) → AllByRecursion IsPlain (run_items items (opening_world version)).lines
  quiet-lines = run-in disturbs items empty Quiets quiets loop-quiet

-- of the text of a script
pub quiet-outcome : (text : List ℕ) (whole : WholeScript) → reading text ≡ Ok whole →
    AllByRecursion (λ (line : TraceLine). is_error_line line ≡ false) (run_items (whole.items) (opening_world (whole.version))).lines →
    AllByRecursion (λ (line : TraceLine). is_error_line line ≡ false) (outcome text).lines
unfolding outcome outcome_read
quiet-outcome text whole is plain =
    subst (λ (read : Reading). AllByRecursion (λ (line : TraceLine). is_error_line line ≡ false) (outcome_read read).lines) (sym is) plain
