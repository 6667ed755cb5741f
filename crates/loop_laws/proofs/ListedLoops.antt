-- The lines of rounds and of loop errors are those that the listed loops write, and a loop's those of its rounds.
use Rattle.std.proofs.Common.{◌≡◌, refl, ap, sym, ◌∙◌}
use Rattle.std.proofs.lemmas.Grind.{flat_map-append}
use Rattle.std.proofs.lemmas.List.{append-nil}
use Rattle.std.proofs.lemmas.List.Elements.{filter-append}
use Rattle.std.specs.Prelude.{ℕ, Bool, true, false, cond, List, [], ◌∷◌, ◌++◌, flat_map, unwrap_or, ⊤}
use Rattle.std.specs.List.{AllByRecursion}
use Rattle.text_io.specs.declared.kinds.Version.{Version}
use Rattle.script_model.specs.Syntax.{Item, Outside, Tick, Handler}
use Rattle.script_model.specs.Scripts.{handlers_in}
use Rattle.script_model.specs.TraceLines.{TraceLine, RoundLine}
use Rattle.page_model.specs.World.{World}
use Rattle.page_model.specs.Documents.{is_active}
use Rattle.page_model.specs.Names.{document_text}
use Rattle.page_model.specs.Operands.{Present}
use Rattle.page_model.specs.Runs.{Flow, Next, Thrown, Limited, Said, follow, ◌followed_by◌, only_if, most_steps}
use Rattle.page_model.specs.Callbacks.{Script}
use Rattle.page_model.specs.Loop.{Broadcast, gather, broadcast, round, round_ended}
use Rattle.page_model.specs.Ticks.{tick}
use Rattle.page_model.specs.Outcome.{opening_world, run_item, run_items}
use Rattle.page_laws.proofs.Later.{all-so}
use Rattle.loop_laws.specs.Moments.{Moment, onward}
use Rattle.loop_laws.specs.Rounds.{goes_on, rounds_up_to, round_depth}
use Rattle.loop_laws.specs.RunLoops.{Loop, tick_loops, item_loops, loops_of_run, is_loop_line, loop_lines, lines_of_loop}
use Rattle.loop_laws.specs.WholeLoops.{resize_rounds, round_starts, line_of_round}
use Rattle.loop_laws.proofs.Folds.{all-each, lines-joined, repeat-along}
use Rattle.loop_laws.proofs.Lines.{IsPlain}
use Rattle.loop_laws.proofs.Walk.{IsTold, IsWalked, IsOutsideKept, call-plain, broadcasts-along, tick-along, item-along, items-along}

-- the loop lines are those of what is listed
abbrev TellsBy : {B : Type 0} → (B → List TraceLine) → List TraceLine → List B → Type 0
TellsBy F lines xs = loop_lines lines ≡ flat_map F xs

both-tell : {B : Type 0} (F : B → List TraceLine) (lines more : List TraceLine) (xs ys : List B) → TellsBy F lines xs → TellsBy F more ys →
    TellsBy F (lines ++ more) (xs ++ ys)
both-tell F lines more xs ys one other =
    filter-append is_loop_line lines more
    ∙ ap (λ (first : List TraceLine). first ++ loop_lines more) one
    ∙ ap (λ (second : List TraceLine). flat_map F xs ++ second) other
    ∙ sym (flat_map-append F xs ys)

-- the rounds of a loop

none-tell : (lines : List TraceLine) → AllByRecursion IsPlain lines → loop_lines lines ≡ []
none-tell [] plain = refl
none-tell (line ∷ lines) plain = ap (λ (passes : Bool). cond passes (line ∷ loop_lines lines) (loop_lines lines)) (plain.0) ∙ none-tell lines (plain.1)

module _ (script : Script) (document : ℕ) where
  broadcast-plain : (world : World) → AllByRecursion IsPlain (broadcast script document world).lines
  broadcast-plain world =
      (broadcasts-along script document (λ (world : World). ⊤) (λ (k : ℕ) (present : Present). ⊤)
      (λ (before : World) (lines : List TraceLine) (moments : List Moment) (now : World). AllByRecursion IsPlain lines) (record {
        joined = lines-joined IsPlain;
        due = λ observer now here. all-so _;
        calls = λ observer delivered handed now are here. (tt, call-plain script document _ handed _);
        emptied = λ observer before now lines moments is here there. (tt, there);
      }) world tt).1

  abbrev ending : Broadcast → Said Broadcast
  ending so_far = only_if (round_ended document) so_far (is_active (so_far.world.tree) document)

  ended-tell : (flow : Flow) (said : Said Broadcast) → loop_lines said.lines ≡ [] →
      loop_lines (follow flow ending said).lines
      ≡ onward flow
      (λ (so_far : Broadcast). cond (is_active (so_far.world.tree) document)
      (RoundLine (document_text (so_far.world.names) document) (unwrap_or (said.state.shallowest) 0) ∷ []) []) (said.state)
  unfolding follow onward
  ended-tell Next said none =
      filter-append is_loop_line (said.lines) (ending (said.state)).lines
      ∙ ap (λ (first : List TraceLine). first ++ loop_lines (ending (said.state)).lines) none
      ∙ by (is_active (said.state.world.tree) document)
    where
      by : (active : Bool) → loop_lines (only_if (round_ended document) (said.state) active).lines
          ≡ cond active (RoundLine (document_text (said.state.world.names) document) (unwrap_or (said.state.shallowest) 0) ∷ []) []
      by true = refl
      by false = refl
  ended-tell Thrown said none = none
  ended-tell Limited said none = none

  round-tells : (world : World) → loop_lines (round script document world).lines ≡ line_of_round script document world
  unfolding line_of_round round_depth ◌followed_by◌
  round-tells world = ended-tell (broadcast script document world).flow (broadcast script document world) (none-tell _ (broadcast-plain world))

  pub rounds-tell : (world : World) → TellsBy (line_of_round script document) (resize_rounds script document world).lines (round_starts script document world)
  unfolding resize_rounds rounds_up_to round_starts
  rounds-tell world =
      repeat-along (λ (before : World) (lines : List TraceLine) (starts : List World) (now : World). TellsBy (line_of_round script document) lines starts)
      (record { none = λ now. refl; both = λ a b c lines more xs ys one other. both-tell (line_of_round script document) lines more xs ys one other })
      (goes_on document) (round script document) (λ now. now ∷ []) most_steps
      (λ now goes. round-tells now ∙ sym (append-nil (line_of_round script document now))) (gather document 0 world)

-- the loops of ticks and runs

module _ (script : Script) where
  abbrev Tells : List TraceLine → List Loop → Type 0
  Tells = TellsBy (lines_of_loop script)

  tells : IsTold Tells
  tells = record {
    nothing = refl;
    both = both-tell (lines_of_loop script);
    plain = λ line plain. ap (λ (passes : Bool). cond passes (line ∷ []) []) plain;
  }

  abbrev Any : World → Type 0
  Any world = ⊤

  abbrev AnyEntry : ℕ → Present → Type 0
  AnyEntry k present = ⊤

  walked : IsWalked script Any AnyEntry
  walked = record {
    next = λ before now next same here. tt;
    calls = λ document handler handed world are here. tt;
    queued = λ world observer here. all-so _;
    due = λ document observer world here. all-so _;
    reported = λ observer delivered world here. tt;
    emptied = λ document observer world is here. tt;
    gathered = λ document depth world here. tt;
  }

  pub tick-tells : (world : World) → Tells (tick script world).lines (tick_loops script world)
  tick-tells world = (tick-along script Any AnyEntry walked Tells tells (λ document now here. (tt, sym (append-nil _))) world tt).1

  outside : (item : Item) → IsOutsideKept script Any item
  outside (Outside command) = λ world here. tt
  outside (Tick line time) = tt
  outside (Handler line name block end_line) = tt

  pub item-tells : (item : Item) (world : World) → Tells (run_item script item world).lines (item_loops script item world)
  item-tells item world =
      (item-along script Any AnyEntry walked Tells tells (λ document now here. (tt, sym (append-nil _))) (λ now room here. tt) (λ time now here. tt) item
      (outside item) world tt).1

pub run-tells : (version : Version) (items : List Item) → Tells (handlers_in items) (run_items items (opening_world version)).lines (loops_of_run version items)
unfolding run_items loops_of_run
run-tells version items =
    let script = handlers_in items in
    (items-along script (Any script) (AnyEntry script) (walked script) (Tells script) (tells script) (λ document now here. (tt, sym (append-nil _)))
    (λ world room here. tt) (λ time world here. tt) items (all-each (IsOutsideKept script (Any script)) items (outside script)) (opening_world version) tt).1
