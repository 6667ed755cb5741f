-- A line and then a callback.
use Rattle.std.proofs.Common.{◌≡◌, ◌∙◌, ℕ, true, false, List, [], ◌∷◌, Option, refl, ap, sym}
use Rattle.std.specs.Prelude.{cond, Result, Ok, Err}
use Rattle.script_model.specs.TraceLines.{TraceLine}
use Rattle.page_model.specs.Callbacks.{Script, NoEntries, call, entry_lines, run_handler}
use Rattle.page_model.specs.Documents.{is_active}
use Rattle.page_model.specs.Runs.{Said, only_if, say, silent, ◌followed_by◌}
use Rattle.page_model.specs.Ticks.{line_while_active}
use Rattle.page_model.specs.World.{World}
use Rattle.trace_runs.specs.declared.faults.RunFault.{RunFault}
use Rattle.trace_runs.specs.Flows.{goes_on}
use Rattle.trace_runs.specs.Runs.{Runs}
use Rattle.trace_runs.specs.Writes.{Told}
use Rattle.trace_runs.proofs.Following.{cut_saying, followed_next, then_run}
use Rattle.trace_runs.proofs.Runs.{run_same, say_run}

module _ (script : Script) (document : ℕ) (handler : Option ℕ) where
  -- a line, and the callback of a document
  abbrev pub told_call : TraceLine → World → Said World
  told_call line world = say (line ∷ []) world followed_by call script document handler NoEntries

  -- both where the document is Active
  abbrev pub told_while_active : TraceLine → World → Said World
  told_while_active line world = say (line_while_active (world.tree) document line) world followed_by call script document handler NoEntries

  pub told_active : (line : TraceLine) (world : World) → is_active (world.tree) document ≡ true → told_call line world ≡ told_while_active line world
  told_active line world is = ap (λ test. say (cond test (line ∷ []) []) world followed_by call script document handler NoEntries) (sym is)

  call-inactive : (world : World) → is_active (world.tree) document ≡ false → call script document handler NoEntries world ≡ silent world
  unfolding call
  call-inactive world is = ap (only_if (λ (now : World). say (entry_lines (now.version) (now.names) NoEntries) now followed_by run_handler script NoEntries handler) world) is

  -- nothing is said where it isn't
  pub told_inactive : (line : TraceLine) (world : World) → is_active (world.tree) document ≡ false → silent world ≡ told_while_active line world
  told_inactive line world is =
      sym (call-inactive world is)
      ∙ sym (followed_next (silent world) (call script document handler NoEntries) refl refl)
      ∙ ap (λ test. say (cond test (line ∷ []) []) world followed_by call script document handler NoEntries) (sym is)

  module _ {before after : Option (List ℕ)} {f g : ℕ} {line other : TraceLine} (world : World) (named : line ≡ other) where
    -- the line was written, and the callback was called
    pub told_run : {A : Type 0} {state : World} (result : Result A RunFault) {mid : Option (List ℕ)} {fm : ℕ}
        → Told {A = Unit {0}} (Ok tt) before mid f fm (line ∷ []) → Runs goes_on state result mid after fm g (call script document handler NoEntries world)
        → Runs goes_on state result before after f g (told_call other world)
    told_run result wrote called = run_same (ap (λ it. told_call it world) named) (then_run result (call script document handler NoEntries) refl (say_run (Ok (tt {0})) wrote) called)

    -- the writing of the line was cut off
    pub untold_run : {A : Type 0} {state : World} (fault : RunFault) → Told {A = Unit {0}} (Err fault) before after f g (line ∷ [])
        → Runs {A = A} goes_on state (Err fault) before after f g (told_call other world)
    untold_run fault wrote = run_same (ap (λ it. told_call it world) named) (cut_saying fault (line ∷ []) world (call script document handler NoEntries) wrote)
