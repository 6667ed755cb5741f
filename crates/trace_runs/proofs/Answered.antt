-- What a refused call of a page comes to, and one that isn't refused.
use Rattle.std.proofs.Common.{◌≡◌, ℕ, List, [], ◌∷◌, Option, refl, ap, sym, ◌∙◌}
use Rattle.std.specs.Prelude.{Result, Err}
use Rattle.text_io.specs.declared.kinds.LimitKind.{LimitKind}
use Rattle.text_io.specs.declared.kinds.ThrowKind.{ThrowKind}
use Rattle.text_io.specs.Limits.{limit_number}
use Rattle.script_model.specs.TraceLines.{ThrowLine, LimitLine}
use Rattle.page_model.specs.Callbacks.{answered, once_begun}
use Rattle.page_model.specs.Commands.{begun_in}
use Rattle.page_model.specs.Runs.{Said, Flow, Thrown, Limited}
use Rattle.page_model.specs.Steps.{Step, Did, Threw, Met}
use Rattle.page_model.specs.World.{World}
use Rattle.trace_runs.specs.declared.faults.RunFault.{RunFault}
use Rattle.trace_runs.specs.declared.faults.RunFault.TheVariants as faults
use Rattle.trace_runs.specs.Runs.{Runs}
use Rattle.trace_runs.proofs.Lines.{says_none}
use Rattle.trace_runs.proofs.Runs.{run_same}

module _ {A : Type 0} (line : ℕ) (world : World) (next : A → Said World) {step : Step A} where
  pub answered_did : {value : A} → step ≡ Did value → answered line world next step ≡ next value
  unfolding answered
  answered_did is = ap (answered line world next) is

  pub answered_threw : {kind : ThrowKind} → step ≡ Threw kind → answered line world next step ≡ record { lines = ThrowLine line kind ∷ []; flow = Thrown; state = world }
  unfolding answered
  answered_threw is = ap (answered line world next) is

  pub answered_met : {kind : LimitKind} → step ≡ Met kind → answered line world next step ≡ record { lines = LimitLine kind line (limit_number (world.version) kind) ∷ []; flow = Limited; state = world }
  unfolding answered
  answered_met is = ap (answered line world next) is

  -- a call that threw, in the world as it was, and its line was written or that was cut off
  pub threw_run : {B : Type 0} {flow : B → Flow} {new : World} {kind : ThrowKind} {result : Result B RunFault} {before after : Option (List ℕ)} {f g : ℕ}
      → step ≡ Threw kind → new ≡ world → Runs flow new result before after f g (record { lines = ThrowLine line kind ∷ []; flow = Thrown; state = new })
      → Runs flow new result before after f g (answered line world next step)
  threw_run {kind = kind} threw same run =
      run_same (ap (λ (state : World). record { lines = ThrowLine line kind ∷ []; flow = Thrown; state = state }) same ∙ sym (answered_threw threw)) run

  -- a limit that was met, in the world as it was, of which nothing is written yet
  pub met_run : {B : Type 0} {flow : B → Flow} {new : World} {kind : LimitKind} {now : Option (List ℕ)} {f : ℕ} → step ≡ Met kind → new ≡ world
      → Runs flow new (Err (faults.Limit kind line (limit_number (world.version) kind))) now now f f (answered line world next step)
  met_run {kind = kind} {now} met same = run_same (sym (answered_met met)) (record {
    ended = tt;
    cut_off = record {
      lines = [];
      last = refl;
      written = says_none now;
      unfailed = refl;
      flow_is = refl;
      state_is = sym same;
    };
  })

-- a command that is begun
pub once_begun_is : (line : ℕ) (world : World) (run : World → Said World) → answered line world run (begun_in world) ≡ once_begun line world run
unfolding once_begun
once_begun_is line world run = refl
