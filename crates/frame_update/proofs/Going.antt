-- A run that arrived, that was cut off, and on its way through the steps of a loop.
use Rattle.std.proofs.Common.{◌≡◌, ◌∙◌, ℕ, List, Option, ap, refl, subst, sym}
use Rattle.std.specs.Borrow.{Bor, MutBor}
use Rattle.std.specs.Prelude.{Result, Ok, Err}
use Rattle.std.specs.Result.{IsErr, IsErrAnd}
use Rattle.script_model.specs.Scripts.{handlers_in}
use Rattle.script_model.specs.Syntax as syntax
use Rattle.page_model.specs.Callbacks.{Script}
use Rattle.page_model.specs.Runs.{Said, ◌followed_by◌, silent}
use Rattle.page_model.specs.World.{World}
use Rattle.trace_runs.specs.declared.faults.RunFault.{RunFault}
use Rattle.trace_runs.specs.Flows.{goes_on}
use Rattle.trace_runs.specs.Runs.{Runs}
use Rattle.trace_runs.proofs.Following.{Following, begin, done, end_cut, go_on, rest_same}
use Rattle.handlers.specs.Runs.{handlers_of, loans_of, world_of}
use Rattle.frame_update.specs.Goes.{Goes, IsUnderWay}
use Rattle.handlers.specs.declared.run.Run.{Run}

module _ {K L A : Type 0} {taken : K → Option (List ℕ)} {faults : K → ℕ} {old new : Run K L} {said : Said World} where
  -- the fault is that of the step
  pub stopped : (result : Result A RunFault) (fault : RunFault) → IsErr result × IsErrAnd result (λ (it : RunFault). it ≡ fault) → new.script ≡ old.script
      → loans_of new ≡ loans_of old → IsUnderWay new
      → Runs {A = A} goes_on (world_of new) (Err fault) (taken old.sink.now) (taken new.sink.now) (faults old.sink.now) (faults new.sink.now) said
      → Goes taken faults old new result said
  stopped (Ok value) fault is script lent ready run = absurd (cc)
  stopped (Err it) fault is script lent ready run = record {
    says =
        subst (λ (it : RunFault). Runs {A = A} goes_on (world_of new) (Err it) (taken old.sink.now) (taken new.sink.now) (faults old.sink.now) (faults new.sink.now) said)
        (sym is.1) run;
    ready = ready;
    script = script;
    lent = lent;
  }

  -- it was run to its end
  pub arrived : {value : A} → new.script ≡ old.script → loans_of new ≡ loans_of old → IsUnderWay new
      → Runs goes_on (world_of new) (Ok value) (taken old.sink.now) (taken new.sink.now) (faults old.sink.now) (faults new.sink.now) said
      → Goes taken faults old new (Ok value) said
  arrived script lent ready run = record { says = run; ready = ready; script = script; lent = lent }

  -- it was cut off with this fault
  pub cut_short : {fault : RunFault} → new.script ≡ old.script → loans_of new ≡ loans_of old → IsUnderWay new
      → Runs {A = A} goes_on (world_of new) (Err fault) (taken old.sink.now) (taken new.sink.now) (faults old.sink.now) (faults new.sink.now) said
      → Goes {A = A} taken faults old new (Err fault) said
  cut_short script lent ready run = record { says = run; ready = ready; script = script; lent = lent }

  -- it was run by the last step
  pub passed_on : {mid : Run K L} {last : Said World} {result : Result A RunFault} → Goes taken faults mid new result last → mid.script ≡ old.script → loans_of mid ≡ loans_of old
      → Runs goes_on (world_of new) result (taken old.sink.now) (taken new.sink.now) (faults old.sink.now) (faults new.sink.now) said
      → Goes taken faults old new result said
  passed_on went script lent run = record { says = run; ready = went.ready; script = went.script ∙ script; lent = went.lent ∙ lent }

-- what was said over the script that a run has now was said over the one that it had, which is the same
pub over_first : {A S : Type 0} {state : S} {result : Result A RunFault} {before after : Option (List ℕ)} {f g : ℕ} {now first : Bor syntax.Script} (whole : Script → Said S) → now ≡ first
    → Runs goes_on state result before after f g (whole (handlers_in now.now.items)) → Runs goes_on state result before after f g (whole (handlers_in first.now.items))
over_first {state = state} {result} {before} {after} {f} {g} whole same run =
    subst (λ (it : Bor syntax.Script). Runs goes_on state result before after f g (whole (handlers_in it.now.items))) same run

-- a run on its way since the first: what it has said of the whole, and what is left to say
pub record IsOnItsWay {K L : Type 0} (taken : K → Option (List ℕ)) (faults : K → ℕ) (first now : Run K L) (whole rest : Script → Said World) : Type 0 where
  pub following : Following (taken first.sink.now) (taken now.sink.now) (faults first.sink.now) (faults now.sink.now) (whole (handlers_of now)) (rest (handlers_of now))
  pub ready : IsUnderWay now
  pub script : now.script ≡ first.script
  pub lent : loans_of now ≡ loans_of first

-- what a change of the page alone leaves of a run
abbrev pub kept_of : {K L : Type 0} → Run K L → Bor syntax.Script × ℕ × MutBor K
kept_of run = (run.script, run.page.ghost_name, run.sink)

abbrev loans_in : {K : Type 0} → Bor syntax.Script × ℕ × MutBor K → ℕ × ℕ
loans_in it = (it.1, it.2.ghost_name)

-- nothing was said yet
pub run_begins : {K L : Type 0} {taken : K → Option (List ℕ)} {faults : K → ℕ} {first now : Run K L} {whole rest : Script → Said World} → kept_of now ≡ kept_of first → IsUnderWay now
    → whole (handlers_of now) ≡ rest (handlers_of now) → IsOnItsWay taken faults first now whole rest
run_begins {K = K} {taken = taken} {faults} {first} {now} {whole} kept ready all = record {
  following =
      rest_same all
      (subst
      (λ (it : Bor syntax.Script × ℕ × MutBor K). Following (taken first.sink.now) (taken it.2.now) (faults first.sink.now) (faults it.2.now) (whole (handlers_of now)) (whole (handlers_of now)))
      (sym kept) begin);
  ready = ready;
  script = ap (λ (it : Bor syntax.Script × ℕ × MutBor K). it.0) kept;
  lent = ap loans_in kept;
}

module _ {K L : Type 0} {taken : K → Option (List ℕ)} {faults : K → ℕ} {first now : Run K L} {whole rest : Script → Said World} (here : IsOnItsWay taken faults first now whole rest) where
  module _ (mid : Run K L) (kept : kept_of mid ≡ kept_of now) where
    following-kept : Following (taken first.sink.now) (taken mid.sink.now) (faults first.sink.now) (faults mid.sink.now) (whole (handlers_of mid)) (rest (handlers_of mid))
    following-kept =
        subst
        (λ (it : Bor syntax.Script × ℕ × MutBor K). Following (taken first.sink.now) (taken it.2.now) (faults first.sink.now) (faults it.2.now) (whole (handlers_in it.0.now.items)) (rest (handlers_in it.0.now.items)))
        (sym kept) here.following

    script-kept : mid.script ≡ first.script
    script-kept = ap (λ (it : Bor syntax.Script × ℕ × MutBor K). it.0) kept ∙ here.script

    lent-kept : loans_of mid ≡ loans_of first
    lent-kept = ap loans_in kept ∙ here.lent

  -- nothing is left to say
  pub run_is_done : {A : Type 0} {value : A} {mid : Run K L} → kept_of mid ≡ kept_of now → IsUnderWay mid
      → rest (handlers_of mid) ≡ silent (world_of mid) → Goes taken faults first mid (Ok value) (whole (handlers_of first))
  run_is_done {mid = mid} kept ready none =
      arrived (script-kept mid kept) (lent-kept mid kept) ready (over_first whole (script-kept mid kept) (done refl (rest_same none (following-kept mid kept))))

  -- the next step was run
  pub run_goes_on : {A : Type 0} {mid new : Run K L} {value : A} {said : Said World} → Goes taken faults mid new (Ok value) said → kept_of mid ≡ kept_of now
      → (next : Script → World → Said World) → rest (handlers_of mid) ≡ (said followed_by next (handlers_of mid))
      → IsOnItsWay taken faults first new whole (λ (script : Script). next script (world_of new))
  run_goes_on {mid = mid} {new} went kept next more = record {
    following =
        subst
        (λ (it : Bor syntax.Script). Following (taken first.sink.now) (taken new.sink.now) (faults first.sink.now) (faults new.sink.now) (whole (handlers_in it.now.items))
        (next (handlers_in it.now.items) (world_of new)))
        (sym went.script) (go_on (next (handlers_of mid)) refl (rest_same more (following-kept mid kept)) went.says);
    ready = went.ready;
    script = went.script ∙ script-kept mid kept;
    lent = went.lent ∙ lent-kept mid kept;
  }

  -- the next step was cut off
  pub run_is_cut : {A B : Type 0} {mid new : Run K L} {fault : RunFault} {said : Said World} → Goes {A = A} taken faults mid new (Err fault) said
      → kept_of mid ≡ kept_of now → (next : Script → World → Said World) → rest (handlers_of mid) ≡ (said followed_by next (handlers_of mid)) → (result : Result B RunFault)
      → IsErr result × IsErrAnd result (λ (it : RunFault). it ≡ fault) → Goes taken faults first new result (whole (handlers_of first))
  run_is_cut {mid = mid} {fault = fault} went kept next more result is =
      stopped result fault is (went.script ∙ script-kept mid kept) (went.lent ∙ lent-kept mid kept) went.ready
      (over_first whole (script-kept mid kept) (end_cut fault (next (handlers_of mid)) (rest_same more (following-kept mid kept)) went.says))
