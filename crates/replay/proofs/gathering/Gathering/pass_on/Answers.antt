use Rattle.std.proofs.Common.{◌∙◌, ◌-◌, drop, arith, ap, sym, subst}
use Rattle.std.specs.Prelude.{vec_len}
use Rattle.std.specs.Io.KnownBytes.{Keeps, append_known}
use Rattle.trace_runs.specs.Writes.{AppendsPart}
use Rattle.std.proofs.lemmas.Grind.{common_steps}
use Rattle.std.proofs.KnownBytes.{Appends-kept}
use Rattle.replay.proofs.Passing.{on_err, begins_more, kept_there, part_there, took_more}
use Rattle.replay.proofs.gathering.Gathering.pass_on.Goals as goal

pub returns-in_err-self-inside-clause-part : goal.returns-in_err-self-inside-clause-part
returns-in_err-self-inside-clause-part g c =
    let before = c.loop-self.invariant in
    let told = part_there _ _ (drop c.self.inside.passed c.self.inside.bytes.items) (c.loop-self.self-inside.passed - c.self.inside.passed)
    (Appends-kept _ _ _ _ before.appended c.in_err-self-inside.ensures.bytes)
    in on_err c.from_residual.result (subst (λ it. AppendsPart (g.K.Sink.taken it.inner) (g.K.Sink.taken c.write.new.self) it.gathered) c.self.view_is told)

pub returns-in_err-self-inside-clause-taken : goal.returns-in_err-self-inside-clause-taken
returns-in_err-self-inside-clause-taken g c =
    let before = c.loop-self.invariant in
    let told = kept_there _ _ c.self.inside.bytes.items c.self.inside.passed c.loop-self.self-inside.passed before.later
    (Appends-kept _ _ _ _ before.appended c.in_err-self-inside.ensures.bytes)
    in subst (λ it. Keeps (append_known (g.K.Sink.taken it.inner) it.gathered) (append_known (g.K.Sink.taken c.write.new.self) (drop c.loop-self.self-inside.passed c.loop-self.self-inside.bytes.items))) c.self.view_is (subst (λ bytes. Keeps (append_known (g.K.Sink.taken c.self.inside.inner) (drop c.self.inside.passed c.self.inside.bytes.items)) (append_known (g.K.Sink.taken c.write.new.self) (drop c.loop-self.self-inside.passed bytes.items))) (sym before.same) told)

pub loop-self-preserved : goal.loop-self-preserved
loop-self-preserved g c =
    let before = c.loop-self.invariant in
    record {
      same = before.same;
      later = omega (arith, before.later);
      within = grind (arith, common_steps, before.within, c.in_ok-self-inside.ensures.within, c.deref.ensures.len);
      appended = took_more _ _ _ c.self.inside.bytes.items _ c.self.inside.passed c.loop-self.self-inside.passed c.in_ok-self-inside.field-0 (c.deref.ensures.value ∙ ap (λ bytes. bytes.items) before.same) before.later before.appended c.in_ok-self-inside.ensures.bytes;
      counted = cc (before.counted, c.in_ok-self-inside.ensures.only_by_failing);
      begins = begins_more _ _ _ _ before.begins c.in_ok-self-inside.ensures.bytes;
      untouched = λ none. absurd (omega (arith, ap vec_len before.same, none, before.later, c.loop-self-test.true));
    }
