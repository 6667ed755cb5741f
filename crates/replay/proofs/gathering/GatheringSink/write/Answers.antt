use Rattle.std.proofs.Common.{drop, arith, sym, subst}
use Rattle.std.specs.Io.KnownBytes.{Keeps, append_known}
use Rattle.std.proofs.KnownBytes.{Keeps-refl}
use Rattle.replay.proofs.Passing.{begins_written, gathered_more}
use Rattle.replay.proofs.gathering.GatheringSink.write.Goals as goal

pub returns-then-gather-clause-bytes : goal.returns-then-gather-clause-bytes
returns-then-gather-clause-bytes g c =
    let kept = subst (λ it. Keeps (append_known (g.K.Sink.taken it.inner) it.gathered) (append_known (g.K.Sink.taken c.self.inside.inner) (drop c.self.inside.passed c.self.inside.bytes.items)))
    c.self.view_is (Keeps-refl (append_known (g.K.Sink.taken c.self.inside.inner) (drop c.self.inside.passed c.self.inside.bytes.items)))
    in
    gathered_more _ _ c.self.inside.bytes.items c.args.piece.now _ c.self.inside.passed kept c.if-gather.ensures.items (omega (arith, c.self.invariant.0, c.self.inside.bytes.ok))

pub returns-then-gather-2-clause-bytes : goal.returns-then-gather-2-clause-bytes
returns-then-gather-2-clause-bytes g c =
    let same = subst (λ xs. Keeps (append_known (g.K.Sink.taken c.self.inside.inner) (drop c.self.inside.passed xs)) (append_known (g.K.Sink.taken c.pass_on.new.self.inner) c.pass_on.new.self.gathered))
    c.if-gather.ensures.items c.pass_on.ensures.taken
    in
    let told = subst (λ it. Keeps (append_known (g.K.Sink.taken it.inner) it.gathered) (append_known (g.K.Sink.taken c.pass_on.new.self.inner) c.pass_on.new.self.gathered)) c.self.view_is same in
    let kept = subst (λ it. Keeps (append_known (g.K.Sink.taken c.args.self.now.inner) c.args.self.now.gathered) (append_known (g.K.Sink.taken it.inner) it.gathered)) (sym c.self-2.view_is) told in
    gathered_more _ _ c.self-2.inside.bytes.items c.args.piece.now _ c.self-2.inside.passed kept c.if-gather-2.ensures.items (omega (arith, c.self-2.invariant.0, c.self-2.inside.bytes.ok))

pub invariant_of-self-3 : goal.invariant_of-self-3
invariant_of-self-3 g c =
    (omega (arith, c.self-2.invariant.0, c.gather-2.ensures.len), begins_written _ _ _ c.write.result c.args.piece.now c.self-2.invariant.1 c.write.ensures.bytes)
