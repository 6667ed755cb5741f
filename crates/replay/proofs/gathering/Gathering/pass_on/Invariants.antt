-- The bytes between where it began and where it stands were taken, and no write failed.
use Rattle.std.proofs.Common.{◌≡◌, ◌-◌, ◌≤◌, take, drop, vec_len}
use Rattle.std.specs.Io.KnownBytes.{Appends}
use Rattle.replay.specs.Gathered.{BeginsWith}
use Rattle.replay.proofs.gathering.Gathering.pass_on.Given as goal

abbrev pub invariant-loop-self : goal.invariant-loop-self
invariant-loop-self g l = record {
  same : l.self-inside.bytes ≡ l.initial.self-inside.bytes;
  later : l.initial.self-inside.passed ≤ l.self-inside.passed;
  within : l.self-inside.passed ≤ vec_len l.self-inside.bytes;
  appended : Appends (g.K.Sink.taken l.initial.self-inside.inner) (g.K.Sink.taken l.self-inside.inner)
      (take (l.self-inside.passed - l.initial.self-inside.passed) (drop l.initial.self-inside.passed l.initial.self-inside.bytes.items));
  counted : g.K.Sink.faults l.self-inside.inner ≡ g.K.Sink.faults l.initial.self-inside.inner;
  begins : BeginsWith (g.K.Sink.taken l.self-inside.inner) g.B.Before.taken;
  untouched : vec_len l.initial.self-inside.bytes ≤ l.initial.self-inside.passed → l.self-inside ≡ l.initial.self-inside;
}

abbrev pub decreases-loop-self : goal.decreases-loop-self
decreases-loop-self g l = vec_len l.self-inside.bytes - l.self-inside.passed
