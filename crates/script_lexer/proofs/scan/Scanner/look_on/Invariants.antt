-- What was read so far holds whatever stands behind, and no line and no word is gone.
use Rattle.std.proofs.Common.{None}
use Rattle.script_lexer.specs.Places.{IsRead, Grown}
use Rattle.script_lexer.proofs.scan.Scanner.look_on.Given as goal

abbrev pub invariant-loop-at : goal.invariant-loop-at
invariant-loop-at l = record {
  read : IsRead l.most_line l.bytes l.at l.self None;
  grown : Grown l.initial.self l.self;
}
