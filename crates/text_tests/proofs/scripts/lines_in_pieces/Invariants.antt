-- The lexer was fed the text's first bytes.
use Rattle.std.proofs.Common.{◌≡◌, ◌-◌, ◌≤◌, length}
use Rattle.text_tests.proofs.scripts.lines_in_pieces.Given as goal

abbrev pub invariant-loop-fed : goal.invariant-loop-fed
invariant-loop-fed g l = record {
  fed : length l.lexer.text ≡ l.fed;
  within : l.fed ≤ length l.text;
}

abbrev pub decreases-loop-fed : goal.decreases-loop-fed
decreases-loop-fed g l = length l.text - l.fed
