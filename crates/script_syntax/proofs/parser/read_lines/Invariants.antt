use Rattle.std.proofs.Common.{◌≡◌, map, drop}
use Rattle.script_lexer.specs.Texts.{line_seen}
use Rattle.script_model.specs.Reading.{steps, nothing_read}
use Rattle.script_syntax.proofs.parser.read_lines.Given as goal

abbrev pub invariant-loop-line : goal.invariant-loop-line
invariant-loop-line l =
    steps l.builder (map (line_seen l.text.bytes l.text.words) (drop l.line-index l.lines))
    ≡ steps (nothing_read l.fn.version) (map (line_seen l.text.bytes l.text.words) l.lines)
