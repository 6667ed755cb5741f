use Rattle.std.proofs.Common.{◌∙◌, ap, sym, ◌++◌, ◌<◌, ◌≤◌, length, take}
use Rattle.trace_lines.specs.Kept.{text_of}
use Rattle.trace_lines.proofs.Kept.{first_some, first_taken, first_within}
use Rattle.trace_lines.proofs.sink.LineSinkSink.write.Goals as goal

pub returns-in-Ok-clause-some : goal.returns-in-Ok-clause-some
returns-in-Ok-clause-some c = rw c.split_line.ensures.line (first_some c.args.piece.now c.requires)

pub returns-in-Ok-clause-within : goal.returns-in-Ok-clause-within
returns-in-Ok-clause-within c = rw c.split_line.ensures.line (first_within c.args.piece.now)

pub returns-in-Ok-clause-bytes : goal.returns-in-Ok-clause-bytes
returns-in-Ok-clause-bytes c =
    c.in-Ok.ensures.taken
    ∙ ap (λ view. text_of view ++ c.split_line.result.0.now) c.self.view_is
    ∙ ap (λ front. text_of c.args.self.now ++ front) (c.split_line.ensures.line ∙ sym (first_taken c.args.piece.now) ∙ ap (λ front. take (length front) c.args.piece.now) (sym c.split_line.ensures.line))
