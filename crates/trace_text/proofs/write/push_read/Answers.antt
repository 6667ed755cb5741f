use Rattle.std.proofs.Common.{ap, ◌∙◌, ◌∷◌, ◌++◌}
use Rattle.std.proofs.lemmas.Result.{on_ok_weaker}
use Rattle.trace_text.proofs.Joined.{read_pushed}
use Rattle.trace_text.proofs.write.push_read.Goals as goal

pub returns : goal.returns
returns c = on_ok_weaker c.push_point.result
    (λ e. read_pushed _ _ _ _ c.args.target.now c.args.rect.now c.args.scroll.now (c.in_ok-push_field.ensures.ok ∙ ap (λ word. c.args.out.now.items ++ (32 ∷ word)) c.bytes.ensures.value) c.in_ok-push_rect.ensures.ok e)
    c.push_point.ensures
