use Rattle.std.proofs.lemmas.Result.{on_ok_weaker}
use Rattle.trace_text.proofs.Joined.{resize_pushed}
use Rattle.trace_text.proofs.write.push_resize.Goals as goal

pub returns : goal.returns
returns c = on_ok_weaker c.push_boxes.result
    (λ e. resize_pushed _ _ _ c.args.observer.now c.args.target.now c.args.rect.now c.args.border.now c.args.device.now c.in_ok-push_names.ensures e)
    c.push_boxes.ensures
