use Rattle.std.proofs.lemmas.Result.{on_ok_weaker}
use Rattle.trace_text.proofs.Joined.{boxes_pushed}
use Rattle.trace_text.proofs.write.push_boxes.Goals as goal

pub returns : goal.returns
returns c = on_ok_weaker c.push_device.result
    (λ e. boxes_pushed _ _ _ _ _ c.args.rect.now c.args.border.now c.args.device.now c.in_ok-push_rect_behind.ensures c.in_ok-push_field.ensures.ok c.in_ok-push_size.ensures e)
    c.push_device.ensures
