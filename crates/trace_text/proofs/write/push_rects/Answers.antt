use Rattle.std.proofs.Common.{◌∷◌}
use Rattle.std.specs.Prelude.{codes}
use Rattle.std.proofs.lemmas.Result.{on_ok_weaker}
use Rattle.script_model.specs.TraceText.{rect_fields}
use Rattle.trace_text.proofs.Joined.{rects_pushed}
use Rattle.trace_text.proofs.write.push_rects.Goals as goal

pub returns : goal.returns
returns c = on_ok_weaker c.push_rect_behind-3.result
    (λ e. rects_pushed _ _ _ _ (codes "root" ∷ rect_fields c.args.root.now) (codes "box" ∷ rect_fields c.args.bounds.now) (codes "cut" ∷ rect_fields c.args.cut.now) c.in_ok-push_rect_behind.ensures c.in_ok-push_rect_behind-2.ensures e)
    c.push_rect_behind-3.ensures
