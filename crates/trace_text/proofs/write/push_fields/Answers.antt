use Rattle.std.proofs.lemmas.Result.{on_ok_weaker}
use Rattle.trace_text.proofs.Joined.{intersection_pushed}
use Rattle.trace_text.proofs.write.push_fields.Goals as goal

pub returns-in_ok-push_seen-in-Intersect : goal.returns-in_ok-push_seen-in-Intersect
returns-in_ok-push_seen-in-Intersect c = rw c.in-Intersect.is (on_ok_weaker c.push_rects.result
    (λ e. intersection_pushed _ _ _ (record {
      observer = c.in-Intersect.observer;
      target = c.in-Intersect.target;
      time = c.in-Intersect.time;
      meets = c.in-Intersect.meets;
      part = c.in-Intersect.part;
      whole = c.in-Intersect.whole;
      root = c.in-Intersect.root;
      bounds = c.in-Intersect.bounds;
      cut = c.in-Intersect.cut;
    }) c.in_ok-push_seen-in-Intersect.ensures e)
    c.push_rects.ensures)
