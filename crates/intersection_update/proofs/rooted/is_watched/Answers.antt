use Rattle.std.proofs.Common.{◌≡◌, ◌<◌, ◌∙◌, length, take, ap, sym, arith}
use Rattle.std.specs.List.{list_any}
use Rattle.std.proofs.lemmas.List.{take_all}
use Rattle.page_model.specs.Lookups.{no_intersection_observer}
use Rattle.intersection_update.specs.Watching.{is_watching}
use Rattle.intersection_update.proofs.Watched.{any_at, none_more}
use Rattle.intersection_update.proofs.rooted.is_watched.Goals as goal

pub returns-then-is_watching : goal.returns-then-is_watching
returns-then-is_watching c =
    let it = c.args.watchers.now.part in
    let there : c.loop-number.number < length it.made = omega (arith, c.loop-number.invariant.end, c.loop-number-test.true) in
    sym (any_at (is_watching c.args.page.now.tree c.args.document.0) no_intersection_observer (it.made) c.loop-number.number there
    (sym c.is_watching.ensures ∙ c.if-is_watching.true))

pub loop-number-preserved : goal.loop-number-preserved
loop-number-preserved c =
    let it = c.args.watchers.now.part in
    let there : c.loop-number.number < length it.made = omega (arith, c.loop-number.invariant.end, c.loop-number-test.true) in
    record {
      none = none_more (is_watching c.args.page.now.tree c.args.document.0) no_intersection_observer (it.made) c.loop-number.number there c.loop-number.invariant.none
          (sym c.is_watching.ensures ∙ c.if-is_watching.false);
      end = c.loop-number.invariant.end;
    }

pub returns : goal.returns
returns c =
    let it = c.args.watchers.now.part in
    sym (ap (list_any (is_watching c.args.page.now.tree c.args.document.0))
    (sym (ap (λ n. take n (it.made)) (let past : c.loop-number.number ≡ length it.made = omega (arith, c.loop-number.invariant.end, c.loop-number-test.false, c.loop-number.auto.number-end) in past)
    ∙ take_all (length it.made) (it.made) (omega arith)))
    ∙ c.loop-number.invariant.none)
