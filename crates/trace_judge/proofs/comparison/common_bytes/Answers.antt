use Rattle.std.proofs.Common.{◌∙◌, ◌==◌, ℕ, rules, tests}
use Rattle.std.specs.List.{zip}
use Rattle.std.proofs.lemmas.Iterator.{YieldsList-from_slice, YieldsList-from_zip}
use Rattle.std.proofs.lemmas.Iterator.Consumers.{YieldsList-at, count_from_yields_List}
use Rattle.std.proofs.lemmas.Iterator.Search.{YieldsList-from_take_while}
use Rattle.std.proofs.lemmas.List.Folds.{length-prefix_len}
use Rattle.trace_judge.proofs.Judged.{common_zipped}
use Rattle.trace_judge.proofs.comparison.common_bytes.Goals as goal

pub returns : goal.returns
returns c =
    let pairs = YieldsList-from_zip (YieldsList-at c.zip.ensures.first (YieldsList-from_slice c.args.expected.now c.iter.ensures.rest)) (YieldsList-at c.zip.ensures.second (YieldsList-from_slice c.args.recorded.now c.iter-2.ensures.rest)) in
    count_from_yields_List c.take_while.result _ c.count.ensures.ran
    (YieldsList-from_take_while _ (λ (p : ℕ × ℕ). p.0 == p.1) (YieldsList-at c.take_while.ensures.source pairs) c.take_while.ensures.closure c.take_while.ensures.done (λ x b q k. search (rules, tests)))
    ∙ length-prefix_len (λ (p : ℕ × ℕ). p.0 == p.1) (zip c.args.expected.now c.args.recorded.now)
    ∙ common_zipped c.args.expected.now c.args.recorded.now
