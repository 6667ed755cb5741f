use Rattle.std.proofs.Common.{arith}
use Rattle.media_queries.specs.Seen.{feature_of}
use Rattle.media_queries.proofs.Appends.{joined_on, joined_end, keeps_on}
use Rattle.media_queries.proofs.texts.push_joined.Goals as goal

pub loop-feature-preserved : goal.loop-feature-preserved
loop-feature-preserved c = record {
  text = joined_on feature_of c.args.joint.now c.args.features.now c.loop-feature.feature-index _ _ _ _ _ (omega arith) c.loop-feature.invariant.text
      c.in_ok-push_joint.ensures.ok c.in_ok-push_feature.ensures.ok;
  kept = keeps_on _ _ _ c.loop-feature.invariant.kept (keeps_on _ _ _ c.in_ok-push_joint.ensures.kept c.in_ok-push_feature.ensures.kept);
}

pub returns-clause-ok : goal.returns-clause-ok
returns-clause-ok c = joined_end feature_of c.args.joint.now c.args.features.now c.loop-feature.feature-index _ _ (omega arith) c.loop-feature.invariant.text
