use Rattle.std.proofs.Common.{◌≡◌, ◌++◌, drop, map}
use Rattle.media_queries.specs.QueryText.{joined_text}
use Rattle.media_queries.specs.Seen.{feature_of, Keeps}
use Rattle.media_queries.proofs.texts.push_joined.Given as goal

abbrev pub invariant-loop-feature : goal.invariant-loop-feature
invariant-loop-feature l = record {
  text : l.out.items ++ joined_text l.joint (map feature_of (drop l.feature-index l.features)) ≡ l.fn.out.items ++ joined_text l.joint (map feature_of l.features);
  kept : Keeps l.fn.out.items l.out.items;
}
