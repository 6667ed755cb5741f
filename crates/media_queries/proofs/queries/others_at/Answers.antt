use Rattle.std.proofs.Common.{◌≡◌, ℕ, true, false, [], ◌∷◌, ◌++◌, map, ap, ◌∙◌, rules}
use Rattle.std.specs.Prelude.{Ok, Err}
use Rattle.std.proofs.lemmas.List.{map-append}
use Rattle.script_model.specs.Media.{query_ends, joined_at, others_at}
use Rattle.media_queries.specs.Seen.{feature_of}
use Rattle.media_queries.proofs.Joined.{behind, others_stop, others_on, others_fail, feature_shorter}
use Rattle.media_queries.proofs.queries.others_at.Goals as goal

pub returns-in_err-feature : goal.returns-in_err-feature
returns-in_err-feature c =
    let goes_on : false ≡ query_ends c.loop-rest.rest.now = cc in
    let fails : (left : ℕ) → Err left ≡ joined_at c.args.joint.now c.loop-rest.rest.now → others_at c.args.joint.now c.args.text.now ≡ Err left =
    λ left e. others_fail left c.args.joint.now c.loop-rest.rest.now _ _ c.loop-rest.invariant goes_on e in
    search (rules, fails)

pub loop-rest-preserved : goal.loop-rest-preserved
loop-rest-preserved c =
    let goes_on : false ≡ query_ends c.loop-rest.rest.now = cc in
    let read : Ok (feature_of c.in_ok-feature.feature, c.in_ok-feature.behind.now) ≡ joined_at c.args.joint.now c.loop-rest.rest.now = search rules in
    let joined : map feature_of c.push.new.self.items ≡ map feature_of c.loop-rest.features.items ++ feature_of c.in_ok-feature.feature ∷ [] =
    ap (map feature_of) c.in_ok-push.ensures.items ∙ map-append feature_of c.loop-rest.features.items _ in
    ap (λ features. behind features (others_at c.args.joint.now c.in_ok-feature.behind.now)) joined
    ∙ others_on c.args.joint.now c.loop-rest.rest.now _ _ _ _ c.loop-rest.invariant goes_on read

pub loop-rest-smaller : goal.loop-rest-smaller
loop-rest-smaller c =
    let read : Ok (feature_of c.in_ok-feature.feature, c.in_ok-feature.behind.now) ≡ joined_at c.args.joint.now c.loop-rest.rest.now = search rules in
    feature_shorter c.args.joint.now c.loop-rest.rest.now _ _ read

pub returns : goal.returns
returns c =
    let ends : true ≡ query_ends c.loop-rest.rest.now = cc in
    others_stop c.args.joint.now c.loop-rest.rest.now _ _ c.loop-rest.invariant ends
