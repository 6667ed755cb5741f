use Rattle.std.proofs.Common.{◌≡◌, ◌∙◌, ap, rules, filter, not, ◌==◌}
use Rattle.std.proofs.lemmas.Fn.{filter_same}
use Rattle.resize_observer.specs.declared.observation.Observation.{Observation}
use Rattle.resize_observer.specs.Observations.{seen_observations}
use Rattle.resize_observer.proofs.Seen.{without-seen}
use Rattle.resize_observer.proofs.observation.remove_target.Goals as goal

pub returns-clause-items : goal.returns-clause-items
returns-clause-items c =
    let kept : c.retain.new.self.items ≡ filter (λ (each : Observation). not (each.target.0 == c.args.target.0)) c.args.observations.now.items
    = filter_same _ _ _ (λ x b f' k. search rules) _ _ c.retain.ensures.filtered
    in ap seen_observations kept ∙ without-seen (c.args.target.0) (c.args.observations.now.items)
