use Rattle.std.proofs.Common.{◌≡◌, ◌∙◌, ◌++◌, ◌∷◌, [], List, ap, sym}
use Rattle.std.proofs.lemmas.Bool.{not-true}
use Rattle.std.proofs.lemmas.List.{map_push}
use Rattle.page_model.specs.World.{Observation as ModelObservation}
use Rattle.page_model.specs.ResizeObserving.{is_observed, without_observed}
use Rattle.resize_observer.specs.Observations.{seen_observation, seen_observations}
use Rattle.resize_observer.proofs.Kept.{absent_same}
use Rattle.resize_observer.proofs.observation.put_last.Goals as goal
use Rattle.resize_observer.proofs.observation.put_last.Goals.{then-not-is_new, else-not-is_new}

pub returns-clause-items : goal.returns-clause-items
returns-clause-items c =
    let left : seen_observations c.if-not-is_new.observations.items ≡ without_observed c.args.observation.target.0 (seen_observations c.args.observations.now.items) =
    elim c.if-not-is_new.branch [
      | then-not-is_new w ↦ ap (λ v. seen_observations v.items) w.observations-is ∙ w.remove_target.ensures.items
      | else-not-is_new w ↦
          ap (λ v. seen_observations v.items) w.observations-is
          ∙ sym (absent_same c.args.observation.target.0 (seen_observations c.args.observations.now.items) (not-true (is_observed c.args.observation.target.0 (seen_observations c.args.observations.now.items)) (sym c.requires.new ∙ w.if-not-is_new.false)))
    ] in
    ap seen_observations c.push_reserved.ensures.items
    ∙ map_push seen_observation c.if-not-is_new.observations.items c.args.observation
    ∙ ap (λ (these : List ModelObservation). these ++ seen_observation c.args.observation ∷ []) left
