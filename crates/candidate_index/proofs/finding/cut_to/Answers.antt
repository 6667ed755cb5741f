use Rattle.std.proofs.Common.{◌∷◌, [], ◌∙◌, sym, subst}
use Rattle.std.specs.Prelude.{IfSome}
use Rattle.clip_chain.specs.Ranges.{IsBounds}
use Rattle.clip_chain.proofs.Parts.{part_within}
use Rattle.thresholds.specs.Areas.{LiesIn}
use Rattle.thresholds.proofs.Areas.{part_inside, meeting_inside}
use Rattle.candidate_index.proofs.Leaving.{no_clips}
use Rattle.candidate_index.proofs.finding.cut_to.Goals as goal

pub returns-in-Whole-clause-inside : goal.returns-in-Whole-clause-inside
returns-in-Whole-clause-inside c =
    subst (λ o. IfSome o (LiesIn c.args.bounds)) (sym (no_clips c.args.bounds c.args.limits) ∙ sym c.meet.ensures ∙ c.in_ok-within.was)
    (part_inside c.args.bounds (c.args.limits ∷ []))

pub returns-in-Cut-clause-inside : goal.returns-in-Cut-clause-inside
returns-in-Cut-clause-inside c =
    subst (λ o. IfSome o (LiesIn c.args.bounds)) (sym c.meet-in-Cut.ensures)
    (meeting_inside c.args.bounds c.in_ok-within.within c.in-Cut.part
    (subst (λ o. IfSome o (LiesIn c.args.bounds)) (sym (no_clips c.args.bounds c.args.limits) ∙ sym c.meet.ensures ∙ c.in_ok-within.was)
    (part_inside c.args.bounds (c.args.limits ∷ []))))

pub returns-in-Whole-clause-range : goal.returns-in-Whole-clause-range
returns-in-Whole-clause-range c =
    subst (λ o. IfSome o IsBounds) (sym (no_clips c.args.bounds c.args.limits) ∙ sym c.meet.ensures ∙ c.in_ok-within.was)
    (part_within c.args.bounds (c.args.limits ∷ []) c.requires)

pub returns-in-Cut-clause-range : goal.returns-in-Cut-clause-range
returns-in-Cut-clause-range c =
    let within = subst (λ o. IfSome o IsBounds) (sym (no_clips c.args.bounds c.args.limits) ∙ sym c.meet.ensures ∙ c.in_ok-within.was) (part_within c.args.bounds (c.args.limits ∷ []) c.requires) in
    subst (λ o. IfSome o IsBounds) (sym (no_clips c.in_ok-within.within c.in-Cut.part) ∙ sym c.meet-in-Cut.ensures)
    (part_within c.in_ok-within.within (c.in-Cut.part ∷ []) within)
