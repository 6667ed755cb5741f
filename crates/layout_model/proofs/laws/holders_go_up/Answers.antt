use Rattle.std.specs.Prelude.{find}
use Rattle.std.proofs.Common.{cond, Some, ap, ◌∙◌}
use Rattle.layout_model.specs.Nodes.{ancestors_of, is_positioned, held_by}
use Rattle.layout_model.proofs.Holders.{holder_of_child, holder_of_top, holder_of_absolute_child, holder_of_fixed, holder_above, holder_less, held_shallow}
use Rattle.layout_model.proofs.laws.holders_go_up.Goals as goal

pub returns-clause-flow : goal.returns-clause-flow
returns-clause-flow c at n p is flow = holder_of_child at n p is flow

pub returns-clause-absolute : goal.returns-clause-absolute
returns-clause-absolute c at n p is short position found =
    holder_of_absolute_child at n p is short position ∙ ap (λ b. held_by (cond b (Some p) (find (λ a. is_positioned (at a)) (ancestors_of at p)))) found

pub returns-clause-passed : goal.returns-clause-passed
returns-clause-passed c at n p is short position not_found =
    holder_of_absolute_child at n p is short position ∙ ap (λ b. held_by (cond b (Some p) (find (λ a. is_positioned (at a)) (ancestors_of at p)))) not_found

pub returns-clause-fixed : goal.returns-clause-fixed
returns-clause-fixed c at n position = holder_of_fixed at n position

pub returns-clause-top : goal.returns-clause-top
returns-clause-top c at n top = holder_of_top at n top

pub returns-clause-ancestor : goal.returns-clause-ancestor
returns-clause-ancestor c at shallow n h is = (holder_above at shallow n h is, holder_less at shallow n h is)

pub returns-clause-shallow : goal.returns-clause-shallow
returns-clause-shallow c at shallow = held_shallow at shallow
