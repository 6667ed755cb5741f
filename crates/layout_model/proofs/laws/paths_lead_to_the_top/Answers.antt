use Rattle.std.proofs.Common.{◌≡◌, Bool, true, false, refl, ap, ◌∙◌}
use Rattle.std.specs.Prelude.{◌||◌, ◌==◌}
use Rattle.layout_model.specs.Nodes.{is_among, is_in_path, last_of, top_of, path_of, path_up}
use Rattle.layout_model.proofs.Paths.{path_child, path_top}
use Rattle.layout_model.proofs.laws.paths_lead_to_the_top.Goals as goal

pub returns-clause-ancestor : goal.returns-clause-ancestor
unfolding is_in_path is_among
returns-clause-ancestor c at a n p is short = ap (is_among a) (path_child at n p is short)

pub returns-clause-itself : goal.returns-clause-itself
unfolding is_in_path is_among
returns-clause-itself c at a n is = ap (is_among a) (path_top at n is) ∙ alone (a == n)
  where
    alone : (b : Bool) → (b || false) ≡ b
    alone true = refl
    alone false = refl

pub returns-clause-same_top : goal.returns-clause-same_top
unfolding top_of last_of path_of path_up
returns-clause-same_top c at n p is short = ap (last_of n) (path_child at n p is short)

pub returns-clause-top : goal.returns-clause-top
unfolding top_of last_of
returns-clause-top c at n is = ap (last_of n) (path_top at n is)
