use Rattle.layout_model.specs.Clips.{is_scroll_container}
use Rattle.layout_model.specs.Reach.{range_of, range_of_view, offset_in_force, view_in_force}
use Rattle.layout_model.proofs.Caps.{force_within, force_if_within}
use Rattle.layout_model.proofs.laws.offsets_stay_in_range.Goals as goal

pub returns-clause-element : goal.returns-clause-element
unfolding offset_in_force
returns-clause-element c at stored view n = force_if_within (is_scroll_container (at n)) (stored n) (λ u. range_of at view n)

pub returns-clause-viewport : goal.returns-clause-viewport
unfolding view_in_force
returns-clause-viewport c at view = force_within (view.scrolled.0) (view.scrolled.1) (λ u. range_of_view at view)
