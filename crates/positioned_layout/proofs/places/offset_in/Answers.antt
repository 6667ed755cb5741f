use Rattle.std.proofs.Common.{refl, ◌∙◌}
use Rattle.positioned_layout.proofs.Numbers.{reach_again}
use Rattle.positioned_layout.proofs.Placing.{measured_at}
use Rattle.positioned_layout.proofs.places.offset_in.Goals as goal

pub returns-in-Some-clause-value : goal.returns-in-Some-clause-value
returns-in-Some-clause-value c at view n p up of boxed own_is =
    reach_again c.offset.result c.offset.ensures.range
    ∙ c.offset.ensures.value at view n p up (measured_at at view p _ of boxed c.args.outer c.in-Some.outer refl c.in-Some.is) own_is
