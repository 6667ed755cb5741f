use Rattle.std.proofs.Common.{ap, ◌∙◌}
use Rattle.std.specs.Prelude.{pos, ◌+ℤ◌, unsigned_abs}
use Rattle.px_units.specs.declared.Point.{Point}
use Rattle.layout_model.specs.FlatPlaces.{flat_place}
use Rattle.positioned_layout.specs.declared.insets.Axis.TheVariants.{Across, Down}
use Rattle.positioned_layout.proofs.Numbers.{corner_again, length_span}
use Rattle.positioned_layout.proofs.Placing.{corner_is, point_same}
use Rattle.positioned_layout.proofs.reaches.padding_corner.Goals as goal

pub returns-clause-value : goal.returns-clause-value
returns-clause-value c at view n place_is is =
    point_same _ _ _ _
    (corner_again c.args.place.left c.args.own.now.corner.left c.requires.place.0 (length_span _ c.requires.measure.corner.0)
    ∙ ap (λ (q : Point). q.left +ℤ pos (unsigned_abs c.args.own.now.corner.left)) place_is
    ∙ ap (λ m. (flat_place at view n).0 +ℤ pos m) (corner_is at view n c.args.own.now is Across))
    (corner_again c.args.place.top c.args.own.now.corner.top c.requires.place.1 (length_span _ c.requires.measure.corner.1)
    ∙ ap (λ (q : Point). q.top +ℤ pos (unsigned_abs c.args.own.now.corner.top)) place_is
    ∙ ap (λ m. (flat_place at view n).1 +ℤ pos m) (corner_is at view n c.args.own.now is Down))
