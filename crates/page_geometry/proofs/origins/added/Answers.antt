use Rattle.page_geometry.proofs.Moves.{sum_fits, point_same, origin_wider}
use Rattle.page_geometry.proofs.origins.added.Goals as goal

pub returns-clause-value : goal.returns-clause-value
returns-clause-value c =
    let far = origin_wider c.args.frames 64 c.args.around c.requires.few c.requires.around in
    point_same _ _ _ _
    (sum_fits c.args.corner.left c.args.around.left c.requires.left far.left_low far.left_high)
    (sum_fits c.args.corner.top c.args.around.top c.requires.top far.top_low far.top_high)
