-- What isn't there stands alone.
use Rattle.std.proofs.Common.{nat_lt, length, sym, ap, ◌∙◌}
use Rattle.page_model.specs.World.{Tree}
use Rattle.page_geometry.proofs.Missing.{depth_missing, at_least}
use Rattle.page_geometry.proofs.sizes.ShownSizes.depth_now.Goals as goal

pub returns : goal.returns
returns c =
    sym (depth_missing c.args.self.now.tree c.args.node.0
    (at_least _ _ (c.if-holds.ensures.value ∙ ap (λ (tree : Tree). nat_lt c.args.node.0 (length tree.elements)) c.page-page.ensures)))
