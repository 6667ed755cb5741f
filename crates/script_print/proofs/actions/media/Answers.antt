use Rattle.std.proofs.Common.{[], ◌∷◌}
use Rattle.std.specs.Prelude.{codes}
use Rattle.media_queries.specs.QueryText.{list_text}
use Rattle.script_print.specs.Actions.{Prints}
use Rattle.script_print.proofs.LineWords.{line_extended}
use Rattle.script_print.proofs.actions.media.Goals as goal

pub returns : goal.returns
unfolding Prints
returns c =
    line_extended (codes "media") (c.args.name ∷ c.args.document ∷ []) (list_text c.args.query.now ∷ []) _ _ _ c.in_ok-push_line.ensures
    c.in_ok-push_query.ensures
