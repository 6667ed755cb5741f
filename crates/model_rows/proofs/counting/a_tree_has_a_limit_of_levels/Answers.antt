-- The script is computed as the others are; it is too long for a search.
use Rattle.std.proofs.Common.{refl}
use Rattle.page_model.specs.Outcome.{trace}
use Rattle.model_rows.specs.Texts.{deep_page}
use Rattle.model_rows.proofs.counting.a_tree_has_a_limit_of_levels.Goals as goal

pub returns : goal.returns
unfolding trace deep_page
returns c = refl
