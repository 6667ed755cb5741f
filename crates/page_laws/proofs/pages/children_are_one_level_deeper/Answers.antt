-- The path to the root is the parent's with one more.
use Rattle.page_laws.proofs.Depths.{placing-depth}
use Rattle.page_laws.proofs.pages.children_are_one_level_deeper.Goals as goal

pub returns : goal.returns
returns c = placing-depth
