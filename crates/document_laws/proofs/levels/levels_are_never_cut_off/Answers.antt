-- Each level stands one deeper than the one above.
use Rattle.document_laws.proofs.Cutting.{low_trees, paths_whole, orders_whole, heights_whole, boxes_whole, holders_whole, inputs_whole, places_whole, trees_whole}
use Rattle.document_laws.proofs.levels.levels_are_never_cut_off.Goals as goal

pub returns-clause-worlds : goal.returns-clause-worlds
returns-clause-worlds c = low_trees

pub returns-clause-paths : goal.returns-clause-paths
returns-clause-paths c = paths_whole

pub returns-clause-orders : goal.returns-clause-orders
returns-clause-orders c = orders_whole

pub returns-clause-heights : goal.returns-clause-heights
returns-clause-heights c = heights_whole

pub returns-clause-boxes : goal.returns-clause-boxes
returns-clause-boxes c = boxes_whole

pub returns-clause-holders : goal.returns-clause-holders
returns-clause-holders c = holders_whole

pub returns-clause-inputs : goal.returns-clause-inputs
returns-clause-inputs c = inputs_whole

pub returns-clause-places : goal.returns-clause-places
returns-clause-places c = places_whole

pub returns-clause-trees : goal.returns-clause-trees
returns-clause-trees c = trees_whole
