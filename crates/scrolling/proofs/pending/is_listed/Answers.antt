use Rattle.std.proofs.Common.{◌∙◌}
use Rattle.scrolling.proofs.Listing.{found_by_container}
use Rattle.scrolling.proofs.pending.is_listed.Goals as goal

pub returns : goal.returns
returns c = c.contains.ensures.value ∙ found_by_container c.args.target c.args.list.now
