use Rattle.page_geometry.proofs.Scenes.{finding_is}
use Rattle.page_geometry.proofs.laws.what_is_told_is_found.Goals as goal

pub returns : goal.returns
returns c = finding_is
