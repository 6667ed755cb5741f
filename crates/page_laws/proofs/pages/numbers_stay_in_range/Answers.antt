-- What operands come to is in range.
use Rattle.page_laws.proofs.InRange.{does-in}
use Rattle.page_laws.proofs.pages.numbers_stay_in_range.Goals as goal

pub returns : goal.returns
returns c = does-in
