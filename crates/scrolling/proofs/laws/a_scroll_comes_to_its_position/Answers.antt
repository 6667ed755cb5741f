use Rattle.scrolling.proofs.Offsets.{scrolled_offset}
use Rattle.scrolling.proofs.laws.a_scroll_comes_to_its_position.Goals as goal

pub returns : goal.returns
returns c = scrolled_offset
