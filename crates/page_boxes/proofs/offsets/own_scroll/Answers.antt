use Rattle.page_boxes.proofs.Pages.{as_pair}
use Rattle.page_boxes.proofs.offsets.own_scroll.Goals as goal

pub returns-clause-value : goal.returns-clause-value
returns-clause-value g c view sized holds forced boxed =
    as_pair c.offset_of.result _ (c.offset_of.ensures.value view sized holds forced boxed) c.unsigned.result.across c.unsigned.result.down c.unsigned.ensures.across c.unsigned.ensures.down
