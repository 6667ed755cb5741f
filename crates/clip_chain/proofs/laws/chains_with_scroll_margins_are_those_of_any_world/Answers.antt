use Rattle.clip_chain.proofs.Worlds.{clips_are_for, part_is_for, root_alone}
use Rattle.clip_chain.proofs.laws.chains_with_scroll_margins_are_those_of_any_world.Goals as goal

pub returns-clause-clips : goal.returns-clause-clips
returns-clause-clips c = clips_are_for

pub returns-clause-part : goal.returns-clause-part
returns-clause-part c = part_is_for

pub returns-clause-root : goal.returns-clause-root
returns-clause-root c = root_alone
