-- What is known of the clips that elements have in common.
use Rattle.page_model.specs.Shown.{Shown}
use Rattle.page_model.specs.Chains.{viewport_rect}
use Rattle.clip_chain.specs.Worlds.{scene_of, view_spot}
use Rattle.common_clips.specs.Common.{AreInside, Known}

-- what is left of the top document's viewport within elements
abbrev pub AreClips : Shown → Known → Type 0
AreClips shown known = AreInside (scene_of shown) (view_spot 0) (viewport_rect shown 0) known
