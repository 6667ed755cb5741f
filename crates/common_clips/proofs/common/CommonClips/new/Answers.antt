use Rattle.std.proofs.Common.{subst, sym}
use Rattle.px_units.specs.declared.Rect.{Rect}
use Rattle.element_tree.specs.declared.container.Container.{Container}
use Rattle.clip_chain.specs.Scenes.{Scene}
use Rattle.common_clips.specs.Common.{AreInside, Known}
use Rattle.common_clips.proofs.Knowing.{nothing_known}
use Rattle.common_clips.proofs.common.CommonClips.new.Goals as goal

pub returns : goal.returns
returns c =
    subst (λ (known : Known). (scene : Scene) (root : Container) (limits : Rect) → AreInside scene root limits known) (sym c.new.ensures) nothing_known
