use Rattle.std.proofs.Common.{◌∙◌, ap}
use Rattle.page_model.specs.Outcome.{opening_world}
use Rattle.page_state.specs.Views.{PageView}
use Rattle.script_replay.proofs.sights.write_sight.Goals as goal

pub write_sight_on-requires : goal.write_sight_on-requires
write_sight_on-requires g c = ap (λ (page : PageView). page.world) c.in-Ok.ensures.opened ∙ ap opening_world c.version.ensures
