use Rattle.std.proofs.Common.{◌∙◌, ap, sym}
use Rattle.script_model.specs.Reading.{reading}
use Rattle.live_page.proofs.Texts.{no_handlers}
use Rattle.live_page.proofs.live.LivePage.new.Goals as goal

pub returns-clause-handlers : goal.returns-clause-handlers
returns-clause-handlers c = no_handlers c.args.version c.in-Ok.script (ap reading (sym c.empty_text.ensures) ∙ c.in-Ok.ensures)
