use Rattle.std.proofs.Common.{◌∙◌, ap, arith, sym}
use Rattle.page_model.specs.Commands.{begun_in}
use Rattle.live_page.specs.Lives.{met_by, LiveView}
use Rattle.live_page.proofs.Ends.{can_begin, cannot_begin}
use Rattle.live_page.proofs.live.LivePage.ending.Goals as goal

pub returns-then-commands_left-eq0 : goal.returns-then-commands_left-eq0
returns-then-commands_left-eq0 c =
    sym (cannot_begin c.self.inside.page.world (omega (arith, c.commands_left.ensures, c.if-commands_left-eq0.true)))
    ∙ ap (λ (live : LiveView). met_by (begun_in (live.page.world))) c.self.view_is

pub returns : goal.returns
returns c =
    sym (can_begin c.self.inside.page.world (omega (arith, c.commands_left.ensures, c.if-commands_left-eq0.false)))
    ∙ ap (λ (live : LiveView). met_by (begun_in (live.page.world))) c.self.view_is
