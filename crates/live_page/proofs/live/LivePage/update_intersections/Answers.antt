use Rattle.std.proofs.Common.{sym}
use Rattle.page_laws.proofs.Changes.{active-in}
use Rattle.live_page.proofs.live.LivePage.update_intersections.Goals as goal

pub update_counted-requires-clause-there : goal.update_counted-requires-clause-there
update_counted-requires-clause-there c = active-in (c.self.inside.page.world.tree) c.args.document.0 (sym c.if-not-is_active.ensures)
