use Rattle.std.proofs.Common.{◌∙◌, ap, List, [], ◌∷◌, ◌++◌, false}
use Rattle.std.specs.Prelude.{Ok}
use Rattle.page_state.specs.Views.{PageView}
use Rattle.script_items.proofs.Playing.{opening_ready}
use Rattle.stream_replay.specs.declared.stream_page.Standing.TheVariants.{Opened}
use Rattle.stream_replay.specs.declared.stream_page.StreamPage.{StreamPage}
use Rattle.stream_replay.proofs.SideBySide.{ready_more}
use Rattle.stream_replay.proofs.side_by_side.add_page.Goals as goal

pub returns-clause-ready : goal.returns-clause-ready
returns-clause-ready c =
    let page : StreamPage = record {
      name = c.args.name;
      standing = Opened (record { script = c.args.script; page = c.in-Ok-new.page; next = 0; is_stopped = false });
    } in
    ready_more (Ok (tt {0})) c.args.pages.now.items c.push_reserved.new.self.items page
    (c.push_reserved.ensures.items ∙ ap (λ (items : List StreamPage). items ++ (page ∷ [])) c.in-Ok.ensures.items)
    (λ going. opening_ready c.args.script.items c.version.result c.in-Ok-new.page.world (ap (λ (page : PageView). page.world) c.in-Ok-new.ensures.opened))
