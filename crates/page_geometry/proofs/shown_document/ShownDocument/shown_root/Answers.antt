use Rattle.std.proofs.Common.{ap, sym}
use Rattle.page_boxes.specs.Pages.{seen_pair}
use Rattle.page_geometry.proofs.Viewports.{view_found, root_found}
use Rattle.page_geometry.proofs.shown_document.ShownDocument.shown_root.Goals as goal

pub returns-in-None-clause-nothing : goal.returns-in-None-clause-nothing
returns-in-None-clause-nothing c none = sym c.in-None.ensures

pub returns-in-Some-clause-shown : goal.returns-in-Some-clause-shown
returns-in-Some-clause-shown c =
    let it = c.args.self.now.shown in
    view_found it.tree it.screen c.page.ensures.framed c.args.self.now.document (c.in-Some.root.0) (sym c.in-Some.ensures)
    (seen_pair c.viewport.result) (ap seen_pair c.viewport.ensures.value)

pub returns-in-Some-clause-top : goal.returns-in-Some-clause-top
returns-in-Some-clause-top c =
    let it = c.args.self.now.shown in (root_found it.tree it.screen c.page.ensures.framed c.args.self.now.document (c.in-Some.root.0) (sym c.in-Some.ensures)).top

pub returns-in-Some-clause-made : goal.returns-in-Some-clause-made
returns-in-Some-clause-made c =
    let it = c.args.self.now.shown in (root_found it.tree it.screen c.page.ensures.framed c.args.self.now.document (c.in-Some.root.0) (sym c.in-Some.ensures)).known
