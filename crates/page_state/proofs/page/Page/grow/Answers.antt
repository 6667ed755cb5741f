use Rattle.std.proofs.Common.{ap, Ok}
use Rattle.page_state.specs.Views.{PageView}
use Rattle.page_state.specs.Boxes.{found}
use Rattle.page_state.specs.declared.answers.Effect.TheVariants.{Nothing}
use Rattle.page_state.proofs.Marked.{marks_done, marks_over}
use Rattle.page_state.proofs.page.Page.grow.Goals as goal

pub returns-clause-boxes : goal.returns-clause-boxes
returns-clause-boxes c =
    marks_over c.args.self.now.kept c.grow.new.self.kept _ c.in_ok-node.node.0 (ap found c.in_ok-node.ensures.answer) (Ok Nothing) c.grow.new.self.elements.tree
    (marks_done _ Nothing c.self.inside.laid.kept c.args.self.now.kept c.grow.new.self.kept (ap (λ (v : PageView). v.kept) c.self.view_is) c.in_ok-grow.ensures.marks)
