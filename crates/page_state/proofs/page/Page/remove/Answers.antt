-- An element is taken out of where it stands.
use Rattle.std.proofs.Common.{ap, sym, ◌∙◌, Ok}
use Rattle.script_syntax.specs.Seen.{operand_of}
use Rattle.page_model.specs.Steps.{becomes}
use Rattle.page_names.specs.Things.{present_of}
use Rattle.page_state.specs.Views.{PageView}
use Rattle.page_state.proofs.Doing.{removes}
use Rattle.page_state.specs.Boxes.{found}
use Rattle.page_state.specs.declared.answers.Effect.TheVariants.{Nothing}
use Rattle.page_state.proofs.Marked.{marks_left}
use Rattle.page_state.proofs.page.Page.remove.Goals as goal

pub returns-clause-done : goal.returns-clause-done
returns-clause-done c = record {
  applied = λ handlers.
      removes handlers c.args.self.now.world (present_of c.args.subject) (operand_of c.args.node) c.in_ok-node.node.0 c.in_ok-node.ensures.answer
      ∙ ap (λ (v : PageView). becomes v.world) (sym c.take_out.ensures.removed);
  begun = ap (λ (v : PageView). v.begun) c.take_out.ensures.removed;
  handed = tt;
}

pub returns-clause-boxes : goal.returns-clause-boxes
returns-clause-boxes c =
    marks_left c.args.self.now.kept c.take_out.new.self.kept _ c.in_ok-node.node.0 (ap found c.in_ok-node.ensures.answer) (Ok Nothing) c.take_out.new.self.world.tree c.args.self.now.world.tree
    (record { done = c.take_out.ensures.marks; refused = tt })
