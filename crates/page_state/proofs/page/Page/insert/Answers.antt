-- An element is put before a sibling.
use Rattle.std.proofs.Common.{ap}
use Rattle.script_syntax.specs.Seen.{operand_of}
use Rattle.container_model.specs.Seen.{seen_container}
use Rattle.page_names.specs.Things.{present_of}
use Rattle.page_state.proofs.Doing.{inserts, keeps_by}
use Rattle.page_model.specs.World.{Container}
use Rattle.page_model.specs.Steps.{Step}
use Rattle.page_state.specs.Boxes.{found, inside}
use Rattle.page_state.proofs.Marked.{marks_moved}
use Rattle.page_state.proofs.page.Page.insert.Goals as goal

pub returns-clause-done : goal.returns-clause-done
returns-clause-done c =
    keeps_by c.put.ensures.done (λ handlers. inserts handlers c.args.self.now.world (present_of c.args.subject) (operand_of c.args.node) c.in_ok-node.node.0 c.in_ok-node.ensures.answer
    (operand_of c.args.parent) (seen_container c.in_ok-container.container) c.in_ok-container.ensures.answer
    (operand_of c.args.sibling) c.in_ok-sibling.sibling.0 c.in_ok-sibling.ensures.answer)

pub returns-clause-boxes : goal.returns-clause-boxes
returns-clause-boxes c =
    marks_moved c.args.self.now.kept c.put.new.self.kept _ c.in_ok-node.node.0 (ap found c.in_ok-node.ensures.answer) c.put.result c.put.new.self.world.tree c.args.self.now.world.tree
    _ _ (ap (λ (it : Step Container). inside (found it)) c.in_ok-container.ensures.answer) c.put.ensures.boxes
