-- Operands that are looked up in two steps.
use Rattle.std.proofs.Common.{◌≡◌, List, Result, Err, Option, Some, None, sym, subst}
use Rattle.element_tree.specs.declared.node.NodeId.{NodeId}
use Rattle.text_io.specs.declared.kinds.ThrowKind.TheVariants.{ReferenceError}
use Rattle.page_model.specs.World.{ElementThing, Name}
use Rattle.page_model.specs.Operands.{operand_thing}
use Rattle.script_syntax.specs.declared.operands.Operand.{Operand}
use Rattle.script_syntax.specs.declared.operands.Operand.TheVariants.{Target}
use Rattle.script_syntax.specs.Seen.{operand_of}
use Rattle.page_names.specs.Things.{present_of}
use Rattle.text_io.specs.declared.kinds.ThrowKind.{ThrowKind}
use Rattle.page_model.specs.Steps.{Step, Did, Threw, ◌>>=◌}
use Rattle.page_names.specs.Answers.{Finds}
use Rattle.page_names.proofs.Steps.{then_did, then_threw}

module _ {B C D : Type 0} (seen : D → C) (next : B → Step C) (step : Step B) where
  pub finds_then : (value : B) (result : Result D ThrowKind) → step ≡ Did value → Finds seen result (next value) → Finds seen result (step >>= next)
  finds_then value result found rest = subst (λ (it : Step C). Finds seen result it) (sym (then_did next step value found)) rest

  pub finds_none : (kind : ThrowKind) → step ≡ Threw kind → Finds seen (Err kind) (step >>= next)
  finds_none kind threw = then_threw next step kind threw

pub target_given : (names : List Name) (subject : Option NodeId) (operand : Operand) (node : NodeId) → operand ≡ Target → subject ≡ Some node
    → operand_thing names (present_of subject) (operand_of operand) ≡ Did (ElementThing node.0)
unfolding ◌>>=◌
target_given names subject operand node target given = λ i. operand_thing names (present_of (given i)) (operand_of (target i))

pub target_missing : (names : List Name) (subject : Option NodeId) (operand : Operand) → operand ≡ Target → subject ≡ None
    → operand_thing names (present_of subject) (operand_of operand) ≡ Threw ReferenceError
unfolding ◌>>=◌
target_missing names subject operand target none = λ i. operand_thing names (present_of (none i)) (operand_of (target i))
