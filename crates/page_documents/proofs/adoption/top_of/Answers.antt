use Rattle.std.proofs.Common.{sym, ◌∙◌, []}
use Rattle.element_tree.proofs.Depths.{some_of_ids, none_of_ids}
use Rattle.element_tree.proofs.Facts.{parent_in_range}
use Rattle.page_documents.proofs.Roots.{root_above, root_self}
use Rattle.page_documents.proofs.adoption.top_of.Goals as goal

pub returns-clause-value : goal.returns-clause-value
returns-clause-value g c =
    sym (root_self (g.P.Owned.carried) c.args.tree.now [] c.parent.ensures.forest (c.loop-parent.at.0) (none_of_ids _ (sym c.parent.ensures.value
    ∙ c.in_default.is)))
    ∙ c.loop-parent.invariant.same

pub loop-parent-preserved : goal.loop-parent-preserved
loop-parent-preserved g c =
    let up = some_of_ids _ c.in-Some.parent (sym c.parent.ensures.value ∙ c.in-Some.is) in
    record {
      known = parent_in_range c.parent.ensures.forest (c.loop-parent.at.0) (c.in-Some.parent.0) up;
      same = sym (root_above (g.P.Owned.carried) c.args.tree.now [] c.parent.ensures.forest (c.loop-parent.at.0) (c.in-Some.parent.0) up)
          ∙ c.loop-parent.invariant.same;
    }
