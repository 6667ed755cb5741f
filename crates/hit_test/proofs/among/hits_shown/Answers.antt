use Rattle.std.proofs.Common.{map, ap, ◌∙◌}
use Rattle.element_tree.specs.Links.{number}
use Rattle.hit_test.specs.Hits.{is_hit}
use Rattle.hit_test.specs.Painting.{paint_order}
use Rattle.hit_test.proofs.Chains.{turned, all_there}
use Rattle.hit_test.proofs.among.hits_shown.Goals as goal

pub returns-clause-list : goal.returns-clause-list
returns-clause-list c =
    turned (is_hit c.args.shown.now c.args.at) c.deref.result.now c.in_ok-found.found.items c.reverse.new.self.items (paint_order c.args.shown.now.tree)
    (ap (map number) c.deref.ensures.value ∙ c.in_ok-painted.ensures ∙ ap paint_order c.page.ensures) c.in_ok-found.ensures c.reverse.ensures.items

pub returns-clause-there : goal.returns-clause-there
returns-clause-there c =
    all_there c.args.shown.now c.args.at c.deref.result.now c.in_ok-found.found.items c.reverse.new.self.items c.in_ok-found.ensures c.reverse.ensures.permutation
