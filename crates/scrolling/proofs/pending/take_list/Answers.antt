use Rattle.std.proofs.Common.{◌∙◌, [], ap, sym, arith}
use Rattle.std.specs.Global.{Vec}
use Rattle.element_tree.specs.declared.container.Container.{Container}
use Rattle.container_model.specs.Seen.{seen_containers}
use Rattle.scrolling.proofs.Listing.{taken_at, past_entry, past_change}
use Rattle.scrolling.proofs.pending.take_list.Goals as goal

pub returns-then-place-len-clause-taken : goal.returns-then-place-len-clause-taken
returns-then-place-len-clause-taken c =
    taken_at c.args.document.0 c.args.lists.now.items c.replace.new.dest (ap (λ (list : Vec Container). list.items) c.replace.ensures.after ∙ c.new-empty.ensures.items)

pub returns-else-place-len-clause-value : goal.returns-else-place-len-clause-value
returns-else-place-len-clause-value c =
    ap seen_containers c.new-empty.ensures.items
    ∙ sym (past_entry (λ (list : Vec Container). seen_containers list.items) [] c.args.document.0 c.args.lists.now.items (omega (arith, c.if-place-len.false, c.len.ensures)))

pub returns-else-place-len-clause-taken : goal.returns-else-place-len-clause-taken
returns-else-place-len-clause-taken c =
    past_change (λ (list : Vec Container). seen_containers list.items) (λ list. []) c.args.document.0 c.args.lists.now.items (omega (arith, c.if-place-len.false, c.len.ensures))
