use Rattle.std.proofs.Common.{◌++◌, codes, ap, sym, ◌∙◌, arith}
use Rattle.script_replay.proofs.Sighting.{miss_told, hits_told}
use Rattle.script_replay.proofs.sights.text_of_hits.Goals as goal

pub returns-then-is_empty : goal.returns-then-is_empty
returns-then-is_empty c =
    miss_told c.args.page.now.world.names c.args.nodes.now _ (sym c.is_empty.ensures ∙ c.if-is_empty.true)
    (c.in_ok-extend_from_slice.ensures.items ∙ ap (λ text. text ++ codes "miss\n") c.new-text.ensures.items)

pub returns : goal.returns
returns c =
    hits_told c.args.page.now.world.names c.args.nodes.now c.loop-node.node-index _ (sym c.is_empty.ensures ∙ c.if-is_empty.false) (omega arith) c.loop-node.invariant
