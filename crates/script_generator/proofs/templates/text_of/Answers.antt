use Rattle.std.proofs.Common.{arith}
use Rattle.script_generator.proofs.Fillings.{head_pushed, card_pushed, tail_pushed}
use Rattle.script_generator.proofs.templates.text_of.Goals as goal

pub loop-card-init : goal.loop-card-init
loop-card-init c = head_pushed c.args.number _ _ c.new-text.ensures.items c.in_ok-push_filled.ensures

pub loop-card-preserved : goal.loop-card-preserved
loop-card-preserved c = card_pushed c.args.number c.loop-card.card _ _ _ (omega arith) c.loop-card.invariant c.in_ok-push_filled-2.ensures

pub returns : goal.returns
returns c = tail_pushed c.args.number c.loop-card.card _ _ _ (omega arith) c.loop-card.invariant c.in_ok-extend_from_slice.ensures.items
