use Rattle.std.proofs.Common.{◌∙◌, ◌++◌, ap, sym, arith}
use Rattle.std.proofs.lemmas.List.{append-nil}
use Rattle.script_generator.proofs.Fillings.{filled_none, number_pushed, byte_pushed}
use Rattle.script_generator.proofs.templates.push_filled.Goals as goal
use Rattle.script_generator.proofs.templates.push_filled.Goals.{then-byte-eq35+in_ok-push_decimal, else-byte-eq35+in_ok-push}

pub loop-byte-init : goal.loop-byte-init
loop-byte-init c = sym (ap (λ text. c.args.into.now.items ++ text) (filled_none c.args.number) ∙ append-nil c.args.into.now.items)

pub loop-byte-preserved : goal.loop-byte-preserved
loop-byte-preserved c =
    elim c.if-byte-eq35.branch [
      | then-byte-eq35+in_ok-push_decimal w ↦ number_pushed _ _ _ _ _ _ (omega arith) c.loop-byte.invariant w.if-byte-eq35.true (cc (w.in_ok-push_decimal.ensures.ok))
      | else-byte-eq35+in_ok-push w ↦ byte_pushed _ _ _ _ _ _ (omega arith) c.loop-byte.invariant w.if-byte-eq35.false (cc (w.in_ok-push.ensures.items))
    ]
