use Rattle.run_replies.proofs.Written.{count_text}
use Rattle.run_replies.proofs.check.count_line.Goals as goal

pub returns : goal.returns
returns c =
    count_text c.commands_of.result c.args.script.now _ _ _ c.in_ok-line.ensures.items c.in_ok-push_decimal.ensures.ok c.in_ok-push.ensures.items c.commands_of.ensures
