use Rattle.std.proofs.Common.{ap, arith}
use Rattle.script_model.specs.Scripts.{command_count}
use Rattle.run_replies.proofs.CommandCounts.{few_commands}
use Rattle.run_replies.proofs.check.commands_of.Goals as goal

pub count_items-requires : goal.count_items-requires
count_items-requires c =
    let few = few_commands c.args.script.now (c.what_is_read_is_well_formed.ensures c.items.ensures.read.text c.args.script.now c.items.ensures.read.reads) in
    let same = ap command_count c.items.ensures.value in
    omega arith
