use Rattle.trace_text.specs.declared.TraceLine.TheVariants.{Event}
use Rattle.trace_lines.proofs.Kept.{added_text, added_fit}
use Rattle.trace_lines.proofs.reading.keep_line.Goals as goal

pub returns-in-Ok-Event-clause-kept : goal.returns-in-Ok-Event-clause-kept
returns-in-Ok-Event-clause-kept c =
    added_text c.args.lines.now.items c.add.new.items.items (Event c.in-Ok-Event.event) c.add.result (rw c.in-Ok-Event.field-0-is at (c.in-Ok-Event.ensures.ok)) c.add.ensures.added

pub returns-in-Ok-Event-clause-fit : goal.returns-in-Ok-Event-clause-fit
returns-in-Ok-Event-clause-fit c =
    added_fit c.args.lines.now.items c.add.new.items.items (Event c.in-Ok-Event.event) c.add.result (rw c.in-Ok-Event.field-0-is at (c.in-Ok-Event.ensures.range)) c.add.ensures.added c.add.ensures.refused

pub returns-in-Ok-clause-kept : goal.returns-in-Ok-clause-kept
returns-in-Ok-clause-kept c = added_text c.args.lines.now.items c.add-in-Ok.new.items.items c.in-Ok.line c.add-in-Ok.result c.in-Ok.ensures.ok c.add-in-Ok.ensures.added

pub returns-in-Ok-clause-fit : goal.returns-in-Ok-clause-fit
returns-in-Ok-clause-fit c = added_fit c.args.lines.now.items c.add-in-Ok.new.items.items c.in-Ok.line c.add-in-Ok.result c.in-Ok.ensures.range c.add-in-Ok.ensures.added c.add-in-Ok.ensures.refused
