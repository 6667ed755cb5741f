use Rattle.std.proofs.Common.{ap, ◌∙◌}
use Rattle.script_model.specs.Reading.{reading}
use Rattle.script_print.proofs.WholeText.{printed_pushed, read_again}
use Rattle.script_print.proofs.print.Goals as goal

pub returns-clause-text : goal.returns-clause-text
returns-clause-text c =
    printed_pushed _ _ _ _ _ _ c.new-text.ensures.items c.in_ok-push_script.ensures c.version.ensures c.items.ensures.value c.in_ok-end_last_line.ensures

pub returns-clause-again : goal.returns-clause-again
returns-clause-again c =
    ap reading (printed_pushed _ _ _ _ _ _ c.new-text.ensures.items c.in_ok-push_script.ensures c.version.ensures c.items.ensures.value c.in_ok-end_last_line.ensures)
    ∙ read_again c.args.script.now c.items.ensures.read c.what_is_read_is_well_formed.ensures c.printed_script_reads_back.ensures
