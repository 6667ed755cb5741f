use Rattle.frame_update.proofs.Ready.{prepared_first, readied}
use Rattle.frame_update.proofs.run.call_handler.Goals as goal

pub returns : goal.returns
returns g c = record {
  says = c.run_handler.ensures.says;
  ready = prepared_first c.run_handler.ensures.held.script (c.run_handler.ensures.ready (readied c.args.run.now.script.now.items c.args.run.now.page.now.world c.requires.ready));
  script = c.run_handler.ensures.held.script;
  lent = c.run_handler.ensures.held.lent;
}
