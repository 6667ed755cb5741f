use Rattle.std.proofs.lemmas.Result.{on_ok_weaker}
use Rattle.page_model.specs.FrameCallbacks.{is_frame_callback}
use Rattle.event_tables.specs.Seen.{seen_frame_callback}
use Rattle.event_tables.proofs.Seen.{entered_of, enters_of}
use Rattle.event_tables.proofs.frame_callbacks.FrameCallbacks.request.Goals as goal

pub returns-clause-answer : goal.returns-clause-answer
returns-clause-answer c = enters_of seen_frame_callback (is_frame_callback c.args.document.0 c.args.key) c.self.inside.entries c.args.self.now _ c.enter.ensures.answer c.self.view_is

pub returns-clause-requested : goal.returns-clause-requested
returns-clause-requested c =
    on_ok_weaker c.enter.result (λ entered. entered_of seen_frame_callback (λ serial. (serial, (record { document = c.args.document; key = c.args.key }, c.args.handler))) c.self.inside.entries c.enter.new.self c.args.self.now entered c.self.view_is) c.enter.ensures.entered
