-- Each command's own call does what the command does.
use Rattle.std.proofs.Common.{Ok, sym, subst}
use Rattle.script_model.specs.Scripts.{handlers_in}
use Rattle.page_model.specs.Callbacks.{handler_names}
use Rattle.page_model.specs.Commands.{does}
use Rattle.script_syntax.specs.Seen.{action_of}
use Rattle.script_syntax.specs.declared.commands.Action.{Action}
use Rattle.trace_text.specs.declared.TraceLine.TheVariants as trace
use Rattle.page_state.specs.declared.answers.Effect.TheVariants.{Line}
use Rattle.page_state.specs.Answers.{Kept}
use Rattle.page_names.specs.Things.{present_of}
use Rattle.page_state.proofs.Doing.{kept_at, says}
use Rattle.page_state.proofs.page.Page.act.Goals as goal

pub returns-in-Viewport-clause-done : goal.returns-in-Viewport-clause-done
returns-in-Viewport-clause-done g c =
    subst (λ (it : Action). Kept c.args.self.now c.set_viewport.new.self c.set_viewport.result (does (handler_names (handlers_in c.args.script.now.items)) c.args.self.now.world (present_of c.args.subject) (action_of it)))
    (sym c.in-Viewport.is) (kept_at (handler_names (handlers_in c.args.script.now.items)) (c.set_viewport.ensures.done (present_of c.args.subject)))

pub returns-in-Ratio-clause-done : goal.returns-in-Ratio-clause-done
returns-in-Ratio-clause-done g c =
    subst (λ (it : Action). Kept c.args.self.now c.set_ratio.new.self c.set_ratio.result (does (handler_names (handlers_in c.args.script.now.items)) c.args.self.now.world (present_of c.args.subject) (action_of it)))
    (sym c.in-Ratio.is) (kept_at (handler_names (handlers_in c.args.script.now.items)) (c.set_ratio.ensures.done (present_of c.args.subject)))

pub returns-in-Block-clause-done : goal.returns-in-Block-clause-done
returns-in-Block-clause-done g c =
    subst (λ (it : Action). Kept c.args.self.now c.make_block.new.self c.make_block.result (does (handler_names (handlers_in c.args.script.now.items)) c.args.self.now.world (present_of c.args.subject) (action_of it)))
    (sym c.in-Block.is) (kept_at (handler_names (handlers_in c.args.script.now.items)) (c.make_block.ensures.done (present_of c.args.subject)))

pub returns-in-Image-clause-done : goal.returns-in-Image-clause-done
returns-in-Image-clause-done g c =
    subst (λ (it : Action). Kept c.args.self.now c.make_image.new.self c.make_image.result (does (handler_names (handlers_in c.args.script.now.items)) c.args.self.now.world (present_of c.args.subject) (action_of it)))
    (sym c.in-Image.is) (kept_at (handler_names (handlers_in c.args.script.now.items)) (c.make_image.ensures.done (present_of c.args.subject)))

pub returns-in-RoDisconnect-clause-done : goal.returns-in-RoDisconnect-clause-done
returns-in-RoDisconnect-clause-done g c =
    subst (λ (it : Action). Kept c.args.self.now c.disconnect.new.self c.disconnect.result (does (handler_names (handlers_in c.args.script.now.items)) c.args.self.now.world (present_of c.args.subject) (action_of it)))
    (sym c.in-RoDisconnect.is) (kept_at (handler_names (handlers_in c.args.script.now.items)) (c.disconnect.ensures.done (present_of c.args.subject)))

pub returns-in-Media-clause-done : goal.returns-in-Media-clause-done
returns-in-Media-clause-done g c =
    subst (λ (it : Action). Kept c.args.self.now c.make_query_list.new.self c.make_query_list.result (does (handler_names (handlers_in c.args.script.now.items)) c.args.self.now.world (present_of c.args.subject) (action_of it)))
    (sym c.in-Media.is) (kept_at (handler_names (handlers_in c.args.script.now.items)) (c.make_query_list.ensures.done (present_of c.args.subject)))

pub returns-in-CancelRaf-clause-done : goal.returns-in-CancelRaf-clause-done
returns-in-CancelRaf-clause-done g c =
    subst (λ (it : Action). Kept c.args.self.now c.cancel_frame.new.self c.cancel_frame.result (does (handler_names (handlers_in c.args.script.now.items)) c.args.self.now.world (present_of c.args.subject) (action_of it)))
    (sym c.in-CancelRaf.is) (kept_at (handler_names (handlers_in c.args.script.now.items)) (c.cancel_frame.ensures.done (present_of c.args.subject)))

pub returns-in-ClearTimer-clause-done : goal.returns-in-ClearTimer-clause-done
returns-in-ClearTimer-clause-done g c =
    subst (λ (it : Action). Kept c.args.self.now c.clear_timer.new.self c.clear_timer.result (does (handler_names (handlers_in c.args.script.now.items)) c.args.self.now.world (present_of c.args.subject) (action_of it)))
    (sym c.in-ClearTimer.is) (kept_at (handler_names (handlers_in c.args.script.now.items)) (c.clear_timer.ensures.done (present_of c.args.subject)))

pub returns-in-Ro-clause-done : goal.returns-in-Ro-clause-done
returns-in-Ro-clause-done g c =
    subst (λ (it : Action). Kept c.args.self.now c.make_observer.new.self c.make_observer.result (does (handler_names (handlers_in c.args.script.now.items)) c.args.self.now.world (present_of c.args.subject) (action_of it)))
    (sym c.in-Ro.is) (c.make_observer.ensures.done (present_of c.args.subject))

pub returns-in-Raf-clause-done : goal.returns-in-Raf-clause-done
returns-in-Raf-clause-done g c =
    subst (λ (it : Action). Kept c.args.self.now c.request_frame.new.self c.request_frame.result (does (handler_names (handlers_in c.args.script.now.items)) c.args.self.now.world (present_of c.args.subject) (action_of it)))
    (sym c.in-Raf.is) (c.request_frame.ensures.done (present_of c.args.subject))

pub returns-in-Timer-clause-done : goal.returns-in-Timer-clause-done
returns-in-Timer-clause-done g c =
    subst (λ (it : Action). Kept c.args.self.now c.set_timer.new.self c.set_timer.result (does (handler_names (handlers_in c.args.script.now.items)) c.args.self.now.world (present_of c.args.subject) (action_of it)))
    (sym c.in-Timer.is) (c.set_timer.ensures.done (present_of c.args.subject))

pub returns-in-Post-clause-done : goal.returns-in-Post-clause-done
returns-in-Post-clause-done g c =
    subst (λ (it : Action). Kept c.args.self.now c.post.new.self c.post.result (does (handler_names (handlers_in c.args.script.now.items)) c.args.self.now.world (present_of c.args.subject) (action_of it)))
    (sym c.in-Post.is) (c.post.ensures.done (present_of c.args.subject))

pub returns-in-Say-clause-done : goal.returns-in-Say-clause-done
returns-in-Say-clause-done g c =
    subst (λ (it : Action). Kept c.args.self.now c.args.self.now (Ok (Line (trace.Say c.in-Say.word))) (does (handler_names (handlers_in c.args.script.now.items)) c.args.self.now.world (present_of c.args.subject) (action_of it)))
    (sym c.in-Say.is) (says (handler_names (handlers_in c.args.script.now.items)) c.args.self.now (present_of c.args.subject) c.in-Say.word)

pub returns-in-Frame-clause-done : goal.returns-in-Frame-clause-done
returns-in-Frame-clause-done g c =
    subst (λ (it : Action). Kept c.args.self.now c.make_frame.new.self c.make_frame.result (does (handler_names (handlers_in c.args.script.now.items)) c.args.self.now.world (present_of c.args.subject) (action_of it)))
    (sym c.in-Frame.is) (kept_at (handler_names (handlers_in c.args.script.now.items)) (c.make_frame.ensures.done (present_of c.args.subject)))

pub returns-in-IoDisconnect-clause-done : goal.returns-in-IoDisconnect-clause-done
returns-in-IoDisconnect-clause-done g c =
    subst (λ (it : Action). Kept c.args.self.now c.unregister_all.new.self c.unregister_all.result (does (handler_names (handlers_in c.args.script.now.items)) c.args.self.now.world (present_of c.args.subject) (action_of it)))
    (sym c.in-IoDisconnect.is) (kept_at (handler_names (handlers_in c.args.script.now.items)) (c.unregister_all.ensures.done (present_of c.args.subject)))

pub returns-in-IoTake-clause-done : goal.returns-in-IoTake-clause-done
returns-in-IoTake-clause-done g c =
    subst (λ (it : Action). Kept c.args.self.now c.take_entries.new.self c.take_entries.result (does (handler_names (handlers_in c.args.script.now.items)) c.args.self.now.world (present_of c.args.subject) (action_of it)))
    (sym c.in-IoTake.is) (kept_at (handler_names (handlers_in c.args.script.now.items)) (c.take_entries.ensures.done (present_of c.args.subject)))
