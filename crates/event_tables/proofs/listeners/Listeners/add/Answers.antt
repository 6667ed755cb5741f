use Rattle.std.proofs.Common.{◌∙◌, ap, subst, sym}
use Rattle.std.specs.Prelude.{Bool, Err}
use Rattle.std.specs.List.{list_any}
use Rattle.page_model.specs.Listeners.{is_listener, is_listening}
use Rattle.event_tables.specs.Answers.{Enters, Adds}
use Rattle.event_tables.specs.Entries.{Entry}
use Rattle.event_tables.specs.Seen.{seen_target, seen_listener}
use Rattle.event_tables.specs.Tables.{has_room}
use Rattle.event_tables.specs.declared.listeners.ListenerKey.{ListenerKey}
use Rattle.event_tables.proofs.Keys.{is_its_listener}
use Rattle.event_tables.proofs.Seen.{enters_of}
use Rattle.event_tables.proofs.listeners.Listeners.add.Goals.{in-Ok, in-Err-Taken, in-Err-Limit, in-Err-Memory}
use Rattle.event_tables.proofs.listeners.Listeners.add.Goals as goal

pub returns-clause-answer : goal.returns-clause-answer
returns-clause-answer c =
    let there : Bool = is_listening (seen_target c.args.target) c.args.kind c.args.handler.0 c.args.self.now.part in
    let roomy : Bool = has_room c.args.self.now in
    let entered : Enters c.enter.result there roomy =
    enters_of seen_listener (is_listener (seen_target c.args.target) c.args.kind c.args.handler.0) c.self.inside.entries c.args.self.now c.enter.result
    (subst (λ (test : Entry ListenerKey (Unit {0}) → Bool). Enters c.enter.result (list_any test c.self.inside.entries.part.held) (has_room c.self.inside.entries))
    (is_its_listener c.new-key.result _ _ _ c.new-key.ensures.target c.new-key.ensures.rest.0 (ap (λ handler. handler.0) c.new-key.ensures.rest.1))
    c.enter.ensures.answer)
    c.self.view_is in
    elim c.match-enter.branch [
      | in-Ok w ↦ subst (λ r. Adds r there roomy) (sym w.result-is) (subst (λ r. Enters r there roomy) w.in-Ok.is entered)
      | in-Err-Taken w ↦ subst (λ r. Adds r there roomy) (sym w.result-is) (subst (λ r. Enters r there roomy) (w.in-Err-Taken.is ∙ ap Err w.in-Err-Taken.field-0-is) entered)
      | in-Err-Limit w ↦ subst (λ r. Adds r there roomy) (sym w.result-is) (subst (λ r. Enters r there roomy) (w.in-Err-Limit.is ∙ ap Err w.in-Err-Limit.field-0-is) entered)
      | in-Err-Memory w ↦ subst (λ r. Adds r there roomy) (sym w.result-is) (subst (λ r. Enters r there roomy) (w.in-Err-Memory.is ∙ ap Err w.in-Err-Memory.field-0-is) entered)
    ]
