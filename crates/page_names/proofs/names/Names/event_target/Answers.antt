-- What an event can be fired at: what an operand stands for, or the window of a document.
use Rattle.std.proofs.Common.{ℕ, Ok, Err, sym, subst}
use Rattle.page_model.specs.World.{WindowTarget}
use Rattle.page_model.specs.Steps.{Did}
use Rattle.page_model.specs.Operands.{operand_thing, document_named, as_event_target, event_target_meant}
use Rattle.event_tables.specs.Seen.{seen_target}
use Rattle.event_tables.specs.declared.events.EventTarget.TheVariants.{Window}
use Rattle.page_names.specs.Answers.{Finds}
use Rattle.page_names.specs.Things.{present_of}
use Rattle.page_names.proofs.Finding.{finds_then, finds_none}
use Rattle.page_names.proofs.Steps.{then_did, then_threw}
use Rattle.script_syntax.specs.declared.operands.Aim.{Aim}
use Rattle.script_syntax.specs.Seen.{operand_of, aim_of}
use Rattle.page_names.proofs.names.Names.event_target.Goals as goal

pub returns-in-Ok-clause-answer : goal.returns-in-Ok-clause-answer
returns-in-Ok-clause-answer c =
    subst (λ (aim : Aim). Finds seen_target c.as_event_target.result (event_target_meant c.args.self.now.list (present_of c.args.subject) (aim_of aim))) (sym c.in-Plain.is)
    (finds_then seen_target as_event_target (operand_thing c.args.self.now.list (present_of c.args.subject) (operand_of c.in-Plain.operand)) _ _ c.in-Ok.ensures.answer c.as_event_target.ensures.answer)

pub returns-in-Ok-clause-held : goal.returns-in-Ok-clause-held
returns-in-Ok-clause-held c = λ counts all is. c.as_event_target.ensures.held counts (c.in-Ok.ensures.held counts all is)

pub returns-in-Err-clause-answer : goal.returns-in-Err-clause-answer
returns-in-Err-clause-answer c =
    subst (λ (aim : Aim). Finds seen_target (Err c.in-Err.kind) (event_target_meant c.args.self.now.list (present_of c.args.subject) (aim_of aim))) (sym c.in-Plain.is)
    (finds_none seen_target as_event_target (operand_thing c.args.self.now.list (present_of c.args.subject) (operand_of c.in-Plain.operand)) _ c.in-Err.ensures.answer)

pub returns-in-Ok-document-clause-answer : goal.returns-in-Ok-document-clause-answer
returns-in-Ok-document-clause-answer c =
    subst (λ (aim : Aim). Finds seen_target (Ok (Window c.in-Ok-document.document)) (event_target_meant c.args.self.now.list (present_of c.args.subject) (aim_of aim))) (sym c.in-Window.is)
    (then_did (λ (document : ℕ). Did (WindowTarget document)) (document_named c.args.self.now.list c.in-Window.document) c.in-Ok-document.document.0 c.in-Ok-document.ensures.answer)

pub returns-in-Err-document-clause-answer : goal.returns-in-Err-document-clause-answer
returns-in-Err-document-clause-answer c =
    subst (λ (aim : Aim). Finds seen_target (Err c.in-Err-document.kind) (event_target_meant c.args.self.now.list (present_of c.args.subject) (aim_of aim))) (sym c.in-Window.is)
    (then_threw (λ (document : ℕ). Did (WindowTarget document)) (document_named c.args.self.now.list c.in-Window.document) c.in-Err-document.kind c.in-Err-document.ensures.answer)
