-- A thing that is named, as an observer.
use Rattle.page_model.specs.Operands.{thing_named, as_resize_observer}
use Rattle.page_names.proofs.Finding.{finds_then, finds_none}
use Rattle.resize_observer.specs.declared.observation.ObserverId.{ObserverId}
use Rattle.page_names.proofs.names.Names.observer.Goals as goal

pub returns-in-Ok-clause-answer : goal.returns-in-Ok-clause-answer
returns-in-Ok-clause-answer c = finds_then (λ (observer : ObserverId). observer.0) as_resize_observer (thing_named c.args.self.now.list c.args.name) _ _ c.in-Ok.ensures.answer c.as_observer.ensures.answer

pub returns-in-Ok-clause-held : goal.returns-in-Ok-clause-held
returns-in-Ok-clause-held c = λ counts all. c.as_observer.ensures.held counts (c.in-Ok.ensures.held counts all)

pub returns-in-Err-clause-answer : goal.returns-in-Err-clause-answer
returns-in-Err-clause-answer c = finds_none (λ (observer : ObserverId). observer.0) as_resize_observer (thing_named c.args.self.now.list c.args.name) _ c.in-Err.ensures.answer
