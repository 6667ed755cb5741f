use Rattle.std.proofs.Common.{◌∙◌, ap, not}
use Rattle.std.specs.List.{list_any}
use Rattle.page_model.specs.World.{Listener}
use Rattle.page_model.specs.Lookups.{kept}
use Rattle.page_model.specs.Listeners.{is_listener}
use Rattle.event_tables.specs.Seen.{seen_target, seen_listener}
use Rattle.event_tables.proofs.Keys.{is_its_listener}
use Rattle.event_tables.proofs.Seen.{any_of, kept_of}
use Rattle.event_tables.proofs.listeners.Listeners.remove.Goals as goal

pub returns-clause-answer : goal.returns-clause-answer
returns-clause-answer c =
    any_of seen_listener (is_listener (seen_target c.args.target) c.args.kind c.args.handler.0) c.self.inside.entries c.args.self.now _
    (c.remove.ensures.answer
    ∙ ap (λ test. list_any test c.self.inside.entries.part.held)
    (is_its_listener c.new.result _ _ _ c.new.ensures.target c.new.ensures.rest.0 (ap (λ handler. handler.0) c.new.ensures.rest.1)))
    c.self.view_is

pub returns-clause-removed : goal.returns-clause-removed
returns-clause-removed c =
    kept_of seen_listener (λ (each : Listener). not (is_listener (seen_target c.args.target) c.args.kind c.args.handler.0 each)) c.self.inside.entries c.remove.new.self c.args.self.now
    (c.remove.ensures.removed
    ∙ ap (λ test. record (c.self.inside.entries) { part = kept (λ entry. not (test entry)) (c.self.inside.entries.part) })
    (is_its_listener c.new.result _ _ _ c.new.ensures.target c.new.ensures.rest.0 (ap (λ handler. handler.0) c.new.ensures.rest.1)))
    c.self.view_is
