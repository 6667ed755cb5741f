use Rattle.std.proofs.Common.{◌∙◌, ap, sym}
use Rattle.std.specs.Prelude.{is_some}
use Rattle.std.specs.List.{list_any}
use Rattle.event_tables.specs.Entries.{Entry, has_key}
use Rattle.event_tables.specs.Tables.{Bounded}
use Rattle.event_tables.proofs.Indexed.{any_key, kept_in, none_out, taken}
use Rattle.event_tables.proofs.entries.Entries.remove.Goals as goal

pub returns-in_default-clause-answer : goal.returns-in_default-clause-answer
returns-in_default-clause-answer g c =
    sym (ap is_some (sym c.swap_remove.ensures.value ∙ c.in_default.is)) ∙ ap is_some (c.self.invariant.found c.args.key)
    ∙ any_key g.K.PartialEq.eq g.met.K.Eq.laws c.args.key c.self.inside.held.entries
    ∙ ap (λ (now : Bounded (Entry _ _)). list_any (has_key g.K.PartialEq.eq c.args.key) (now.part.held)) c.self.view_is

pub returns-clause-answer : goal.returns-clause-answer
returns-clause-answer g c =
    sym (ap is_some (sym c.swap_remove.ensures.value ∙ c.in-Some.is)) ∙ ap is_some (c.self.invariant.found c.args.key)
    ∙ any_key g.K.PartialEq.eq g.met.K.Eq.laws c.args.key c.self.inside.held.entries
    ∙ ap (λ (now : Bounded (Entry _ _)). list_any (has_key g.K.PartialEq.eq c.args.key) (now.part.held)) c.self.view_is

pub invariant_of-self-2 : goal.invariant_of-self-2
invariant_of-self-2 g c =
    (taken g.K.PartialEq.eq g.met.K.Eq.laws c.self.inside.given c.args.key c.in-Some.serial c.self.inside.held.entries c.remove.new.self.entries c.self.inside.serials.entries c.swap_remove.new.self.entries
    c.self.invariant (sym (c.self.invariant.found c.args.key) ∙ sym c.swap_remove.ensures.value ∙ c.in-Some.is)
    c.remove.ensures.entries c.remove.ensures.ordered c.swap_remove.ensures.updates.0).indexed

pub returns-clause-removed : goal.returns-clause-removed
returns-clause-removed g c =
    kept_in _ c.self.inside.given c.self.inside.most c.self.inside.held.entries c.remove.new.self.entries c.args.self.now
    (taken g.K.PartialEq.eq g.met.K.Eq.laws c.self.inside.given c.args.key c.in-Some.serial c.self.inside.held.entries c.remove.new.self.entries c.self.inside.serials.entries c.swap_remove.new.self.entries
    c.self.invariant (sym (c.self.invariant.found c.args.key) ∙ sym c.swap_remove.ensures.value ∙ c.in-Some.is)
    c.remove.ensures.entries c.remove.ensures.ordered c.swap_remove.ensures.updates.0).by_key
    c.self.view_is

pub returns-in_default-clause-removed : goal.returns-in_default-clause-removed
returns-in_default-clause-removed g c = c.self.view_is ∙ none_out (has_key g.K.PartialEq.eq c.args.key) c.args.self.now (sym (returns-in_default-clause-answer g c))
