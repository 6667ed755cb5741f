use Rattle.std.proofs.Common.{◌∙◌, ap, sym, subst}
use Rattle.std.specs.Prelude.{cond, Some, Result, OnOk}
use Rattle.std.specs.List.{list_any}
use Rattle.std.specs.Map.{lookup}
use Rattle.indexmap.specs.IndexMap.{Updates}
use Rattle.event_tables.specs.Entries.{Entry, has_key}
use Rattle.event_tables.specs.Tables.{Bounded}
use Rattle.event_tables.proofs.Indexed.{entered, entered_in, entered_last}
use Rattle.event_tables.proofs.entries.Entries.enter.Goals as goal

pub invariant_of-self-2 : goal.invariant_of-self-2
invariant_of-self-2 g c =
    let put : Updates g.K.PartialEq.eq c.reserve.new.self c.insert-2.new.self c.args.key (Some c.self.inside.given) =
    subst (λ (r : Result _ _). OnOk r (Updates g.K.PartialEq.eq c.reserve.new.self c.insert-2.new.self c.args.key (Some c.self.inside.given))) c.unwrap.ensures c.insert-2.ensures.updates in
    entered g.K.PartialEq.eq g.met.K.Eq.laws c.self.inside.given c.args.key c.args.value c.self.inside.held.entries c.insert.new.self.entries c.self.inside.serials.entries c.insert-2.new.self.entries
    c.self.invariant
    (ap (λ (now : Bounded (Entry _ _)). list_any (has_key g.K.PartialEq.eq c.args.key) (now.part.held)) c.self.view_is ∙ sym c.has_key.ensures ∙ c.if-has_key.false)
    c.in-Ok-insert.ensures.entries c.insert.ensures.ordered
    (λ other. put.0 other ∙ ap (λ serials. cond (g.K.PartialEq.eq c.args.key other) (Some c.self.inside.given) (lookup (g.K.PartialEq.eq other) serials)) c.reserve.ensures.entries)

pub returns-clause-entered : goal.returns-clause-entered
returns-clause-entered g c =
    entered_in (λ serial. (serial, (c.args.key, c.args.value))) c.self.inside.given c.self.inside.most c.self.inside.held.entries c.insert.new.self.entries c.args.self.now
    (c.in-Ok-insert.ensures.entries ∙ entered_last c.self.inside.given (c.args.key, c.args.value) c.self.inside.held.entries c.self.invariant.below)
    c.self.view_is
