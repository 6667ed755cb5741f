use Rattle.std.proofs.Common.{◌∙◌, ap}
use Rattle.std.specs.Prelude.{is_some}
use Rattle.std.specs.List.{list_any}
use Rattle.event_tables.specs.Entries.{Entry, has_key}
use Rattle.event_tables.specs.Tables.{Bounded}
use Rattle.event_tables.proofs.Indexed.{any_key}
use Rattle.event_tables.proofs.entries.Entries.has_key.Goals as goal

pub returns : goal.returns
returns g c =
    c.contains_key.ensures ∙ ap is_some (c.self.invariant.found c.args.key)
    ∙ any_key g.K.PartialEq.eq g.met.K.Eq.laws c.args.key c.self.inside.held.entries
    ∙ ap (λ (now : Bounded (Entry _ _)). list_any (has_key g.K.PartialEq.eq c.args.key) (now.part.held)) c.self.view_is
