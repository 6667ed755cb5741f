use Rattle.std.proofs.Common.{◌∙◌, ap}
use Rattle.std.specs.Prelude.{◌==◌}
use Rattle.std.specs.List.{list_any}
use Rattle.event_tables.specs.Entries.{Entry}
use Rattle.event_tables.specs.Tables.{Bounded}
use Rattle.event_tables.proofs.Indexed.{any_serial}
use Rattle.event_tables.proofs.entries.Entries.has_serial.Goals as goal

pub returns : goal.returns
returns g c =
    c.contains_key.ensures ∙ any_serial c.args.serial c.self.inside.held.entries
    ∙ ap (λ (now : Bounded (Entry _ _)). list_any (λ (entry : Entry _ _). entry.0 == c.args.serial) (now.part.held)) c.self.view_is
