use Rattle.std.proofs.Common.{◌∙◌}
use Rattle.event_tables.specs.Seen.{seen_target, seen_listener}
use Rattle.page_model.specs.Listeners.{hears}
use Rattle.event_tables.proofs.Seen.{read_of}
use Rattle.event_tables.proofs.listeners.Listeners.begin_dispatch.Goals as goal

pub returns : goal.returns
returns c =
    c.in_ok-left.ensures
    ∙ read_of seen_listener (hears (seen_target c.args.target) c.args.kind) c.self.inside.entries c.args.self.now _ c.held.ensures c.self.view_is
