use Rattle.std.proofs.Common.{sym, ◌∙◌}
use Rattle.frame_update.proofs.Turns.{none_active, some_active}
use Rattle.frame_update.proofs.rounds.gather.Goals as goal

pub returns-then-gather-eq0-clause-active : goal.returns-then-gather-eq0-clause-active
returns-then-gather-eq0-clause-active g c =
    none_active _ _ _ (c.something_is_active_where_it_is_counted.ensures c.gather.new.self.world.resize_observers c.args.document.0) (sym c.if-gather-eq0.true ∙ c.gather.ensures.number)

pub returns-clause-active : goal.returns-clause-active
returns-clause-active g c =
    some_active _ _ _ (c.something_is_active_where_it_is_counted.ensures c.gather.new.self.world.resize_observers c.args.document.0) (λ none. c.if-gather-eq0.false (c.gather.ensures.number ∙ sym none))
