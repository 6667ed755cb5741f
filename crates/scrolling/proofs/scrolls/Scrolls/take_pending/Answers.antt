use Rattle.std.proofs.Common.{List, sym, subst}
use Rattle.std.specs.Prelude.{map}
use Rattle.page_model.specs.World.{Container}
use Rattle.scrolling.specs.Positions.{seen_position}
use Rattle.scrolling.specs.Held.{HasNoDoubles, IsHeld}
use Rattle.scrolling.proofs.Keeping.{taken-held, pending-distinct}
use Rattle.scrolling.proofs.scrolls.Scrolls.take_pending.Goals as goal

pub invariant_of-self : goal.invariant_of-self
invariant_of-self c =
    subst
    (λ (pending : List (List Container)). IsHeld (record { elements = map seen_position c.self.inside.elements.items; documents = map seen_position c.self.inside.documents.items; pending = pending }))
    (sym c.take_list.ensures.taken)
    (taken-held _ c.args.document.0 c.self.invariant)

pub returns-clause-distinct : goal.returns-clause-distinct
returns-clause-distinct c = subst HasNoDoubles (sym c.take_list.ensures.value) (pending-distinct _ c.args.document.0 c.self.invariant)
