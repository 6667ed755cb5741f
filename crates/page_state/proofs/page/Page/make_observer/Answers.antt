-- A resize observer is made with its name.
use Rattle.std.proofs.Common.{◌++◌, ◌∷◌, [], List, ap, ◌∙◌}
use Rattle.page_model.specs.World.{ResizeObserverThing, Name}
use Rattle.page_state.proofs.Inside.{watched_page}
use Rattle.page_state.proofs.page.Page.make_observer.Goals as goal

pub invariant_of-self-2 : goal.invariant_of-self-2
invariant_of-self-2 c =
    watched_page c.self.inside c.insert.new.self c.make.new.self c.args.name c.in_ok-document.document.0 c.in-Ok.observer.0 c.in_ok-handler.handler c.self.invariant
    (c.in_ok-insert.ensures.given ∙ ap (λ (list : List Name). list ++ record { text = c.args.name; thing = ResizeObserverThing c.in-Ok.observer.0 } ∷ []) c.in_ok-reserve.ensures.same)
    c.in-Ok.ensures.observer c.in-Ok.ensures.made
