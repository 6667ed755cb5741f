use Rattle.std.proofs.Common.{◌<◌, ◌++◌, ◌∷◌, [], List, ap, ◌∙◌, refl, sym, subst, arith, length}
use Rattle.page_model.specs.World.{ResizeObserver}
use Rattle.page_model.specs.Gathering.{is_of}
use Rattle.resize_observer.specs.Held.{IsHeld}
use Rattle.resize_observer.proofs.Counts.{held-made}
use Rattle.resize_observer.proofs.Telling.{places-few}
use Rattle.resize_observer.proofs.observers.Observers.make.Goals as goal

pub note-requires : goal.note-requires
note-requires c =
    omega (arith, c.self.invariant.told.counted c.args.document.0, places-few (is_of c.args.document.0) 0 c.self.inside.made.items, c.len-number.ensures, c.self.inside.made.ok.0)

pub invariant_of-self-2 : goal.invariant_of-self-2
invariant_of-self-2 c =
    let new : ResizeObserver = record { document = c.args.document.0; handler = c.args.handler; targets = []; active = []; skipped = [] } in
    let room : length c.self.inside.made.items < c.self.inside.most_observers = omega (arith, c.if-number-self.false, c.len-number.ensures, c.self.inside.made.ok.0) in
    let pushed =
    c.push_reserved.ensures.items
    ∙ ap (λ (made : List ResizeObserver). made ++ c.new-observer.result ∷ []) c.in-Ok.ensures.items
    ∙ ap (λ (it : ResizeObserver). c.self.inside.made.items ++ it ∷ []) c.new-observer.ensures in
    let told = c.in-Ok-note.ensures.noted c.self.inside.made.items new c.self.invariant.told (omega (arith, c.len-number.ensures, c.self.inside.made.ok.0)) refl in
    subst (λ (made : List ResizeObserver). IsHeld made c.note.new.self c.self.inside.observed c.self.inside.held c.self.inside.most_observers c.self.inside.most_observations) (sym pushed)
    (held-made c.args.document.0 c.args.handler c.note.new.self c.self.invariant room told)
