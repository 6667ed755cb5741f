use Rattle.std.proofs.Common.{◌≡◌, ◌<◌, ◌∙◌, Some, sym, subst, arith, length}
use Rattle.std.specs.Prelude.{slice_get}
use Rattle.page_model.specs.Gathering.{is_of}
use Rattle.resize_observer.specs.Documents.{numbers_of}
use Rattle.resize_observer.specs.Observers.{HeldObservers}
use Rattle.resize_observer.proofs.Counts.{limited}
use Rattle.resize_observer.proofs.Telling.{places-within}
use Rattle.resize_observer.proofs.observers.Observers.of_document.Goals as goal

pub returns-clause-made : goal.returns-clause-made
returns-clause-made c =
    let is : slice_get (numbers_of c.args.document.0 c.self.inside.made.items) c.args.place ≡ Some c.in_ok-number.number =
    sym (c.self.invariant.told.found c.args.document.0 c.args.place) ∙ sym c.in_ok-number.ensures in
    let below : c.in_ok-number.number < length c.self.inside.made.items =
    omega (arith, places-within (is_of c.args.document.0) 0 c.self.inside.made.items c.args.place c.in_ok-number.number is) in
    subst (λ (it : HeldObservers). c.in_ok-number.number < length it.part.made) c.self.view_is below

pub returns-in_err-number-clause-limits : goal.returns-in_err-number-clause-limits
returns-in_err-number-clause-limits c = limited c.self.view_is c.self.invariant

pub returns-clause-limits : goal.returns-clause-limits
returns-clause-limits c = limited c.self.view_is c.self.invariant
