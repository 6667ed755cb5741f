use Rattle.std.proofs.Common.{ap, sym, ◌∙◌}
use Rattle.std.proofs.lemmas.Bool.{ltb-true}
use Rattle.handlers.specs.declared.entries.Entries.TheVariants.{Resize}
use Rattle.handlers.proofs.Places.{cut_found, entry_found}
use Rattle.handlers.proofs.entries.entry_at.Goals as goal

pub returns-in-Some : goal.returns-in-Some
returns-in-Some c =
    entry_found c.args.entries.now _ c.as_slice.result.now c.args.place c.in-Some.entry.now (c.in-Resize.is ∙ ap (Resize c.in-Resize.field-0) (sym c.as_slice.ensures)) (ltb-true _ _ (sym c.in-Some.ensures.lookup.0)) c.in-Some.ensures.lookup.1

pub returns-in-Some-get : goal.returns-in-Some-get
returns-in-Some-get c =
    cut_found c.args.entries.now c.in-Intersection.field-0 _ c.as_slice-in-Intersection.result.now c.args.place c.in-Some-get.entry.now c.in-Intersection.is c.as_slice-in-Intersection.ensures
    (ltb-true _ _ (sym c.in-Some-get.ensures.lookup.0)) c.in-Some-get.ensures.lookup.1
