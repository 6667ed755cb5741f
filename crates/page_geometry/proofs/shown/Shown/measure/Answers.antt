use Rattle.std.proofs.Common.{None, subst, ◌∙◌}
use Rattle.page_geometry.specs.declared.documents.FoundDocument.{FoundDocument}
use Rattle.page_geometry.specs.Documents.{ShownIn}
use Rattle.page_geometry.specs.Found.{IsFound}
use Rattle.page_geometry.proofs.shown.Shown.measure.Goals as goal

pub keep-requires-clause-found : goal.keep-requires-clause-found
keep-requires-clause-found c =
    let found : FoundDocument = record { view = c.view-view.result; origin = None } in
    subst (λ (it : ShownIn). IsFound it.shown it.document found) (c.with_offset.ensures ∙ c.in_document.ensures) (record {
      root = c.view-view.ensures.root;
      viewport = c.view-view.ensures.size;
      natural = c.view-view.ensures.range;
      scrolled = c.view-view.ensures.offset;
      begins = tt;
    })
