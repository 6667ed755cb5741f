use Rattle.page_geometry.proofs.shown.Shown.place.Goals as goal

pub keep-requires-clause-found : goal.keep-requires-clause-found
keep-requires-clause-found c = record {
  root = c.view_of-view.ensures.root;
  viewport = c.view_of-view.ensures.size;
  natural = c.view_of-view.ensures.range;
  scrolled = c.view_of-view.ensures.offset;
  begins = record { value = c.origin.ensures.value; range = c.origin.ensures.range };
}
