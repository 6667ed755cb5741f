use Rattle.std.proofs.Common.{option_map, ap, ◌∙◌, unsigned_abs}
use Rattle.px_units.specs.declared.Px.{Px}
use Rattle.page_model.specs.Edits.{set_dimension}
use Rattle.style_values.specs.Seen.{seen_axis}
use Rattle.page_tree.proofs.Growing.{grow_refused, grow_done}
use Rattle.page_tree.proofs.page.PageTree.grow.Goals as goal

pub returns-in_default-clause-refused : goal.returns-in_default-clause-refused
returns-in_default-clause-refused c = grow_refused (c.args.self.now.tree) (seen_axis c.args.axis) (c.args.node.0) (c.args.by.0)
    (option_map (λ (px : Px). unsigned_abs px.0) c.pixels.result) (c.pixels.ensures.value)
    (ap (λ found. option_map (λ (px : Px). unsigned_abs px.0) found) c.in_default.is)

pub returns-clause-done : goal.returns-clause-done
returns-clause-done c = grow_done (c.args.self.now.tree) (seen_axis c.args.axis) (c.args.node.0) (c.args.by.0)
    (option_map (λ (px : Px). unsigned_abs px.0) c.pixels.result) (unsigned_abs (c.in-Some.units.0)) (c.pixels.ensures.value)
    (ap (λ found. option_map (λ (px : Px). unsigned_abs px.0) found) c.in-Some.is)
    _ (c.in_pixels.ensures.value ∙ ap (set_dimension (seen_axis c.args.axis)) c.grown.ensures.value)
    (c.set.new.self.tree) (c.set.ensures.done)
