use Rattle.std.proofs.Common.{None, option_map, refl, ap, sym, ◌∙◌, arith}
use Rattle.element_tree.specs.Links.{number}
use Rattle.page_model.specs.Lookups.{document_at}
use Rattle.layout_model.specs.Boxes.{inputs_in}
use Rattle.layout_model.specs.Views.{View}
use Rattle.page_model.specs.PageBoxes.{framed_size, view_of, inputs_of}
use Rattle.block_layout.specs.Seen.{seen_inputs}
use Rattle.block_layout.specs.Trees.{layout_tree}
use Rattle.block_layout.proofs.Nodes.{parent_is}
use Rattle.kept_layout.specs.Due.{due_count as due_count_with}
use Rattle.kept_layout.specs.Slots.{slot_in}
use Rattle.page_tree.specs.Items.{style_in, kind_in}
use Rattle.page_boxes.specs.Pages.{seen_screen, seen_pair}
use Rattle.page_boxes.proofs.Pages.{count_here}
use Rattle.page_boxes.proofs.Undue.{fills_none, fills_fresh}
use Rattle.page_boxes.proofs.Renewed.{no_root, rootless_here, rootless_laid_out, laid_out_here, others_here, kept_here, view_shown, inputs_inside, unboxed_here, ready_before, left_here}
use Rattle.page_boxes.proofs.layout.lay_out.Goals as goal

-- a document that shows nothing
pub returns-in_default-clause-laid_out : goal.returns-in_default-clause-laid_out
returns-in_default-clause-laid_out g c =
    let tree = c.args.page.now.tree in
    let screen = seen_screen c.args.screen in
    let found = framed_size tree screen (view_of tree screen) (document_at tree c.args.document.0).frame in
    let none = sym c.root.ensures.value ∙ ap (option_map number) c.in_default.is in
    rootless_laid_out tree screen c.args.document.0
    (rootless_here tree c.root.ensures.framed screen c.args.document.0 c.requires.active found refl (no_root (document_at tree c.args.document.0).root found none))
    c.args.boxes.now

pub returns-in_default-framed_size-clause-laid_out : goal.returns-in_default-framed_size-clause-laid_out
returns-in_default-framed_size-clause-laid_out g c =
    let tree = c.args.page.now.tree in
    let screen = seen_screen c.args.screen in
    rootless_laid_out tree screen c.args.document.0
    (rootless_here tree c.root.ensures.framed screen c.args.document.0 c.requires.active None (c.in_default-framed_size.ensures.value c.requires.around c.requires.above) refl)
    c.args.boxes.now

pub returns-in_default-clause-shown : goal.returns-in_default-clause-shown
returns-in_default-clause-shown g c =
    let tree = c.args.page.now.tree in
    let screen = seen_screen c.args.screen in
    let found = framed_size tree screen (view_of tree screen) (document_at tree c.args.document.0).frame in
    let none = sym c.root.ensures.value ∙ ap (option_map number) c.in_default.is in
    sym (rootless_here tree c.root.ensures.framed screen c.args.document.0 c.requires.active found refl (no_root (document_at tree c.args.document.0).root found none))

pub returns-in_default-framed_size-clause-shown : goal.returns-in_default-framed_size-clause-shown
returns-in_default-framed_size-clause-shown g c =
    sym (rootless_here c.args.page.now.tree c.root.ensures.framed (seen_screen c.args.screen) c.args.document.0 c.requires.active None
    (c.in_default-framed_size.ensures.value c.requires.around c.requires.above) refl)

pub returns-clause-shown : goal.returns-clause-shown
returns-clause-shown g c =
    let tree = c.args.page.now.tree in
    let pair = seen_pair c.in-Some-framed_size.size in
    let shown = c.in-Some-framed_size.ensures.value c.requires.around c.requires.above in
    let rooted = sym c.root.ensures.value ∙ ap (option_map number) c.in-Some.is in
    sym (ap (λ (view : View). view.root) (view_shown tree c.root.ensures.framed (seen_screen c.args.screen) c.args.document.0 c.requires.active pair shown
    (layout_tree style_in kind_in c.tree.result.now.nodes) c.tree.ensures.nodes c.in-Some.root.0 rooted))

-- the tree of its root element
pub refresh-requires-clause-node : goal.refresh-requires-clause-node
refresh-requires-clause-node g c =
    let known = c.in-Some.ensures.held in
    omega (arith, count_here c.args.page.now c.tree.result.now c.tree.ensures.value)

pub refresh-requires-clause-top : goal.refresh-requires-clause-top
refresh-requires-clause-top g c =
    let rooted = sym c.root.ensures.value ∙ ap (option_map number) c.in-Some.is in
    sym (parent_is style_in kind_in c.tree.result.now.nodes c.in-Some.root.0)
    ∙ ap (λ at. (at c.in-Some.root.0).parent) (sym c.tree.ensures.nodes)
    ∙ c.root.ensures.alone c.in-Some.root.0 rooted

pub returns-clause-laid_out : goal.returns-clause-laid_out
returns-clause-laid_out g c =
    let tree = c.args.page.now.tree in
    let framed = c.root.ensures.framed in
    let screen = seen_screen c.args.screen in
    let pair = seen_pair c.in-Some-framed_size.size in
    let shown = c.in-Some-framed_size.ensures.value c.requires.around c.requires.above in
    let at = layout_tree style_in kind_in c.tree.result.now.nodes in
    let rooted = sym c.root.ensures.value ∙ ap (option_map number) c.in-Some.is in
    let ready = ready_before tree framed screen c.args.document.0 c.requires.active pair shown at c.tree.ensures.nodes c.in-Some.root.0 rooted
    c.args.boxes.now c.requires.kept in
    laid_out_here tree framed screen c.args.document.0 c.requires.active pair shown at c.tree.ensures.nodes c.in-Some.root.0 rooted
    _ c.root_inputs.ensures.seen c.refresh.new.self (c.refresh.ensures.fresh ready) (c.refresh.ensures.done ready)

pub returns-clause-others : goal.returns-clause-others
returns-clause-others g c =
    let tree = c.args.page.now.tree in
    let framed = c.root.ensures.framed in
    let screen = seen_screen c.args.screen in
    let pair = seen_pair c.in-Some-framed_size.size in
    let shown = c.in-Some-framed_size.ensures.value c.requires.around c.requires.above in
    let at = layout_tree style_in kind_in c.tree.result.now.nodes in
    let rooted = sym c.root.ensures.value ∙ ap (option_map number) c.in-Some.is in
    others_here tree framed screen c.args.document.0 c.requires.active pair shown at c.tree.ensures.nodes c.in-Some.root.0 rooted
    _ c.root_inputs.ensures.seen c.args.boxes.now c.refresh.new.self c.refresh.ensures.others

pub returns-clause-left : goal.returns-clause-left
returns-clause-left g c =
    let tree = c.args.page.now.tree in
    let framed = c.root.ensures.framed in
    let screen = seen_screen c.args.screen in
    let pair = seen_pair c.in-Some-framed_size.size in
    let shown = c.in-Some-framed_size.ensures.value c.requires.around c.requires.above in
    let at = layout_tree style_in kind_in c.tree.result.now.nodes in
    let rooted = sym c.root.ensures.value ∙ ap (option_map number) c.in-Some.is in
    left_here tree framed screen c.args.document.0 c.requires.active pair shown at c.tree.ensures.nodes c.in-Some.root.0 rooted
    _ c.root_inputs.ensures.seen c.args.boxes.now c.refresh.new.self c.refresh.ensures.others

pub returns-clause-unboxed : goal.returns-clause-unboxed
returns-clause-unboxed g c =
    let tree = c.args.page.now.tree in
    let framed = c.root.ensures.framed in
    let screen = seen_screen c.args.screen in
    let pair = seen_pair c.in-Some-framed_size.size in
    let shown = c.in-Some-framed_size.ensures.value c.requires.around c.requires.above in
    let at = layout_tree style_in kind_in c.tree.result.now.nodes in
    let rooted = sym c.root.ensures.value ∙ ap (option_map number) c.in-Some.is in
    unboxed_here tree framed screen c.args.document.0 c.requires.active pair shown at c.tree.ensures.nodes c.in-Some.root.0 rooted
    _ c.root_inputs.ensures.seen c.args.boxes.now c.refresh.new.self c.refresh.ensures.others

pub returns-clause-kept : goal.returns-clause-kept
returns-clause-kept g c =
    let tree = c.args.page.now.tree in
    let framed = c.root.ensures.framed in
    let screen = seen_screen c.args.screen in
    let pair = seen_pair c.in-Some-framed_size.size in
    let shown = c.in-Some-framed_size.ensures.value c.requires.around c.requires.above in
    let at = layout_tree style_in kind_in c.tree.result.now.nodes in
    let rooted = sym c.root.ensures.value ∙ ap (option_map number) c.in-Some.is in
    let ready = ready_before tree framed screen c.args.document.0 c.requires.active pair shown at c.tree.ensures.nodes c.in-Some.root.0 rooted
    c.args.boxes.now c.requires.kept in
    kept_here tree framed screen c.args.document.0 c.requires.active pair shown at c.tree.ensures.nodes c.in-Some.root.0 rooted
    _ c.root_inputs.ensures.seen c.args.boxes.now c.refresh.new.self c.refresh.ensures.others c.requires.kept c.refresh.ensures.slots (c.refresh.ensures.ready ready)

pub returns-clause-ticks : goal.returns-clause-ticks
returns-clause-ticks g c =
    let tree = c.args.page.now.tree in
    let framed = c.root.ensures.framed in
    let screen = seen_screen c.args.screen in
    let pair = seen_pair c.in-Some-framed_size.size in
    let shown = c.in-Some-framed_size.ensures.value c.requires.around c.requires.above in
    let at = layout_tree style_in kind_in c.tree.result.now.nodes in
    let rooted = sym c.root.ensures.value ∙ ap (option_map number) c.in-Some.is in
    let ready = ready_before tree framed screen c.args.document.0 c.requires.active pair shown at c.tree.ensures.nodes c.in-Some.root.0 rooted
    c.args.boxes.now c.requires.kept in
    let paid = c.refresh.ensures.paid ready (inputs_of tree screen)
    (inputs_inside tree framed screen c.args.document.0 c.requires.active pair shown at c.tree.ensures.nodes c.in-Some.root.0 rooted _ c.root_inputs.ensures.seen) in
    let same = ap (due_count_with (inputs_of tree screen) (slot_in c.refresh.new.self)) c.refresh.ensures.slots in
    omega (arith, paid, same)

-- what it leaves of what is kept
pub returns-in_default-clause-fills : goal.returns-in_default-clause-fills
returns-in_default-clause-fills g c = fills_none c.args.boxes.now

pub returns-in_default-framed_size-clause-fills : goal.returns-in_default-framed_size-clause-fills
returns-in_default-framed_size-clause-fills g c = fills_none c.args.boxes.now

pub returns-clause-fills : goal.returns-clause-fills
returns-clause-fills g c =
    let tree = c.args.page.now.tree in
    let pair = seen_pair c.in-Some-framed_size.size in
    let shown = c.in-Some-framed_size.ensures.value c.requires.around c.requires.above in
    let at = layout_tree style_in kind_in c.tree.result.now.nodes in
    let rooted = sym c.root.ensures.value ∙ ap (option_map number) c.in-Some.is in
    let ready = ready_before tree c.root.ensures.framed (seen_screen c.args.screen) c.args.document.0 c.requires.active pair shown at c.tree.ensures.nodes c.in-Some.root.0 rooted
    c.args.boxes.now c.requires.kept in
    fills_fresh at (inputs_in at c.in-Some.root.0 (seen_inputs c.root_inputs.result)) c.args.boxes.now c.refresh.new.self c.refresh.ensures.others (c.refresh.ensures.fresh ready)
