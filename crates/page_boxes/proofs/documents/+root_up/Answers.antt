use Rattle.std.proofs.Common.{◌-◌, option_map, ap, sym, ◌∙◌, arith}
use Rattle.std.specs.Prelude.{is_some}
use Rattle.layout_model.specs.Views.{View, inputs_in_view}
use Rattle.page_model.specs.Documents.{nodes_of}
use Rattle.page_model.specs.PageBoxes.{view_up}
use Rattle.element_tree.specs.Links.{number}
use Rattle.block_layout.specs.Trees.{layout_tree}
use Rattle.page_tree.specs.Items.{style_in, kind_in}
use Rattle.page_boxes.proofs.Pages.{count_here}
use Rattle.page_boxes.proofs.Views.{view_none, view_idle, root_unframed, root_framed, frame_known}
use Rattle.page_boxes.proofs.documents.+root_up.Goals as goal

pub returns-then-high-eq0 : goal.returns-then-high-eq0
returns-then-high-eq0 t c screen = sym (ap (λ (view : View). view.root) (view_none c.args.page.now.tree screen c.args.high c.args.document.0 c.if-high-eq0.true))

pub returns-then-not-is_active : goal.returns-then-not-is_active
returns-then-not-is_active t c screen =
    sym (ap (λ (view : View). view.root) (view_idle c.args.page.now.tree screen c.args.high c.args.document.0 (sym c.is_active.ensures.value ∙ c.if-not-is_active.true)))

pub returns-in_default : goal.returns-in_default
returns-in_default t c screen =
    c.root-root.ensures.value
    ∙ sym (root_unframed c.args.page.now.tree screen c.args.high (c.args.high - 1) c.args.document.0 (omega arith)
    (sym c.is_active.ensures.value ∙ c.if-not-is_active.false) (sym c.frame_of.ensures.value ∙ ap (option_map number) c.in_default.is))

pub is_boxed-requires : goal.is_boxed-requires
is_boxed-requires t c =
    let known = frame_known c.args.page.now.tree c.tree.ensures.framed c.args.document.0 (c.in-Some.frame.0) (sym c.frame_of.ensures.value ∙ ap (option_map number) c.in-Some.is) in
    omega (arith, known, count_here c.args.page.now c.tree.result.now c.tree.ensures.value)

pub returns-then-is_boxed : goal.returns-then-is_boxed
returns-then-is_boxed t c screen =
    let tree = c.args.page.now.tree in
    let at = layout_tree style_in kind_in c.tree.result.now.nodes in
    let boxed = sym (c.is_boxed.ensures (view_up (c.args.high - 1) tree screen c.document_of.result.0) (sym (c.root_up-around.ensures screen))) ∙ c.if-is_boxed.true in
    c.root-root.ensures.value
    ∙ sym (root_framed tree screen c.args.high (c.args.high - 1) c.args.document.0 (omega arith) (sym c.is_active.ensures.value ∙ c.if-not-is_active.false)
    (c.in-Some.frame.0) (sym c.frame_of.ensures.value ∙ ap (option_map number) c.in-Some.is) _
    (ap (λ d. is_some (inputs_in_view (nodes_of tree) (view_up (c.args.high - 1) tree screen d) (c.in-Some.frame.0))) (sym c.document_of.ensures)
    ∙ ap (λ at. is_some (inputs_in_view at (view_up (c.args.high - 1) tree screen c.document_of.result.0) (c.in-Some.frame.0))) c.tree.ensures.nodes ∙ boxed))

pub returns-else-is_boxed : goal.returns-else-is_boxed
returns-else-is_boxed t c screen =
    let tree = c.args.page.now.tree in
    let at = layout_tree style_in kind_in c.tree.result.now.nodes in
    let boxed = sym (c.is_boxed.ensures (view_up (c.args.high - 1) tree screen c.document_of.result.0) (sym (c.root_up-around.ensures screen))) ∙ c.if-is_boxed.false in
    sym (root_framed tree screen c.args.high (c.args.high - 1) c.args.document.0 (omega arith) (sym c.is_active.ensures.value ∙ c.if-not-is_active.false)
    (c.in-Some.frame.0) (sym c.frame_of.ensures.value ∙ ap (option_map number) c.in-Some.is) _
    (ap (λ d. is_some (inputs_in_view (nodes_of tree) (view_up (c.args.high - 1) tree screen d) (c.in-Some.frame.0))) (sym c.document_of.ensures)
    ∙ ap (λ at. is_some (inputs_in_view at (view_up (c.args.high - 1) tree screen c.document_of.result.0) (c.in-Some.frame.0))) c.tree.ensures.nodes ∙ boxed))
