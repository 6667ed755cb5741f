use Rattle.std.proofs.Common.{Some, option_map, ap, sym, ◌∙◌, refl}
use Rattle.element_tree.specs.Links.{number}
use Rattle.layout_model.specs.Boxes.{content_size}
use Rattle.page_model.specs.PageBoxes.{framed_size, view_of}
use Rattle.page_boxes.specs.Pages.{seen_screen, seen_pair}
use Rattle.page_boxes.proofs.Pages.{framed_by_box}
use Rattle.page_boxes.proofs.documents.framed_size.Goals as goal

pub returns-in-Some-box_below-clause-value : goal.returns-in-Some-box_below-clause-value
returns-in-Some-box_below-clause-value c above fresh =
    let tree = c.args.page.now.tree in
    let screen = seen_screen c.args.screen in
    let held : _ = sym c.frame_of.ensures.value ∙ ap (option_map number) c.in-Some.is in
    ap (λ s. Some (seen_pair s)) (c.size.ensures.content refl)
    ∙ ap (option_map content_size) (c.in-Some-box_below.ensures screen (above (c.in-Some.frame.0) held) (fresh (c.in-Some.frame.0) held))
    ∙ sym (framed_by_box tree screen (c.in-Some.frame.0))
    ∙ ap (framed_size tree screen (view_of tree screen)) (sym held)

pub returns-in-None-clause-value : goal.returns-in-None-clause-value
returns-in-None-clause-value c above fresh =
    let tree = c.args.page.now.tree in
    let screen = seen_screen c.args.screen in
    let held : _ = sym c.frame_of.ensures.value ∙ ap (option_map number) c.in-Some.is in
    ap (option_map content_size) (c.in-None.ensures screen (above (c.in-Some.frame.0) held) (fresh (c.in-Some.frame.0) held))
    ∙ sym (framed_by_box tree screen (c.in-Some.frame.0))
    ∙ ap (framed_size tree screen (view_of tree screen)) (sym held)
