use Rattle.std.proofs.Common.{◌≡◌, Some, None, option_map, ap, sym, ◌∙◌}
use Rattle.element_tree.specs.Links.{number}
use Rattle.page_model.specs.Lookups.{element_at}
use Rattle.page_model.specs.PageBoxes.{view_of}
use Rattle.page_geometry.proofs.shown.Shown.root_above.Goals as goal

pub returns-in-Some : goal.returns-in-Some
returns-in-Some c frame is =
    let tree = c.args.self.now.tree in
    let there = sym c.frame_of.ensures ∙ ap (option_map number) c.in-Some.is in
    let same : c.in-Some.frame.0 ≡ frame = cc (sym there ∙ is) in
    c.root_of.ensures ∙ ap (λ d. (view_of tree c.args.self.now.screen d).root) (c.document_of.ensures ∙ ap (λ n. (element_at tree n).document) same)

pub returns-in-None : goal.returns-in-None
returns-in-None c frame is =
    let nothing : None ≡ Some frame = sym (sym c.frame_of.ensures ∙ ap (option_map number) c.in-None.is) ∙ is in cc
