use Rattle.std.proofs.Common.{map, vec_items, ap, ◌∙◌}
use Rattle.element_tree.specs.Links.{number}
use Rattle.page_model.specs.Shown.{shown_of}
use Rattle.page_state.specs.Views.{PageView}
use Rattle.hit_test.proofs.Chains.{hits_are, there_are}
use Rattle.hit_test.proofs.pages.hits.Goals as goal

pub returns-clause-list : goal.returns-clause-list
returns-clause-list g c =
    hits_are c.hits_shown.result (λ found. map number (vec_items found)) c.args.page.now.world c.args.at c.with_documents-shown.result
    (c.with_documents-shown.ensures ∙ c.geometry.ensures ∙ ap (λ (page : PageView). shown_of page.world) c.refresh_boxes.ensures.same)
    c.hits_shown.ensures.list

pub returns-clause-there : goal.returns-clause-there
returns-clause-there g c =
    there_are c.hits_shown.result (λ found. vec_items found) c.args.page.now.world c.with_documents-shown.result
    (c.with_documents-shown.ensures ∙ c.geometry.ensures ∙ ap (λ (page : PageView). shown_of page.world) c.refresh_boxes.ensures.same)
    c.hits_shown.ensures.there
