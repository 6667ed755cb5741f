use Rattle.std.proofs.Common.{ap, sym, ◌∙◌}
use Rattle.layout_model.specs.Boxes.{child_inputs, box_in, inputs_held}
use Rattle.layout_model.proofs.Holders.{out_of_flow_on_screen}
use Rattle.layout_model.proofs.Inputs.{inputs_are, inputs_on_page, inputs_on_screen, inputs_of_top, inputs_of_child, inputs_of_held}
use Rattle.layout_model.proofs.laws.inputs_go_down.Goals as goal

pub returns-clause-root : goal.returns-clause-root
returns-clause-root c at root viewport inputs n top found = inputs_are at root viewport inputs n found ∙ inputs_of_top at viewport n top

pub returns-clause-flow : goal.returns-clause-flow
returns-clause-flow c at shallow root viewport inputs above n p is flow found over =
    inputs_are at root viewport inputs n found
    ∙ inputs_of_child at shallow viewport n p is flow
    ∙ ap (child_inputs ((at p).item)) (sym (inputs_are at root viewport above p over))

pub returns-clause-element : goal.returns-clause-element
returns-clause-element c at shallow root viewport inputs above n h flow is found over =
    inputs_are at root viewport inputs n found
    ∙ inputs_of_held at shallow viewport n h flow is
    ∙ ap (λ i. inputs_held (box_in at i h)) (sym (inputs_are at root viewport above h over))

pub returns-clause-page : goal.returns-clause-page
returns-clause-page c at root viewport inputs n flow is found =
    inputs_are at root viewport inputs n found ∙ inputs_on_page at viewport n is ∙ ap (λ f. record viewport { flow = f }) flow

pub returns-clause-screen : goal.returns-clause-screen
returns-clause-screen c at root viewport inputs n is found =
    inputs_are at root viewport inputs n found ∙ inputs_on_screen at viewport n is ∙ ap (λ f. record viewport { flow = f }) (out_of_flow_on_screen at n is)
