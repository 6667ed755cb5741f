use Rattle.std.proofs.Common.{◌≤◌, ◌-◌, subst, arith}
use Rattle.layout_model.specs.Boxes.{computed, inner}
use Rattle.layout_model.proofs.Limits.{edges_across, edges_down, width_least, width_most, height_least, height_most}
use Rattle.layout_model.proofs.laws.used_sizes_keep_their_limits.Goals as goal

pub returns-clause-least_content_width : goal.returns-clause-least_content_width
returns-clause-least_content_width c item inputs inside least sizing is =
    subst (λ s. inner s (edges_across (computed item inputs inside)) least ≤ (computed item inputs inside).width) sizing (width_least item inputs inside least is)

pub returns-clause-most_content_width : goal.returns-clause-most_content_width
returns-clause-most_content_width c item inputs inside least most limit sizing is top bottom order =
    subst (λ s. (computed item inputs inside).width ≤ inner s (edges_across (computed item inputs inside)) most) sizing (width_most item inputs inside least most limit is top bottom order)

pub returns-clause-least_border_width : goal.returns-clause-least_border_width
returns-clause-least_border_width c item inputs inside least sizing is =
    let low : least - (edges_across (computed item inputs inside)) ≤ (computed item inputs inside).width = subst (λ s. inner s (edges_across (computed item inputs inside)) least ≤ (computed item inputs inside).width) sizing (width_least item inputs inside least is) in omega arith

pub returns-clause-most_border_width : goal.returns-clause-most_border_width
returns-clause-most_border_width c item inputs inside least most limit sizing is top bottom order room =
    let high : (computed item inputs inside).width ≤ most - (edges_across (computed item inputs inside)) = subst (λ s. (computed item inputs inside).width ≤ inner s (edges_across (computed item inputs inside)) most) sizing (width_most item inputs inside least most limit is top bottom order) in omega arith

pub returns-clause-least_content_height : goal.returns-clause-least_content_height
returns-clause-least_content_height c item inputs inside least sizing is =
    subst (λ s. inner s (edges_down (computed item inputs inside)) least ≤ (computed item inputs inside).height) sizing (height_least item inputs inside least is)

pub returns-clause-most_content_height : goal.returns-clause-most_content_height
returns-clause-most_content_height c item inputs inside least most limit sizing is top bottom order =
    subst (λ s. (computed item inputs inside).height ≤ inner s (edges_down (computed item inputs inside)) most) sizing (height_most item inputs inside least most limit is top bottom order)

pub returns-clause-least_border_height : goal.returns-clause-least_border_height
returns-clause-least_border_height c item inputs inside least sizing is =
    let low : least - (edges_down (computed item inputs inside)) ≤ (computed item inputs inside).height = subst (λ s. inner s (edges_down (computed item inputs inside)) least ≤ (computed item inputs inside).height) sizing (height_least item inputs inside least is) in omega arith

pub returns-clause-most_border_height : goal.returns-clause-most_border_height
returns-clause-most_border_height c item inputs inside least most limit sizing is top bottom order room =
    let high : (computed item inputs inside).height ≤ most - (edges_down (computed item inputs inside)) = subst (λ s. (computed item inputs inside).height ≤ inner s (edges_down (computed item inputs inside)) most) sizing (height_most item inputs inside least most limit is top bottom order) in omega arith
