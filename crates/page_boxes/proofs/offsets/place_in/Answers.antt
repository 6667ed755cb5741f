use Rattle.std.proofs.Common.{◌≤◌, length, refl, ap, ◌∙◌, arith}
use Rattle.std.proofs.lemmas.Bool.Decides.{nat_tests}
use Rattle.std.specs.Prelude.{unsigned_abs}
use Rattle.page_model.specs.PageBoxes.{stored_in, point_of}
use Rattle.block_layout.specs.Trees.{layout_tree}
use Rattle.kept_layout.proofs.Missing.{unboxed_past}
use Rattle.page_boxes.proofs.Pages.{as_pair, place_pair, shift_pair}
use Rattle.page_boxes.proofs.Shown.{place_found}
use Rattle.page_boxes.proofs.offsets.place_in.Goals as goal

pub returns-then-not-holds-clause-value : goal.returns-then-not-holds-clause-value
returns-then-not-holds-clause-value g c inside shift sized holds known boxed forced =
    let past : length c.args.tree.now.nodes ≤ c.args.node.0 = grind (arith, nat_tests, c.holds.ensures.value, c.if-not-holds.true) in
    absurd (unboxed_past g.P.Styled.style g.P.Styled.kind c.holds.ensures.forest inside (c.args.node.0) past boxed)

pub returns-clause-value : goal.returns-clause-value
returns-clause-value g c inside shift sized holds known boxed forced =
    let at = layout_tree g.P.Styled.style g.P.Styled.kind c.args.tree.now.nodes in
    let left = unsigned_abs c.args.view.left in
    let top = unsigned_abs c.args.view.top in
    c.moved_back.ensures.value
    ∙ ap point_of
    (place_found at (stored_in c.args.scrolls.now) inside shift c.args.node.0
    (c.flat_place_of-place.result.left, c.flat_place_of-place.result.top) c.scrolled-scrolled.result.on_screen
    (c.scrolled-scrolled.result.shift.across, c.scrolled-scrolled.result.shift.down) (c.view_shift.result.across, c.view_shift.result.down) left top
    (place_pair c.flat_place_of-place.result _
    (c.flat_place_of-place.ensures.value inside sized (record { boxed = boxed; path = λ m inputs within is. holds.boxes m inputs is })))
    c.scrolled-scrolled.ensures.ends
    (c.scrolled-scrolled.ensures.value inside sized holds known boxed)
    (as_pair c.args.view _ forced left top refl refl)
    (shift_pair c.scrolled-scrolled.result.on_screen left top c.view_shift.result.across c.view_shift.result.down c.view_shift.ensures.left c.view_shift.ensures.top))
