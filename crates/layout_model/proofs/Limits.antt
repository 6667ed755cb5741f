-- The maximum and the minimum of a size.
use Rattle.std.proofs.Common.{◌≡◌, ◌<◌, ◌≤◌, ℕ, ◌+◌, ◌-◌, min, max, Option, Some, None, ap, sym, subst, ◌∙◌, refl, arith}
use Rattle.std.proofs.lemmas.Int.{ints}
use Rattle.std.specs.Prelude.{true, false, not, ◌&&◌, is_some, cond, option_map, option_and_then, unwrap_or, ℤ, pos, negsuc, ◌+ℤ◌, ◌-ℤ◌, ◌≤ℤ◌}
use Rattle.px_units.specs.Lengths.{LengthValue, Automatic, Pixels, Percentage, cap, at_least_zero}
use Rattle.layout_model.specs.Styles.{Sides, BoxSizing, ContentBox, BorderBox}
use Rattle.layout_model.specs.Items.{Item, BlockKind}
use Rattle.layout_model.specs.Boxes.{Inputs, Box, computed, automatic_width, automatic_height, left_between, is_stretched, used_insets, against, inner, limited, used_along}

against_capped : (length : LengthValue) (basis : Option ℕ) (value : ℕ) → against length basis ≡ Some value → value ≤ 2147483647
against_capped Automatic basis value is = subst (λ o. unwrap_or o 0 ≤ 2147483647) is (omega arith)
against_capped (Pixels units) basis value is = subst (λ o. unwrap_or o 0 ≤ 2147483647) is (omega arith)
against_capped (Percentage hundredths) None value is = subst (λ o. unwrap_or o 0 ≤ 2147483647) is (omega arith)
against_capped (Percentage hundredths) (Some basis) value is = subst (λ o. unwrap_or o 0 ≤ 2147483647) is (omega arith)

pub inner_less : (sizing : BoxSizing) (edges size : ℕ) → inner sizing edges size ≤ size
inner_less ContentBox edges size = omega arith
inner_less BorderBox edges size = omega arith

inner_order : (sizing : BoxSizing) (edges a b : ℕ) → a ≤ b → inner sizing edges a ≤ inner sizing edges b
inner_order ContentBox edges a b low = omega arith
inner_order BorderBox edges a b low = omega arith

pub along_least : (sizing : BoxSizing) (edges : ℕ) (basis : Option ℕ) (size least : LengthValue) (most : Option LengthValue) (automatic value : ℕ) → against least basis ≡ Some value → inner sizing edges value ≤ used_along sizing edges basis size least most automatic
along_least sizing edges basis size least most automatic value is =
    subst
    (λ o. inner sizing edges value ≤ limited (option_map (inner sizing edges) (option_and_then (λ v. against v basis) most)) (option_map (inner sizing edges) o) (unwrap_or (option_map (inner sizing edges) (against size basis)) automatic))
    (sym is)
    (over _ (inner sizing edges value) (omega (arith, inner_less sizing edges value, against_capped least basis value is)))
  where
    over : (base value : ℕ) → value ≤ 2147483647 → value ≤ cap (max base value)
    over base value low = omega arith

pub along_most : (sizing : BoxSizing) (edges : ℕ) (basis : Option ℕ) (size least : LengthValue) (most : Option LengthValue) (automatic low high : ℕ) (limit : LengthValue) → most ≡ Some limit → against limit basis ≡ Some high → against least basis ≡ Some low → low ≤ high → used_along sizing edges basis size least most automatic ≤ inner sizing edges high
along_most sizing edges basis size least most automatic low high limit is top bottom order =
    subst
    (λ m. limited (option_map (inner sizing edges) m) (option_map (inner sizing edges) (against least basis)) base ≤ inner sizing edges high)
    (sym (ap (option_and_then (λ v. against v basis)) is ∙ top))
    (subst
    (λ l. limited (Some (inner sizing edges high)) (option_map (inner sizing edges) l) base ≤ inner sizing edges high)
    (sym bottom)
    (under base (inner sizing edges low) (inner sizing edges high) (inner_order sizing edges low high order)))
  where
    base : ℕ
    base = unwrap_or (option_map (inner sizing edges) (against size basis)) automatic

    under : (base low high : ℕ) → low ≤ high → cap (max (min base high) low) ≤ high
    under base low high order = omega arith

abbrev around : Box → ℕ
around box = box.margin.left + box.border.left + box.padding.left + box.padding.right + box.border.right + box.margin.right

abbrev around_down : Box → ℕ
around_down box = box.margin.top + box.border.top + box.padding.top + box.padding.bottom + box.border.bottom + box.margin.bottom

-- the borders and paddings of a box across
abbrev pub edges_across : Box → ℕ
edges_across box = box.border.left + box.padding.left + box.padding.right + box.border.right

pub width_least : (item : Item) (inputs : Inputs) (inside least : ℕ) → against (item.style.min_width) (Some (inputs.width)) ≡ Some least → inner (item.style.box_sizing) (edges_across (computed item inputs inside)) least ≤ (computed item inputs inside).width
unfolding computed
width_least item inputs inside least is =
    along_least (item.style.box_sizing) (edges_across (computed item inputs inside)) (Some (inputs.width)) (item.style.width) (item.style.min_width) (item.style.max_width) (automatic_width (item.kind) inputs (used_insets (item.style.inset) inputs) (around (computed item inputs inside))) least is

pub width_most : (item : Item) (inputs : Inputs) (inside low high : ℕ) (limit : LengthValue) → item.style.max_width ≡ Some limit → against limit (Some (inputs.width)) ≡ Some high → against (item.style.min_width) (Some (inputs.width)) ≡ Some low → low ≤ high → (computed item inputs inside).width ≤ inner (item.style.box_sizing) (edges_across (computed item inputs inside)) high
unfolding computed
width_most item inputs inside low high limit is top bottom order =
    along_most (item.style.box_sizing) (edges_across (computed item inputs inside)) (Some (inputs.width)) (item.style.width) (item.style.min_width) (item.style.max_width) (automatic_width (item.kind) inputs (used_insets (item.style.inset) inputs) (around (computed item inputs inside))) low high limit is top bottom order

-- the borders and paddings of a box down
abbrev pub edges_down : Box → ℕ
edges_down box = box.border.top + box.padding.top + box.padding.bottom + box.border.bottom

pub height_least : (item : Item) (inputs : Inputs) (inside least : ℕ) → against (item.style.min_height) (inputs.height) ≡ Some least → inner (item.style.box_sizing) (edges_down (computed item inputs inside)) least ≤ (computed item inputs inside).height
unfolding computed
height_least item inputs inside least is =
    along_least (item.style.box_sizing) (edges_down (computed item inputs inside)) (inputs.height) (item.style.height) (item.style.min_height) (item.style.max_height) (automatic_height (item.kind) inputs (used_insets (item.style.inset) inputs) inside (around_down (computed item inputs inside))) least is

pub height_most : (item : Item) (inputs : Inputs) (inside low high : ℕ) (limit : LengthValue) → item.style.max_height ≡ Some limit → against limit (inputs.height) ≡ Some high → against (item.style.min_height) (inputs.height) ≡ Some low → low ≤ high → (computed item inputs inside).height ≤ inner (item.style.box_sizing) (edges_down (computed item inputs inside)) high
unfolding computed
height_most item inputs inside low high limit is top bottom order =
    along_most (item.style.box_sizing) (edges_down (computed item inputs inside)) (inputs.height) (item.style.height) (item.style.min_height) (item.style.max_height) (automatic_height (item.kind) inputs (used_insets (item.style.inset) inputs) inside (around_down (computed item inputs inside))) low high limit is top bottom order

inner_none : (sizing : BoxSizing) (edges : ℕ) → inner sizing edges 0 ≡ 0
inner_none ContentBox edges = refl
inner_none BorderBox edges = omega arith

-- a size that is automatic and not limited
unlimited : (sizing : BoxSizing) (edges : ℕ) (basis : Option ℕ) (size least : LengthValue) (most : Option LengthValue) (automatic : ℕ) → size ≡ Automatic → least ≡ Pixels 0 → most ≡ None → used_along sizing edges basis size least most automatic ≡ cap automatic
unlimited sizing edges basis size least most automatic auto low none =
    ap (λ z. used_along sizing edges basis z least most automatic) auto ∙
    ap (λ z. used_along sizing edges basis Automatic z most automatic) low ∙
    ap (λ z. used_along sizing edges basis Automatic (Pixels 0) z automatic) none ∙
    ap (λ z. cap (max automatic z)) (inner_none sizing edges) ∙
    ap cap (omega arith)

pub fills : (item : Item) (inputs : Inputs) (inside : ℕ) → item.kind ≡ BlockKind → inputs.flow ≡ true → item.style.width ≡ Automatic → item.style.min_width ≡ Pixels 0 → item.style.max_width ≡ None → (computed item inputs inside).width ≡ cap (inputs.width - around (computed item inputs inside))
unfolding computed
fills item inputs inside block flow auto least most =
    unlimited (item.style.box_sizing) (edges_across box) (Some (inputs.width)) (item.style.width) (item.style.min_width) (item.style.max_width) (automatic_width (item.kind) inputs insets (around box)) auto least most ∙
    ap (λ kind. cap (automatic_width kind inputs insets (around box))) block ∙
    ap (λ is. cap (cond is (inputs.width - around box) (left_between (inputs.width) (insets.left) (insets.right) (around box)))) flow
  where
    box : Box
    box = computed item inputs inside

    insets : Sides (Option ℤ)
    insets = used_insets (item.style.inset) inputs

pub fills_between : (item : Item) (inputs : Inputs) (inside : ℕ) (left right : ℤ) → item.kind ≡ BlockKind → inputs.flow ≡ false → item.style.width ≡ Automatic → item.style.min_width ≡ Pixels 0 → item.style.max_width ≡ None → (used_insets item.style.inset inputs).left ≡ Some left → (used_insets item.style.inset inputs).right ≡ Some right → (computed item inputs inside).width ≡ cap (left_between (inputs.width) (Some left) (Some right) (around (computed item inputs inside)))
unfolding computed
fills_between item inputs inside left right block flow auto least most at_left at_right =
    unlimited (item.style.box_sizing) (edges_across box) (Some (inputs.width)) (item.style.width) (item.style.min_width) (item.style.max_width) (automatic_width (item.kind) inputs insets (around box)) auto least most ∙
    ap (λ kind. cap (automatic_width kind inputs insets (around box))) block ∙
    ap (λ is. cap (cond is (inputs.width - around box) (left_between (inputs.width) (insets.left) (insets.right) (around box)))) flow ∙
    ap (λ one. cap (left_between (inputs.width) one (insets.right) (around box))) at_left ∙
    ap (λ other. cap (left_between (inputs.width) (Some left) other (around box))) at_right
  where
    box : Box
    box = computed item inputs inside

    insets : Sides (Option ℤ)
    insets = used_insets (item.style.inset) inputs

pub fills_down : (item : Item) (inputs : Inputs) (inside height : ℕ) (top bottom : ℤ) → item.kind ≡ BlockKind → inputs.flow ≡ false → item.style.height ≡ Automatic → item.style.min_height ≡ Pixels 0 → item.style.max_height ≡ None → inputs.height ≡ Some height → (used_insets item.style.inset inputs).top ≡ Some top → (used_insets item.style.inset inputs).bottom ≡ Some bottom → (computed item inputs inside).height ≡ cap (left_between height (Some top) (Some bottom) (around_down (computed item inputs inside)))
unfolding computed
fills_down item inputs inside height top bottom block flow auto least most given at_top at_bottom =
    unlimited (item.style.box_sizing) (edges_down box) (inputs.height) (item.style.height) (item.style.min_height) (item.style.max_height) (automatic_height (item.kind) inputs insets inside (around_down box)) auto least most ∙
    ap (λ kind. cap (automatic_height kind inputs insets inside (around_down box))) block ∙
    ap (λ is. cap (cond is (left_between (unwrap_or (inputs.height) 0) (insets.top) (insets.bottom) (around_down box)) inside)) stretched ∙
    ap (λ basis. cap (left_between (unwrap_or basis 0) (insets.top) (insets.bottom) (around_down box))) given ∙
    ap (λ one. cap (left_between height one (insets.bottom) (around_down box))) at_top ∙
    ap (λ other. cap (left_between height (Some top) other (around_down box))) at_bottom
  where
    box : Box
    box = computed item inputs inside

    insets : Sides (Option ℤ)
    insets = used_insets (item.style.inset) inputs

    stretched : is_stretched inputs insets ≡ true
    stretched =
        ap (λ is. not is && is_some (insets.top) && is_some (insets.bottom)) flow ∙
        ap (λ one. not false && is_some one && is_some (insets.bottom)) at_top ∙
        ap (λ other. not false && is_some (Some top) && is_some other) at_bottom

not_negative : (z : ℤ) → pos 0 ≤ℤ z → pos (at_least_zero z) ≡ z
not_negative (pos n) low = refl
not_negative (negsuc n) low = elim no [ ]
  where
    no : ⊥
    no = omega (arith, ints)

-- what fills a room between two insets, where there is some
pub filled : (containing around size whole : ℕ) (one other : ℤ) → size ≡ cap (left_between containing (Some one) (Some other) around) → whole ≡ around + size → (one +ℤ pos whole +ℤ other) ≤ℤ pos (containing + size) → size < 2147483647 → one +ℤ pos whole +ℤ other ≡ pos containing
filled containing around size whole one other is all room small =
    let low : pos 0 ≤ℤ (pos containing -ℤ one -ℤ other -ℤ pos around) = omega (arith, ints) in
    let same : pos (left_between containing (Some one) (Some other) around) ≡ pos containing -ℤ one -ℤ other -ℤ pos around = not_negative _ low in
    omega (arith, ints)
