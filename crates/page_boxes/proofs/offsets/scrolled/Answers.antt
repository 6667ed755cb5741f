use Rattle.std.proofs.Common.{◌≡◌, ◌≤◌, ◌+◌, ◌*◌, ℕ, List, inl, inr, ap, sym, subst, ◌∙◌, arith, true}
use Rattle.std.specs.Prelude.{is_some}
use Rattle.layout_model.specs.Nodes.{Node, holder, holders_of, IsShallow}
use Rattle.layout_model.specs.Points.{plus, sum_points}
use Rattle.layout_model.specs.Views.{View, inputs_in_view}
use Rattle.layout_model.specs.Reach.{offset_in_force}
use Rattle.page_model.specs.PageBoxes.{stored_in}
use Rattle.element_tree.specs.Forest.{Knot, IsForest, depth}
use Rattle.block_layout.specs.Trees.{layout_tree}
use Rattle.block_layout.proofs.Forests.{shallow}
use Rattle.positioned_layout.specs.declared.Holder.{Holder}
use Rattle.positioned_layout.specs.declared.Holder.TheVariants.{Page}
use Rattle.positioned_layout.specs.declared.Holder.TheVariants as code
use Rattle.positioned_layout.specs.Seen.{seen_holder, IfElement}
use Rattle.kept_layout.proofs.Climbed.{sum_goes, sum_ends, sum_starts}
use Rattle.kept_layout.proofs.Held.{tree_nodes, elements_from, ends_from, levels_from, elements_are, ends_are, if_first, levels_fall}
use Rattle.page_boxes.proofs.Parents.{holder_boxed}
use Rattle.page_boxes.proofs.offsets.scrolled.Goals as goal

-- the element that holds a box has one
held_boxed : (at : ℕ → Node) → IsShallow at → (view : View) (n : ℕ) (held : Holder) → seen_holder held ≡ holder at n → is_some (inputs_in_view at view n) ≡ true
    → IfElement held (λ element. is_some (inputs_in_view at view element) ≡ true)
held_boxed at short view n (code.Node node) by boxed = holder_boxed at view short n node.0 (sym by) boxed
held_boxed at short view n code.Page by boxed = tt
held_boxed at short view n code.Screen by boxed = tt

pub loop-held-init : goal.loop-held-init
loop-held-init g c =
    let at = layout_tree g.P.Styled.style g.P.Styled.kind c.args.tree.now.nodes in
    let short = shallow g.P.Styled.style g.P.Styled.kind c.holder_of-held.ensures.forest in
    let by = c.holder_of-held.ensures.value at (tree_nodes g.P.Styled.style g.P.Styled.kind c.args.tree.now.nodes) in
    let low = levels_fall c.args.tree.now.nodes (c.args.node.0) c.holder_of-held.result c.holder_of-held.ensures.above in
    record {
      within = if_first _ _ c.holder_of-held.result c.holder_of-held.ensures.above;
      across = omega (arith, low);
      down = omega (arith, low);
      boxed = λ view boxed. held_boxed at short view (c.args.node.0) c.holder_of-held.result by boxed;
      sums = λ view sized holds known boxed.
          sum_starts _
          ∙ ap (sum_points (offset_in_force at (stored_in c.args.scrolls.now) view)) (sym (elements_are at short (c.args.node.0) (seen_holder c.holder_of-held.result) by));
      ends = sym (ends_are at short (c.args.node.0) (seen_holder c.holder_of-held.result) by);
    }

pub loop-held-smaller : goal.loop-held-smaller
loop-held-smaller g c =
    let low = levels_fall c.args.tree.now.nodes (c.in-Node.element.0) c.holder_of-held-in-Node.result c.holder_of-held-in-Node.ensures.above in
    let here : levels_from c.args.tree.now.nodes c.loop-held.held ≡ depth c.args.tree.now.nodes (c.in-Node.element.0) = ap (levels_from c.args.tree.now.nodes) c.in-Node.is in
    omega (arith, low, here)

pub loop-held-preserved : goal.loop-held-preserved
loop-held-preserved g c =
    let at = layout_tree g.P.Styled.style g.P.Styled.kind c.args.tree.now.nodes in
    let short = shallow g.P.Styled.style g.P.Styled.kind c.holder_of-held.ensures.forest in
    let by = c.holder_of-held-in-Node.ensures.value at (tree_nodes g.P.Styled.style g.P.Styled.kind c.args.tree.now.nodes) in
    let low = levels_fall c.args.tree.now.nodes (c.in-Node.element.0) c.holder_of-held-in-Node.result c.holder_of-held-in-Node.ensures.above in
    let here : levels_from c.args.tree.now.nodes c.loop-held.held ≡ depth c.args.tree.now.nodes (c.in-Node.element.0) = ap (levels_from c.args.tree.now.nodes) c.in-Node.is in
    let there : (view : View) → is_some (inputs_in_view at view (c.args.node.0)) ≡ true → is_some (inputs_in_view at view (c.in-Node.element.0)) ≡ true
    = λ view boxed. subst (λ h. IfElement h (λ element. is_some (inputs_in_view at view element) ≡ true)) c.in-Node.is (c.loop-held.invariant.boxed view boxed) in
    record {
      within = if_first _ _ c.holder_of-held-in-Node.result c.holder_of-held-in-Node.ensures.above;
      across = omega (arith, low, here, c.loop-held.invariant.across, c.own_scroll-more.ensures.across);
      down = omega (arith, low, here, c.loop-held.invariant.down, c.own_scroll-more.ensures.down);
      boxed = λ view boxed. held_boxed at short view (c.in-Node.element.0) c.holder_of-held-in-Node.result by (there view boxed);
      sums = λ view sized holds known boxed.
          let f = offset_in_force at (stored_in c.args.scrolls.now) view in
          ap (λ es. plus (c.loop-held.shift.across + c.own_scroll-more.result.across, c.loop-held.shift.down + c.own_scroll-more.result.down) (sum_points f es)) (sym (elements_are at short (c.in-Node.element.0) (seen_holder c.holder_of-held-in-Node.result) by))
          ∙ sum_goes f (c.in-Node.element.0) (elements_from at (seen_holder c.loop-held.held)) (holders_of at (c.in-Node.element.0))
          (ap (λ (h : Holder). elements_from at (seen_holder h)) c.in-Node.is)
          (c.loop-held.shift.across) (c.loop-held.shift.down) (c.own_scroll-more.result.across) (c.own_scroll-more.result.down)
          (c.own_scroll-more.ensures.value view sized holds known (there view boxed))
          ∙ c.loop-held.invariant.sums view sized holds known boxed;
      ends =
          sym (ends_are at short (c.in-Node.element.0) (seen_holder c.holder_of-held-in-Node.result) by)
          ∙ sym (ap (λ (h : Holder). ends_from at (seen_holder h)) c.in-Node.is) ∙ c.loop-held.invariant.ends;
    }

-- sums are whole once no element holds the last one
returns_by : {most : ℕ} {P : Type 0} {nodes : List (Knot P)} (forest : IsForest most nodes) (n shift levels : ℕ) → shift + 2147483647 * levels ≤ 2147483647 * depth nodes n → shift ≤ 2147483647 * most
returns_by forest n shift levels low = let top = forest.within n in omega (arith, low, top)

pub returns-in-Screen : goal.returns-in-Screen
returns-in-Screen g c =
    let at = layout_tree g.P.Styled.style g.P.Styled.kind c.args.tree.now.nodes in
    record {
      value = λ view sized holds known boxed.
          sum_ends (offset_in_force at (stored_in c.args.scrolls.now) view) (elements_from at (seen_holder c.loop-held.held)) (ap (λ (h : Holder). elements_from at (seen_holder h)) c.in-Screen.is)
          (c.loop-held.shift.across) (c.loop-held.shift.down)
          ∙ c.loop-held.invariant.sums view sized holds known boxed;
      ends = sym (ap (λ (h : Holder). ends_from at (seen_holder h)) c.in-Screen.is) ∙ c.loop-held.invariant.ends;
      across = returns_by c.holder_of-held.ensures.forest (c.args.node.0) _ _ c.loop-held.invariant.across;
      down = returns_by c.holder_of-held.ensures.forest (c.args.node.0) _ _ c.loop-held.invariant.down;
    }

pub returns-in-Node-held : goal.returns-in-Node-held
returns-in-Node-held g c =
    let at = layout_tree g.P.Styled.style g.P.Styled.kind c.args.tree.now.nodes in
    let page : c.loop-held.held ≡ Page = elim c.in-Node-held.is [ inl node ↦ absurd (c.in_default.not-Node node.0 node.1) | inr page ↦ page ] in
    record {
      value = λ view sized holds known boxed.
          sum_ends (offset_in_force at (stored_in c.args.scrolls.now) view) (elements_from at (seen_holder c.loop-held.held)) (ap (λ (h : Holder). elements_from at (seen_holder h)) page)
          (c.loop-held.shift.across) (c.loop-held.shift.down)
          ∙ c.loop-held.invariant.sums view sized holds known boxed;
      ends = sym (ap (λ (h : Holder). ends_from at (seen_holder h)) page) ∙ c.loop-held.invariant.ends;
      across = returns_by c.holder_of-held.ensures.forest (c.args.node.0) _ _ c.loop-held.invariant.across;
      down = returns_by c.holder_of-held.ensures.forest (c.args.node.0) _ _ c.loop-held.invariant.down;
    }
