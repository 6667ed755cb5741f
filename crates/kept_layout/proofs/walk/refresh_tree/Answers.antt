use Rattle.std.proofs.Common.{length, sym, ◌∙◌, arith}
use Rattle.block_layout.specs.Seen.{seen_inputs}
use Rattle.block_layout.specs.Trees.{layout_tree}
use Rattle.block_layout.proofs.Forests.{linked, shallow}
use Rattle.block_layout.proofs.Nodes.{parent_is}
use Rattle.kept_layout.specs.declared.walk.Outside.{Outside}
use Rattle.kept_layout.specs.Slots.{slot_in}
use Rattle.kept_layout.proofs.Exact.{held_fresh}
use Rattle.kept_layout.proofs.Inside.{inside_as}
use Rattle.kept_layout.proofs.Refreshed.{whole_same, whole}
use Rattle.kept_layout.proofs.Shapes.{shaped}
use Rattle.kept_layout.proofs.walk.refresh_tree.Goals as goal

pub returns-then-is_hidden : goal.returns-then-is_hidden
returns-then-is_hidden g c =
    let at = layout_tree g.P.Styled.style g.P.Styled.kind c.args.tree.now.nodes in
    let forest = c.is_hidden.ensures.forest in
    let it = whole_same at (shaped g.P.Styled.style g.P.Styled.kind forest) (linked g.P.Styled.style g.P.Styled.kind forest) (shallow g.P.Styled.style g.P.Styled.kind forest)
    (c.args.root.0) (seen_inputs c.args.inputs) (slot_in c.args.slots.now) _ c.args.steps.now (sym c.is_hidden.ensures.value ∙ c.if-is_hidden.true) in
    record {
      boxes = λ slots sound n own boxed. held_fresh at c.args.slots.now n own (it.fresh slots sound n own boxed);
      fresh = it.fresh;
      done = it.done;
      sound = it.sound;
      others = it.others;
      ticks = it.ticks;
      paid = it.paid;
    }

pub returns : goal.returns
returns g c =
    let at = layout_tree g.P.Styled.style g.P.Styled.kind c.args.tree.now.nodes in
    let forest = c.is_hidden.ensures.forest in
    let outside : Outside = record { absolute = c.out_of_flow-viewport.result; fixed = c.out_of_flow-viewport.result } in
    let it = whole at (shaped g.P.Styled.style g.P.Styled.kind forest) (linked g.P.Styled.style g.P.Styled.kind forest) (shallow g.P.Styled.style g.P.Styled.kind forest)
    (c.args.root.0) (seen_inputs c.args.inputs) (parent_is g.P.Styled.style g.P.Styled.kind c.args.tree.now.nodes (c.args.root.0) ∙ c.requires.top)
    (sym c.is_hidden.ensures.value ∙ c.if-is_hidden.false) c.requires.flow outside c.out_of_flow-viewport.ensures c.out_of_flow-viewport.ensures
    (length c.args.slots.now) (slot_in c.args.slots.now) (slot_in c.refresh_below.new.slots) (slot_in c.refresh_inside.new.slots) c.args.steps.now c.refresh_below.new.steps c.refresh_inside.new.steps
    c.refresh_below.ensures (inside_as at (c.args.root.0) outside (length c.refresh_below.new.slots) (length c.args.slots.now) (slot_in c.refresh_below.new.slots) (slot_in c.refresh_inside.new.slots) c.refresh_below.new.steps c.refresh_inside.new.steps (omega arith) c.refresh_inside.ensures) in
    record {
      boxes = λ slots sound n own boxed. held_fresh at c.refresh_inside.new.slots n own (it.fresh slots sound n own boxed);
      fresh = it.fresh;
      done = it.done;
      sound = it.sound;
      others = it.others;
      ticks = it.ticks;
      paid = it.paid;
    }
