use Rattle.std.proofs.Common.{◌≡◌, ◌<◌, ◌∙◌, true, length, refl, ap, sym, subst, arith}
use Rattle.std.proofs.lemmas.Bool.{false≢true}
use Rattle.std.proofs.lemmas.Bool.Decides.{nat_tests}
use Rattle.std.specs.FinMap.{insert}
use Rattle.std.specs.Prelude.{is_some}
use Rattle.layout_model.specs.Views.{inputs_in_view}
use Rattle.layout_model.specs.Reach.{offset_in_force}
use Rattle.page_model.specs.PageBoxes.{stored_in}
use Rattle.block_layout.specs.Seen.{as_point}
use Rattle.block_layout.specs.Trees.{layout_tree}
use Rattle.page_boxes.specs.Offsets.{AreOffsets, AreInForce, AreScrolled}
use Rattle.page_boxes.specs.Ranges.{IsOffset}
use Rattle.page_boxes.proofs.Mapped.{all_none, all_put, none_scrolled, scrolled_put, scrolled_on}
use Rattle.page_boxes.proofs.found.boxed_offsets.Goals.{then-not-is_at_start+in_ok-insert, else-not-is_at_start}
use Rattle.page_boxes.proofs.found.boxed_offsets.Goals as goal

pub loop-number-init : goal.loop-number-init
loop-number-init g c =
    let at = layout_tree g.P.Styled.style g.P.Styled.kind c.args.tree.now.nodes in
    let stored = stored_in c.args.scrolls.now in
    record {
      value = λ view sized holds.
          subst (AreInForce at stored view) (sym c.new-found.ensures)
          (all_none (λ node offset. is_some (inputs_in_view at view node) ≡ true → offset ≡ as_point (offset_in_force at stored view node)));
      scrolled = none_scrolled c.args.scrolls.now _ c.new-found.ensures;
      within = omega arith;
      range = subst AreOffsets (sym c.new-found.ensures) (all_none (λ node offset. IsOffset offset));
    }

pub loop-number-preserved : goal.loop-number-preserved
loop-number-preserved g c =
    let at = layout_tree g.P.Styled.style g.P.Styled.kind c.args.tree.now.nodes in
    let stored = stored_in c.args.scrolls.now in
    record {
      value = λ view sized holds.
          let old = c.loop-number.invariant.value view sized holds in
          elim c.if-not-is_at_start.branch [
            | then-not-is_at_start+in_ok-insert w ↦
                subst (AreInForce at stored view) (sym w.found-is)
                (subst (AreInForce at stored view) (sym (w.in_ok-insert.ensures.inserted ∙ ap (λ k. insert c.loop-number.found k w.boxed_offset.result) w.from.ensures))
                (all_put (λ node offset. is_some (inputs_in_view at view node) ≡ true → offset ≡ as_point (offset_in_force at stored view node)) c.loop-number.found c.loop-number.number w.boxed_offset.result
                (w.boxed_offset.ensures.value view sized holds) old))
            | else-not-is_at_start w ↦ subst (AreInForce at stored view) (sym w.found-is) old
          ];
      scrolled = elim c.if-not-is_at_start.branch [
        | then-not-is_at_start+in_ok-insert w ↦
            subst (AreScrolled _ c.args.scrolls.now) (sym w.found-is)
            (subst (AreScrolled _ c.args.scrolls.now) (sym (w.in_ok-insert.ensures.inserted ∙ ap (λ k. insert c.loop-number.found k w.boxed_offset.result) w.from.ensures))
            (scrolled_put c.args.scrolls.now c.loop-number.number _ c.loop-number.found c.loop-number.invariant.scrolled refl w.boxed_offset.result
            (λ stands. false≢true (sym w.if-not-is_at_start.true ∙ c.is_at_start.ensures.moved stands))))
        | else-not-is_at_start w ↦
            subst (AreScrolled _ c.args.scrolls.now) (sym w.found-is)
            (scrolled_on c.args.scrolls.now c.loop-number.number _ c.loop-number.found c.loop-number.invariant.scrolled refl (c.is_at_start.ensures.start w.if-not-is_at_start.false))
      ];
      within = let held = sym c.holds.ensures.value ∙ c.if-not-holds.false in let low : c.loop-number.number < length c.args.tree.now.nodes = grind (arith, nat_tests, held) in omega arith;
      range = elim c.if-not-is_at_start.branch [
        | then-not-is_at_start+in_ok-insert w ↦
            subst AreOffsets (sym w.found-is)
            (subst AreOffsets (sym (w.in_ok-insert.ensures.inserted ∙ ap (λ k. insert c.loop-number.found k w.boxed_offset.result) w.from.ensures))
            (all_put (λ node offset. IsOffset offset) c.loop-number.found c.loop-number.number w.boxed_offset.result w.boxed_offset.ensures.range c.loop-number.invariant.range))
        | else-not-is_at_start w ↦ subst AreOffsets (sym w.found-is) c.loop-number.invariant.range
      ];
    }
