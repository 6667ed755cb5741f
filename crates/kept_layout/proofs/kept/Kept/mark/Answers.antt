use Rattle.std.proofs.Common.{◌≡◌, ◌++◌, ◌||◌, length, take, drop, ap, sym, subst, ◌∙◌, arith}
use Rattle.std.proofs.lemmas.Grind.{common_steps}
use Rattle.layout_model.specs.Nodes.{is_in_path}
use Rattle.block_layout.specs.Trees.{layout_tree}
use Rattle.kept_layout.specs.Slots.{slot_in}
use Rattle.kept_layout.specs.Sound.{IsSoundBut}
use Rattle.kept_layout.proofs.kept.Kept.mark.Goals as goal

pub returns-clause-mended : goal.returns-clause-mended
returns-clause-mended g c within others sound =
    let at = layout_tree g.P.Styled.style g.P.Styled.kind c.args.tree.now.nodes in
    let same : take c.self.inside.slots.len (c.mark_path.new.slots ++ drop (length c.mark_path.new.slots) c.self.inside.slots.items) ≡ c.mark_path.new.slots = grind (arith, common_steps) in
    let whole : c.as_mut_slice.result.now ≡ c.args.self.now = c.as_mut_slice.ensures.value ∙ c.self.view_is in
    let count : length c.as_mut_slice.result.now ≡ length c.args.self.now = ap length whole in
    subst (λ xs. IsSoundBut at (slot_in xs) others) (sym same)
    (c.mark_path.ensures.mended (λ m inside. omega (arith, within m inside)) others
    (subst (λ xs. IsSoundBut at (slot_in xs) (λ n. is_in_path at n (c.args.node.0) || others n)) (sym whole) sound))
