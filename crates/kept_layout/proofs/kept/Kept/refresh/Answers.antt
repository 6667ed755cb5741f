use Rattle.std.proofs.Common.{◌≡◌, ◌++◌, length, take, drop, ap, sym, subst, ◌∙◌, arith}
use Rattle.std.proofs.lemmas.Grind.{common_steps}
use Rattle.block_layout.specs.Trees.{layout_tree}
use Rattle.kept_layout.specs.Fresh.{IsFresh}
use Rattle.kept_layout.specs.Slots.{slot_in}
use Rattle.kept_layout.specs.Sound.{IsSound}
use Rattle.kept_layout.proofs.kept.Kept.refresh.Goals as goal

pub returns-clause-fresh : goal.returns-clause-fresh
returns-clause-fresh g c ready n own is =
    let at = layout_tree g.P.Styled.style g.P.Styled.kind c.args.tree.now.nodes in
    let same : take c.self.inside.slots.len (c.refresh_tree.new.slots ++ drop (length c.refresh_tree.new.slots) c.self.inside.slots.items) ≡ c.refresh_tree.new.slots = grind (arith, common_steps) in
    let whole : c.as_mut_slice.result.now ≡ c.args.self.now = c.as_mut_slice.ensures.value ∙ c.self.view_is in
    let count : length c.as_mut_slice.result.now ≡ length c.args.self.now = ap length whole in
    subst (λ xs. IsFresh at (slot_in xs) n own) (sym same)
    (c.refresh_tree.ensures.fresh (λ m inside. let low = ready.slots m inside in omega (arith, low)) (subst (λ xs. IsSound at (slot_in xs)) (sym whole) ready.sound) n own is)
