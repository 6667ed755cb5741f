use Rattle.std.proofs.Common.{sym, subst}
use Rattle.std.specs.FinMap.{FinMap}
use Rattle.std.specs.Ordering.{nat_cmp}
use Rattle.kept_clips.specs.declared.pair.Pair.{Pair}
use Rattle.kept_clips.specs.Held.{HeldClips}
use Rattle.kept_clips.specs.Numbers.{AreNumbered}
use Rattle.kept_clips.specs.Chains.{IsExact}
use Rattle.kept_clips.proofs.Pairs.{numbered_removed, exact_removed}
use Rattle.kept_clips.proofs.clips.Clips.release.Goals as goal

pub invariant_of-self : goal.invariant_of-self
invariant_of-self c =
    let it : HeldClips = record { touches = c.self.inside.touches; pairs = c.self.inside.pairs } in
    subst (λ (pairs : FinMap nat_cmp Pair). AreNumbered (record { touches = c.self.inside.touches; pairs = pairs })) (sym c.remove.ensures)
    (numbered_removed it c.args.number c.self.invariant)

pub returns-clause-exact : goal.returns-clause-exact
returns-clause-exact c =
    let it : HeldClips = record { touches = c.self.inside.touches; pairs = c.self.inside.pairs } in
    λ scene other exact.
    subst (λ (pairs : FinMap nat_cmp Pair). IsExact scene (record { touches = c.self.inside.touches; pairs = pairs }) other) (sym c.remove.ensures)
    (exact_removed scene it c.args.number other (subst (λ (held : HeldClips). IsExact scene held other) (sym c.self.view_is) exact))
