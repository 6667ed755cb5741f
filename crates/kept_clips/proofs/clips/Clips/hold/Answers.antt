use Rattle.std.proofs.Common.{sym, subst}
use Rattle.std.specs.FinMap.{FinMap, insert}
use Rattle.std.specs.Ordering.{nat_cmp}
use Rattle.kept_clips.specs.declared.pair.Pair.{Pair}
use Rattle.kept_clips.specs.Held.{HeldClips, new_pair}
use Rattle.kept_clips.specs.Numbers.{AreNumbered}
use Rattle.kept_clips.specs.Chains.{IsExact}
use Rattle.kept_clips.proofs.Pairs.{either, numbered_inserted, exact_inserted, exact_new}
use Rattle.kept_clips.proofs.clips.Clips.hold.Goals as goal

pub invariant_of-self : goal.invariant_of-self
invariant_of-self c =
    let it : HeldClips = record { touches = c.self.inside.touches; pairs = c.self.inside.pairs } in
    let new = new_pair c.args.root c.args.of in
    either c.insert.result (λ (pairs : FinMap nat_cmp Pair). AreNumbered (record { touches = c.self.inside.touches; pairs = pairs }))
    c.self.inside.pairs c.insert.new.self (insert (it.pairs) (c.args.number) new) c.insert.ensures.inserted c.insert.ensures.same
    (numbered_inserted it c.args.number new tt c.self.invariant) c.self.invariant

pub returns-clause-exact : goal.returns-clause-exact
returns-clause-exact c =
    let it : HeldClips = record { touches = c.self.inside.touches; pairs = c.self.inside.pairs } in
    let new = new_pair c.args.root c.args.of in
    λ scene other exact.
    let before : IsExact scene it other = subst (λ (held : HeldClips). IsExact scene held other) (sym c.self.view_is) exact in
    either c.insert.result (λ (pairs : FinMap nat_cmp Pair). IsExact scene (record { touches = c.self.inside.touches; pairs = pairs }) other)
    c.self.inside.pairs c.insert.new.self (insert (it.pairs) (c.args.number) new) c.insert.ensures.inserted c.insert.ensures.same
    (exact_inserted scene it c.args.number new other (exact_new scene it.touches c.args.root c.args.of) before) before
