use Rattle.std.proofs.Common.{◌≡◌, sym, subst, arith}
use Rattle.std.specs.Prelude.{Some, OnOk}
use Rattle.std.specs.FinMap.{FinMap, insert}
use Rattle.std.specs.Ordering.{nat_cmp}
use Rattle.kept_clips.specs.declared.pair.Pair.{Pair}
use Rattle.kept_clips.specs.Held.{HeldClips}
use Rattle.kept_clips.specs.Numbers.{AreNumbered}
use Rattle.kept_clips.proofs.Pairs.{numbered_inserted}
use Rattle.kept_clips.proofs.clips.Clips.store.Goals as goal

pub invariant_of-self : goal.invariant_of-self
invariant_of-self c =
    let it : HeldClips = record { touches = c.self.inside.touches; pairs = c.self.inside.pairs } in
    let now : Pair = record { root = c.args.pair.root; of = c.args.pair.of; computed = Some (record { clip = c.args.clip; touches = c.count.result }) } in
    let done = subst (λ r. OnOk r (c.insert.new.self ≡ insert (it.pairs) (c.args.number) now)) c.unwrap.ensures c.insert.ensures.inserted in
    subst (λ (pairs : FinMap nat_cmp Pair). AreNumbered (record { touches = c.self.inside.touches; pairs = pairs })) (sym done)
    (numbered_inserted it c.args.number now (omega (arith, c.count.ensures)) c.self.invariant)
