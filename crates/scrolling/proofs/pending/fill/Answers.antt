use Rattle.std.proofs.Common.{◌≡◌, ◌-◌, ◌++◌, ◌∙◌, suc, [], replicate, ap, arith}
use Rattle.std.specs.Prelude.{vec_len}
use Rattle.scrolling.specs.Pending.{seen_lists}
use Rattle.scrolling.proofs.Listing.{filled_more}
use Rattle.scrolling.proofs.pending.fill.Goals as goal

pub loop-lists-preserved : goal.loop-lists-preserved
loop-lists-preserved c =
    let left = c.args.count - vec_len c.push_reserved.new.self in
    let one : suc left ≡ c.args.count - vec_len c.loop-lists.lists = omega (arith, c.loop-lists-test.true, c.len.ensures, c.push_reserved.ensures.len) in (
      filled_more c.loop-lists.lists.items c.push_reserved.new.self.items c.new.result left c.push_reserved.ensures.items c.new.ensures.items
          ∙ ap (λ k. seen_lists c.loop-lists.lists.items ++ replicate k []) one
          ∙ c.loop-lists.invariant.0,
      c.push_reserved.ensures.capacity ∙ c.loop-lists.invariant.1,
    )
