use Rattle.std.proofs.Common.{◌≡◌, ◌∙◌, ◌-◌, ◌+◌, ◌++◌, ◌∷◌, [], length, List, replicate, ap, sym, arith}
use Rattle.std.proofs.lemmas.Bool.{false≢true}
use Rattle.std.proofs.lemmas.Result.{on_ok_weaker, on_err_weaker}
use Rattle.std.specs.Prelude.{vec_len}
use Rattle.std.specs.List.{list_any}
use Rattle.page_model.specs.Lookups.{is_same_container}
use Rattle.element_tree.specs.declared.container.Container.{Container}
use Rattle.scrolling.specs.Pending.{seen_lists}
use Rattle.container_model.specs.Seen.{seen_container}
use Rattle.scrolling.proofs.Listing.{entry_at, listed_at, same_at, past_none, added_behind}
use Rattle.scrolling.proofs.pending.add_pending.Goals as goal

pub returns-then-place-len-clause-added : goal.returns-then-place-len-clause-added
returns-then-place-len-clause-added c =
    on_ok_weaker c.list_target.result
    (listed_at c.args.document.0 c.args.lists.now.items c.index_mut.result.now c.list_target.new.list (seen_container c.args.target) (omega (arith, c.if-place-len.true, c.len.ensures)) c.index_mut.ensures.value)
    c.list_target.ensures.listed

pub returns-then-place-len-clause-same : goal.returns-then-place-len-clause-same
returns-then-place-len-clause-same c =
    on_err_weaker c.list_target.result
    (same_at c.args.document.0 c.args.lists.now.items c.index_mut.result.now c.list_target.new.list (omega (arith, c.if-place-len.true, c.len.ensures)) c.index_mut.ensures.value)
    c.list_target.ensures.same

pub returns-then-place-len-clause-there : goal.returns-then-place-len-clause-there
returns-then-place-len-clause-there c any =
    c.list_target.ensures.there
    (ap (list_any (is_same_container (seen_container c.args.target))) (sym (entry_at c.args.document.0 c.args.lists.now.items c.index_mut.result.now (omega (arith, c.if-place-len.true, c.len.ensures)) c.index_mut.ensures.value)) ∙ any)

pub returns-in_err-push-clause-there : goal.returns-in_err-push-clause-there
returns-in_err-push-clause-there c any = absurd (false≢true (past_none c.args.document.0 c.args.lists.now.items (seen_container c.args.target) (omega (arith, c.if-place-len.false, c.len.ensures)) ∙ any))

pub returns-in_err-reserve-clause-there : goal.returns-in_err-reserve-clause-there
returns-in_err-reserve-clause-there c any = absurd (false≢true (past_none c.args.document.0 c.args.lists.now.items (seen_container c.args.target) (omega (arith, c.if-place-len.false, c.len.ensures)) ∙ any))

pub returns-clause-added : goal.returns-clause-added
returns-clause-added c =
    let lists = c.args.lists.now.items in
    let rest = c.args.document.0 - vec_len c.reserve.new.self in
    let count : length lists + rest ≡ c.args.document.0 = omega (arith, c.if-place-len.false, c.len.ensures, c.in_ok-reserve.ensures.len) in
    added_behind c.args.document.0 rest lists c.fill.new.lists.items c.push_reserved.new.self.items c.push.new.self c.args.target count
    (c.fill.ensures.lists ∙ ap (λ these. seen_lists these ++ replicate rest []) c.in_ok-reserve.ensures.items)
    c.push_reserved.ensures.items
    (c.in_ok-push.ensures.items ∙ ap (λ (items : List Container). items ++ c.args.target ∷ []) c.new-list.ensures.items)
