use Rattle.std.proofs.Common.{sym, ◌∙◌}
use Rattle.std.proofs.lemmas.Bool.{false≢true}
use Rattle.scrolling.proofs.Listing.{found_is, listed_new, listed_there}
use Rattle.scrolling.proofs.pending.list_target.Goals as goal

pub returns-in_err-push-clause-there : goal.returns-in_err-push-clause-there
returns-in_err-push-clause-there c any = absurd (false≢true (sym c.if-not-is_listed.true ∙ sym (found_is c.args.target c.as_slice.result.now c.args.list.now.items c.as_slice.ensures.value c.is_listed.result c.is_listed.ensures) ∙ any))

pub returns-in_ok-push-clause-listed : goal.returns-in_ok-push-clause-listed
returns-in_ok-push-clause-listed c = listed_new c.args.target c.as_slice.result.now c.args.list.now.items c.as_slice.ensures.value c.is_listed.result c.is_listed.ensures c.if-not-is_listed.true c.push.new.self.items c.in_ok-push.ensures.items

pub returns-else-not-is_listed-clause-listed : goal.returns-else-not-is_listed-clause-listed
returns-else-not-is_listed-clause-listed c = listed_there c.args.target c.as_slice.result.now c.args.list.now.items c.as_slice.ensures.value c.is_listed.result c.is_listed.ensures c.if-not-is_listed.false
