use Rattle.std.proofs.Common.{◌∙◌, sym, ap, subst, ℕ, ◌+◌, length}
use Rattle.std.specs.Prelude.{Some}
use Rattle.page_stream.specs.Splits.{SplitTo}
use Rattle.page_stream.proofs.Taken.{page_taken, line_taken, one_past}
use Rattle.page_stream.proofs.splitting.Splitting.take_line.Goals as goal

pub returns-in-Ok-clause-split : goal.returns-in-Ok-clause-split
returns-in-Ok-clause-split c = λ source rest behind taken number some is left to.
    subst (λ (n : ℕ). SplitTo source c.turn_to.new.self c.args.most_pages n (c.args.from + length c.args.line.now) behind) (sym number)
    (page_taken c.in-Some.name to some is left (sym c.page_named.ensures ∙ c.in-Some.is) c.in-Ok.ensures.split c.in-Ok.ensures.pages c.in-Ok.ensures.few)

pub returns-in-Err-clause-too_many : goal.returns-in-Err-clause-too_many
returns-in-Err-clause-too_many c = λ past same source rest taken number some is to.
    let told = c.in-Err.ensures.too_many past same in
    one_past c.in-Some.name to some is (sym c.page_named.ensures ∙ c.in-Some.is) told.2 told.1 ∙ ap Some (sym (told.0 ∙ number))

pub returns-in-Ok-add-clause-split : goal.returns-in-Ok-add-clause-split
returns-in-Ok-add-clause-split c = λ source rest behind taken number some is left to.
    subst (λ (n : ℕ). SplitTo source c.add.new.self c.args.most_pages n (c.args.from + length c.args.line.now) behind) (sym number)
    (line_taken to some is left (sym c.page_named.ensures ∙ c.in-None.is) c.in-Ok-add.ensures.split c.in-Ok-add.ensures.pages)
