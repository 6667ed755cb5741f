use Rattle.intersection_update.proofs.Again.{updated_twice}
use Rattle.intersection_update.proofs.laws.a_further_update_is_no_news.Goals as goal

pub returns : goal.returns
returns c = λ shown margins document earlier time it. updated_twice shown margins shown.tree time earlier document it
