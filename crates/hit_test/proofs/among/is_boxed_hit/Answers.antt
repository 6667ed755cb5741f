use Rattle.hit_test.proofs.Chains.{to_screen, hit_told}
use Rattle.hit_test.proofs.among.is_boxed_hit.Goals as goal

pub shows_at-requires-clause-above : goal.shows_at-requires-clause-above
shows_at-requires-clause-above c = to_screen c.args.shown.now c.document_count.ensures.page (c.args.node.0) c.requires.boxed

pub returns-clause-hit : goal.returns-clause-hit
returns-clause-hit c = hit_told c.args.shown.now c.document_count.ensures.page (c.args.node.0) c.requires.boxed c.args.at c.shows_at.result c.shows_at.ensures.shows
