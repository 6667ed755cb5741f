use Rattle.std.proofs.Common.{◌∙◌, ap}
use Rattle.std.specs.Prelude.{Err}
use Rattle.std.proofs.lemmas.Bool.{false≢true}
use Rattle.stream_replay.specs.StreamReplies.{run_reply}
use Rattle.stream_runs.specs.StreamRuns.{stream_run}
use Rattle.stream_replay.proofs.PagesAsked.{pages_run, pages_none, pages_many, reply_told, run_alone, none_alone, many_alone}
use Rattle.stream_replay.proofs.side_by_side.run_bytes.Goals as goal

pub returns-in-Ok-clause-tells : goal.returns-in-Ok-clause-tells
returns-in-Ok-clause-tells g c =
    reply_told c.run_stream.result _ _ _ _ _ _ (ap (λ source. run_reply (stream_run source)) c.in-Ok.ensures.stream.0 ∙ pages_run c.args.source.now c.requires c.in-Ok.ensures.stream.1 c.in-Ok.ensures.stream.2) c.run_stream.ensures.tells

pub returns-in-Err-NoPage-clause-tells : goal.returns-in-Err-NoPage-clause-tells
returns-in-Err-NoPage-clause-tells g c =
    reply_told c.refuse_at.result _ _ _ _ _ _ (pages_none c.args.source.now c.requires (c.in-Err-NoPage.ensures.no_page.0 (ap Err c.in-Err-NoPage.field-0-is))) c.refuse_at.ensures.tells

pub returns-in-Err-TooManyPages-clause-tells : goal.returns-in-Err-TooManyPages-clause-tells
returns-in-Err-TooManyPages-clause-tells g c =
    reply_told c.meet_limit.result _ _ _ _ _ _
    (pages_many c.args.source.now c.in-Err-TooManyPages.line c.requires (λ other. let same = c.in-Err-TooManyPages.ensures.no_page.1 other in let is = c.in-Err-TooManyPages.field-0-is in cc)
    (c.in-Err-TooManyPages.ensures.too_many c.in-Err-TooManyPages.line c.in-Err-TooManyPages.field-0-is)) c.meet_limit.ensures.tells

pub returns-in-Ok-clause-alone : goal.returns-in-Ok-clause-alone
returns-in-Ok-clause-alone g c =
    run_alone c.run_stream.result _ c.args.source.now c.in-Ok.ensures.stream.0 c.requires c.in-Ok.ensures.stream.1 c.in-Ok.ensures.stream.2 c.run_stream.ensures.alone

pub returns-in-Err-NoPage-clause-alone : goal.returns-in-Err-NoPage-clause-alone
returns-in-Err-NoPage-clause-alone g c = none_alone c.refuse_at.result c.args.source.now (c.in-Err-NoPage.ensures.no_page.0 (ap Err c.in-Err-NoPage.field-0-is))

pub returns-in-Err-TooManyPages-clause-alone : goal.returns-in-Err-TooManyPages-clause-alone
returns-in-Err-TooManyPages-clause-alone g c =
    many_alone c.meet_limit.result c.args.source.now c.in-Err-TooManyPages.line (c.in-Err-TooManyPages.ensures.too_many c.in-Err-TooManyPages.line c.in-Err-TooManyPages.field-0-is)

pub returns-in-Err-Memory-clause-alone : goal.returns-in-Err-Memory-clause-alone
returns-in-Err-Memory-clause-alone g c = λ whole. absurd (false≢true whole)
