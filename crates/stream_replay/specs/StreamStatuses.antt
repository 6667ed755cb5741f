-- How a stream of pages ends as a whole.
use Rattle.std.specs.Prelude.{Bool, true, false, cond, List}
use Rattle.std.specs.List.{list_any}
use Rattle.page_model.specs.Outcome.{Ending, Ended, Faulty, LimitMet}
use Rattle.stream_runs.specs.PageRuns.{PageRun, ending_at}
use Rattle.run_replies.specs.declared.status.Status.{Status}
use Rattle.run_replies.specs.declared.status.Status.TheVariants.{Done, Syntax, Limit}

abbrev pub is_faulty : Ending → Bool
is_faulty Ended = false
is_faulty Faulty = true
is_faulty LimitMet = false

abbrev pub met_limit : Ending → Bool
met_limit Ended = false
met_limit Faulty = false
met_limit LimitMet = true

-- a syntax fault in some page's script takes precedence over a limit that some page met
abbrev pub stream_status : List PageRun → Status
stream_status pages =
    cond (list_any (λ page. is_faulty (ending_at page.standing)) pages) Syntax
    (cond (list_any (λ page. met_limit (ending_at page.standing)) pages) Limit Done)
