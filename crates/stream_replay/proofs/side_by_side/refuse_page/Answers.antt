use Rattle.std.proofs.Common.{◌∙◌, ◌++◌, ap, sym, subst, List, ℕ, [], ◌∷◌}
use Rattle.trace_text.specs.Seen.{seen_line}
use Rattle.trace_summary.specs.Counts.{IsTrace}
use Rattle.text_lines.specs.Gathered.{Gathered}
use Rattle.run_replies.proofs.Summaries.{gathered_trace}
use Rattle.stream_replay.specs.declared.stream_page.StreamPage.{StreamPage}
use Rattle.stream_replay.specs.declared.stream_page.Standing.TheVariants.{Refused}
use Rattle.stream_replay.proofs.SideBySide.{on_ok}
use Rattle.stream_replay.proofs.side_by_side.refuse_page.Goals as goal

pub returns-clause-wrote : goal.returns-clause-wrote
returns-clause-wrote g c =
    c.write_named.ensures.of_trace (seen_line c.args.line.now ∷ []) (subst (λ (text : List ℕ). IsTrace text (seen_line c.args.line.now ∷ [])) (sym c.taken.ensures)
    (gathered_trace c.new-gathered.result.taken c.write_one.new.sink.taken (seen_line c.args.line.now ∷ []) (ap (λ (sink : Gathered). sink.taken) c.new-gathered.ensures) c.in-Ok-write_one.ensures.told.0))

pub returns-clause-pages : goal.returns-clause-pages
returns-clause-pages g c =
    on_ok c.write_named.result
    (c.push_reserved.ensures.items ∙ ap (λ (items : List StreamPage). items ++ (record { name = c.args.name; standing = Refused c.args.refusal } ∷ [])) c.in-Ok.ensures.items)
