use Rattle.std.proofs.Common.{◌∙◌, ap, refl, sym, subst, List, ℕ, [], ◌∷◌}
use Rattle.std.specs.Io.KnownBytes.{Appends}
use Rattle.script_model.specs.Reading.{SyntaxAt, LimitAt, reading}
use Rattle.script_model.specs.TraceLines.{LimitLine}
use Rattle.trace_runs.specs.Writes.{EndsLine, Wrote}
use Rattle.stream_runs.specs.Alone.{IsOneLine}
use Rattle.stream_runs.specs.StreamRuns.{named_text}
use Rattle.trace_runs.proofs.Writes.{nothing}
use Rattle.stream_replay.proofs.SideBySide.{on_ok, ready_more, refused_fit, refused_is, refused_none, refused_one, seen_more, then_wrote, unrefused_fit}
use Rattle.stream_replay.proofs.side_by_side.open_page.Goals as goal

pub returns-in-Ok-clause-wrote : goal.returns-in-Ok-clause-wrote
returns-in-Ok-clause-wrote g c =
    then_wrote c.add_page.result _ _ _ _ _ c.add_page.ensures.err
    (subst (λ (text : List ℕ). EndsLine text) (sym (refused_none c.args.name (reading c.args.text) _ c.in-Ok.ensures.value)) tt)
    (subst (λ (text : List ℕ). Appends (g.K.Sink.taken c.args.sink.now) (g.K.Sink.taken c.args.sink.now) text) (sym (refused_none c.args.name (reading c.args.text) _ c.in-Ok.ensures.value)) (nothing (g.K.Sink.taken c.args.sink.now))) refl

pub returns-in-Err-Syntax-clause-wrote : goal.returns-in-Err-Syntax-clause-wrote
returns-in-Err-Syntax-clause-wrote g c =
    let read = rw c.in-Err-Syntax.field-0-is at c.in-Err-Syntax.ensures.value in
    subst (λ (text : List ℕ). Wrote c.refuse_page.result (g.K.Sink.taken c.args.sink.now) (g.K.Sink.taken c.refuse_page.new.sink) (g.K.Sink.faults c.args.sink.now) (g.K.Sink.faults c.refuse_page.new.sink) text)
    (refused_one c.args.name (reading c.args.text) (SyntaxAt c.in-Err-Syntax.line c.in-Err-Syntax.column) read) c.refuse_page.ensures.wrote

pub common-requires : goal.common-requires
common-requires g c = rw c.in-Err-ScriptLimit.field-0-is at c.in-Err-ScriptLimit.ensures.limit

pub returns-in-Err-ScriptLimit-clause-wrote : goal.returns-in-Err-ScriptLimit-clause-wrote
returns-in-Err-ScriptLimit-clause-wrote g c =
    let read = rw c.in-Err-ScriptLimit.field-0-is at c.in-Err-ScriptLimit.ensures.value in
    subst (λ (text : List ℕ). Wrote c.refuse_page-in-Err-ScriptLimit.result (g.K.Sink.taken c.args.sink.now) (g.K.Sink.taken c.refuse_page-in-Err-ScriptLimit.new.sink) (g.K.Sink.faults c.args.sink.now)
    (g.K.Sink.faults c.refuse_page-in-Err-ScriptLimit.new.sink) text)
    (ap (λ (number : ℕ). named_text c.args.name (LimitLine c.in-Err-ScriptLimit.kind c.in-Err-ScriptLimit.line number ∷ [])) c.common.ensures
    ∙ refused_one c.args.name (reading c.args.text) (LimitAt c.in-Err-ScriptLimit.kind c.in-Err-ScriptLimit.line) read) c.refuse_page-in-Err-ScriptLimit.ensures.wrote

pub returns-in-Ok-clause-lines : goal.returns-in-Ok-clause-lines
returns-in-Ok-clause-lines g c = on_ok c.add_page.result (unrefused_fit (reading c.args.text) _ c.in-Ok.ensures.value)

pub returns-in-Err-Syntax-clause-lines : goal.returns-in-Err-Syntax-clause-lines
returns-in-Err-Syntax-clause-lines g c =
    let read = rw c.in-Err-Syntax.field-0-is at c.in-Err-Syntax.ensures.value in
    on_ok c.refuse_page.result (refused_fit (reading c.args.text) (SyntaxAt c.in-Err-Syntax.line c.in-Err-Syntax.column) read c.ends_once.ensures)

pub returns-in-Err-ScriptLimit-clause-lines : goal.returns-in-Err-ScriptLimit-clause-lines
returns-in-Err-ScriptLimit-clause-lines g c =
    let read = rw c.in-Err-ScriptLimit.field-0-is at c.in-Err-ScriptLimit.ensures.value in
    on_ok c.refuse_page-in-Err-ScriptLimit.result
    (refused_fit (reading c.args.text) (LimitAt c.in-Err-ScriptLimit.kind c.in-Err-ScriptLimit.line) read
    (subst (λ (number : ℕ). IsOneLine (LimitLine c.in-Err-ScriptLimit.kind c.in-Err-ScriptLimit.line number)) c.common.ensures c.ends_once-in-Err-ScriptLimit.ensures))

pub returns-in-Err-Syntax-clause-pages : goal.returns-in-Err-Syntax-clause-pages
returns-in-Err-Syntax-clause-pages g c =
    let read = rw c.in-Err-Syntax.field-0-is at c.in-Err-Syntax.ensures.value in
    seen_more c.refuse_page.result _ _ _ _ c.refuse_page.ensures.pages (refused_is c.args.name (reading c.args.text) (SyntaxAt c.in-Err-Syntax.line c.in-Err-Syntax.column) read)

pub returns-in-Err-Syntax-clause-ready : goal.returns-in-Err-Syntax-clause-ready
returns-in-Err-Syntax-clause-ready g c = ready_more c.refuse_page.result _ _ _ c.refuse_page.ensures.pages tt

pub returns-in-Err-ScriptLimit-clause-pages : goal.returns-in-Err-ScriptLimit-clause-pages
returns-in-Err-ScriptLimit-clause-pages g c =
    let read = rw c.in-Err-ScriptLimit.field-0-is at c.in-Err-ScriptLimit.ensures.value in
    seen_more c.refuse_page-in-Err-ScriptLimit.result _ _ _ _ c.refuse_page-in-Err-ScriptLimit.ensures.pages
    (refused_is c.args.name (reading c.args.text) (LimitAt c.in-Err-ScriptLimit.kind c.in-Err-ScriptLimit.line) read)

pub returns-in-Err-ScriptLimit-clause-ready : goal.returns-in-Err-ScriptLimit-clause-ready
returns-in-Err-ScriptLimit-clause-ready g c = ready_more c.refuse_page-in-Err-ScriptLimit.result _ _ _ c.refuse_page-in-Err-ScriptLimit.ensures.pages tt
