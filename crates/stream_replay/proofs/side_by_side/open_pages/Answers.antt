use Rattle.std.proofs.Common.{◌≡◌, ◌<◌, ◌≤◌, ◌∙◌, ap, refl, subst, List, ℕ, [], ◌∷◌, ◌++◌, length, map, get_or, arith}
use Rattle.std.specs.Prelude.{Err}
use Rattle.std.specs.Io.KnownBytes.{Appends}
use Rattle.std.specs.List.{All}
use Rattle.script_model.specs.Reading.{Reading}
use Rattle.trace_runs.specs.declared.faults.RunFault.TheVariants.{Memory}
use Rattle.trace_runs.specs.Writes.{Wrote}
use Rattle.stream_runs.specs.Alone.{IsOneLine}
use Rattle.stream_runs.specs.PageRuns.{opened, refused_lines}
use Rattle.stream_runs.specs.StreamRuns.{refused_text}
use Rattle.stream_replay.specs.StreamPages.{seen_page}
use Rattle.page_stream.specs.Pages.{pages_of}
use Rattle.stream_replay.proofs.NamedLines.{stopped}
use Rattle.stream_replay.proofs.SideBySide.{opening_none, opening_more, opening_cut, opening_end, opening_fit, memory_cut}
use Rattle.stream_replay.proofs.side_by_side.open_pages.Goals as goal

pub loop-place-init : goal.loop-place-init
loop-place-init g c = opening_none c.args.stream.now c.args.pages.now.items _ _ c.requires

pub returns-in_err-text-clause-wrote : goal.returns-in_err-text-clause-wrote
returns-in_err-text-clause-wrote g c =
    let long = ap length c.pages-names.ensures in
    let inside : c.loop-place.place < length (pages_of c.args.stream.now) = omega arith in
    stopped c.from_residual.result c.in_err-text.field-0.0 _ _ _ _ _ c.from_residual.ensures
    (opening_cut (Unit {0}) (Unit {0}) c.args.stream.now c.loop-place.place c.loop-place.pages.items _ _ _ _ _ _ c.in_err-text.field-0.0 (get_or (pages_of c.args.stream.now) c.loop-place.place []) [] c.loop-place.invariant inside refl
    (memory_cut c.in_err-text.field-0.0 _ _ _ (let memory = c.in_err-text.ensures.memory in let is : c.in_err-text.field-0.0 ≡ Memory = cc in is)))

pub returns-in_err-open_page-clause-wrote : goal.returns-in_err-open_page-clause-wrote
returns-in_err-open_page-clause-wrote g c =
    let long = ap length c.pages-names.ensures in
    let inside : c.loop-place.place < length (pages_of c.args.stream.now) = omega arith in
    let is : c.index-names-place.result ≡ get_or (pages_of c.args.stream.now) c.loop-place.place c.index-names-place.result =
    c.index-names-place.is ∙ ap (λ (names : List (List ℕ)). get_or names c.loop-place.place c.index-names-place.result) c.pages-names.ensures in
    stopped c.from_residual-in_err-open_page.result c.in_err-open_page.field-0.0 _ _ _ _ _ c.from_residual-in_err-open_page.ensures
    (opening_cut (Unit {0}) (Unit {0}) c.args.stream.now c.loop-place.place c.loop-place.pages.items _ _ _ _ _ _ c.in_err-open_page.field-0.0 c.index-names-place.result c.index-names-place.result c.loop-place.invariant inside is
    (subst (λ (read : Reading). Wrote {A = Unit {0}} (Err c.in_err-open_page.field-0.0) (g.K.Sink.taken c.loop-place.sink) (g.K.Sink.taken c.open_page.new.sink) (g.K.Sink.faults c.loop-place.sink) (g.K.Sink.faults c.open_page.new.sink)
    (refused_text (record { name = c.index-names-place.result; read = read }))) c.in_ok-text.ensures.text c.in_err-open_page.ensures.wrote))

pub loop-place-preserved : goal.loop-place-preserved
loop-place-preserved g c =
    let long = ap length c.pages-names.ensures in
    let inside : c.loop-place.place < length (pages_of c.args.stream.now) = omega arith in
    let is : c.index-names-place.result ≡ get_or (pages_of c.args.stream.now) c.loop-place.place c.index-names-place.result =
    c.index-names-place.is ∙ ap (λ (names : List (List ℕ)). get_or names c.loop-place.place c.index-names-place.result) c.pages-names.ensures in
    opening_more c.index-names-place.result c.index-names-place.result c.loop-place.invariant inside is
    (subst (λ (read : Reading). Appends (g.K.Sink.taken c.loop-place.sink) (g.K.Sink.taken c.open_page.new.sink) (refused_text (record { name = c.index-names-place.result; read = read }))) c.in_ok-text.ensures.text c.in_ok-open_page.ensures.wrote.0)
    c.in_ok-open_page.ensures.wrote.1 (subst (λ (read : Reading). All IsOneLine (refused_lines read)) c.in_ok-text.ensures.text c.in_ok-open_page.ensures.lines)
    (c.in_ok-open_page.ensures.pages ∙ ap (λ (read : Reading). map seen_page c.loop-place.pages.items ++ (opened (record { name = c.index-names-place.result; read = read }) ∷ [])) c.in_ok-text.ensures.text)
    (c.in_ok-open_page.ensures.ready c.loop-place.invariant.ready)

pub returns-clause-wrote : goal.returns-clause-wrote
returns-clause-wrote g c =
    let long = ap length c.pages-names.ensures in
    let past : length (pages_of c.args.stream.now) ≤ c.loop-place.place = omega arith in
    (opening_end (tt {0}) c.loop-place.invariant past).0

pub returns-clause-pages : goal.returns-clause-pages
returns-clause-pages g c =
    let long = ap length c.pages-names.ensures in
    let past : length (pages_of c.args.stream.now) ≤ c.loop-place.place = omega arith in
    (opening_end (tt {0}) c.loop-place.invariant past).1

pub returns-clause-lines : goal.returns-clause-lines
returns-clause-lines g c =
    let long = ap length c.pages-names.ensures in
    let past : length (pages_of c.args.stream.now) ≤ c.loop-place.place = omega arith in
    opening_fit c.loop-place.invariant past
