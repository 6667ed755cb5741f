-- What is said at the lines of a stream is what each page says at its own.
use Rattle.std.proofs.Common.{◌≡◌, ◌∙◌, refl, sym, ap, subst, ◌⊎◌, inl, inr, ℕ, zero, suc, List, [], ◌∷◌, Option, Some, None}
use Rattle.std.specs.Prelude.{slice_get}
use Rattle.std.specs.List.{All}
use Rattle.std.proofs.lemmas.Bool.{cases_eq}
use Rattle.std.proofs.lemmas.List.Elements.{All-append, All-nil}
use Rattle.std.proofs.lemmas.Option.{none-some, same_Some}
use Rattle.page_stream.specs.declared.stream.Part.{Part}
use Rattle.stream_runs.specs.PageRuns.{PageScript, PageRun, Turn, refused_lines, turn_at}
use Rattle.stream_runs.specs.StreamRuns.{StreamRun, turned, parts_run}
use Rattle.stream_runs.specs.Alone.{IsOneLine, opening_lines, turn_lines, lines_from}
use Rattle.stream_runs.proofs.Alone.{lines_run}
use Rattle.stream_runs.proofs.PageLines.{numbers_at}
use Rattle.stream_runs.proofs.PageTurns.{put_there, put_elsewhere, own_number, other_number, step_is, left_at}
use Rattle.stream_runs.proofs.SideBySide.{lines_first, lines_then}

-- a script that is refused is one of those
pub refused_fit : (scripts : List PageScript) (place : ℕ) (script : PageScript) → slice_get scripts place ≡ Some script
    → All IsOneLine (opening_lines scripts) → All IsOneLine (refused_lines script.read)
refused_fit [] place script at fit = absurd (none-some script at)
refused_fit (first ∷ scripts) zero script at fit =
    subst (λ (it : PageScript). All IsOneLine (refused_lines it.read)) (same_Some first script at) (lines_first (refused_lines first.read) (opening_lines scripts) fit)
refused_fit (first ∷ scripts) (suc place) script at fit =
    refused_fit scripts place script at (lines_then (refused_lines first.read) (opening_lines scripts) fit)

-- how the pages stand behind a line
pages-then : (pages : List PageRun) (part : Part) (found : Option PageRun) → slice_get pages part.page ≡ found
    → (parts_run pages (part ∷ [])).pages ≡ (turned found part (record { text = []; pages = pages })).pages
unfolding parts_run
pages-then pages part found at = ap (λ (run : StreamRun). run.pages) (step_is (record { text = []; pages = pages }) part found at)

-- no line, and one more before others
pub fit_none : (pages : List PageRun) → All IsOneLine (lines_from pages [])
unfolding lines_from
fit_none pages = All-nil IsOneLine

pub fit_more : (pages : List PageRun) (part : Part) (parts : List Part) (found : Option PageRun) → slice_get pages part.page ≡ found → All IsOneLine (turn_lines found part)
    → All IsOneLine (lines_from (turned found part (record { text = []; pages = pages })).pages parts) → All IsOneLine (lines_from pages (part ∷ parts))
unfolding lines_from
fit_more pages part parts found at first later =
    All-append IsOneLine (turn_lines (slice_get pages part.page) part) (lines_from (parts_run pages (part ∷ [])).pages parts)
    (subst (λ (it : Option PageRun). All IsOneLine (turn_lines it part)) (sym at) first)
    (subst (λ (ps : List PageRun). All IsOneLine (lines_from ps parts)) (sym (pages-then pages part found at)) later)

-- a page says such lines at its own among these
abbrev Says : ℕ → List Part → PageRun → Type 0
Says place parts page = All IsOneLine (lines_run (numbers_at place parts) page.standing).lines

says-step : (place : ℕ) (part : Part) (parts : List Part) (pages : List PageRun) (page : PageRun) → slice_get pages place ≡ Some page
    → (found : Option PageRun) → slice_get pages part.page ≡ found → (part.page ≡ place) ⊎ (part.page ≡ place → ⊥) → All IsOneLine (turn_lines found part)
    → ((now : PageRun) → slice_get (parts_run pages (part ∷ [])).pages place ≡ Some now → Says place parts now) → Says place (part ∷ parts) page
says-step place part parts pages page at None found (inl same) fit later = absurd (none-some page (sym found ∙ ap (slice_get pages) same ∙ at))
says-step place part parts pages page at None found (inr other) fit later =
    subst (λ ns. All IsOneLine (lines_run ns page.standing).lines) (sym (other_number place part parts other))
    (later page (ap (λ (ps : List PageRun). slice_get ps place) (pages-then pages part None found) ∙ at))
says-step place part parts pages page at (Some it) found (inl same) fit later =
    let is : it ≡ page = same_Some it page (sym found ∙ ap (slice_get pages) same ∙ at) in
    let turn : Turn = turn_at part.line it.standing in
    let there : slice_get (parts_run pages (part ∷ [])).pages place ≡ Some (left_at it turn) =
    ap (λ (ps : List PageRun). slice_get ps place) (pages-then pages part (Some it) found)
    ∙ ap (slice_get (turned (Some it) part (record { text = []; pages = pages })).pages) (sym same)
    ∙ put_there pages part.page (left_at it turn) it found in
    subst (λ (now : PageRun). Says place (part ∷ parts) now) is
    (subst (λ ns. All IsOneLine (lines_run ns it.standing).lines) (sym (own_number place part parts same))
    (All-append IsOneLine turn.lines (lines_run (numbers_at place parts) turn.standing).lines fit (later (left_at it turn) there)))
says-step place part parts pages page at (Some it) found (inr other) fit later =
    let turn : Turn = turn_at part.line it.standing in
    subst (λ ns. All IsOneLine (lines_run ns page.standing).lines) (sym (other_number place part parts other))
    (later page (ap (λ (ps : List PageRun). slice_get ps place) (pages-then pages part (Some it) found) ∙ put_elsewhere pages part.page place (left_at it turn) other ∙ at))

pub says_from : (place : ℕ) (parts : List Part) (pages : List PageRun) (page : PageRun) → slice_get pages place ≡ Some page → All IsOneLine (lines_from pages parts) → Says place parts page
unfolding lines_from
says_from place [] pages page at fit = All-nil IsOneLine
says_from place (part ∷ parts) pages page at fit =
    let first = turn_lines (slice_get pages part.page) part in
    let behind = lines_from (parts_run pages (part ∷ [])).pages parts in
    says-step place part parts pages page at (slice_get pages part.page) refl (cases_eq part.page place) (lines_first first behind fit)
    (λ now there. says_from place parts (parts_run pages (part ∷ [])).pages now there (lines_then first behind fit))
