-- A page among others: only its own lines touch it.
use Rattle.std.proofs.Common.{◌≡◌, ◌∙◌, refl, sym, ap, ◌⊎◌, inl, inr, ℕ, zero, suc, cond, List, [], ◌∷◌, map, Option, Some, None}
use Rattle.std.specs.Prelude.{slice_get, slice_set, fold}
use Rattle.std.proofs.lemmas.Bool.{cases_eq, eq-eqb, ne_eqb}
use Rattle.std.proofs.lemmas.Option.{none-some, same_Some}
use Rattle.page_stream.specs.declared.stream.Part.{Part}
use Rattle.stream_runs.specs.PageRuns.{PageRun, Turn, turn_at}
use Rattle.stream_runs.specs.StreamRuns.{StreamRun, with_turn, turned, stream_step}
use Rattle.stream_runs.proofs.Alone.{lines_run}
use Rattle.stream_runs.proofs.PageLines.{of_page, numbers_at}

-- ---- places of a list

pub put_there : {A : Type 0} (xs : List A) (i : ℕ) (x y : A) → slice_get xs i ≡ Some y → slice_get (slice_set xs i x) i ≡ Some x
put_there [] i x y at = absurd (none-some y at)
put_there (z ∷ zs) zero x y at = refl
put_there (z ∷ zs) (suc i) x y at = put_there zs i x y at

pub put_elsewhere : {A : Type 0} (xs : List A) (i j : ℕ) (x : A) → (i ≡ j → ⊥) → slice_get (slice_set xs i x) j ≡ slice_get xs j
put_elsewhere [] i j x apart = refl
put_elsewhere (z ∷ zs) zero zero x apart = absurd (apart refl)
put_elsewhere (z ∷ zs) zero (suc j) x apart = refl
put_elsewhere (z ∷ zs) (suc i) zero x apart = refl
put_elsewhere (z ∷ zs) (suc i) (suc j) x apart = put_elsewhere zs i j x (λ same. apart (ap suc same))

-- ---- a line more

pub own_number : (place : ℕ) (part : Part) (parts : List Part) → part.page ≡ place → numbers_at place (part ∷ parts) ≡ part.line ∷ numbers_at place parts
own_number place part parts is =
    ap (λ here. map (λ (it : Part). it.line) (cond here (part ∷ of_page place parts) (of_page place parts))) (eq-eqb part.page place is)

pub other_number : (place : ℕ) (part : Part) (parts : List Part) → (part.page ≡ place → ⊥) → numbers_at place (part ∷ parts) ≡ numbers_at place parts
other_number place part parts other =
    ap (λ here. map (λ (it : Part). it.line) (cond here (part ∷ of_page place parts) (of_page place parts))) (ne_eqb part.page place other)

pub step_is : (run : StreamRun) (part : Part) (found : Option PageRun) → slice_get run.pages part.page ≡ found → stream_step run part ≡ turned found part run
unfolding stream_step
step_is run part found at = ap (λ page. turned page part run) at

-- ---- how the page stands

-- a page behind a turn
abbrev pub left_at : PageRun → Turn → PageRun
left_at page turn = record { name = page.name; standing = turn.standing }

-- a page of these behind these lines
abbrev IsLeft : ℕ → List Part → PageRun → StreamRun → Type 0
IsLeft place parts page after = slice_get after.pages place ≡ Some (left_at page (lines_run (numbers_at place parts) page.standing))

left-step : (place : ℕ) (part : Part) (parts : List Part) (page : PageRun) (run : StreamRun) → slice_get run.pages place ≡ Some page
    → (found : Option PageRun) → slice_get run.pages part.page ≡ found → (part.page ≡ place) ⊎ (part.page ≡ place → ⊥)
    → ((next : StreamRun) (now : PageRun) → slice_get next.pages place ≡ Some now → IsLeft place parts now (fold stream_step next parts))
    → IsLeft place (part ∷ parts) page (fold stream_step (stream_step run part) parts)
left-step place part parts page run at None found (inl same) later =
    absurd (none-some page (sym found ∙ ap (slice_get run.pages) same ∙ at))
left-step place part parts page run at None found (inr other) later =
    ap (λ next. slice_get (fold stream_step next parts).pages place) (step_is run part None found)
    ∙ later run page at
    ∙ ap (λ ns. Some (left_at page (lines_run ns page.standing))) (sym (other_number place part parts other))
left-step place part parts page run at (Some it) found (inl same) later =
    let is : it ≡ page = same_Some it page (sym found ∙ ap (slice_get run.pages) same ∙ at) in
    let turn : Turn = turn_at part.line page.standing in
    let next : StreamRun = with_turn part.page page.name run turn in
    ap (λ next. slice_get (fold stream_step next parts).pages place) (step_is run part (Some it) found ∙ ap (λ (found : PageRun). turned (Some found) part run) is)
    ∙ later next (left_at page turn) (ap (slice_get next.pages) (sym same) ∙ put_there run.pages part.page (left_at page turn) it found)
    ∙ ap (λ ns. Some (left_at page (lines_run ns page.standing))) (sym (own_number place part parts same))
left-step place part parts page run at (Some it) found (inr other) later =
    let turn : Turn = turn_at part.line it.standing in
    let next : StreamRun = with_turn part.page it.name run turn in
    ap (λ next. slice_get (fold stream_step next parts).pages place) (step_is run part (Some it) found)
    ∙ later next page (put_elsewhere run.pages part.page place (left_at it turn) other ∙ at)
    ∙ ap (λ ns. Some (left_at page (lines_run ns page.standing))) (sym (other_number place part parts other))

-- a page stands as if its lines were alone
pub page_left : (place : ℕ) (parts : List Part) (page : PageRun) (run : StreamRun) → slice_get run.pages place ≡ Some page → IsLeft place parts page (fold stream_step run parts)
page_left place [] page run at = at
page_left place (part ∷ parts) page run at =
    left-step place part parts page run at (slice_get run.pages part.page) refl (cases_eq part.page place) (λ next now there. page_left place parts now next there)
