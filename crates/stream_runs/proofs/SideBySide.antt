-- What a page says among others: its own lines alone say it.
use Rattle.std.proofs.Common.{◌≡◌, ◌∙◌, refl, sym, ap, subst, ◌⊎◌, inl, inr, ℕ, List, [], ◌∷◌, ◌++◌, length, append_assoc, Option, Some, None}
use Rattle.std.specs.Prelude.{slice_get, fold}
use Rattle.std.specs.List.{All}
use Rattle.std.proofs.lemmas.Bool.{cases_eq}
use Rattle.std.proofs.lemmas.List.{append-nil, take_at, drop_at}
use Rattle.std.proofs.lemmas.List.Concat.{flat_map-append}
use Rattle.std.proofs.lemmas.List.Elements.{All-take, All-drop}
use Rattle.std.proofs.lemmas.Option.{none-some, same_Some}
use Rattle.script_model.specs.TraceLines.{TraceLine}
use Rattle.script_model.specs.TraceText.{line_text}
use Rattle.page_model.specs.Outcome.{bytes_of}
use Rattle.page_stream.specs.declared.stream.Part.{Part}
use Rattle.stream_runs.specs.PageRuns.{PageRun, Turn, turn_at}
use Rattle.stream_runs.specs.StreamRuns.{StreamRun, named_text, with_turn, stream_step, text_of_page}
use Rattle.stream_runs.specs.Alone.{IsOneLine}
use Rattle.stream_runs.proofs.Lines.{IsWhole, whole_both}
use Rattle.stream_runs.proofs.Alone.{lines_run}
use Rattle.stream_runs.proofs.PageLines.{numbers_at}
use Rattle.stream_runs.proofs.Names.{IsName}
use Rattle.stream_runs.proofs.PageTexts.{text_both, named_whole, own_named, other_named}
use Rattle.stream_runs.proofs.PageTurns.{put_there, put_elsewhere, own_number, other_number, step_is, left_at}

pub bytes_both : (a b : List TraceLine) → bytes_of (a ++ b) ≡ bytes_of a ++ bytes_of b
unfolding bytes_of
bytes_both a b = flat_map-append line_text a b

pub lines_first : (a b : List TraceLine) → All IsOneLine (a ++ b) → All IsOneLine a
lines_first a b fit = subst (All IsOneLine) (take_at a b (length a) refl) (All-take IsOneLine (length a) (a ++ b) fit)

pub lines_then : (a b : List TraceLine) → All IsOneLine (a ++ b) → All IsOneLine b
lines_then a b fit = subst (All IsOneLine) (drop_at a b (length a) refl) (All-drop IsOneLine (length a) (a ++ b) fit)

-- the pages have these names; each says lines of a trace at its lines among these; and the text so far ends where a line ends
pub record Stands (names : List (List ℕ)) (parts : List Part) (run : StreamRun) : Type 0 where
  pub named : (q : ℕ) (page : PageRun) → slice_get run.pages q ≡ Some page → slice_get names q ≡ Some page.name
  pub says : (q : ℕ) (page : PageRun) → slice_get run.pages q ≡ Some page → All IsOneLine (lines_run (numbers_at q parts) page.standing).lines
  pub whole : IsWhole run.text

-- of what is written at these lines behind a text, this is a page's
abbrev IsSaid : List ℕ → List ℕ → List TraceLine → StreamRun → Type 0
IsSaid name before lines after = text_of_page name after.text ≡ text_of_page name before ++ bytes_of lines

module _ (names : List (List ℕ)) (are : (q : ℕ) (name : List ℕ) → slice_get names q ≡ Some name → IsName name)
    (apart : (i j : ℕ) (name : List ℕ) → slice_get names i ≡ Some name → slice_get names j ≡ Some name → i ≡ j) where
  stands-none : (part : Part) (parts : List Part) (run : StreamRun) → slice_get run.pages part.page ≡ None → Stands names (part ∷ parts) run → Stands names parts run
  stands-none part parts run none here = record {
    named = here.named;
    says = λ q page at.
        subst (λ ns. All IsOneLine (lines_run ns page.standing).lines) (other_number q part parts (λ same. none-some page (sym none ∙ ap (slice_get run.pages) same ∙ at)))
        (here.says q page at);
    whole = here.whole;
  }

  stands-some : (part : Part) (parts : List Part) (run : StreamRun) (it : PageRun) → slice_get run.pages part.page ≡ Some it → Stands names (part ∷ parts) run
      → Stands names parts (with_turn part.page it.name run (turn_at part.line it.standing))
  stands-some part parts run it found here = record {
    named = λ q page at. named-at q page at (cases_eq part.page q);
    says = λ q page at. says-at q page at (cases_eq part.page q);
    whole = whole_both run.text (named_text it.name turn.lines) here.whole (named_whole it.name turn.lines (are part.page it.name (here.named part.page it found)) (lines_first turn.lines _ said));
  }
    where
      turn : Turn
      turn = turn_at part.line it.standing

      said : All IsOneLine (turn.lines ++ (lines_run (numbers_at part.page parts) turn.standing).lines)
      said = subst (λ ns. All IsOneLine (lines_run ns it.standing).lines) (own_number part.page part parts refl) (here.says part.page it found)

      there : (q : ℕ) (page : PageRun) → slice_get (with_turn part.page it.name run turn).pages q ≡ Some page → part.page ≡ q → left_at it turn ≡ page
      there q page at same = same_Some (left_at it turn) page (sym (put_there run.pages part.page (left_at it turn) it found) ∙ ap (slice_get (with_turn part.page it.name run turn).pages) same ∙ at)

      elsewhere : (q : ℕ) (page : PageRun) → slice_get (with_turn part.page it.name run turn).pages q ≡ Some page → (part.page ≡ q → ⊥) → slice_get run.pages q ≡ Some page
      elsewhere q page at other = sym (put_elsewhere run.pages part.page q (left_at it turn) other) ∙ at

      named-at : (q : ℕ) (page : PageRun) → slice_get (with_turn part.page it.name run turn).pages q ≡ Some page → (part.page ≡ q) ⊎ (part.page ≡ q → ⊥) → slice_get names q ≡ Some page.name
      named-at q page at (inl same) =
          ap (slice_get names) (sym same) ∙ here.named part.page it found ∙ ap (λ (now : PageRun). Some now.name) (there q page at same)
      named-at q page at (inr other) = here.named q page (elsewhere q page at other)

      says-at : (q : ℕ) (page : PageRun) → slice_get (with_turn part.page it.name run turn).pages q ≡ Some page → (part.page ≡ q) ⊎ (part.page ≡ q → ⊥)
          → All IsOneLine (lines_run (numbers_at q parts) page.standing).lines
      says-at q page at (inl same) =
          subst (λ (now : PageRun). All IsOneLine (lines_run (numbers_at q parts) now.standing).lines) (there q page at same)
          (subst (λ (place : ℕ). All IsOneLine (lines_run (numbers_at place parts) turn.standing).lines) same
          (lines_then turn.lines (lines_run (numbers_at part.page parts) turn.standing).lines said))
      says-at q page at (inr other) =
          subst (λ ns. All IsOneLine (lines_run ns page.standing).lines) (other_number q part parts other) (here.says q page (elsewhere q page at other))

  module _ (place : ℕ) (name : List ℕ) (named : slice_get names place ≡ Some name) where
    said-step : (part : Part) (parts : List Part) (page : PageRun) (run : StreamRun) → Stands names (part ∷ parts) run → slice_get run.pages place ≡ Some page
        → (found : Option PageRun) → slice_get run.pages part.page ≡ found → (part.page ≡ place) ⊎ (part.page ≡ place → ⊥)
        → ((next : StreamRun) (now : PageRun) → Stands names parts next → slice_get next.pages place ≡ Some now
        → IsSaid name next.text (lines_run (numbers_at place parts) now.standing).lines (fold stream_step next parts))
        → IsSaid name run.text (lines_run (numbers_at place (part ∷ parts)) page.standing).lines (fold stream_step (stream_step run part) parts)
    said-step part parts page run here at None found (inl same) later =
        absurd (none-some page (sym found ∙ ap (slice_get run.pages) same ∙ at))
    said-step part parts page run here at None found (inr other) later =
        ap (λ next. text_of_page name (fold stream_step next parts).text) (step_is run part None found)
        ∙ later run page (stands-none part parts run found here) at
        ∙ ap (λ ns. text_of_page name run.text ++ bytes_of (lines_run ns page.standing).lines) (sym (other_number place part parts other))
    said-step part parts page run here at (Some it) found (inl same) later =
        ap (λ next. text_of_page name (fold stream_step next parts).text) (step_is run part (Some it) found)
        ∙ later next (left_at it turn) (stands-some part parts run it found here)
        (ap (slice_get next.pages) (sym same) ∙ put_there run.pages part.page (left_at it turn) it found)
        ∙ ap (λ text. text ++ bytes_of (lines_run (numbers_at place parts) turn.standing).lines) own
        ∙ append_assoc (text_of_page name run.text) (bytes_of turn.lines) (bytes_of (lines_run (numbers_at place parts) turn.standing).lines)
        ∙ ap (λ text. text_of_page name run.text ++ text) (sym (bytes_both turn.lines (lines_run (numbers_at place parts) turn.standing).lines))
        ∙ ap (λ ns. text_of_page name run.text ++ bytes_of (lines_run ns it.standing).lines) (sym (own_number place part parts same))
        ∙ ap (λ (now : PageRun). text_of_page name run.text ++ bytes_of (lines_run (numbers_at place (part ∷ parts)) now.standing).lines) is
      where
        turn : Turn
        turn = turn_at part.line it.standing

        next : StreamRun
        next = with_turn part.page it.name run turn

        is : it ≡ page
        is = same_Some it page (sym found ∙ ap (slice_get run.pages) same ∙ at)

        own-name : it.name ≡ name
        own-name = same_Some it.name name (sym (here.named part.page it found) ∙ ap (slice_get names) same ∙ named)

        fit : All IsOneLine turn.lines
        fit =
            lines_first turn.lines (lines_run (numbers_at part.page parts) turn.standing).lines
            (subst (λ ns. All IsOneLine (lines_run ns it.standing).lines) (own_number part.page part parts refl) (here.says part.page it found))

        own : text_of_page name (run.text ++ named_text it.name turn.lines) ≡ text_of_page name run.text ++ bytes_of turn.lines
        own =
            text_both name run.text (named_text it.name turn.lines) here.whole
            ∙ ap (λ (n : List ℕ). text_of_page name run.text ++ text_of_page name (named_text n turn.lines)) own-name
            ∙ ap (λ text. text_of_page name run.text ++ text) (own_named name turn.lines (are place name named) fit)
    said-step part parts page run here at (Some it) found (inr other) later =
        ap (λ next. text_of_page name (fold stream_step next parts).text) (step_is run part (Some it) found)
        ∙ later next page (stands-some part parts run it found here) (put_elsewhere run.pages part.page place (left_at it turn) other ∙ at)
        ∙ ap (λ text. text ++ bytes_of (lines_run (numbers_at place parts) page.standing).lines) none
        ∙ ap (λ ns. text_of_page name run.text ++ bytes_of (lines_run ns page.standing).lines) (sym (other_number place part parts other))
      where
        turn : Turn
        turn = turn_at part.line it.standing

        next : StreamRun
        next = with_turn part.page it.name run turn

        there : slice_get names part.page ≡ Some it.name
        there = here.named part.page it found

        fit : All IsOneLine turn.lines
        fit =
            lines_first turn.lines (lines_run (numbers_at part.page parts) turn.standing).lines
            (subst (λ ns. All IsOneLine (lines_run ns it.standing).lines) (own_number part.page part parts refl) (here.says part.page it found))

        none : text_of_page name (run.text ++ named_text it.name turn.lines) ≡ text_of_page name run.text
        none =
            text_both name run.text (named_text it.name turn.lines) here.whole
            ∙ ap (λ text. text_of_page name run.text ++ text)
            (other_named name it.name turn.lines (are place name named) (are part.page it.name there)
            (λ same. other (apart part.page place name (there ∙ ap (λ (n : List ℕ). Some n) same) named)) fit)
            ∙ append-nil (text_of_page name run.text)

    -- a page says what its lines alone say
    pub page_said : (parts : List Part) (page : PageRun) (run : StreamRun) → Stands names parts run → slice_get run.pages place ≡ Some page
        → IsSaid name run.text (lines_run (numbers_at place parts) page.standing).lines (fold stream_step run parts)
    unfolding bytes_of
    page_said [] page run here at = sym (append-nil (text_of_page name run.text))
    page_said (part ∷ parts) page run here at =
        said-step part parts page run here at (slice_get run.pages part.page) refl (cases_eq part.page place) (λ next now stands there. page_said parts now next stands there)
