-- Each page of a stream is as if its script ran alone.
use Rattle.std.proofs.Common.{◌≡◌, ◌∙◌, refl, sym, ap, subst, ℕ, List, ◌++◌, length, Some}
use Rattle.std.specs.Prelude.{slice_get, option_map, fold}
use Rattle.std.specs.List.{All}
use Rattle.std.proofs.lemmas.List.Elements.{All-append}
use Rattle.script_model.specs.Reading.{reading}
use Rattle.script_model.specs.TraceLines.{TraceLine}
use Rattle.page_model.specs.Outcome.{Ending, Outcome, bytes_of, outcome, outcome_read, trace}
use Rattle.page_stream.specs.Pages.{pages_of}
use Rattle.page_stream.specs.Parts.{parts_of, script_of}
use Rattle.stream_runs.specs.PageRuns.{PageScript, PageRun, Turn, opened, opened_with, ending_at, refused_lines}
use Rattle.stream_runs.specs.StreamRuns.{StreamRun, scripts_of, stream_opened, stream_step, stream_run, text_of_page}
use Rattle.stream_runs.specs.Alone.{IsPage, IsOneLine, SayLines, opening_lines, lines_from, stream_lines}
use Rattle.stream_runs.proofs.Alone.{lines_run, IsOutcome, as_alone}
use Rattle.stream_runs.proofs.PageLines.{of_page, numbers_at, page_numbers, script_few}
use Rattle.stream_runs.proofs.ScriptLines.{FormLaw, LengthLaw, items_fit}
use Rattle.stream_runs.proofs.Names.{IsName, page_name, page_place}
use Rattle.stream_runs.proofs.PageTurns.{page_left}
use Rattle.stream_runs.proofs.SideBySide.{Stands, bytes_both, lines_first, lines_then, page_said}
use Rattle.stream_runs.proofs.Said.{refused_fit, says_from}
use Rattle.stream_runs.proofs.Opening.{script_at, AreFit, script_there, page_there, opened_there, opened_page, opening_whole, opening_own}

outcome-is : (text : List ℕ) → outcome text ≡ outcome_read (reading text)
unfolding outcome
outcome-is text = refl

run-is : (source : List ℕ) → stream_run source ≡ fold stream_step (stream_opened (scripts_of source)) (parts_of source)
unfolding stream_run
run-is source = refl

trace-is : (text : List ℕ) → trace text ≡ bytes_of (outcome text).lines
unfolding trace
trace-is text = refl

module _ (form : FormLaw) (long : LengthLaw) (source : List ℕ) where
  whole-page : (place : ℕ) → IsOutcome (reading (script_of place source)) (lines_run (numbers_at place (parts_of source)) (opened_with (reading (script_of place source))))
  whole-page place =
      subst (λ ns. IsOutcome (reading (script_of place source)) (lines_run ns (opened_with (reading (script_of place source))))) (sym (page_numbers place source))
      (as_alone (length (of_page place (parts_of source))) (reading (script_of place source))
      (items_fit form long (script_of place source) (length (of_page place (parts_of source))) (script_few place source)))

  -- ---- how a page ends

  pub ends_alone : (place : ℕ) (name : List ℕ) → IsPage source place name
      → option_map (λ page. ending_at page.standing) (slice_get (stream_run source).pages place) ≡ Some (outcome (script_of place source)).ending
  ends_alone place name at =
      let ending : PageRun → Ending = λ (page : PageRun). ending_at page.standing in
      ap (λ (run : StreamRun). option_map ending (slice_get run.pages place)) (run-is source)
      ∙ ap (option_map ending)
      (page_left place (parts_of source) (opened (script_at source place name)) (stream_opened (scripts_of source)) (opened_there source place name at))
      ∙ ap Some (whole-page place).ending
      ∙ ap (λ (it : Outcome). Some it.ending) (sym (outcome-is (script_of place source)))

  -- ---- what the lines are that it says

  module _ (fit : All IsOneLine (stream_lines source)) where
    abbrev turns : List TraceLine
    turns = lines_from (stream_opened (scripts_of source)).pages (parts_of source)

    both-fit : All IsOneLine (opening_lines (scripts_of source) ++ turns)
    unfolding stream_lines
    both-fit = fit

    pub lines_said : SayLines source
    lines_said place name at =
        let refused : List TraceLine = refused_lines (reading (script_of place source)) in
        let turn : Turn = lines_run (numbers_at place (parts_of source)) (opened_with (reading (script_of place source))) in
        subst (All IsOneLine) ((whole-page place).lines ∙ ap (λ (it : Outcome). it.lines) (sym (outcome-is (script_of place source))))
        (All-append IsOneLine refused turn.lines
        (refused_fit (scripts_of source) place (script_at source place name) (script_there source place name at) (lines_first (opening_lines (scripts_of source)) turns both-fit))
        (says_from place (parts_of source) (stream_opened (scripts_of source)).pages (opened (script_at source place name)) (opened_there source place name at) (lines_then (opening_lines (scripts_of source)) turns both-fit)))

  -- ---- what is said of a page

  module _ (says : SayLines source) where
    lines-fit : (place : ℕ) (name : List ℕ) → IsPage source place name
        → All IsOneLine (refused_lines (reading (script_of place source)) ++ (lines_run (numbers_at place (parts_of source)) (opened_with (reading (script_of place source)))).lines)
    lines-fit place name at =
        subst (All IsOneLine) (ap (λ (it : Outcome). it.lines) (outcome-is (script_of place source)) ∙ sym (whole-page place).lines) (says place name at)

    are-fit : AreFit (scripts_of source)
    are-fit place script at =
        let page = page_there source place script at in
        subst (λ (it : PageScript). IsName it.name × All IsOneLine (refused_lines it.read)) page.2
        (page_name source place page.0 page.1, lines_first (refused_lines (reading (script_of place source))) _ (lines-fit place page.0 page.1))

    stands : Stands (pages_of source) (parts_of source) (stream_opened (scripts_of source))
    stands = record {
      named = λ q page at. let it = opened_page source q page at in it.1 ∙ ap (λ (now : PageRun). Some now.name) it.2;
      says = λ q page at.
          let it = opened_page source q page at in
          subst (λ (now : PageRun). All IsOneLine (lines_run (numbers_at q (parts_of source)) now.standing).lines) it.2
          (lines_then (refused_lines (reading (script_of q source))) _ (lines-fit q it.0 it.1));
      whole = opening_whole (scripts_of source) are-fit;
    }

    one-place : (place : ℕ) (name : List ℕ) → IsPage source place name → (other : ℕ) (script : PageScript) → slice_get (scripts_of source) other ≡ Some script → script.name ≡ name → other ≡ place
    one-place place name at other script there same =
        let page = page_there source other script there in
        page_place source other place name (page.1 ∙ ap (λ (n : List ℕ). Some n) (ap (λ (it : PageScript). it.name) page.2 ∙ same)) at

    pub said_alone : (place : ℕ) (name : List ℕ) → IsPage source place name → text_of_page name (stream_run source).text ≡ trace (script_of place source)
    said_alone place name at =
        let refused : List TraceLine = refused_lines (reading (script_of place source)) in
        let turn : Turn = lines_run (numbers_at place (parts_of source)) (opened_with (reading (script_of place source))) in
        ap (λ (run : StreamRun). text_of_page name run.text) (run-is source)
        ∙ page_said (pages_of source) (page_name source) (page_place source) place name at (parts_of source) (opened (script_at source place name)) (stream_opened (scripts_of source)) stands
        (opened_there source place name at)
        ∙ ap (λ text. text ++ bytes_of turn.lines)
        (opening_own place (script_at source place name) (scripts_of source) are-fit (script_there source place name at) (one-place place name at))
        ∙ sym (bytes_both refused turn.lines)
        ∙ ap bytes_of (whole-page place).lines
        ∙ ap (λ (it : Outcome). bytes_of it.lines) (sym (outcome-is (script_of place source)))
        ∙ sym (trace-is (script_of place source))
