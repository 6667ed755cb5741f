-- What is written for a number, a judgement and a script's certificates.
use Rattle.std.proofs.Common.{◌≡◌, ◌≢◌, ◌∙◌, ℕ, ◌≤◌, List, [], ◌∷◌, ◌++◌, Option, Some, true, false, length, map, ap, refl, sym, subst}
use Rattle.std.proofs.lemmas.List.{length-map}
use Rattle.std.proofs.lemmas.List.Elements.{recursion_from_All}
use Rattle.std.specs.Prelude.{◌↔◌, IsTrue, Ok, codes, slice_get, option_map}
use Rattle.std.specs.List.{All, AllByRecursion}
use Rattle.word_model.specs.Numbers.{decimal}
use Rattle.script_model.specs.Generator.{generated}
use Rattle.script_model.specs.Reading.{reading}
use Rattle.script_model.specs.Syntax.{Item, Script as ScriptModel}
use Rattle.script_model.specs.TraceLines.{TraceLine}
use Rattle.script_model.specs.TraceText.{line_text}
use Rattle.script_text.specs.ScriptText.{printed}
use Rattle.page_model.specs.Outcome.{trace, bytes_of}
use Rattle.trace_text.specs.Ranges.{IsLine}
use Rattle.trace_summary.specs.Counts.{IsTrace}
use Rattle.trace_judge.specs.declared.judgement.Judgement.{Judgement}
use Rattle.trace_judge.specs.declared.judgement.Judgement.TheVariants.{Equal, Differs}
use Rattle.trace_judge.specs.Judging.{judgement}
use Rattle.trace_judge.specs.Lines.{lines_of}
use Rattle.trace_judge.specs.Recordings.{script_of, trace_of}
use Rattle.trace_judge.specs.Texts.{judgement_text}
use Rattle.stream_runs.specs.Alone.{EndsOnce}
use Rattle.stream_runs.proofs.Lines.{fed_line, fed_whole, no_lines}
use Rattle.loop_lint.specs.LoopHandlers.{is_empty, loop_handler_lines}
use Rattle.loop_lint.specs.Verdicts.{moves, disturbs, is_steady, is_quiet}
use Rattle.run_replies.specs.Answers.{Tells}
use Rattle.run_replies.specs.Certificates.{certificate_text, lint_text}
use Rattle.run_replies.specs.Replies.{Reply, done_with}
use Rattle.run_replies.specs.Words.{asked, number_of}
use Rattle.run_replies.specs.declared.status.Status.{Status}
use Rattle.run_replies.specs.declared.status.Status.TheVariants as status
use Rattle.run_replies.specs.declared.words.Job.{Job}
use Rattle.run_replies.specs.declared.words.Job.TheVariants.{Lint, Print}
use Rattle.run_replies.specs.declared.words.Words.TheVariants.{Generated, Judge, Script}
use Rattle.script_replay.specs.ScriptReplies.{read_reply, script_reply}
use Rattle.replay_run.specs.Replies.{judge_reply, judgement_reply, judgement_status, reply}
use Rattle.replay_run.specs.ReaderLaws.{steady_line, quiet_line}
use Rattle.replay_run.proofs.Judged.{judged_within}

-- a generated script ---------------------------------------------------------------------------------------------------------------------------

pub generate_asked : (word : List ℕ) → asked (codes "--generate" ∷ word ∷ []) ≡ option_map (Generated Print) (number_of word)
unfolding asked
generate_asked word = refl

pub generated_reply : (number : ℕ) → ((script : ScriptModel) × (reading (generated number) ≡ Ok script) × (printed script ≡ generated number))
    → read_reply Print (reading (generated number)) ≡ done_with (generated number)
unfolding read_reply script_reply
generated_reply number it = ap (read_reply Print) (it.1) ∙ ap done_with (it.2)

pub number_tells : (result : Status) (job : Job) (number : ℕ) (before after : Option (List ℕ)) (f g : ℕ) → job ≡ Print
    → ((script : ScriptModel) × (reading (generated number) ≡ Ok script) × (printed script ≡ generated number))
    → Tells result (done_with (generated number)) before after f g → Tells result (read_reply job (reading (generated number))) before after f g
number_tells result job number before after f g is it =
    subst (λ (reply : Reply). Tells result reply before after f g) (sym (ap (λ job. read_reply job (reading (generated number))) is ∙ generated_reply number it))

-- a judgement ----------------------------------------------------------------------------------------------------------------------------------

pub judge_asked : asked (codes "--judge" ∷ []) ≡ Some Judge
unfolding asked
judge_asked = refl

equal_if_done : (it : Judgement) → judgement_status it ≡ status.Done → (lines : ℕ) × (it ≡ Equal lines)
equal_if_done (Equal lines) is = (lines, refl)
equal_if_done (Differs line how) is = absurd (let no : status.Differs ≡ status.Done = is in cc)

module _ (law : (expected recorded : List ℕ) (lines : ℕ) → (judgement expected recorded ≡ Equal lines) ↔ ((expected ≡ recorded) × (lines ≡ length (lines_of expected))))
    (source : List ℕ) (fits : length source ≤ 67108864) where
  abbrev expected : List ℕ
  expected = trace (script_of source)

  abbrev it : Judgement
  it = judgement expected (trace_of source)

  status_is : judgement_status it ≡ (judge_reply source).status
  unfolding judgement_reply
  status_is = ap (λ (reply : Reply). reply.status) (judged_within source fits)

  same_is : expected ≡ trace_of source → it ≡ Equal (length (lines_of expected))
  same_is same = (law expected (trace_of source) (length (lines_of expected))).1 (same, refl)

  pub done_where_same : ((judge_reply source).status ≡ status.Done) ↔ (expected ≡ trace_of source)
  done_where_same = (
    (λ done. (let equal = equal_if_done it (status_is ∙ done) in ((law expected (trace_of source) (equal.0)).0 (equal.1)).0)),
    (λ same. sym status_is ∙ ap judgement_status (same_is same)),
  )

  pub equal_written : expected ≡ trace_of source → (judge_reply source).text ≡ codes "equal " ++ decimal (length (lines_of expected)) ++ (10 ∷ [])
  unfolding judgement_reply judgement_text
  equal_written same = sym (ap (λ (reply : Reply). reply.text) (judged_within source fits)) ∙ ap judgement_text (same_is same)

-- as many lines as the trace has
line_by_line : (law : (line : TraceLine) → IsLine line → (front : List ℕ) × (line_text line ≡ front ++ (10 ∷ [])) × All (λ byte. byte ≢ 10) front)
    → (lines : List TraceLine) → AllByRecursion IsLine lines → lines_of (bytes_of lines) ≡ map line_text lines
unfolding bytes_of
line_by_line law [] fit = no_lines
line_by_line law (line ∷ lines) fit =
    let once : EndsOnce (line_text line) = law line fit.0 in
    fed_whole (line_text line) once (bytes_of lines)
    ∙ ap (λ ls. ls ++ lines_of (bytes_of lines)) (fed_line (line_text line) once)
    ∙ ap (λ ls. line_text line ∷ ls) (line_by_line law lines fit.1)

pub as_many_lines : (law : (line : TraceLine) → IsLine line → (front : List ℕ) × (line_text line ≡ front ++ (10 ∷ [])) × All (λ byte. byte ≢ 10) front)
    → (text : List ℕ) (lines : List TraceLine) → IsTrace text lines → length (lines_of text) ≡ length lines
as_many_lines law text lines it =
    ap (λ bytes. length (lines_of bytes)) (sym it.makes) ∙ ap length (line_by_line law lines (recursion_from_All IsLine lines it.fit)) ∙ length-map lines line_text

-- certificates ---------------------------------------------------------------------------------------------------------------------------------

pub lint_asked : asked (codes "--lint" ∷ []) ≡ Some (Script Lint)
unfolding asked
lint_asked = refl

pub lint_written : (source : List ℕ) (script : ScriptModel) → reading source ≡ Ok script
    → reply (Script Lint) source ≡ done_with (steady_line script.items ++ quiet_line script.items)
unfolding read_reply script_reply lint_text steady_line quiet_line
lint_written source script is = ap (read_reply Lint) is

-- a line that begins with `u` is another one than that which is given
steady_given : (lines : List ℕ) → (certificate_text (codes "steady") (codes "unsteady ") (slice_get lines 0) ≡ codes "steady\n") ↔ IsTrue (is_empty lines)
steady_given [] = ((λ same. refl), (λ empty. refl))
steady_given (line ∷ lines) = ((λ same. absurd (let no : ⊥ = cc in no)), (λ wrong. absurd (let no : false ≡ true = wrong in cc)))

quiet_given : (lines : List ℕ) → (certificate_text (codes "quiet") (codes "unquiet ") (slice_get lines 0) ≡ codes "quiet\n") ↔ IsTrue (is_empty lines)
quiet_given [] = ((λ same. refl), (λ empty. refl))
quiet_given (line ∷ lines) = ((λ same. absurd (let no : ⊥ = cc in no)), (λ wrong. absurd (let no : false ≡ true = wrong in cc)))

pub steady_where : (items : List Item) → (steady_line items ≡ codes "steady\n") ↔ IsTrue (is_steady items)
unfolding steady_line is_steady
steady_where items = steady_given (loop_handler_lines moves items)

pub quiet_where : (items : List Item) → (quiet_line items ≡ codes "quiet\n") ↔ IsTrue (is_quiet items)
unfolding quiet_line is_quiet
quiet_where items = quiet_given (loop_handler_lines disturbs items)

-- a script with the same handlers and the same loop handlers has the same lines to blame
pub steady_too : (items other : List Item) → loop_handler_lines moves other ≡ loop_handler_lines moves items → steady_line items ≡ codes "steady\n" → IsTrue (is_steady other)
unfolding steady_line is_steady
steady_too items other same is = ap is_empty same ∙ (steady_given (loop_handler_lines moves items)).0 is

pub quiet_too : (items other : List Item) → loop_handler_lines disturbs other ≡ loop_handler_lines disturbs items → quiet_line items ≡ codes "quiet\n" → IsTrue (is_quiet other)
unfolding quiet_line is_quiet
quiet_too items other same is = ap is_empty same ∙ (quiet_given (loop_handler_lines disturbs items)).0 is
