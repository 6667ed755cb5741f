-- Texts written line by line, and texts of which nothing was written.
use Rattle.std.proofs.Common.{◌≡◌, ◌∙◌, refl, ap, sym, subst, ℕ, ◌≤◌, List, [], ◌∷◌, ◌++◌, length, Option, append_assoc, arith}
use Rattle.std.proofs.lemmas.List.{append-nil}
use Rattle.std.specs.Io.KnownBytes.{Appends}
use Rattle.text_io.specs.Streams.{Rose, TakesPart}
use Rattle.std.specs.Prelude.{Ok, codes, slice_get}
use Rattle.word_model.specs.Numbers.{decimal}
use Rattle.script_model.specs.Syntax.{Item, Script}
use Rattle.script_model.specs.Scripts.{command_count}
use Rattle.page_model.specs.Outcome.{check_read}
use Rattle.trace_runs.specs.Writes.{AppendsPart}
use Rattle.trace_runs.proofs.Writes.{both, part_begins, part_behind, part_taken}
use Rattle.text_lines.specs.Lines.{first_line, behind_line}
use Rattle.trace_summary.proofs.Rows.{Writing}
use Rattle.text_lines.proofs.Splits.{line_splits}
use Rattle.loop_lint.specs.LoopHandlers.{loop_handler_lines}
use Rattle.loop_lint.specs.Verdicts.{moves, disturbs}
use Rattle.run_replies.specs.Answers.{Tells}
use Rattle.run_replies.specs.Replies.{done_with}
use Rattle.run_replies.specs.Certificates.{certificate_text, lint_text}
use Rattle.run_replies.specs.declared.status.Status.TheVariants.{Done, WriteFault}

-- a line more
pub line_written : {before mid after : Option (List ℕ)} {f fm g : ℕ} {whole : List ℕ} (rest line behind : List ℕ) → line ≡ first_line rest → behind ≡ behind_line rest
    → Writing before mid f fm whole rest → Appends mid after line → g ≡ fm → Writing before after f g whole behind
line_written {before} {mid} {after} rest line behind is left here wrote unfailed = record {
  part = here.part ++ line;
  makes =
      append_assoc here.part line behind
      ∙ ap (λ (text : List ℕ). here.part ++ (text ++ behind)) is
      ∙ ap (λ (text : List ℕ). here.part ++ (first_line rest ++ text)) left
      ∙ ap (λ (text : List ℕ). here.part ++ text) (line_splits rest)
      ∙ here.makes;
  written = both before mid after here.part line here.written wrote;
  unfailed = unfailed ∙ here.unfailed;
}

-- a line that failed
pub line_failed : (before mid after : Option (List ℕ)) (f fm g : ℕ) (whole rest line behind : List ℕ) → line ≡ first_line rest → behind ≡ behind_line rest
    → Writing before mid f fm whole rest → TakesPart mid after line → Rose fm g → Tells WriteFault (done_with whole) before after f g
line_failed before mid after f fm g whole rest line behind is left here took rose = record {
  part = subst (λ (text : List ℕ). AppendsPart before after text) whole-is (part_behind before here.part here.written (part_begins behind (part_taken mid after line took)));
  rose = subst (λ (count : ℕ). Rose count g) here.unfailed rose;
}
  where
    whole-is : here.part ++ (line ++ behind) ≡ whole
    whole-is =
        ap (λ (text : List ℕ). here.part ++ (text ++ behind)) is
        ∙ ap (λ (text : List ℕ). here.part ++ (first_line rest ++ text)) left
        ∙ ap (λ (text : List ℕ). here.part ++ text) (line_splits rest)
        ∙ here.makes

-- no line is left
pub lines_written : (before now : Option (List ℕ)) (f g : ℕ) (whole rest : List ℕ) → length rest ≤ 0 → Writing before now f g whole rest → Tells Done (done_with whole) before now f g
lines_written before now f g whole [] none here =
    (refl, subst (λ (text : List ℕ). Appends before now text) (sym (append-nil here.part) ∙ here.makes) here.written, here.unfailed)
lines_written before now f g whole (b ∷ bs) none here = absurd (omega arith)

-- the line of a check, part by part
pub count_text : (count : ℕ) (script : Script) (first second whole : List ℕ) → first ≡ codes "ok " → second ≡ first ++ decimal count → whole ≡ second ++ (10 ∷ [])
    → count ≡ command_count (script.items) → whole ≡ check_read (Ok script)
unfolding check_read
count_text count script first second whole a b c is =
    c ∙ ap (λ text. text ++ (10 ∷ [])) (b ∙ ap (λ text. text ++ decimal count) a) ∙ ap (λ (n : ℕ). (codes "ok " ++ decimal n) ++ (10 ∷ [])) is

-- the two lines of a script's certificates
pub lint_written : (items : List Item) (steady quiet : Option ℕ) (none first whole : List ℕ) → none ≡ []
    → steady ≡ slice_get (loop_handler_lines moves items) 0 → first ≡ none ++ certificate_text (codes "steady") (codes "unsteady ") steady
    → quiet ≡ slice_get (loop_handler_lines disturbs items) 0 → whole ≡ first ++ certificate_text (codes "quiet") (codes "unquiet ") quiet → whole ≡ lint_text items
unfolding lint_text
lint_written items steady quiet none first whole empty moved steadily disturbed quietly =
    quietly
    ∙ ap (λ (text : List ℕ). text ++ certificate_text (codes "quiet") (codes "unquiet ") quiet)
    (steadily ∙ ap (λ (text : List ℕ). text ++ certificate_text (codes "steady") (codes "unsteady ") steady) empty)
    ∙ ap (λ (line : Option ℕ). certificate_text (codes "steady") (codes "unsteady ") line ++ certificate_text (codes "quiet") (codes "unquiet ") quiet) moved
    ∙ ap (λ (line : Option ℕ). certificate_text (codes "steady") (codes "unsteady ") (slice_get (loop_handler_lines moves items) 0) ++ certificate_text (codes "quiet") (codes "unquiet ") line) disturbed
