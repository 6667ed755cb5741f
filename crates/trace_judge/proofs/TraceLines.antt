-- Which texts are lines of a trace, as the code reads them.
use Rattle.std.proofs.Common.{◌≡◌, ◌∙◌, refl, sym, ap, subst, ℕ, ◌<◌, true, false, List, length, Option, Some, None}
use Rattle.std.specs.Prelude.{Result, Ok, Err, is_some, is_ok, IfOk, OnErr}
use Rattle.std.proofs.lemmas.Bool.{false≢true, false_from_ne_true}
use Rattle.script_model.specs.TraceLines.{TraceLine}
use Rattle.script_model.specs.TraceText.{line_text}
use Rattle.trace_text.specs.declared.TraceLine.{TraceLine as LineValue}
use Rattle.trace_text.specs.declared.TraceFault.{TraceFault}
use Rattle.trace_text.specs.Seen.{seen_line}
use Rattle.trace_text.specs.Ranges.{IsLine}
use Rattle.trace_text.specs.Reading.{line_of}
use Rattle.trace_text.proofs.Whole.{read_sound, read_complete}
use Rattle.trace_judge.specs.Lines.{is_trace_line}
use Rattle.trace_judge.proofs.Lengths.{line_short}

by_read : (text : List ℕ) (read : Option TraceLine) → line_of text ≡ read → is_some read ≡ true → (line : TraceLine) × IsLine line × (line_text line ≡ text)
by_read text None is some = absurd (false≢true some)
by_read text (Some line) is some = let sound = read_sound text line is in (line, sound.1, sound.0)

pub trace_line_read : (text : List ℕ) → is_trace_line text ≡ true → (line : TraceLine) × IsLine line × (line_text line ≡ text)
unfolding is_trace_line
trace_line_read text is = by_read text (line_of text) refl is

pub trace_line_is : (text : List ℕ) (line : TraceLine) → IsLine line → line_text line ≡ text → is_trace_line text ≡ true
unfolding is_trace_line
trace_line_is text line is same = ap is_some (ap line_of (sym same) ∙ read_complete line is)

pub no_trace_line : (text : List ℕ) → ((line : TraceLine) → IsLine line → line_text line ≡ text → ⊥) → is_trace_line text ≡ false
no_trace_line text none = false_from_ne_true (is_trace_line text) (λ is. let read = trace_line_read text is in none read.0 read.1 read.2)

pub trace_line_short : (text : List ℕ) → is_trace_line text ≡ true → length text < 4096
trace_line_short text is =
    let read = trace_line_read text is in
    subst (λ (t : List ℕ). length t < 4096) read.2 (line_short read.0 read.1)

-- what the reader answers
pub answered : (text : List ℕ) (read : Result LineValue TraceFault) → IfOk read (λ line. line_text (seen_line line) ≡ text) → IfOk read (λ line. IsLine (seen_line line))
    → OnErr read ((line : TraceLine) → IsLine line → line_text line ≡ text → ⊥) → is_ok read ≡ is_trace_line text
answered text (Ok line) same is none = sym (trace_line_is text (seen_line line) is same)
answered text (Err fault) same is none = sym (no_trace_line text none)
