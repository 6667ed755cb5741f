-- What is written of a text that is refused, and of a run's summary.
use Rattle.std.proofs.Common.{◌≡◌, ◌∙◌, refl, ap, sym, subst, ℕ, List, [], ◌∷◌, ◌++◌, Option, Some}
use Rattle.std.proofs.lemmas.List.Elements.{All-append}
use Rattle.std.specs.Prelude.{Result, Ok, Err, IsOk, IfOk, OnErr, false}
use Rattle.text_io.specs.declared.kinds.LimitKind.{LimitKind}
use Rattle.script_model.specs.Reading.{Refusal, SyntaxAt, LimitAt, refusal_line}
use Rattle.script_model.specs.Summary.{summary_text}
use Rattle.script_model.specs.TraceLines.{TraceLine, LimitLine}
use Rattle.script_model.specs.TraceText.{line_text}
use Rattle.page_model.specs.Outcome.{bytes_of, refused_ending}
use Rattle.trace_text.specs.Ranges.{IsLine}
use Rattle.trace_runs.specs.declared.faults.RunFault.{RunFault}
use Rattle.trace_runs.specs.declared.faults.RunFault.TheVariants as fault
use Rattle.trace_runs.specs.Writes.{Says, Told, Wrote}
use Rattle.trace_runs.proofs.Lines.{bytes_both, bytes_one}
use Rattle.trace_summary.specs.Counts.{IsTrace, summary_of, rows_text}
use Rattle.trace_summary.specs.declared.summary.Summary.{Summary}
use Rattle.run_replies.specs.Answers.{Tells}
use Rattle.run_replies.specs.Replies.{refused_with}
use Rattle.run_replies.specs.Statuses.{is_done, status_after, status_at}
use Rattle.run_replies.specs.declared.status.Status.{Status}
use Rattle.run_replies.specs.declared.status.Status.TheVariants.{Done, Syntax, Limit, NoMemory, ReadFault, WriteFault, Usage, Differs}

-- whether all was written with a status
abbrev pub IsWhole : Status → Type 0
IsWhole Done = Unit {0}
IsWhole Syntax = Unit {0}
IsWhole Limit = Unit {0}
IsWhole Differs = Unit {0}
IsWhole status = ⊥

-- a reply whose text was written whole, or stopped
pub wrote_tells : {A : Type 0} (r : Result A RunFault) (status : Status) (text : List ℕ) (before after : Option (List ℕ)) (f g : ℕ) → IsWhole status → Wrote r before after f g text
    → Tells (status_after r status) (record { text = text; status = status }) before after f g
wrote_tells (Ok done) Done text before after f g whole w = (refl, w.0, w.1)
wrote_tells (Ok done) Syntax text before after f g whole w = (refl, w.0, w.1)
wrote_tells (Ok done) Limit text before after f g whole w = (refl, w.0, w.1)
wrote_tells (Ok done) Differs text before after f g whole w = (refl, w.0, w.1)
wrote_tells (Ok done) status text before after f g whole w = absurd whole
wrote_tells (Err (fault.Limit kind line number)) status text before after f g whole w = absurd w
wrote_tells (Err fault.Memory) status text before after f g whole w = w
wrote_tells (Err fault.WriteFault) status text before after f g whole w = w

pub wrote_of : {A : Type 0} (r : Result A RunFault) (lines : List TraceLine) (before after : Option (List ℕ)) (f g : ℕ) → Told r before after f g lines
    → Wrote r before after f g (bytes_of lines)
wrote_of (Ok done) lines before after f g w = (w.0.written, w.1)
wrote_of (Err (fault.Limit kind line number)) lines before after f g w = absurd w
wrote_of (Err fault.Memory) lines before after f g w = w
wrote_of (Err fault.WriteFault) lines before after f g w = w

-- a text that is refused, by the line that says so

whole-refused : (refusal : Refusal) → IsWhole (status_at (refused_ending refusal))
whole-refused (SyntaxAt line column) = tt
whole-refused (LimitAt limit line) = tt

pub refused_tells : {A : Type 0} (r : Result A RunFault) (refusal : Refusal) (before after : Option (List ℕ)) (f g : ℕ) → Told r before after f g (refusal_line refusal ∷ [])
    → Tells (status_after r (status_at (refused_ending refusal))) (refused_with refusal) before after f g
refused_tells r refusal before after f g told =
    let status = status_at (refused_ending refusal) in
    subst (λ (text : List ℕ). Tells (status_after r status) (record { text = text; status = status }) before after f g) (sym (bytes_one (refusal_line refusal)))
    (wrote_tells r status (bytes_of (refusal_line refusal ∷ [])) before after f g (whole-refused refusal) (wrote_of r (refusal_line refusal ∷ []) before after f g told))

-- what was gathered in memory is the text of a trace
pub gathered_trace : (before after : List ℕ) (lines : List TraceLine) → before ≡ [] → Says (Some before) (Some after) lines → IsTrace after lines
gathered_trace before after lines none said = record { fit = said.fit; makes = sym (said.written ∙ ap (λ t. t ++ bytes_of lines) none) }

pub gathered_more : (before after : List ℕ) (lines more : List TraceLine) → IsTrace before lines → Says (Some before) (Some after) more → IsTrace after (lines ++ more)
gathered_more before after lines more it said = record {
  fit = All-append IsLine lines more it.fit said.fit;
  makes = sym (bytes_both lines more) ∙ ap (λ t. t ++ bytes_of more) it.makes ∙ sym said.written;
}

-- with a line behind it
with_line : (before after : List ℕ) (line : TraceLine) → Says (Some before) (Some after) (line ∷ []) → after ≡ before ++ line_text line
with_line before after line said = said.written ∙ ap (λ t. before ++ t) (sym (bytes_one line))

-- the text of a trace is read, and its summary is that of some lines of this text
pub is_read : {E : Type 0} (result : Result Summary E) (text : List ℕ) → OnErr result ((lines : List TraceLine) → IsTrace text lines → ⊥)
    → ((lines : List TraceLine) × IsTrace text lines) → IsOk result
is_read (Ok summary) text none some = refl
is_read (Err refusal) text none some = absurd (none some.0 some.1)

pub summary_found : {E : Type 0} (result : Result Summary E) (text : List ℕ) (summary : Summary) → result ≡ Ok summary
    → IfOk result (λ it. (lines : List TraceLine) × IsTrace text lines × (it ≡ summary_of lines))
    → (lines : List TraceLine) × IsTrace text lines × (summary ≡ summary_of lines)
summary_found {E = E} result text summary is found =
    subst (λ (it : Result Summary E). IfOk it (λ it. (lines : List TraceLine) × IsTrace text lines × (it ≡ summary_of lines))) is found

-- a summary that was written of the lines that were read
pub summary_wrote : {A : Type 0} (r : Result A RunFault) (before after : Option (List ℕ)) (f g : ℕ) (summary : Summary) (found lines : List TraceLine) → summary ≡ summary_of found → found ≡ lines
    → rows_text (summary_of lines) ≡ summary_text lines → Wrote r before after f g (rows_text summary) → Wrote r before after f g (summary_text lines)
summary_wrote r before after f g summary found lines is same rows wrote =
    subst (λ (text : List ℕ). Wrote r before after f g text) (ap rows_text (is ∙ ap summary_of same) ∙ rows) wrote

-- with the line of a limit behind the trace
pub limit_tells : {A : Type 0} (r : Result A RunFault) (kind : LimitKind) (line most : ℕ) (gathered taken : List ℕ) (status : Status) (before after : Option (List ℕ)) (f g : ℕ) (lines : List TraceLine)
    → Says (Some gathered) (Some taken) (LimitLine kind line most ∷ []) → IsTrace gathered lines
    → ((all : List TraceLine) → IsTrace taken all → Wrote r before after f g (summary_text all)) → status ≡ status_after r Limit
    → Tells status (record { text = summary_text (lines ++ (LimitLine kind line most ∷ [])); status = Limit }) before after f g
limit_tells r kind line most gathered taken status before after f g lines said is wrote status_is =
    let all : List TraceLine = lines ++ (LimitLine kind line most ∷ []) in
    let more = gathered_more gathered taken lines (LimitLine kind line most ∷ []) is said in
    subst (λ (s : Status). Tells s (record { text = summary_text all; status = Limit }) before after f g) (sym status_is)
    (wrote_tells r Limit (summary_text all) before after f g tt (wrote all more))

-- the same by the whole text
pub whole_tells : {A : Type 0} (r : Result A RunFault) (limit : TraceLine) (gathered taken : List ℕ) (status : Status) (before after : Option (List ℕ)) (f g : ℕ) (lines : List TraceLine)
    → Says (Some gathered) (Some taken) (limit ∷ []) → IsTrace (gathered ++ line_text limit) lines → ((all : List TraceLine) → IsTrace taken all → Wrote r before after f g (summary_text all))
    → status ≡ status_after r Limit → Tells status (record { text = summary_text lines; status = Limit }) before after f g
whole_tells r limit gathered taken status before after f g lines said is wrote status_is =
    subst (λ (s : Status). Tells s (record { text = summary_text lines; status = Limit }) before after f g) (sym status_is)
    (wrote_tells r Limit (summary_text lines) before after f g tt
    (wrote lines (subst (λ (text : List ℕ). IsTrace text lines) (sym (with_line gathered taken limit said)) is)))

pub limit_not_done : {A : Type 0} (r : Result A RunFault) → is_done (status_after r Limit) ≡ false
limit_not_done (Ok done) = refl
limit_not_done (Err (fault.Limit kind line number)) = refl
limit_not_done (Err fault.Memory) = refl
limit_not_done (Err fault.WriteFault) = refl

pub not_done : (status : Status) → (status ≡ Done → ⊥) → is_done status ≡ false
not_done Done other = absurd (other refl)
not_done Syntax other = refl
not_done Limit other = refl
not_done NoMemory other = refl
not_done ReadFault other = refl
not_done WriteFault other = refl
not_done Usage other = refl
not_done Differs other = refl
