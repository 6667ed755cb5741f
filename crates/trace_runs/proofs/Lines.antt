-- The bytes of lines, one after another.
use Rattle.std.proofs.Common.{◌≡◌, ℕ, List, [], ◌∷◌, ◌++◌, Option, refl, ap, sym, ◌∙◌, append_assoc, subst}
use Rattle.std.proofs.lemmas.List.{append-nil}
use Rattle.std.proofs.lemmas.List.Elements.{All-nil, All-cons, All-append}
use Rattle.std.specs.Prelude.{Result, Ok, Err}
use Rattle.std.specs.List.{join_with_byte}
use Rattle.std.specs.Io.KnownBytes.{Appends}
use Rattle.script_model.specs.TraceLines.{TraceLine}
use Rattle.script_model.specs.TraceText.{kind_text, fields_of, line_text}
use Rattle.page_model.specs.Outcome.{bytes_of}
use Rattle.trace_text.specs.Ranges.{IsLine}
use Rattle.trace_runs.specs.declared.faults.RunFault.{RunFault}
use Rattle.trace_runs.specs.declared.faults.RunFault.TheVariants.{Limit, Memory, WriteFault}
use Rattle.trace_runs.specs.Writes.{AppendsLines, EndsLine, FailsWithin, Says, Told, Wrote}
use Rattle.trace_runs.proofs.Writes.{nothing, both, ends_both, ends_feed}

pub bytes_none : bytes_of [] ≡ []
unfolding bytes_of
bytes_none = refl

pub bytes_one : (line : TraceLine) → line_text line ≡ bytes_of (line ∷ [])
unfolding bytes_of
bytes_one line = sym (append-nil (line_text line))

pub bytes_both : (xs ys : List TraceLine) → bytes_of xs ++ bytes_of ys ≡ bytes_of (xs ++ ys)
unfolding bytes_of
bytes_both [] ys = refl
bytes_both (x ∷ xs) ys = append_assoc (line_text x) (bytes_of xs) (bytes_of ys) ∙ ap (λ rest. line_text x ++ rest) (bytes_both xs ys)

-- lines end with line feeds
line_ends : (line : TraceLine) → EndsLine (line_text line)
unfolding line_text
line_ends line = ends_feed (join_with_byte 32 (kind_text line ∷ fields_of line))

pub lines_end : (lines : List TraceLine) → EndsLine (bytes_of lines)
unfolding bytes_of
lines_end [] = tt
lines_end (line ∷ lines) = ends_both (line_text line) (bytes_of lines) (line_ends line) (lines_end lines)

-- no line was written
pub says_none : (now : Option (List ℕ)) → Says now now []
says_none now = record { written = subst (λ (t : List ℕ). Appends now now t) (sym bytes_none) (nothing now); fit = All-nil IsLine }

-- lines behind others
pub says_both : {before mid after : Option (List ℕ)} {xs ys : List TraceLine} → Says before mid xs → Says mid after ys → Says before after (xs ++ ys)
says_both {before} {mid} {after} {xs} {ys} first second = record {
  written = subst (λ (t : List ℕ). Appends before after t) (bytes_both xs ys) (both before mid after _ _ first.written second.written);
  fit = All-append IsLine xs ys first.fit second.fit;
}

-- one line
pub says_one : {before after : Option (List ℕ)} {line : TraceLine} → IsLine line → Appends before after (line_text line) → Says before after (line ∷ [])
says_one {before} {after} {line} is written =
    record { written = subst (λ (t : List ℕ). Appends before after t) (bytes_one line) written; fit = All-cons IsLine line [] is (All-nil IsLine) }

pub told_one : {A : Type 0} (result : Result A RunFault) (before after : Option (List ℕ)) (f g : ℕ) (line : TraceLine) → IsLine line
    → Wrote result before after f g (line_text line) → Told result before after f g (line ∷ [])
told_one (Ok value) before after f g line is wrote = (says_one is wrote.0, wrote.1)
told_one (Err (Limit kind line_number number)) before after f g line is wrote = absurd wrote
told_one (Err Memory) before after f g line is wrote = (subst (λ (t : List ℕ). AppendsLines before after t) (bytes_one line) wrote.0, wrote.1)
told_one (Err WriteFault) before after f g line is wrote = subst (λ (t : List ℕ). FailsWithin before after f g t) (bytes_one line) wrote
