-- The lines of a page, written with its name.
use Rattle.std.proofs.Common.{◌≡◌, ◌∙◌, refl, sym, ap, subst, ℕ, ◌<◌, ◌≤◌, Bool, true, false, cond, List, [], ◌∷◌, ◌++◌, length, map, Option, append_assoc, arith}
use Rattle.std.specs.Prelude.{◌==◌, flat_map, Result, Ok, Err}
use Rattle.std.specs.Io.KnownBytes.{Appends}
use Rattle.std.specs.List.{All, join_with_byte}
use Rattle.std.specs.Result.{IsErr, IsErrAnd}
use Rattle.std.proofs.lemmas.Bool.{eqb-true}
use Rattle.std.proofs.lemmas.List.{append-nil}
use Rattle.std.proofs.lemmas.List.Elements.{All-head, All-tail}
use Rattle.script_model.specs.TraceLines.{TraceLine}
use Rattle.script_model.specs.TraceText.{kind_text, fields_of, line_text}
use Rattle.page_model.specs.Outcome.{bytes_of}
use Rattle.trace_text.specs.Ranges.{IsLine}
use Rattle.trace_runs.specs.declared.faults.RunFault.{RunFault}
use Rattle.trace_runs.specs.declared.faults.RunFault.TheVariants as fault
use Rattle.trace_runs.specs.Writes.{AppendsLines, EndsLine, FailsWithin, Wrote}
use Rattle.trace_runs.proofs.Writes.{both, nothing, ends_both, ends_feed, lines_begin, lines_behind, failure_begins, failure_behind}
use Rattle.text_lines.specs.Lines.{first_line, behind_line}
use Rattle.trace_summary.specs.Counts.{IsTrace}
use Rattle.trace_summary.proofs.Rows.{Writing}
use Rattle.text_lines.proofs.Splits.{first_fed, behind_fed}
use Rattle.trace_summary.proofs.Traces.{FeedLaw}
use Rattle.trace_judge.specs.Lines.{lines_of}
use Rattle.trace_judge.proofs.Splits.{lines_by_first}
use Rattle.stream_runs.specs.StreamRuns.{named_text}
use Rattle.stream_replay.specs.NamedTexts.{named_lines}

named_first : (name text : List ℕ) → 0 < length text → named_lines name text ≡ (name ++ (32 ∷ first_line text)) ++ named_lines name (behind_line text)
named_first name text some = ap (λ lines. flat_map (λ line. name ++ (32 ∷ line)) lines) (lines_by_first text some)

named_none : (name text : List ℕ) → length text ≤ 0 → named_lines name text ≡ []
unfolding lines_of
named_none name [] none = refl
named_none name (b ∷ bs) none = absurd (omega arith)

-- the fault of a step, handed on
pub stopped : (r : Result (Unit {0}) RunFault) (it : RunFault) (before after : Option (List ℕ)) (f g : ℕ) (text : List ℕ) → IsErr r × IsErrAnd r (λ (e : RunFault). e ≡ it)
    → Wrote {A = Unit {0}} (Err it) before after f g text → Wrote r before after f g text
stopped (Ok done) it before after f g text is wrote = absurd (cc)
stopped (Err e) it before after f g text is wrote = subst (λ (e : RunFault). Wrote {A = Unit {0}} (Err e) before after f g text) (sym is.1) wrote

-- ---- whole lines

-- a line with a name before it
named_fed : (name front : List ℕ) → EndsLine (name ++ (32 ∷ (front ++ (10 ∷ []))))
named_fed name front = subst (λ (text : List ℕ). EndsLine text) (append_assoc name (32 ∷ front) (10 ∷ [])) (ends_feed (name ++ (32 ∷ front)))

-- a first line behind which there is more
first_feed : (text : List ℕ) → 0 < length (behind_line text) → (front : List ℕ) × (first_line text ≡ front ++ (10 ∷ []))
unfolding first_line behind_line
first_feed [] some = absurd (omega arith)
first_feed (b ∷ bs) some = at_feed (b == 10) refl (first_feed bs) some
  where
    at_feed : (feed : Bool) → (b == 10) ≡ feed → (0 < length (behind_line bs) → (front : List ℕ) × (first_line bs ≡ front ++ (10 ∷ [])))
        → 0 < length (cond feed bs (behind_line bs)) → (front : List ℕ) × (cond feed (b ∷ []) (b ∷ first_line bs) ≡ front ++ (10 ∷ []))
    at_feed true is later some = ([], ap (λ byte. byte ∷ []) (eqb-true b 10 is))
    at_feed false is later some = let it = later some in (b ∷ it.0, ap (λ line. b ∷ line) it.1)

-- ---- while they are written

-- the lines so far were written, each whole if there are more
pub record Naming (before now : Option (List ℕ)) (f g : ℕ) (whole name rest : List ℕ) : Type 0 where
  pub text : Writing before now f g whole (named_lines name rest)
  pub ends : 0 < length rest → EndsLine text.part

pub naming_none : (now : Option (List ℕ)) (f : ℕ) (name text : List ℕ) → Naming now now f f (named_lines name text) name text
naming_none now f name text = record { text = record { part = []; makes = refl; written = nothing now; unfailed = refl }; ends = λ some. tt }

pub named_more : {before mid after : Option (List ℕ)} {f fm g : ℕ} {whole line behind : List ℕ} (name rest : List ℕ) → Naming before mid f fm whole name rest → 0 < length rest
    → line ≡ first_line rest → behind ≡ behind_line rest → Appends mid after (name ++ (32 ∷ line)) → g ≡ fm → Naming before after f g whole name behind
named_more {before} {mid} {after} {f} {fm} {g} {whole} {line} {behind} name rest here some is left wrote unfailed = record {
  text = record {
    part = here.text.part ++ (name ++ (32 ∷ line));
    makes =
        append_assoc here.text.part (name ++ (32 ∷ line)) (named_lines name behind)
        ∙ ap (λ l. here.text.part ++ ((name ++ (32 ∷ l)) ++ named_lines name behind)) is
        ∙ ap (λ t. here.text.part ++ ((name ++ (32 ∷ first_line rest)) ++ named_lines name t)) left
        ∙ ap (λ t. here.text.part ++ t) (sym (named_first name rest some))
        ∙ here.text.makes;
    written = both before mid after here.text.part (name ++ (32 ∷ line)) here.text.written wrote;
    unfailed = unfailed ∙ here.text.unfailed;
  };
  ends = λ more.
      let long = ap length left in
      let fed = first_feed rest (omega arith) in
      ends_both here.text.part (name ++ (32 ∷ line)) (here.ends some)
      (subst (λ (text : List ℕ). EndsLine (name ++ (32 ∷ text))) (sym (is ∙ fed.1)) (named_fed name fed.0));
}

-- a text of which a first part was written, and behind it a first part of what follows
pub cut_behind : (A B : Type 0) (before mid after : Option (List ℕ)) (f fm g : ℕ) (whole rest : List ℕ) (it : RunFault) (text more : List ℕ) → (here : Writing before mid f fm whole rest) → EndsLine here.part
    → rest ≡ text ++ more → Wrote {A = A} (Err it) mid after fm g text → Wrote {A = B} (Err it) before after f g whole
cut_behind A B before mid after f fm g whole rest (fault.Limit kind line number) text more here ends is cut = absurd cut
cut_behind A B before mid after f fm g whole rest fault.Memory text more here ends is cut = (
  subst (λ (t : List ℕ). AppendsLines before after t) (ap (λ t. here.part ++ t) (sym is) ∙ here.makes)
      (lines_behind before here.part ends here.written (lines_begin more cut.0)),
  cut.1 ∙ here.unfailed,
)
cut_behind A B before mid after f fm g whole rest fault.WriteFault text more here ends is cut =
    subst (λ (t : List ℕ). FailsWithin before after f g t) (ap (λ t. here.part ++ t) (sym is) ∙ here.makes)
    (failure_behind before f here.part here.written here.unfailed (failure_begins more cut))

pub named_cut : (A B : Type 0) (before mid after : Option (List ℕ)) (f fm g : ℕ) (whole line : List ℕ) (it : RunFault) (name rest : List ℕ) → Naming before mid f fm whole name rest → 0 < length rest
    → line ≡ first_line rest → Wrote {A = A} (Err it) mid after fm g (name ++ (32 ∷ line)) → Wrote {A = B} (Err it) before after f g whole
named_cut A B before mid after f fm g whole line it name rest here some is cut =
    cut_behind A B before mid after f fm g whole (named_lines name rest) it (name ++ (32 ∷ line)) (named_lines name (behind_line rest)) here.text (here.ends some)
    (named_first name rest some ∙ ap (λ l. (name ++ (32 ∷ l)) ++ named_lines name (behind_line rest)) (sym is)) cut

pub all_written : {A : Type 0} {before after : Option (List ℕ)} {f g : ℕ} {whole rest : List ℕ} (value : A) → Writing before after f g whole rest → rest ≡ [] → Wrote (Ok value) before after f g whole
all_written {before = before} {after = after} value here none =
    (subst (λ (t : List ℕ). Appends before after t) (sym (append-nil here.part) ∙ ap (λ t. here.part ++ t) (sym none) ∙ here.makes) here.written, here.unfailed)

pub named_end : {A : Type 0} {before after : Option (List ℕ)} {f g : ℕ} {whole : List ℕ} (value : A) (name rest : List ℕ) → Naming before after f g whole name rest → length rest ≤ 0
    → Wrote (Ok value) before after f g whole
named_end value name rest here none = all_written value here.text (named_none name rest none)

-- ---- of the lines of a trace

one_line : FeedLaw → (line : TraceLine) (more : List ℕ) → IsLine line → lines_of (line_text line ++ more) ≡ line_text line ∷ lines_of more
one_line law line more fits =
    let fed = law line fits in
    let front : List ℕ = fed.0 in
    let text : line_text line ++ more ≡ front ++ (10 ∷ more) = ap (λ t. t ++ more) fed.1 ∙ append_assoc front (10 ∷ []) more in
    let some : 0 < length (front ++ (10 ∷ more)) = some_behind front 10 more in
    ap lines_of text
    ∙ lines_by_first (front ++ (10 ∷ more)) some
    ∙ ap (λ l. l ∷ lines_of (behind_line (front ++ (10 ∷ more)))) (first_fed front more fed.2 ∙ sym fed.1)
    ∙ ap (λ t. line_text line ∷ lines_of t) (behind_fed front more fed.2)
  where
    some_behind : (front : List ℕ) (b : ℕ) (more : List ℕ) → 0 < length (front ++ (b ∷ more))
    some_behind [] b more = omega arith
    some_behind (x ∷ xs) b more = omega arith

pub lines_are : FeedLaw → (lines : List TraceLine) → All IsLine lines → lines_of (bytes_of lines) ≡ map line_text lines
unfolding bytes_of lines_of
lines_are law [] fit = refl
lines_are law (l ∷ ls) fit =
    one_line law l (bytes_of ls) (All-head IsLine l ls fit) ∙ ap (λ rest. line_text l ∷ rest) (lines_are law ls (All-tail IsLine l ls fit))

named-map : (name : List ℕ) (lines : List TraceLine) → flat_map (λ line. name ++ (32 ∷ line)) (map line_text lines) ≡ named_text name lines
unfolding named_text
named-map name [] = refl
named-map name (l ∷ ls) = ap (λ rest. (name ++ (32 ∷ line_text l)) ++ rest) (named-map name ls)

pub named_is : FeedLaw → (name text : List ℕ) (lines : List TraceLine) → IsTrace text lines → named_lines name text ≡ named_text name lines
named_is law name text lines is =
    ap (λ t. named_lines name t) (sym is.makes) ∙ ap (λ ls. flat_map (λ line. name ++ (32 ∷ line)) ls) (lines_are law lines is.fit) ∙ named-map name lines

pub named_wrote : {A : Type 0} (r : Result A RunFault) (name text : List ℕ) (lines : List TraceLine) (before after : Option (List ℕ)) (f g : ℕ) → FeedLaw → IsTrace text lines
    → Wrote r before after f g (named_lines name text) → Wrote r before after f g (named_text name lines)
named_wrote r name text lines before after f g law is wrote = subst (λ (t : List ℕ). Wrote r before after f g t) (named_is law name text lines is) wrote

-- they end with line feeds
line_fed : (line : TraceLine) → (front : List ℕ) × (line_text line ≡ front ++ (10 ∷ []))
unfolding line_text
line_fed line = (join_with_byte 32 (kind_text line ∷ fields_of line), refl)

named-line : (name : List ℕ) (line : TraceLine) → EndsLine (name ++ (32 ∷ line_text line))
named-line name line = let fed = line_fed line in subst (λ (text : List ℕ). EndsLine (name ++ (32 ∷ text))) (sym fed.1) (named_fed name fed.0)

pub named_ends : (name : List ℕ) (lines : List TraceLine) → EndsLine (named_text name lines)
unfolding named_text
named_ends name [] = tt
named_ends name (line ∷ lines) = ends_both (name ++ (32 ∷ line_text line)) (named_text name lines) (named-line name line) (named_ends name lines)

pub named_nothing : (name : List ℕ) → named_text name [] ≡ []
unfolding named_text
named_nothing name = refl
