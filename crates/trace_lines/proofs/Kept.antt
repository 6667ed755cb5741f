-- The lines that a sink keeps, and the bytes behind them.
use Rattle.std.proofs.Common.{◌≡◌, ◌∙◌, refl, sym, ap, ℕ, Bool, true, false, List, [], ◌∷◌, ◌++◌, append_assoc, length, length-append, take, map, subst, ◌<◌, ◌≤◌, arith}
use Rattle.std.specs.Prelude.{◌==◌, ◌||◌, Some, Result, Ok, Err, OnOk, OnErr}
use Rattle.std.specs.List.{All, list_any}
use Rattle.std.proofs.Math.Seq.{take-append_seam}
use Rattle.std.proofs.lemmas.List.{append-nil, map-append}
use Rattle.std.proofs.lemmas.List.Elements.{All-head, All-tail, All-nil, All-cons, All-append}
use Rattle.std.proofs.lemmas.List.Folds.{list_any-append}
use Rattle.std.proofs.lemmas.Grind.{flat_map-append}
use Rattle.script_model.specs.TraceLines.{TraceLine}
use Rattle.script_model.specs.TraceText.{line_text}
use Rattle.page_model.specs.Outcome.{bytes_of}
use Rattle.text_lines.specs.Lines.{first_line, behind_line}
use Rattle.text_lines.proofs.Splits.{line_splits, behind_shorter}
use Rattle.trace_text.specs.Ranges.{IsLine}
use Rattle.trace_text.specs.Seen.{seen_line}
use Rattle.trace_text.specs.declared.TraceLine as line
use Rattle.trace_runs.specs.Writes.{Says}
use Rattle.trace_summary.proofs.Traces.{FeedLaw, TextLaw, line_first, line_behind}
use Rattle.trace_lines.specs.Kept.{Kept, IsKept, IsUnfed, text_of}

-- a text with a line feed in it isn't one without
or_true : (b : Bool) → (b || true) ≡ false → ⊥
or_true true is = (cc)
or_true false is = (cc)

fed_is_not : (front more : List ℕ) → IsUnfed (front ++ (10 ∷ more)) → ⊥
fed_is_not front more unfed = or_true (list_any (λ byte. byte == 10) front) (sym (list_any-append (λ byte. byte == 10) front (10 ∷ more)) ∙ unfed)

module _ (feed : FeedLaw) (text : TextLaw) where
  starts_no_line : (rest : List ℕ) (line : TraceLine) → IsLine line → (more : List ℕ) → IsUnfed rest → rest ≡ line_text line ++ more → ⊥
  starts_no_line rest line is more unfed same =
      let it = feed line is in
      let whole : rest ≡ it.0 ++ (10 ∷ more) = same ∙ ap (λ front. front ++ more) it.1 ∙ append_assoc it.0 (10 ∷ []) more in
      fed_is_not it.0 more (sym (ap (list_any (λ byte. byte == 10)) whole) ∙ unfed)

  pub kept_once : (a b : List TraceLine) (r s : List ℕ) → All IsLine a → All IsLine b → IsUnfed r → IsUnfed s → bytes_of a ++ r ≡ bytes_of b ++ s → (a ≡ b) × (r ≡ s)
  unfolding bytes_of
  kept_once [] [] r s fit all clean unfed is = (refl, is)
  kept_once [] (y ∷ ys) r s fit all clean unfed is =
      absurd (starts_no_line r y (All-head IsLine y ys all) (bytes_of ys ++ s) clean (is ∙ append_assoc (line_text y) (bytes_of ys) s))
  kept_once (x ∷ xs) [] r s fit all clean unfed is =
      absurd (starts_no_line s x (All-head IsLine x xs fit) (bytes_of xs ++ r) unfed (sym is ∙ append_assoc (line_text x) (bytes_of xs) r))
  kept_once (x ∷ xs) (y ∷ ys) r s fit all clean unfed is =
      let is_x = All-head IsLine x xs fit in
      let is_y = All-head IsLine y ys all in
      let same : line_text x ++ (bytes_of xs ++ r) ≡ line_text y ++ (bytes_of ys ++ s) =
      sym (append_assoc (line_text x) (bytes_of xs) r) ∙ is ∙ append_assoc (line_text y) (bytes_of ys) s in
      let first : x ≡ y =
      text x y is_x is_y (sym (line_first feed x is_x (bytes_of xs ++ r)) ∙ ap first_line same ∙ line_first feed y is_y (bytes_of ys ++ s)) in
      let behind : bytes_of xs ++ r ≡ bytes_of ys ++ s =
      sym (line_behind feed x is_x (bytes_of xs ++ r)) ∙ ap behind_line same ∙ line_behind feed y is_y (bytes_of ys ++ s) in
      let others = kept_once xs ys r s (All-tail IsLine x xs fit) (All-tail IsLine y ys all) clean unfed behind in
      (ap (λ l. l ∷ xs) first ∙ ap (λ ls. y ∷ ls) others.0, others.1)

  pub said_is_kept : (old new : Kept) (said : List TraceLine) → IsKept old → IsKept new → old.rest ≡ [] → Says (Some (text_of old)) (Some (text_of new)) said
      → (new.lines ≡ old.lines ++ said) × (new.rest ≡ [])
  unfolding bytes_of
  said_is_kept old new said before after none says =
      let same : bytes_of new.lines ++ new.rest ≡ bytes_of (old.lines ++ said) ++ [] =
      says.written
      ∙ ap (λ rest. (bytes_of old.lines ++ rest) ++ bytes_of said) none
      ∙ ap (λ front. front ++ bytes_of said) (append-nil (bytes_of old.lines))
      ∙ sym (flat_map-append line_text old.lines said)
      ∙ sym (append-nil (bytes_of (old.lines ++ said))) in
      kept_once new.lines (old.lines ++ said) new.rest [] after.fit (All-append IsLine old.lines said before.fit says.fit) after.unfed refl same

-- a line more
pub more_text : (lines : List line.TraceLine) (more : line.TraceLine) (text : List ℕ) → line_text (seen_line more) ≡ text
    → bytes_of (map seen_line (lines ++ (more ∷ []))) ≡ bytes_of (map seen_line lines) ++ text
unfolding bytes_of
more_text lines more text is =
    ap bytes_of (map-append seen_line lines (more ∷ []))
    ∙ flat_map-append line_text (map seen_line lines) (seen_line more ∷ [])
    ∙ ap (λ back. bytes_of (map seen_line lines) ++ back) (append-nil (line_text (seen_line more)) ∙ is)

pub more_fit : (lines : List line.TraceLine) (more : line.TraceLine) → IsLine (seen_line more) → All IsLine (map seen_line lines) → All IsLine (map seen_line (lines ++ (more ∷ [])))
more_fit lines more is fit =
    subst (All IsLine) (sym (map-append seen_line lines (more ∷ [])))
    (All-append IsLine (map seen_line lines) (seen_line more ∷ []) fit (All-cons IsLine (seen_line more) [] is (All-nil IsLine)))

-- a line more if there was memory for it, and otherwise none
pub added_text : {F : Type 0} (old new : List line.TraceLine) {text : List ℕ} (more : line.TraceLine) (result : Result (Unit {0}) F) → line_text (seen_line more) ≡ text
    → OnOk result (new ≡ old ++ (more ∷ [])) → OnOk result (bytes_of (map seen_line new) ≡ bytes_of (map seen_line old) ++ text)
added_text old new {text = text} more (Ok value) is added = ap (λ lines. bytes_of (map seen_line lines)) added ∙ more_text old more text is
added_text old new more (Err fault) is added = tt

pub added_fit : {F : Type 0} (old new : List line.TraceLine) (more : line.TraceLine) (result : Result (Unit {0}) F) → IsLine (seen_line more)
    → OnOk result (new ≡ old ++ (more ∷ [])) → OnErr result (new ≡ old) → All IsLine (map seen_line old) → All IsLine (map seen_line new)
added_fit old new more (Ok value) is added same fit = subst (λ lines. All IsLine (map seen_line lines)) (sym added) (more_fit old more is fit)
added_fit old new more (Err fault) is added same fit = subst (λ lines. All IsLine (map seen_line lines)) (sym same) fit

-- the first line of a piece
pub first_taken : (piece : List ℕ) → take (length (first_line piece)) piece ≡ first_line piece
first_taken piece = ap (take (length (first_line piece))) (sym (line_splits piece)) ∙ take-append_seam (first_line piece) (behind_line piece)

pub first_within : (piece : List ℕ) → length (first_line piece) ≤ length piece
first_within piece = let whole = ap length (line_splits piece) in let both = length-append (first_line piece) (behind_line piece) in omega arith

pub first_some : (piece : List ℕ) → 0 < length piece → 0 < length (first_line piece)
first_some piece some =
    let whole = ap length (line_splits piece) in
    let both = length-append (first_line piece) (behind_line piece) in
    let less = behind_shorter piece some in
    omega arith
