-- Texts as lines one after another.
use Rattle.std.proofs.Common.{◌≡◌, ◌≢◌, ◌∙◌, refl, sym, ap, ℕ, ◌^◌, ◌<◌, ◌≤◌, List, [], ◌∷◌, ◌++◌, length, arith, append_assoc, length-append, subst}
use Rattle.std.specs.List.{All}
use Rattle.std.proofs.lemmas.List.{append-nil}
use Rattle.std.proofs.lemmas.List.Elements.{All-head, All-tail, All-nil, All-cons, All-append}
use Rattle.std.proofs.lemmas.Grind.{flat_map-append}
use Rattle.script_model.specs.TraceLines.{TraceLine}
use Rattle.script_model.specs.TraceText.{line_text}
use Rattle.page_model.specs.Outcome.{bytes_of}
use Rattle.trace_text.specs.Ranges.{IsLine}
use Rattle.text_lines.specs.Lines.{first_line, behind_line}
use Rattle.trace_summary.specs.Counts.{IsTrace, summary_of}
use Rattle.trace_summary.specs.Counting.{with_line, HasRoom}
use Rattle.trace_summary.specs.declared.summary.Summary.{Summary}
use Rattle.trace_summary.proofs.Counting.{one_counted, room_for_one}
use Rattle.text_lines.proofs.Splits.{first_fed, behind_fed, line_splits}

-- a line's text has one line feed, at its end
abbrev pub FeedLaw : Type 0
FeedLaw = (line : TraceLine) → IsLine line → (front : List ℕ) × (line_text line ≡ front ++ (10 ∷ [])) × All (λ byte. byte ≢ 10) front

-- and none other has it
abbrev pub TextLaw : Type 0
TextLaw = (a b : TraceLine) → IsLine a → IsLine b → line_text a ≡ line_text b → a ≡ b

-- the lines that were counted, and the bytes that are left
pub record Counted (trace rest : List ℕ) (summary : Summary) : Type 0 where
  pub done : List TraceLine
  pub fit : All IsLine done
  pub makes : bytes_of done ++ rest ≡ trace
  pub counts : summary ≡ summary_of done

pub counted_none : (trace : List ℕ) (summary : Summary) → summary ≡ summary_of [] → Counted trace trace summary
unfolding bytes_of
counted_none trace summary none = record { done = []; fit = All-nil IsLine; makes = refl; counts = none }

module _ (feed : FeedLaw) where
  fed : (line : TraceLine) (is : IsLine line) (more : List ℕ) → line_text line ++ more ≡ (feed line is).0 ++ (10 ∷ more)
  fed line is more = let f = feed line is in ap (λ text. text ++ more) f.1 ∙ append_assoc f.0 (10 ∷ []) more

  pub line_first : (line : TraceLine) → IsLine line → (more : List ℕ) → first_line (line_text line ++ more) ≡ line_text line
  line_first line is more = let f = feed line is in ap first_line (fed line is more) ∙ first_fed f.0 more f.2 ∙ sym f.1

  pub line_behind : (line : TraceLine) → IsLine line → (more : List ℕ) → behind_line (line_text line ++ more) ≡ more
  line_behind line is more = let f = feed line is in ap behind_line (fed line is more) ∙ behind_fed f.0 more f.2

  pub line_some : (line : TraceLine) → IsLine line → 1 ≤ length (line_text line)
  line_some line is = let f = feed line is in let e = ap length f.1 in let both = length-append f.0 (10 ∷ []) in omega arith

  -- what stands behind the first lines of a trace is that of its other lines
  pub lines_left : (done lines : List TraceLine) (rest : List ℕ) → All IsLine done → All IsLine lines → bytes_of lines ≡ bytes_of done ++ rest
      → (left : List TraceLine) × IsTrace rest left
  unfolding bytes_of
  lines_left [] lines rest fit all is = (lines, record { fit = all; makes = is })
  lines_left (d ∷ ds) [] rest fit all is =
      absurd
      (let some = line_some d (All-head IsLine d ds fit) in
      let e = ap length is in
      let both = length-append (line_text d ++ bytes_of ds) rest in
      let first = length-append (line_text d) (bytes_of ds) in
      omega arith)
  lines_left (d ∷ ds) (x ∷ xs) rest fit all is =
      let same : bytes_of xs ≡ bytes_of ds ++ rest =
      sym (line_behind x (All-head IsLine x xs all) (bytes_of xs))
      ∙ ap behind_line is
      ∙ ap behind_line (append_assoc (line_text d) (bytes_of ds) rest)
      ∙ line_behind d (All-head IsLine d ds fit) (bytes_of ds ++ rest) in
      lines_left ds xs rest (All-tail IsLine d ds fit) (All-tail IsLine x xs all) same

  pub one_trace : TextLaw → (a b : List TraceLine) → All IsLine a → All IsLine b → bytes_of a ≡ bytes_of b → a ≡ b
  unfolding bytes_of
  one_trace law [] [] fit all is = refl
  one_trace law [] (x ∷ xs) fit all is =
      absurd
      (let some = line_some x (All-head IsLine x xs all) in
      let e = ap length is in
      let both = length-append (line_text x) (bytes_of xs) in
      omega arith)
  one_trace law (x ∷ xs) [] fit all is =
      absurd
      (let some = line_some x (All-head IsLine x xs fit) in
      let e = ap length is in
      let both = length-append (line_text x) (bytes_of xs) in
      omega arith)
  one_trace law (x ∷ xs) (y ∷ ys) fit all is =
      let is_x = All-head IsLine x xs fit in
      let is_y = All-head IsLine y ys all in
      let first : x ≡ y =
      law x y is_x is_y (sym (line_first x is_x (bytes_of xs)) ∙ ap first_line is ∙ line_first y is_y (bytes_of ys)) in
      let others : xs ≡ ys =
      one_trace law xs ys (All-tail IsLine x xs fit) (All-tail IsLine y ys all)
      (sym (line_behind x is_x (bytes_of xs)) ∙ ap behind_line is ∙ line_behind y is_y (bytes_of ys)) in
      ap (λ l. l ∷ xs) first ∙ ap (λ ls. y ∷ ls) others

  -- a line has a byte
  lines_few : (lines : List TraceLine) → All IsLine lines → length lines ≤ length (bytes_of lines)
  unfolding bytes_of
  lines_few [] all = omega arith
  lines_few (x ∷ xs) all =
      let some = line_some x (All-head IsLine x xs all) in
      let rest = lines_few xs (All-tail IsLine x xs all) in
      let both = length-append (line_text x) (bytes_of xs) in
      omega arith

  -- a line is counted
  pub counted_more : {trace rest behind : List ℕ} {summary : Summary} (line : TraceLine) → IsLine line → line_text line ≡ first_line rest → behind ≡ behind_line rest
      → Counted trace rest summary → Counted trace behind (with_line line summary)
  unfolding bytes_of
  counted_more {trace} {rest} {behind} line is text left so_far = record {
    done = so_far.done ++ (line ∷ []);
    fit = All-append IsLine so_far.done (line ∷ []) so_far.fit (All-cons IsLine line [] is (All-nil IsLine));
    makes =
        ap (λ front. front ++ behind) (flat_map-append line_text so_far.done (line ∷ []))
        ∙ append_assoc (bytes_of so_far.done) (line_text line ++ []) behind
        ∙ ap (λ front. bytes_of so_far.done ++ (front ++ behind)) (append-nil (line_text line) ∙ text)
        ∙ ap (λ back. bytes_of so_far.done ++ (first_line rest ++ back)) left
        ∙ ap (λ back. bytes_of so_far.done ++ back) (line_splits rest)
        ∙ so_far.makes;
    counts = ap (with_line line) so_far.counts ∙ one_counted so_far.done line;
  }

  -- there is room for one as long as bytes are left
  pub counted_room : {trace rest : List ℕ} {summary : Summary} → Counted trace rest summary → 0 < length rest → length trace < 2 ^ 64 → HasRoom summary
  counted_room {trace} {rest} so_far some long =
      let few = lines_few so_far.done so_far.fit in
      let all = ap length so_far.makes in
      let both = length-append (bytes_of so_far.done) rest in
      subst HasRoom (sym so_far.counts) (room_for_one so_far.done (omega arith))

  -- where the next line is none, the text is that of no trace
  pub no_trace : {trace rest : List ℕ} {summary : Summary} → Counted trace rest summary → 0 < length rest
      → ((line : TraceLine) → IsLine line → line_text line ≡ first_line rest → ⊥) → (lines : List TraceLine) → IsTrace trace lines → ⊥
  unfolding bytes_of
  no_trace {rest = rest} so_far some none lines is =
      let left = lines_left so_far.done lines rest so_far.fit is.fit (is.makes ∙ sym so_far.makes) in
      no_left left.0 left.1
    where
      no_left : (left : List TraceLine) → IsTrace rest left → ⊥
      no_left [] it = let e = ap length it.makes in omega arith
      no_left (x ∷ xs) it =
          let is_x = All-head IsLine x xs it.fit in none x is_x (sym (line_first x is_x (bytes_of xs)) ∙ ap first_line it.makes)
