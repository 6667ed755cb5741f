-- Judgements, line by line.
use Rattle.std.proofs.Common.{◌≡◌, ◌∙◌, refl, sym, ap, ℕ, suc, ◌+◌, ◌-◌, ◌<◌, ◌≤◌, Bool, true, false, cond, not, List, [], ◌∷◌, length, get_or, take, drop, arith}
use Rattle.std.specs.Prelude.{bytes_eq, nat_eq, ◌==◌}
use Rattle.std.specs.List.{common_prefix_len, prefix_len, zip, concat}
use Rattle.std.proofs.lemmas.Bool.{true≢false, false≢true, false_from_ne_true}
use Rattle.std.proofs.lemmas.Slice.Eq.{bytes_eq-Decides}
use Rattle.text_lines.specs.Lines.{first_line, behind_line}
use Rattle.text_lines.proofs.Splits.{behind_shorter}
use Rattle.trace_judge.specs.declared.judgement.How.{How}
use Rattle.trace_judge.specs.declared.judgement.How.TheVariants.{Extra, Missing}
use Rattle.trace_judge.specs.declared.judgement.Judgement.{Judgement}
use Rattle.trace_judge.specs.declared.judgement.Judgement.TheVariants.{Equal, Differs}
use Rattle.trace_judge.specs.Lines.{lines_of}
use Rattle.trace_judge.specs.Judging.{how_lines_differ, from_there, equal_lines, judged_lines, judgement}
use Rattle.trace_judge.proofs.Splits.{lines_by_first, lines_make, first_some, first_none}

-- ---- bytes in common

pub common_zipped : (xs ys : List ℕ) → prefix_len (λ (p : ℕ × ℕ). p.0 == p.1) (zip xs ys) ≡ common_prefix_len nat_eq xs ys
common_zipped [] ys = refl
common_zipped (x ∷ xs) [] = refl
common_zipped (x ∷ xs) (y ∷ ys) = ap (λ n. cond (x == y) (1 + n) 0) (common_zipped xs ys)

-- ---- lists of lines

-- the same judgement with so many equal lines before
abbrev pub behind : ℕ → Judgement → Judgement
behind equal (Equal lines) = Equal (equal + lines)
behind equal (Differs line how) = Differs (equal + line) how

behind_both : (n m : ℕ) (j : Judgement) → behind n (behind m j) ≡ behind (n + m) j
behind_both n m (Equal lines) = let same : n + (m + lines) ≡ n + m + lines = omega arith in ap Equal same
behind_both n m (Differs line how) = let same : n + (m + line) ≡ n + m + line = omega arith in ap (λ k. Differs k how) same

there_behind : (k : ℕ) (es rs : List (List ℕ)) → from_there (suc k) es rs ≡ behind 1 (from_there k es rs)
there_behind k [] [] = let same : suc k ≡ 1 + k = omega arith in ap Equal same
there_behind k [] (r ∷ rs) = let same : suc k + 1 ≡ 1 + (k + 1) = omega arith in ap (λ n. Differs n Extra) same
there_behind k (e ∷ es) [] = let same : suc k + 1 ≡ 1 + (k + 1) = omega arith in ap (λ n. Differs n Missing) same
there_behind k (e ∷ es) (r ∷ rs) = let same : suc k + 1 ≡ 1 + (k + 1) = omega arith in ap (λ n. Differs n (how_lines_differ e r)) same

equal_line : (l : List ℕ) (es rs : List (List ℕ)) → judged_lines (l ∷ es) (l ∷ rs) ≡ behind 1 (judged_lines es rs)
unfolding judged_lines
equal_line l es rs =
    let k : ℕ = equal_lines es rs in
    let next : 1 + k ≡ suc k = omega arith in
    let count : equal_lines (l ∷ es) (l ∷ rs) ≡ suc k = ap (λ test. cond test (1 + k) 0) ((bytes_eq-Decides l l).1 refl) ∙ next in
    ap (λ n. from_there n (drop n (l ∷ es)) (drop n (l ∷ rs))) count ∙ there_behind k (drop k es) (drop k rs)

other_line : (e r : List ℕ) (es rs : List (List ℕ)) → bytes_eq e r ≡ false → judged_lines (e ∷ es) (r ∷ rs) ≡ Differs 1 (how_lines_differ e r)
unfolding judged_lines
other_line e r es rs other =
    ap (λ n. from_there n (drop n (e ∷ es)) (drop n (r ∷ rs))) (ap (λ test. cond test (1 + equal_lines es rs) 0) other)

extra_line : (r : List ℕ) (rs : List (List ℕ)) → judged_lines [] (r ∷ rs) ≡ Differs 1 Extra
unfolding judged_lines
extra_line r rs = refl

missing_line : (e : List ℕ) (es : List (List ℕ)) → judged_lines (e ∷ es) [] ≡ Differs 1 Missing
unfolding judged_lines
missing_line e es = refl

no_lines : judged_lines [] [] ≡ Equal 0
unfolding judged_lines
no_lines = refl

-- ---- texts

-- two first lines that are equal
judged_on : (e r : List ℕ) → 0 < length e → 0 < length r → first_line e ≡ first_line r → judgement e r ≡ behind 1 (judgement (behind_line e) (behind_line r))
unfolding judgement
judged_on e r some_e some_r same =
    ap (λ lines. judged_lines lines (lines_of r)) (lines_by_first e some_e)
    ∙ ap (λ lines. judged_lines (first_line e ∷ lines_of (behind_line e)) lines) (lines_by_first r some_r)
    ∙ ap (λ line. judged_lines (first_line e ∷ lines_of (behind_line e)) (line ∷ lines_of (behind_line r))) (sym same)
    ∙ equal_line (first_line e) (lines_of (behind_line e)) (lines_of (behind_line r))

none_judged : (e r : List ℕ) → length e ≤ 0 → length r ≤ 0 → judgement e r ≡ Equal 0
unfolding judgement lines_of
none_judged [] [] none_e none_r = no_lines
none_judged [] (y ∷ ys) none_e none_r = absurd (omega arith)
none_judged (x ∷ xs) r none_e none_r = absurd (omega arith)

extra_judged : (e r : List ℕ) → length e ≤ 0 → 0 < length r → judgement e r ≡ Differs 1 Extra
unfolding judgement lines_of
extra_judged [] r none some = ap (λ lines. judged_lines [] lines) (lines_by_first r some) ∙ extra_line (first_line r) (lines_of (behind_line r))
extra_judged (x ∷ xs) r none some = absurd (omega arith)

missing_judged : (e r : List ℕ) → 0 < length e → length r ≤ 0 → judgement e r ≡ Differs 1 Missing
unfolding judgement lines_of
missing_judged e [] some none = ap (λ lines. judged_lines lines []) (lines_by_first e some) ∙ missing_line (first_line e) (lines_of (behind_line e))
missing_judged e (y ∷ ys) some none = absurd (omega arith)

other_judged : (e r : List ℕ) → 0 < length e → 0 < length r → (first_line e ≡ first_line r → ⊥) → judgement e r ≡ Differs 1 (how_lines_differ (first_line e) (first_line r))
unfolding judgement
other_judged e r some_e some_r other =
    ap (λ lines. judged_lines lines (lines_of r)) (lines_by_first e some_e)
    ∙ ap (λ lines. judged_lines (first_line e ∷ lines_of (behind_line e)) lines) (lines_by_first r some_r)
    ∙ other_line (first_line e) (first_line r) (lines_of (behind_line e)) (lines_of (behind_line r))
    (false_from_ne_true (bytes_eq (first_line e) (first_line r)) (λ same. other ((bytes_eq-Decides (first_line e) (first_line r)).0 same)))

-- ---- the rests that are left after so many equal lines

pub record Judging (expected recorded e r : List ℕ) (lines : ℕ) : Type 0 where
  pub so_far : judgement expected recorded ≡ behind lines (judgement e r)
  pub few_expected : lines + length e ≤ length expected
  pub few_recorded : lines + length r ≤ length recorded

-- a first line is empty exactly where nothing is left
pub left_none : (text : List ℕ) → length (first_line text) ≤ 0 → length text ≤ 0
unfolding first_line
left_none [] none = omega arith
left_none (b ∷ bs) none = absurd (let some = first_some (b ∷ bs) (omega arith) in omega arith)

pub left_some : (text : List ℕ) → 0 < length (first_line text) → 0 < length text
unfolding first_line
left_some [] some = absurd (omega arith)
left_some (b ∷ bs) some = omega arith

-- where the first lines differ, something is left
pub room_left : (e r : List ℕ) → (first_line e ≡ first_line r → ⊥) → 0 < length e + length r
unfolding first_line
room_left [] [] other = absurd (other refl)
room_left [] (y ∷ ys) other = omega arith
room_left (x ∷ xs) r other = omega arith

pub judged_equal : {expected recorded e r : List ℕ} {lines : ℕ} → Judging expected recorded e r lines → first_line e ≡ first_line r → length (first_line e) ≤ 0
    → Equal lines ≡ judgement expected recorded
judged_equal {expected} {recorded} {e} {r} {lines} here same none =
    let long = ap length same in
    let all : lines + 0 ≡ lines = omega arith in
    sym (here.so_far ∙ ap (behind lines) (none_judged e r (left_none e none) (left_none r (omega arith))) ∙ ap Equal all)

judged_at : {expected recorded e r : List ℕ} {lines : ℕ} (how : How) → Judging expected recorded e r lines → (first_line e ≡ first_line r → ⊥)
    → (length (first_line e) ≤ 0 → how ≡ Extra) → (0 < length (first_line e) → length (first_line r) ≤ 0 → how ≡ Missing)
    → (0 < length (first_line e) → 0 < length (first_line r) → how ≡ how_lines_differ (first_line e) (first_line r))
    → Differs (lines + 1) how ≡ judgement expected recorded
judged_at {expected} {recorded} {e} {r} {lines} how here other extra missing differ = sym (here.so_far ∙ ap (behind lines) (by_sides e r other extra missing differ))
  where
    by_sides : (e r : List ℕ) → (first_line e ≡ first_line r → ⊥) → (length (first_line e) ≤ 0 → how ≡ Extra) → (0 < length (first_line e) → length (first_line r) ≤ 0 → how ≡ Missing)
        → (0 < length (first_line e) → 0 < length (first_line r) → how ≡ how_lines_differ (first_line e) (first_line r)) → judgement e r ≡ Differs 1 how
    by_sides [] r other extra missing differ =
        extra_judged [] r (omega arith) (let some = room_left [] r other in omega arith) ∙ ap (Differs 1) (sym (extra (first_none [] (omega arith))))
    by_sides (x ∷ xs) [] other extra missing differ =
        missing_judged (x ∷ xs) [] (omega arith) (omega arith) ∙ ap (Differs 1) (sym (missing (first_some (x ∷ xs) (omega arith)) (first_none [] (omega arith))))
    by_sides (x ∷ xs) (y ∷ ys) other extra missing differ =
        other_judged (x ∷ xs) (y ∷ ys) (omega arith) (omega arith) other
        ∙ ap (Differs 1) (sym (differ (first_some (x ∷ xs) (omega arith)) (first_some (y ∷ ys) (omega arith))))

-- the same with the lines as they were split
pub judged_other : {expected recorded e r line_e line_r : List ℕ} {lines : ℕ} (how : How) → Judging expected recorded e r lines
    → line_e ≡ first_line e → line_r ≡ first_line r → (line_e ≡ line_r → ⊥) → (length line_e ≤ 0 → how ≡ Extra)
    → (0 < length line_e → length line_r ≤ 0 → how ≡ Missing) → (0 < length line_e → 0 < length line_r → how ≡ how_lines_differ line_e line_r)
    → Differs (lines + 1) how ≡ judgement expected recorded
judged_other {expected} {recorded} {e} {r} {line_e} {line_r} {lines} how here is_e is_r other extra missing differ =
    let long_e = ap length is_e in
    let long_r = ap length is_r in
    judged_at how here (λ same. other (is_e ∙ same ∙ sym is_r)) (λ none. extra (omega arith)) (λ some none. missing (omega arith) (omega arith))
    (λ some_e some_r.
    differ (omega arith) (omega arith) ∙ ap (λ l. how_lines_differ l line_r) is_e ∙ ap (λ l. how_lines_differ (first_line e) l) is_r)

-- what the test of two lines says
pub lines_differ : (a b : List ℕ) → true ≡ not (bytes_eq a b) → a ≡ b → ⊥
lines_differ a b other same = true≢false (other ∙ ap not ((bytes_eq-Decides a b).1 same))

pub lines_agree : (a b : List ℕ) → false ≡ not (bytes_eq a b) → a ≡ b
lines_agree a b is = (bytes_eq-Decides a b).0 (by_not (bytes_eq a b) is)
  where
    by_not : (test : Bool) → false ≡ not test → test ≡ true
    by_not true is = refl
    by_not false is = absurd (false≢true is)

pub judging_more : {expected recorded e r behind_e behind_r : List ℕ} {lines : ℕ} → Judging expected recorded e r lines → first_line e ≡ first_line r → 0 < length (first_line e)
    → behind_e ≡ behind_line e → behind_r ≡ behind_line r → Judging expected recorded behind_e behind_r (lines + 1)
judging_more {expected} {recorded} {e} {r} {behind_e} {behind_r} {lines} here same some rest_e rest_r =
    let long = ap length same in
    let some_e = left_some e some in
    let some_r = left_some r (omega arith) in
    let shorter_e = behind_shorter e some_e in
    let shorter_r = behind_shorter r some_r in
    let next = judged_on e r some_e some_r same in
    let kept : judgement (behind_line e) (behind_line r) ≡ judgement behind_e behind_r = ap (λ t. judgement t (behind_line r)) (sym rest_e) ∙ ap (λ t. judgement behind_e t) (sym rest_r) in
    let e_long = ap length rest_e in
    let r_long = ap length rest_r in
    let few_e = here.few_expected in
    let few_r = here.few_recorded in
    record {
      so_far = here.so_far ∙ ap (behind lines) (next ∙ ap (behind 1) kept) ∙ behind_both lines 1 (judgement behind_e behind_r);
      few_expected = omega arith;
      few_recorded = omega arith;
    }

-- ---- which texts are judged equal

lines_in : Judgement → ℕ
lines_in (Equal lines) = lines
lines_in (Differs line how) = 0

is_equal : Judgement → Bool
is_equal (Equal lines) = true
is_equal (Differs line how) = false

no_difference : (line lines : ℕ) (how : How) → Differs line how ≡ Equal lines → ⊥
unfolding is_equal
no_difference line lines how same = false≢true (ap is_equal same)

behind_equal : (j : Judgement) (lines : ℕ) → behind 1 j ≡ Equal lines → (less : ℕ) × (j ≡ Equal less) × (lines ≡ 1 + less)
unfolding lines_in
behind_equal (Equal less) lines same = (less, refl, sym (ap lines_in same))
behind_equal (Differs line how) lines same = absurd (no_difference (1 + line) lines how same)

by_line : (e r : List ℕ) (es rs : List (List ℕ)) (lines : ℕ) (test : Bool) → bytes_eq e r ≡ test → judged_lines (e ∷ es) (r ∷ rs) ≡ Equal lines
    → ((less : ℕ) → judged_lines es rs ≡ Equal less → (es ≡ rs) × (less ≡ length es)) → (e ∷ es ≡ r ∷ rs) × (lines ≡ length (e ∷ es))
by_line e r es rs lines true same is later =
    let line : e ≡ r = (bytes_eq-Decides e r).0 same in
    let moved = behind_equal (judged_lines es rs) lines (sym (ap (λ l. judged_lines (e ∷ es) (l ∷ rs)) (sym line) ∙ equal_line e es rs) ∙ is) in
    let others = later moved.0 moved.1 in
    let count = moved.2 in
    let long = others.1 in
    (ap (λ l. l ∷ es) line ∙ ap (λ ls. r ∷ ls) others.0, omega arith)
by_line e r es rs lines false other is later = absurd (no_difference 1 lines (how_lines_differ e r) (sym (other_line e r es rs other) ∙ is))

lists_equal : (es rs : List (List ℕ)) (lines : ℕ) → judged_lines es rs ≡ Equal lines → (es ≡ rs) × (lines ≡ length es)
unfolding lines_in
lists_equal [] [] lines is = (refl, sym (ap lines_in is) ∙ ap lines_in no_lines)
lists_equal [] (r ∷ rs) lines is = absurd (no_difference 1 lines Extra (sym (extra_line r rs) ∙ is))
lists_equal (e ∷ es) [] lines is = absurd (no_difference 1 lines Missing (sym (missing_line e es) ∙ is))
lists_equal (e ∷ es) (r ∷ rs) lines is = by_line e r es rs lines (bytes_eq e r) refl is (lists_equal es rs)

lists_same : (es : List (List ℕ)) → judged_lines es es ≡ Equal (length es)
lists_same [] = no_lines
lists_same (e ∷ es) = let next : 1 + length es ≡ length (e ∷ es) = omega arith in equal_line e es es ∙ ap (behind 1) (lists_same es) ∙ ap Equal next

pub equal_same : (expected recorded : List ℕ) (lines : ℕ) → judgement expected recorded ≡ Equal lines → (expected ≡ recorded) × (lines ≡ length (lines_of expected))
unfolding judgement
equal_same expected recorded lines is =
    let same = lists_equal (lines_of expected) (lines_of recorded) lines is in
    (sym (lines_make expected) ∙ ap concat same.0 ∙ lines_make recorded, same.1)

pub same_equal : (expected recorded : List ℕ) (lines : ℕ) → (expected ≡ recorded) × (lines ≡ length (lines_of expected)) → judgement expected recorded ≡ Equal lines
unfolding judgement
same_equal expected recorded lines same =
    ap (λ t. judged_lines (lines_of expected) (lines_of t)) (sym same.0) ∙ lists_same (lines_of expected) ∙ ap Equal (sym same.1)

-- ---- where texts that aren't equal first differ

line_in : Judgement → ℕ
line_in (Equal lines) = 0
line_in (Differs line how) = line

behind_differs : (j : Judgement) (line : ℕ) (how : How) → behind 1 j ≡ Differs line how → (less : ℕ) × (there : How) × (j ≡ Differs less there) × (line ≡ 1 + less)
unfolding line_in
behind_differs (Equal lines) line how same = absurd (no_difference line (1 + lines) how (sym same))
behind_differs (Differs less there) line how same = (less, there, refl, sym (ap line_in same))

-- the first lines are the same, and one more isn't
record FirstDiffers (es rs : List (List ℕ)) (line : ℕ) : Type 0 where
  less : ℕ
  next : line ≡ suc less
  same : take less es ≡ take less rs
  other : take (suc less) es ≡ take (suc less) rs → ⊥

at_once : {es rs : List (List ℕ)} {line : ℕ} {here how : How} → Differs 1 here ≡ Differs line how → (take 1 es ≡ take 1 rs → ⊥) → FirstDiffers es rs line
unfolding line_in
at_once is other = record { less = 0; next = sym (ap line_in is); same = refl; other = other }

line_differs : (e r : List ℕ) (es rs : List (List ℕ)) (line : ℕ) (how : How) (test : Bool) → bytes_eq e r ≡ test → judged_lines (e ∷ es) (r ∷ rs) ≡ Differs line how
    → ((line : ℕ) (how : How) → judged_lines es rs ≡ Differs line how → FirstDiffers es rs line) → FirstDiffers (e ∷ es) (r ∷ rs) line
line_differs e r es rs line how true same is later =
    let equal : e ≡ r = (bytes_eq-Decides e r).0 same in
    let moved = behind_differs (judged_lines es rs) line how (sym (ap (λ l. judged_lines (e ∷ es) (l ∷ rs)) (sym equal) ∙ equal_line e es rs) ∙ is) in
    let others = later moved.0 moved.1 moved.2 in
    let step = moved.3 in
    let count = others.next in
    record {
      less = suc others.less;
      next = omega arith;
      same = ap (λ l. l ∷ take others.less es) equal ∙ ap (λ ls. r ∷ ls) others.same;
      other = λ all. others.other (ap (drop 1) all);
    }
line_differs e r es rs line how false differ is later =
    at_once (sym (other_line e r es rs differ) ∙ is) (λ all. true≢false (sym ((bytes_eq-Decides e r).1 (ap (λ ls. get_or ls 0 []) all)) ∙ differ))

lists_differ : (es rs : List (List ℕ)) (line : ℕ) (how : How) → judged_lines es rs ≡ Differs line how → FirstDiffers es rs line
lists_differ [] [] line how is = absurd (no_difference line 0 how (sym is ∙ no_lines))
lists_differ [] (r ∷ rs) line how is = at_once (sym (extra_line r rs) ∙ is) (λ all. let long : 0 ≡ 1 = ap length all in omega arith)
lists_differ (e ∷ es) [] line how is = at_once (sym (missing_line e es) ∙ is) (λ all. let long : 1 ≡ 0 = ap length all in omega arith)
lists_differ (e ∷ es) (r ∷ rs) line how is = line_differs e r es rs line how (bytes_eq e r) refl is (lists_differ es rs)

pub first_differs : (expected recorded : List ℕ) (line : ℕ) (how : How) → judgement expected recorded ≡ Differs line how
    → (0 < line) × (take (line - 1) (lines_of expected) ≡ take (line - 1) (lines_of recorded)) × (take line (lines_of expected) ≡ take line (lines_of recorded) → ⊥)
unfolding judgement
first_differs expected recorded line how is =
    let at = lists_differ (lines_of expected) (lines_of recorded) line how is in
    let next = at.next in
    let before : line - 1 ≡ at.less = omega arith in (
      omega arith,
      ap (λ n. take n (lines_of expected)) before ∙ at.same ∙ ap (λ n. take n (lines_of recorded)) (sym before),
      λ same. at.other (ap (λ n. take n (lines_of expected)) (sym next) ∙ same ∙ ap (λ n. take n (lines_of recorded)) next),
    )
