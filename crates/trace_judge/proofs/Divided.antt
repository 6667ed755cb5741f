-- A source up to its first line `trace`.
use Rattle.std.proofs.Common.{◌≡◌, ◌∙◌, refl, sym, ap, subst, ◌⊎◌, inl, inr, ℕ, suc, ◌+◌, ◌<◌, Bool, true, false, cond, not, List, [], ◌∷◌, ◌++◌, length, take, drop, arith, append_assoc}
use Rattle.std.specs.List.{concat}
use Rattle.text_lines.specs.Lines.{first_line, behind_line}
use Rattle.trace_judge.specs.Lines.{lines_of}
use Rattle.trace_judge.specs.Recordings.{is_divider, script_lines, script_of, trace_of}
use Rattle.trace_judge.proofs.Splits.{lines_by_first, lines_make}

-- ---- lists of lines

none_before : (l : List ℕ) (ls : List (List ℕ)) → is_divider l ≡ true → script_lines (l ∷ ls) ≡ 0
none_before l ls is = ap (λ test. cond (not test) (1 + script_lines ls) 0) is

one_before : (l : List ℕ) (ls : List (List ℕ)) → is_divider l ≡ false → script_lines (l ∷ ls) ≡ suc (script_lines ls)
one_before l ls other = ap (λ test. cond (not test) (1 + script_lines ls) 0) other ∙ (let next : 1 + script_lines ls ≡ suc (script_lines ls) = omega arith in next)

-- ---- texts

pub script_ends : (rest : List ℕ) → 0 < length rest → is_divider (first_line rest) ≡ true → script_of rest ≡ []
unfolding script_of
script_ends rest some is =
    ap (λ ls. concat (take (script_lines ls) ls)) (lines_by_first rest some)
    ∙ ap (λ n. concat (take n (first_line rest ∷ lines_of (behind_line rest)))) (none_before (first_line rest) (lines_of (behind_line rest)) is)

pub trace_begins : (rest : List ℕ) → 0 < length rest → is_divider (first_line rest) ≡ true → trace_of rest ≡ behind_line rest
unfolding trace_of
trace_begins rest some is =
    ap (λ ls. concat (drop (script_lines ls + 1) ls)) (lines_by_first rest some)
    ∙ ap (λ n. concat (drop (n + 1) (first_line rest ∷ lines_of (behind_line rest)))) (none_before (first_line rest) (lines_of (behind_line rest)) is)
    ∙ lines_make (behind_line rest)

pub script_goes : (rest : List ℕ) → 0 < length rest → is_divider (first_line rest) ≡ false → script_of rest ≡ first_line rest ++ script_of (behind_line rest)
unfolding script_of
script_goes rest some other =
    ap (λ ls. concat (take (script_lines ls) ls)) (lines_by_first rest some)
    ∙ ap (λ n. concat (take n (first_line rest ∷ lines_of (behind_line rest)))) (one_before (first_line rest) (lines_of (behind_line rest)) other)

pub trace_waits : (rest : List ℕ) → 0 < length rest → is_divider (first_line rest) ≡ false → trace_of rest ≡ trace_of (behind_line rest)
unfolding trace_of
trace_waits rest some other =
    let k : ℕ = script_lines (lines_of (behind_line rest)) in
    let next : suc k + 1 ≡ suc (k + 1) = omega arith in
    ap (λ ls. concat (drop (script_lines ls + 1) ls)) (lines_by_first rest some)
    ∙ ap (λ n. concat (drop (n + 1) (first_line rest ∷ lines_of (behind_line rest)))) (one_before (first_line rest) (lines_of (behind_line rest)) other)
    ∙ ap (λ n. concat (drop n (first_line rest ∷ lines_of (behind_line rest)))) next

pub script_none : script_of [] ≡ []
unfolding script_of lines_of
script_none = refl

pub trace_none : trace_of [] ≡ []
unfolding trace_of lines_of
trace_none = refl

-- ---- nothing of a source is lost

abbrev Parts : List (List ℕ) → List (List ℕ) → List (List ℕ) → Type 0
Parts before after lines =
    ((concat before ≡ concat lines) × (concat after ≡ []))
    ⊎ ((line : List ℕ) × (is_divider line ≡ true) × (concat before ++ (line ++ concat after) ≡ concat lines))

parts-at : (test : Bool) (l : List ℕ) (ls : List (List ℕ)) → is_divider l ≡ test → Parts (take (script_lines ls) ls) (drop (script_lines ls + 1) ls) ls
    → Parts (take (script_lines (l ∷ ls)) (l ∷ ls)) (drop (script_lines (l ∷ ls) + 1) (l ∷ ls)) (l ∷ ls)
parts-at true l ls is later =
    subst (λ (n : ℕ). Parts (take n (l ∷ ls)) (drop (n + 1) (l ∷ ls)) (l ∷ ls)) (sym (none_before l ls is)) (inr (l, is, refl))
parts-at false l ls other later =
    subst (λ (n : ℕ). Parts (take n (l ∷ ls)) (drop (n + 1) (l ∷ ls)) (l ∷ ls)) (sym (one_before l ls other)) (with_line later)
  where
    with_line : Parts (take (script_lines ls) ls) (drop (script_lines ls + 1) ls) ls
        → Parts (l ∷ take (script_lines ls) ls) (drop (suc (script_lines ls) + 1) (l ∷ ls)) (l ∷ ls)
    with_line (inl whole) = inl (ap (λ t. l ++ t) whole.0, ap (λ n. concat (drop n (l ∷ ls))) (let next : suc (script_lines ls) + 1 ≡ suc (script_lines ls + 1) = omega arith in next) ∙ whole.1)
    with_line (inr cut) =
        inr (
          cut.0,
          cut.1,
          ap (λ n. (l ++ concat (take (script_lines ls) ls)) ++ (cut.0 ++ concat (drop n (l ∷ ls)))) (let next : suc (script_lines ls) + 1 ≡ suc (script_lines ls + 1) = omega arith in next)
              ∙ append_assoc l (concat (take (script_lines ls) ls)) (cut.0 ++ concat (drop (script_lines ls + 1) ls))
              ∙ ap (λ t. l ++ t) cut.2,
        )

parts_of : (lines : List (List ℕ)) → Parts (take (script_lines lines) lines) (drop (script_lines lines + 1) lines) lines
parts_of [] = inl (refl, refl)
parts_of (l ∷ ls) = parts-at (is_divider l) l ls refl (parts_of ls)

pub source_parts : (source : List ℕ)
    → ((script_of source ≡ source) × (trace_of source ≡ []))
    ⊎ ((line : List ℕ) × (is_divider line ≡ true) × (script_of source ++ (line ++ trace_of source) ≡ source))
unfolding script_of trace_of
source_parts source = by_parts (parts_of (lines_of source))
  where
    by_parts : Parts (take (script_lines (lines_of source)) (lines_of source)) (drop (script_lines (lines_of source) + 1) (lines_of source)) (lines_of source)
        → ((script_of source ≡ source) × (trace_of source ≡ []))
        ⊎ ((line : List ℕ) × (is_divider line ≡ true) × (script_of source ++ (line ++ trace_of source) ≡ source))
    by_parts (inl whole) = inl (whole.0 ∙ lines_make source, whole.1)
    by_parts (inr cut) = inr (cut.0, cut.1, cut.2 ∙ lines_make source)
