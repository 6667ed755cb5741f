-- The lines of texts that are put one behind the other.
use Rattle.std.proofs.Common.{◌≡◌, ◌≢◌, ◌∙◌, refl, sym, ap, ℕ, ◌+◌, ◌≤◌, Bool, true, false, cond, List, [], ◌∷◌, ◌++◌, length, arith, append_assoc, length-append}
use Rattle.std.specs.Prelude.{◌==◌}
use Rattle.std.specs.List.{All, AllByRecursion}
use Rattle.text_lines.specs.Lines.{behind_line}
use Rattle.text_lines.proofs.Splits.{first_fed, behind_fed}
use Rattle.trace_judge.specs.Lines.{before_lines, lines_of}
use Rattle.trace_judge.proofs.Splits.{lines_by_first}
use Rattle.stream_runs.specs.Alone.{EndsOnce}

-- a text that ends where a line ends: what follows it begins with a line
abbrev pub IsWhole : List ℕ → Type 0
IsWhole text = (more : List ℕ) → lines_of (text ++ more) ≡ lines_of text ++ lines_of more

pub whole_none : IsWhole []
unfolding lines_of
whole_none more = refl

pub whole_both : (a b : List ℕ) → IsWhole a → IsWhole b → IsWhole (a ++ b)
whole_both a b first second more =
    ap lines_of (append_assoc a b more)
    ∙ first (b ++ more)
    ∙ ap (λ ls. lines_of a ++ ls) (second more)
    ∙ sym (append_assoc (lines_of a) (lines_of b) (lines_of more))
    ∙ ap (λ ls. ls ++ lines_of more) (sym (first b))

fed-first : (front more : List ℕ) → All (λ byte. byte ≢ 10) front → lines_of (front ++ (10 ∷ more)) ≡ (front ++ (10 ∷ [])) ∷ lines_of more
fed-first front more clean =
    let long = length-append front (10 ∷ more) in
    lines_by_first (front ++ (10 ∷ more)) (omega arith)
    ∙ ap (λ l. l ∷ lines_of (behind_line (front ++ (10 ∷ more)))) (first_fed front more clean)
    ∙ ap (λ t. (front ++ (10 ∷ [])) ∷ lines_of t) (behind_fed front more clean)

fed-more : (text more : List ℕ) → EndsOnce text → lines_of (text ++ more) ≡ text ∷ lines_of more
fed-more text more fed =
    ap (λ t. lines_of (t ++ more)) fed.1
    ∙ ap lines_of (append_assoc fed.0 (10 ∷ []) more)
    ∙ fed-first fed.0 more fed.2
    ∙ ap (λ l. l ∷ lines_of more) (sym fed.1)

pub no_lines : lines_of [] ≡ []
unfolding lines_of
no_lines = refl

-- such a text is one line, and ends where that ends
pub fed_line : (text : List ℕ) → EndsOnce text → lines_of text ≡ text ∷ []
fed_line text fed = ap lines_of fed.1 ∙ fed-first fed.0 [] fed.2 ∙ ap (λ l. l ∷ lines_of []) (sym fed.1) ∙ ap (λ ls. text ∷ ls) no_lines

pub fed_whole : (text : List ℕ) → EndsOnce text → IsWhole text
fed_whole text fed more = fed-more text more fed ∙ ap (λ ls. ls ++ lines_of more) (sym (fed_line text fed))

-- ---- how many lines there are

both-at : (feed : Bool) (c : ℕ) (la lb lab : List (List ℕ)) → length lab ≤ length la + length lb
    → length (cond feed ((c ∷ []) ∷ lab) (before_lines c lab)) ≤ length (cond feed ((c ∷ []) ∷ la) (before_lines c la)) + length lb
both-at true c la lb lab few = omega arith
both-at false c [] lb [] few = omega arith
both-at false c [] lb (m ∷ ms) few = omega arith
both-at false c (l ∷ ls) lb [] few = omega arith
both-at false c (l ∷ ls) lb (m ∷ ms) few = omega arith

-- two texts have no more lines together
pub both_few : (a b : List ℕ) → length (lines_of (a ++ b)) ≤ length (lines_of a) + length (lines_of b)
unfolding lines_of
both_few [] b = omega arith
both_few (c ∷ cs) b = both-at (c == 10) c (lines_of cs) (lines_of b) (lines_of (cs ++ b)) (both_few cs b)

-- at most one line
abbrev pub IsOne : List ℕ → Type 0
IsOne text = length (lines_of text) ≤ 1

single-at : (feed : Bool) (c : ℕ) → length (cond feed ((c ∷ []) ∷ []) (before_lines c [])) ≤ 1
single-at true c = omega arith
single-at false c = omega arith

single : (c : ℕ) → IsOne (c ∷ [])
unfolding lines_of
single c = single-at (c == 10) c

before-one : (c : ℕ) (ls : List (List ℕ)) → length ls ≤ 1 → length (before_lines c ls) ≤ 1
before-one c [] few = omega arith
before-one c (l ∷ ls) few = few

longer : (c : ℕ) (l : List ℕ) → (c == 10) ≡ false → IsOne l → IsOne (c ∷ l)
unfolding lines_of
longer c l other few =
    let same = ap (λ feed. length (cond feed ((c ∷ []) ∷ lines_of l) (before_lines c (lines_of l)))) other in
    let one = before-one c (lines_of l) few in
    omega arith

ones-at : (feed : Bool) (c : ℕ) (ls : List (List ℕ)) → (c == 10) ≡ feed → AllByRecursion IsOne ls → AllByRecursion IsOne (cond feed ((c ∷ []) ∷ ls) (before_lines c ls))
ones-at true c ls is all = (single c, all)
ones-at false c [] is all = (single c, tt)
ones-at false c (l ∷ ls) is all = (longer c l is all.0, all.1)

-- each line of a text is one
pub lines_are_ones : (text : List ℕ) → AllByRecursion IsOne (lines_of text)
unfolding lines_of
lines_are_ones [] = tt
lines_are_ones (c ∷ cs) = ones-at (c == 10) c (lines_of cs) refl (lines_are_ones cs)
