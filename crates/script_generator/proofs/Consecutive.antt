-- Lines of words on the numbers behind one, without a line between them.
use Rattle.std.proofs.Common.{◌≡◌, ◌∙◌, refl, ap, sym, ℕ, ◌+◌, ◌-◌, ◌*◌, ◌≤◌, List, [], ◌∷◌, ◌++◌, length, arith, append_assoc, length-append}
use Rattle.std.proofs.lemmas.List.{append-nil}
use Rattle.std.specs.Prelude.{flat_map, map, replicate}
use Rattle.script_text.specs.NumberedLines.{NumberedLine, numbered}
use Rattle.script_text.specs.ScriptText.{line_text, lines_text}
use Rattle.script_text.specs.WellFormed.{Rise, AreShort}

-- a line by its words
abbrev pub Words : Type 0
Words = List (List ℕ)

unfoldable pub consecutive : ℕ → List Words → List NumberedLine
consecutive number [] = []
consecutive number (words ∷ others) = numbered (number + 1) words ∷ consecutive (number + 1) others

-- the text of a line with the line feed before it
abbrev pub begun : Words → List ℕ
begun words = 10 ∷ line_text words

one_feed : (number : ℕ) → replicate {A = ℕ} (number + 1 - number) 10 ≡ 10 ∷ []
one_feed number = ap (λ feeds. replicate {A = ℕ} feeds 10) (let one : number + 1 - number ≡ 1 = omega arith in one)

pub consecutive_text : (number : ℕ) (lines : List Words) → lines_text number (consecutive number lines) ≡ flat_map begun lines
unfolding lines_text consecutive
consecutive_text number [] = refl
consecutive_text number (words ∷ others) =
    ap (λ feeds. feeds ++ (line_text words ++ lines_text (number + 1) (consecutive (number + 1) others))) (one_feed number)
    ∙ ap (λ rest. 10 ∷ (line_text words ++ rest)) (consecutive_text (number + 1) others)

pub consecutive_rise : (number : ℕ) (lines : List Words) → Rise number (consecutive number lines)
unfolding Rise consecutive
consecutive_rise number [] = tt
consecutive_rise number (words ∷ others) = (omega arith, consecutive_rise (number + 1) others)

-- lines of at most 100 bytes
unfoldable pub AreBrief : List Words → Type 0
AreBrief [] = Unit {0}
AreBrief (words ∷ others) = (length (line_text words) ≤ 100) × AreBrief others

pub brief_both : (xs ys : List Words) → AreBrief xs → AreBrief ys → AreBrief (xs ++ ys)
unfolding AreBrief
brief_both [] ys brief others = others
brief_both (x ∷ xs) ys brief others = (brief.0, brief_both xs ys brief.1 others)

pub consecutive_short : (number : ℕ) (lines : List Words) → AreBrief lines → AreShort (consecutive number lines)
unfolding AreShort consecutive AreBrief
consecutive_short number [] brief = tt
consecutive_short number (words ∷ others) brief =
    (let short : length (line_text words) ≤ 100 = brief.0 in omega arith, consecutive_short (number + 1) others brief.1)

pub brief_text : (lines : List Words) → AreBrief lines → length (flat_map begun lines) ≤ 101 * length lines
unfolding AreBrief
brief_text [] brief = omega arith
brief_text (words ∷ others) brief =
    let first : length (line_text words) ≤ 100 = brief.0 in
    let rest = brief_text others brief.1 in
    let both = length-append (begun words) (flat_map begun others) in
    omega arith

-- line feeds before each line and behind the last one are those behind each line
pub feeds_behind : (first : List ℕ) (lines : List Words)
    → (first ++ flat_map begun lines) ++ (10 ∷ []) ≡ flat_map (λ line. line ++ (10 ∷ [])) (first ∷ map line_text lines)
feeds_behind first [] = ap (λ text. text ++ (10 ∷ [])) (append-nil first) ∙ sym (append-nil (first ++ (10 ∷ [])))
feeds_behind first (words ∷ others) =
    let later : (line_text words ++ flat_map begun others) ++ (10 ∷ []) ≡ flat_map (λ line. line ++ (10 ∷ [])) (line_text words ∷ map line_text others) =
    feeds_behind (line_text words) others in
    append_assoc first (10 ∷ (line_text words ++ flat_map begun others)) (10 ∷ [])
    ∙ ap (λ rest. first ++ (10 ∷ rest)) later
    ∙ sym (append_assoc first (10 ∷ []) _)
