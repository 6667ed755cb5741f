-- The names of a stream's pages: each is a name, and no two are the same.
use Rattle.std.proofs.Common.{◌≡◌, ◌≢◌, ◌∙◌, refl, sym, ap, subst, ℕ, zero, suc, ◌+◌, Bool, true, false, cond, List, [], ◌∷◌, ◌++◌, map, Option, Some, None}
use Rattle.std.specs.Prelude.{slice_get, bytes_eq}
use Rattle.std.specs.List.{All, AllByRecursion, list_all, list_any}
use Rattle.std.proofs.lemmas.Bool.{and_parts, or_parts, true≢false}
use Rattle.std.proofs.lemmas.List.Elements.{All-nil, All-cons}
use Rattle.std.proofs.lemmas.List.Folds.{list_any-append}
use Rattle.std.proofs.lemmas.Option.{none-some, same_Some}
use Rattle.std.proofs.lemmas.Slice.Eq.{bytes_eq-Decides}
use Rattle.word_model.specs.Names.{is_name}
use Rattle.script_model.specs.Lines.{is_word_byte}
use Rattle.script_text.proofs.WordBytes.{name_word}
use Rattle.trace_judge.specs.Lines.{lines_of}
use Rattle.page_stream.specs.PageLines.{page_named}
use Rattle.page_stream.specs.Pages.{PageLine, page_line_before, page_lines, first_named, page_starts, pages_of}

abbrev pub IsName : List ℕ → Type 0
IsName name = is_name name ≡ true

-- ---- what stands in a name

-- neither a space nor a line feed
abbrev pub IsPlain : ℕ → Type 0
IsPlain byte = (byte ≢ 32) × (byte ≢ 10)

plain : (byte : ℕ) → is_word_byte byte ≡ true → IsPlain byte
plain byte word = (
  λ is. true≢false (sym word ∙ ap is_word_byte is),
  λ is. true≢false (sym word ∙ ap is_word_byte is),
)

all-plain : (text : List ℕ) → list_all is_word_byte text ≡ true → All IsPlain text
all-plain [] words = All-nil IsPlain
all-plain (b ∷ bs) words = let both = and_parts (is_word_byte b) (list_all is_word_byte bs) words in All-cons IsPlain b bs (plain b both.0) (all-plain bs both.1)

pub name_plain : (name : List ℕ) → IsName name → All IsPlain name
name_plain name is = let word = name_word name is in subst (All IsPlain) (sym word.text_is) (all-plain (word.first ∷ word.others) word.bytes)

-- ---- each is a name

found-name : (test : Bool) (found name : List ℕ) → (test ≡ true → IsName found) → cond test (Some found) None ≡ Some name → IsName name
found-name true found name is same = subst IsName (same_Some found name same) (is refl)
found-name false found name is same = absurd (none-some name same)

pub page_named_name : (line name : List ℕ) → page_named line ≡ Some name → IsName name
unfolding page_named
page_named_name line name is = found-name _ _ name (λ both. (and_parts _ _ both).1) is

abbrev HasName : PageLine → Type 0
HasName it = IsName it.name

lines-at : (named : Option (List ℕ)) (line : List ℕ) (number : ℕ) (others : List PageLine) → page_named line ≡ named → AllByRecursion HasName others
    → AllByRecursion HasName (page_line_before named number others)
lines-at None line number others is later = later
lines-at (Some name) line number others is later = (page_named_name line name is, later)

lines-named : (number : ℕ) (lines : List (List ℕ)) → AllByRecursion HasName (page_lines number lines)
unfolding page_lines
lines-named number [] = tt
lines-named number (line ∷ lines) = lines-at (page_named line) line number (page_lines (number + 1) lines) refl (lines-named (number + 1) lines)

starts-at : (test : Bool) (it : PageLine) (known new : List PageLine) → HasName it → AllByRecursion HasName known → AllByRecursion HasName new
    → AllByRecursion HasName (cond test known (it ∷ new))
starts-at true it known new is old more = old
starts-at false it known new is old more = (is, more)

starts-named : (before : List (List ℕ)) (lines : List PageLine) → AllByRecursion HasName lines → AllByRecursion HasName (first_named before lines)
unfolding first_named
starts-named before [] all = tt
starts-named before (it ∷ others) all =
    starts-at (list_any (bytes_eq it.name) before) it (first_named before others) (first_named (before ++ (it.name ∷ [])) others) all.0 (starts-named before others all.1)
    (starts-named (before ++ (it.name ∷ [])) others all.1)

name-at : (starts : List PageLine) (place : ℕ) (name : List ℕ) → AllByRecursion HasName starts → slice_get (map (λ (it : PageLine). it.name) starts) place ≡ Some name → IsName name
name-at [] place name all is = absurd (none-some name is)
name-at (it ∷ others) zero name all is = subst IsName (same_Some it.name name is) all.0
name-at (it ∷ others) (suc place) name all is = name-at others place name all.1 is

pub page_name : (source : List ℕ) (place : ℕ) (name : List ℕ) → slice_get (pages_of source) place ≡ Some name → IsName name
unfolding pages_of page_starts
page_name source place name is = name-at (first_named [] (page_lines 1 (lines_of source))) place name (starts-named [] (page_lines 1 (lines_of source)) (lines-named 1 (lines_of source))) is

-- ---- no two are the same

-- none is one of these or of those before it
abbrev AreApart : List (List ℕ) → List (List ℕ) → Type 0
AreApart before [] = Unit {0}
AreApart before (name ∷ names) = (list_any (bytes_eq name) before ≡ false) × AreApart (before ++ (name ∷ [])) names

apart-at : (test : Bool) (before : List (List ℕ)) (it : PageLine) (known new : List PageLine) → list_any (bytes_eq it.name) before ≡ test
    → AreApart before (map (λ (it : PageLine). it.name) known) → AreApart (before ++ (it.name ∷ [])) (map (λ (it : PageLine). it.name) new)
    → AreApart before (map (λ (it : PageLine). it.name) (cond test known (it ∷ new)))
apart-at true before it known new is old more = old
apart-at false before it known new is old more = (is, more)

starts-apart : (before : List (List ℕ)) (lines : List PageLine) → AreApart before (map (λ (it : PageLine). it.name) (first_named before lines))
unfolding first_named
starts-apart before [] = tt
starts-apart before (it ∷ others) =
    apart-at (list_any (bytes_eq it.name) before) before it (first_named before others) (first_named (before ++ (it.name ∷ [])) others) refl (starts-apart before others)
    (starts-apart (before ++ (it.name ∷ [])) others)

-- a name there is none of those before
not-before : (before names : List (List ℕ)) (place : ℕ) (name : List ℕ) → AreApart before names → slice_get names place ≡ Some name → list_any (bytes_eq name) before ≡ false
not-before before [] place name apart is = absurd (none-some name is)
not-before before (first ∷ names) zero name apart is = subst (λ (n : List ℕ). list_any (bytes_eq n) before ≡ false) (same_Some first name is) apart.0
not-before before (first ∷ names) (suc place) name apart is =
    (or_parts (list_any (bytes_eq name) before) (list_any (bytes_eq name) (first ∷ []))
    (sym (list_any-append (bytes_eq name) before (first ∷ [])) ∙ not-before (before ++ (first ∷ [])) names place name apart.1 is)).0

not-first : (before names : List (List ℕ)) (place : ℕ) (first name : List ℕ) → AreApart (before ++ (first ∷ [])) names → slice_get names place ≡ Some name → first ≡ name → ⊥
not-first before names place first name apart is same =
    let other = or_parts (list_any (bytes_eq name) before) (list_any (bytes_eq name) (first ∷ []))
    (sym (list_any-append (bytes_eq name) before (first ∷ [])) ∙ not-before (before ++ (first ∷ [])) names place name apart is) in
    true≢false (sym ((bytes_eq-Decides name first).1 (sym same)) ∙ (or_parts (bytes_eq name first) false other.1).0)

one-place : (before names : List (List ℕ)) (i j : ℕ) (name : List ℕ) → AreApart before names → slice_get names i ≡ Some name → slice_get names j ≡ Some name → i ≡ j
one-place before [] i j name apart at_i at_j = absurd (none-some name at_i)
one-place before (first ∷ names) zero zero name apart at_i at_j = refl
one-place before (first ∷ names) zero (suc j) name apart at_i at_j = absurd (not-first before names j first name apart.1 at_j (same_Some first name at_i))
one-place before (first ∷ names) (suc i) zero name apart at_i at_j = absurd (not-first before names i first name apart.1 at_i (same_Some first name at_j))
one-place before (first ∷ names) (suc i) (suc j) name apart at_i at_j = ap suc (one-place (before ++ (first ∷ [])) names i j name apart.1 at_i at_j)

pub page_place : (source : List ℕ) (i j : ℕ) (name : List ℕ) → slice_get (pages_of source) i ≡ Some name → slice_get (pages_of source) j ≡ Some name → i ≡ j
unfolding pages_of page_starts
page_place source i j name at_i at_j =
    one-place [] (map (λ (it : PageLine). it.name) (first_named [] (page_lines 1 (lines_of source)))) i j name (starts-apart [] (page_lines 1 (lines_of source))) at_i at_j
