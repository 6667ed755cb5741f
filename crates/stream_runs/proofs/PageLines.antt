-- The lines of a page in a stream: they have the numbers from 1 on, and its script has no more lines than there are.
use Rattle.std.proofs.Common.{◌≡◌, ◌∙◌, refl, sym, ap, subst, ℕ, ◌+◌, ◌-◌, ◌≤◌, Bool, true, false, cond, List, [], ◌∷◌, ◌++◌, length, map, take, drop, arith, append_assoc, length-append, Option, Some, None}
use Rattle.std.specs.Prelude.{◌==◌, slice_range, unwrap_or, count_by}
use Rattle.std.specs.List.{AllByRecursion, filter, concat}
use Rattle.std.proofs.lemmas.Bool.{eqb-true}
use Rattle.std.proofs.lemmas.List.{drop_at, take_at}
use Rattle.std.proofs.lemmas.List.Sums.{sum_by_push}
use Rattle.trace_judge.specs.Lines.{lines_of}
use Rattle.trace_judge.proofs.Splits.{lines_make}
use Rattle.page_stream.specs.declared.stream.Part.{Part}
use Rattle.page_stream.specs.PageLines.{page_named}
use Rattle.page_stream.specs.Pages.{pages_of}
use Rattle.page_stream.specs.Parts.{OwnedLine, owned_before, owned_lines, part_at, place_of, parts_behind, parts_of, script_of}
use Rattle.stream_runs.proofs.Lines.{IsOne, both_few, no_lines, lines_are_ones}
use Rattle.stream_runs.proofs.Alone.{up_from}

abbrev pub of_page : ℕ → List Part → List Part
of_page place parts = filter (λ part. part.page == place) parts

-- the numbers of a page's lines among these
abbrev pub numbers_at : ℕ → List Part → List ℕ
numbers_at place parts = map (λ (part : Part). part.line) (of_page place parts)

abbrev counted : ℕ → List Part → ℕ
counted place parts = count_by (λ part. part.page == place) parts

-- ---- the numbers from 1 on

counted-at : (here : Bool) (place : ℕ) (before : List Part) (part : Part) → (part.page == place) ≡ here → counted place (before ++ (part ∷ [])) ≡ counted place before + cond here 1 0
counted-at here place before part at =
    sum_by_push (λ (it : Part). cond (it.page == place) 1 0) before part ∙ ap (λ test. counted place before + cond test 1 0) at

numbers-at : (here : Bool) (place : ℕ) (before others : List Part) (part : Part) → (part.page == place) ≡ here → part.line ≡ counted part.page before + 1
    → numbers_at place others ≡ up_from (counted place (before ++ (part ∷ []))) (length (of_page place others))
    → numbers_at place (part ∷ others) ≡ up_from (counted place before) (length (of_page place (part ∷ others)))
numbers-at true place before others part at number later =
    let line : part.line ≡ counted place before + 1 = number ∙ ap (λ page. counted page before + 1) (eqb-true part.page place at) in
    ap (λ here. map (λ (it : Part). it.line) (cond here (part ∷ of_page place others) (of_page place others))) at
    ∙ ap (λ n. n ∷ numbers_at place others) line
    ∙ ap (λ ns. (counted place before + 1) ∷ ns) (later ∙ ap (λ k. up_from k (length (of_page place others))) (counted-at true place before part at))
    ∙ ap (λ here. up_from (counted place before) (length (cond here (part ∷ of_page place others) (of_page place others)))) (sym at)
numbers-at false place before others part at number later =
    let same : counted place before + 0 ≡ counted place before = omega arith in
    ap (λ here. map (λ (it : Part). it.line) (cond here (part ∷ of_page place others) (of_page place others))) at
    ∙ later
    ∙ ap (λ k. up_from k (length (of_page place others))) (counted-at false place before part at ∙ same)
    ∙ ap (λ here. up_from (counted place before) (length (cond here (part ∷ of_page place others) (of_page place others)))) (sym at)

numbers-behind : (place : ℕ) (pages : List (List ℕ)) (before : List Part) (owned : List OwnedLine)
    → numbers_at place (parts_behind pages before owned) ≡ up_from (counted place before) (length (of_page place (parts_behind pages before owned)))
unfolding parts_behind
numbers-behind place pages before [] = refl
numbers-behind place pages before (it ∷ others) =
    let part : Part = part_at (place_of pages it) before it in
    numbers-at (part.page == place) place before (parts_behind pages (before ++ (part ∷ [])) others) part refl refl (numbers-behind place pages (before ++ (part ∷ [])) others)

pub page_numbers : (place : ℕ) (source : List ℕ) → numbers_at place (parts_of source) ≡ up_from 0 (length (of_page place (parts_of source)))
unfolding parts_of
page_numbers place source = numbers-behind place (pages_of source) [] (owned_lines [] 0 (lines_of source))

-- ---- the lines of a page's script

-- what stands at a place in a text
at-place : (source front line rest : List ℕ) (from : ℕ) → source ≡ front ++ (line ++ rest) → length front ≡ from → slice_range source from (from + length line) ≡ line
at-place source front line rest from is long =
    let size : from + length line - from ≡ length line = omega arith in
    ap (λ n. take n (drop from source)) size
    ∙ ap (λ text. take (length line) (drop from text)) is
    ∙ ap (λ text. take (length line) text) (drop_at front (line ++ rest) from long)
    ∙ take_at line rest (length line) refl

abbrev IsOneIn : List ℕ → OwnedLine → Type 0
IsOneIn source it = IsOne (slice_range source it.from it.to)

owned-at : (named : Option (List ℕ)) (source current : List ℕ) (it : OwnedLine) (others : List OwnedLine) → IsOneIn source it → AllByRecursion (IsOneIn source) others
    → AllByRecursion (IsOneIn source) (owned_before named it others)
owned-at None source current it others one later = (one, later)
owned-at (Some name) source current it others one later = later

owned-ones : (source front current : List ℕ) (from : ℕ) (lines : List (List ℕ)) → source ≡ front ++ concat lines → length front ≡ from → AllByRecursion IsOne lines
    → AllByRecursion (IsOneIn source) (owned_lines current from lines)
unfolding owned_lines
owned-ones source front current from [] is long ones = tt
owned-ones source front current from (line ∷ lines) is long ones =
    let both = length-append front line in
    owned-at (page_named line) source current (record { page = current; from = from; to = from + length line })
    (owned_lines (unwrap_or (page_named line) current) (from + length line) lines)
    (subst IsOne (sym (at-place source front line (concat lines) from is long)) ones.0)
    (owned-ones source (front ++ line) (unwrap_or (page_named line) current) (from + length line) lines (is ∙ sym (append_assoc front line (concat lines))) (omega arith) ones.1)

parts-ones : (source : List ℕ) (pages : List (List ℕ)) (before : List Part) (owned : List OwnedLine) → AllByRecursion (IsOneIn source) owned
    → AllByRecursion (λ (part : Part). IsOne (slice_range source part.from part.to)) (parts_behind pages before owned)
unfolding parts_behind
parts-ones source pages before [] ones = tt
parts-ones source pages before (it ∷ others) ones =
    (ones.0, parts-ones source pages (before ++ (part_at (place_of pages it) before it ∷ [])) others ones.1)

few-at : (here : Bool) (text : Part → List ℕ) (part : Part) (own : List Part) → IsOne (text part) → length (lines_of (concat (map text own))) ≤ length own
    → length (lines_of (concat (map text (cond here (part ∷ own) own)))) ≤ length (cond here (part ∷ own) own)
few-at true text part own one few = let both = both_few (text part) (concat (map text own)) in omega arith
few-at false text part own one few = few

few-of : (place : ℕ) (text : Part → List ℕ) (parts : List Part) → AllByRecursion (λ part. IsOne (text part)) parts
    → length (lines_of (concat (map text (of_page place parts)))) ≤ length (of_page place parts)
few-of place text [] ones = let none = ap length no_lines in omega arith
few-of place text (part ∷ parts) ones = few-at (part.page == place) text part (of_page place parts) ones.0 (few-of place text parts ones.1)

pub script_few : (place : ℕ) (source : List ℕ) → length (lines_of (script_of place source)) ≤ length (of_page place (parts_of source))
unfolding script_of parts_of
script_few place source =
    few-of place (λ part. slice_range source part.from part.to) (parts_behind (pages_of source) [] (owned_lines [] 0 (lines_of source)))
    (parts-ones source (pages_of source) [] (owned_lines [] 0 (lines_of source))
    (owned-ones source [] [] 0 (lines_of source) (sym (lines_make source)) refl (lines_are_ones source)))
