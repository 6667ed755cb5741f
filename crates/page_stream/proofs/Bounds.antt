-- Where the parts of a stream stand in its source, and the script of a page, part by part.
use Rattle.std.proofs.Common.{◌≡◌, ◌∙◌, refl, sym, ap, subst, ℕ, zero, suc, ◌+◌, ◌<◌, ◌≤◌, Bool, true, false, cond, List, [], ◌∷◌, ◌++◌, length, map, take, get_or, Option, length-append, arith}
use Rattle.std.specs.Prelude.{◌==◌, Some, None, unwrap_or, filter, slice_range}
use Rattle.std.specs.List.{AllByRecursion, concat}
use Rattle.std.proofs.lemmas.Bool.{eq-eqb, ne_eqb}
use Rattle.std.proofs.lemmas.List.{append-nil, map-append, take_more, take_all}
use Rattle.std.proofs.lemmas.List.Elements.{filter-append}
use Rattle.std.proofs.lemmas.List.Folds.{concat-append}
use Rattle.trace_judge.specs.Lines.{lines_of}
use Rattle.trace_judge.proofs.Splits.{lines_make}
use Rattle.page_stream.specs.declared.stream.Part.{Part}
use Rattle.page_stream.specs.PageLines.{page_named}
use Rattle.page_stream.specs.Pages.{pages_of}
use Rattle.page_stream.specs.Parts.{OwnedLine, owned_before, owned_lines, part_at, place_of, parts_behind, parts_of, script_of}

-- a place of the source
abbrev pub Stands : ℕ → ℕ → ℕ → Type 0
Stands end from to = (from ≤ to) × (to ≤ end)

owned-at : (end : ℕ) (named : Option (List ℕ)) (it : OwnedLine) (others : List OwnedLine) → Stands end it.from it.to → AllByRecursion (λ o. Stands end o.from o.to) others
    → AllByRecursion (λ o. Stands end o.from o.to) (owned_before named it others)
owned-at end None it others here later = (here, later)
owned-at end (Some name) it others here later = later

owned_stand : (end : ℕ) (page : List ℕ) (from : ℕ) (lines : List (List ℕ)) → from + length (concat lines) ≤ end → AllByRecursion (λ o. Stands end o.from o.to) (owned_lines page from lines)
unfolding owned_lines
owned_stand end page from [] fits = tt
owned_stand end page from (line ∷ lines) fits =
    let both : length (line ++ concat lines) ≡ length line + length (concat lines) = length-append line (concat lines) in
    owned-at end (page_named line) (record { page = page; from = from; to = from + length line }) (owned_lines (unwrap_or (page_named line) page) (from + length line) lines) (omega arith, omega arith)
    (owned_stand end (unwrap_or (page_named line) page) (from + length line) lines (omega arith))

parts_stand : (end : ℕ) (pages : List (List ℕ)) (before : List Part) (owned : List OwnedLine) → AllByRecursion (λ o. Stands end o.from o.to) owned → AllByRecursion (λ part. Stands end part.from part.to) (parts_behind pages before owned)
unfolding parts_behind
parts_stand end pages before [] stand = tt
parts_stand end pages before (o ∷ os) stand = (stand.0, parts_stand end pages (before ++ (part_at (place_of pages o) before o ∷ [])) os stand.1)

all_at : {A : Type 0} (P : A → Type 0) (xs : List A) (k : ℕ) (d : A) → AllByRecursion P xs → k < length xs → P (get_or xs k d)
all_at P [] k d all less = absurd (omega arith)
all_at P (x ∷ xs) zero d all less = all.0
all_at P (x ∷ xs) (suc k) d all less = all_at P xs k d all.1 (omega arith)

stands : (source : List ℕ) (k : ℕ) (d : Part) → k < length (parts_of source) → Stands (length source) ((get_or (parts_of source) k d).from) ((get_or (parts_of source) k d).to)
unfolding parts_of
stands source k d less =
    all_at (λ part. Stands (length source) part.from part.to) (parts_of source) k d
    (parts_stand (length source) (pages_of source) [] (owned_lines [] 0 (lines_of source)) (owned_stand (length source) [] 0 (lines_of source) (let whole = ap length (lines_make source) in omega arith)))
    less

pub part_stands : (source : List ℕ) {parts : List Part} (k : ℕ) (d : Part) → parts ≡ parts_of source → k < length parts → Stands (length source) ((get_or parts k d).from) ((get_or parts k d).to)
part_stands source {parts} k d are less =
    let long = ap length are in
    subst (λ (ps : List Part). Stands (length source) ((get_or ps k d).from) ((get_or ps k d).to)) (sym are) (stands source k d (omega arith))

-- ---- the script of a page

abbrev pub text_in : ℕ → List ℕ → List Part → List ℕ
text_in page source parts = concat (map (λ part. slice_range source part.from part.to) (filter (λ part. part.page == page) parts))

text-at : (page : ℕ) (source : List ℕ) (part : Part) (of_page : Bool) → concat (map (λ p. slice_range source p.from p.to) (cond of_page (part ∷ []) [])) ≡ cond of_page (slice_range source part.from part.to) []
text-at page source part true = append-nil (slice_range source part.from part.to)
text-at page source part false = refl

text_more : (page : ℕ) (source : List ℕ) (parts : List Part) (part : Part) → text_in page source (parts ++ (part ∷ [])) ≡ text_in page source parts ++ cond (part.page == page) (slice_range source part.from part.to) []
text_more page source parts part =
    ap (λ ps. concat (map (λ p. slice_range source p.from p.to) ps)) (filter-append (λ p. p.page == page) parts (part ∷ []))
    ∙ ap concat (map-append (λ (p : Part). slice_range source p.from p.to) (filter (λ p. p.page == page) parts) (filter (λ p. p.page == page) (part ∷ [])))
    ∙ concat-append (map (λ p. slice_range source p.from p.to) (filter (λ p. p.page == page) parts)) (map (λ p. slice_range source p.from p.to) (filter (λ p. p.page == page) (part ∷ [])))
    ∙ ap (λ text. text_in page source parts ++ text) (text-at page source part (part.page == page))

taken-at : (page : ℕ) (source : List ℕ) (parts : List Part) (k : ℕ) (d : Part) (of_page : Bool) → k < length parts → ((get_or parts k d).page == page) ≡ of_page
    → text_in page source (take (k + 1) parts) ≡ text_in page source (take k parts) ++ cond of_page (slice_range source ((get_or parts k d).from) ((get_or parts k d).to)) []
taken-at page source parts k d of_page less is =
    ap (λ ps. text_in page source ps) (take_more parts k d less)
    ∙ text_more page source (take k parts) (get_or parts k d)
    ∙ ap (λ test. text_in page source (take k parts) ++ cond test (slice_range source ((get_or parts k d).from) ((get_or parts k d).to)) []) is

-- a part of the page, after those before it
pub script_more : (page : ℕ) (source : List ℕ) {text script longer : List ℕ} {parts : List Part} (k : ℕ) (d : Part) → parts ≡ parts_of source → k < length parts → (get_or parts k d).page ≡ page
    → script ≡ text_in page source (take k (parts_of source)) → text ≡ slice_range source ((get_or parts k d).from) ((get_or parts k d).to) → longer ≡ script ++ text
    → longer ≡ text_in page source (take (k + 1) (parts_of source))
script_more page source {text} {script} {longer} {parts} k d are less of_page so_far is more =
    more
    ∙ ap (λ t. t ++ text) (so_far ∙ ap (λ ps. text_in page source (take k ps)) (sym are))
    ∙ ap (λ t. text_in page source (take k parts) ++ t) is
    ∙ sym (taken-at page source parts k d true less (eq-eqb ((get_or parts k d).page) page of_page))
    ∙ ap (λ ps. text_in page source (take (k + 1) ps)) are

-- a part of another page
pub script_same : (page : ℕ) (source : List ℕ) {script longer : List ℕ} {parts : List Part} (k : ℕ) (d : Part) → parts ≡ parts_of source → k < length parts → ((get_or parts k d).page ≡ page → ⊥)
    → script ≡ text_in page source (take k (parts_of source)) → longer ≡ script → longer ≡ text_in page source (take (k + 1) (parts_of source))
script_same page source {script} {longer} {parts} k d are less other so_far same =
    same
    ∙ so_far
    ∙ ap (λ ps. text_in page source (take k ps)) (sym are)
    ∙ sym (append-nil (text_in page source (take k parts)))
    ∙ sym (taken-at page source parts k d false less (ne_eqb ((get_or parts k d).page) page other))
    ∙ ap (λ ps. text_in page source (take (k + 1) ps)) are

pub script_none : (page : ℕ) (source : List ℕ) → text_in page source (take 0 (parts_of source)) ≡ []
script_none page source = refl

pub script_all : (page : ℕ) (source : List ℕ) (k : ℕ) → length (parts_of source) ≤ k → text_in page source (take k (parts_of source)) ≡ script_of page source
unfolding script_of
script_all page source k past = ap (λ parts. text_in page source parts) (take_all k (parts_of source) past)
