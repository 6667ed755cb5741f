-- Pages and parts, a page or a line more.
use Rattle.std.proofs.Common.{◌≡◌, ◌≢◌, ◌∙◌, refl, sym, ap, subst, ℕ, suc, ◌+◌, ◌<◌, ◌≤◌, Bool, true, false, cond, List, [], ◌∷◌, ◌++◌, length, append_assoc, length-append, arith}
use Rattle.std.specs.Prelude.{◌==◌, slice_index, slice_set, bytes_eq, count_by}
use Rattle.std.specs.List.{AllByRecursion, position_or_len}
use Rattle.std.proofs.lemmas.Bool.{ne_eqb, eqb-true, eqb-false}
use Rattle.std.proofs.lemmas.List.{append-nil, get_or_push, get_or_append_left, get_or-set_same, get_or-set_other, length-set}
use Rattle.std.proofs.lemmas.List.Sums.{sum_by_push, sum_by-cons}
use Rattle.std.proofs.lemmas.Slice.Eq.{bytes_eq-Decides}
use Rattle.page_stream.specs.declared.stream.Part.{Part}
use Rattle.page_stream.specs.Parts.{OwnedLine, part_at, place_of, parts_behind}
use Rattle.page_stream.specs.Splits.{AreHeld}
use Rattle.page_stream.proofs.Places.{place_kept, place_added, all_more}

-- a part more
pub parts_more : (pages : List (List ℕ)) (before : List Part) (owned : List OwnedLine) (it : OwnedLine)
    → parts_behind pages before (owned ++ (it ∷ [])) ≡ parts_behind pages before owned ++ (part_at (place_of pages it) (before ++ parts_behind pages before owned) it ∷ [])
unfolding parts_behind
parts_more pages before [] it = ap (λ parts. part_at (place_of pages it) parts it ∷ []) (sym (append-nil before))
parts_more pages before (o ∷ os) it =
    let part : Part = part_at (place_of pages o) before o in
    let later : List Part = parts_behind pages (before ++ (part ∷ [])) os in
    ap (λ parts. part ∷ parts)
    (parts_more pages (before ++ (part ∷ [])) os it
    ∙ ap (λ parts. later ++ (part_at (place_of pages it) parts it ∷ [])) (append_assoc before (part ∷ []) later))

-- the same parts with a page more
pub parts_wider : (pages : List (List ℕ)) (name : List ℕ) (before : List Part) (owned : List OwnedLine) → AllByRecursion (λ it. place_of pages it < length pages) owned
    → parts_behind (pages ++ (name ∷ [])) before owned ≡ parts_behind pages before owned
unfolding parts_behind
parts_wider pages name before [] known = refl
parts_wider pages name before (o ∷ os) known =
    ap (λ place. part_at place before o ∷ parts_behind (pages ++ (name ∷ [])) (before ++ (part_at place before o ∷ [])) os) (place_kept (bytes_eq o.page) pages name known.0)
    ∙ ap (λ parts. part_at (place_of pages o) before o ∷ parts) (parts_wider pages name (before ++ (part_at (place_of pages o) before o ∷ [])) os known.1)

pub parts_as_many : (pages : List (List ℕ)) (before : List Part) (owned : List OwnedLine) → length (parts_behind pages before owned) ≡ length owned
unfolding parts_behind
parts_as_many pages before [] = refl
parts_as_many pages before (o ∷ os) = ap suc (parts_as_many pages (before ++ (part_at (place_of pages o) before o ∷ [])) os)

known_wider : (pages : List (List ℕ)) (name : List ℕ) (owned : List OwnedLine) → AllByRecursion (λ it. place_of pages it < length pages) owned
    → AllByRecursion (λ it. place_of (pages ++ (name ∷ [])) it < length (pages ++ (name ∷ []))) owned
known_wider pages name [] known = tt
known_wider pages name (o ∷ os) known =
    let here : place_of pages o < length pages = known.0 in
    let same : place_of (pages ++ (name ∷ [])) o ≡ place_of pages o = place_kept (bytes_eq o.page) pages name here in
    let long : length (pages ++ (name ∷ [])) ≡ length pages + 1 = length-append pages (name ∷ []) in
    (omega arith, known_wider pages name os known.1)

-- no part is of a page that isn't there yet
none_there : (pages : List (List ℕ)) (before : List Part) (owned : List OwnedLine) → AllByRecursion (λ it. place_of pages it < length pages) owned
    → count_by (λ part. part.page == length pages) (parts_behind pages before owned) ≡ 0
unfolding parts_behind
none_there pages before [] known = refl
none_there pages before (o ∷ os) known =
    let here : place_of pages o < length pages = known.0 in
    let other : place_of pages o ≢ length pages = λ same. omega arith in
    let part : Part = part_at (place_of pages o) before o in
    let later : List Part = parts_behind pages (before ++ (part ∷ [])) os in
    sum_by-cons (λ (p : Part). cond (p.page == length pages) 1 0) part later
    ∙ ap (λ test. cond test 1 0 + count_by (λ p. p.page == length pages) later) (ne_eqb (place_of pages o) (length pages) other)
    ∙ ap (λ count. 0 + count) (none_there pages (before ++ (part ∷ [])) os known.1)

-- the same by equal lists
pub held_same : {pages others : List (List ℕ)} {lines counts : List ℕ} {place : ℕ} {parts more : List Part} {owned : List OwnedLine} {page : List ℕ}
    → AreHeld pages lines place parts owned page → others ≡ pages → counts ≡ lines → more ≡ parts → AreHeld others counts place more owned page
held_same {pages} {others} {lines} {counts} {place} {parts} {more} {owned} {page} held same_pages same_lines same_parts =
    subst (λ (ps : List (List ℕ)). AreHeld ps counts place more owned page) (sym same_pages)
    (subst (λ (ls : List ℕ). AreHeld pages ls place more owned page) (sym same_lines)
    (subst (λ (ps : List Part). AreHeld pages lines place ps owned page) (sym same_parts) held))

-- a page line of a page that was named before
pub held_turned : {pages : List (List ℕ)} {lines : List ℕ} {current place : ℕ} {parts : List Part} {owned : List OwnedLine} {page : List ℕ} (name : List ℕ)
    → AreHeld pages lines current parts owned page → place ≡ position_or_len (bytes_eq name) pages → AreHeld pages lines place parts owned name
held_turned name held is = record { parts_are = held.parts_are; as_many = held.as_many; counted = held.counted; here = is; known = held.known }

below-or-last : (k n : ℕ) → k < n + 1 → (k ≡ n → ⊥) → k < n
below-or-last k n less other = omega arith

counted-new : (lines : List ℕ) (len count k : ℕ) (is_last : Bool) → length lines ≡ len → (is_last ≡ true → k ≡ len) → (is_last ≡ false → k ≡ len → ⊥) → k < len + 1
    → (k < len → slice_index lines k ≡ count) → (k ≡ len → count ≡ 0) → slice_index (lines ++ (0 ∷ [])) k ≡ count
counted-new lines len count k true long last not_last less older none =
    let at_end : k ≡ len = last refl in
    get_or_push lines 0 0 k (omega arith) ∙ sym (none at_end)
counted-new lines len count k false long last not_last less older none =
    let before : k < len = below-or-last k len less (not_last refl) in
    get_or_append_left lines (0 ∷ []) 0 k (omega arith) ∙ older before

-- a page line of a new page
pub held_begun : {pages : List (List ℕ)} {lines : List ℕ} {current place : ℕ} {parts : List Part} {owned : List OwnedLine} {page : List ℕ} (name : List ℕ)
    → AreHeld pages lines current parts owned page → length pages ≤ position_or_len (bytes_eq name) pages → place ≡ length pages
    → AreHeld (pages ++ (name ∷ [])) (lines ++ (0 ∷ [])) place parts owned name
held_begun {pages} {lines} {current} {place} {parts} {owned} {page} name held new is = record {
  parts_are = held.parts_are ∙ sym (parts_wider pages name [] owned held.known);
  as_many =
      let many = held.as_many in
      let one = length-append lines (0 ∷ []) in
      let other = length-append pages (name ∷ []) in
      omega arith;
  counted = λ k less.
      let long : length (pages ++ (name ∷ [])) ≡ length pages + 1 = length-append pages (name ∷ []) in
      counted-new lines (length pages) (count_by (λ part. part.page == k) parts) k (k == length pages) held.as_many (eqb-true k (length pages)) (eqb-false k (length pages)) (omega arith) (held.counted k)
      (λ last. ap (λ n. count_by (λ part. part.page == n) parts) last ∙ ap (λ ps. count_by (λ part. part.page == length pages) ps) held.parts_are ∙ none_there pages [] owned held.known);
  here = is ∙ sym (place_added (bytes_eq name) pages name new ((bytes_eq-Decides name name).1 refl));
  known = known_wider pages name owned held.known;
}

counted-more : (lines : List ℕ) (at count k : ℕ) (same : Bool) → (at == k) ≡ same → at < length lines → slice_index lines k ≡ count
    → slice_index (slice_set lines at (slice_index lines at + 1)) k ≡ count + cond same 1 0
counted-more lines at count k true is inside older =
    let here : at ≡ k = eqb-true at k is in
    ap (λ n. slice_index (slice_set lines at (slice_index lines at + 1)) n) (sym here)
    ∙ get_or-set_same lines at (slice_index lines at + 1) 0 inside
    ∙ ap (λ n. slice_index lines n + 1) here
    ∙ ap (λ n. n + 1) older
counted-more lines at count k false is inside older =
    let none : count ≡ count + 0 = omega arith in
    get_or-set_other lines at k (slice_index lines at + 1) 0 (λ same. eqb-false at k is (sym same)) ∙ older ∙ none

-- a line of the current page
pub held_added : {pages : List (List ℕ)} {lines : List ℕ} {current : ℕ} {parts : List Part} {owned : List OwnedLine} {page : List ℕ} (from to : ℕ)
    → AreHeld pages lines current parts owned page → current < length pages
    → AreHeld pages (slice_set lines current (slice_index lines current + 1)) current (parts ++ (record { line = slice_index lines current + 1; page = current; from = from; to = to } ∷ []))
    (owned ++ (record { page = page; from = from; to = to } ∷ [])) page
held_added {pages} {lines} {current} {parts} {owned} {page} from to held inside = record {
  parts_are = ap (λ ps. parts ++ (ps ∷ [])) new ∙ ap (λ ps. ps ++ (part_at (place_of pages it) ps it ∷ [])) held.parts_are ∙ sym (parts_more pages [] owned it);
  as_many = length-set lines current (slice_index lines current + 1) ∙ held.as_many;
  counted = λ k less.
      let many = held.as_many in
      counted-more lines current (count_by (λ part. part.page == k) parts) k (current == k) refl (omega arith) (held.counted k less)
      ∙ sym (sum_by_push (λ (part : Part). cond (part.page == k) 1 0) parts (part-with (slice_index lines current + 1)));
  here = held.here;
  known = all_more (λ it. place_of pages it < length pages) owned it held.known (let at = held.here in omega arith);
}
  where
    it : OwnedLine
    it = record { page = page; from = from; to = to }

    part-with : ℕ → Part
    part-with line = record { line = line; page = current; from = from; to = to }

    new : part-with (slice_index lines current + 1) ≡ part_at (place_of pages it) parts it
    new = ap (λ n. part-with (n + 1)) (held.counted current inside) ∙ ap (λ place. part_at place parts it) held.here

pub held_none : {pages : List (List ℕ)} {lines : List ℕ} {parts : List Part} → pages ≡ [] → lines ≡ [] → parts ≡ [] → AreHeld pages lines 0 parts [] []
unfolding parts_behind
held_none {pages} {lines} {parts} no_pages no_lines no_parts = record {
  parts_are = no_parts;
  as_many = ap length no_lines ∙ sym (ap length no_pages);
  counted = λ k less. absurd (let none = ap length no_pages in omega arith);
  here = ap (λ ps. position_or_len (bytes_eq []) ps) (sym no_pages);
  known = tt;
}
