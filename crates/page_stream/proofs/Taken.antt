-- The lines of a stream, taken one after another.
use Rattle.std.proofs.Common.{◌≡◌, ◌∙◌, refl, sym, ap, ℕ, zero, suc, ◌+◌, ◌<◌, ◌≤◌, Bool, true, false, cond, List, [], ◌∷◌, ◌++◌, length, map, Option, append_assoc, length-append, arith}
use Rattle.std.specs.Prelude.{◌==◌, Some, None, is_some, slice_get, slice_index, option_map, unwrap_or, bytes_eq}
use Rattle.std.specs.List.{list_any}
use Rattle.std.proofs.lemmas.List.{append-nil, map-append, length-map}
use Rattle.std.proofs.lemmas.List.Sums.{count_by-le-length}
use Rattle.text_lines.specs.Lines.{first_line, behind_line}
use Rattle.text_lines.proofs.Splits.{line_splits}
use Rattle.trace_judge.specs.Lines.{lines_of}
use Rattle.trace_judge.proofs.Splits.{lines_by_first, first_some}
use Rattle.page_stream.specs.declared.splitting.Splitting.{Splitting}
use Rattle.page_stream.specs.PageLines.{page_named}
use Rattle.page_stream.specs.Pages.{PageLine, page_line_before, page_lines, first_named, page_starts, pages_of, begins_with_page, is_stream, page_line_past}
use Rattle.page_stream.specs.Parts.{OwnedLine, owned_before, owned_lines, parts_behind, parts_of}
use Rattle.page_stream.specs.Splits.{IsSplit, SplitTo}
use Rattle.page_stream.proofs.Held.{parts_as_many}

-- ---- the first line left

-- the page lines that are left, by the first line left
left_starts : (before : List (List ℕ)) (number : ℕ) (line : List ℕ) (lines : List (List ℕ)) (named : Option (List ℕ)) → page_named line ≡ named
    → first_named before (page_lines number (line ∷ lines)) ≡ first_named before (page_line_before named number (page_lines (number + 1) lines))
unfolding page_lines
left_starts before number line lines named is = ap (λ it. first_named before (page_line_before it number (page_lines (number + 1) lines))) is

left_owned : (page : List ℕ) (from : ℕ) (line : List ℕ) (lines : List (List ℕ)) (named : Option (List ℕ)) → page_named line ≡ named
    → owned_lines page from (line ∷ lines) ≡ owned_before named (record { page = page; from = from; to = from + length line }) (owned_lines (unwrap_or named page) (from + length line) lines)
unfolding owned_lines
left_owned page from line lines named is =
    ap (λ it. owned_before it (record { page = page; from = from; to = from + length line }) (owned_lines (unwrap_or it page) (from + length line) lines)) is

named_before : (before : List (List ℕ)) (name : List ℕ) (line : ℕ) (others : List PageLine) → list_any (bytes_eq name) before ≡ true
    → first_named before (record { name = name; line = line } ∷ others) ≡ first_named before others
unfolding first_named
named_before before name line others is =
    ap (λ test. cond test (first_named before others) (record { name = name; line = line } ∷ first_named (before ++ (name ∷ [])) others)) is

named_first : (before : List (List ℕ)) (name : List ℕ) (line : ℕ) (others : List PageLine) → list_any (bytes_eq name) before ≡ false
    → first_named before (record { name = name; line = line } ∷ others) ≡ record { name = name; line = line } ∷ first_named (before ++ (name ∷ [])) others
unfolding first_named
named_first before name line others is =
    ap (λ test. cond test (first_named before others) (record { name = name; line = line } ∷ first_named (before ++ (name ∷ [])) others)) is

-- ---- where the lines end

no_lines_left : (rest : List ℕ) → length rest ≤ 0 → lines_of rest ≡ []
unfolding lines_of
no_lines_left [] none = refl
no_lines_left (b ∷ bs) none = absurd (omega arith)

all_starts : {source rest : List ℕ} {split : Splitting} {most number from : ℕ} → (to : SplitTo source split most number from rest) → length rest ≤ 0 → page_starts source ≡ to.starts
unfolding page_lines first_named
all_starts {source} {rest} {split} {most} {number} {from} to none =
    to.starts_left
    ∙ ap (λ lines. to.starts ++ first_named split.pages.items (page_lines (number + 1) lines)) (no_lines_left rest none)
    ∙ append-nil to.starts

pub all_pages : {source rest : List ℕ} {split : Splitting} {most number from : ℕ} → SplitTo source split most number from rest → length rest ≤ 0 → split.pages.items ≡ pages_of source
unfolding pages_of
all_pages to none = to.names ∙ ap (λ starts. map (λ (start : PageLine). start.name) starts) (sym (all_starts to none))

pub all_parts : {source rest : List ℕ} {split : Splitting} {most number from : ℕ} → SplitTo source split most number from rest → length rest ≤ 0 → split.parts.items ≡ parts_of source
unfolding parts_of owned_lines
all_parts {source} {rest} {split} {most} {number} {from} to none =
    to.held.parts_are
    ∙ ap (λ pages. parts_behind pages [] to.owned) (all_pages to none)
    ∙ ap (λ owned. parts_behind (pages_of source) [] owned) (sym owned-all)
  where
    owned-all : owned_lines [] 0 (lines_of source) ≡ to.owned
    owned-all = to.owned_left ∙ ap (λ lines. to.owned ++ owned_lines to.page from lines) (no_lines_left rest none) ∙ append-nil to.owned

past-none : (starts : List PageLine) (most : ℕ) → length starts ≤ most → slice_get starts most ≡ None
past-none [] most few = refl
past-none (s ∷ ss) zero few = absurd (omega arith)
past-none (s ∷ ss) (suc most) few = past-none ss most (omega arith)

past-at : (starts others : List PageLine) (it : PageLine) (most : ℕ) → length starts ≡ most → slice_get (starts ++ (it ∷ others)) most ≡ Some it
past-at [] others it zero is = refl
past-at [] others it (suc most) is = absurd (omega arith)
past-at (s ∷ ss) others it zero is = absurd (omega arith)
past-at (s ∷ ss) others it (suc most) is = past-at ss others it most (omega arith)

pub none_past : {source rest : List ℕ} {split : Splitting} {most number from : ℕ} → SplitTo source split most number from rest → length rest ≤ 0 → page_line_past most source ≡ None
unfolding page_line_past
none_past {source} {rest} {split} {most} {number} {from} to none =
    ap (λ starts. option_map (λ (start : PageLine). start.line) (slice_get starts most)) (all_starts to none)
    ∙ ap (λ start. option_map (λ (start : PageLine). start.line) start) (past-none to.starts most to.few_pages)

-- a page line of a page too many
pub one_past : {source rest line : List ℕ} {split : Splitting} {most number from : ℕ} (name : List ℕ) → SplitTo source split most number from rest → 0 < length rest → line ≡ first_line rest
    → page_named line ≡ Some name → list_any (bytes_eq name) split.pages.items ≡ false → most ≤ length split.pages.items → page_line_past most source ≡ Some (number + 1)
unfolding page_line_past
one_past {source} {rest} {line} {split} {most} {number} {from} name to some is named new full =
    ap (λ starts. option_map (λ (start : PageLine). start.line) (slice_get starts most)) starts
    ∙ ap (λ start. option_map (λ (start : PageLine). start.line) start) (past-at to.starts others it most many)
  where
    it : PageLine
    it = record { name = name; line = number + 1 }

    others : List PageLine
    others = first_named (split.pages.items ++ (name ∷ [])) (page_lines (number + 1 + 1) (lines_of (behind_line rest)))

    many : length to.starts ≡ most
    many =
        let few = to.few_pages in
        let long = ap length to.names ∙ length-map to.starts (λ start. start.name) in
        omega arith

    starts : page_starts source ≡ to.starts ++ (it ∷ others)
    starts =
        to.starts_left
        ∙ ap (λ lines. to.starts ++ first_named split.pages.items (page_lines (number + 1) lines)) (lines_by_first rest some)
        ∙ ap (λ l. to.starts ++ first_named split.pages.items (page_lines (number + 1) (l ∷ lines_of (behind_line rest)))) (sym is)
        ∙ ap (λ left. to.starts ++ left)
        (left_starts split.pages.items (number + 1) line (lines_of (behind_line rest)) (Some name) named
        ∙ named_first split.pages.items name (number + 1) (page_lines (number + 1 + 1) (lines_of (behind_line rest))) new)

-- ---- a line more

pub nothing_taken : {split : Splitting} (source : List ℕ) (most : ℕ) → IsSplit split [] [] → split.pages.items ≡ [] → SplitTo source split most 0 0 source
unfolding page_starts
nothing_taken {split} source most held none = record {
  starts = [];
  owned = [];
  page = [];
  held = held;
  names = none;
  starts_left = ap (λ pages. first_named pages (page_lines 1 (lines_of source))) (sym none);
  owned_left = refl;
  place = omega arith;
  short = omega arith;
  few_owned = omega arith;
  few_pages = omega arith;
}

-- the places behind a line
line_place : (source rest line behind : List ℕ) (from : ℕ) → from + length rest ≡ length source → line ≡ first_line rest → behind ≡ behind_line rest → from + length line + length behind ≡ length source
line_place source rest line behind from place is left =
    let whole = ap length (line_splits rest) in
    let both = length-append (first_line rest) (behind_line rest) in
    let one = ap length is in
    let other = ap length left in
    omega arith

line_some : (rest line : List ℕ) → 0 < length rest → line ≡ first_line rest → 0 < length line
line_some rest line some is = let one = ap length is in let found = first_some rest some in omega arith

-- what is left behind a page line, of the lines that aren't page lines
owned_behind : {source rest line behind : List ℕ} {split : Splitting} {most number from : ℕ} (name : List ℕ) → (to : SplitTo source split most number from rest) → 0 < length rest → line ≡ first_line rest
    → behind ≡ behind_line rest → page_named line ≡ Some name → owned_lines [] 0 (lines_of source) ≡ to.owned ++ owned_lines name (from + length line) (lines_of behind)
owned_behind {source} {rest} {line} {behind} {split} {most} {number} {from} name to some is left named =
    to.owned_left
    ∙ ap (λ lines. to.owned ++ owned_lines to.page from lines) (lines_by_first rest some)
    ∙ ap (λ l. to.owned ++ owned_lines to.page from (l ∷ lines_of (behind_line rest))) (sym is)
    ∙ ap (λ owned. to.owned ++ owned) (left_owned to.page from line (lines_of (behind_line rest)) (Some name) named)
    ∙ ap (λ text. to.owned ++ owned_lines name (from + length line) (lines_of text)) (sym left)

starts_behind : {source rest line behind : List ℕ} {split : Splitting} {most number from : ℕ} (named : Option (List ℕ)) → (to : SplitTo source split most number from rest) → 0 < length rest → line ≡ first_line rest
    → behind ≡ behind_line rest → page_named line ≡ named
    → page_starts source ≡ to.starts ++ first_named split.pages.items (page_line_before named (number + 1) (page_lines (number + 1 + 1) (lines_of behind)))
starts_behind {source} {rest} {line} {behind} {split} {most} {number} {from} named to some is left by =
    to.starts_left
    ∙ ap (λ lines. to.starts ++ first_named split.pages.items (page_lines (number + 1) lines)) (lines_by_first rest some)
    ∙ ap (λ l. to.starts ++ first_named split.pages.items (page_lines (number + 1) (l ∷ lines_of (behind_line rest)))) (sym is)
    ∙ ap (λ starts. to.starts ++ starts) (left_starts split.pages.items (number + 1) line (lines_of (behind_line rest)) named by)
    ∙ ap (λ text. to.starts ++ first_named split.pages.items (page_line_before named (number + 1) (page_lines (number + 1 + 1) (lines_of text)))) (sym left)

-- the page is named for the first time, or was named before
by_name : {source rest line behind : List ℕ} {split turned : Splitting} {most number from : ℕ} (name : List ℕ) (test : Bool) → list_any (bytes_eq name) split.pages.items ≡ test
    → SplitTo source split most number from rest → 0 < length rest → line ≡ first_line rest → behind ≡ behind_line rest → page_named line ≡ Some name
    → ((owned : List OwnedLine) (page : List ℕ) → IsSplit split owned page → IsSplit turned owned name)
    → turned.pages.items ≡ cond test split.pages.items (split.pages.items ++ (name ∷ [])) → (length split.pages.items ≤ most → length turned.pages.items ≤ most)
    → SplitTo source turned most (number + 1) (from + length line) behind
by_name {source} {rest} {line} {behind} {split} {turned} {most} {number} {from} name true known to some is left named held pages few = record {
  starts = to.starts;
  owned = to.owned;
  page = name;
  held = held to.owned to.page to.held;
  names = pages ∙ to.names;
  starts_left =
      starts_behind (Some name) to some is left named
      ∙ ap (λ starts. to.starts ++ starts) (named_before split.pages.items name (number + 1) (page_lines (number + 1 + 1) (lines_of behind)) known)
      ∙ ap (λ ps. to.starts ++ first_named ps (page_lines (number + 1 + 1) (lines_of behind))) (sym pages);
  owned_left = owned_behind name to some is left named;
  place = line_place source rest line behind from to.place is left;
  short = let one = line_some rest line some is in let short = to.short in omega arith;
  few_owned = let few = to.few_owned in omega arith;
  few_pages = to.few_pages;
}
by_name {source} {rest} {line} {behind} {split} {turned} {most} {number} {from} name false known to some is left named held pages few = record {
  starts = to.starts ++ (it ∷ []);
  owned = to.owned;
  page = name;
  held = held to.owned to.page to.held;
  names = names;
  starts_left =
      starts_behind (Some name) to some is left named
      ∙ ap (λ starts. to.starts ++ starts) (named_first split.pages.items name (number + 1) (page_lines (number + 1 + 1) (lines_of behind)) known)
      ∙ ap (λ ps. to.starts ++ (it ∷ first_named ps (page_lines (number + 1 + 1) (lines_of behind)))) (sym pages)
      ∙ sym (append_assoc to.starts (it ∷ []) (first_named turned.pages.items (page_lines (number + 1 + 1) (lines_of behind))));
  owned_left = owned_behind name to some is left named;
  place = line_place source rest line behind from to.place is left;
  short = let one = line_some rest line some is in let short = to.short in omega arith;
  few_owned = let few = to.few_owned in omega arith;
  few_pages =
      let small = to.few_pages in
      let old = ap length to.names ∙ length-map to.starts (λ start. start.name) in
      let new = ap length names ∙ length-map (to.starts ++ (it ∷ [])) (λ start. start.name) in
      let enough : length turned.pages.items ≤ most = few (omega arith) in
      omega arith;
}
  where
    it : PageLine
    it = record { name = name; line = number + 1 }

    names : turned.pages.items ≡ map (λ (start : PageLine). start.name) (to.starts ++ (it ∷ []))
    names =
        pages
        ∙ ap (λ ps. ps ++ (name ∷ [])) to.names
        ∙ sym (map-append (λ (start : PageLine). start.name) to.starts (it ∷ []))

-- a page line was taken
pub page_taken : {source rest line behind : List ℕ} {split turned : Splitting} {most number from : ℕ} (name : List ℕ)
    → SplitTo source split most number from rest → 0 < length rest → line ≡ first_line rest → behind ≡ behind_line rest → page_named line ≡ Some name
    → ((owned : List OwnedLine) (page : List ℕ) → IsSplit split owned page → IsSplit turned owned name)
    → turned.pages.items ≡ cond (list_any (bytes_eq name) split.pages.items) split.pages.items (split.pages.items ++ (name ∷ [])) → (length split.pages.items ≤ most → length turned.pages.items ≤ most)
    → SplitTo source turned most (number + 1) (from + length line) behind
page_taken {source} {rest} {line} {behind} {split} {turned} {most} {number} {from} name to some is left named held pages few =
    by_name name (list_any (bytes_eq name) split.pages.items) refl to some is left named held pages few

-- another line was taken
pub line_taken : {source rest line behind : List ℕ} {split longer : Splitting} {most number from : ℕ}
    → SplitTo source split most number from rest → 0 < length rest → line ≡ first_line rest → behind ≡ behind_line rest → page_named line ≡ None
    → ((owned : List OwnedLine) (page : List ℕ) → IsSplit split owned page → IsSplit longer (owned ++ (record { page = page; from = from; to = from + length line } ∷ [])) page)
    → longer.pages.items ≡ split.pages.items → SplitTo source longer most (number + 1) (from + length line) behind
line_taken {source} {rest} {line} {behind} {split} {longer} {most} {number} {from} to some is left named held pages = record {
  starts = to.starts;
  owned = to.owned ++ (it ∷ []);
  page = to.page;
  held = held to.owned to.page to.held;
  names = pages ∙ to.names;
  starts_left =
      starts_behind None to some is left named
      ∙ ap (λ ps. to.starts ++ first_named ps (page_lines (number + 1 + 1) (lines_of behind))) (sym pages);
  owned_left =
      to.owned_left
      ∙ ap (λ lines. to.owned ++ owned_lines to.page from lines) (lines_by_first rest some)
      ∙ ap (λ l. to.owned ++ owned_lines to.page from (l ∷ lines_of (behind_line rest))) (sym is)
      ∙ ap (λ owned. to.owned ++ owned) (left_owned to.page from line (lines_of (behind_line rest)) None named)
      ∙ ap (λ text. to.owned ++ (it ∷ owned_lines to.page (from + length line) (lines_of text))) (sym left)
      ∙ sym (append_assoc to.owned (it ∷ []) (owned_lines to.page (from + length line) (lines_of behind)));
  place = line_place source rest line behind from to.place is left;
  short = let one = line_some rest line some is in let short = to.short in omega arith;
  few_owned =
      let one = line_some rest line some is in
      let few = to.few_owned in
      let more = length-append to.owned (it ∷ []) in
      omega arith;
  few_pages = to.few_pages;
}
  where
    it : OwnedLine
    it = record { page = to.page; from = from; to = from + length line }

-- ---- how far it goes

-- a line more can be counted
pub few_lines : {source rest : List ℕ} {split : Splitting} {most number from : ℕ} → SplitTo source split most number from rest → split.current < length split.pages.items
    → slice_index split.lines.items split.current ≤ from
few_lines {source} {rest} {split} {most} {number} {from} to inside =
    let count = to.held.counted split.current inside in
    let within = count_by-le-length (λ part. part.page == split.current) split.parts.items in
    let parts = ap length to.held.parts_are ∙ parts_as_many split.pages.items [] to.owned in
    let few = to.few_owned in
    omega arith

-- ---- the first line

named_none : page_named [] ≡ None
unfolding page_named
named_none = refl

pub stream_by_first : (source : List ℕ) → is_stream source ≡ is_some (page_named (first_line source))
unfolding is_stream lines_of first_line
stream_by_first [] = ap is_some (sym named_none)
stream_by_first (b ∷ bs) = ap begins_with_page (lines_by_first (b ∷ bs) (omega arith))

pub is_a_stream : {name : List ℕ} (source : List ℕ) → page_named (first_line source) ≡ Some name → is_stream source ≡ true
is_a_stream source named = stream_by_first source ∙ ap is_some named

pub no_stream : (source : List ℕ) → page_named (first_line source) ≡ None → is_stream source ≡ false
no_stream source named = stream_by_first source ∙ ap is_some named

-- a page line has a byte
pub stream_some : {name : List ℕ} (source : List ℕ) → page_named (first_line source) ≡ Some name → 0 < length source
unfolding first_line page_named
stream_some [] named = absurd (let none : None ≡ Some _ = named in cc)
stream_some (b ∷ bs) named = omega arith
