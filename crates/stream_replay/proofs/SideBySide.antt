-- Pages of a stream side by side: how they are opened, and how they take their turns.
use Rattle.std.proofs.Common.{◌≡◌, ◌∙◌, refl, sym, ap, subst, ℕ, zero, suc, ◌+◌, ◌<◌, ◌≤◌, Bool, true, false, cond, ◌||◌, List, [], ◌∷◌, ◌++◌, length, map, drop, get_or, Option, append_assoc, arith}
use Rattle.std.specs.Prelude.{Some, None, Result, Ok, Err, OnOk, OnErr, flat_map, fold, slice_get, slice_set}
use Rattle.std.specs.Io.KnownBytes.{Appends}
use Rattle.std.specs.List.{All, list_any}
use Rattle.std.proofs.lemmas.Bool.{false≢true}
use Rattle.std.proofs.lemmas.List.{append-nil, drop_all, map-append}
use Rattle.std.proofs.lemmas.List.Elements.{All-append, All-cons, All-nil}
use Rattle.script_model.specs.Reading.{Reading, Refusal, reading, refusal_line}
use Rattle.script_model.specs.Syntax.{Script}
use Rattle.page_model.specs.Outcome.{Ending, refused_ending}
use Rattle.trace_runs.specs.declared.faults.RunFault.{RunFault}
use Rattle.trace_runs.specs.declared.faults.RunFault.TheVariants as fault
use Rattle.trace_runs.specs.Writes.{AppendsLines, EndsLine, FailsWithin, Wrote}
use Rattle.trace_runs.proofs.Writes.{both, ends_both, no_line, nothing, lines_begin, lines_behind, failure_begins, failure_behind}
use Rattle.trace_summary.proofs.Rows.{Writing}
use Rattle.page_stream.specs.declared.stream.Part.{Part}
use Rattle.page_stream.specs.Pages.{pages_of}
use Rattle.page_stream.specs.Parts.{parts_of, script_of}
use Rattle.run_replies.specs.Answers.{Tells}
use Rattle.stream_runs.specs.Alone.{IsOneLine, lines_from, opening_lines, stream_lines}
use Rattle.stream_runs.specs.PageRuns.{PageScript, PageRun, Over, ending_at, opened, refused_lines, turn_at}
use Rattle.run_replies.specs.Replies.{Reply}
use Rattle.stream_replay.specs.StreamReplies.{run_reply}
use Rattle.stream_runs.specs.StreamRuns.{StreamRun, named_text, refused_text, scripts_from, scripts_of, stream_opened, stream_step, turned, with_turn, parts_run, stream_run}
use Rattle.stream_runs.proofs.Said.{fit_none, fit_more}
use Rattle.stream_replay.specs.StreamStatuses.{is_faulty, met_limit, stream_status}
use Rattle.stream_replay.specs.StreamPages.{seen_page, seen_standing, IsReadyPage}
use Rattle.run_replies.specs.Statuses.{is_whole, status_after, status_of}
use Rattle.stream_replay.specs.declared.stream_page.StreamPage.{StreamPage}
use Rattle.run_replies.specs.declared.status.Status.{Status}
use Rattle.run_replies.specs.declared.status.Status.TheVariants.{Done, Syntax, Limit}
use Rattle.stream_replay.proofs.NamedLines.{cut_behind, named_ends, named_nothing}
use Rattle.run_replies.proofs.Summaries.{IsWhole, wrote_tells}

-- the elements from a place on
pub drop_from : {A : Type 0} (xs : List A) (k : ℕ) (d : A) → k < length xs → drop k xs ≡ get_or xs k d ∷ drop (k + 1) xs
drop_from [] k d inside = absurd (omega arith)
drop_from (x ∷ xs) zero d inside = refl
drop_from (x ∷ xs) (suc k) d inside = let next : suc (k + 1) ≡ suc k + 1 = omega arith in drop_from xs k d (omega arith) ∙ ap (λ n. get_or xs k d ∷ drop n (x ∷ xs)) next

-- ---- pages, opened one after another

abbrev pub scripts_left : ℕ → List ℕ → List PageScript
scripts_left place source = scripts_from place (drop place (pages_of source)) source

-- whole lines are written as the pages are opened
refused_ends : (script : PageScript) → EndsLine (refused_text script)
unfolding refused_text
refused_ends script = named_ends script.name (refused_lines script.read)

all-ends : (scripts : List PageScript) → EndsLine (flat_map refused_text scripts)
all-ends [] = tt
all-ends (script ∷ scripts) = ends_both (refused_text script) (flat_map refused_text scripts) (refused_ends script) (all-ends scripts)

opened_ends : (scripts : List PageScript) → EndsLine (stream_opened scripts).text
unfolding stream_opened
opened_ends scripts = all-ends scripts

-- so many pages were opened
pub record Opening (source : List ℕ) (place : ℕ) (pages : List StreamPage) (before now : Option (List ℕ)) (f g : ℕ) : Type 0 where
  pub so_far : map seen_page pages ++ map opened (scripts_left place source) ≡ (stream_opened (scripts_of source)).pages
  pub text : Writing before now f g (stream_opened (scripts_of source)).text (flat_map refused_text (scripts_left place source))
  pub ends : EndsLine text.part
  pub lines : All IsOneLine (opening_lines (scripts_left place source)) → All IsOneLine (opening_lines (scripts_of source))
  pub ready : All IsReadyPage pages

pub opening_none : (source : List ℕ) (pages : List StreamPage) (now : Option (List ℕ)) (f : ℕ) → pages ≡ [] → Opening source 0 pages now now f f
unfolding stream_opened scripts_of
opening_none source pages now f none = record {
  so_far = ap (λ (ps : List StreamPage). map seen_page ps ++ map opened (scripts_left 0 source)) none;
  text = record { part = []; makes = refl; written = nothing now; unfailed = refl };
  ends = tt;
  lines = λ fit. fit;
  ready = subst (λ (ps : List StreamPage). All IsReadyPage ps) (sym none) (All-nil IsReadyPage);
}

abbrev pub script_at : List ℕ → ℕ → List ℕ → PageScript
script_at source place name = record { name = name; read = reading (script_of place source) }

next_left : (source : List ℕ) (place : ℕ) (name d : List ℕ) → place < length (pages_of source) → name ≡ get_or (pages_of source) place d
    → scripts_left place source ≡ script_at source place name ∷ scripts_left (place + 1) source
unfolding scripts_from
next_left source place name d inside is =
    ap (λ names. scripts_from place names source) (drop_from (pages_of source) place d inside ∙ ap (λ it. it ∷ drop (place + 1) (pages_of source)) (sym is))

pub opening_more : {source : List ℕ} {place : ℕ} {pages longer : List StreamPage} {before mid after : Option (List ℕ)} {f fm g : ℕ} (name d : List ℕ) → Opening source place pages before mid f fm
    → place < length (pages_of source) → name ≡ get_or (pages_of source) place d → Appends mid after (refused_text (script_at source place name)) → g ≡ fm
    → All IsOneLine (refused_lines (reading (script_of place source))) → map seen_page longer ≡ map seen_page pages ++ (opened (script_at source place name) ∷ []) → All IsReadyPage longer → Opening source (place + 1) longer before after f g
opening_more {source} {place} {pages} {longer} {before} {mid} {after} {f} {fm} {g} name d here inside is wrote unfailed fit more ready = record {
  so_far =
      ap (λ ps. ps ++ map opened (scripts_left (place + 1) source)) more
      ∙ append_assoc (map seen_page pages) (opened (script_at source place name) ∷ []) (map opened (scripts_left (place + 1) source))
      ∙ ap (λ scripts. map seen_page pages ++ map opened scripts) (sym (next_left source place name d inside is))
      ∙ here.so_far;
  text = record {
    part = here.text.part ++ refused_text (script_at source place name);
    makes =
        append_assoc here.text.part (refused_text (script_at source place name)) (flat_map refused_text (scripts_left (place + 1) source))
        ∙ ap (λ scripts. here.text.part ++ flat_map refused_text scripts) (sym (next_left source place name d inside is))
        ∙ here.text.makes;
    written = both before mid after here.text.part (refused_text (script_at source place name)) here.text.written wrote;
    unfailed = unfailed ∙ here.text.unfailed;
  };
  ends = ends_both here.text.part (refused_text (script_at source place name)) here.ends (refused_ends (script_at source place name));
  lines = λ later.
      here.lines
      (subst (λ (scripts : List PageScript). All IsOneLine (opening_lines scripts)) (sym (next_left source place name d inside is))
      (All-append IsOneLine (refused_lines (reading (script_of place source))) (opening_lines (scripts_left (place + 1) source)) fit later));
  ready = ready;
}

pub opening_cut : (A B : Type 0) (source : List ℕ) (place : ℕ) (pages : List StreamPage) (before mid after : Option (List ℕ)) (f fm g : ℕ) (it : RunFault) (name d : List ℕ)
    → Opening source place pages before mid f fm → place < length (pages_of source) → name ≡ get_or (pages_of source) place d
    → Wrote {A = A} (Err it) mid after fm g (refused_text (script_at source place name)) → Wrote {A = B} (Err it) before after f g (stream_opened (scripts_of source)).text
opening_cut A B source place pages before mid after f fm g it name d here inside is cut =
    cut_behind A B before mid after f fm g (stream_opened (scripts_of source)).text (flat_map refused_text (scripts_left place source)) it (refused_text (script_at source place name)) (flat_map refused_text (scripts_left (place + 1) source)) here.text here.ends
    (ap (λ scripts. flat_map refused_text scripts) (next_left source place name d inside is)) cut

none_left : (source : List ℕ) (place : ℕ) → length (pages_of source) ≤ place → scripts_left place source ≡ []
unfolding scripts_from
none_left source place past = ap (λ names. scripts_from place names source) (drop_all place (pages_of source) past)

pub opening_end : {A : Type 0} {source : List ℕ} {place : ℕ} {pages : List StreamPage} {before now : Option (List ℕ)} {f g : ℕ} (value : A) → Opening source place pages before now f g → length (pages_of source) ≤ place
    → Wrote (Ok value) before now f g (stream_opened (scripts_of source)).text × (map seen_page pages ≡ (stream_opened (scripts_of source)).pages)
opening_end {source = source} {place = place} {pages = pages} {before = before} {now = now} value here past =
    let none = none_left source place past in (
      (subst (λ (t : List ℕ). Appends before now t) (sym (append-nil here.text.part) ∙ ap (λ scripts. here.text.part ++ flat_map refused_text scripts) (sym none) ∙ here.text.makes) here.text.written, here.text.unfailed),
      sym (append-nil (map seen_page pages)) ∙ ap (λ scripts. map seen_page pages ++ map opened scripts) (sym none) ∙ here.so_far,
    )

pub opening_fit : {source : List ℕ} {place : ℕ} {pages : List StreamPage} {before now : Option (List ℕ)} {f g : ℕ} → Opening source place pages before now f g → length (pages_of source) ≤ place
    → All IsOneLine (opening_lines (scripts_of source))
opening_fit {source = source} {place = place} here past =
    here.lines (subst (λ (scripts : List PageScript). All IsOneLine (opening_lines scripts)) (sym (none_left source place past)) (All-nil IsOneLine))

-- ---- lines, one after another

-- so many lines were taken
pub record Turning (start : List PageRun) (parts : List Part) (place : ℕ) (pages : List StreamPage) (before now : Option (List ℕ)) (f g : ℕ) : Type 0 where
  pub text : List ℕ
  pub ends : EndsLine text
  pub so_far : fold stream_step (record { text = text; pages = map seen_page pages }) (drop place parts) ≡ parts_run start parts
  pub written : Appends before now text
  pub unfailed : g ≡ f
  pub lines : All IsOneLine (lines_from (map seen_page pages) (drop place parts)) → All IsOneLine (lines_from start parts)
  pub ready : All IsReadyPage pages

pub turning_none : (pages : List StreamPage) (parts : List Part) (now : Option (List ℕ)) (f : ℕ) → All IsReadyPage pages → Turning (map seen_page pages) parts 0 pages now now f f
unfolding parts_run
turning_none pages parts now f ready = record { text = []; ends = tt; so_far = refl; written = nothing now; unfailed = refl; lines = λ fit. fit; ready = ready }

step-some : (run : StreamRun) (part : Part) (page : PageRun) → slice_get run.pages part.page ≡ Some page → stream_step run part ≡ with_turn part.page page.name run (turn_at part.line page.standing)
unfolding stream_step
step-some run part page is = ap (λ it. turned it part run) is

step-none : (run : StreamRun) (part : Part) → slice_get run.pages part.page ≡ None → stream_step run part ≡ run
unfolding stream_step
step-none run part is = ap (λ it. turned it part run) is

map-set : (f : StreamPage → PageRun) (xs : List StreamPage) (k : ℕ) (x : StreamPage) → map f (slice_set xs k x) ≡ slice_set (map f xs) k (f x)
map-set f [] zero x = refl
map-set f [] (suc k) x = refl
map-set f (y ∷ ys) zero x = refl
map-set f (y ∷ ys) (suc k) x = ap (λ l. f y ∷ l) (map-set f ys k x)

get-some : (xs : List StreamPage) (k : ℕ) (x : StreamPage) → slice_get xs k ≡ Some x → slice_get (map seen_page xs) k ≡ Some (seen_page x)
get-some [] k x is = absurd (let none : None ≡ Some x = is in cc)
get-some (y ∷ ys) zero x is = let same : y ≡ x = cc in ap (λ it. Some (seen_page it)) same
get-some (y ∷ ys) (suc k) x is = get-some ys k x is

get-none : (xs : List StreamPage) (k : ℕ) → length xs ≤ k → slice_get (map seen_page xs) k ≡ None
get-none [] k past = refl
get-none (y ∷ ys) zero past = absurd (omega arith)
get-none (y ∷ ys) (suc k) past = get-none ys k (omega arith)

next_part : (parts : List Part) (place : ℕ) (part d : Part) → place < length parts → part ≡ get_or parts place d → drop place parts ≡ part ∷ drop (place + 1) parts
next_part parts place part d inside is = drop_from parts place d inside ∙ ap (λ (p : Part). p ∷ drop (place + 1) parts) (sym is)

-- the page whose line it is took its turn
pub turning_more : {start : List PageRun} {parts : List Part} {place : ℕ} {pages : List StreamPage} {before mid after : Option (List ℕ)} {f fm g : ℕ} (part d : Part) (page new : StreamPage)
    → Turning start parts place pages before mid f fm → place < length parts → part ≡ get_or parts place d → slice_get pages part.page ≡ Some page
    → Appends mid after (named_text page.name (turn_at part.line (seen_page page).standing).lines) → g ≡ fm → All IsOneLine (turn_at part.line (seen_page page).standing).lines
    → seen_page new ≡ record { name = page.name; standing = (turn_at part.line (seen_page page).standing).standing } → All IsReadyPage (slice_set pages part.page new)
    → Turning start parts (place + 1) (slice_set pages part.page new) before after f g
turning_more {start} {parts} {place} {pages} {before} {mid} {after} {f} {fm} {g} part d page new here inside is at wrote unfailed fit seen ready = record {
  text = here.text ++ named_text page.name (turn_at part.line (seen_page page).standing).lines;
  ends = ends_both here.text (named_text page.name (turn_at part.line (seen_page page).standing).lines) here.ends (named_ends page.name (turn_at part.line (seen_page page).standing).lines);
  so_far =
      ap (λ ps. fold stream_step (record { text = here.text ++ named_text page.name (turn_at part.line (seen_page page).standing).lines; pages = ps }) (drop (place + 1) parts))
      (map-set seen_page pages part.page new ∙ ap (λ p. slice_set (map seen_page pages) part.page p) seen)
      ∙ ap (λ run. fold stream_step run (drop (place + 1) parts)) (sym (step-some (record { text = here.text; pages = map seen_page pages }) part (seen_page page) (get-some pages part.page page at)))
      ∙ ap (λ p. fold stream_step (stream_step (record { text = here.text; pages = map seen_page pages }) p) (drop (place + 1) parts)) is
      ∙ ap (λ ps. fold stream_step (record { text = here.text; pages = map seen_page pages }) ps) (sym (drop_from parts place d inside))
      ∙ here.so_far;
  written = both before mid after here.text (named_text page.name (turn_at part.line (seen_page page).standing).lines) here.written wrote;
  unfailed = unfailed ∙ here.unfailed;
  lines = λ later.
      here.lines
      (subst (λ (ps : List Part). All IsOneLine (lines_from (map seen_page pages) ps)) (sym (next_part parts place part d inside is))
      (fit_more (map seen_page pages) part (drop (place + 1) parts) (Some (seen_page page)) (get-some pages part.page page at) fit
      (subst (λ (ps : List PageRun). All IsOneLine (lines_from ps (drop (place + 1) parts)))
      (map-set seen_page pages part.page new ∙ ap (λ p. slice_set (map seen_page pages) part.page p) seen) later)));
  ready = ready;
}

-- a line of no page
pub turning_same : {start : List PageRun} {parts : List Part} {place : ℕ} {pages : List StreamPage} {before now : Option (List ℕ)} {f g : ℕ} (part d : Part)
    → Turning start parts place pages before now f g → place < length parts → part ≡ get_or parts place d → length pages ≤ part.page → Turning start parts (place + 1) pages before now f g
turning_same {start} {parts} {place} {pages} {before} {now} {f} {g} part d here inside is past = record {
  text = here.text;
  ends = here.ends;
  so_far =
      ap (λ run. fold stream_step run (drop (place + 1) parts)) (sym (step-none (record { text = here.text; pages = map seen_page pages }) part (get-none pages part.page past)))
      ∙ ap (λ p. fold stream_step (stream_step (record { text = here.text; pages = map seen_page pages }) p) (drop (place + 1) parts)) is
      ∙ ap (λ ps. fold stream_step (record { text = here.text; pages = map seen_page pages }) ps) (sym (drop_from parts place d inside))
      ∙ here.so_far;
  written = here.written;
  unfailed = here.unfailed;
  lines = λ later.
      here.lines
      (subst (λ (ps : List Part). All IsOneLine (lines_from (map seen_page pages) ps)) (sym (next_part parts place part d inside is))
      (fit_more (map seen_page pages) part (drop (place + 1) parts) None (get-none pages part.page past) (All-nil IsOneLine) later));
  ready = here.ready;
}

-- the same run with a text before it
abbrev pub behind_text : List ℕ → StreamRun → StreamRun
behind_text text run = record { text = text ++ run.text; pages = run.pages }

step-behind : (text : List ℕ) (run : StreamRun) (part : Part) → stream_step (behind_text text run) part ≡ behind_text text (stream_step run part)
unfolding stream_step
step-behind text run part = by_page (slice_get run.pages part.page)
  where
    by_page : (page : Option PageRun) → turned page part (behind_text text run) ≡ behind_text text (turned page part run)
    by_page None = refl
    by_page (Some page) =
        let lines : List ℕ = named_text page.name (turn_at part.line page.standing).lines in
        ap (λ (t : List ℕ). record { text = t; pages = slice_set run.pages part.page (record { name = page.name; standing = (turn_at part.line page.standing).standing }) }) (append_assoc text run.text lines)

pub fold-behind : (text : List ℕ) (run : StreamRun) (parts : List Part) → fold stream_step (behind_text text run) parts ≡ behind_text text (fold stream_step run parts)
fold-behind text run [] = refl
fold-behind text run (part ∷ parts) = ap (λ r. fold stream_step r parts) (step-behind text run part) ∙ fold-behind text (stream_step run part) parts

-- what was written begins the whole
text-begins : (text : List ℕ) (pages : List PageRun) (parts : List Part) → (fold stream_step (record { text = text; pages = pages }) parts).text ≡ text ++ (fold stream_step (record { text = []; pages = pages }) parts).text
text-begins text pages parts =
    ap (λ (t : List ℕ). (fold stream_step (record { text = t; pages = pages }) parts).text) (sym (append-nil text))
    ∙ ap (λ (r : StreamRun). r.text) (fold-behind text (record { text = []; pages = pages }) parts)

pub turning_cut : (A B : Type 0) (start : List PageRun) (parts : List Part) (place : ℕ) (pages : List StreamPage) (before mid after : Option (List ℕ)) (f fm g : ℕ) (it : RunFault) (part d : Part) (page : StreamPage)
    → Turning start parts place pages before mid f fm → place < length parts → part ≡ get_or parts place d → slice_get pages part.page ≡ Some page
    → Wrote {A = A} (Err it) mid after fm g (named_text page.name (turn_at part.line (seen_page page).standing).lines) → Wrote {A = B} (Err it) before after f g (parts_run start parts).text
turning_cut A B start parts place pages before mid after f fm g it part d page here inside is at cut =
    cut_behind A B before mid after f fm g (parts_run start parts).text (lines ++ later) it lines later so_far here.ends refl cut
  where
    lines : List ℕ
    lines = named_text page.name (turn_at part.line (seen_page page).standing).lines

    pages-then : List PageRun
    pages-then = slice_set (map seen_page pages) part.page (record { name = page.name; standing = (turn_at part.line (seen_page page).standing).standing })

    later : List ℕ
    later = (fold stream_step (record { text = []; pages = pages-then }) (drop (place + 1) parts)).text

    so_far : Writing before mid f fm (parts_run start parts).text (lines ++ later)
    so_far = record {
      part = here.text;
      makes =
          sym (append_assoc here.text lines later)
          ∙ sym (text-begins (here.text ++ lines) pages-then (drop (place + 1) parts))
          ∙ ap (λ (r : StreamRun). (fold stream_step r (drop (place + 1) parts)).text) (sym (step-some (record { text = here.text; pages = map seen_page pages }) part (seen_page page) (get-some pages part.page page at)))
          ∙ ap (λ p. (fold stream_step (stream_step (record { text = here.text; pages = map seen_page pages }) p) (drop (place + 1) parts)).text) is
          ∙ ap (λ ps. (fold stream_step (record { text = here.text; pages = map seen_page pages }) ps).text) (sym (drop_from parts place d inside))
          ∙ ap (λ (r : StreamRun). r.text) here.so_far;
      written = here.written;
      unfailed = here.unfailed;
    }

pub turning_fit : {start : List PageRun} {parts : List Part} {place : ℕ} {pages : List StreamPage} {before now : Option (List ℕ)} {f g : ℕ} → Turning start parts place pages before now f g → length parts ≤ place
    → All IsOneLine (lines_from start parts)
turning_fit {parts = parts} {place = place} {pages = pages} here past =
    here.lines (subst (λ (ps : List Part). All IsOneLine (lines_from (map seen_page pages) ps)) (sym (drop_all place parts past)) (fit_none (map seen_page pages)))

-- ---- the whole stream

pub stream_parts : (source : List ℕ) → stream_run source ≡ behind_text (stream_opened (scripts_of source)).text (parts_run (stream_opened (scripts_of source)).pages (parts_of source))
unfolding stream_run parts_run
stream_parts source =
    let run : StreamRun = stream_opened (scripts_of source) in
    ap (λ (t : List ℕ). fold stream_step (record { text = t; pages = run.pages }) (parts_of source)) (sym (append-nil run.text))
    ∙ fold-behind run.text (record { text = []; pages = run.pages }) (parts_of source)

-- a text behind another, whether it was written whole
pub wrote_behind : {A : Type 0} (r : Result A RunFault) (before mid after : Option (List ℕ)) (f fm g : ℕ) (first second : List ℕ) → EndsLine first → Appends before mid first → fm ≡ f → Wrote r mid after fm g second
    → Wrote r before after f g (first ++ second)
wrote_behind (Ok value) before mid after f fm g first second ends begun unfailed wrote = (both before mid after first second begun wrote.0, wrote.1 ∙ unfailed)
wrote_behind (Err (fault.Limit kind line number)) before mid after f fm g first second ends begun unfailed wrote = absurd wrote
wrote_behind (Err fault.Memory) before mid after f fm g first second ends begun unfailed wrote = (lines_behind before first ends begun wrote.0, wrote.1 ∙ unfailed)
wrote_behind (Err fault.WriteFault) before mid after f fm g first second ends begun unfailed wrote = failure_behind before f first begun unfailed wrote

whole-at : (faulty limited : Bool) → IsWhole (cond faulty Syntax (cond limited Limit Done))
whole-at true limited = tt
whole-at false true = tt
whole-at false false = tt

whole-status : (pages : List PageRun) → IsWhole (stream_status pages)
whole-status pages = whole-at (list_any (λ page. is_faulty (ending_at page.standing)) pages) (list_any (λ page. met_limit (ending_at page.standing)) pages)

-- a text that was cut off
fault_tells : (it : RunFault) (reply : Reply) (before after : Option (List ℕ)) (f g : ℕ) → Wrote {A = Unit {0}} (Err it) before after f g reply.text → Tells (status_of it) reply before after f g
fault_tells (fault.Limit kind line number) reply before after f g cut = absurd cut
fault_tells fault.Memory reply before after f g cut = cut
fault_tells fault.WriteFault reply before after f g cut = cut

pub stream_tells : (r : Result (Unit {0}) RunFault) (source : List ℕ) (status : Status) (start : List PageRun) (parts : List Part) (after_pages : List PageRun) (before mid after : Option (List ℕ)) (f fm g : ℕ)
    → start ≡ (stream_opened (scripts_of source)).pages → parts ≡ parts_of source → Appends before mid (stream_opened (scripts_of source)).text → fm ≡ f
    → Wrote r mid after fm g (parts_run start parts).text → OnOk r (after_pages ≡ (parts_run start parts).pages) → status ≡ stream_status after_pages
    → Tells (status_after r status) (run_reply (stream_run source)) before after f g
stream_tells r source status start parts after_pages before mid after f fm g opens has begun unfailed wrote ends is = by_result r wrote ends
  where
    text : List ℕ
    text = (stream_opened (scripts_of source)).text ++ (parts_run start parts).text

    run-is : record { text = text; pages = (parts_run start parts).pages } ≡ stream_run source
    run-is =
        ap (λ (pages : List PageRun). behind_text (stream_opened (scripts_of source)).text (parts_run pages parts)) opens
        ∙ ap (λ (ps : List Part). behind_text (stream_opened (scripts_of source)).text (parts_run (stream_opened (scripts_of source)).pages ps)) has
        ∙ sym (stream_parts source)

    by_result : (r : Result (Unit {0}) RunFault) → Wrote r mid after fm g (parts_run start parts).text → OnOk r (after_pages ≡ (parts_run start parts).pages) → Tells (status_after r status) (run_reply (stream_run source)) before after f g
    by_result (Ok done) wrote ends =
        let ended : status ≡ stream_status (parts_run start parts).pages = is ∙ ap stream_status ends in
        subst (λ (reply : Reply). Tells status reply before after f g) (ap (λ (s : Status). record { text = text; status = s }) ended ∙ ap run_reply run-is)
        (wrote_tells {A = Unit {0}} (Ok (tt {0})) status text before after f g (subst IsWhole (sym is) (whole-status after_pages))
        (wrote_behind {A = Unit {0}} (Ok (tt {0})) before mid after f fm g (stream_opened (scripts_of source)).text (parts_run start parts).text (opened_ends (scripts_of source)) begun unfailed wrote))
    by_result (Err it) wrote ends =
        fault_tells it (run_reply (stream_run source)) before after f g
        (subst (λ (t : List ℕ). Wrote {A = Unit {0}} (Err it) before after f g t) (ap (λ (run : StreamRun). run.text) run-is)
        (wrote_behind {A = Unit {0}} (Err it) before mid after f fm g (stream_opened (scripts_of source)).text (parts_run start parts).text (opened_ends (scripts_of source)) begun unfailed wrote))

-- what is said before the first line and behind it, where all was written
pub stream_fit : (r : Result (Unit {0}) RunFault) (source : List ℕ) (status : Status) (start : List PageRun) (parts : List Part) (before after : Option (List ℕ)) (f g : ℕ)
    → start ≡ (stream_opened (scripts_of source)).pages → parts ≡ parts_of source → All IsOneLine (opening_lines (scripts_of source))
    → Wrote r before after f g (parts_run start parts).text → OnOk r (All IsOneLine (lines_from start parts)) → is_whole (status_after r status) ≡ true → All IsOneLine (stream_lines source)
unfolding stream_lines
stream_fit (Ok done) source status start parts before after f g opens has opening wrote fit whole =
    All-append IsOneLine (opening_lines (scripts_of source)) (lines_from (stream_opened (scripts_of source)).pages (parts_of source)) opening
    (subst (λ (ps : List Part). All IsOneLine (lines_from (stream_opened (scripts_of source)).pages ps)) has (subst (λ (pages : List PageRun). All IsOneLine (lines_from pages parts)) opens fit))
stream_fit (Err (fault.Limit kind line number)) source status start parts before after f g opens has opening wrote fit whole = absurd wrote
stream_fit (Err fault.Memory) source status start parts before after f g opens has opening wrote fit whole = absurd (false≢true whole)
stream_fit (Err fault.WriteFault) source status start parts before after f g opens has opening wrote fit whole = absurd (false≢true whole)

-- a stream that was cut off before its first line
pub cut_whole : (A B : Type 0) (it : RunFault) (before after : Option (List ℕ)) (f g : ℕ) (text : List ℕ) → Wrote {A = A} (Err it) before after f g text → is_whole (status_of it) ≡ true → B
cut_whole A B (fault.Limit kind line number) before after f g text cut whole = absurd cut
cut_whole A B fault.Memory before after f g text cut whole = absurd (false≢true whole)
cut_whole A B fault.WriteFault before after f g text cut whole = absurd (false≢true whole)

pub cut_tells : (A : Type 0) (it : RunFault) (source : List ℕ) (before after : Option (List ℕ)) (f g : ℕ) → Wrote {A = A} (Err it) before after f g (stream_opened (scripts_of source)).text
    → Tells (status_of it) (run_reply (stream_run source)) before after f g
cut_tells A (fault.Limit kind line number) source before after f g cut = absurd cut
cut_tells A fault.Memory source before after f g cut =
    (subst (λ (t : List ℕ). AppendsLines before after t) (ap (λ (r : StreamRun). r.text) (sym (stream_parts source))) (lines_begin (parts_run (stream_opened (scripts_of source)).pages (parts_of source)).text cut.0), cut.1)
cut_tells A fault.WriteFault source before after f g cut =
    subst (λ (t : List ℕ). FailsWithin before after f g t) (ap (λ (r : StreamRun). r.text) (sym (stream_parts source))) (failure_begins (parts_run (stream_opened (scripts_of source)).pages (parts_of source)).text cut)

-- ---- how the pages end

any-seen : (test : Ending → Bool) (pages : List StreamPage) → list_any (λ page. test (ending_at page.standing)) (map seen_page pages) ≡ list_any (λ page. test (ending_at (seen_standing page.standing))) pages
any-seen test [] = refl
any-seen test (p ∷ ps) = ap (λ others. test (ending_at (seen_standing p.standing)) || others) (any-seen test ps)

pub status_seen : (pages : List StreamPage) → stream_status (map seen_page pages)
    ≡ cond (list_any (λ page. is_faulty (ending_at (seen_standing page.standing))) pages) Syntax (cond (list_any (λ page. met_limit (ending_at (seen_standing page.standing))) pages) Limit Done)
status_seen pages =
    ap (λ test. cond test Syntax (cond (list_any (λ page. met_limit (ending_at page.standing)) (map seen_page pages)) Limit Done)) (any-seen is_faulty pages)
    ∙ ap (λ test. cond (list_any (λ page. is_faulty (ending_at (seen_standing page.standing))) pages) Syntax (cond test Limit Done)) (any-seen met_limit pages)

-- ---- a page more

pub seen_more : (r : Result (Unit {0}) RunFault) (pages longer : List StreamPage) (page : StreamPage) (run : PageRun) → OnOk r (longer ≡ pages ++ (page ∷ [])) → seen_page page ≡ run
    → OnOk r (map seen_page longer ≡ map seen_page pages ++ (run ∷ []))
seen_more (Ok done) pages longer page run is seen =
    ap (λ (ps : List StreamPage). map seen_page ps) is ∙ map-append seen_page pages (page ∷ []) ∙ ap (λ (r : PageRun). map seen_page pages ++ (r ∷ [])) seen
seen_more (Err it) pages longer page run is seen = tt

pub refused_is : (name : List ℕ) (read : Reading) (refusal : Refusal) → read ≡ Err refusal → record { name = name; standing = Over (refused_ending refusal) } ≡ opened (record { name = name; read = read })
refused_is name read refusal is = ap (λ (it : Reading). opened (record { name = name; read = it })) (sym is)

pub ready_more : (r : Result (Unit {0}) RunFault) (pages longer : List StreamPage) (page : StreamPage) → OnOk r (longer ≡ pages ++ (page ∷ [])) → IsReadyPage page → OnOk r (All IsReadyPage pages → All IsReadyPage longer)
ready_more (Ok done) pages longer page is ready = λ all.
    subst (λ (ps : List StreamPage). All IsReadyPage ps) (sym is) (All-append IsReadyPage pages (page ∷ []) all (All-cons IsReadyPage page [] ready (All-nil IsReadyPage)))
ready_more (Err it) pages longer page is ready = tt

-- what was written before want of memory
pub then_wrote : (r : Result (Unit {0}) RunFault) (before after : Option (List ℕ)) (f g : ℕ) (text : List ℕ) → OnErr r (r ≡ Err fault.Memory) → EndsLine text → Appends before after text → g ≡ f → Wrote r before after f g text
then_wrote (Ok done) before after f g text memory ends written unfailed = (written, unfailed)
then_wrote (Err (fault.Limit kind line number)) before after f g text memory ends written unfailed = absurd (let no : ⊥ = cc in no)
then_wrote (Err fault.Memory) before after f g text memory ends written unfailed = (record { part = text; rest = []; whole = sym (append-nil text); ends = ends; written = written }, unfailed)
then_wrote (Err fault.WriteFault) before after f g text memory ends written unfailed = absurd (let no : ⊥ = cc in no)

pub memory_cut : (it : RunFault) (now : Option (List ℕ)) (f : ℕ) (text : List ℕ) → it ≡ fault.Memory → Wrote {A = Unit {0}} (Err it) now now f f text
memory_cut it now f text is = subst (λ (e : RunFault). Wrote {A = Unit {0}} (Err e) now now f f text) (sym is) (no_line now text, refl)

-- what holds whatever is answered
pub on_ok : {A P : Type 0} (r : Result A RunFault) → P → OnOk r P
on_ok (Ok value) holds = holds
on_ok (Err it) holds = tt

pub refused_fit : (read : Reading) (refusal : Refusal) → read ≡ Err refusal → IsOneLine (refusal_line refusal) → All IsOneLine (refused_lines read)
refused_fit read refusal is one = subst (λ (it : Reading). All IsOneLine (refused_lines it)) (sym is) (All-cons IsOneLine (refusal_line refusal) [] one (All-nil IsOneLine))

pub unrefused_fit : (read : Reading) (script : Script) → read ≡ Ok script → All IsOneLine (refused_lines read)
unrefused_fit read script is = subst (λ (it : Reading). All IsOneLine (refused_lines it)) (sym is) (All-nil IsOneLine)

-- what is said of a script by its reading
pub refused_none : (name : List ℕ) (read : Reading) (script : Script) → read ≡ Ok script → refused_text (record { name = name; read = read }) ≡ []
unfolding refused_text
refused_none name read script is = ap (λ (it : Reading). named_text name (refused_lines it)) is ∙ named_nothing name

pub refused_one : (name : List ℕ) (read : Reading) (refusal : Refusal) → read ≡ Err refusal → named_text name (refusal_line refusal ∷ []) ≡ refused_text (record { name = name; read = read })
unfolding refused_text
refused_one name read refusal is = ap (λ (it : Reading). named_text name (refused_lines it)) (sym is)

-- ---- a page that is lent

pub page_at : (xs : List StreamPage) (k : ℕ) (d : StreamPage) → k < length xs → slice_get xs k ≡ Some (get_or xs k d)
page_at [] k d inside = absurd (omega arith)
page_at (y ∷ ys) zero d inside = refl
page_at (y ∷ ys) (suc k) d inside = page_at ys k d (omega arith)
