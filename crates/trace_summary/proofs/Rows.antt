-- The rows of a summary, written one after another.
use Rattle.std.proofs.Common.{◌≡◌, ◌∙◌, refl, sym, ap, ℕ, ◌+◌, ◌<◌, ◌≤◌, List, [], ◌∷◌, ◌++◌, length, map, take, drop, get_or, Option, append_assoc, subst}
use Rattle.std.proofs.lemmas.List.{append-nil, drop_more, take_all, take_more, take-append-drop, take-map}
use Rattle.std.proofs.lemmas.List.Folds.{flat_map-map}
use Rattle.std.proofs.lemmas.Grind.{flat_map-append}
use Rattle.std.specs.Borrow.{Bor}
use Rattle.std.specs.Prelude.{flat_map, Ok, Err}
use Rattle.std.specs.Io.KnownBytes.{Appends}
use Rattle.trace_runs.specs.declared.faults.RunFault.{RunFault}
use Rattle.trace_runs.specs.declared.faults.RunFault.TheVariants.{Limit, Memory, WriteFault}
use Rattle.trace_runs.specs.Writes.{AppendsLines, EndsLine, FailsWithin, Wrote}
use Rattle.word_model.specs.Numbers.{decimal}
use Rattle.trace_summary.specs.Counts.{row_text, text_of}
use Rattle.trace_runs.proofs.Writes.{nothing, both, ends_both, ends_feed, lines_begin, lines_behind, failure_begins, failure_behind}

-- a first part of a text was written, no write failed, and the rest follows
pub record Writing (before now : Option (List ℕ)) (faults faults_now : ℕ) (whole rest : List ℕ) : Type 0 where
  pub part : List ℕ
  pub makes : part ++ rest ≡ whole
  pub written : Appends before now part
  pub unfailed : faults_now ≡ faults

pub writing_none : (now : Option (List ℕ)) (faults : ℕ) (whole : List ℕ) → Writing now now faults faults whole whole
writing_none now faults whole = record { part = []; makes = refl; written = nothing now; unfailed = refl }

pub writing_cut : (fault : RunFault) (before mid after : Option (List ℕ)) (f fm g : ℕ) (whole text rest : List ℕ) → (here : Writing before mid f fm whole (text ++ rest)) → EndsLine here.part
    → Wrote {A = Unit {0}} (Err fault) mid after fm g text → Wrote {A = Unit {0}} (Err fault) before after f g whole
writing_cut (Limit kind line number) before mid after f fm g whole text rest here lines wrote = absurd wrote
writing_cut Memory before mid after f fm g whole text rest here lines wrote =
    (subst (λ (t : List ℕ). AppendsLines before after t) here.makes (lines_behind before here.part lines here.written (lines_begin rest wrote.0)), wrote.1 ∙ here.unfailed)
writing_cut WriteFault before mid after f fm g whole text rest here lines wrote =
    subst (λ (t : List ℕ). FailsWithin before after f g t) here.makes (failure_behind before f here.part here.written here.unfailed (failure_begins rest wrote))

-- rows, each a kind and its count
abbrev pub Row : Type 0
Row = Bor (List ℕ) × ℕ

abbrev pub row_of : Row → List ℕ
row_of r = row_text r.0.now r.1

abbrev pub kind_of : Row → List ℕ × ℕ
kind_of r = (r.0.now, r.1)

abbrev pub texts : List Row → List ℕ
texts rows = flat_map row_of rows

pub texts_more : (rows : List Row) (place : ℕ) (none : Row) → place < length rows → texts (drop place rows) ≡ row_of (get_or rows place none) ++ texts (drop (place + 1) rows)
texts_more rows place none within = ap texts (drop_more rows place none within)

-- a row, part by part
pub row_pushed : (kind : List ℕ) (count : ℕ) (first second third whole : List ℕ) → first ≡ kind → second ≡ first ++ (32 ∷ []) → third ≡ second ++ decimal count
    → whole ≡ third ++ (10 ∷ []) → whole ≡ row_text kind count
unfolding row_text
row_pushed kind count first second third whole a b c d =
    d ∙ ap (λ text. text ++ (10 ∷ [])) (c ∙ ap (λ text. text ++ decimal count) (b ∙ ap (λ text. text ++ (32 ∷ [])) a) ∙ append_assoc kind (32 ∷ []) (decimal count))

-- each row is a line
row_ends : (kind : List ℕ) (count : ℕ) → EndsLine (row_text kind count)
unfolding row_text
row_ends kind count = ends_feed (kind ++ (32 ∷ decimal count))

texts_end : (rows : List Row) → EndsLine (texts rows)
texts_end [] = tt
texts_end (r ∷ rows) = ends_both (row_of r) (texts rows) (row_ends (r.0.now) (r.1)) (texts_end rows)

-- the first rows were written, and no write failed
pub record WroteRows (before now : Option (List ℕ)) (faults faults_now : ℕ) (rows : List Row) (place : ℕ) : Type 0 where
  pub written : Appends before now (texts (take place rows))
  pub unfailed : faults_now ≡ faults

pub rows_none : (now : Option (List ℕ)) (faults : ℕ) (rows : List Row) → WroteRows now now faults faults rows 0
rows_none now faults rows = record { written = nothing now; unfailed = refl }

pub rows_more : {before mid after : Option (List ℕ)} {f fm g : ℕ} (rows : List Row) (place : ℕ) (none : Row) → place < length rows → WroteRows before mid f fm rows place
    → Wrote {A = Unit {0}} (Ok tt) mid after fm g (row_of (get_or rows place none)) → WroteRows before after f g rows (place + 1)
rows_more {before} {mid} {after} rows place none within here wrote = record {
  written = subst (λ (t : List ℕ). Appends before after t) (sym longer) (both before mid after (texts (take place rows)) (row_of row) here.written wrote.0);
  unfailed = wrote.1 ∙ here.unfailed;
}
  where
    row : Row
    row = get_or rows place none

    longer : texts (take (place + 1) rows) ≡ texts (take place rows) ++ row_of row
    longer =
        ap texts (take_more rows place none within)
        ∙ flat_map-append row_of (take place rows) (row ∷ [])
        ∙ ap (λ t. texts (take place rows) ++ t) (append-nil (row_of row))

-- the first rows and those behind them
rows_both : (rows : List Row) (place : ℕ) → texts (take place rows) ++ texts (drop place rows) ≡ texts rows
rows_both rows place = sym (flat_map-append row_of (take place rows) (drop place rows)) ∙ ap texts (take-append-drop place rows)

pub row_cut : (fault : RunFault) (before mid after : Option (List ℕ)) (f fm g : ℕ) (rows : List Row) (place : ℕ) (none : Row) → place < length rows
    → WroteRows before mid f fm rows place → Wrote {A = Unit {0}} (Err fault) mid after fm g (row_of (get_or rows place none))
    → Wrote {A = Unit {0}} (Err fault) before after f g (texts rows)
row_cut fault before mid after f fm g rows place none within here wrote =
    writing_cut fault before mid after f fm g (texts rows) (row_of (get_or rows place none)) (texts (drop (place + 1) rows))
    (record {
      part = texts (take place rows);
      makes = ap (λ (t : List ℕ). texts (take place rows) ++ t) (sym (texts_more rows place none within)) ∙ rows_both rows place;
      written = here.written;
      unfailed = here.unfailed;
    })
    (texts_end (take place rows))
    wrote

pub rows_written : {before now : Option (List ℕ)} {f g : ℕ} (rows : List Row) (place : ℕ) → length rows ≤ place
    → WroteRows before now f g rows place → Wrote {A = Unit {0}} (Ok tt) before now f g (texts rows)
rows_written {before} {now} rows place past here =
    (subst (λ (t : List ℕ). Appends before now t) (ap texts (take_all place rows past)) here.written, here.unfailed)

-- by the rows that the summary has
pub first_rows : (before now : Option (List ℕ)) (rows : List Row) (place : ℕ) (all : List (List ℕ × ℕ)) → map kind_of rows ≡ all
    → Appends before now (texts (take place rows)) → Appends before now (text_of (take place all))
first_rows before now rows place all is written = subst (λ (t : List ℕ). Appends before now t) (sym same) written
  where
    same : text_of (take place all) ≡ texts (take place rows)
    same =
        ap (λ (it : List (List ℕ × ℕ)). text_of (take place it)) (sym is)
        ∙ ap text_of (take-map kind_of place rows)
        ∙ flat_map-map (λ (row : List ℕ × ℕ). row_text row.0 row.1) kind_of (take place rows)
