-- The pages of a stream before its first line, and what is written of those whose scripts are refused.
use Rattle.std.proofs.Common.{◌≡◌, ◌∙◌, refl, sym, ap, subst, ℕ, zero, suc, ◌+◌, List, [], ◌∷◌, ◌++◌, Option, Some, None, arith}
use Rattle.std.specs.Prelude.{slice_get, option_map, flat_map}
use Rattle.std.specs.List.{All}
use Rattle.std.proofs.lemmas.List.{append-nil}
use Rattle.std.proofs.lemmas.Option.{none-some, same_Some, slice_get-map}
use Rattle.script_model.specs.Reading.{reading}
use Rattle.page_model.specs.Outcome.{bytes_of}
use Rattle.page_stream.specs.Pages.{pages_of}
use Rattle.page_stream.specs.Parts.{script_of}
use Rattle.stream_runs.specs.PageRuns.{PageScript, PageRun, opened, refused_lines}
use Rattle.stream_runs.specs.StreamRuns.{scripts_from, scripts_of, named_text, refused_text, stream_opened, text_of_page}
use Rattle.stream_runs.specs.Alone.{IsOneLine}
use Rattle.stream_runs.proofs.Lines.{IsWhole, whole_none, whole_both}
use Rattle.stream_runs.proofs.Names.{IsName}
use Rattle.stream_runs.proofs.PageTexts.{text_both, text_none, named_whole, own_named, other_named}

-- ---- scripts by their places

abbrev pub script_at : List ℕ → ℕ → List ℕ → PageScript
script_at source place name = record { name = name; read = reading (script_of place source) }

scripts-from : (first : ℕ) (names : List (List ℕ)) (source : List ℕ) (place : ℕ)
    → slice_get (scripts_from first names source) place ≡ option_map (script_at source (first + place)) (slice_get names place)
unfolding scripts_from
scripts-from first [] source place = refl
scripts-from first (name ∷ names) source zero =
    let same : first ≡ first + 0 = omega arith in ap (λ place. Some (script_at source place name)) same
scripts-from first (name ∷ names) source (suc place) =
    let same : first + 1 + place ≡ first + suc place = omega arith in
    scripts-from (first + 1) names source place ∙ ap (λ at. option_map (script_at source at) (slice_get names place)) same

scripts-at : (source : List ℕ) (place : ℕ) → slice_get (scripts_of source) place ≡ option_map (script_at source place) (slice_get (pages_of source) place)
unfolding scripts_of
scripts-at source place =
    let same : 0 + place ≡ place = omega arith in
    scripts-from 0 (pages_of source) source place ∙ ap (λ at. option_map (script_at source at) (slice_get (pages_of source) place)) same

pub script_there : (source : List ℕ) (place : ℕ) (name : List ℕ) → slice_get (pages_of source) place ≡ Some name → slice_get (scripts_of source) place ≡ Some (script_at source place name)
script_there source place name at = scripts-at source place ∙ ap (option_map (script_at source place)) at

by-name : (source : List ℕ) (place : ℕ) (named : Option (List ℕ)) (script : PageScript) → slice_get (pages_of source) place ≡ named → option_map (script_at source place) named ≡ Some script
    → (name : List ℕ) × (slice_get (pages_of source) place ≡ Some name) × (script_at source place name ≡ script)
by-name source place None script at is = absurd (none-some script is)
by-name source place (Some name) script at is = (name, at, same_Some (script_at source place name) script is)

-- a script is that of a page
pub page_there : (source : List ℕ) (place : ℕ) (script : PageScript) → slice_get (scripts_of source) place ≡ Some script
    → (name : List ℕ) × (slice_get (pages_of source) place ≡ Some name) × (script_at source place name ≡ script)
page_there source place script at = by-name source place (slice_get (pages_of source) place) script refl (sym (scripts-at source place) ∙ at)

opened-at : (scripts : List PageScript) (place : ℕ) → slice_get (stream_opened scripts).pages place ≡ option_map opened (slice_get scripts place)
unfolding stream_opened
opened-at scripts place = slice_get-map opened scripts place

pub opened_there : (source : List ℕ) (place : ℕ) (name : List ℕ) → slice_get (pages_of source) place ≡ Some name
    → slice_get (stream_opened (scripts_of source)).pages place ≡ Some (opened (script_at source place name))
opened_there source place name at = opened-at (scripts_of source) place ∙ ap (option_map opened) (script_there source place name at)

by-script : (source : List ℕ) (place : ℕ) (found : Option PageScript) (page : PageRun) → slice_get (scripts_of source) place ≡ found → option_map opened found ≡ Some page
    → (name : List ℕ) × (slice_get (pages_of source) place ≡ Some name) × (opened (script_at source place name) ≡ page)
by-script source place None page at is = absurd (none-some page is)
by-script source place (Some script) page at is =
    let there = page_there source place script at in
    (there.0, there.1, ap opened there.2 ∙ same_Some (opened script) page is)

-- a page that is opened is one of the stream
pub opened_page : (source : List ℕ) (place : ℕ) (page : PageRun) → slice_get (stream_opened (scripts_of source)).pages place ≡ Some page
    → (name : List ℕ) × (slice_get (pages_of source) place ≡ Some name) × (opened (script_at source place name) ≡ page)
opened_page source place page at = by-script source place (slice_get (scripts_of source) place) page refl (sym (opened-at (scripts_of source) place) ∙ at)

-- ---- what is written of refused scripts

abbrev pub AreFit : List PageScript → Type 0
AreFit scripts = (place : ℕ) (script : PageScript) → slice_get scripts place ≡ Some script → IsName script.name × All IsOneLine (refused_lines script.read)

refused-is : (script : PageScript) → refused_text script ≡ named_text script.name (refused_lines script.read)
unfolding refused_text
refused-is script = refl

refused-whole : (script : PageScript) → IsName script.name × All IsOneLine (refused_lines script.read) → IsWhole (refused_text script)
refused-whole script fit = subst IsWhole (sym (refused-is script)) (named_whole script.name (refused_lines script.read) fit.0 fit.1)

all-whole : (scripts : List PageScript) → AreFit scripts → IsWhole (flat_map refused_text scripts)
all-whole [] fit = whole_none
all-whole (script ∷ scripts) fit =
    whole_both (refused_text script) (flat_map refused_text scripts) (refused-whole script (fit 0 script refl)) (all-whole scripts (λ place. fit (suc place)))

opening-text : (scripts : List PageScript) → (stream_opened scripts).text ≡ flat_map refused_text scripts
unfolding stream_opened
opening-text scripts = refl

pub opening_whole : (scripts : List PageScript) → AreFit scripts → IsWhole (stream_opened scripts).text
opening_whole scripts fit = subst IsWhole (sym (opening-text scripts)) (all-whole scripts fit)

other-first : (name : List ℕ) (script : PageScript) → IsName name → IsName script.name × All IsOneLine (refused_lines script.read) → (script.name ≡ name → ⊥) → text_of_page name (refused_text script) ≡ []
other-first name script is fit other =
    ap (text_of_page name) (refused-is script) ∙ other_named name script.name (refused_lines script.read) is fit.0 other fit.1

none-of : (name : List ℕ) (scripts : List PageScript) → IsName name → AreFit scripts → ((place : ℕ) (script : PageScript) → slice_get scripts place ≡ Some script → script.name ≡ name → ⊥)
    → text_of_page name (flat_map refused_text scripts) ≡ []
none-of name [] is fit other = text_none name
none-of name (script ∷ scripts) is fit other =
    text_both name (refused_text script) (flat_map refused_text scripts) (refused-whole script (fit 0 script refl))
    ∙ ap (λ text. text ++ text_of_page name (flat_map refused_text scripts)) (other-first name script is (fit 0 script refl) (other 0 script refl))
    ∙ none-of name scripts is (λ place. fit (suc place)) (λ place. other (suc place))

own-of : (place : ℕ) (it : PageScript) (scripts : List PageScript) → AreFit scripts → slice_get scripts place ≡ Some it
    → ((other : ℕ) (script : PageScript) → slice_get scripts other ≡ Some script → script.name ≡ it.name → other ≡ place)
    → text_of_page it.name (flat_map refused_text scripts) ≡ bytes_of (refused_lines it.read)
own-of place it [] fit at one = absurd (none-some it at)
own-of zero it (script ∷ scripts) fit at one =
    let is : script ≡ it = same_Some script it at in
    let mine = fit 0 script refl in
    let own_name : IsName it.name = subst (λ (s : PageScript). IsName s.name) is mine.0 in
    let lines : All IsOneLine (refused_lines it.read) = subst (λ (s : PageScript). All IsOneLine (refused_lines s.read)) is mine.1 in
    text_both it.name (refused_text script) (flat_map refused_text scripts) (refused-whole script mine)
    ∙ ap (λ (s : PageScript). text_of_page it.name (refused_text s) ++ text_of_page it.name (flat_map refused_text scripts)) is
    ∙ ap (λ text. text_of_page it.name text ++ text_of_page it.name (flat_map refused_text scripts)) (refused-is it)
    ∙ ap (λ text. text ++ text_of_page it.name (flat_map refused_text scripts)) (own_named it.name (refused_lines it.read) own_name lines)
    ∙ ap (λ text. bytes_of (refused_lines it.read) ++ text)
    (none-of it.name scripts own_name (λ place. fit (suc place)) (λ other script there same. let no = one (suc other) script there same in absurd (omega arith)))
    ∙ append-nil (bytes_of (refused_lines it.read))
own-of (suc place) it (script ∷ scripts) fit at one =
    let mine = fit (suc place) it at in
    text_both it.name (refused_text script) (flat_map refused_text scripts) (refused-whole script (fit 0 script refl))
    ∙ ap (λ text. text ++ text_of_page it.name (flat_map refused_text scripts))
    (other-first it.name script mine.0 (fit 0 script refl) (λ same. let no = one 0 script refl same in absurd (omega arith)))
    ∙ own-of place it scripts (λ place. fit (suc place)) at (λ other script there same. let next = one (suc other) script there same in omega arith)

pub opening_own : (place : ℕ) (it : PageScript) (scripts : List PageScript) → AreFit scripts → slice_get scripts place ≡ Some it
    → ((other : ℕ) (script : PageScript) → slice_get scripts other ≡ Some script → script.name ≡ it.name → other ≡ place)
    → text_of_page it.name (stream_opened scripts).text ≡ bytes_of (refused_lines it.read)
opening_own place it scripts fit at one = ap (text_of_page it.name) (opening-text scripts) ∙ own-of place it scripts fit at one
