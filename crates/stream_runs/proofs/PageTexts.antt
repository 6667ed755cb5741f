-- The lines of one page in a text of several.
use Rattle.std.proofs.Common.{◌≡◌, ◌≢◌, ◌∙◌, refl, sym, ap, ℕ, ◌+◌, Bool, true, false, cond, List, [], ◌∷◌, ◌++◌, length, map, drop, arith, append_assoc, length-append}
use Rattle.std.specs.Prelude.{nat_eq}
use Rattle.std.specs.List.{All, filter, concat, starts_with}
use Rattle.std.proofs.lemmas.Bool.{false_from_ne_true}
use Rattle.std.proofs.lemmas.Bool.Decides.{Decides-eqb}
use Rattle.std.proofs.lemmas.List.{append-nil, map-append, drop_at}
use Rattle.std.proofs.lemmas.List.Elements.{All-head, All-tail, All-cons, All-append, All-weaker, filter-append}
use Rattle.std.proofs.lemmas.List.Folds.{concat-append}
use Rattle.std.proofs.lemmas.Slice.Eq.{starts_is}
use Rattle.script_model.specs.TraceLines.{TraceLine}
use Rattle.script_model.specs.TraceText.{line_text}
use Rattle.page_model.specs.Outcome.{bytes_of}
use Rattle.trace_judge.specs.Lines.{lines_of}
use Rattle.stream_runs.specs.StreamRuns.{named_text, text_of_page}
use Rattle.stream_runs.specs.Alone.{EndsOnce, IsOneLine}
use Rattle.stream_runs.proofs.Lines.{IsWhole, whole_none, whole_both, fed_whole, fed_line, no_lines}
use Rattle.stream_runs.proofs.Names.{IsName, IsPlain, name_plain}

-- ---- the page's part of a text

abbrev own : List ℕ → List (List ℕ) → List ℕ
own name lines = concat (map (λ line. drop (length name + 1) line) (filter (λ line. starts_with nat_eq line (name ++ (32 ∷ []))) lines))

own-text : (name text : List ℕ) → text_of_page name text ≡ own name (lines_of text)
unfolding text_of_page
own-text name text = refl

own-both : (name : List ℕ) (front lines : List (List ℕ)) → own name (front ++ lines) ≡ own name front ++ own name lines
own-both name front lines =
    let cut : List ℕ → List ℕ = λ line. drop (length name + 1) line in
    let test : List ℕ → Bool = λ line. starts_with nat_eq line (name ++ (32 ∷ [])) in
    ap (λ ls. concat (map cut ls)) (filter-append test front lines)
    ∙ ap concat (map-append cut (filter test front) (filter test lines))
    ∙ concat-append (map cut (filter test front)) (map cut (filter test lines))

-- of two texts, where a line ends between them
pub text_both : (name a b : List ℕ) → IsWhole a → text_of_page name (a ++ b) ≡ text_of_page name a ++ text_of_page name b
text_both name a b whole =
    own-text name (a ++ b)
    ∙ ap (own name) (whole b)
    ∙ own-both name (lines_of a) (lines_of b)
    ∙ ap (λ t. t ++ own name (lines_of b)) (sym (own-text name a))
    ∙ ap (λ t. text_of_page name a ++ t) (sym (own-text name b))

pub text_none : (name : List ℕ) → text_of_page name [] ≡ []
text_none name = own-text name [] ∙ ap (own name) no_lines

-- ---- lines with a name

abbrev with_name : List ℕ → TraceLine → List ℕ
with_name name line = name ++ (32 ∷ line_text line)

with-fed : (name : List ℕ) (line : TraceLine) → IsName name → IsOneLine line → EndsOnce (with_name name line)
with-fed name line is fits = (
  name ++ (32 ∷ fits.0),
  ap (λ t. name ++ (32 ∷ t)) fits.1 ∙ sym (append_assoc name (32 ∷ fits.0) (10 ∷ [])),
  All-append (λ byte. byte ≢ 10) name (32 ∷ fits.0) (All-weaker IsPlain (λ byte. byte ≢ 10) (λ byte plain. plain.1) name (name_plain name is))
      (All-cons (λ byte. byte ≢ 10) 32 fits.0 (λ is. absurd (let no : ⊥ = omega arith in no)) fits.2),
)

named-none : (name : List ℕ) → named_text name [] ≡ []
unfolding named_text
named-none name = refl

named-more : (name : List ℕ) (line : TraceLine) (lines : List TraceLine) → named_text name (line ∷ lines) ≡ with_name name line ++ named_text name lines
unfolding named_text
named-more name line lines = refl

-- such a text ends where a line ends
pub named_whole : (name : List ℕ) (lines : List TraceLine) → IsName name → All IsOneLine lines → IsWhole (named_text name lines)
unfolding named_text
named_whole name [] is fit = whole_none
named_whole name (line ∷ lines) is fit =
    whole_both (with_name name line) (named_text name lines) (fed_whole (with_name name line) (with-fed name line is (All-head IsOneLine line lines fit)))
    (named_whole name lines is (All-tail IsOneLine line lines fit))

first-byte : List ℕ → ℕ
first-byte [] = 0
first-byte (b ∷ bs) = b

behind-byte : List ℕ → List ℕ
behind-byte [] = []
behind-byte (b ∷ bs) = bs

-- two names before a space are the same
same-names : (a b s t : List ℕ) → All IsPlain a → All IsPlain b → a ++ (32 ∷ s) ≡ b ++ (32 ∷ t) → a ≡ b
unfolding first-byte behind-byte
same-names [] [] s t plain_a plain_b same = refl
same-names [] (y ∷ ys) s t plain_a plain_b same = absurd ((All-head IsPlain y ys plain_b).0 (sym (ap first-byte same)))
same-names (x ∷ xs) [] s t plain_a plain_b same = absurd ((All-head IsPlain x xs plain_a).0 (ap first-byte same))
same-names (x ∷ xs) (y ∷ ys) s t plain_a plain_b same =
    ap (λ b. b ∷ xs) (ap first-byte same)
    ∙ ap (λ bs. y ∷ bs) (same-names xs ys s t (All-tail IsPlain x xs plain_a) (All-tail IsPlain y ys plain_b) (ap behind-byte same))

spaced : (name text : List ℕ) → name ++ (32 ∷ text) ≡ (name ++ (32 ∷ [])) ++ text
spaced name text = sym (append_assoc name (32 ∷ []) text)

starts-own : (name text : List ℕ) → starts_with nat_eq (name ++ (32 ∷ text)) (name ++ (32 ∷ [])) ≡ true
starts-own name text = (starts_is Decides-eqb (name ++ (32 ∷ text)) (name ++ (32 ∷ [])) _ refl).1 text (spaced name text)

starts-other : (name other text : List ℕ) → IsName name → IsName other → (other ≡ name → ⊥) → starts_with nat_eq (other ++ (32 ∷ text)) (name ++ (32 ∷ [])) ≡ false
starts-other name other text is is_other apart =
    let line : List ℕ = other ++ (32 ∷ text) in
    let front : List ℕ = name ++ (32 ∷ []) in
    false_from_ne_true (starts_with nat_eq line front)
    (λ starts.
    apart
    (same-names other name text (drop (length front) line) (name_plain other is_other) (name_plain name is)
    ((starts_is Decides-eqb line front _ refl).0 starts ∙ sym (spaced name (drop (length front) line)))))

cut-own : (name text : List ℕ) → drop (length name + 1) (name ++ (32 ∷ text)) ≡ text
cut-own name text =
    ap (λ line. drop (length name + 1) line) (spaced name text)
    ∙ drop_at (name ++ (32 ∷ [])) text (length name + 1) (let long = length-append name (32 ∷ []) in omega arith)

own-line : (name text : List ℕ) → own name ((name ++ (32 ∷ text)) ∷ []) ≡ text ++ []
own-line name text =
    ap (λ test. concat (map (λ line. drop (length name + 1) line) (cond test ((name ++ (32 ∷ text)) ∷ []) []))) (starts-own name text)
    ∙ ap (λ t. t ++ []) (cut-own name text)

other-line : (name other text : List ℕ) → IsName name → IsName other → (other ≡ name → ⊥) → own name ((other ++ (32 ∷ text)) ∷ []) ≡ []
other-line name other text is is_other apart =
    ap (λ test. concat (map (λ line. drop (length name + 1) line) (cond test ((other ++ (32 ∷ text)) ∷ []) []))) (starts-other name other text is is_other apart)

-- ---- what of them is the page's

text-first : (name other : List ℕ) (line : TraceLine) (lines : List TraceLine) → IsName other → IsOneLine line
    → text_of_page name (named_text other (line ∷ lines)) ≡ own name (with_name other line ∷ []) ++ text_of_page name (named_text other lines)
text-first name other line lines is fits =
    let fed = with-fed other line is fits in
    ap (text_of_page name) (named-more other line lines)
    ∙ text_both name (with_name other line) (named_text other lines) (fed_whole (with_name other line) fed)
    ∙ ap (λ t. t ++ text_of_page name (named_text other lines)) (own-text name (with_name other line) ∙ ap (own name) (fed_line (with_name other line) fed))

pub own_named : (name : List ℕ) (lines : List TraceLine) → IsName name → All IsOneLine lines → text_of_page name (named_text name lines) ≡ bytes_of lines
unfolding bytes_of
own_named name [] is fit = ap (text_of_page name) (named-none name) ∙ text_none name
own_named name (line ∷ lines) is fit =
    text-first name name line lines is (All-head IsOneLine line lines fit)
    ∙ ap (λ t. t ++ text_of_page name (named_text name lines)) (own-line name (line_text line) ∙ append-nil (line_text line))
    ∙ ap (λ t. line_text line ++ t) (own_named name lines is (All-tail IsOneLine line lines fit))

pub other_named : (name other : List ℕ) (lines : List TraceLine) → IsName name → IsName other → (other ≡ name → ⊥) → All IsOneLine lines → text_of_page name (named_text other lines) ≡ []
other_named name other [] is is_other apart fit = ap (text_of_page name) (named-none other) ∙ text_none name
other_named name other (line ∷ lines) is is_other apart fit =
    text-first name other line lines is_other (All-head IsOneLine line lines fit)
    ∙ ap (λ t. t ++ text_of_page name (named_text other lines)) (other-line name other (line_text line) is is_other apart)
    ∙ other_named name other lines is is_other apart (All-tail IsOneLine line lines fit)
