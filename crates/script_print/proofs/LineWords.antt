-- Words appended one after the other.
use Rattle.std.proofs.Common.{◌≡◌, ℕ, ◌+◌, ◌<◌, ◌≤◌, List, [], ◌∷◌, ◌++◌, length, drop, get_or, map, refl, ap, sym, ◌∙◌, append_assoc, append-nil, cond, ◌==◌, Bool, true, false, Option, Some, None, ℤ, arith}
use Rattle.std.proofs.lemmas.List.{drop_more, drop_all}
use Rattle.std.proofs.lemmas.Bool.Decides.{nat_tests}
use Rattle.std.specs.List.{join_with_byte}
use Rattle.std.specs.Prelude.{codes}
use Rattle.media_queries.proofs.Appends.{two_parts}
use Rattle.script_model.specs.MarginText.{parts_of, split_at_spaces, before_first}
use Rattle.script_text.specs.Parts.{Part, PartOf, part_words, all_words, scroll_words}
use Rattle.script_text.specs.NumberText.{number_text}
use Rattle.script_text.specs.ScriptText.{line_text}
use Rattle.script_print.specs.Spaced.{spaced}

one_word : (word : List ℕ) → 32 ∷ word ≡ spaced (word ∷ [])
unfolding spaced
one_word word = ap (λ l. 32 ∷ l) (sym (append-nil word))

spaced_both : (xs ys : List (List ℕ)) → spaced (xs ++ ys) ≡ spaced xs ++ spaced ys
unfolding spaced
spaced_both [] ys = refl
spaced_both (x ∷ xs) ys =
    ap (λ l. 32 ∷ (x ++ l)) (spaced_both xs ys) ∙ ap (λ l. 32 ∷ l) (sym (append_assoc x (spaced xs) (spaced ys)))

-- a word is behind a space
pub word_pushed : (word old middle new : List ℕ) → middle ≡ old ++ (32 ∷ []) → new ≡ middle ++ word → new ≡ old ++ spaced (word ∷ [])
word_pushed word old middle new e f = two_parts old (32 ∷ []) word middle new e f ∙ ap (λ l. old ++ l) (one_word word)

-- a space and the word's first byte are appended together
pub two_pieces : (byte : ℕ) (word old middle new : List ℕ) → middle ≡ old ++ (32 ∷ byte ∷ []) → new ≡ middle ++ word → new ≡ old ++ spaced ((byte ∷ word) ∷ [])
two_pieces byte word old middle new e f =
    two_parts old (32 ∷ byte ∷ []) word middle new e f ∙ ap (λ l. old ++ l) (one_word (byte ∷ word))

pub two_words_pushed : (first second old one two three new : List ℕ) → one ≡ old ++ (32 ∷ []) → two ≡ one ++ first → three ≡ two ++ (32 ∷ [])
    → new ≡ three ++ second → new ≡ old ++ spaced (first ∷ second ∷ [])
two_words_pushed first second old one two three new e f g h =
    two_parts old (spaced (first ∷ [])) (spaced (second ∷ [])) two new (word_pushed first old one two e f) (word_pushed second two three new g h)
    ∙ ap (λ l. old ++ l) (sym (spaced_both (first ∷ []) (second ∷ [])))

joined_is : (word : List ℕ) (words : List (List ℕ)) → join_with_byte 32 (word ∷ words) ≡ word ++ spaced words
unfolding spaced
joined_is word [] = sym (append-nil word)
joined_is word (next ∷ words) = ap (λ l. word ++ (32 ∷ l)) (joined_is next words)

pub line_is : (word : List ℕ) (words : List (List ℕ)) → line_text (word ∷ words) ≡ word ++ spaced words
unfolding line_text
line_is word words = joined_is word words

pub line_pushed : (head : List ℕ) (words : List (List ℕ)) (old middle new : List ℕ) → middle ≡ old ++ head → new ≡ middle ++ spaced words
    → new ≡ old ++ line_text (head ∷ words)
line_pushed head words old middle new e f = two_parts old head (spaced words) middle new e f ∙ ap (λ l. old ++ l) (sym (line_is head words))

-- words behind words
pub words_pushed : (first second : List (List ℕ)) (old middle new : List ℕ) → middle ≡ old ++ spaced first → new ≡ middle ++ spaced second
    → new ≡ old ++ spaced (first ++ second)
words_pushed first second old middle new e f =
    two_parts old (spaced first) (spaced second) middle new e f ∙ ap (λ l. old ++ l) (sym (spaced_both first second))

pub phrase_pushed : (head : List ℕ) (words : List (List ℕ)) (old middle new : List ℕ) → middle ≡ old ++ spaced (head ∷ []) → new ≡ middle ++ spaced words
    → new ≡ old ++ spaced (head ∷ words)
phrase_pushed head words old middle new e f = words_pushed (head ∷ []) words old middle new e f

-- words behind a line's
pub line_extended : (head : List ℕ) (words more : List (List ℕ)) (old middle new : List ℕ) → middle ≡ old ++ line_text (head ∷ words)
    → new ≡ middle ++ spaced more → new ≡ old ++ line_text (head ∷ (words ++ more))
line_extended head words more old middle new e f =
    two_parts old (line_text (head ∷ words)) (spaced more) middle new e f
    ∙ ap (λ l. old ++ (l ++ spaced more)) (line_is head words)
    ∙ ap (λ l. old ++ l) (append_assoc head (spaced words) (spaced more))
    ∙ ap (λ l. old ++ (head ++ l)) (sym (spaced_both words more))
    ∙ ap (λ l. old ++ l) (sym (line_is head (words ++ more)))

-- The words of a margin's text.

spaced_first : (byte : ℕ) (texts : List (List ℕ)) (bytes : List ℕ) → spaced texts ≡ 32 ∷ bytes → spaced (before_first byte texts) ≡ 32 ∷ byte ∷ bytes
unfolding spaced before_first
spaced_first byte [] bytes e = cc
spaced_first byte (text ∷ texts) bytes e =
    let behind : text ++ spaced texts ≡ bytes = cc in ap (λ (l : List ℕ). 32 ∷ byte ∷ l) behind

spaced_at : (b : ℕ) (is : Bool) (bs : List ℕ) → (b == 32) ≡ is → spaced (split_at_spaces bs) ≡ 32 ∷ bs
    → spaced (cond is ([] ∷ split_at_spaces bs) (before_first b (split_at_spaces bs))) ≡ 32 ∷ b ∷ bs
unfolding spaced
spaced_at b true bs e f =
    let space : b ≡ 32 = grind (arith, nat_tests, e) in ap (λ (l : List ℕ). 32 ∷ l) (f ∙ ap (λ n. n ∷ bs) (sym space))
spaced_at b false bs e f = spaced_first b (split_at_spaces bs) bs f

spaced_parts : (bs : List ℕ) → spaced (split_at_spaces bs) ≡ 32 ∷ bs
unfolding split_at_spaces spaced
spaced_parts [] = refl
spaced_parts (b ∷ bs) = spaced_at b (b == 32) bs refl (spaced_parts bs)

pub margin_is : (b : ℕ) (bs : List ℕ) → spaced (parts_of (b ∷ bs)) ≡ 32 ∷ b ∷ bs
unfolding parts_of
margin_is b bs = spaced_parts (b ∷ bs)

pub margin_pushed : (margin old middle new : List ℕ) → 0 < length margin → middle ≡ old ++ (32 ∷ []) → new ≡ middle ++ margin → new ≡ old ++ spaced (parts_of margin)
margin_pushed [] old middle new some e f = absurd (omega arith)
margin_pushed (b ∷ bs) old middle new some e f =
    two_parts old (32 ∷ []) (b ∷ bs) middle new e f ∙ ap (λ l. old ++ l) (sym (margin_is b bs))

pub no_margin : (margin old new : List ℕ) → length margin ≡ 0 → new ≡ old → new ≡ old ++ spaced (parts_of margin)
unfolding parts_of spaced
no_margin [] old new none e = e ∙ sym (append-nil old)
no_margin (b ∷ bs) old new none e = absurd (omega arith)

-- a scroll margin that was left out has no words
pub no_scroll : (scroll : Option (List ℕ)) (old : List ℕ) → scroll ≡ None → old ≡ old ++ spaced (scroll_words scroll)
unfolding spaced
no_scroll None old e = sym (append-nil old)
no_scroll (Some margin) old e = cc

-- The loops over words, a step at a time: what is there and what is still to come make the whole.

abbrev pub words_of : {A : Type 0} → (A → List (List ℕ)) → List A → List (List ℕ)
words_of seen [] = []
words_of seen (x ∷ xs) = seen x ++ words_of seen xs

pub words_on : {A : Type 0} → (seen : A → List (List ℕ)) (xs : List A) (i : ℕ) (d : A) (out new whole : List ℕ) → i < length xs
    → out ++ spaced (words_of seen (drop i xs)) ≡ whole → new ≡ out ++ spaced (seen (get_or xs i d)) → new ++ spaced (words_of seen (drop (i + 1) xs)) ≡ whole
words_on seen xs i d out new whole within so e =
    words_pushed (seen (get_or xs i d)) (words_of seen (drop (i + 1) xs)) out new (new ++ spaced (words_of seen (drop (i + 1) xs))) e refl
    ∙ ap (λ ys. out ++ spaced (words_of seen ys)) (sym (drop_more xs i d within)) ∙ so

none_spaced : spaced [] ≡ []
unfolding spaced
none_spaced = refl

pub words_end : {A : Type 0} → (seen : A → List (List ℕ)) (xs : List A) (i : ℕ) (out whole : List ℕ) → length xs ≤ i
    → out ++ spaced (words_of seen (drop i xs)) ≡ whole → out ≡ whole
words_end seen xs i out whole all so =
    sym (append-nil out) ∙ ap (λ l. out ++ l) (sym none_spaced) ∙ ap (λ ys. out ++ spaced (words_of seen ys)) (sym (drop_all i xs all)) ∙ so

-- the words of parts, and of numbers, in this form
parts_step : (part : Part) (words : List (List ℕ)) (parts : List Part) → words ≡ all_words parts → all_words (part ∷ []) ++ words ≡ all_words (part ∷ parts)
parts_step (PartOf form value) words parts e =
    append_assoc (part_words form value) [] words ∙ ap (λ (l : List (List ℕ)). part_words form value ++ l) e

pub parts_are : {A : Type 0} → (seen : A → Part) (xs : List A) → words_of (λ x. all_words (seen x ∷ [])) xs ≡ all_words (map seen xs)
parts_are seen [] = refl
parts_are seen (x ∷ xs) = parts_step (seen x) _ _ (parts_are seen xs)

pub numbers_are : (numbers : List ℤ) → words_of (λ number. number_text number ∷ []) numbers ≡ map number_text numbers
numbers_are [] = refl
numbers_are (n ∷ ns) = ap (λ l. number_text n ∷ l) (numbers_are ns)

-- The line of a command whose operands have several forms.

pub observer_pushed : (head : List ℕ) (first root margin numbers : List (List ℕ)) (w v : List ℕ) (old one two three four five new : List ℕ)
    → one ≡ old ++ line_text (head ∷ first) → two ≡ one ++ spaced root → three ≡ two ++ spaced (w ∷ [])
    → four ≡ three ++ spaced margin → five ≡ four ++ spaced (v ∷ []) → new ≡ five ++ spaced numbers
    → new ≡ old ++ line_text (head ∷ (first ++ (root ++ (w ∷ (margin ++ (v ∷ (numbers ++ [])))))))
observer_pushed head first root margin numbers w v old one two three four five new a b c d e f =
    line_extended head first (root ++ (w ∷ (margin ++ (v ∷ (numbers ++ []))))) old one new a
    (words_pushed root (w ∷ (margin ++ (v ∷ (numbers ++ [])))) one two new b
    (words_pushed (w ∷ []) (margin ++ (v ∷ (numbers ++ []))) two three new c
    (words_pushed margin (v ∷ (numbers ++ [])) three four new d
    (words_pushed (v ∷ []) (numbers ++ []) four five new e (f ∙ ap (λ l. five ++ spaced l) (sym (append-nil numbers)))))))

when_not : (words : List (List ℕ)) → codes "when not" ++ spaced words ≡ line_text (codes "when" ∷ codes "not" ∷ words)
unfolding spaced
when_not words = sym (line_is (codes "when") (codes "not" ∷ words))

when_only : (words : List (List ℕ)) → codes "when" ++ spaced words ≡ line_text (codes "when" ∷ words)
when_only words = sym (line_is (codes "when") words)

pub condition_pushed : (negated : Bool) (words : List (List ℕ)) (old middle new : List ℕ)
    → middle ≡ old ++ cond negated (codes "when not") (codes "when") → new ≡ middle ++ spaced words
    → new ≡ old ++ line_text (codes "when" ∷ (cond negated (codes "not" ∷ []) [] ++ words))
condition_pushed true words old middle new e f = two_parts old (codes "when not") (spaced words) middle new e f ∙ ap (λ l. old ++ l) (when_not words)
condition_pushed false words old middle new e f = two_parts old (codes "when") (spaced words) middle new e f ∙ ap (λ l. old ++ l) (when_only words)
