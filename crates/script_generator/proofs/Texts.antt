-- The lines of a generated script, as the definition has them.
use Rattle.std.proofs.Common.{◌≡◌, ◌∙◌, refl, sym, ap, ℕ, zero, suc, ◌+◌, ◌*◌, ◌/◌, ◌%◌, ◌<◌, List, ◌∷◌, ◌++◌, arith}
use Rattle.std.proofs.lemmas.List.{append-nil, map-append}
use Rattle.std.specs.Prelude.{map, codes}
use Rattle.word_model.specs.Numbers.{decimal}
use Rattle.px_units.specs.Lengths.{Pixels}
use Rattle.script_model.specs.Generator.{root_margin, card_count, head_lines, card_lines, cards_from, tail_lines, generated_lines}
use Rattle.script_model.specs.MarginText.{parts_of}
use Rattle.media_queries.specs.LengthText.{length_text}
use Rattle.script_text.specs.NumberText.{signed_text, number_text}
use Rattle.script_text.specs.DeclarationText.{size_text}
use Rattle.script_text.specs.ScriptText.{line_text}
use Rattle.script_generator.proofs.Cards.{lines_with, lines_by_digits}
use Rattle.script_generator.proofs.Consecutive.{Words}
use Rattle.script_generator.proofs.Plain.{Plain, plain_words}
use Rattle.script_generator.proofs.Items.{handler_words, head_plain, card_plain, cards_plain, tail_plain, generated_plain}

abbrev pub texts : List Plain → List (List ℕ)
texts ps = map line_text (map plain_words ps)

pub texts_both : (ps qs : List Plain) → texts (ps ++ qs) ≡ texts ps ++ texts qs
texts_both ps qs = ap (map line_text) (map-append plain_words ps qs) ∙ map-append line_text (map plain_words ps) (map plain_words qs)

-- what holds of the five margins holds of that of every number
pub five : (P : ℕ → Type 0) → P 200 → P 300 → P 400 → P 500 → P 600 → (k : ℕ) → k < 5 → P (200 + 100 * k)
five P a b c d e zero h = a
five P a b c d e (suc zero) h = b
five P a b c d e (suc (suc zero)) h = c
five P a b c d e (suc (suc (suc zero))) h = d
five P a b c d e (suc (suc (suc (suc zero)))) h = e
five P a b c d e (suc (suc (suc (suc (suc k))))) h = absurd (omega arith)

pub each_margin : (P : ℕ → Type 0) → P 200 → P 300 → P 400 → P 500 → P 600 → (number : ℕ) → P (root_margin number)
each_margin P a b c d e number = five P a b c d e (number / 2000 % 5) (omega arith)

unfoldable pub all_words : ℕ → List Words
all_words number = handler_words ++ map plain_words (generated_plain number)

pub HeadIs : ℕ → Type 0
HeadIs margin = codes "script 1" ∷ (map line_text handler_words ++ texts (head_plain margin)) ≡ head_lines margin

pub head_texts : (number : ℕ) → HeadIs (root_margin number)
unfolding HeadIs line_text head_lines parts_of number_text decimal
head_texts number = each_margin HeadIs refl refl refl refl refl number

tall : size_text (Pixels 6400) ≡ codes "100px"
unfolding size_text
tall = refl

low : size_text (Pixels 1280) ≡ codes "20px"
unfolding size_text
low = refl

none : length_text 0 ≡ codes "0px"
unfolding length_text
none = refl

card_texts : (card : ℕ) → texts (card_plain card) ≡ lines_with (decimal card)
unfolding line_text
card_texts card = simp (append-nil, tall, low, none)

cards_texts : (card count : ℕ) → texts (cards_plain card count) ≡ cards_from card count
unfolding cards_plain cards_from
cards_texts card zero = refl
cards_texts card (suc count) =
    texts_both (card_plain card) (cards_plain (card + 1) count)
    ∙ ap (λ first. first ++ texts (cards_plain (card + 1) count)) (card_texts card ∙ sym (lines_by_digits card))
    ∙ ap (λ rest. card_lines card ++ rest) (cards_texts (card + 1) count)

tail_texts : texts tail_plain ≡ tail_lines
unfolding line_text signed_text decimal
tail_texts = refl

pub lines_are : (number : ℕ) → codes "script 1" ∷ map line_text (all_words number) ≡ generated_lines number
unfolding all_words generated_plain generated_lines HeadIs
lines_are number =
    let margin : ℕ = root_margin number in
    let count : ℕ = card_count number in
    let head : List Plain = head_plain margin in
    let cards : List Plain = cards_plain 0 count in
    let behind : texts ((head ++ cards) ++ tail_plain) ≡ (texts head ++ cards_from 0 count) ++ tail_lines =
    texts_both (head ++ cards) tail_plain
    ∙ ap (λ rest. texts (head ++ cards) ++ rest) tail_texts
    ∙ ap (λ front. front ++ tail_lines) (texts_both head cards ∙ ap (λ rest. texts head ++ rest) (cards_texts 0 count)) in
    ap (λ rest. codes "script 1" ∷ rest)
    (map-append line_text handler_words (map plain_words ((head ++ cards) ++ tail_plain)) ∙ ap (λ rest. map line_text handler_words ++ rest) behind)
    ∙ ap (λ front. (front ++ cards_from 0 count) ++ tail_lines) (head_texts number)
