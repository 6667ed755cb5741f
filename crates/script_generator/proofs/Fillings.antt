-- Templates that are filled are the lines of the definition.
use Rattle.std.proofs.Common.{◌≡◌, ◌∙◌, refl, sym, ap, ℕ, suc, ◌+◌, ◌-◌, ◌<◌, ◌≤◌, false, cond, List, [], ◌∷◌, ◌++◌, length, take, get_or, arith, append_assoc}
use Rattle.std.proofs.lemmas.Bool.{ne_eqb}
use Rattle.std.proofs.lemmas.Grind.{flat_map-append}
use Rattle.std.proofs.lemmas.List.{append-nil, take_more}
use Rattle.std.specs.Prelude.{◌==◌, flat_map, codes}
use Rattle.word_model.specs.Numbers.{decimal}
use Rattle.script_model.specs.Generator.{root_margin, card_count, head_lines, card_lines, cards_from, tail_lines, generated_lines, generated}
use Rattle.script_generator.specs.Filled.{filled}
use Rattle.script_generator.proofs.Cards.{lines_with, lines_by_digits}
use Rattle.script_generator.proofs.Texts.{each_margin}

-- the templates of the code
abbrev pub head_template : List ℕ
head_template =
    codes "script 1\nhandler show\neach\nwhen seen\nload $target 80px 60px\nio-unobserve lazy $target\nend\nend\nend\nblock r top\nappend top r\nro fit top -\nro-observe fit r content\nio lazy top show root - margin #px threshold 0\n"

abbrev pub card_template : List ℕ
card_template =
    codes "block c# top\nset c# height 100px\nappend r c#\nimage g# top 0px 0px\nappend c# g#\nblock t# top\nset t# height 20px\nappend c# t#\nio-observe lazy g#\n"

abbrev pub tail_template : List ℕ
tail_template =
    codes "tick 0\nscroll top 0px 1000px\ntick 16\nscroll top 0px 5000px\ntick 32\nscroll top 0px 20000px\ntick 48\nscroll top 0px 60000px\ntick 64\n"

-- lines, each with its line feed
abbrev pub with_feed : List ℕ → List ℕ
with_feed line = line ++ (10 ∷ [])

abbrev pub fed : List (List ℕ) → List ℕ
fed lines = flat_map with_feed lines

pub filled_none : (number : ℕ) → filled number [] ≡ []
unfolding filled
filled_none number = refl

pub filled_both : (number : ℕ) (xs ys : List ℕ) → filled number (xs ++ ys) ≡ filled number xs ++ filled number ys
unfolding filled
filled_both number xs ys = flat_map-append _ xs ys

pub filled_number : (number byte : ℕ) → byte ≡ 35 → filled number (byte ∷ []) ≡ decimal number
unfolding filled
filled_number number byte is = ap (λ b. cond (b == 35) (decimal number) (b ∷ []) ++ []) is ∙ append-nil (decimal number)

pub filled_byte : (number byte : ℕ) → (byte == 35) ≡ false → filled number (byte ∷ []) ≡ byte ∷ []
unfolding filled
filled_byte number byte other = ap (λ test. cond test (decimal number) (byte ∷ []) ++ []) other

-- one byte more of a template
filled_more : (number : ℕ) (template : List ℕ) (place : ℕ) → place < length template
    → filled number (take (place + 1) template) ≡ filled number (take place template) ++ filled number (get_or template place 0 ∷ [])
filled_more number template place within =
    ap (filled number) (take_more template place 0 within) ∙ filled_both number (take place template) (get_or template place 0 ∷ [])

module _ (number : ℕ) (template : List ℕ) (place : ℕ) (before now after : List ℕ) (within : place < length template) (so_far : now ≡ before ++ filled number (take place template)) where
  pushed : (piece : List ℕ) → filled number (get_or template place 0 ∷ []) ≡ piece → after ≡ now ++ piece → after ≡ before ++ filled number (take (place + 1) template)
  pushed piece is appended =
      appended ∙ ap (λ text. text ++ piece) so_far ∙ append_assoc before (filled number (take place template)) piece
      ∙ ap (λ text. before ++ (filled number (take place template) ++ text)) (sym is)
      ∙ ap (λ text. before ++ text) (sym (filled_more number template place within))

  pub number_pushed : get_or template place 0 ≡ 35 → after ≡ now ++ decimal number → after ≡ before ++ filled number (take (place + 1) template)
  number_pushed is appended = pushed (decimal number) (filled_number number (get_or template place 0) is) appended

  pub byte_pushed : (get_or template place 0 ≡ 35 → ⊥) → after ≡ now ++ (get_or template place 0 ∷ []) → after ≡ before ++ filled number (take (place + 1) template)
  byte_pushed other appended =
      pushed (get_or template place 0 ∷ []) (filled_byte number (get_or template place 0) (ne_eqb (get_or template place 0) 35 other)) appended

pub HeadFilled : ℕ → Type 0
HeadFilled margin =
    filled margin head_template
    ≡ fed (head_lines margin)

pub head_filled : (number : ℕ) → HeadFilled (root_margin number)
unfolding HeadFilled filled head_lines
head_filled number = each_margin HeadFilled refl refl refl refl refl number

-- a line of a card, with what follows
line_fed : (front digits back rest later : List ℕ) → rest ≡ later → with_feed (front ++ digits ++ back) ++ rest ≡ front ++ (digits ++ (back ++ (10 ∷ later)))
line_fed front digits back rest later same =
    append_assoc (front ++ digits ++ back) (10 ∷ []) rest
    ∙ append_assoc (front ++ digits) back (10 ∷ rest)
    ∙ append_assoc front digits (back ++ (10 ∷ rest))
    ∙ ap (λ more. front ++ (digits ++ (back ++ (10 ∷ more)))) same

-- a line with the number twice
twice_fed : (front digits middle rest later : List ℕ) → rest ≡ later
    → with_feed (front ++ digits ++ (middle ++ digits ++ [])) ++ rest ≡ front ++ (digits ++ (middle ++ (digits ++ (10 ∷ later))))
twice_fed front digits middle rest later same =
    line_fed front digits (middle ++ digits ++ []) rest later same
    ∙ ap (λ more. front ++ (digits ++ more)) (append_assoc (middle ++ digits) [] (10 ∷ later) ∙ append_assoc middle digits (10 ∷ later))

card-filled : (card : ℕ) → filled card card_template
    ≡ fed (lines_with (decimal card))
unfolding filled
card-filled card =
    let d : List ℕ = decimal card in
    sym
    (line_fed (codes "block c") d (codes " top") _ _
    (line_fed (codes "set c") d (codes " height 100px") _ _
    (line_fed (codes "append r c") d [] _ _
    (line_fed (codes "image g") d (codes " top 0px 0px") _ _
    (twice_fed (codes "append c") d (codes " g") _ _
    (line_fed (codes "block t") d (codes " top") _ _
    (line_fed (codes "set t") d (codes " height 20px") _ _
    (twice_fed (codes "append c") d (codes " t") _ _ (line_fed (codes "io-observe lazy g") d [] [] [] refl)))))))))

pub card_filled : (card : ℕ) → filled card card_template
    ≡ fed (card_lines card)
card_filled card = card-filled card ∙ ap fed (sym (lines_by_digits card))

-- the cards from one on, and the tail behind them
pub cards_left : ℕ → ℕ → List ℕ
cards_left card count = fed (cards_from card count) ++ fed tail_lines

pub one_left : (card count : ℕ) → card < count → cards_left card (count - card) ≡ fed (card_lines card) ++ cards_left (card + 1) (count - (card + 1))
unfolding cards_left cards_from
one_left card count more =
    ap (λ left. fed (cards_from card left) ++ fed tail_lines) (a-card-less card count more)
    ∙ ap (λ front. front ++ fed tail_lines) (flat_map-append with_feed (card_lines card) (cards_from (card + 1) (count - (card + 1))))
    ∙ append_assoc (fed (card_lines card)) (fed (cards_from (card + 1) (count - (card + 1)))) (fed tail_lines)
  where
    a-card-less : (card count : ℕ) → card < count → count - card ≡ suc (count - (card + 1))
    a-card-less card count more = omega arith

pub none_left : (card count : ℕ) → count ≤ card → cards_left card (count - card) ≡ fed tail_lines
unfolding cards_left cards_from
none_left card count past = ap (λ left. fed (cards_from card left) ++ fed tail_lines) (no-card card count past)
  where
    no-card : (card count : ℕ) → count ≤ card → count - card ≡ 0
    no-card card count past = omega arith

pub whole_text : (number : ℕ) → fed (head_lines (root_margin number)) ++ cards_left 0 (card_count number - 0) ≡ generated number
unfolding cards_left generated generated_lines
whole_text number =
    let head : List (List ℕ) = head_lines (root_margin number) in
    let cards : List (List ℕ) = cards_from 0 (card_count number) in
    let all : card_count number - 0 ≡ card_count number = omega arith in
    ap (λ count. fed head ++ (fed (cards_from 0 count) ++ fed tail_lines)) all
    ∙ sym (append_assoc (fed head) (fed cards) (fed tail_lines))
    ∙ ap (λ front. front ++ fed tail_lines) (sym (flat_map-append with_feed head cards))
    ∙ sym (flat_map-append with_feed (head ++ cards) tail_lines)

-- the text so far and what is left, step by step
pub head_pushed : (number : ℕ) (start text : List ℕ) → start ≡ []
    → text ≡ start ++ filled (root_margin number) head_template
    → text ++ cards_left 0 (card_count number - 0) ≡ generated number
unfolding HeadFilled
head_pushed number start text none is =
    ap (λ front. front ++ cards_left 0 (card_count number - 0))
    (is ∙ ap (λ front. front ++ filled (root_margin number) head_template) none ∙ head_filled number)
    ∙ whole_text number

pub card_pushed : (number card count : ℕ) (now after : List ℕ) → card < count → now ++ cards_left card (count - card) ≡ generated number
    → after ≡ now ++ filled card card_template
    → after ++ cards_left (card + 1) (count - (card + 1)) ≡ generated number
card_pushed number card count now after more so_far appended =
    ap (λ front. front ++ cards_left (card + 1) (count - (card + 1))) (appended ∙ ap (λ text. now ++ text) (card_filled card))
    ∙ append_assoc now (fed (card_lines card)) (cards_left (card + 1) (count - (card + 1)))
    ∙ ap (λ rest. now ++ rest) (sym (one_left card count more))
    ∙ so_far

pub tail_pushed : (number card count : ℕ) (now after : List ℕ) → count ≤ card → now ++ cards_left card (count - card) ≡ generated number
    → after ≡ now ++ tail_template
    → after ≡ generated number
tail_pushed number card count now after past so_far appended = appended ∙ ap (λ rest. now ++ rest) (sym (none_left card count past)) ∙ so_far
