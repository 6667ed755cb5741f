-- A generated script is well formed.
use Rattle.std.proofs.Common.{◌≡◌, ◌∙◌, refl, sym, ap, ℕ, zero, suc, ◌+◌, ◌*◌, ◌<◌, ◌≤◌, true, List, [], ◌∷◌, ◌++◌, length, arith, subst, length-append}
use Rattle.std.proofs.lemmas.Bool.{le-leb, and_parts}
use Rattle.std.proofs.lemmas.Bool.Decides.{nat_tests}
use Rattle.std.proofs.lemmas.List.{map-append, length-map}
use Rattle.std.specs.Prelude.{map, flat_map, codes, nat_le, ◌&&◌}
use Rattle.std.specs.List.{list_all}
use Rattle.word_model.specs.Names.{is_digit, is_name_byte, is_name}
use Rattle.word_model.specs.Numbers.{decimal}
use Rattle.word_model.proofs.RoundTrip.{decimal_digits}
use Rattle.px_units.specs.Lengths.{Pixels}
use Rattle.text_io.specs.declared.kinds.Version.TheVariants.{First}
use Rattle.script_model.specs.Generator.{root_margin, card_count}
use Rattle.script_model.specs.MarginText.{parts_of}
use Rattle.script_model.specs.Scripts.{handlers_in}
use Rattle.media_queries.specs.LengthText.{length_text}
use Rattle.script_text.specs.NumberText.{signed_text, number_text}
use Rattle.script_text.specs.DeclarationText.{size_text}
use Rattle.script_text.specs.NumberedLines.{NumberedLine, items_lines, item_lines, command_lines, block_lines}
use Rattle.script_text.specs.ScriptText.{line_text, lines_text, script_text}
use Rattle.script_text.specs.WellFormed.{IsMargin, is_margin_word, IsCommand, IsBlock, IsItem, AreItems, command_depth, block_depth, item_depth, items_depth, AreNew, Rise, AreShort, IsWellFormed}
use Rattle.script_text.proofs.Decimals.{decimal_short}
use Rattle.script_generator.proofs.Consecutive.{Words, consecutive, begun, consecutive_text, consecutive_rise, consecutive_short, AreBrief, brief_both, brief_text}
use Rattle.script_generator.proofs.Plain.{plain_words, plain_lines, plain_handlers, plain_depth, ArePlain, plain_both, plain_allowed}
use Rattle.script_generator.proofs.Items.{shown, handler, handler_words, head_plain, card_name, image_name, title_name, card_plain, cards_plain, tail_plain, generated_plain, generated_items, generated_script}
use Rattle.script_generator.proofs.Texts.{each_margin, all_words}

-- names ---------------------------------------------------------------------------------------------------------------------

-- a card's number has at most four digits
digits_few : (card : ℕ) → card < 2000 → length (decimal card) ≤ 4
digits_few card few = decimal_short card 3 (omega arith) (omega arith)

digit_names : (bytes : List ℕ) → list_all is_digit bytes ≡ true → list_all is_name_byte bytes ≡ true
digit_names [] all = refl
digit_names (b ∷ bs) all = let first : is_digit b ≡ true = (and_parts (is_digit b) (list_all is_digit bs) all).0 in
    ap (λ test. test && list_all is_name_byte bs) (name_digit b first) ∙ digit_names bs (and_parts (is_digit b) (list_all is_digit bs) all).1
  where
    name_digit : (b : ℕ) → is_digit b ≡ true → is_name_byte b ≡ true
    name_digit b h = grind (arith, nat_tests)

numbered_name : (card : ℕ) → card < 2000 → (list_all is_name_byte (decimal card) && nat_le (length (decimal card)) 31) ≡ true
numbered_name card few =
    ap (λ test. test && nat_le (length (decimal card)) 31) (digit_names (decimal card) (decimal_digits card (omega arith)))
    ∙ le-leb (length (decimal card)) 31 (let short = digits_few card few in omega arith)

card_named : (card : ℕ) → card < 2000 → is_name (card_name card) ≡ true
card_named card few = numbered_name card few

image_named : (card : ℕ) → card < 2000 → is_name (image_name card) ≡ true
image_named card few = numbered_name card few

title_named : (card : ℕ) → card < 2000 → is_name (title_name card) ≡ true
title_named card few = numbered_name card few

-- operands ------------------------------------------------------------------------------------------------------------------

margin_read : (number : ℕ) → IsMargin First (decimal (root_margin number) ++ codes "px")
unfolding parts_of is_margin_word decimal
margin_read number = each_margin (λ margin. IsMargin First (decimal margin ++ codes "px")) refl refl refl refl refl number

head_allowed : (margin : ℕ) → IsMargin First (decimal margin ++ codes "px") → ArePlain (head_plain margin)
unfolding ArePlain
head_allowed margin reads = (
  record { known = refl; operands = (refl, (refl, tt)) },
  (
    record { known = refl; operands = (refl, (refl, tt)) },
    (
      record { known = refl; operands = (refl, (refl, (tt, tt))) },
      (
        record { known = refl; operands = (refl, (refl, (tt, tt))) },
        (record { known = refl; operands = (refl, (refl, (refl, (tt, (tt, (tt, ((reads, tt), (tt, ((omega arith, tt), tt))))))))) }, tt),
      ),
    ),
  ),
)

card_allowed : (card : ℕ) → card < 2000 → ArePlain (card_plain card)
unfolding ArePlain
card_allowed card few =
    let block = card_named card few in
    let image = image_named card few in
    let title = title_named card few in (
      record { known = refl; operands = (block, (refl, tt)) },
      (
        record { known = refl; operands = (block, (omega arith, tt)) },
        (
          record { known = refl; operands = (refl, (block, tt)) },
          (
            record { known = refl; operands = (image, (refl, (omega arith, (omega arith, tt)))) },
            (
              record { known = refl; operands = (block, (image, tt)) },
              (
                record { known = refl; operands = (title, (refl, tt)) },
                (
                  record { known = refl; operands = (title, (omega arith, tt)) },
                  (record { known = refl; operands = (block, (title, tt)) }, (record { known = refl; operands = (refl, (image, tt)) }, tt)),
                ),
              ),
            ),
          ),
        ),
      ),
    )

cards_allowed : (card count : ℕ) → card + count ≤ 2000 → ArePlain (cards_plain card count)
unfolding cards_plain ArePlain
cards_allowed card zero few = tt
cards_allowed card (suc count) few =
    plain_both (card_plain card) (cards_plain (card + 1) count) (card_allowed card (omega arith)) (cards_allowed (card + 1) count (omega arith))

tail_allowed : ArePlain tail_plain
unfolding ArePlain
tail_allowed = (
  omega arith,
  (
    record { known = refl; operands = (refl, (omega arith, (omega arith, tt))) },
    (
      omega arith,
      (
        record { known = refl; operands = (refl, (omega arith, (omega arith, tt))) },
        (
          omega arith,
          (
            record { known = refl; operands = (refl, (omega arith, (omega arith, tt))) },
            (omega arith, (record { known = refl; operands = (refl, (omega arith, (omega arith, tt))) }, (omega arith, tt))),
          ),
        ),
      ),
    ),
  ),
)

few_cards : (number : ℕ) → 0 + card_count number ≤ 2000
few_cards number = omega arith

plain_is_allowed : (number : ℕ) → ArePlain (generated_plain number)
unfolding generated_plain
plain_is_allowed number =
    let head = head_plain (root_margin number) in
    let cards = cards_plain 0 (card_count number) in
    plain_both (head ++ cards) tail_plain
    (plain_both head cards (head_allowed (root_margin number) (margin_read number)) (cards_allowed 0 (card_count number) (few_cards number)))
    tail_allowed

handler_allowed : IsItem First handler
unfolding IsItem IsCommand IsBlock
handler_allowed = (
  refl,
  (
    (
      (
        tt,
        (
          record { known = refl; operands = (tt, (omega arith, (omega arith, tt))) },
          (record { known = refl; operands = (refl, (tt, tt)) }, tt),
        ),
      ),
      tt,
    ),
    tt,
  ),
)

-- lines ---------------------------------------------------------------------------------------------------------------------

-- at least as long as the words' line
abbrev words_size : Words → ℕ
words_size [] = 0
words_size (word ∷ words) = suc (length word) + words_size words

line_length : (words : Words) → length (line_text words) ≤ words_size words
unfolding line_text
line_length [] = omega arith
line_length (word ∷ []) = omega arith
line_length (word ∷ next ∷ others) =
    let rest : length (line_text (next ∷ others)) ≤ words_size (next ∷ others) = line_length (next ∷ others) in
    let text : length (line_text (word ∷ next ∷ others)) ≡ length (word ++ (32 ∷ line_text (next ∷ others))) = refl in
    let both = length-append word (32 ∷ line_text (next ∷ others)) in
    let sizes : words_size (word ∷ next ∷ others) ≡ suc (length word) + words_size (next ∷ others) = refl in
    omega arith

brief : (words : Words) → words_size words ≤ 100 → length (line_text words) ≤ 100
brief words few = let all = line_length words in omega arith

handler_brief : AreBrief handler_words
unfolding AreBrief
handler_brief = (
  brief _ (omega arith),
  (
    brief _ (omega arith),
    (
      brief _ (omega arith),
      (
        brief _ (omega arith),
        (brief _ (omega arith), (brief _ (omega arith), (brief _ (omega arith), (brief _ (omega arith), tt)))),
      ),
    ),
  ),
)

head_brief : (number : ℕ) → AreBrief (map plain_words (head_plain (root_margin number)))
unfolding AreBrief line_text parts_of number_text decimal
head_brief number =
    each_margin (λ margin. AreBrief (map plain_words (head_plain margin)))
    (omega arith, (omega arith, (omega arith, (omega arith, (omega arith, tt)))))
    (omega arith, (omega arith, (omega arith, (omega arith, (omega arith, tt)))))
    (omega arith, (omega arith, (omega arith, (omega arith, (omega arith, tt)))))
    (omega arith, (omega arith, (omega arith, (omega arith, (omega arith, tt)))))
    (omega arith, (omega arith, (omega arith, (omega arith, (omega arith, tt)))))
    number

tall : length (size_text (Pixels 6400)) ≡ 5
unfolding size_text
tall = refl

low : length (size_text (Pixels 1280)) ≡ 4
unfolding size_text
low = refl

none : length (length_text 0) ≡ 3
unfolding length_text
none = refl

card_brief : (card : ℕ) → card < 2000 → AreBrief (map plain_words (card_plain card))
unfolding AreBrief
card_brief card few = let short = digits_few card few in (
  brief _ (omega arith),
  (
    brief _ (omega (arith, tall)),
    (
      brief _ (omega arith),
      (
        brief _ (omega (arith, none)),
        (brief _ (omega arith), (brief _ (omega arith), (brief _ (omega (arith, low)), (brief _ (omega arith), (brief _ (omega arith), tt))))),
      ),
    ),
  ),
)

cards_brief : (card count : ℕ) → card + count ≤ 2000 → AreBrief (map plain_words (cards_plain card count))
unfolding cards_plain AreBrief
cards_brief card zero few = tt
cards_brief card (suc count) few =
    subst AreBrief
    (sym (map-append plain_words (card_plain card) (cards_plain (card + 1) count)))
    (brief_both
    (map plain_words (card_plain card))
    (map plain_words (cards_plain (card + 1) count))
    (card_brief card (omega arith))
    (cards_brief (card + 1) count (omega arith)))

tail_brief : AreBrief (map plain_words tail_plain)
unfolding AreBrief line_text signed_text decimal
tail_brief =
    (omega arith, (omega arith, (omega arith, (omega arith, (omega arith, (omega arith, (omega arith, (omega arith, (omega arith, tt)))))))))

words_brief : (number : ℕ) → AreBrief (all_words number)
unfolding all_words generated_plain
words_brief number =
    let head = head_plain (root_margin number) in
    let cards = cards_plain 0 (card_count number) in
    brief_both handler_words (map plain_words ((head ++ cards) ++ tail_plain)) handler_brief
    (subst AreBrief
    (sym (map-append plain_words (head ++ cards) tail_plain ∙ ap (λ front. front ++ map plain_words tail_plain) (map-append plain_words head cards)))
    (brief_both (map plain_words head ++ map plain_words cards) (map plain_words tail_plain)
    (brief_both (map plain_words head) (map plain_words cards) (head_brief number) (cards_brief 0 (card_count number) (few_cards number)))
    tail_brief))

cards_many : (card count : ℕ) → length (cards_plain card count) ≡ 9 * count
unfolding cards_plain
cards_many card zero = refl
cards_many card (suc count) =
    let rest = cards_many (card + 1) count in
    let both = length-append (card_plain card) (cards_plain (card + 1) count) in
    omega arith

words_many : (number : ℕ) → length (all_words number) ≤ 18022
unfolding all_words generated_plain
words_many number =
    let head = head_plain (root_margin number) in
    let cards = cards_plain 0 (card_count number) in
    let a = length-append handler_words (map plain_words ((head ++ cards) ++ tail_plain)) in
    let b : length (map plain_words ((head ++ cards) ++ tail_plain)) ≡ length ((head ++ cards) ++ tail_plain) = length-map ((head ++ cards) ++ tail_plain) plain_words in
    let c = length-append (head ++ cards) tail_plain in
    let d = length-append head cards in
    let e = cards_many 0 (card_count number) in
    let f = few_cards number in
    omega arith

pub lines_follow : (number : ℕ) → items_lines (generated_items number) ≡ consecutive 1 (all_words number)
unfolding generated_items all_words consecutive items_lines item_lines command_lines block_lines
lines_follow number = ap (λ (rest : List NumberedLine). item_lines handler ++ rest) (plain_lines 9 (generated_plain number))

pub text_is : (number : ℕ) → script_text (generated_script number) ≡ codes "script 1" ++ flat_map begun (all_words number)
unfolding script_text
text_is number =
    ap (λ text. codes "script 1" ++ text) (ap (lines_text 1) (lines_follow number) ∙ consecutive_text 1 (all_words number))

pub text_short : (number : ℕ) → length (script_text (generated_script number)) ≤ 2000000
text_short number =
    let is = ap length (text_is number) in
    let both = length-append (codes "script 1") (flat_map begun (all_words number)) in
    let lines = brief_text (all_words number) (words_brief number) in
    let many = words_many number in
    omega arith

handlers_are : (number : ℕ) → handlers_in (generated_items number) ≡ record { name = codes "show"; block = shown } ∷ []
unfolding generated_items handlers_in
handlers_are number = ap (λ rest. record { name = codes "show"; block = shown } ∷ rest) (plain_handlers 9 (generated_plain number))

depth_small : (number : ℕ) → items_depth (generated_items number) ≤ 16
unfolding generated_items items_depth item_depth command_depth block_depth
depth_small number = let rest = plain_depth 9 (generated_plain number) in omega arith

new_name : AreNew [] (record { name = codes "show"; block = shown } ∷ [])
unfolding AreNew
new_name = (refl, tt)

all_allowed : (number : ℕ) → AreItems First (generated_items number)
unfolding generated_items AreItems
all_allowed number = (handler_allowed, plain_allowed 9 (generated_plain number) (plain_is_allowed number))

pub well_formed : (number : ℕ) → IsWellFormed (generated_script number)
well_formed number = record {
  operands = all_allowed number;
  nested = depth_small number;
  few_handlers = let is = ap length (handlers_are number) in omega arith;
  names_differ = subst (AreNew []) (sym (handlers_are number)) new_name;
  numbers_rise = subst (Rise 1) (sym (lines_follow number)) (consecutive_rise 1 (all_words number));
  short_lines = subst AreShort (sym (lines_follow number)) (consecutive_short 1 (all_words number) (words_brief number));
  short_text = let short = text_short number in omega arith;
}
