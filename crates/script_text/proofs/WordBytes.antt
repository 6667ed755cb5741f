-- Words: bytes of words that begin no comment.
use Rattle.std.proofs.Common.{◌≡◌, ℕ, ◌^◌, ◌<◌, ◌≤◌, Bool, true, false, not, ◌&&◌, ◌==◌, List, [], ◌∷◌, ◌++◌, refl, ap, ◌∙◌, arith, subst}
use Rattle.std.specs.List.{list_all}
use Rattle.std.proofs.lemmas.Bool.{and_from, and_parts, ne_eqb}
use Rattle.std.proofs.lemmas.Bool.Decides.{nat_tests}
use Rattle.std.proofs.lemmas.List.Folds.{list_all-append}
use Rattle.word_model.specs.Names.{is_digit, is_letter, is_name_byte, is_name}
use Rattle.word_model.specs.Numbers.{begins_with, decimal}
use Rattle.media_queries.proofs.DigitTexts.{first_digit, decimal_is}
use Rattle.script_model.specs.Lines.{is_word_byte, is_line_byte}
use Rattle.word_model.proofs.RoundTrip.{decimal_digits}
use Rattle.script_text.proofs.Decimals.{AreDigits}
use Rattle.script_text.proofs.FormParts.{pointed}

abbrev pub AreWordBytes : List ℕ → Type 0
AreWordBytes text = list_all is_word_byte text ≡ true

-- the first byte is this one, and with the others makes a word
pub record IsWord (text : List ℕ) : Type 0 where
  pub first : ℕ
  pub others : List ℕ
  pub text_is : text ≡ first ∷ others
  pub bytes : AreWordBytes (first ∷ others)
  pub no_comment : (first == 35) ≡ false

abbrev pub is_word : List ℕ → Bool
is_word [] = false
is_word (b ∷ bs) = list_all is_word_byte (b ∷ bs) && not (b == 35)

pub not_true : (b : Bool) → not b ≡ true → b ≡ false
not_true true h = absurd cc
not_true false h = refl

pub as_word : (text : List ℕ) → is_word text ≡ true → IsWord text
as_word [] h = absurd cc
as_word (b ∷ bs) h = let both = and_parts _ _ h in record { first = b; others = bs; text_is = refl; bytes = both.0; no_comment = not_true (b == 35) both.1 }

-- a byte of a line that begins no comment
abbrev pub is_quiet : ℕ → Bool
is_quiet b = is_line_byte b && not (b == 35)

abbrev pub AreQuiet : List ℕ → Type 0
AreQuiet text = list_all is_quiet text ≡ true

pub all_bytes : (p q : ℕ → Bool) → ((b : ℕ) → p b ≡ true → q b ≡ true) → (bs : List ℕ) → list_all p bs ≡ true → list_all q bs ≡ true
all_bytes p q h [] all = refl
all_bytes p q h (b ∷ bs) all = and_from _ _ (h b (and_parts _ _ all).0) (all_bytes p q h bs (and_parts _ _ all).1)

digit_quiet : (b : ℕ) → is_digit b ≡ true → is_quiet b ≡ true
digit_quiet b h = grind (arith, nat_tests)

digit_byte : (b : ℕ) → is_digit b ≡ true → is_word_byte b ≡ true
digit_byte b h = grind (arith, nat_tests)

name_byte : (b : ℕ) → is_name_byte b ≡ true → is_word_byte b ≡ true
name_byte b h = grind (arith, nat_tests)

letter_byte : (b : ℕ) → is_letter b ≡ true → is_word_byte b ≡ true
letter_byte b h = grind (arith, nat_tests)

-- a letter is none of `#`, `$`, `-` and `@`
pub record IsLetterFirst (b : ℕ) : Type 0 where
  pub no_sharp : (b == 35) ≡ false
  pub no_dollar : (b == 36) ≡ false
  pub no_minus : (b == 45) ≡ false
  pub no_at : (b == 64) ≡ false

pub letter_first : (b : ℕ) → is_letter b ≡ true → IsLetterFirst b
letter_first b h = record { no_sharp = grind (arith, nat_tests); no_dollar = grind (arith, nat_tests); no_minus = grind (arith, nat_tests); no_at = grind (arith, nat_tests) }

-- a name's first letter
pub name_first : (b : ℕ) (bs : List ℕ) → is_name (b ∷ bs) ≡ true → is_letter b ≡ true
name_first b bs h = (and_parts _ _ (and_parts _ _ h).0).0

pub name_word : (name : List ℕ) → is_name name ≡ true → IsWord name
name_word [] h = absurd cc
name_word (b ∷ bs) h =
    let letter : is_letter b ≡ true = name_first b bs h in
    record {
      first = b;
      others = bs;
      text_is = refl;
      bytes = and_from _ _ (letter_byte b letter) (all_bytes is_name_byte is_word_byte name_byte bs (and_parts _ _ (and_parts _ _ h).0).1);
      no_comment = (letter_first b letter).no_sharp;
    }

pointed_bytes : (fraction unit : List ℕ) → AreDigits fraction → AreWordBytes unit → AreWordBytes (pointed fraction unit)
pointed_bytes [] unit all bytes = bytes
pointed_bytes (d ∷ ds) unit all bytes =
    list_all-append is_word_byte (d ∷ ds) unit ∙ and_from _ _ (all_bytes is_digit is_word_byte digit_byte (d ∷ ds) all) bytes

pointed_quiet : (fraction unit : List ℕ) → AreDigits fraction → AreQuiet unit → AreQuiet (pointed fraction unit)
pointed_quiet [] unit all bytes = bytes
pointed_quiet (d ∷ ds) unit all bytes =
    list_all-append is_quiet (d ∷ ds) unit ∙ and_from _ _ (all_bytes is_digit is_quiet digit_quiet (d ∷ ds) all) bytes

digit_first : (b : ℕ) → 48 ≤ b → b ≤ 57 → ((b == 35) ≡ false) × ((b == 45) ≡ false)
digit_first b low high = (ne_eqb b 35 (λ e. omega arith), ne_eqb b 45 (λ e. omega arith))

-- a word that begins with a digit
pub record IsNumeral (text : List ℕ) : Type 0 where
  pub word : IsWord text
  pub low : word.first ≤ 57
  pub quiet : AreQuiet text
  pub no_minus : begins_with 45 text ≡ false

minus_first : (b : ℕ) (bs text : List ℕ) → text ≡ b ∷ bs → (b == 45) ≡ false → begins_with 45 text ≡ false
unfolding begins_with
minus_first b bs text e f = ap (begins_with 45) e ∙ f

pub numeral : (whole : ℕ) (fraction unit text : List ℕ) → text ≡ decimal whole ++ pointed fraction unit → whole < 10 ^ 39 → AreDigits fraction → AreWordBytes unit → AreQuiet unit → IsNumeral text
numeral whole fraction unit text is small all bytes quiet =
    let digits : AreWordBytes (decimal whole) = all_bytes is_digit is_word_byte digit_byte (decimal whole) (decimal_digits whole small) in
    let whole_bytes : AreWordBytes text =
    ap (list_all is_word_byte) is ∙ list_all-append is_word_byte (decimal whole) (pointed fraction unit) ∙ and_from _ _ digits (pointed_bytes fraction unit all bytes) in
    let first = first_digit 38 whole (pointed fraction unit) small in
    let text_is : text ≡ first.0 ∷ first.1 = is ∙ decimal_is whole (pointed fraction unit) ∙ first.2 in
    let tests = digit_first first.0 first.3 first.4 in
    record {
      word = record { first = first.0; others = first.1; text_is = text_is; bytes = subst AreWordBytes text_is whole_bytes; no_comment = tests.0 };
      low = first.4;
      quiet = ap (list_all is_quiet) is ∙ list_all-append is_quiet (decimal whole) (pointed fraction unit)
          ∙ and_from _ _ (all_bytes is_digit is_quiet digit_quiet (decimal whole) (decimal_digits whole small)) (pointed_quiet fraction unit all quiet);
      no_minus = minus_first first.0 first.1 text text_is tests.1;
    }

abbrev pub minus_word : (text : List ℕ) → IsWord text → IsWord (45 ∷ text)
minus_word text word = record { first = 45; others = text; text_is = refl; bytes = ap (list_all is_word_byte) word.text_is ∙ word.bytes; no_comment = refl }
