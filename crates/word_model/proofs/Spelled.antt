-- A text is its parts, one after the other.
use Rattle.std.proofs.Common.{◌≡◌, ℕ, true, false, cond, ◌==◌, List, [], ◌∷◌, ◌++◌, length, take, drop, refl, ap, sym, ◌∙◌, append_assoc}
use Rattle.std.proofs.lemmas.Bool.{eqb-true}
use Rattle.std.proofs.lemmas.List.{take-append-drop}
use Rattle.std.proofs.lemmas.List.Folds.{length-prefix_len}
use Rattle.std.specs.List.{prefix_len}
use Rattle.word_model.specs.Names.{is_digit}
use Rattle.word_model.specs.Numbers.{begins_with, unsigned, leading_digits, behind_digits, point_digits, behind_point, fraction_digits, unit_of, spelled}
use Rattle.word_model.proofs.Digits.{point_digits_are, behind_point_is, unsigned_is}

-- digits and what stands behind them
pub digits_first : (text : List ℕ) → leading_digits text ++ behind_digits text ≡ text
unfolding behind_digits
digits_first text =
    ap (λ n. take (prefix_len is_digit text) text ++ drop n text) (length-prefix_len is_digit text) ∙ take-append-drop (prefix_len is_digit text) text

byte_first : (byte : ℕ) (text : List ℕ) → begins_with byte text ≡ true → byte ∷ drop 1 text ≡ text
unfolding begins_with
byte_first byte [] h = cc
byte_first byte (b ∷ bs) h = ap (λ c. c ∷ bs) (sym (eqb-true b byte h))

-- a point with its digits and what stands behind them, given that a point stands before digits
by_count : (text digits : List ℕ) → ((length digits == 0) ≡ false → 46 ∷ (digits ++ behind_digits (drop 1 text)) ≡ text)
    → cond (length digits == 0) [] (46 ∷ digits) ++ cond (length digits == 0) text (behind_digits (drop 1 text)) ≡ text
by_count text digits h =
    elim (length digits == 0) as (λ v. ((length digits == 0) ≡ v) → cond v [] (46 ∷ digits) ++ cond v text (behind_digits (drop 1 text)) ≡ text)
    [ true ↦ λ e. refl | false ↦ λ e. h e ] refl

after_point : (text : List ℕ) → begins_with 46 text ≡ true → 46 ∷ (point_digits text ++ behind_digits (drop 1 text)) ≡ text
after_point text h =
    ap (λ digits. 46 ∷ (digits ++ behind_digits (drop 1 text))) (point_digits_are text ∙ ap (λ b. cond b (leading_digits (drop 1 text)) []) h)
    ∙ ap (λ rest. 46 ∷ rest) (digits_first (drop 1 text)) ∙ byte_first 46 text h

no_point : (text : List ℕ) → begins_with 46 text ≡ false → (length (point_digits text) == 0) ≡ true
no_point text h = ap (λ digits. length digits == 0) (point_digits_are text ∙ ap (λ b. cond b (leading_digits (drop 1 text)) []) h)

with_digits : (text : List ℕ) → (length (point_digits text) == 0) ≡ false → 46 ∷ (point_digits text ++ behind_digits (drop 1 text)) ≡ text
with_digits text some =
    elim (begins_with 46 text) as (λ v. begins_with 46 text ≡ v → 46 ∷ (point_digits text ++ behind_digits (drop 1 text)) ≡ text)
    [ true ↦ λ e. after_point text e | false ↦ λ e. let none : (length (point_digits text) == 0) ≡ true = no_point text e in cc ] refl

point_first : (text : List ℕ) → cond (length (point_digits text) == 0) [] (46 ∷ point_digits text) ++ behind_point text ≡ text
point_first text =
    ap (λ t. cond (length (point_digits text) == 0) [] (46 ∷ point_digits text) ++ t) (behind_point_is text)
    ∙ by_count text (point_digits text) (with_digits text)

sign_first : (text : List ℕ) → cond (begins_with 45 text) (45 ∷ []) [] ++ unsigned text ≡ text
sign_first text =
    ap (λ t. cond (begins_with 45 text) (45 ∷ []) [] ++ t) (unsigned_is text)
    ∙ elim (begins_with 45 text) as (λ v. begins_with 45 text ≡ v → cond v (45 ∷ []) [] ++ cond v (drop 1 text) text ≡ text)
    [ true ↦ λ e. byte_first 45 text e | false ↦ λ e. refl ] refl

joined : (a b c d : List ℕ) → a ++ b ++ c ++ d ≡ a ++ (b ++ (c ++ d))
joined a b c d = simp append_assoc

pub spelled_again : (text : List ℕ)
    → spelled (begins_with 45 text) (leading_digits (unsigned text)) (fraction_digits (unsigned text)) (unit_of (unsigned text)) ≡ text
spelled_again text =
    let number : List ℕ = unsigned text in
    let sign : List ℕ = cond (begins_with 45 text) (45 ∷ []) [] in
    joined sign (leading_digits number) (cond (length (fraction_digits number) == 0) [] (46 ∷ fraction_digits number)) (unit_of number)
    ∙ ap (λ rest. sign ++ (leading_digits number ++ rest)) (point_first (behind_digits number))
    ∙ ap (λ rest. sign ++ rest) (digits_first number) ∙ sign_first text
