-- The margins of a text, part by part.
use Rattle.std.proofs.Common.{◌≡◌, ℕ, ◌<◌, Bool, true, false, cond, eqb, List, [], ◌∷◌, length, Option, Some, None, refl, sym, ap, ◌∙◌, arith}
use Rattle.std.proofs.lemmas.Bool.{eqb-true}
use Rattle.std.specs.Prelude.{pos, option_and_then}
use Rattle.layout_model.specs.Styles.{all_four}
use Rattle.thresholds.specs.Parts.{read_all, after}
use Rattle.script_model.specs.Margins.{MarginPart, MarginPixels, Margins}
use Rattle.script_model.specs.MarginText.{split_at_spaces, before_first, parts_of, parts_read, completed, margins_of, part_of}

-- a text that isn't empty gives the margins of its parts
pub margins_is : (text : List ℕ) → 0 < length text → margins_of text ≡ option_and_then completed (read_all text)
unfolding margins_of parts_of
margins_is [] h = absurd (omega arith)
margins_is (b ∷ bs) h = refl

-- no part
pub no_text : (text : List ℕ) (empty : Bool) (margins : Margins) → empty ≡ eqb (length text) 0 → empty ≡ true → margins ≡ all_four (MarginPixels (pos 0)) → margins_of text ≡ Some margins
unfolding margins_of parts_of parts_read completed
no_text [] empty margins e t same = ap (λ m. Some m) (sym same)
no_text (b ∷ bs) empty margins e t same =
    let n : length (b ∷ bs) ≡ 0 = eqb-true (length (b ∷ bs)) 0 (sym e ∙ t) in absurd (omega (arith, n))

-- a fifth part

begins : (byte : ℕ) (texts : List (List ℕ)) → 0 < length (before_first byte texts)
unfolding before_first
begins byte [] = omega arith
begins byte (text ∷ texts) = omega arith

some_text : (text : List ℕ) → 0 < length (split_at_spaces text)
unfolding split_at_spaces
some_text [] = omega arith
some_text (b ∷ bs) =
    elim (eqb b 32) as (λ v. 0 < length (cond v ([] ∷ split_at_spaces bs) (before_first b (split_at_spaces bs))))
    [ true ↦ omega arith | false ↦ begins b (split_at_spaces bs) ]

some_part : (first : Option MarginPart) (others : Option (List MarginPart)) → option_and_then (λ part. after part others) first ≡ Some [] → ⊥
some_part None others e = cc
some_part (Some part) None e = cc
some_part (Some part) (Some parts) e = cc

some_parts : (texts : List (List ℕ)) → 0 < length texts → parts_read texts ≡ Some [] → ⊥
unfolding parts_read
some_parts [] h e = omega arith
some_parts (text ∷ texts) h e = some_part (part_of text) (parts_read texts) e

pub too_many : (a b c d : MarginPart) (others : Option (List MarginPart)) → (others ≡ Some [] → ⊥) → option_and_then completed (after a (after b (after c (after d others)))) ≡ None
unfolding completed
too_many a b c d None h = refl
too_many a b c d (Some []) h = absurd (h refl)
too_many a b c d (Some (e ∷ parts)) h = refl

pub never_empty : (text : List ℕ) → read_all text ≡ Some [] → ⊥
never_empty text e = some_parts (split_at_spaces text) (some_text text) e

-- the first part of a text

pub unread : (t w : List ℕ) (ts : List (List ℕ)) → split_at_spaces t ≡ w ∷ ts → None ≡ part_of w → read_all t ≡ None
unfolding parts_read
unread t w ts e f =
    ap parts_read e ∙ ap (option_and_then (λ part. after part (parts_read ts))) (sym f)

pub part_read : (t w : List ℕ) (ts : List (List ℕ)) (p : MarginPart) → split_at_spaces t ≡ w ∷ ts → Some p ≡ part_of w → read_all t ≡ after p (parts_read ts)
unfolding parts_read
part_read t w ts p e f =
    ap parts_read e ∙ ap (option_and_then (λ part. after part (parts_read ts))) (sym f)
