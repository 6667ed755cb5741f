-- A name by its first byte and the bytes behind it, as a slice pattern gives them.
use Rattle.std.proofs.Common.{◌≡◌, ℕ, ◌-◌, ◌≤◌, ◌&&◌, nat_le, List, [], ◌∷◌, length, take, drop, get_or, sym, ap, arith}
use Rattle.std.specs.List.{list_all}
use Rattle.std.proofs.lemmas.Grind.{common_steps}
use Rattle.word_model.specs.Names.{is_letter, is_name_byte, is_name}

rest_is : (b : ℕ) (bs : List ℕ) (n : ℕ) → n ≡ length bs → take n (drop 1 (b ∷ bs)) ≡ bs
rest_is b bs n e = grind (arith, common_steps)

name_by : (b : ℕ) (bs rest : List ℕ) → rest ≡ bs → is_name (b ∷ bs) ≡ (is_letter b && list_all is_name_byte rest && nat_le (length rest) 31)
name_by b bs rest e = ap (λ r. is_letter b && list_all is_name_byte r && nat_le (length r) 31) (sym e)

pub name_split : (word : List ℕ) → 1 ≤ length word
    → is_name word ≡ (is_letter (get_or word 0 0) && list_all is_name_byte (take (length word - 1) (drop 1 word)) && nat_le (length (take (length word - 1) (drop 1 word))) 31)
name_split [] h = absurd (omega arith)
name_split (b ∷ bs) h = name_by b bs _ (rest_is b bs (length (b ∷ bs) - 1) (omega arith))
