-- The loop that copies items, a step at a time: what the items stand for stays the same.
use Rattle.std.proofs.Common.{◌≡◌, ℕ, ◌+◌, ◌<◌, ◌≤◌, List, [], ◌∷◌, ◌++◌, length, map, drop, get_or, sym, ◌∙◌, ap, append_assoc}
use Rattle.std.proofs.lemmas.List.{append-nil, map-append, drop_more, drop_all}

pub copy_on : {A B : Type 0} → (seen : A → B) (done xs : List A) (one d : A) (i : ℕ) → i < length xs → seen one ≡ seen (get_or xs i d)
    → map seen done ++ map seen (drop i xs) ≡ map seen xs → map seen (done ++ one ∷ []) ++ map seen (drop (i + 1) xs) ≡ map seen xs
copy_on seen done xs one d i within same so =
    ap (λ ys. ys ++ map seen (drop (i + 1) xs)) (map-append seen done (one ∷ []))
    ∙ append_assoc (map seen done) (seen one ∷ []) (map seen (drop (i + 1) xs))
    ∙ ap (λ y. map seen done ++ y ∷ map seen (drop (i + 1) xs)) same
    ∙ ap (λ ys. map seen done ++ map seen ys) (sym (drop_more xs i d within)) ∙ so

pub copy_ends : {A B : Type 0} → (seen : A → B) (done xs : List A) (i : ℕ) → length xs ≤ i → map seen done ++ map seen (drop i xs) ≡ map seen xs
    → map seen done ≡ map seen xs
copy_ends seen done xs i all so = sym (append-nil (map seen done)) ∙ ap (λ ys. map seen done ++ map seen ys) (sym (drop_all i xs all)) ∙ so
