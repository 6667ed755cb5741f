-- The lists of children in the words of the tree and in those of the page.
use Rattle.std.proofs.Common.{◌≡◌, ℕ, List, [], ◌∷◌, Option, Some, None, false, cond, nat_eq, refl, ap, arith}
use Rattle.std.proofs.lemmas.Bool.Decides.{nat_tests}
use Rattle.page_model.specs.Lookups.{without}
use Rattle.page_model.specs.Documents.{placed_before, first_of_list, next_after}
use Rattle.element_tree.specs.Forest.{has, IsOnce, first_of, next_of}
use Rattle.element_tree.specs.Edits.{put_before, without as taken_out}

without_absent : (n : ℕ) (xs : List ℕ) → has xs n ≡ false → without n xs ≡ xs
without_absent n [] h = refl
without_absent n (x ∷ xs) h = grind (arith, nat_tests, without_absent n xs)

-- a number that is listed once goes out once
pub without_once : (n : ℕ) (xs : List ℕ) → IsOnce xs → without n xs ≡ taken_out n xs
without_once n [] once = refl
without_once n (x ∷ xs) once = grind (arith, nat_tests, without_once n xs once.1, without_absent n xs, once.0)

pub placed_put : (n : ℕ) (mark : Option ℕ) (xs : List ℕ) → placed_before n mark xs ≡ put_before mark n xs
placed_put n None [] = refl
placed_put n None (x ∷ xs) = ap (λ ys. x ∷ ys) (placed_put n None xs)
placed_put n (Some mark) [] = refl
placed_put n (Some mark) (x ∷ xs) = ap (λ ys. cond (nat_eq x mark) (n ∷ x ∷ xs) (x ∷ ys)) (placed_put n (Some mark) xs)

pub first_same : (xs : List ℕ) → first_of_list xs ≡ first_of xs
first_same [] = refl
first_same (x ∷ xs) = refl

pub next_same : (n : ℕ) (xs : List ℕ) → next_after n xs ≡ next_of n xs
next_same n [] = refl
next_same n (x ∷ xs) = grind (arith, nat_tests, next_same n xs, first_same xs)
