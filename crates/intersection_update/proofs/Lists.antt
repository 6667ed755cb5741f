-- Lists in which each entry that passes a test is changed.
use Rattle.std.proofs.Common.{◌≡◌, ℕ, zero, suc, ◌<◌, ◌+◌, ◌∙◌, ap, refl, sym, length, append_assoc, append-nil, arith}
use Rattle.std.specs.Prelude.{Bool, true, false, cond, ◌||◌, List, [], ◌∷◌, ◌++◌, take, drop}
use Rattle.std.specs.List.{list_any}
use Rattle.std.proofs.lemmas.List.{take-append-drop}
use Rattle.page_model.specs.Lookups.{entry_or, change_at}
use Rattle.page_model.specs.Intersections.{places_from}

-- a change that leaves all as it is
pub unchanged : {A : Type 0} (default : A) (change : A → A) (place : ℕ) (xs : List A) → change (entry_or default xs place) ≡ entry_or default xs place → change_at change place xs ≡ xs
unchanged default change place [] same = refl
unchanged default change zero (x ∷ xs) same = ap (λ it. it ∷ xs) same
unchanged default change (suc place) (x ∷ xs) same = ap (λ others. x ∷ others) (unchanged default change place xs same)

-- another change that does the same there
pub changed_same : {A : Type 0} (default : A) (f g : A → A) (place : ℕ) (xs : List A) → f (entry_or default xs place) ≡ g (entry_or default xs place) → change_at f place xs ≡ change_at g place xs
changed_same default f g place [] same = refl
changed_same default f g zero (x ∷ xs) same = ap (λ it. it ∷ xs) same
changed_same default f g (suc place) (x ∷ xs) same = ap (λ others. x ∷ others) (changed_same default f g place xs same)

-- each entry changed, or told of, by its number
abbrev pub map_from : {A : Type 0} → ℕ → (ℕ → A → A) → List A → List A
map_from first change [] = []
map_from first change (x ∷ xs) = change first x ∷ map_from (suc first) change xs

abbrev pub any_from : {A : Type 0} → ℕ → (ℕ → A → Bool) → List A → Bool
any_from first test [] = false
any_from first test (x ∷ xs) = test first x || any_from (suc first) test xs

-- one more of the first ones
pub any_more : {A : Type 0} (default : A) (test : ℕ → A → Bool) (number first place : ℕ) (xs : List A) → number ≡ first + place → place < length xs
    → any_from first test (take (suc place) xs) ≡ (any_from first test (take place xs) || test number (entry_or default xs place))
any_more default test number first place [] is there = absurd (elim there [ ])
any_more default test number first zero (x ∷ xs) is there = or_false (test first x) ∙ ap (λ n. test n x) (let same : first ≡ number = omega (arith, is) in same)
  where
    or_false : (b : Bool) → (b || false) ≡ b
    or_false true = refl
    or_false false = refl
any_more default test number first (suc place) (x ∷ xs) is there =
    ap (λ b. test first x || b) (any_more default test number (suc first) place xs (omega (arith, is)) (omega arith))
    ∙ or_apart (test first x) (any_from (suc first) test (take place xs)) (test number (entry_or default xs place))
  where
    or_apart : (a b c : Bool) → (a || (b || c)) ≡ ((a || b) || c)
    or_apart true b c = refl
    or_apart false b c = refl

pub places_more : {A : Type 0} (default : A) (test : A → Bool) (first place : ℕ) (xs : List A) → place < length xs →
    places_from first test (take (suc place) xs) ≡ places_from first test (take place xs) ++ cond (test (entry_or default xs place)) ((first + place) ∷ []) []
places_more default test first place [] there = absurd (elim there [ ])
places_more default test first zero (x ∷ xs) there = let same : first ≡ first + 0 = omega arith in ap (λ (n : ℕ). cond (test x) (n ∷ []) []) same
places_more default test first (suc place) (x ∷ xs) there =
    let same : suc first + place ≡ first + suc place = omega arith in
    let rest : places_from (suc first) test (take (suc place) xs) ≡ places_from (suc first) test (take place xs) ++ cond (test (entry_or default xs place)) ((first + suc place) ∷ []) [] =
    places_more default test (suc first) place xs (omega arith)
    ∙ ap (λ (n : ℕ). places_from (suc first) test (take place xs) ++ cond (test (entry_or default xs place)) (n ∷ []) []) same
    in
    elim (test x) as (λ is. cond is (first ∷ places_from (suc first) test (take (suc place) xs)) (places_from (suc first) test (take (suc place) xs))
    ≡ cond is (first ∷ places_from (suc first) test (take place xs)) (places_from (suc first) test (take place xs)) ++ cond (test (entry_or default xs place)) ((first + suc place) ∷ []) []) [
      | true ↦ ap (λ (others : List ℕ). first ∷ others) rest
      | false ↦ rest
    ]

-- the entries of these numbers changed, one after the other
abbrev pub changed_in_turn : {A : Type 0} → (ℕ → A → A) → List ℕ → List A → List A
changed_in_turn change [] xs = xs
changed_in_turn change (n ∷ ns) xs = changed_in_turn change ns (change_at (change n) n xs)

module _ {A : Type 0} (default : A) (test : A → Bool) (change : ℕ → A → A) where
  -- one that passes is changed, by its number
  abbrev pub either : ℕ → A → A
  either n x = cond (test x) (change n x) x

  -- the first ones seen to, where the numbers begin so
  abbrev firsts_from : ℕ → ℕ → List A → List A
  firsts_from first place xs = map_from first either (take place xs) ++ drop place xs

  abbrev pub firsts : ℕ → List A → List A
  firsts place xs = firsts_from 0 place xs

  pub first_at : (first place : ℕ) (xs : List A) → entry_or default (firsts_from first place xs) place ≡ entry_or default xs place
  first_at first zero [] = refl
  first_at first (suc place) [] = refl
  first_at first zero (x ∷ xs) = refl
  first_at first (suc place) (x ∷ xs) = first_at (suc first) place xs

  pub first_more : (number first place : ℕ) (xs : List A) → number ≡ first + place → place < length xs → change_at (either number) place (firsts_from first place xs) ≡ firsts_from first (suc place) xs
  first_more number first place [] is there = absurd (elim there [ ])
  first_more number first zero (x ∷ xs) is there = ap (λ n. either n x ∷ xs) (let same : number ≡ first = omega (arith, is) in same)
  first_more number first (suc place) (x ∷ xs) is there = ap (λ others. either first x ∷ others) (first_more number (suc first) place xs (omega (arith, is)) (omega arith))

  pub first_all : (first : ℕ) (xs : List A) → firsts_from first (length xs) xs ≡ map_from first either xs
  first_all first [] = refl
  first_all first (x ∷ xs) = ap (λ others. either first x ∷ others) (first_all (suc first) xs)

  pub first_none : (xs : List A) → firsts 0 xs ≡ xs
  first_none [] = refl
  first_none (x ∷ xs) = refl

  seam : (f : A → A) (before : List A) (x : A) (xs : List A) → change_at f (length before) (before ++ x ∷ xs) ≡ (before ++ f x ∷ []) ++ xs
  seam f [] x xs = refl
  seam f (y ∷ before) x xs = ap (λ others. y ∷ others) (seam f before x xs)

  longer : (before : List A) (x : A) → length (before ++ x ∷ []) ≡ suc (length before)
  longer [] x = refl
  longer (y ∷ before) x = ap suc (longer before x)

  -- those at the places of those that pass are changed
  each_among : (before xs rest : List A) → changed_in_turn change (places_from (length before) test xs) (before ++ (xs ++ rest)) ≡ before ++ (map_from (length before) either xs ++ rest)
  each_among before [] rest = refl
  each_among before (x ∷ xs) rest =
      let next : (y : A) → changed_in_turn change (places_from (suc (length before)) test xs) ((before ++ y ∷ []) ++ (xs ++ rest)) ≡ before ++ (y ∷ (map_from (suc (length before)) either xs ++ rest)) =
      λ y.
      ap (λ n. changed_in_turn change (places_from n test xs) ((before ++ y ∷ []) ++ (xs ++ rest))) (sym (longer before y))
      ∙ each_among (before ++ y ∷ []) xs rest
      ∙ append_assoc before (y ∷ []) (map_from (length (before ++ y ∷ [])) either xs ++ rest)
      ∙ ap (λ n. before ++ (y ∷ (map_from n either xs ++ rest))) (longer before y)
      in
      elim (test x) as (λ is. changed_in_turn change (cond is (length before ∷ places_from (suc (length before)) test xs) (places_from (suc (length before)) test xs)) (before ++ (x ∷ (xs ++ rest))) ≡ before ++ (cond is (change (length before) x) x ∷ (map_from (suc (length before)) either xs ++ rest))) [
        | true ↦ ap (changed_in_turn change (places_from (suc (length before)) test xs)) (seam (change (length before)) before x (xs ++ rest)) ∙ next (change (length before) x)
        | false ↦ ap (changed_in_turn change (places_from (suc (length before)) test xs)) (sym (append_assoc before (x ∷ []) (xs ++ rest))) ∙ next x
      ]

  pub each_first : (place : ℕ) (xs : List A) → changed_in_turn change (places_from 0 test (take place xs)) xs ≡ firsts place xs
  each_first place xs = ap (changed_in_turn change (places_from 0 test (take place xs))) (sym (take-append-drop place xs)) ∙ each_among [] (take place xs) (drop place xs)

  pub each_place : (xs : List A) → changed_in_turn change (places_from 0 test xs) xs ≡ map_from 0 either xs
  each_place xs = ap (changed_in_turn change (places_from 0 test xs)) (sym (append-nil xs)) ∙ each_among [] xs [] ∙ append-nil (map_from 0 either xs)

  at_seam : (before : List A) (x : A) (xs : List A) (n : ℕ) → n ≡ length before → entry_or default (before ++ x ∷ xs) n ≡ x
  at_seam before x xs n is = ap (entry_or default (before ++ x ∷ xs)) is ∙ there before
    where
      there : (before : List A) → entry_or default (before ++ x ∷ xs) (length before) ≡ x
      there [] = refl
      there (y ∷ before) = there before

  -- whether there is news of one of them
  module _ (news : A → A → Bool) (quiet : (x : A) → news x x ≡ false) where
    pub any_place : (before after xs : List A) → length before ≡ length after →
        list_any (λ n. news (entry_or default (before ++ xs) n) (entry_or default (after ++ map_from (length before) either xs) n)) (places_from (length before) test xs) ≡ any_from (length before) (λ n x. news x (either n x)) xs
    any_place before after [] same = refl
    any_place before after (x ∷ xs) same =
        let next : (y : A) → list_any (λ n. news (entry_or default (before ++ x ∷ xs) n) (entry_or default (after ++ y ∷ map_from (suc (length before)) either xs) n)) (places_from (suc (length before)) test xs) ≡ any_from (suc (length before)) (λ n x. news x (either n x)) xs =
        λ y.
        ap (λ (these : List A). list_any (λ n. news (entry_or default these n) (entry_or default (after ++ y ∷ map_from (suc (length before)) either xs) n)) (places_from (suc (length before)) test xs)) (sym (append_assoc before (x ∷ []) xs))
        ∙ ap (λ (these : List A). list_any (λ n. news (entry_or default ((before ++ x ∷ []) ++ xs) n) (entry_or default these n)) (places_from (suc (length before)) test xs)) (sym (append_assoc after (y ∷ []) (map_from (suc (length before)) either xs)))
        ∙ ap (λ k. list_any (λ n. news (entry_or default ((before ++ x ∷ []) ++ xs) n) (entry_or default ((after ++ y ∷ []) ++ map_from k either xs) n)) (places_from k test xs)) (sym (longer before x))
        ∙ any_place (before ++ x ∷ []) (after ++ y ∷ []) xs (longer before x ∙ ap suc same ∙ sym (longer after y))
        ∙ ap (λ k. any_from k (λ n x. news x (either n x)) xs) (longer before x)
        in
        elim (test x) as (λ is.
        list_any (λ n. news (entry_or default (before ++ x ∷ xs) n) (entry_or default (after ++ cond is (change (length before) x) x ∷ map_from (suc (length before)) either xs) n)) (cond is (length before ∷ places_from (suc (length before)) test xs) (places_from (suc (length before)) test xs))
        ≡ (news x (cond is (change (length before) x) x) || any_from (suc (length before)) (λ n x. news x (either n x)) xs)) [
          | true ↦
              ap (λ b. b || list_any (λ n. news (entry_or default (before ++ x ∷ xs) n) (entry_or default (after ++ change (length before) x ∷ map_from (suc (length before)) either xs) n)) (places_from (suc (length before)) test xs))
              (ap (λ y. news y (entry_or default (after ++ change (length before) x ∷ map_from (suc (length before)) either xs) (length before))) (at_seam before x xs (length before) refl)
              ∙ ap (news x) (at_seam after (change (length before) x) (map_from (suc (length before)) either xs) (length before) same))
              ∙ ap (λ b. news x (change (length before) x) || b) (next (change (length before) x))
          | false ↦ next x ∙ ap (λ b. b || any_from (suc (length before)) (λ n x. news x (either n x)) xs) (sym (quiet x))
        ]
