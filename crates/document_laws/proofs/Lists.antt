-- Lists that are made entry by entry are the same where each entry gives the same.
use Rattle.std.proofs.Common.{◌≡◌, ◌+◌, ℕ, Bool, true, false, cond, List, [], ◌∷◌, ◌++◌, inl, inr, refl, ap, ◌∙◌}
use Rattle.std.specs.Prelude.{map, fold, filter, flat_map, sum_by}
use Rattle.page_documents.proofs.Lists.{Among}

pub flat_same : (f g : ℕ → List ℕ) (xs : List ℕ) → ((x : ℕ) → Among x xs → f x ≡ g x) → flat_map f xs ≡ flat_map g xs
flat_same f g [] each = refl
flat_same f g (x ∷ xs) each =
    ap (λ ys. ys ++ flat_map f xs) (each x (inl refl)) ∙ ap (λ ys. g x ++ ys) (flat_same f g xs (λ y among. each y (inr among)))

pub map_same : (f g : ℕ → ℕ) (xs : List ℕ) → ((x : ℕ) → Among x xs → f x ≡ g x) → map f xs ≡ map g xs
map_same f g [] each = refl
map_same f g (x ∷ xs) each = ap (λ y. y ∷ map f xs) (each x (inl refl)) ∙ ap (λ ys. g x ∷ ys) (map_same f g xs (λ y among. each y (inr among)))

sum_from : (f g : ℕ → ℕ) (so_far : ℕ) (xs : List ℕ) → ((x : ℕ) → Among x xs → f x ≡ g x) →
    fold (λ sum x. sum + f x) so_far xs ≡ fold (λ sum x. sum + g x) so_far xs
sum_from f g so_far [] each = refl
sum_from f g so_far (x ∷ xs) each =
    ap (λ y. fold (λ sum z. sum + f z) (so_far + y) xs) (each x (inl refl)) ∙ sum_from f g (so_far + g x) xs (λ y among. each y (inr among))

pub sum_same : (f g : ℕ → ℕ) (xs : List ℕ) → ((x : ℕ) → Among x xs → f x ≡ g x) → sum_by f xs ≡ sum_by g xs
sum_same f g xs each = sum_from f g 0 xs each

-- of those that pass a test
module _ (test : ℕ → Bool) where
  passed_step : (f g : ℕ → List ℕ) (x : ℕ) (rest : List ℕ) (passes : Bool) → (passes ≡ true → f x ≡ g x) → flat_map f rest ≡ flat_map g rest →
      flat_map f (cond passes (x ∷ rest) rest) ≡ flat_map g (cond passes (x ∷ rest) rest)
  passed_step f g x rest true first others = ap (λ ys. ys ++ flat_map f rest) (first refl) ∙ ap (λ ys. g x ++ ys) others
  passed_step f g x rest false first others = others

  pub passed_same : (f g : ℕ → List ℕ) (xs : List ℕ) → ((x : ℕ) → Among x xs → test x ≡ true → f x ≡ g x) →
      flat_map f (filter test xs) ≡ flat_map g (filter test xs)
  passed_same f g [] each = refl
  passed_same f g (x ∷ xs) each =
      passed_step f g x (filter test xs) (test x) (λ passes. each x (inl refl) passes) (passed_same f g xs (λ y among. each y (inr among)))

  none_step : (x : ℕ) (rest : List ℕ) (passes : Bool) → (passes ≡ true → ⊥) → rest ≡ [] → cond passes (x ∷ rest) rest ≡ []
  none_step x rest true none others = absurd (none refl)
  none_step x rest false none others = others

  pub none_passed : (xs : List ℕ) → ((x : ℕ) → Among x xs → test x ≡ true → ⊥) → filter test xs ≡ []
  none_passed [] none = refl
  none_passed (x ∷ xs) none = none_step x (filter test xs) (test x) (none x (inl refl)) (none_passed xs (λ y among. none y (inr among)))
