-- Entries of a list after changes at its places.
use Rattle.std.proofs.Common.{◌≡◌, ◌≢◌, ◌<◌, ℕ, zero, suc, List, [], ◌∷◌, ◌++◌, length, Some, ◌⊎◌, inl, inr, refl, ap, sym, ◌∙◌, arith}
use Rattle.std.specs.Prelude.{slice_get, option_map}
use Rattle.page_model.specs.Lookups.{entry_or, change_at, change_each}
use Rattle.page_documents.proofs.Lists.{Among}
use Rattle.element_tree.proofs.Nodes.{length-changed}

module _ {A : Type 0} (default : A) where
  -- an entry that is told from what stands for none is there
  pub known : {B : Type 0} (part : A → B) (value : B) → (part default ≡ value → ⊥) → (n : ℕ) (xs : List A) → part (entry_or default xs n) ≡ value →
      n < length xs
  known part value other n [] is = absurd (other is)
  known part value other zero (x ∷ xs) is = omega arith
  known part value other (suc n) (x ∷ xs) is = let less : n < length xs = known part value other n xs is in omega arith

  module _ (f : A → A) where
    pub changed : (place : ℕ) (xs : List A) → place < length xs → entry_or default (change_at f place xs) place ≡ f (entry_or default xs place)
    changed place [] inside = absurd (omega arith)
    changed zero (x ∷ xs) inside = refl
    changed (suc place) (x ∷ xs) inside = changed place xs (omega arith)

    pub unchanged : (place m : ℕ) (xs : List A) → m ≢ place → entry_or default (change_at f place xs) m ≡ entry_or default xs m
    unchanged place m [] other = refl
    unchanged zero zero (x ∷ xs) other = absurd (other refl)
    unchanged zero (suc m) (x ∷ xs) other = refl
    unchanged (suc place) zero (x ∷ xs) other = refl
    unchanged (suc place) (suc m) (x ∷ xs) other = unchanged place m xs (λ same. other (ap suc same))

    pub either : (place m : ℕ) (xs : List A) →
        (entry_or default (change_at f place xs) m ≡ entry_or default xs m) ⊎ (entry_or default (change_at f place xs) m ≡ f (entry_or default xs m))
    either place m [] = inl refl
    either zero zero (x ∷ xs) = inr refl
    either zero (suc m) (x ∷ xs) = inl refl
    either (suc place) zero (x ∷ xs) = inl refl
    either (suc place) (suc m) (x ∷ xs) = either place m xs

    pub unchanged_each : (places : List ℕ) (m : ℕ) (xs : List A) → (Among m places → ⊥) →
        entry_or default (change_each f places xs) m ≡ entry_or default xs m
    unchanged_each [] m xs out = refl
    unchanged_each (place ∷ places) m xs out =
        unchanged_each places m (change_at f place xs) (λ it. out (inr it)) ∙ unchanged place m xs (λ same. out (inl (sym same)))

    -- a part that the change leaves
    module _ {B : Type 0} (part : A → B) (same : (x : A) → part (f x) ≡ part x) where
      pub kept : (place m : ℕ) (xs : List A) → part (entry_or default (change_at f place xs) m) ≡ part (entry_or default xs m)
      kept place m xs = elim (either place m xs) [ inl is ↦ ap part is | inr is ↦ ap part is ∙ same (entry_or default xs m) ]

      pub kept_each : (places : List ℕ) (m : ℕ) (xs : List A) → part (entry_or default (change_each f places xs) m) ≡ part (entry_or default xs m)
      kept_each [] m xs = refl
      kept_each (place ∷ places) m xs = kept_each places m (change_at f place xs) ∙ kept place m xs

    -- a part that it sets
    module _ {B : Type 0} (part : A → B) (value : B) (sets : (x : A) → part (f x) ≡ value) where
      stays : (places : List ℕ) (m : ℕ) (xs : List A) → part (entry_or default xs m) ≡ value → part (entry_or default (change_each f places xs) m) ≡ value
      stays [] m xs is = is
      stays (place ∷ places) m xs is =
          stays places m (change_at f place xs) (elim (either place m xs) [ inl it ↦ ap part it ∙ is | inr it ↦ ap part it ∙ sets (entry_or default xs m) ])

      pub set_each : (places : List ℕ) (m : ℕ) (xs : List A) → Among m places → m < length xs →
          part (entry_or default (change_each f places xs) m) ≡ value
      set_each [] m xs among inside = absurd among
      set_each (place ∷ places) m xs (inl here) inside =
          stays places m (change_at f place xs)
          (ap (λ n. part (entry_or default (change_at f place xs) n)) (sym here) ∙ ap part (changed place xs (rw here inside)) ∙ sets (entry_or default xs place))
      set_each (place ∷ places) m xs (inr there) inside = set_each places m (change_at f place xs) there (rw (length-changed f place xs) inside)

-- what is looked up at a place, after a change that leaves it
module _ {A B : Type 0} (f : A → A) (part : A → B) (same : (x : A) → part (f x) ≡ part x) where
  pub found_kept : (place m : ℕ) (xs : List A) → option_map part (slice_get (change_at f place xs) m) ≡ option_map part (slice_get xs m)
  found_kept place m [] = refl
  found_kept zero zero (x ∷ xs) = ap Some (same x)
  found_kept zero (suc m) (x ∷ xs) = refl
  found_kept (suc place) zero (x ∷ xs) = refl
  found_kept (suc place) (suc m) (x ∷ xs) = found_kept place m xs

-- what is looked up where something is
pub found_there : {A B : Type 0} (default : A) (part : A → B) (m : ℕ) (xs : List A) → m < length xs → option_map part (slice_get xs m)
    ≡ Some (part (entry_or default xs m))
found_there default part m [] inside = absurd (omega arith)
found_there default part zero (x ∷ xs) inside = refl
found_there default part (suc m) (x ∷ xs) inside = found_there default part m xs (omega arith)

-- with one more entry
module _ {A : Type 0} (default y : A) where
  pub append_before : (m : ℕ) (xs : List A) → m < length xs → entry_or default (xs ++ y ∷ []) m ≡ entry_or default xs m
  append_before m [] inside = absurd (omega arith)
  append_before zero (x ∷ xs) inside = refl
  append_before (suc m) (x ∷ xs) inside = append_before m xs (omega arith)

  pub append_cases : (m : ℕ) (xs : List A) →
      (entry_or default (xs ++ y ∷ []) m ≡ entry_or default xs m) ⊎ ((m ≡ length xs) × (entry_or default (xs ++ y ∷ []) m ≡ y))
  append_cases zero [] = inr (refl, refl)
  append_cases (suc m) [] = inl refl
  append_cases zero (x ∷ xs) = inl refl
  append_cases (suc m) (x ∷ xs) = elim (append_cases m xs) [ inl same ↦ inl same | inr new ↦ inr (ap suc (new.0), new.1) ]

  pub append_new : (xs : List A) → entry_or default (xs ++ y ∷ []) (length xs) ≡ y
  append_new [] = refl
  append_new (x ∷ xs) = append_new xs

  -- what isn't told from an entry that there isn't
  pub append_part : {B : Type 0} (part : A → B) → part y ≡ part default → (m : ℕ) (xs : List A) →
      part (entry_or default (xs ++ y ∷ []) m) ≡ part (entry_or default xs m)
  append_part part same zero [] = same
  append_part part same (suc m) [] = refl
  append_part part same zero (x ∷ xs) = refl
  append_part part same (suc m) (x ∷ xs) = append_part part same m xs

  pub append_length : (xs : List A) → length (xs ++ y ∷ []) ≡ suc (length xs)
  append_length [] = refl
  append_length (x ∷ xs) = ap suc (append_length xs)
