-- What was found of documents, document by document.
use Rattle.std.proofs.Common.{ℕ, zero, suc, List, [], ◌∷◌, Option, Some, None, replicate, slice_set}
use Rattle.std.specs.Prelude.{IfSome}
use Rattle.page_model.specs.Shown.{Shown}
use Rattle.page_geometry.specs.declared.documents.FoundDocument.{FoundDocument}
use Rattle.page_geometry.specs.Found.{found_at, IsFound, AreFound}

-- what is so of each entry is so once one is put in of which it is so
all_put : (P : ℕ → Option FoundDocument → Type 0) (found : List (Option FoundDocument)) (document : ℕ) (it : Option FoundDocument)
    → P document it → ((other : ℕ) → P other (found_at found other)) → (other : ℕ) → P other (found_at (slice_set found document it) other)
all_put P [] document it new old other = old other
all_put P (x ∷ found) zero it new old zero = new
all_put P (x ∷ found) zero it new old (suc other) = old (suc other)
all_put P (x ∷ found) (suc document) it new old zero = old zero
all_put P (x ∷ found) (suc document) it new old (suc other) = all_put (λ d. P (suc d)) found document it new (λ d. old (suc d)) other

all_none : (P : ℕ → Option FoundDocument → Type 0) (count : ℕ) → ((other : ℕ) → P other None) → (other : ℕ) → P other (found_at (replicate count None) other)
all_none P zero none other = none other
all_none P (suc count) none zero = none zero
all_none P (suc count) none (suc other) = all_none (λ d. P (suc d)) count (λ d. none (suc d)) other

module _ (shown : Shown) where
  pub none_found : (count : ℕ) → AreFound shown (replicate count None)
  none_found count = all_none (λ document it. IfSome it (IsFound shown document)) count (λ document. tt)

  pub one_found : (found : List (Option FoundDocument)) (document : ℕ) (it : FoundDocument) → IsFound shown document it → AreFound shown found → AreFound shown (slice_set found document (Some it))
  one_found found document it new old = all_put (λ d o. IfSome o (IsFound shown d)) found document (Some it) new old
