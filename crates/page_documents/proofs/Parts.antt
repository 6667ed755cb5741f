-- The definition of removal by parts: what it makes of elements, and what of documents, in whichever order.
use Rattle.std.proofs.Common.{◌≡◌, ℕ, zero, suc, cond, List, [], ◌∷◌, Option, Some, None, refl, ap, ◌∙◌}
use Rattle.page_model.specs.World.{Dead, Document, Tree, Container, InElement, InDocument}
use Rattle.page_model.specs.Lookups.{change_at, change_each}
use Rattle.page_model.specs.Documents.{container_of, unlinked, removed, with_state, stands_in_active, documents_inside, is_active_state}

crossed_at : {A : Type 0} (f g : A → A) → ((x : A) → f (g x) ≡ g (f x)) → (i j : ℕ) (xs : List A) → change_at f i (change_at g j xs)
    ≡ change_at g j (change_at f i xs)
crossed_at f g same i j [] = refl
crossed_at f g same zero zero (x ∷ xs) = ap (λ y. y ∷ xs) (same x)
crossed_at f g same zero (suc j) (x ∷ xs) = refl
crossed_at f g same (suc i) zero (x ∷ xs) = refl
crossed_at f g same (suc i) (suc j) (x ∷ xs) = ap (λ ys. x ∷ ys) (crossed_at f g same i j xs)

pub crossed_each : {A : Type 0} (f g : A → A) → ((x : A) → f (g x) ≡ g (f x)) → (places : List ℕ) (j : ℕ) (xs : List A)
    → change_each f places (change_at g j xs) ≡ change_at g j (change_each f places xs)
crossed_each f g same [] j xs = refl
crossed_each f g same (i ∷ places) j xs = ap (change_each f places) (crossed_at f g same i j xs) ∙ crossed_each f g same places j (change_at f i xs)

-- the documents once an element isn't a root element
abbrev pub unrooted : Option Container → List Document → List Document
unrooted None documents = documents
unrooted (Some (InElement parent)) documents = documents
unrooted (Some (InDocument document)) documents = change_at (λ (it : Document). record it { root = None }) document documents

-- the documents that end as an element is taken out of where it stands
abbrev pub ends : Tree → ℕ → List ℕ
ends tree n = cond (stands_in_active tree n) (documents_inside is_active_state tree n) []

by_parts : (tree : Tree) (n : ℕ) (dying : List ℕ) (container : Option Container)
    → with_state Dead dying (unlinked tree n container)
    ≡ (let it : Tree = record { elements = (unlinked tree n container).elements; documents = unrooted container (with_state Dead dying tree).documents } in it)
by_parts tree n dying None = refl
by_parts tree n dying (Some (InElement parent)) = refl
by_parts tree n dying (Some (InDocument document)) =
    ap (λ documents. let it : Tree = record { elements = tree.elements; documents = documents } in it)
    (crossed_each (λ (it : Document). record it { state = Dead }) (λ (it : Document). record it { root = None }) (λ it. refl) dying document tree.documents)

pub removed_by_parts : (tree : Tree) (n : ℕ)
    → removed tree n
    ≡ (let it : Tree = record {
      elements = (unlinked tree n (container_of tree n)).elements;
      documents = unrooted (container_of tree n)
          (with_state Dead (ends tree n) tree).documents;
    } in it)
unfolding removed
removed_by_parts tree n = by_parts tree n (ends tree n) (container_of tree n)
