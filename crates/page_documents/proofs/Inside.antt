-- What a walk finds, as the definitions say it.
use Rattle.std.proofs.Common.{◌≡◌, ◌≤◌, ℕ, Bool, true, false, cond, List, [], ◌∷◌, ◌++◌, append_assoc, length, replicate, slice_set, refl, ap, sym, ◌∙◌}
use Rattle.page_model.specs.World.{DocumentState, Active, Document, Tree}
use Rattle.page_model.specs.Lookups.{change_each}
use Rattle.page_model.specs.Documents.{led_to, frames_in, inclusive_descendants, documents_inside, active_documents, is_active_state, is_fresh_state, stands_in_active, shown}
use Rattle.page_documents.specs.Walks.{frames_down, taken, marked_in}
use Rattle.page_documents.proofs.Changing.{walk_marked}

inside_is : (test : DocumentState → Bool) (tree : Tree) (n : ℕ) → led_to 65536 test tree (frames_down 65536 tree n) ≡ documents_inside test tree n
unfolding documents_inside frames_in inclusive_descendants frames_down
inside_is test tree n = refl

pub inside_changed : (f : Document → Document) (again : (it : Document) → f (f it) ≡ f it) (test : DocumentState
    → Bool) (tree : Tree) (n : ℕ) (none found : List Bool) (held : List Document)
    → length held ≤ 64 → none ≡ replicate 64 false → found
    ≡ taken (λ place marks. slice_set marks place true) (led_to 65536 test tree (frames_down 65536 tree n)) none
    → marked_in f found held ≡ change_each f (documents_inside test tree n) held
inside_changed f again test tree n none found held few unmarked walked =
    ap (λ marks. marked_in f marks held) (walked
    ∙ ap (taken (λ place marks. slice_set marks place true) (led_to 65536 test tree (frames_down 65536 tree n))) unmarked)
    ∙ walk_marked f again (led_to 65536 test tree (frames_down 65536 tree n)) held few
    ∙ ap (λ documents. change_each f documents held) (inside_is test tree n)

all_listed : (xs ys : List ℕ) → taken (λ document found. found ++ document ∷ []) xs ys ≡ ys ++ xs
all_listed [] ys = append_none ys
  where
    append_none : (ys : List ℕ) → ys ≡ ys ++ []
    append_none [] = refl
    append_none (y ∷ ys) = ap (λ zs. y ∷ zs) (append_none ys)
all_listed (x ∷ xs) ys = all_listed xs (ys ++ x ∷ []) ∙ append_assoc ys (x ∷ []) xs

pub active_listed : (tree : Tree) (none : List ℕ) → none ≡ []
    → taken (λ document found. found ++ document ∷ []) (led_to 65536 is_active_state tree (0 ∷ [])) none ≡ active_documents tree
unfolding active_documents
active_listed tree none is = all_listed (led_to 65536 is_active_state tree (0 ∷ [])) none ∙ ap (λ ys. ys ++ led_to 65536 is_active_state tree (0 ∷ [])) is

pub shown_there : (tree : Tree) (n : ℕ) → stands_in_active tree n ≡ true
    → change_each (λ (it : Document). record it { state = Active }) (documents_inside is_fresh_state tree n) tree.documents ≡ (shown tree n).documents
unfolding shown
shown_there tree n stands = sym (ap (λ b. change_each (λ (it : Document). record it { state = Active }) (cond b (documents_inside is_fresh_state tree n) [])
    tree.documents) stands)

pub not_shown : (tree : Tree) (n : ℕ) → stands_in_active tree n ≡ false → tree.documents ≡ (shown tree n).documents
unfolding shown
not_shown tree n stands = sym (ap (λ b. change_each (λ (it : Document). record it { state = Active }) (cond b (documents_inside is_fresh_state tree n) [])
    tree.documents) stands)

-- showing changes documents alone
pub shown_by_documents : (tree before : Tree) (documents : List Document) (n : ℕ) → documents ≡ (shown tree n).documents → tree ≡ before
    → (let it : Tree = record tree { documents = documents } in it) ≡ shown before n
unfolding shown
shown_by_documents tree before documents n is same =
    ap (λ documents. let it : Tree = record tree { documents = documents } in it) is ∙ ap (λ tree. shown tree n) same
