-- Which observers are a document's.
use Rattle.std.proofs.Common.{◌≡◌, ℕ, zero, suc, ◌≤◌, ◌∙◌, ap, refl, length, arith}
use Rattle.std.specs.Prelude.{Bool, true, false, cond, nat_lt, List, [], ◌∷◌, Option, Some, None}
use Rattle.page_model.specs.World.{Element, Tree}
use Rattle.page_model.specs.Lookups.{entry_or, no_element, element_at, document_at}
use Rattle.page_model.specs.Documents.{is_number, is_root_element, tree_document}
use Rattle.page_documents.specs.Frames.{AreFramed, IsRootOf}
use Rattle.page_documents.proofs.Lists.{number_is}
use Rattle.page_documents.proofs.Standing.{document_top}

past_end : {A : Type 0} (default : A) (xs : List A) (n : ℕ) → length xs ≤ n → entry_or default xs n ≡ default
past_end default [] n past = refl
past_end default (x ∷ xs) zero past = absurd (elim past [ ])
past_end default (x ∷ xs) (suc n) past = past_end default xs n (omega arith)

-- an element that isn't there is no root element
not_root : (tree : Tree) → AreFramed tree → (n : ℕ) → length tree.elements ≤ n → (is : Bool) → is_root_element tree n ≡ is → is ≡ false
not_root tree framed n past true root =
    let here : IsRootOf tree (element_at tree n).document n = framed.owners.roots (element_at tree n).document n (number_is ((document_at tree (element_at tree n).document).root) n root) in
    absurd (omega (arith, here.known, past))
not_root tree framed n past false root = refl

-- it stands in no document's tree
pub nowhere : (tree : Tree) → AreFramed tree → (n document : ℕ) → length tree.elements ≤ n → is_number (tree_document tree n) document ≡ false
nowhere tree framed n document past =
    ap (λ (found : Option ℕ). is_number found document)
    (document_top tree framed.trees n (ap (λ (it : Element). it.parent) (past_end no_element tree.elements n past))
    ∙ ap (λ is. cond is (Some (element_at tree n).document) None) (not_root tree framed n past (is_root_element tree n) refl))

pub not_less : (n count : ℕ) → nat_lt n count ≡ false → count ≤ n
not_less n count is = grind arith
