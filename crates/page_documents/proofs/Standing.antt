-- The document in whose tree an element stands.
use Rattle.std.proofs.Common.{◌≡◌, ℕ, Bool, true, false, cond, Option, Some, None, refl, ap, sym, subst, ◌∙◌}
use Rattle.std.proofs.lemmas.Bool.{false≢true}
use Rattle.page_model.specs.World.{Tree}
use Rattle.page_model.specs.Lookups.{element_at, document_at}
use Rattle.page_model.specs.Documents.{root_of, is_number, is_root_element, tree_document, is_active, is_active_there, stands_in_active}
use Rattle.page_documents.specs.Frames.{MakeTrees, HaveOwners}
use Rattle.page_documents.proofs.Lists.{number_is, its_number}
use Rattle.page_documents.proofs.Shape.{IsBelow, root_child, root_top, from_parents, to_below, itself_below, child_below}

-- in whose tree an element without a parent stands
abbrev pub at_top : Tree → ℕ → Option ℕ
at_top tree n = cond (is_root_element tree n) (Some (element_at tree n).document) None

some_of : (test : Bool) (x d : ℕ) → cond test (Some x) None ≡ Some d → (test ≡ true) × (x ≡ d)
some_of true x d is = (refl, cc)
some_of false x d is = cc

-- the document where an element stands is Active
pub record Standing (tree : Tree) (n : ℕ) : Type 0 where
  pub document : ℕ
  pub there : tree_document tree n ≡ Some document
  pub active : is_active tree document ≡ true

pub standing : (tree : Tree) (n : ℕ) → stands_in_active tree n ≡ true → Standing tree n
unfolding stands_in_active
standing tree n is = by_document (tree_document tree n) refl is
  where
    by_document : (found : Option ℕ) → tree_document tree n ≡ found → is_active_there tree found ≡ true → Standing tree n
    by_document None there active = absurd (false≢true active)
    by_document (Some document) there active = record { document = document; there = there; active = active }

pub stands : (tree : Tree) (n document : ℕ) → tree_document tree n ≡ Some document → is_active tree document ≡ true → stands_in_active tree n ≡ true
unfolding stands_in_active
stands tree n document there active = ap (is_active_there tree) there ∙ active

-- a document's root element, and what stands below it
pub record Rooted (tree : Tree) (document m : ℕ) : Type 0 where
  pub root : ℕ
  pub is : (document_at tree document).root ≡ Some root
  pub below : IsBelow tree root m

pub own_document : (tree : Tree) (n document : ℕ) → tree_document tree n ≡ Some document → (element_at tree n).document ≡ document
unfolding tree_document
own_document tree n document is = (some_of (is_root_element tree (root_of tree n)) ((element_at tree n).document) document is).1

module _ (tree : Tree) (trees : MakeTrees tree) where
  pub document_top : (n : ℕ) → (element_at tree n).parent ≡ None → tree_document tree n ≡ at_top tree n
  unfolding tree_document
  document_top n up = ap (λ r. cond (is_root_element tree r) (Some (element_at tree n).document) None) (root_top tree trees n up)

  module _ (owners : HaveOwners tree) where
    document_child : (n p : ℕ) → (element_at tree n).parent ≡ Some p → tree_document tree n ≡ tree_document tree p
    unfolding tree_document
    document_child n p up =
        ap (λ r. cond (is_root_element tree r) (Some (element_at tree n).document) None) (root_child tree trees n p up)
        ∙ ap (λ d. cond (is_root_element tree (root_of tree p)) (Some d) None) (owners.owned n p up)

    pub document_below : (n m : ℕ) → IsBelow tree n m → tree_document tree m ≡ tree_document tree n
    document_below n m is =
        to_below tree trees (λ k. tree_document tree k ≡ tree_document tree n) n m (λ c p up same. document_child c p up ∙ same) refl is

    pub root_stands : (document root : ℕ) → (document_at tree document).root ≡ Some root → tree_document tree root ≡ Some document
    root_stands document root is =
        let it = owners.roots document root is in
        document_top root (it.top)
        ∙ ap (λ d. cond (is_number (document_at tree d).root root) (Some d) None) (it.owner)
        ∙ ap (λ b. cond b (Some document) None) (its_number ((document_at tree document).root) root is)

    pub stands_below : (document root m : ℕ) → (document_at tree document).root ≡ Some root → IsBelow tree root m → tree_document tree m ≡ Some document
    stands_below document root m is below = document_below root m below ∙ root_stands document root is

    top_rooted : (n : ℕ) → (element_at tree n).parent ≡ None → (document : ℕ) → tree_document tree n ≡ Some document → Rooted tree document n
    top_rooted n up document there =
        let found = some_of (is_root_element tree n) ((element_at tree n).document) document (sym (document_top n up) ∙ there) in
        let own : (document_at tree (element_at tree n).document).root ≡ Some n
        = number_is ((document_at tree (element_at tree n).document).root) n (found.0) in
        record { root = n; is = subst (λ d. (document_at tree d).root ≡ Some n) (found.1) own; below = itself_below tree trees n }

    child_rooted : (n p : ℕ) → (element_at tree n).parent ≡ Some p → ((document : ℕ) → tree_document tree p ≡ Some document → Rooted tree document p) →
        (document : ℕ) → tree_document tree n ≡ Some document → Rooted tree document n
    child_rooted n p up above document there =
        let it = above document (sym (document_child n p up) ∙ there) in
        record { root = it.root; is = it.is; below = child_below tree trees (it.root) n p up (it.below) }

    -- where an element stands in a document's tree, it is below its root element
    pub rooted : (n document : ℕ) → tree_document tree n ≡ Some document → Rooted tree document n
    rooted n =
        from_parents tree trees (λ k. (document : ℕ) → tree_document tree k ≡ Some document → Rooted tree document k) top_rooted child_rooted n

-- elements that stand in a tree as before
module _ (before after : Tree) (trees : MakeTrees before) (owners : HaveOwners before) (trees' : MakeTrees after) (owners' : HaveOwners after) (Far : ℕ → Type 0)
    (far : (n p : ℕ) → Far n → (element_at before n).parent ≡ Some p → Far p)
    (parents : (n : ℕ) → Far n → (element_at after n).parent ≡ (element_at before n).parent)
    (tops : (n : ℕ) → Far n → at_top after n ≡ at_top before n) where
  pub document_same : (n : ℕ) → Far n → tree_document after n ≡ tree_document before n
  document_same n =
      from_parents before trees (λ k. Far k → tree_document after k ≡ tree_document before k)
      (λ k up away. document_top after trees' k (parents k away ∙ up) ∙ tops k away ∙ sym (document_top before trees k up))
      (λ k p up above away. document_child after trees' owners' k p (parents k away ∙ up) ∙ above (far k p away up)
      ∙ sym (document_child before trees owners k p up)) n
