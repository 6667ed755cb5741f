-- The elements below one that have a box, one level at a time.
use Rattle.std.proofs.Common.{◌≡◌, ◌∙◌, ℕ, suc, Bool, true, false, cond, List, [], ◌∷◌, ◌++◌, filter, flat_map, map, All, Some, None, refl, ap, sym, subst}
use Rattle.std.specs.List.{AllByRecursion}
use Rattle.std.proofs.lemmas.List.{append-nil, append_assoc, map-append}
use Rattle.std.proofs.lemmas.List.Elements.{All-from_recursion, recursion_from_All, filter_passes}
use Rattle.element_tree.specs.declared.node.NodeId.{NodeId}
use Rattle.element_tree.specs.Links.{number}
use Rattle.page_model.specs.Lookups.{element_at, document_at}
use Rattle.page_model.specs.Documents.{inclusive_descendants, order_down}
use Rattle.page_model.specs.Shown.{Shown, has_box}
use Rattle.box_inspector.specs.Boxes.{boxed_elements, elements_below}
use Rattle.page_documents.proofs.Leading.{filter_append}

filter_flat : (p : ℕ → Bool) (f : ℕ → List ℕ) (xs : List ℕ) → filter p (flat_map f xs) ≡ flat_map (λ x. filter p (f x)) xs
filter_flat p f [] = refl
filter_flat p f (x ∷ xs) = filter_append p (f x) (flat_map f xs) ∙ ap (λ zs. filter p (f x) ++ zs) (filter_flat p f xs)

-- one element, if it passes

pub pushed : (p : ℕ → Bool) (old new : List NodeId) (node : NodeId) → p (node.0) ≡ true → new ≡ old ++ node ∷ []
    → map number new ≡ map number old ++ filter p (node.0 ∷ [])
pushed p old new node passes more =
    ap (λ (xs : List NodeId). map number xs) more ∙ map-append number old (node ∷ []) ∙ ap (λ b. map number old ++ cond b (node.0 ∷ []) []) (sym passes)

pub passed_over : (p : ℕ → Bool) (now : List ℕ) (n : ℕ) → p n ≡ false → now ≡ now ++ filter p (n ∷ [])
passed_over p now n fails = sym (append-nil now) ∙ ap (λ b. now ++ cond b (n ∷ []) []) (sym fails)

each_passes : (p : ℕ → Bool) (items : List NodeId) → AllByRecursion (λ n. p n ≡ true) (map number items) → AllByRecursion (λ (node : NodeId). p (node.0) ≡ true) items
each_passes p [] all = tt
each_passes p (node ∷ items) all = (all.0, each_passes p items all.1)

all_pass : (p : ℕ → Bool) (items : List NodeId) (xs : List ℕ) → map number items ≡ filter p xs → All (λ (node : NodeId). p (node.0) ≡ true) items
all_pass p items xs is =
    All-from_recursion (λ (node : NodeId). p (node.0) ≡ true) items
    (each_passes p items (recursion_from_All (λ n. p n ≡ true) (map number items) (subst (λ ys. All (λ n. p n ≡ true) ys) (sym is) (filter_passes p xs))))

module _ (shown : Shown) where
  abbrev pub below : ℕ → ℕ → List ℕ
  below deep n = filter (has_box shown) (order_down deep (shown.tree) n)

  pub listed_none : (now : List ℕ) (high n : ℕ) → high ≡ 0 → now ≡ now ++ below high n
  unfolding order_down
  listed_none now high n none = sym (append-nil now) ∙ ap (λ h. now ++ below h n) (sym none)

  whole : (deep n : ℕ) → below (suc deep) n ≡ filter (has_box shown) (n ∷ []) ++ flat_map (below deep) (element_at (shown.tree) n).children
  unfolding order_down
  whole deep n =
      filter_append (has_box shown) (n ∷ []) (flat_map (order_down deep (shown.tree)) (element_at (shown.tree) n).children)
      ∙ ap (λ xs. filter (has_box shown) (n ∷ []) ++ xs) (filter_flat (has_box shown) (order_down deep (shown.tree)) ((element_at (shown.tree) n).children))

  pub listed_all : (high deep n : ℕ) (old now kids : List ℕ) → high ≡ suc deep → (element_at (shown.tree) n).children ≡ kids
      → now ≡ (old ++ filter (has_box shown) (n ∷ [])) ++ flat_map (below deep) kids → now ≡ old ++ below high n
  listed_all high deep n old now kids more kids_are so_far =
      so_far
      ∙ append_assoc old (filter (has_box shown) (n ∷ [])) (flat_map (below deep) kids)
      ∙ ap (λ xs. old ++ (filter (has_box shown) (n ∷ []) ++ flat_map (below deep) xs)) (sym kids_are)
      ∙ ap (λ xs. old ++ xs) (sym (whole deep n))
      ∙ ap (λ h. old ++ below h n) (sym more)

  pub of_root : (document root : ℕ) (now : List ℕ) → Some root ≡ (document_at (shown.tree) document).root → now ≡ below 65536 root → now ≡ boxed_elements shown document
  unfolding boxed_elements inclusive_descendants
  of_root document root now is listed = listed ∙ ap (λ o. filter (has_box shown) (elements_below (shown.tree) o)) is

  pub rootless : (document : ℕ) → None ≡ (document_at (shown.tree) document).root → [] ≡ boxed_elements shown document
  unfolding boxed_elements
  rootless document is = ap (λ o. filter (has_box shown) (elements_below (shown.tree) o)) is

  pub all_boxed : (document : ℕ) (items : List NodeId) → map number items ≡ boxed_elements shown document
      → All (λ (node : NodeId). has_box shown (node.0) ≡ true) items
  unfolding boxed_elements
  all_boxed document items is = all_pass (has_box shown) items (elements_below (shown.tree) (document_at (shown.tree) document).root) is
