-- A chain that is walked spot by spot outwards, and what is known of the spots that were passed.
use Rattle.std.proofs.Common.{◌≡◌, ◌∙◌, List, [], ◌∷◌, ◌++◌, Some, ap, sym, subst, append_assoc, append-nil}
use Rattle.std.specs.List.{AllByRecursion}
use Rattle.element_tree.specs.declared.container.Container.{Container}
use Rattle.clip_chain.specs.Scenes.{Scene}
use Rattle.clip_chain.specs.Chains.{Leads, IsAbove}
use Rattle.clip_chain.proofs.Leading.{one_chain}

module _ {A : Type 0} where
  pub all_weaker : (P Q : A → Type 0) → ((x : A) → P x → Q x) → (xs : List A) → AllByRecursion P xs → AllByRecursion Q xs
  all_weaker P Q each [] all = tt
  all_weaker P Q each (x ∷ xs) all = (each x (all.0), all_weaker P Q each xs (all.1))

  pub all_append : (P : A → Type 0) (xs ys : List A) → AllByRecursion P xs → AllByRecursion P ys → AllByRecursion P (xs ++ ys)
  all_append P [] ys left right = right
  all_append P (x ∷ xs) ys left right = (left.0, all_append P xs ys (left.1) right)

  pub all_later : (P : A → Type 0) (xs ys : List A) → AllByRecursion P (xs ++ ys) → AllByRecursion P ys
  all_later P [] ys all = all
  all_later P (x ∷ xs) ys all = all_later P xs ys (all.1)

-- the spots that were passed before the rest of a chain
pub record Passed (P : Container → Type 0) (between rest : List Container) : Type 0 where
  pub spots : List Container
  pub whole : between ≡ spots ++ rest
  pub all : AllByRecursion P spots

module _ (scene : Scene) (root of : Container) where
  abbrev pub Passes : (Container → Type 0) → Container → Type 0
  Passes P spot = (between rest : List Container) → Leads scene of between root → Leads scene spot rest root → Passed P between rest

  pub passes_first : (P : Container → Type 0) → Passes P of
  passes_first P = λ between rest h k. record { spots = []; whole = one_chain scene of root between rest h k; all = tt }

  pub passes_next : (P Q : Container → Type 0) (spot next : Container) → Passes P spot → ((s : Container) → P s → Q s) → scene.container spot ≡ Some next → (¬ next ≡ root) → Q next → Passes Q next
  passes_next P Q spot next so_far each e apart here = λ between rest h k.
      let passed : Passed P between (next ∷ rest) = so_far between (next ∷ rest) h (e, apart, k) in
      record {
        spots = passed.spots ++ next ∷ [];
        whole = passed.whole ∙ sym (append_assoc passed.spots (next ∷ []) rest);
        all = all_append Q passed.spots (next ∷ []) (all_weaker P Q each passed.spots passed.all) (here, tt);
      }

  -- a fact of the whole chain at the next spot
  pub at_next : (P Q : Container → Type 0) (spot next : Container) → Passes P spot → scene.container spot ≡ Some next → (¬ next ≡ root) → IsAbove scene root next
      → ((between : List Container) → Leads scene of between root → AllByRecursion Q (of ∷ (between ++ root ∷ []))) → (between : List Container) → Leads scene of between root → Q next
  at_next P Q spot next so_far e apart above all between h =
      let passed : Passed P between (next ∷ above.0) = so_far between (next ∷ above.0) h (e, apart, above.1) in
      let whole : between ++ root ∷ [] ≡ passed.spots ++ (next ∷ (above.0 ++ root ∷ [])) =
      ap (λ spots. spots ++ root ∷ []) passed.whole ∙ append_assoc passed.spots (next ∷ above.0) (root ∷ []) in
      (all_later Q passed.spots (next ∷ (above.0 ++ root ∷ [])) (subst (AllByRecursion Q) whole (all between h).1)).0

  pub passes_last : (P : Container → Type 0) (spot : Container) → Passes P spot → scene.container spot ≡ Some root → P of → P root → (between : List Container) → Leads scene of between root → AllByRecursion P (of ∷ (between ++ root ∷ []))
  passes_last P spot so_far e first last between h =
      let passed : Passed P between [] = so_far between [] h e in
      (first, all_append P between (root ∷ []) (subst (AllByRecursion P) (sym (passed.whole ∙ append-nil passed.spots)) passed.all) (last, tt))
