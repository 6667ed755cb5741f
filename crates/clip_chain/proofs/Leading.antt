-- Chains: there is at most one from a spot to a root, and how a step outwards changes it.
use Rattle.std.proofs.Common.{◌≡◌, ◌∙◌, List, [], ◌∷◌, Option, Some, None, ap, sym, refl}
use Rattle.element_tree.specs.declared.container.Container.{Container}
use Rattle.clip_chain.specs.Scenes.{Scene}
use Rattle.clip_chain.specs.Chains.{Leads, IsAbove}

pub same_spot : (o : Option Container) (a b : Container) → o ≡ Some a → o ≡ Some b → a ≡ b
same_spot o a b p q = let e : Some a ≡ Some b = sym p ∙ q in cc

pub some_none : (o : Option Container) (a : Container) → o ≡ Some a → o ≡ None → ⊥
some_none o a p q = let e : Some a ≡ None = sym p ∙ q in cc

-- the rest of a chain, at the container of its first spot
same_rest : (scene : Scene) (a b root : Container) (xs : List Container) → a ≡ b → Leads scene a xs root → Leads scene b xs root
same_rest scene a b root xs e h = rw (← e) h

pub one_chain : (scene : Scene) (from root : Container) (xs ys : List Container) → Leads scene from xs root → Leads scene from ys root → xs ≡ ys
one_chain scene from root [] [] h k = refl
one_chain scene from root [] (y ∷ ys) h k = absurd (k.1 (same_spot (scene.container from) y root k.0 h))
one_chain scene from root (x ∷ xs) [] h k = absurd (h.1 (same_spot (scene.container from) x root h.0 k))
one_chain scene from root (x ∷ xs) (y ∷ ys) h k =
    let e = same_spot (scene.container from) x y h.0 k.0 in
    let rest = one_chain scene y root xs ys (same_rest scene x y root xs e h.2) k.2 in
    ap (λ z. z ∷ xs) e ∙ ap (λ zs. y ∷ zs) rest

pub above_outwards : (scene : Scene) (root from next : Container) → scene.container from ≡ Some next → (¬ next ≡ root) → IsAbove scene root from → IsAbove scene root next
above_outwards scene root from next e apart ([], h) = absurd (apart (same_spot (scene.container from) next root e h))
above_outwards scene root from next e apart (x ∷ xs, h) = (xs, same_rest scene x next root xs (same_spot (scene.container from) x next h.0 e) h.2)

pub above_inwards : (scene : Scene) (root from next : Container) → scene.container from ≡ Some next → (¬ next ≡ root) → IsAbove scene root next → IsAbove scene root from
above_inwards scene root from next e apart (xs, h) = (next ∷ xs, (e, apart, h))

pub none_above : (scene : Scene) (root from : Container) → scene.container from ≡ None → IsAbove scene root from → ⊥
none_above scene root from e ([], h) = some_none (scene.container from) root h e
none_above scene root from e (x ∷ xs, h) = some_none (scene.container from) x h.0 e
