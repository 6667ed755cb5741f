-- What is told of all spots strictly between, as a walk comes to it spot by spot outwards.
use Rattle.std.proofs.Common.{◌≡◌, ◌∙◌, List, [], ◌∷◌, Some, ap}
use Rattle.element_tree.specs.declared.container.Container.{Container}
use Rattle.clip_chain.specs.Scenes.{Scene}
use Rattle.clip_chain.specs.Chains.{Leads}
use Rattle.clip_chain.proofs.Leading.{one_chain}

-- what is told of the spots between `of` and the root is what is left to be told of those between a spot further out and the root
abbrev pub Comes : {A : Type 0} → Scene → Container → Container → (List Container → A) → Container → (List Container → A) → Type 0
Comes scene root of total spot left =
    (between rest : List Container) → Leads scene of between root → Leads scene spot rest root → total between ≡ left rest

module _ {A : Type 0} (scene : Scene) (root of : Container) (total : List Container → A) where
  pub comes_first : Comes scene root of total of total
  comes_first = λ between rest h k. ap total (one_chain scene of root between rest h k)

  pub comes_next : (spot next : Container) (left later : List Container → A) → Comes scene root of total spot left → scene.container spot ≡ Some next → (¬ next ≡ root) → ((rest : List Container) → left (next ∷ rest) ≡ later rest) → Comes scene root of total next later
  comes_next spot next left later so_far e apart step = λ between rest h k. so_far between (next ∷ rest) h (e, apart, k) ∙ step rest

  pub comes_last : (spot : Container) (left : List Container → A) → Comes scene root of total spot left → scene.container spot ≡ Some root → (between : List Container) → Leads scene of between root → total between ≡ left []
  comes_last spot left so_far e between h = so_far between [] h e
