use Rattle.std.proofs.Common.{◌≡◌, ℕ, zero, suc, ◌<◌, ◌≤◌, List, [], ◌∷◌, ◌++◌, length, Some, arith}
use Rattle.std.specs.List.{slice_index_or, Contains}
use Rattle.element_tree.specs.declared.container.Container.{Container}
use Rattle.clip_chain.specs.Scenes.{Scene}
use Rattle.clip_chain.specs.Chains.{Leads}
use Rattle.clip_chain.proofs.laws.a_chain_goes_from_container_to_container.Goals as goal

abbrev Links : Scene → Container → List Container → Container → Type 0
Links scene from between root = (k : ℕ) (default : Container) → k ≤ length between → scene.container (slice_index_or (from ∷ between) k default) ≡ Some (slice_index_or (between ++ root ∷ []) k default)

links : (scene : Scene) (from root : Container) (between : List Container) → Leads scene from between root → Links scene from between root
links scene from root [] h zero d below = h
links scene from root [] h (suc k) d below = absurd (let no : ⊥ = omega (arith, below) in no)
links scene from root (next ∷ others) h zero d below = h.0
links scene from root (next ∷ others) h (suc k) d below = links scene next root others h.2 k d (omega (arith, below))

apart : (scene : Scene) (from root : Container) (between : List Container) → Leads scene from between root → ¬ Contains between root
apart scene from root [] h (k, below, e) = absurd (let no : ⊥ = omega (arith, below) in no)
apart scene from root (next ∷ others) h (zero, below, e) = h.1 e
apart scene from root (next ∷ others) h (suc k, below, e) = apart scene next root others h.2 (k, omega (arith, below), e)

leads : (scene : Scene) (from root : Container) (between : List Container) → Links scene from between root → (¬ Contains between root) → Leads scene from between root
leads scene from root [] linked away = linked 0 from (omega arith)
leads scene from root (next ∷ others) linked away = (
  linked 0 from (omega arith),
  (λ e. away (0, (let below : 0 < length (next ∷ others) = omega arith in below), e)),
  leads scene next root others
      (λ k d below. linked (suc k) d (omega (arith, below)))
      (λ (k, below, e). away (suc k, (let more : suc k < length (next ∷ others) = omega (arith, below) in more), e)),
)

pub returns : goal.returns
returns c scene from root between = ((λ h. (links scene from root between h, apart scene from root between h)), (λ both. leads scene from root between both.0 both.1))
