-- What the clips of a chain leave of a rectangle, from spot to spot outwards.
use Rattle.std.proofs.Common.{◌≡◌, ◌∙◌, List, [], ◌∷◌, Some, None, true, ap, sym}
use Rattle.std.specs.Prelude.{filter_map}
use Rattle.std.specs.List.{cons_option}
use Rattle.px_units.specs.declared.Rect.{Rect}
use Rattle.px_units.specs.Rects.{has_points, overlap, meeting}
use Rattle.page_model.specs.Chains.{common_part}
use Rattle.element_tree.specs.declared.container.Container.{Container}
use Rattle.clip_chain.specs.Scenes.{Scene}
use Rattle.clip_chain.specs.Chains.{Leads, IsAbove}
use Rattle.clip_chain.proofs.Leading.{one_chain}
use Rattle.clip_chain.proofs.Parts.{meets, misses, none_left, all_left, one_more}

abbrev pub clips_of : Scene → List Container → List Rect
clips_of scene spots = filter_map (scene.clip) spots

-- the clips between a spot and the root leave of a rectangle what those between the target and the root leave of the first one
abbrev pub Leaves : Scene → Container → Container → Rect → Container → Rect → Type 0
Leaves scene root target first spot common =
    (between rest : List Container) → Leads scene target between root → Leads scene spot rest root → common_part first (clips_of scene between) ≡ common_part common (clips_of scene rest)

pub leaves_first : (scene : Scene) (root target : Container) (first : Rect) → Leaves scene root target first target first
leaves_first scene root target first = λ between rest h k. ap (λ spots. common_part first (clips_of scene spots)) (one_chain scene target root between rest h k)

-- a spot that clips
pub leaves_clipped : (scene : Scene) (root target spot next : Container) (first common clip part : Rect) → Leaves scene root target first spot common → scene.container spot ≡ Some next → (¬ next ≡ root) → scene.clip next ≡ Some clip → meeting common clip ≡ Some part → Leaves scene root target first next part
leaves_clipped scene root target spot next first common clip part so_far e apart is meet = λ between rest h k.
    so_far between (next ∷ rest) h (e, apart, k)
    ∙ ap (λ o. common_part common (cons_option o (clips_of scene rest))) is
    ∙ one_more common clip (clips_of scene rest)
    ∙ ap (λ r. common_part r (clips_of scene rest)) (meets common clip part meet).0

-- a spot that doesn't
pub leaves_open : (scene : Scene) (root target spot next : Container) (first common : Rect) → Leaves scene root target first spot common → scene.container spot ≡ Some next → (¬ next ≡ root) → scene.clip next ≡ None → Leaves scene root target first next common
leaves_open scene root target spot next first common so_far e apart is = λ between rest h k.
    so_far between (next ∷ rest) h (e, apart, k)
    ∙ ap (λ o. common_part common (cons_option o (clips_of scene rest))) is

-- at the root
pub leaves_last : (scene : Scene) (root target spot : Container) (first common : Rect) → Leaves scene root target first spot common → scene.container spot ≡ Some root → has_points common ≡ true → (between : List Container) → Leads scene target between root → Some common ≡ common_part first (clips_of scene between)
leaves_last scene root target spot first common so_far e points between h = all_left common points ∙ sym (so_far between [] h e)

-- where a clip leaves nothing
pub leaves_nothing : (scene : Scene) (root target spot next : Container) (first common clip : Rect) → Leaves scene root target first spot common → scene.container spot ≡ Some next → (¬ next ≡ root) → IsAbove scene root next → scene.clip next ≡ Some clip → meeting common clip ≡ None → (between : List Container) → Leads scene target between root → None ≡ common_part first (clips_of scene between)
leaves_nothing scene root target spot next first common clip so_far e apart (rest, k) is miss between h =
    none_left (overlap common clip) (clips_of scene rest) (misses common clip miss)
    ∙ sym (one_more common clip (clips_of scene rest))
    ∙ sym (ap (λ o. common_part common (cons_option o (clips_of scene rest))) is)
    ∙ sym (so_far between (next ∷ rest) h (e, apart, k))
