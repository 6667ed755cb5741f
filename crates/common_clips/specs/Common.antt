-- What is left of a rectangle within an element, and what is known of that by the numbers of elements.
use Rattle.std.specs.Prelude.{◌≡◌, ℕ, List, ◌∷◌, filter_map, Option, Some, None, IfSome}
use Rattle.std.specs.FinMap.{FinMap, get, insert}
use Rattle.std.specs.Ordering.{nat_cmp}
use Rattle.px_units.specs.declared.Rect.{Rect}
use Rattle.px_units.specs.Rects.{meeting}
use Rattle.page_model.specs.Chains.{common_part}
use Rattle.element_tree.specs.declared.container.Container.{Container}
use Rattle.element_tree.specs.declared.container.Container.TheVariants.{Element, Document}
use Rattle.clip_chain.specs.Scenes.{Scene}
use Rattle.clip_chain.specs.Chains.{Leads}
use Rattle.clip_chain.specs.Worlds.{element_spot}

-- the intersection of a rectangle, the clip of a spot and those of the spots strictly between it and a root
abbrev pub left_inside : Scene → Rect → Container → List Container → Option Rect
left_inside scene limits spot between = common_part limits (filter_map (scene.clip) (spot ∷ between))

-- what is left of a rectangle by one more clip, if there is one
abbrev pub clipped : Option Rect → Option Rect → Option Rect
clipped None clip = None
clipped (Some common) None = Some common
clipped (Some common) (Some clip) = meeting common clip

abbrev pub Known : Type 0
Known = FinMap nat_cmp (Option Rect)

-- what is known of a spot: nothing of a document's viewport
abbrev pub known_of : Known → Container → Option (Option Rect)
known_of known (Element node) = get known (node.0)
known_of known (Document document) = None

abbrev pub with_known : Known → Container → Option Rect → Known
with_known known (Element node) part = insert known (node.0) part
with_known known (Document document) part = known

-- what is known of each element is what is left within it, by the chain that leads from it to the root
abbrev pub AreInside : Scene → Container → Rect → Known → Type 0
AreInside scene root limits known =
    (number : ℕ) → IfSome (get known number) (λ part. (between : List Container) → Leads scene (element_spot number) between root
    → part ≡ left_inside scene limits (element_spot number) between)
