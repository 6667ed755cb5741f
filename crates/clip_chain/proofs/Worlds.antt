-- Chains in a world.
use Rattle.std.proofs.Common.{◌≡◌, ◌∙◌, ℕ, zero, suc, ◌≤◌, Bool, true, false, cond, List, [], ◌∷◌, length, Option, Some, None, ap, sym, refl, subst, arith}
use Rattle.std.specs.Prelude.{not, ◌&&◌, filter_map, take_while, option_map, ◌==◌}
use Rattle.std.specs.List.{cons_option}
use Rattle.std.proofs.lemmas.List.Sums.{take_while-cons}
use Rattle.std.proofs.lemmas.Bool.{eqb-true, false_from_ne_true}
use Rattle.px_units.specs.declared.Rect.{Rect}
use Rattle.script_model.specs.Margins.{Margins}
use Rattle.page_model.specs.World.{Root, ImplicitRoot, DocumentRoot, ElementRoot, Container as ModelContainer, InElement, InDocument}
use Rattle.page_model.specs.Shown.{Shown}
use Rattle.page_model.specs.Chains.{containers_by, containers_from, container_beyond, most_containers, is_root, containers_between, clip_of, has_scroll_margins, clip_for, clips_between, clips_for, moved_out, border_rect, zero_rect, common_part}
use Rattle.element_tree.specs.declared.container.Container.{Container}
use Rattle.element_tree.specs.declared.container.Container.TheVariants.{Element, Document}
use Rattle.container_model.specs.Seen.{seen_container}
use Rattle.clip_chain.specs.Chains.{Leads}
use Rattle.clip_chain.specs.Scenes.{root_bounds, is_spot}
use Rattle.clip_chain.specs.Visible.{part_between}
use Rattle.clip_chain.specs.Worlds.{element_spot, spot_of, spot_of_root, has_box_at, scene_of, scene_for}
use Rattle.clip_chain.proofs.Moving.{root_through}

-- what stands in something has a box
pub leads_on : (b : Bool) (o : Option Container) (next : Container) → cond b o None ≡ Some next → (b ≡ true) × (o ≡ Some next)
leads_on true o next h = (refl, h)
leads_on false o next h = let wrong : None ≡ Some next = h in absurd (let no : ⊥ = cc in no)

named : (o : Option ModelContainer) (next : Container) → option_map spot_of o ≡ Some next → (container : ModelContainer) × (o ≡ Some container) × (spot_of container ≡ next)
named None next h = let wrong : None ≡ Some next = h in absurd (let no : ⊥ = cc in no)
named (Some container) next h = let e : Some (spot_of container) ≡ Some next = h in (container, refl, (let same : spot_of container ≡ next = cc in same))

back : (container : ModelContainer) → seen_container (spot_of container) ≡ container
back (InElement element) = refl
back (InDocument document) = refl

-- what a container of the scene is in the world
beyond : (shown : Shown) (container : ModelContainer) (next : Container) → (scene_of shown).container (spot_of container) ≡ Some next → (has_box_at shown (spot_of container) ≡ true) × ((outer : ModelContainer) × (container_beyond (shown.tree) container ≡ Some outer) × (spot_of outer ≡ next))
beyond shown container next h =
    let met = leads_on (has_box_at shown (spot_of container)) (option_map spot_of (container_beyond (shown.tree) (seen_container (spot_of container)))) next h in
    let outer = named (container_beyond (shown.tree) (seen_container (spot_of container))) next met.1 in
    (met.0, (outer.0, ap (container_beyond (shown.tree)) (sym (back container)) ∙ outer.1, outer.2))

same_number : (a b : ℕ) → a ≡ b → (a == b) ≡ true
same_number a b e = grind arith

-- the number of an element or a document
abbrev number : Container → ℕ
number (Element node) = node.0
number (Document document) = document.0

root_found : (root : Root) (container : ModelContainer) → spot_of container ≡ spot_of_root root → is_root root container ≡ true
root_found ImplicitRoot (InDocument document) e = same_number document 0 (ap number e)
root_found ImplicitRoot (InElement element) e = absurd (let no : ⊥ = cc in no)
root_found (DocumentRoot root) (InDocument document) e = same_number document root (ap number e)
root_found (DocumentRoot root) (InElement element) e = absurd (let no : ⊥ = cc in no)
root_found (ElementRoot root) (InElement element) e = same_number element root (ap number e)
root_found (ElementRoot root) (InDocument document) e = absurd (let no : ⊥ = cc in no)

root_spot_is : (root : Root) (container : ModelContainer) → is_root root container ≡ true → spot_of container ≡ spot_of_root root
root_spot_is ImplicitRoot (InDocument document) e = ap (λ n. spot_of (InDocument n)) (eqb-true document 0 e)
root_spot_is ImplicitRoot (InElement element) e = absurd (let no : ⊥ = cc in no)
root_spot_is (DocumentRoot root) (InDocument document) e = ap (λ n. spot_of (InDocument n)) (eqb-true document root e)
root_spot_is (DocumentRoot root) (InElement element) e = absurd (let no : ⊥ = cc in no)
root_spot_is (ElementRoot root) (InElement element) e = ap element_spot (eqb-true element root e)
root_spot_is (ElementRoot root) (InDocument document) e = absurd (let no : ⊥ = cc in no)

root_missed : (root : Root) (container : ModelContainer) → (¬ spot_of container ≡ spot_of_root root) → is_root root container ≡ false
root_missed root container apart = false_from_ne_true (is_root root container) (λ e. apart (root_spot_is root container e))

abbrev before : Root → List ModelContainer → List ModelContainer
before root containers = take_while (λ c. not (is_root root c)) containers

before_root : (root : Root) (container : ModelContainer) (others : List ModelContainer) → is_root root container ≡ true → before root (container ∷ others) ≡ []
before_root root container others e =
    take_while-cons (λ c. not (is_root root c)) container others
    ∙ ap (λ b. cond (not b) (container ∷ before root others) []) e

before_more : (root : Root) (container : ModelContainer) (others : List ModelContainer) → is_root root container ≡ false → before root (container ∷ others) ≡ container ∷ before root others
before_more root container others e =
    take_while-cons (λ c. not (is_root root c)) container others
    ∙ ap (λ b. cond (not b) (container ∷ before root others) []) e

-- the containers of a container in the world, up to so many
abbrev outwards : Shown → ℕ → ModelContainer → List ModelContainer
outwards shown most container = containers_by (containers_from most (shown.tree)) (container_beyond (shown.tree) container)

-- a spot that a chain goes on from clips as in the world
clips_as : (shown : Shown) (outer : ModelContainer) → has_box_at shown (spot_of outer) ≡ true → (scene_of shown).clip (spot_of outer) ≡ clip_of shown outer
clips_as shown outer e =
    ap (λ b. cond b (clip_of shown (seen_container (spot_of outer))) None) e
    ∙ ap (clip_of shown) (back outer)

and_not_false : {A : Type 0} (b : Bool) (x y : A) → cond (b && not false) x y ≡ cond b x y
and_not_false true x y = refl
and_not_false false x y = refl

-- the spot of the root is its spot alone
root_test : (root : Root) (container : ModelContainer) → is_spot (spot_of_root root) (spot_of container) ≡ is_root root container
root_test ImplicitRoot (InDocument document) = refl
root_test ImplicitRoot (InElement element) = refl
root_test (DocumentRoot root) (InDocument document) = refl
root_test (DocumentRoot root) (InElement element) = refl
root_test (ElementRoot root) (InElement element) = refl
root_test (ElementRoot root) (InDocument document) = refl

-- so does it for an observer, unless it is the root
clips_through : (shown : Shown) (margins : Margins) (root : Root) (outer : ModelContainer) → has_box_at shown (spot_of outer) ≡ true → is_root root outer ≡ false →
    (scene_for shown root margins).clip (spot_of outer) ≡ clip_for shown margins outer
clips_through shown margins root outer e apart =
    let own : Option Rect = (scene_of shown).clip (spot_of outer) in
    let moved : Bool = has_scroll_margins (shown.tree) outer in
    ap (λ c. cond (has_scroll_margins (shown.tree) c && not (is_spot (spot_of_root root) (spot_of outer))) (option_map (moved_out margins) own) own) (back outer)
    ∙ ap (λ b. cond (moved && not b) (option_map (moved_out margins) own) own) (root_test root outer ∙ apart)
    ∙ and_not_false moved (option_map (moved_out margins) own) own
    ∙ ap (λ (clip : Option Rect). cond moved (option_map (moved_out margins) clip) clip) (clips_as shown outer e)

-- the root itself is left alone
pub root_alone : (shown : Shown) (margins : Margins) (root : Root) → root_bounds (scene_for shown root margins) (spot_of_root root) ≡ root_bounds (scene_of shown) (spot_of_root root)
root_alone shown margins root = root_through (scene_of shown) margins (spot_of_root root)

goes_on : (shown : Shown) (root : Container) (from : ModelContainer) (between : List Container) → Leads (scene_of shown) (spot_of from) between root → has_box_at shown (spot_of from) ≡ true
goes_on shown root from [] h = (beyond shown from root h).0
goes_on shown root from (next ∷ others) h = (beyond shown from next h.0).0

-- where the spots between are told clips as the containers of the world have them
module _ (shown : Shown) (root : Root) (told : Container → Option Rect) (clip : ModelContainer → Option Rect)
    (same : (outer : ModelContainer) → has_box_at shown (spot_of outer) ≡ true → is_root root outer ≡ false → told (spot_of outer) ≡ clip outer) where
  abbrev clips_before : List ModelContainer → List Rect
  clips_before containers = filter_map clip (before root containers)

  last_by : (most : ℕ) (outer : ModelContainer) → is_root root outer ≡ true → [] ≡ clips_before (containers_from most (shown.tree) outer)
  unfolding containers_from
  last_by zero outer e = refl
  last_by (suc most) outer e = sym (ap (filter_map clip) (before_root root outer (outwards shown most outer) e))

  next_by : (most : ℕ) (outer : ModelContainer) → is_root root outer ≡ false
      → clips_before (containers_from (suc most) (shown.tree) outer) ≡ cons_option (clip outer) (clips_before (outwards shown most outer))
  unfolding containers_from
  next_by most outer e = ap (filter_map clip) (before_more root outer (outwards shown most outer) e)

  along : (most : ℕ) (from : ModelContainer) (between : List Container) → Leads (scene_of shown) (spot_of from) between (spot_of_root root) → length between ≤ most
      → filter_map told between ≡ clips_before (outwards shown most from)
  along most from [] h few =
      let there = beyond shown from (spot_of_root root) h in
      let outer = there.1.0 in
      last_by most outer (root_found root outer there.1.2)
      ∙ ap (λ o. clips_before (containers_by (containers_from most (shown.tree)) o)) (sym there.1.1)
  along zero from (next ∷ others) h few = absurd (let no : ⊥ = omega (arith, few) in no)
  along (suc most) from (next ∷ others) h few =
      let there = beyond shown from next h.0 in
      let outer = there.1.0 in
      let is : spot_of outer ≡ next = there.1.2 in
      let rest = subst (λ (spot : Container). Leads (scene_of shown) spot others (spot_of_root root)) (sym is) h.2 in
      let apart : ¬ spot_of outer ≡ spot_of_root root = λ e. h.1 (sym is ∙ e) in
      let missed : is_root root outer ≡ false = root_missed root outer apart in
      ap (λ spot. cons_option (told spot) (filter_map told others)) (sym is)
      ∙ ap (λ o. cons_option o (filter_map told others)) (same outer (goes_on shown (spot_of_root root) outer others rest) missed)
      ∙ ap (cons_option (clip outer)) (along most outer others rest (omega (arith, few)))
      ∙ sym (next_by most outer missed)
      ∙ ap (λ o. clips_before (containers_by (containers_from (suc most) (shown.tree)) o)) (sym there.1.1)

  clips_told : (target : ℕ) (between : List Container) → Leads (scene_of shown) (element_spot target) between (spot_of_root root) → length between ≤ most_containers
      → filter_map told between ≡ filter_map clip (containers_between (shown.tree) root target)
  clips_told target between h few = along most_containers (InElement target) between h few

pub clips_are : (shown : Shown) (root : Root) (target : ℕ) (between : List Container) → Leads (scene_of shown) (element_spot target) between (spot_of_root root) → length between ≤ most_containers → filter_map (scene_of shown).clip between ≡ clips_between shown root target
unfolding clips_between
clips_are shown root target between h few = clips_told shown root (scene_of shown).clip (clip_of shown) (λ outer e apart. clips_as shown outer e) target between h few

pub part_is : (shown : Shown) (root : Root) (target : ℕ) (between : List Container) (limits : Rect) → Leads (scene_of shown) (element_spot target) between (spot_of_root root) → length between ≤ most_containers → part_between (scene_of shown) (element_spot target) between limits ≡ common_part (border_rect shown target) (limits ∷ clips_between shown root target)
part_is shown root target between limits h few =
    ap (λ b. common_part (cond b (border_rect shown target) zero_rect) (limits ∷ filter_map (scene_of shown).clip between)) (goes_on shown (spot_of_root root) (InElement target) between h)
    ∙ ap (λ clips. common_part (border_rect shown target) (limits ∷ clips)) (clips_are shown root target between h few)

-- The same for an observer with scroll margins.

pub clips_are_for : (shown : Shown) (margins : Margins) (root : Root) (target : ℕ) (between : List Container) → Leads (scene_of shown) (element_spot target) between (spot_of_root root) → length between ≤ most_containers → filter_map (scene_for shown root margins).clip between ≡ clips_for shown margins root target
unfolding clips_for
clips_are_for shown margins root target between h few =
    clips_told shown root (scene_for shown root margins).clip (clip_for shown margins) (clips_through shown margins root) target between h few

pub part_is_for : (shown : Shown) (margins : Margins) (root : Root) (target : ℕ) (between : List Container) (limits : Rect) → Leads (scene_of shown) (element_spot target) between (spot_of_root root) → length between ≤ most_containers → part_between (scene_for shown root margins) (element_spot target) between limits ≡ common_part (border_rect shown target) (limits ∷ clips_for shown margins root target)
part_is_for shown margins root target between limits h few =
    ap (λ b. common_part (cond b (border_rect shown target) zero_rect) (limits ∷ filter_map (scene_for shown root margins).clip between)) (goes_on shown (spot_of_root root) (InElement target) between h)
    ∙ ap (λ clips. common_part (border_rect shown target) (limits ∷ clips)) (clips_are_for shown margins root target between h few)
