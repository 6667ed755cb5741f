-- What is known of elements, looked up and noted.
use Rattle.std.proofs.Common.{◌≡◌, ◌∙◌, ℕ, Bool, true, false, cond, ◌==◌, List, [], ◌∷◌, Option, Some, None, ap, refl, sym, subst}
use Rattle.std.specs.Prelude.{IfSome, IfOk, Result, Ok, Err, ◌⊎◌, filter_map}
use Rattle.std.proofs.Common.{inl, inr}
use Rattle.std.proofs.lemmas.Bool.{eqb-true}
use Rattle.std.specs.Cmp.{nat_cmp_total, unsigned_tied}
use Rattle.std.specs.FinMap.{get, get-insert, get-empty, empty}
use Rattle.std.specs.Ordering.{nat_cmp}
use Rattle.px_units.specs.declared.Rect.{Rect}
use Rattle.page_model.specs.Chains.{common_part}
use Rattle.element_tree.specs.declared.container.Container.{Container}
use Rattle.element_tree.specs.declared.container.Container.TheVariants.{Element, Document}
use Rattle.clip_chain.specs.Scenes.{Scene}
use Rattle.clip_chain.specs.Chains.{Leads, IsAbove}
use Rattle.clip_chain.specs.Visible.{part_between}
use Rattle.clip_chain.specs.Worlds.{element_spot}
use Rattle.clip_chain.proofs.Leading.{one_chain, above_outwards, none_above}
use Rattle.common_clips.specs.Common.{AreInside, clipped, Known, known_of, left_inside, with_known}
use Rattle.common_clips.proofs.Folding.{if_clip, box_first}

abbrev pub nothing : Known
nothing = empty

get_none : (number : ℕ) → get nothing number ≡ None
get_none number = get-empty nat_cmp number

module _ (scene : Scene) (root : Container) (limits : Rect) where
  -- what is so of a spot, whichever chain leads from it
  abbrev pub IsInside : Container → Option Rect → Type 0
  IsInside spot part = (between : List Container) → Leads scene spot between root → part ≡ left_inside scene limits spot between

  abbrev pub IsAround : Container → Option Rect → Type 0
  IsAround spot part = (between : List Container) → Leads scene spot between root → part ≡ common_part limits (filter_map (scene.clip) between)

  at_some : {A : Type 0} (P : A → Type 0) (o : Option A) (x : A) → o ≡ Some x → IfSome o P → P x
  at_some {A = A} P o x is h = subst (λ (o : Option A). IfSome o P) is h

  pub looked_up : (known : Known) (spot : Container) (part : Option Rect) → AreInside scene root limits known → known_of known spot ≡ Some part → IsInside spot part
  looked_up known (Element node) part all is = at_some (IsInside (Element node)) (get known (node.0)) part is (all (node.0))
  looked_up known (Document document) part all is = absurd (let no : None ≡ Some part = is in cc)

  at_number : (known : Known) (number other : ℕ) (part : Option Rect) (b : Bool) → other == number ≡ b → IsInside (element_spot number) part
      → IfSome (get known other) (IsInside (element_spot other)) → IfSome (cond b (Some part) (get known other)) (IsInside (element_spot other))
  at_number known number other part true e is all = subst (λ n. IsInside (element_spot n) part) (sym (eqb-true other number e)) is
  at_number known number other part false e is all = all

  pub noted : (known : Known) (spot : Container) (part : Option Rect) → AreInside scene root limits known → IsInside spot part
      → AreInside scene root limits (with_known known spot part)
  noted known (Element node) part all is = λ number.
      subst (λ (o : Option (Option Rect)). IfSome o (IsInside (element_spot number)))
      (sym (get-insert nat_cmp_total known (node.0) part number ∙ ap (λ b. cond b (Some part) (get known number)) (unsigned_tied number (node.0))))
      (at_number known (node.0) number part (number == node.0) refl is (all number))
  noted known (Document document) part all is = all

  pub nothing_known : AreInside scene root limits nothing
  nothing_known = λ number. subst (λ (o : Option (Option Rect)). IfSome o (IsInside (element_spot number))) (sym (get_none number)) tt

  -- a spot by the one that holds it
  pub around_by_next : (spot next : Container) (part : Option Rect) → scene.container spot ≡ Some next → (¬ next ≡ root) → IsAbove scene root next → IsInside next part
      → IsAround spot part
  around_by_next spot next part e apart above is = λ between leads.
      is above.0 above.1
      ∙ ap (λ spots. common_part limits (filter_map (scene.clip) spots)) (one_chain scene spot root (next ∷ above.0) between (e, apart, above.1) leads)

  pub around_last : (spot : Container) → scene.container spot ≡ Some root → (part : Option Rect) → part ≡ common_part limits [] → IsAround spot part
  around_last spot e part is = λ between leads.
      is ∙ ap (λ spots. common_part limits (filter_map (scene.clip) spots)) (one_chain scene spot root [] between e leads)

  pub inside_by_around : (spot : Container) (around part : Option Rect) (clip : Option Rect) → IsAround spot around → clip ≡ scene.clip spot → part ≡ clipped around clip
      → IsInside spot part
  inside_by_around spot around part clip is clip_is made = λ between leads.
      made
      ∙ ap (clipped around) clip_is
      ∙ ap (λ left. clipped left (scene.clip spot)) (is between leads)
      ∙ sym (if_clip limits (scene.clip spot) (filter_map (scene.clip) between))

  -- the visible part of a target
  pub seen_around : (target : Container) (around part : Option Rect) (bounds : Rect) → IsAround target around → bounds ≡ scene.bounds target
      → part ≡ clipped around (Some bounds) → (between : List Container) → Leads scene target between root → part ≡ part_between scene target between limits
  seen_around target around part bounds is at made = λ between leads.
      made
      ∙ ap (λ box. clipped around (Some box)) at
      ∙ ap (λ left. clipped left (Some (scene.bounds target))) (is between leads)
      ∙ sym (box_first (scene.bounds target) limits (filter_map (scene.clip) between))

  pub if_around : {E : Type 0} (spot next : Container) (result : Result (Option Rect) E) → scene.container spot ≡ Some next → (¬ next ≡ root) → IsAbove scene root spot
      → IfOk result (IsInside next) → IfOk result (IsAround spot)
  if_around spot next (Ok part) e apart above is = around_by_next spot next part e apart (above_outwards scene root spot next e apart above) is
  if_around spot next (Err fault) e apart above is = tt

  -- the root is what holds the spot if nothing else does
  pub root_next : (spot : Container) → IsAbove scene root spot → (scene.container spot ≡ None) ⊎ (scene.container spot ≡ Some root) → scene.container spot ≡ Some root
  root_next spot above (inl none) = absurd (none_above scene root spot none above)
  root_next spot above (inr is) = is
