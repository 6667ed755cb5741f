-- A scene as an observer with scroll margins sees it.
use Rattle.std.proofs.Common.{◌≡◌, ◌∙◌, Bool, true, false, cond, not, ◌&&◌, List, [], ◌∷◌, option_map, unwrap_or, ap, refl}
use Rattle.std.proofs.lemmas.Bool.{eqb-true, eq-eqb, false≢true}
use Rattle.px_units.specs.declared.Rect.{Rect}
use Rattle.script_model.specs.Margins.{Margins}
use Rattle.page_model.specs.Chains.{moved_out}
use Rattle.element_tree.specs.declared.container.Container.{Container}
use Rattle.element_tree.specs.declared.container.Container.TheVariants.{Element, Document}
use Rattle.clip_chain.specs.Scenes.{Scene, is_spot, through, root_bounds}
use Rattle.thresholds.specs.Roots.{IsRootRect}
use Rattle.clip_chain.specs.Ranges.{IsClip}
use Rattle.clip_chain.specs.Chains.{Leads}

pub is_itself : (spot : Container) → is_spot spot spot ≡ true
is_itself (Element a) = eq-eqb a.0 a.0 refl
is_itself (Document a) = eq-eqb a.0 a.0 refl

pub is_same : (a b : Container) → is_spot a b ≡ true → b ≡ a
is_same (Element a) (Element b) e = ap (λ n. Element (record { 0 = n })) (eqb-true b.0 a.0 e)
is_same (Document a) (Document b) e = ap (λ n. Document (record { 0 = n })) (eqb-true b.0 a.0 e)
is_same (Element a) (Document b) e = absurd (false≢true e)
is_same (Document a) (Element b) e = absurd (false≢true e)

and_not_true : (b : Bool) → (b && not true) ≡ false
and_not_true true = refl
and_not_true false = refl

-- the root isn't moved
pub root_unmoved : (scene : Scene) (margins : Margins) (root : Container) → (through root margins scene).moved root ≡ false
root_unmoved scene margins root = ap (λ b. scene.scrolls root && not b) (is_itself root) ∙ and_not_true (scene.scrolls root)

pub root_through : (scene : Scene) (margins : Margins) (root : Container) → root_bounds (through root margins scene) root ≡ root_bounds scene root
root_through scene margins root =
    ap (λ b. unwrap_or (cond b (option_map (moved_out margins) (scene.clip root)) (scene.clip root)) (scene.bounds root)) (root_unmoved scene margins root)

-- chains are the same
module _ (scene : Scene) (margins : Margins) (seen_from : Container) where
  pub leads_through : (from root : Container) (between : List Container) → Leads scene from between root → Leads (through seen_from margins scene) from between root
  leads_through from root [] lead = lead
  leads_through from root (next ∷ between) lead = (lead.0, lead.1, leads_through next root between lead.2)

  pub leads_back : (from root : Container) (between : List Container) → Leads (through seen_from margins scene) from between root → Leads scene from between root
  leads_back from root [] lead = lead
  leads_back from root (next ∷ between) lead = (lead.0, lead.1, leads_back next root between lead.2)

-- what margins move is in the range of what they move
pub root_range : (clip : Rect) → IsClip clip → IsRootRect clip
root_range clip is = record {
  left = record { low = is.edges.left.low; high = is.edges.left.high };
  top = record { low = is.edges.top.low; high = is.edges.top.high };
  right = record { low = is.edges.right.low; high = is.edges.right.high };
  bottom = record { low = is.edges.bottom.low; high = is.edges.bottom.high };
  width = record { low = is.width.low; high = is.width.high };
}
