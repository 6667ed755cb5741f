-- Adding spots changes no last touch, so that clips stand as they did.
use Rattle.std.proofs.Common.{◌≡◌, ◌∙◌, ℕ, suc, ◌-◌, ◌≤◌, ◌&&◌, nat_le, nat_lt, List, [], ◌∷◌, Option, Some, None, length, ap, refl, sym, subst}
use Rattle.std.specs.List.{list_all}
use Rattle.element_tree.specs.declared.container.Container.{Container}
use Rattle.element_tree.specs.declared.container.Container.TheVariants.{Element, Document}
use Rattle.clip_chain.specs.Scenes.{Scene}
use Rattle.kept_clips.specs.declared.pair.Computed.{Computed}
use Rattle.kept_clips.specs.Touches.{Touched, last_number, last_touch, with_spot}
use Rattle.kept_clips.specs.Chains.{chain_of, is_untouched, stands, IsExact}
use Rattle.kept_clips.specs.Held.{HeldClips, pair_of}
use Rattle.kept_clips.specs.Numbers.{IsNumbered, AreNumbered}
use Rattle.kept_clips.proofs.Filling.{filled}

pub same_last : (of spot : Container) (it : Touched) → last_touch (with_spot of it) spot ≡ last_touch it spot
same_last (Element a) (Element b) it = filled 0 it.nodes (suc a.0 - length it.nodes) b.0
same_last (Element a) (Document d) it = refl
same_last (Document d) (Element b) it = refl
same_last (Document c) (Document d) it = filled 0 it.views (suc c.0 - length it.views) d.0

same_tests : (of : Container) (it : Touched) (since : ℕ) (spots : List Container) → list_all (is_untouched (with_spot of it) since) spots ≡ list_all (is_untouched it since) spots
same_tests of it since [] = refl
same_tests of it since (spot ∷ spots) =
    ap (λ n. nat_le n since && list_all (is_untouched (with_spot of it) since) spots) (same_last of spot it)
    ∙ ap (λ b. is_untouched it since spot && b) (same_tests of it since spots)

same_stands : (of : Container) (it : Touched) (computed : Option Computed) (spots : List Container) → stands (with_spot of it) computed spots ≡ stands it computed spots
same_stands of it None spots = refl
same_stands of it (Some c) spots = ap (λ b. nat_lt c.touches last_number && b) (same_tests of it c.touches spots)

pub exact_added : (scene : Scene) (of : Container) (it : HeldClips) (number : ℕ) → IsExact scene it number → IsExact scene (record it { touches = with_spot of (it.touches) }) number
exact_added scene of it number exact = λ between lead current.
    exact between lead
    (sym (same_stands of it.touches (pair_of it number).computed (chain_of (pair_of it number) between)) ∙ current)

same_count : (of : Container) (it : Touched) → (with_spot of it).count ≡ it.count
same_count (Element node) it = refl
same_count (Document document) it = refl

pub numbered_added : (of : Container) (it : HeldClips) → AreNumbered it → AreNumbered (record it { touches = with_spot of (it.touches) })
numbered_added of it all =
    let count : (with_spot of it.touches).count ≡ it.touches.count = same_count of it.touches in
    record {
      touched = λ spot. subst (λ n. last_touch (with_spot of it.touches) spot ≤ n) (sym count) (subst (λ n. n ≤ it.touches.count) (sym (same_last of spot it.touches)) (all.touched spot));
      numbered = λ number. subst (λ n. IsNumbered n (pair_of it number).computed) (sym count) (all.numbered number);
      counted = subst (λ n. n ≤ last_number) (sym count) all.counted;
    }
