-- Scenes that agree along a pair's chain.
use Rattle.std.proofs.Common.{◌≡◌, ◌∙◌, ℕ, List, [], ◌∷◌, Option, ap, refl, sym, subst}
use Rattle.std.specs.Prelude.{filter_map, IfSome}
use Rattle.std.specs.List.{AllByRecursion, cons_option}
use Rattle.px_units.specs.declared.Rect.{Rect}
use Rattle.element_tree.specs.declared.container.Container.{Container}
use Rattle.clip_chain.specs.Scenes.{Scene}
use Rattle.clip_chain.specs.Chains.{Leads}
use Rattle.clip_chain.proofs.Leading.{one_chain}
use Rattle.kept_clips.specs.declared.clip.Clip.{Clip}
use Rattle.kept_clips.specs.declared.pair.Computed.{Computed}
use Rattle.kept_clips.specs.Clips.{common_clip, clip_between}
use Rattle.kept_clips.specs.Chains.{IsExact, AgreesAlong}
use Rattle.kept_clips.specs.Held.{HeldClips, pair_of, computed_now, with_clip}
use Rattle.kept_clips.specs.Scenes.{AgreesAt}
use Rattle.kept_clips.proofs.Pairs.{exact_inserted}

module _ (seen now : Scene) where
  leads_in : (root from : Container) (between : List Container) → AllByRecursion (AgreesAt seen now) (from ∷ between) → Leads now from between root → Leads seen from between root
  leads_in root from [] alike lead = sym alike.0.container ∙ lead
  leads_in root from (next ∷ between) alike lead = (sym alike.0.container ∙ lead.0, lead.1, leads_in root next between alike.1 lead.2)

  clips_in : (spots : List Container) → AllByRecursion (AgreesAt seen now) spots → filter_map (seen.clip) spots ≡ filter_map (now.clip) spots
  clips_in [] alike = refl
  clips_in (spot ∷ spots) alike =
      ap (λ (o : Option Rect). cons_option o (filter_map (seen.clip) spots)) (sym alike.0.clip)
      ∙ ap (cons_option (now.clip spot)) (clips_in spots alike.1)

  module _ (it : HeldClips) (number : ℕ) (alike : AgreesAlong seen now (pair_of it number)) where
    pub exact_now : IsExact seen it number → IsExact now it number
    exact_now exact = λ between lead current.
        let pair = pair_of it number in
        let along = alike between lead in
        subst (λ (clip : Clip). IfSome pair.computed (λ (computed : Computed). computed.clip ≡ clip)) (ap common_clip (clips_in between along.1))
        (exact between (leads_in pair.root pair.of between along lead) current)

    pub exact_asked : (between : List Container) → Leads now (pair_of it number).of between (pair_of it number).root
        → (other : ℕ) → IsExact seen it other → IsExact seen (with_clip number (clip_between now between) it) other
    exact_asked between lead other exact =
        let pair = pair_of it number in
        let along = alike between lead in
        exact_inserted seen it number (computed_now (clip_between now between) (it.touches) pair) other
        (λ others leads current.
        sym (ap common_clip (clips_in between along.1))
        ∙ ap (clip_between seen) (one_chain seen pair.of pair.root between others (leads_in pair.root pair.of between along lead) leads))
        exact
