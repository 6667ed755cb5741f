-- Which of the clips that are held are still valid: those of pairs on whose chain no spot was touched since.
use Rattle.std.specs.Prelude.{◌≡◌, ℕ, Bool, true, false, cond, ◌&&◌, nat_lt, nat_le, List, [], ◌∷◌, ◌++◌, Option, Some, None, option_map, IfSome}
use Rattle.std.specs.List.{AllByRecursion, list_all}
use Rattle.element_tree.specs.declared.container.Container.{Container}
use Rattle.clip_chain.specs.Scenes.{Scene}
use Rattle.clip_chain.specs.Chains.{Leads}
use Rattle.kept_clips.specs.declared.clip.Clip.{Clip}
use Rattle.kept_clips.specs.declared.pair.Pair.{Pair}
use Rattle.kept_clips.specs.declared.pair.Computed.{Computed}
use Rattle.kept_clips.specs.Clips.{clip_between}
use Rattle.kept_clips.specs.Touches.{Touched, last_number, last_touch}
use Rattle.kept_clips.specs.Held.{HeldClips, pair_of}
use Rattle.kept_clips.specs.Scenes.{AgreesAt}

-- the spots on a pair's chain, from its spot outwards to its root
abbrev pub chain_of : Pair → List Container → List Container
chain_of pair between = pair.of ∷ (between ++ pair.root ∷ [])

abbrev pub is_untouched : Touched → ℕ → Container → Bool
is_untouched touches since spot = nat_le (last_touch touches spot) since

-- whether a computed clip is still valid: no spot of the chain was touched since. One that was computed when the count of touches
-- had reached the last number never is, since later touches can't be told from earlier ones
abbrev pub stands : Touched → Option Computed → List Container → Bool
stands touches None chain = false
stands touches (Some computed) chain = nat_lt computed.touches last_number && list_all (is_untouched touches computed.touches) chain

-- the clip that is held, if it is still valid
abbrev pub standing_clip : Touched → Option Computed → List Container → Option Clip
standing_clip touches computed chain = cond (stands touches computed chain) (option_map (λ (it : Computed). it.clip) computed) None

-- whether the clip held for a pair is returned without being computed again, given the spots between
abbrev pub is_current : HeldClips → ℕ → List Container → Bool
is_current it number between = stands (it.touches) (pair_of it number).computed (chain_of (pair_of it number) between)

-- a held clip that is still valid is the intersection of the clips that the spots between have now

abbrev pub IsExactPair : Scene → Touched → Pair → Type 0
IsExactPair scene touches pair =
    (between : List Container) → Leads scene pair.of between pair.root → stands touches pair.computed (chain_of pair between) ≡ true →
    IfSome pair.computed (λ (computed : Computed). computed.clip ≡ clip_between scene between)

abbrev pub IsExact : Scene → HeldClips → ℕ → Type 0
IsExact scene it number = IsExactPair scene it.touches (pair_of it number)

-- two scenes agree at each spot of a pair's chain in `now`, except at its root
abbrev pub AgreesAlong : Scene → Scene → Pair → Type 0
AgreesAlong seen now pair = (between : List Container) → Leads now pair.of between pair.root → AllByRecursion (AgreesAt seen now) (pair.of ∷ between)
