-- What is held: when spots were touched, and pairs by their numbers.
use Rattle.std.specs.Prelude.{ℕ, Option, Some, None, IsSome, unwrap_or, option_map}
use Rattle.std.specs.Ordering.{nat_cmp}
use Rattle.std.specs.FinMap.{FinMap, get, insert, remove}
use Rattle.element_tree.specs.declared.container.Container.{Container}
use Rattle.clip_chain.specs.Worlds.{view_spot}
use Rattle.kept_clips.specs.declared.clip.Clip.{Clip}
use Rattle.kept_clips.specs.declared.pair.Pair.{Pair}
use Rattle.kept_clips.specs.Touches.{Touched}

pub record HeldClips : Type 0 where
  pub touches : Touched
  pub pairs : FinMap nat_cmp Pair

-- the pair with a number, none if none is held
abbrev pub pair_at : HeldClips → ℕ → Option Pair
pair_at it number = get it.pairs number

abbrev pub IsHeld : HeldClips → ℕ → Type 0
IsHeld it number = IsSome (pair_at it number)

-- a pair for which no clip was computed
abbrev pub new_pair : Container → Container → Pair
new_pair root of = record { root = root; of = of; computed = None }

-- the pair with a number, which is held
abbrev pub pair_of : HeldClips → ℕ → Pair
pair_of it number = unwrap_or (pair_at it number) (new_pair (view_spot 0) (view_spot 0))

-- the spots of a pair, and those of the pair with a number

abbrev pub spots_of : Pair → Container × Container
spots_of pair = (pair.root, pair.of)

abbrev pub spots_at : HeldClips → ℕ → Option (Container × Container)
spots_at it number = option_map spots_of (pair_at it number)

abbrev pub with_pair : ℕ → Container → Container → HeldClips → HeldClips
with_pair number root of it = record it { pairs = insert (it.pairs) number (new_pair root of) }

abbrev pub without_pair : ℕ → HeldClips → HeldClips
without_pair number it = record it { pairs = remove (it.pairs) number }

-- a pair after its clip was computed, with the current count of touches
abbrev pub computed_now : Clip → Touched → Pair → Pair
computed_now clip touches pair = record pair { computed = Some (record { clip = clip; touches = touches.count }) }

-- what is held after the clip of a pair was computed
abbrev pub with_clip : ℕ → Clip → HeldClips → HeldClips
with_clip number clip it = record it { pairs = insert (it.pairs) number (computed_now clip (it.touches) (pair_of it number)) }
