-- The points of a common part are those that are seen.
use Rattle.std.proofs.Common.{◌≡◌, ◌↔◌, ℤ, List, [], ◌∷◌, Option, Some, None, ap, sym, subst, arith}
use Rattle.std.specs.Prelude.{filter_map, IfSome}
use Rattle.std.specs.List.{All, cons_option}
use Rattle.std.proofs.lemmas.List.Elements.{All-head, All-tail, All-cons}
use Rattle.px_units.specs.declared.Rect.{Rect}
use Rattle.px_units.specs.Rects.{overlap, meeting, Holds, HeldBy}
use Rattle.page_model.specs.Chains.{common_part}
use Rattle.element_tree.specs.declared.container.Container.{Container}
use Rattle.clip_chain.specs.Ranges.{IsBounds}
use Rattle.clip_chain.specs.Scenes.{Scene}
use Rattle.clip_chain.specs.Visible.{part_between, IsSeen}
use Rattle.clip_chain.proofs.Parts.{HoldsAll, held_by_part, part_within, meets, misses, none_left, one_more}

abbrev InClip : Scene → ℤ → ℤ → Container → Type 0
InClip scene x y spot = IfSome (scene.clip spot) (λ (clip : Rect). Holds clip x y)

pub first_apart : (o : Option Rect) (rs : List Rect) (x y : ℤ) → HoldsAll x y (cons_option o rs) → IfSome o (λ (clip : Rect). Holds clip x y) × HoldsAll x y rs
first_apart None rs x y h = (tt, h)
first_apart (Some r) rs x y h = h

pub first_joined : (o : Option Rect) (rs : List Rect) (x y : ℤ) → IfSome o (λ (clip : Rect). Holds clip x y) → HoldsAll x y rs → HoldsAll x y (cons_option o rs)
first_joined None rs x y h hs = hs
first_joined (Some r) rs x y h hs = (h, hs)

in_clips : (scene : Scene) (spots : List Container) (x y : ℤ) → HoldsAll x y (filter_map (scene.clip) spots) → All (InClip scene x y) spots
in_clips scene [] x y h = λ k d below. absurd (let no : ⊥ = omega (arith, below) in no)
in_clips scene (s ∷ spots) x y h =
    let apart = first_apart (scene.clip s) (filter_map (scene.clip) spots) x y h in
    All-cons (InClip scene x y) s spots apart.0 (in_clips scene spots x y apart.1)

of_clips : (scene : Scene) (spots : List Container) (x y : ℤ) → All (InClip scene x y) spots → HoldsAll x y (filter_map (scene.clip) spots)
of_clips scene [] x y h = tt
of_clips scene (s ∷ spots) x y h =
    first_joined (scene.clip s) (filter_map (scene.clip) spots) x y (All-head (InClip scene x y) s spots h)
    (of_clips scene spots x y (All-tail (InClip scene x y) s spots h))

held_is_seen : (scene : Scene) (target : Container) (between : List Container) (limits : Rect) (x y : ℤ) → HeldBy (part_between scene target between limits) x y ↔ IsSeen scene target between limits x y
held_is_seen scene target between limits x y =
    let held = held_by_part (scene.bounds target) (limits ∷ filter_map (scene.clip) between) x y in (
      (λ h. let all = held.0 h in
          record { in_bounds = all.0; in_limits = all.1.0; in_clips = in_clips scene between x y all.1.1 }),
      (λ seen. held.1 (seen.in_bounds, (seen.in_limits, of_clips scene between x y seen.in_clips))),
    )

pub part_is_seen : (scene : Scene) (target : Container) (between : List Container) (limits : Rect) (o : Option Rect) → o ≡ part_between scene target between limits → (x y : ℤ) → HeldBy o x y ↔ IsSeen scene target between limits x y
part_is_seen scene target between limits o e x y =
    subst (λ (p : Option Rect). HeldBy p x y ↔ IsSeen scene target between limits x y) (sym e) (held_is_seen scene target between limits x y)

pub part_in_range : (scene : Scene) (target : Container) (between : List Container) (limits : Rect) (o : Option Rect) → o ≡ part_between scene target between limits → IsBounds (scene.bounds target) → IfSome o IsBounds
part_in_range scene target between limits o e bounds =
    subst (λ (p : Option Rect). IfSome p IsBounds) (sym e) (part_within (scene.bounds target) (limits ∷ filter_map (scene.clip) between) bounds)

-- by the box and the limits first

pub none_seen : (scene : Scene) (target : Container) (between : List Container) (limits : Rect) → meeting (scene.bounds target) limits ≡ None → None ≡ part_between scene target between limits
none_seen scene target between limits miss =
    let clips = filter_map (scene.clip) between in
    subst (λ (p : Option Rect). None ≡ p) (sym (one_more (scene.bounds target) limits clips))
    (none_left (overlap (scene.bounds target) limits) clips (misses (scene.bounds target) limits miss))

pub seen_beyond : (scene : Scene) (target : Container) (between : List Container) (limits first : Rect) → meeting (scene.bounds target) limits ≡ Some first → common_part first (filter_map (scene.clip) between) ≡ part_between scene target between limits
seen_beyond scene target between limits first meet =
    let clips = filter_map (scene.clip) between in
    subst (λ (p : Option Rect). common_part first clips ≡ p) (sym (one_more (scene.bounds target) limits clips))
    (ap (λ (r : Rect). common_part r clips) (sym (meets (scene.bounds target) limits first meet).0))
