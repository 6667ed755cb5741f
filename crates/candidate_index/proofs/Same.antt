-- Bases that are told to be the same are equal, and what is found from them too.
use Rattle.std.proofs.Common.{◌≡◌, ◌↔◌, ◌∙◌, ℕ, ℤ, Bool, true, false, ◌&&◌, not, List, Option, Some, None, ap, refl, sym}
use Rattle.std.specs.Prelude.{IsSome, IfSome}
use Rattle.std.specs.FinMap.{FinMap}
use Rattle.std.specs.Ordering.{nat_cmp, int_eq}
use Rattle.std.proofs.lemmas.Bool.Decides.{Decides-int_eq}
use Rattle.std.proofs.lemmas.Bool.{and_parts}
use Rattle.px_units.specs.declared.Rect.{Rect}
use Rattle.page_model.specs.World.{Root, IntersectionObservers}
use Rattle.element_tree.specs.declared.container.Container.{Container}
use Rattle.clip_chain.specs.Scenes.{Scene}
use Rattle.kept_clips.specs.declared.clip.Clip.{Clip}
use Rattle.kept_clips.specs.declared.clip.Clip.TheVariants as clips
use Rattle.intersection_observer.specs.Seen.{seen_finding}
use Rattle.candidate_index.specs.declared.scene.Standing.{Standing}
use Rattle.candidate_index.specs.declared.basis.Sight.{Sight}
use Rattle.candidate_index.specs.declared.basis.Sight.TheVariants as sights
use Rattle.candidate_index.specs.declared.basis.Basis.{Basis}
use Rattle.candidate_index.specs.declared.index.Kept.{Kept}
use Rattle.candidate_index.specs.Bases.{is_same_rect, is_same_clip, is_same_sight, is_same_basis}
use Rattle.candidate_index.specs.Findings.{found_from}
use Rattle.candidate_index.specs.Registrations.{observer_of, target_of, standing_for, basis_for, finding_for}
use Rattle.candidate_index.specs.Held.{kept_of, is_stale, is_stale_now, IsFound, AreFound}
use Rattle.candidate_index.proofs.Leaving.{found_is}

all_four : (a b c d : Bool) → a ≡ true → b ≡ true → c ≡ true → d ≡ true → ((a && b) && c) && d ≡ true
all_four a b c d one two three four = ap (λ v. ((v && b) && c) && d) one ∙ ap (λ v. (v && c) && d) two ∙ ap (λ v. v && d) three ∙ four

same_edge : (a b : ℤ) → int_eq a b ≡ true → a ≡ b
same_edge a b e = (Decides-int_eq a b).0 e

own_edge : (a : ℤ) → int_eq a a ≡ true
own_edge a = (Decides-int_eq a a).1 refl

same_rect : (r s : Rect) → is_same_rect r s ≡ true → r ≡ s
same_rect r s e =
    let three = and_parts ((int_eq r.left s.left && int_eq r.top s.top) && int_eq r.right s.right) (int_eq r.bottom s.bottom) e in
    let two = and_parts (int_eq r.left s.left && int_eq r.top s.top) (int_eq r.right s.right) three.0 in
    let one = and_parts (int_eq r.left s.left) (int_eq r.top s.top) two.0 in
    let left = same_edge r.left s.left one.0 in
    let top = same_edge r.top s.top one.1 in
    let right = same_edge r.right s.right two.1 in
    let bottom = same_edge r.bottom s.bottom three.1 in
    λ i. record { left = left i; top = top i; right = right i; bottom = bottom i }

own_rect : (r : Rect) → is_same_rect r r ≡ true
own_rect r = all_four (int_eq r.left r.left) (int_eq r.top r.top) (int_eq r.right r.right) (int_eq r.bottom r.bottom) (own_edge r.left) (own_edge r.top) (own_edge r.right) (own_edge r.bottom)

never : {A : Type 0} → false ≡ true → A
never e = absurd (let no : ⊥ = cc in no)

same_clip : (c d : Clip) → is_same_clip c d ≡ true → c ≡ d
same_clip clips.Whole clips.Whole e = refl
same_clip clips.Whole (clips.Cut s) e = never e
same_clip clips.Whole clips.Nothing e = never e
same_clip (clips.Cut r) clips.Whole e = never e
same_clip (clips.Cut r) (clips.Cut s) e = ap (λ (t : Rect). clips.Cut t) (same_rect r s e)
same_clip (clips.Cut r) clips.Nothing e = never e
same_clip clips.Nothing clips.Whole e = never e
same_clip clips.Nothing (clips.Cut s) e = never e
same_clip clips.Nothing clips.Nothing e = refl

own_clip : (c : Clip) → is_same_clip c c ≡ true
own_clip clips.Whole = refl
own_clip (clips.Cut r) = own_rect r
own_clip clips.Nothing = refl

same_sight : (a b : Sight) → is_same_sight a b ≡ true → a ≡ b
same_sight sights.Apart sights.Apart e = refl
same_sight sights.Apart sights.NoBox e = never e
same_sight sights.Apart (sights.Chained s d) e = never e
same_sight sights.NoBox sights.Apart e = never e
same_sight sights.NoBox sights.NoBox e = refl
same_sight sights.NoBox (sights.Chained s d) e = never e
same_sight (sights.Chained r c) sights.Apart e = never e
same_sight (sights.Chained r c) sights.NoBox e = never e
same_sight (sights.Chained r c) (sights.Chained s d) e =
    let parts = and_parts (is_same_rect r s) (is_same_clip c d) e in
    let bounds = same_rect r s parts.0 in
    let clip = same_clip c d parts.1 in
    λ i. sights.Chained (bounds i) (clip i)

own_sight : (a : Sight) → is_same_sight a a ≡ true
own_sight sights.Apart = refl
own_sight sights.NoBox = refl
own_sight (sights.Chained r c) = ap (λ b. b && is_same_clip c c) (own_rect r) ∙ own_clip c

same_basis : (a b : Basis) → is_same_basis a b ≡ true → a ≡ b
same_basis a b e =
    let parts = and_parts (is_same_rect a.limits b.limits) (is_same_sight a.sight b.sight) e in
    let limits = same_rect a.limits b.limits parts.0 in
    let sight = same_sight a.sight b.sight parts.1 in
    λ i. record { limits = limits i; sight = sight i }

own_basis : (a : Basis) → is_same_basis a a ≡ true
own_basis a = ap (λ b. b && is_same_sight a.sight a.sight) (own_rect a.limits) ∙ own_sight a.sight

pub same_is : (a b : Basis) → (is_same_basis a b ≡ true) ↔ (a ≡ b)
same_is a b = (same_basis a b, λ e. ap (is_same_basis a) (sym e) ∙ own_basis a)

not_stale : (kept : Kept) (now : Basis) (b : Bool) → is_same_basis kept.basis now ≡ b → not b ≡ false → is_same_basis kept.basis now ≡ true
not_stale kept now true e stale = e
not_stale kept now false e stale = let wrong : true ≡ false = stale in absurd (let no : ⊥ = cc in no)

still_found : (scene : Scene) (standings : Root → ℕ → Standing) (it : IntersectionObservers) (serial : ℕ) (between : List Container) (kept : Kept) → seen_finding kept.finding ≡ found_from (observer_of it serial).thresholds kept.basis → is_stale (Some kept) (basis_for scene standings it serial between) ≡ false → seen_finding kept.finding ≡ finding_for scene standings it serial between
still_found scene standings it serial between kept found fresh =
    let now = basis_for scene standings it serial between in
    let same = same_basis kept.basis now (not_stale kept now (is_same_basis kept.basis now) refl fresh) in
    found ∙ ap (found_from (observer_of it serial).thresholds) same
    ∙ found_is scene (standing_for standings it serial) (observer_of it serial) (target_of it serial) between

of_last : (scene : Scene) (standings : Root → ℕ → Standing) (it : IntersectionObservers) (serial : ℕ) (between : List Container) (last : Option Kept)
    → IsFound (observer_of it serial).thresholds last → is_stale last (basis_for scene standings it serial between) ≡ false
    → IsSome last × IfSome last (λ (kept : Kept). seen_finding kept.finding ≡ finding_for scene standings it serial between)
of_last scene standings it serial between None found fresh = never (sym fresh)
of_last scene standings it serial between (Some kept) found fresh = (refl, still_found scene standings it serial between kept found fresh)

pub still_kept : (scene : Scene) (standings : Root → ℕ → Standing) (it : IntersectionObservers) (between : ℕ → List Container) (kept : FinMap nat_cmp (Option Kept)) (serial : ℕ)
    → AreFound it kept → is_stale_now scene standings it between kept serial ≡ false
    → IsSome (kept_of kept serial) × IfSome (kept_of kept serial) (λ (last : Kept). seen_finding last.finding ≡ finding_for scene standings it serial (between serial))
still_kept scene standings it between kept serial found fresh = of_last scene standings it serial (between serial) (kept_of kept serial) (found.found serial) fresh
