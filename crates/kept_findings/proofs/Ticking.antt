-- The steps that clips take: none that is asked for makes another one take more.
use Rattle.std.proofs.Common.{◌≡◌, ◌∙◌, ℕ, ◌<◌, ◌≤◌, Bool, true, false, cond, ◌&&◌, nat_lt, nat_le, List, [], ◌∷◌, length, ap, refl, sym, subst, inl, inr, arith}
use Rattle.std.specs.Prelude.{sum_by}
use Rattle.std.specs.List.{list_all}
use Rattle.std.proofs.lemmas.Bool.{eq-eqb}
use Rattle.std.proofs.lemmas.List.Sums.{sum_by-cons}
use Rattle.std.proofs.lemmas.Bool.Decides.{nat_tests}
use Rattle.page_model.specs.World.{Root, IntersectionObservers}
use Rattle.element_tree.specs.declared.container.Container.{Container}
use Rattle.clip_chain.specs.Scenes.{Scene}
use Rattle.kept_clips.specs.declared.clip.Clip.{Clip}
use Rattle.kept_clips.specs.declared.pair.Pair.{Pair}
use Rattle.kept_clips.specs.Clips.{clip_between}
use Rattle.kept_clips.specs.Touches.{last_number, last_touch}
use Rattle.kept_clips.specs.Held.{HeldClips, pair_of, computed_now, with_clip}
use Rattle.kept_clips.specs.Chains.{chain_of, is_untouched, stands, is_current}
use Rattle.kept_clips.specs.Numbers.{AreNumbered}
use Rattle.kept_clips.proofs.Pairs.{of_inserted}
use Rattle.candidate_index.specs.declared.scene.Standing.{Standing}
use Rattle.candidate_index.specs.declared.scene.Standing.TheVariants.{Apart, NoBox, Chained}
use Rattle.candidate_index.specs.Registrations.{standing_for}
use Rattle.candidate_index.specs.Asked.{asked_if, asked_for, steps_asked, steps_if, steps_for, all_steps}
use Rattle.kept_findings.proofs.Settled.{numbers_apart, apart_test}

at_most_all : (b : Bool) (n : ℕ) → cond b 0 n ≤ n
at_most_all true n = omega arith
at_most_all false n = omega arith

-- a clip that is computed at a number of touches that isn't the last one is current
untouched_now : (it : HeldClips) → AreNumbered it → (spots : List Container) → list_all (is_untouched it.touches it.touches.count) spots ≡ true
untouched_now it numbered [] = refl
untouched_now it numbered (spot ∷ spots) =
    let early : nat_le (last_touch it.touches spot) it.touches.count ≡ true = le_test (last_touch it.touches spot) it.touches.count (numbered.touched spot) in
    ap (λ b. b && list_all (is_untouched it.touches it.touches.count) spots) early ∙ untouched_now it numbered spots
  where
    le_test : (m n : ℕ) → m ≤ n → nat_le m n ≡ true
    le_test m n h = grind (arith, nat_tests)

below_test : (m n : ℕ) → m < n → nat_lt m n ≡ true
below_test m n h = grind (arith, nat_tests)

pub current_now : (it : HeldClips) (serial : ℕ) (clip : Clip) (between : List Container) → AreNumbered it → it.touches.count < last_number → is_current (with_clip serial clip it) serial between ≡ true
current_now it serial clip between numbered below =
    let pair : Pair = computed_now clip (it.touches) (pair_of it serial) in
    let own : pair_of (with_clip serial clip it) serial ≡ pair = of_inserted it serial serial pair ∙ ap (λ b. cond b pair (pair_of it serial)) (eq-eqb serial serial refl) in
    ap (λ (p : Pair). stands it.touches p.computed (chain_of p between)) own
    ∙ ap (λ b. b && list_all (is_untouched it.touches it.touches.count) (chain_of pair between)) (below_test it.touches.count last_number below)
    ∙ untouched_now it numbered (chain_of pair between)

module _ (scene : Scene) (standings : Root → ℕ → Standing) (it : IntersectionObservers) (between : ℕ → List Container) where
  -- another pair stays as it is
  pub current_apart : (serial other : ℕ) (clip : Clip) (clips : HeldClips) → (¬ other ≡ serial) → is_current (with_clip serial clip clips) other (between other) ≡ is_current clips other (between other)
  current_apart serial other clip clips apart =
      let pair : Pair = computed_now clip (clips.touches) (pair_of clips serial) in
      ap (λ (p : Pair). stands clips.touches p.computed (chain_of p (between other)))
      (of_inserted clips serial other pair ∙ ap (λ b. cond b pair (pair_of clips other)) (apart_test other serial apart))

  by_current : (serial other : ℕ) (clip : Clip) (clips : HeldClips) (b : Bool) → is_current clips serial (between serial) ≡ b
      → steps_asked (between other) other (cond b clips (with_clip serial clip clips)) ≤ steps_asked (between other) other clips
  by_current serial other clip clips true e = omega arith
  by_current serial other clip clips false e = elim (numbers_apart other serial) [
    | inl same ↦
        let all : steps_asked (between other) other clips ≡ length (between other) =
        ap (λ n. cond (is_current clips n (between n)) 0 (length (between other))) same ∙ ap (λ b. cond b 0 (length (between other))) e in
        subst (λ n. steps_asked (between other) other (with_clip serial clip clips) ≤ n) (sym all) (at_most_all (is_current (with_clip serial clip clips) other (between other)) (length (between other)))
    | inr apart ↦
        let same : steps_asked (between other) other (with_clip serial clip clips) ≡ steps_asked (between other) other clips = ap (λ b. cond b 0 (length (between other))) (current_apart serial other clip clips apart) in
        omega (arith, same)
  ]

  asked_less : (one two : Standing) (serial other : ℕ) (clips : HeldClips) → steps_if two (between other) other (asked_if one scene (between serial) serial clips) ≤ steps_if two (between other) other clips
  asked_less Apart two serial other clips = omega arith
  asked_less NoBox two serial other clips = omega arith
  asked_less Chained Apart serial other clips = omega arith
  asked_less Chained NoBox serial other clips = omega arith
  asked_less Chained Chained serial other clips = by_current serial other (clip_between scene (between serial)) clips (is_current clips serial (between serial)) refl

  -- a clip that is asked for makes no other take more
  pub steps_less : (serial other : ℕ) (clips : HeldClips) → steps_for scene standings it between other (asked_for scene standings it between serial clips) ≤ steps_for scene standings it between other clips
  steps_less serial other clips = asked_less (standing_for standings it serial) (standing_for standings it other) serial other clips

  sum_less : (f g : ℕ → ℕ) → ((n : ℕ) → f n ≤ g n) → (ns : List ℕ) → sum_by f ns ≤ sum_by g ns
  sum_less f g each [] = omega arith
  sum_less f g each (n ∷ ns) = let one = each n in let rest = sum_less f g each ns in omega (arith, one, rest, sum_by-cons f n ns, sum_by-cons g n ns)

  -- all of them together take no more than each alone would
  pub all_steps_less : (serials : List ℕ) (clips : HeldClips) → all_steps scene standings it between serials clips ≤ sum_by (λ serial. steps_for scene standings it between serial clips) serials
  all_steps_less [] clips = omega arith
  all_steps_less (serial ∷ serials) clips =
      let next : HeldClips = asked_for scene standings it between serial clips in
      let rest : all_steps scene standings it between serials next ≤ sum_by (λ s. steps_for scene standings it between s next) serials = all_steps_less serials next in
      let less : sum_by (λ s. steps_for scene standings it between s next) serials ≤ sum_by (λ s. steps_for scene standings it between s clips) serials =
      sum_less (λ s. steps_for scene standings it between s next) (λ s. steps_for scene standings it between s clips) (λ s. steps_less serial s clips) serials in
      omega (arith, rest, less, sum_by-cons (λ s. steps_for scene standings it between s clips) serial serials)

  none_by : (clips : HeldClips) → AreNumbered clips → clips.touches.count < last_number → (serial : ℕ) (b : Bool) → is_current clips serial (between serial) ≡ b
      → steps_asked (between serial) serial (cond b clips (with_clip serial (clip_between scene (between serial)) clips)) ≡ 0
  none_by clips numbered below serial true e = ap (λ b. cond b 0 (length (between serial))) e
  none_by clips numbered below serial false e = ap (λ b. cond b 0 (length (between serial))) (current_now clips serial (clip_between scene (between serial)) (between serial) numbered below)

  none_if : (one : Standing) (clips : HeldClips) → AreNumbered clips → clips.touches.count < last_number → (serial : ℕ) → steps_if one (between serial) serial (asked_if one scene (between serial) serial clips) ≡ 0
  none_if Apart clips numbered below serial = refl
  none_if NoBox clips numbered below serial = refl
  none_if Chained clips numbered below serial = none_by clips numbered below serial (is_current clips serial (between serial)) refl

  -- and one that was asked for takes none the next time
  pub none_again : (clips : HeldClips) → AreNumbered clips → clips.touches.count < last_number → (serial : ℕ) → steps_for scene standings it between serial (asked_for scene standings it between serial clips) ≡ 0
  none_again clips numbered below serial = none_if (standing_for standings it serial) clips numbered below serial
