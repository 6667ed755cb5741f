-- The steps that looking for stale registrations and settling them takes.
use Rattle.std.proofs.Common.{◌≡◌, ◌∙◌, ℕ, ◌<◌, ◌≤◌, ◌+◌, ◌*◌, Bool, true, false, cond, nat_lt, not, List, [], ◌∷◌, length, take, filter, get_or, refl, ap, sym, subst, inl, inr, arith}
use Rattle.std.specs.Prelude.{All, sum_by, count_by, IsSome}
use Rattle.std.proofs.lemmas.Bool.{eq-eqb}
use Rattle.std.proofs.lemmas.Bool.Decides.{nat_tests}
use Rattle.std.proofs.lemmas.List.{length-map}
use Rattle.std.proofs.lemmas.List.Elements.{All-cons, All-nil, All-head, All-tail}
use Rattle.std.proofs.lemmas.List.Filters.{sum_by-filter_both}
use Rattle.std.proofs.lemmas.List.Sums.{sum_by-cons, sum_by-take-le, sum_by_more, length-filter}
use Rattle.page_model.specs.World.{Root, IntersectionObservers}
use Rattle.element_tree.specs.declared.container.Container.{Container}
use Rattle.clip_chain.specs.Scenes.{Scene}
use Rattle.kept_clips.specs.declared.clip.Clip.{Clip}
use Rattle.kept_clips.specs.declared.pair.Pair.{Pair}
use Rattle.kept_clips.specs.Clips.{clip_between}
use Rattle.kept_clips.specs.Touches.{Touched, last_number}
use Rattle.kept_clips.specs.Held.{HeldClips, pair_of, computed_now, with_clip}
use Rattle.kept_clips.specs.Chains.{is_current}
use Rattle.kept_clips.specs.Numbers.{AreNumbered}
use Rattle.kept_clips.proofs.Pairs.{of_inserted, numbered_inserted}
use Rattle.intersection_observer.specs.declared.registration.RegistrationId.{RegistrationId}
use Rattle.intersection_observer.specs.Seen.{serial_numbers}
use Rattle.candidate_index.specs.declared.scene.Standing.{Standing}
use Rattle.candidate_index.specs.declared.scene.Standing.TheVariants.{Apart, NoBox, Chained}
use Rattle.candidate_index.specs.Registrations.{standing_for}
use Rattle.candidate_index.specs.Asked.{asked_if, asked_for, steps_for, all_asked, all_steps}
use Rattle.kept_findings.proofs.Settled.{numbers_apart, apart_test}
use Rattle.kept_findings.proofs.Ticking.{steps_less, all_steps_less, none_again}
use Rattle.intersection_update.specs.Keeping.{KeepsComputed}

module _ (scene : Scene) (standings : Root → ℕ → Standing) (it : IntersectionObservers) (between : ℕ → List Container) where
  abbrev pub cost : ℕ → HeldClips → ℕ
  cost serial clips = steps_for scene standings it between serial clips

  abbrev after : ℕ → HeldClips → HeldClips
  after serial clips = asked_for scene standings it between serial clips

  numbered_once : (b : Bool) (serial : ℕ) (clip : Clip) (clips : HeldClips) → AreNumbered clips → AreNumbered (cond b clips (with_clip serial clip clips))
  numbered_once true serial clip clips numbered = numbered
  numbered_once false serial clip clips numbered = numbered_inserted clips serial (computed_now clip (clips.touches) (pair_of clips serial)) (omega arith) numbered

  numbered_if : (s : Standing) (serial : ℕ) (clips : HeldClips) → AreNumbered clips → AreNumbered (asked_if s scene (between serial) serial clips)
  numbered_if Apart serial clips numbered = numbered
  numbered_if NoBox serial clips numbered = numbered
  numbered_if Chained serial clips numbered = numbered_once (is_current clips serial (between serial)) serial (clip_between scene (between serial)) clips numbered

  touches_once : (b : Bool) (serial : ℕ) (clip : Clip) (clips : HeldClips) → (cond b clips (with_clip serial clip clips)).touches ≡ clips.touches
  touches_once true serial clip clips = refl
  touches_once false serial clip clips = refl

  touches_if : (s : Standing) (serial : ℕ) (clips : HeldClips) → (asked_if s scene (between serial) serial clips).touches ≡ clips.touches
  touches_if Apart serial clips = refl
  touches_if NoBox serial clips = refl
  touches_if Chained serial clips = touches_once (is_current clips serial (between serial)) serial (clip_between scene (between serial)) clips

  pub numbered_asked : (serial : ℕ) (clips : HeldClips) → AreNumbered clips → AreNumbered (after serial clips)
  numbered_asked serial clips numbered = numbered_if (standing_for standings it serial) serial clips numbered

  pub touches_asked : (serial : ℕ) (clips : HeldClips) → (after serial clips).touches ≡ clips.touches
  touches_asked serial clips = touches_if (standing_for standings it serial) serial clips

  -- clips that are asked for make no other take more
  pub less_all : (serials : List ℕ) (other : ℕ) (clips : HeldClips) → cost other (all_asked scene standings it between serials clips) ≤ cost other clips
  less_all [] other clips = omega arith
  less_all (serial ∷ serials) other clips =
      let rest : cost other (all_asked scene standings it between serials (after serial clips)) ≤ cost other (after serial clips) = less_all serials other (after serial clips) in
      let one : cost other (after serial clips) ≤ cost other clips = steps_less scene standings it between serial other clips in
      omega (arith, rest, one)

  -- and then take none themselves
  pub none_left : (serials : List ℕ) (clips : HeldClips) → AreNumbered clips → clips.touches.count < last_number → All (λ serial. cost serial (all_asked scene standings it between serials clips) ≡ 0) serials
  none_left [] clips numbered below = All-nil (λ serial. cost serial clips ≡ 0)
  none_left (serial ∷ serials) clips numbered below =
      let next : HeldClips = after serial clips in
      let rest : cost serial (all_asked scene standings it between serials next) ≤ cost serial next = less_all serials serial next in
      let none : cost serial next ≡ 0 = none_again scene standings it between clips numbered below serial in
      All-cons (λ other. cost other (all_asked scene standings it between serials next) ≡ 0) serial serials (omega (arith, rest, none))
      (none_left serials next (numbered_asked serial clips numbered) (subst (λ (t : Touched). t.count < last_number) (sym (touches_asked serial clips)) below))

  -- the pair of another one stays
  apart_once : (b : Bool) (serial other : ℕ) (clip : Clip) (clips : HeldClips) → (¬ other ≡ serial) → pair_of (cond b clips (with_clip serial clip clips)) other ≡ pair_of clips other
  apart_once true serial other clip clips apart = refl
  apart_once false serial other clip clips apart =
      let pair : Pair = computed_now clip (clips.touches) (pair_of clips serial) in
      of_inserted clips serial other pair ∙ ap (λ b. cond b pair (pair_of clips other)) (apart_test other serial apart)

  -- and once a clip was computed one is
  computed_once : (b : Bool) (serial other : ℕ) (clip : Clip) (clips : HeldClips) → IsSome (pair_of clips other).computed → IsSome (pair_of (cond b clips (with_clip serial clip clips)) other).computed
  computed_once true serial other clip clips some = some
  computed_once false serial other clip clips some =
      let pair : Pair = computed_now clip (clips.touches) (pair_of clips serial) in
      elim (numbers_apart other serial) [
        | inl same ↦ subst (λ (p : Pair). IsSome p.computed) (sym (of_inserted clips serial other pair ∙ ap (λ b. cond b pair (pair_of clips other)) (eq-eqb other serial same))) refl
        | inr apart ↦ subst (λ (p : Pair). IsSome p.computed) (sym (of_inserted clips serial other pair ∙ ap (λ b. cond b pair (pair_of clips other)) (apart_test other serial apart))) some
      ]

  computed_if : (s : Standing) (serial : ℕ) (clips : HeldClips) → KeepsComputed clips (asked_if s scene (between serial) serial clips)
  computed_if Apart serial clips other some = some
  computed_if NoBox serial clips other some = some
  computed_if Chained serial clips other some = computed_once (is_current clips serial (between serial)) serial other (clip_between scene (between serial)) clips some

  pub computed_asked : (serial : ℕ) (before clips now : HeldClips) → KeepsComputed before clips → now ≡ after serial clips → KeepsComputed before now
  computed_asked serial before clips now so_far is =
      subst (KeepsComputed before) (sym is) (λ other some. computed_if (standing_for standings it serial) serial clips other (so_far other some))

  computed_each : (serials : List ℕ) (clips : HeldClips) → KeepsComputed clips (all_asked scene standings it between serials clips)
  computed_each [] clips other some = some
  computed_each (serial ∷ serials) clips other some = computed_each serials (after serial clips) other (computed_if (standing_for standings it serial) serial clips other some)

  pub computed_all : (serials : List ℕ) (before clips now : HeldClips) → KeepsComputed before clips → now ≡ all_asked scene standings it between serials clips → KeepsComputed before now
  computed_all serials before clips now so_far is = subst (KeepsComputed before) (sym is) (λ other some. computed_each serials clips other (so_far other some))

  apart_if : (s : Standing) (serial other : ℕ) (clips : HeldClips) → (¬ other ≡ serial) → pair_of (asked_if s scene (between serial) serial clips) other ≡ pair_of clips other
  apart_if Apart serial other clips apart = refl
  apart_if NoBox serial other clips apart = refl
  apart_if Chained serial other clips apart = apart_once (is_current clips serial (between serial)) serial other (clip_between scene (between serial)) clips apart

  pub apart_asked : (serial other : ℕ) (clips now : HeldClips) → (¬ other ≡ serial) → now ≡ after serial clips → pair_of now other ≡ pair_of clips other
  apart_asked serial other clips now apart is = ap (λ (held : HeldClips). pair_of held other) is ∙ apart_if (standing_for standings it serial) serial other clips apart

  apart_all : (serials : List ℕ) (other : ℕ) (clips : HeldClips) → All (λ serial. ¬ other ≡ serial) serials → pair_of (all_asked scene standings it between serials clips) other ≡ pair_of clips other
  apart_all [] other clips apart = refl
  apart_all (serial ∷ serials) other clips apart =
      apart_all serials other (after serial clips) (All-tail (λ s. ¬ other ≡ s) serial serials apart)
      ∙ apart_if (standing_for standings it serial) serial other clips (All-head (λ s. ¬ other ≡ s) serial serials apart)

  -- so many of an observer's stale ones settled, once the clips of all its registrations were asked for
  pub record Paid (first now : HeldClips) (serials : List ℕ) (names : List RegistrationId) (from steps count : ℕ) : Type 0 where
    pub less : (serial : ℕ) → cost serial now ≤ cost serial first
    pub none : now.touches.count < last_number → All (λ serial. cost serial now ≡ 0) serials
    pub others : (other : ℕ) → All (λ serial. ¬ other ≡ serial) serials → pair_of now other ≡ pair_of first other
    pub paid : steps ≤ from + sum_by (λ serial. cost serial first) serials + count + cond (nat_lt now.touches.count last_number) 0 (sum_by (λ (r : RegistrationId). cost r.0 first) (take count names))

  pub paid_first : (first now : HeldClips) (serials : List ℕ) (names : List RegistrationId) (from steps : ℕ) → AreNumbered first → now ≡ all_asked scene standings it between serials first →
      now.touches ≡ first.touches → steps ≡ from + all_steps scene standings it between serials first → Paid first now serials names from steps 0
  paid_first first now serials names from steps numbered is touches all =
      let most = all_steps_less scene standings it between serials first in
      record {
        less = λ serial. let one = less_all serials serial first in subst (λ (clips : HeldClips). cost serial clips ≤ cost serial first) (sym is) one;
        none = λ below.
            subst (λ (clips : HeldClips). All (λ serial. cost serial clips ≡ 0) serials) (sym is)
            (none_left serials first numbered (subst (λ (t : Touched). t.count < last_number) touches below));
        others = λ other apart. ap (λ (clips : HeldClips). pair_of clips other) is ∙ apart_all serials other first apart;
        paid = omega (arith, all, most);
      }

  by_last : (below : Bool) (more few one : ℕ) → (below ≡ true → one ≡ 0) → one ≤ few → cond below 0 more + one ≤ cond below 0 (more + few)
  by_last true more few one none less = let no = none refl in omega (arith, no)
  by_last false more few one none less = omega (arith, less)

  pub paid_more : (first now next : HeldClips) (serials : List ℕ) (names : List RegistrationId) (from steps more count : ℕ) → Paid first now serials names from steps count → count < length names →
      (now.touches.count < last_number → cost (get_or names count (record { 0 = 0 })).0 now ≡ 0) →
      ((other : ℕ) → All (λ serial. ¬ other ≡ serial) serials → ¬ other ≡ (get_or names count (record { 0 = 0 })).0) →
      next ≡ after (get_or names count (record { 0 = 0 })).0 now → more ≡ steps + cost (get_or names count (record { 0 = 0 })).0 now + 1 → Paid first next serials names from more (count + 1)
  paid_more first now next serials names from steps more count so_far there own listed is taken =
      let serial = (get_or names count (record { 0 = 0 })).0 in
      let touches : next.touches ≡ now.touches = ap (λ (clips : HeldClips). clips.touches) is ∙ touches_if (standing_for standings it serial) serial now in
      let less : (other : ℕ) → cost other next ≤ cost other now = λ other.
      let one = steps_less scene standings it between serial other now in
      subst (λ (clips : HeldClips). cost other clips ≤ cost other now) (sym is) one in
      let sum = sum_by_more (λ (r : RegistrationId). cost r.0 first) names count (record { 0 = 0 }) there in
      let one = by_last (nat_lt now.touches.count last_number) (sum_by (λ (r : RegistrationId). cost r.0 first) (take count names)) (cost serial first) (cost serial now)
      (λ below. own (below_by now.touches.count last_number below)) (so_far.less serial) in
      let far = so_far.paid in
      let total : more ≤ from + sum_by (λ s. cost s first) serials + (count + 1) + cond (nat_lt now.touches.count last_number) 0 (sum_by (λ (r : RegistrationId). cost r.0 first) (take count names) + cost serial first) =
      omega (arith, far, one, taken) in
      record {
        less = λ other. let one = less other in let rest = so_far.less other in omega (arith, one, rest);
        none = λ below k none there.
            let before : cost (get_or serials k none) now ≡ 0 = so_far.none (subst (λ (t : Touched). t.count < last_number) touches below) k none there in
            let one = less (get_or serials k none) in
            omega (arith, before, one);
        others = λ other apart.
            ap (λ (clips : HeldClips). pair_of clips other) is ∙ apart_if (standing_for standings it serial) serial other now (listed other apart) ∙ so_far.others other apart;
        paid =
            subst (λ n. more ≤ from + sum_by (λ s. cost s first) serials + (count + 1) + cond (nat_lt next.touches.count last_number) 0 n) (sym sum)
            (subst (λ (t : Touched). more ≤ from + sum_by (λ s. cost s first) serials + (count + 1) + cond (nat_lt t.count last_number) 0 (sum_by (λ (r : RegistrationId). cost r.0 first) (take count names) + cost serial first)) (sym touches) total);
      }
    where
      below_by : (m n : ℕ) → nat_lt m n ≡ true → m < n
      below_by m n is = grind (arith, nat_tests)

  sum_numbers : (f : ℕ → ℕ) (names : List RegistrationId) → sum_by (λ (r : RegistrationId). f r.0) names ≡ sum_by f (serial_numbers names)
  sum_numbers f [] = refl
  sum_numbers f (r ∷ rs) = sum_by-cons (λ (x : RegistrationId). f x.0) r rs ∙ ap (λ n. f r.0 + n) (sum_numbers f rs) ∙ sym (sum_by-cons f r.0 (serial_numbers rs))

  sum_chosen : (f : ℕ → ℕ) (test : ℕ → Bool) (xs : List ℕ) → sum_by f (filter test xs) ≤ sum_by f xs
  sum_chosen f test xs = let both = sum_by-filter_both test (λ x. not (test x)) (λ x. refl) f xs in omega (arith, both)

  by_times : (below : Bool) (steps from all sum count chosen : ℕ) → steps ≤ from + sum + count + cond below 0 all → all ≤ sum → count ≤ chosen → steps ≤ from + (chosen + cond below 1 2 * sum)
  by_times true steps from all sum count chosen paid less few = omega (arith, paid, few)
  by_times false steps from all sum count chosen paid less few = omega (arith, paid, less, few)

  -- what is paid in the end
  pub paid_all : (first now : HeldClips) (serials : List ℕ) (names : List RegistrationId) (test : ℕ → Bool) (from steps count : ℕ) → Paid first now serials names from steps count → count ≤ length names →
      serial_numbers names ≡ filter test serials →
      steps ≤ from + (count_by test serials + cond (nat_lt now.touches.count last_number) 1 2 * sum_by (λ serial. cost serial first) serials)
  paid_all first now serials names test from steps count so_far few same =
      let f : ℕ → ℕ = λ serial. cost serial first in
      let part = sum_by-take-le (λ (r : RegistrationId). f r.0) names count in
      let named : sum_by (λ (r : RegistrationId). f r.0) names ≡ sum_by f (filter test serials) = sum_numbers f names ∙ ap (sum_by f) same in
      let chosen = sum_chosen f test serials in
      let long : length names ≡ count_by test serials = sym (length-map names (λ (r : RegistrationId). r.0)) ∙ ap (λ (ns : List ℕ). length ns) same ∙ length-filter test serials in
      by_times (nat_lt now.touches.count last_number) steps from (sum_by (λ (r : RegistrationId). f r.0) (take count names)) (sum_by f serials) count (count_by test serials) so_far.paid
      (omega (arith, part, named, chosen)) (omega (arith, few, long))

  -- a first one that is the same
  pub paid_from : (first second now : HeldClips) (serials : List ℕ) (names : List RegistrationId) (from steps count : ℕ) → first ≡ second → Paid first now serials names from steps count → Paid second now serials names from steps count
  paid_from first second now serials names from steps count same = subst (λ (clips : HeldClips). Paid clips now serials names from steps count) same

pub with_touches : (before now : HeldClips) (touches : Touched) → now.pairs ≡ before.pairs → touches ≡ now.touches → now ≡ record before { touches = touches }
with_touches before now touches pairs same = λ i. record { touches = sym same i; pairs = pairs i }

-- pairs that stay
pub pair_same : (before now : HeldClips) → now.pairs ≡ before.pairs → (serial : ℕ) → pair_of now serial ≡ pair_of before serial
pair_same before now same serial = ap (λ pairs. pair_of (record before { pairs = pairs }) serial) same

-- and are as computed
pub computed_same : (before now : HeldClips) → now.pairs ≡ before.pairs → KeepsComputed before now
computed_same before now same serial some = subst (λ pairs. IsSome (pair_of (record before { pairs = pairs }) serial).computed) (sym same) some
