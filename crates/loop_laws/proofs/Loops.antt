-- The rounds of a loop fall in measure, so that no bound above it cuts them off; they go deeper, so that they are few; and what has changed
-- as they end is skipped, so that the error tells of it.
use Rattle.std.proofs.Common.{◌≡◌, refl, ap, sym, subst, ◌∙◌, arith, ◌≤◌, true≢false}
use Rattle.std.specs.Prelude.{ℕ, ◌+◌, ◌-◌, ◌*◌, ◌<◌, Bool, true, false, ◌&&◌, List, [], ◌∷◌, length, count_by, unwrap_or, zero, suc, min, max, fold, flat_map, sum_by, ⊤, not, cond, ◌||◌, map, filter}
use Rattle.std.specs.List.{AllByRecursion, list_any}
use Rattle.std.proofs.lemmas.List.Sums.{sum_by-cons}
use Rattle.std.proofs.lemmas.Bool.{and_parts, or_parts}
use Rattle.page_model.specs.World.{World, ResizeObserver}
use Rattle.page_model.specs.Documents.{is_active}
use Rattle.page_model.specs.Gathering.{has_active, Sight, sight_of, has_changed, is_deeper, is_of, gathered_if, is_filled, has_skipped}
use Rattle.page_model.specs.Runs.{Next, Said, ◌followed_by◌, only_if, most_steps, Flow, Thrown, Limited, repeat}
use Rattle.page_model.specs.Callbacks.{Script}
use Rattle.page_model.specs.Loop.{Broadcast, gather, broadcast, round, round_ended, report_skipped, resize_loop}
use Rattle.page_laws.specs.Bounds.{IsWithinLimits}
use Rattle.page_laws.proofs.Limits.{most-commands}
use Rattle.page_laws.proofs.Turns.{gather-within, broadcast-within, round-within}
use Rattle.loop_laws.specs.Moments.{broadcast_moments, onward, following, listed_if, along_repeat}
use Rattle.loop_laws.specs.Rounds.{goes_on, rounds_up_to, round_depth, IsDeeper, rounds_left}
use Rattle.loop_laws.specs.Uprooting.{uproots, gathered_targets, uprootings}
use Rattle.loop_laws.specs.WholeLoops.{round_starts, delivered_depths, greatest, GoesDeeper, resize_rounds, has_undelivered, fire_error}
use Rattle.loop_laws.proofs.Folds.{by-flow, all-split}
use Rattle.loop_laws.proofs.Standing.{broadcast-counts, broadcast-outside}
use Rattle.loop_laws.proofs.Depths.{rounds-go-deeper, of-some, round_depth-bounded, depth-positive, shallowest-in, all-delivered}
use Rattle.loop_laws.proofs.Waiting.{gather-deeper}
use Rattle.loop_laws.proofs.Bounded.{IsLess, same-bounds, rests, then-same}
use Rattle.loop_laws.proofs.Found.{round-finds}

-- a round without a command uproots nothing

none-counted : {A : Type 0} (test : A → Bool) (xs : List A) → length xs ≡ 0 → count_by test xs ≡ 0
none-counted test [] none = refl
none-counted test (x ∷ xs) none = absurd (let impossible : ⊥ = omega (arith, none) in impossible)

none-more : (begun now count : ℕ) → now ≡ begun + count → now ≡ begun → count ≡ 0
none-more begun now count is same = omega (arith, is, same)

none-uprooted : (script : Script) (document : ℕ) (start : World) → (broadcast script document start).state.world.begun ≡ start.begun →
    uprootings script document start ≡ 0
unfolding uprootings
none-uprooted script document start same =
    none-counted (uproots script (gathered_targets document start)) (broadcast_moments script document start)
    (none-more (start.begun) _ _ (broadcast-counts script document start) same)

round-deeper : (script : Script) (document depth : ℕ) (start : World) → IsWithinLimits start → IsDeeper document depth start →
    goes_on document start ≡ true → (broadcast script document start).state.world.begun ≡ start.begun → depth < round_depth script document start
round-deeper script document depth start within deeper goes same =
    rounds-go-deeper script document depth start within deeper goes (none-uprooted script document start same)

-- a round ---------------------------------------------------------------------------------------------------------------------

-- a round that ends with the document Active ends by gathering at its depth
ended-as : (document : ℕ) (so_far : Broadcast) (active : Bool) → is_active (so_far.world.tree) document ≡ active →
    is_active ((only_if (round_ended document) so_far active).state.world.tree) document ≡ true →
    (only_if (round_ended document) so_far active).state.world ≡ gather document (unwrap_or (so_far.shallowest) 0) (so_far.world)
ended-as document so_far true is still = refl
ended-as document so_far false is still = absurd (true≢false (sym still ∙ is))

pub round-gathers : (script : Script) (document : ℕ) (start : World) → (round script document start).flow ≡ Next →
    is_active ((round script document start).state.tree) document ≡ true →
    (round script document start).state ≡ gather document (round_depth script document start) (broadcast script document start).state.world
unfolding round_depth
round-gathers script document start =
    let said = broadcast script document start in
    by-flow (λ (it : Said Broadcast). it.flow ≡ Next → is_active (it.state.world.tree) document ≡ true →
    it.state.world ≡ gather document (unwrap_or (said.state.shallowest) 0) (said.state.world)) _ said
    (λ is next active. ended-as document (said.state) (is_active (said.state.world.tree) document) refl active) (λ never next. absurd (never next))

gather-begun : (document depth : ℕ) (world : World) → (gather document depth world).begun ≡ world.begun
unfolding gather
gather-begun document depth world = refl

-- one more command, or a greater depth
less-left : (begun now depth least : ℕ) → begun ≤ now → now ≤ 2000000 → least ≤ 65537 → (now ≡ begun → depth < least) →
    (2000000 - now) * 65538 + (65537 - least) < (2000000 - begun) * 65538 + (65537 - depth)
less-left begun now depth least more most bounded deeper = grind (arith, more, most, bounded, deeper)

-- commands begun are within the limit of any version
pub few-begun : (world : World) → IsWithinLimits world → world.begun ≤ 2000000
few-begun world within = omega (arith, within.commands, most-commands (world.version))

pub begins-below : (world : World) → rounds_left world 0 < most_steps
begins-below world = omega arith

module _ (script : Script) (document : ℕ) where
  pub round-falls : (depth : ℕ) (start : World) → IsWithinLimits start → IsDeeper document depth start → goes_on document start ≡ true →
      (round script document start).flow ≡ Next → is_active ((round script document start).state.tree) document ≡ true →
      IsDeeper document (round_depth script document start) (round script document start).state
      × (rounds_left ((round script document start).state) (round_depth script document start) < rounds_left start depth)
  round-falls depth start within deeper goes next active =
      let after = (broadcast script document start).state.world in
      let least = round_depth script document start in
      let most : after.begun ≤ 2000000 = few-begun after (broadcast-within script start within document) in
      let more : start.begun ≤ after.begun = (broadcast-outside script document start).begun in
      subst (λ (world : World). IsDeeper document least world × (rounds_left world least < rounds_left start depth))
      (sym (round-gathers script document start next active)) (
        gather-deeper document least after,
        subst (λ (begun : ℕ). (2000000 - begun) * 65538 + (65537 - least) < rounds_left start depth) (sym (gather-begun document least after))
            (less-left (start.begun) (after.begun) depth least more most (round_depth-bounded script document start)
            (round-deeper script document depth start within deeper goes)),
      )

  pub record IsRoundLeft (left : ℕ) (world : World) : Type 0 where
    depth : ℕ
    deeper : IsDeeper document depth world
    within : IsWithinLimits world
    most : rounds_left world depth ≤ left

  pub falls : (left : ℕ) (world : World) → IsRoundLeft left world → goes_on document world ≡ true → (round script document world).flow ≡ Next →
      goes_on document (round script document world).state ≡ true →
      IsLess (goes_on document) (round script document) IsRoundLeft left (round script document world).state
  falls left world is goes next still =
      let after = (round script document world).state in
      let fell = round-falls (is.depth) world (is.within) (is.deeper) goes next ((and_parts _ (has_active document (after.resize_observers)) still).0) in
      record {
        now = rounds_left after (round_depth script document world);
        less = omega (arith, fell.1, is.most);
        is = record {
          depth = round_depth script document world;
          deeper = fell.0;
          within = round-within script world (is.within) document;
          most = omega arith;
        };
      }

  module _ (world : World) (depth : ℕ) (within : IsWithinLimits world) (deeper : IsDeeper document depth world) where
    pub left : IsRoundLeft (rounds_left world depth) world
    left = record { depth = depth; deeper = deeper; within = within; most = omega arith }

    pub rounds-rest : (most : ℕ) → rounds_left world depth < most → (rounds_up_to most script document world).flow ≡ Next →
        goes_on document (rounds_up_to most script document world).state ≡ false
    unfolding rounds_up_to
    rounds-rest most fits next = rests (goes_on document) (round script document) IsRoundLeft falls most (rounds_left world depth) world left fits next

pub loop-same : (script : Script) (document : ℕ) (world : World) → IsWithinLimits world → (most : ℕ) → rounds_left world 0 < most →
    resize_loop script document world ≡ (rounds_up_to most script document (gather document 0 world) followed_by report_skipped script document)
unfolding resize_loop rounds_up_to
loop-same script document world within most fits =
    let start = gather document 0 world in
    let begun : start.begun ≡ world.begun = gather-begun document 0 world in
    ap (λ (said : Said World). said followed_by report_skipped script document)
    (same-bounds (goes_on document) (round script document) (IsRoundLeft script document) (falls script document) most_steps most (rounds_left world 0) start
    (record {
      depth = 0;
      deeper = gather-deeper document 0 world;
      within = gather-within script world within document 0;
      most = subst (λ (n : ℕ). (2000000 - n) * 65538 + 65537 ≤ rounds_left world 0) (sym begun) (omega arith);
    }) (begins-below world) fits)

module _ (script : Script) (document : ℕ) where
  depth-in : (P : ℕ → Type 0) → ((a b : ℕ) → P a → P b → P (min a b)) → (world : World) → IsWithinLimits world → goes_on document world ≡ true →
      AllByRecursion P (delivered_depths script document world) → P (round_depth script document world)
  unfolding round_depth
  depth-in P least world within goes all =
      of-some P (broadcast script document world).state.shallowest (round-finds script document world (within.resize_observers) goes)
      (shallowest-in script document P least world all)

  -- from round to round ------------------------------------------------------------------------------------------------------

  abbrev starts_from : ℕ → World → List World
  starts_from most now = along_repeat (goes_on document) (λ now. now ∷ []) (round script document) most now

  -- what is known of a round behind one of this depth
  record IsRound (before : ℕ) (start : World) : Type 0 where
    deeper : uprootings script document start ≡ 0 → before < round_depth script document start
    positive : 0 < round_depth script document start
    most : (most : ℕ) → AllByRecursion (λ depth. depth ≤ most) (delivered_depths script document start) → round_depth script document start ≤ most

  abbrev AreRounds : ℕ → List World → Type 0
  AreRounds before [] = ⊤
  AreRounds before (start ∷ others) = IsRound before start × AreRounds (round_depth script document start) others

  is-round : (depth : ℕ) (start : World) → IsWithinLimits start → IsDeeper document depth start → goes_on document start ≡ true → IsRound depth start
  is-round depth start within deeper goes = record {
    deeper = rounds-go-deeper script document depth start within deeper goes;
    positive =
        depth-in (λ d. 0 < d) (λ a b one other. omega (arith, one, other)) start within goes (all-delivered script document (λ d. 0 < d) depth-positive start);
    most = λ most all. depth-in (λ d. d ≤ most) (λ a b one other. omega (arith, one, other)) start within goes all;
  }

  -- the rounds behind one
  others-are : (most depth : ℕ) (now : World) (flow : Flow) → (flow ≡ Next → AreRounds depth (starts_from most now)) → AreRounds depth (onward flow (starts_from most) now)
  unfolding onward
  others-are most depth now Next each = each refl
  others-are most depth now Thrown each = tt
  others-are most depth now Limited each = tt

  rounds-if : (most depth : ℕ) (start : World) (goes : Bool) → goes_on document start ≡ goes → IsWithinLimits start →
      (is_active (start.tree) document ≡ true → IsDeeper document depth start) →
      ((depth : ℕ) (start : World) → IsWithinLimits start → (is_active (start.tree) document ≡ true → IsDeeper document depth start) →
      AreRounds depth (starts_from most start)) →
      AreRounds depth (listed_if (λ now. now ∷ following (round script document now) (starts_from most)) start goes)
  rounds-if most depth start false goes within deeper each = tt
  rounds-if most depth start true goes within deeper each =
      let deep = deeper ((and_parts _ (has_active document (start.resize_observers)) goes).0) in
      let ended = round script document start in (
        is-round depth start within deep goes,
        others-are most (round_depth script document start) (ended.state) (ended.flow)
            (λ next. each (round_depth script document start) (ended.state) (round-within script start within document)
            (λ active. (round-falls script document depth start within deep goes next active).0)),
      )

  rounds-from : (most depth : ℕ) (start : World) → IsWithinLimits start → (is_active (start.tree) document ≡ true → IsDeeper document depth start) →
      AreRounds depth (starts_from most start)
  unfolding along_repeat
  rounds-from zero depth start within deeper = tt
  rounds-from (suc most) depth start within deeper = rounds-if most depth start (goes_on document start) refl within deeper (rounds-from most)

  rounds-deeper : (before : ℕ) (starts : List World) → AreRounds before starts → GoesDeeper script document before starts
  rounds-deeper before [] are = tt
  rounds-deeper before (start ∷ others) are = ((are.0).deeper, rounds-deeper (round_depth script document start) others (are.1))

  -- counting -----------------------------------------------------------------------------------------------------------------

  abbrev moves : List World → ℕ
  moves starts = sum_by (uprootings script document) starts

  first-bound : (before most : ℕ) → before ≤ most → 0 + before ≤ suc 0 * most
  first-bound before most is = omega (arith, is)

  next-bound : (uprooted before depth count more most : ℕ) → before ≤ most → (uprooted ≡ 0 → before < depth) → 0 < depth → count + depth ≤ suc more * most →
      suc count + before ≤ suc (uprooted + more) * most
  next-bound zero before depth count more most is deeper positive others = let less : before < depth = deeper refl in omega (arith, less, others)
  next-bound (suc uprooted) before depth count more most is deeper positive others = omega (arith, is, positive, others)

  bound : (most before : ℕ) (starts : List World) → before ≤ most → AreRounds before starts →
      AllByRecursion (λ depth. depth ≤ most) (flat_map (delivered_depths script document) starts) → length starts + before ≤ suc (moves starts) * most
  bound most before [] is are all = first-bound before most is
  bound most before (start ∷ others) is are all =
      let parts = all-split (λ depth. depth ≤ most) (delivered_depths script document start) (flat_map (delivered_depths script document) others) all in
      let below : round_depth script document start ≤ most = (are.0).most most (parts.0) in
      subst (λ (n : ℕ). suc (length others) + before ≤ suc n * most) (sym (sum_by-cons (uprootings script document) start others))
      (next-bound (uprootings script document start) before (round_depth script document start) (length others) (moves others) most is
      ((are.0).deeper) ((are.0).positive) (bound most (round_depth script document start) others below (are.1) (parts.1)))

fold-greatest : (a : ℕ) (xs : List ℕ) → (a ≤ fold max a xs) × AllByRecursion (λ depth. depth ≤ fold max a xs) xs
fold-greatest a [] = (omega arith, tt)
fold-greatest a (x ∷ xs) =
    let others = fold-greatest (max a x) xs in
    let upper : max a x ≤ fold max (max a x) xs = others.0 in
    (omega (arith, upper), (omega (arith, upper), others.1))

module _ (script : Script) (document : ℕ) (world : World) (within : IsWithinLimits world) where
  rounds-first : AreRounds script document 0 (starts_from script document most_steps (gather document 0 world))
  rounds-first =
      rounds-from script document most_steps 0 (gather document 0 world) (gather-within script world within document 0)
      (λ active. gather-deeper document 0 world)

  pub loop-goes-deeper : GoesDeeper script document 0 (round_starts script document world)
  unfolding round_starts
  loop-goes-deeper = rounds-deeper script document 0 _ rounds-first

  pub loop-ends : length (round_starts script document world)
      ≤ suc (sum_by (uprootings script document) (round_starts script document world))
      * greatest (flat_map (delivered_depths script document) (round_starts script document world))
  unfolding round_starts
  loop-ends =
      let starts = starts_from script document most_steps (gather document 0 world) in
      let depths = flat_map (delivered_depths script document) starts in
      let bounded : length starts + 0 ≤ suc (moves script document starts) * greatest depths =
      bound script document (greatest depths) 0 starts (omega arith) rounds-first ((fold-greatest 0 depths).1) in
      omega (arith, bounded)

-- one observer's lists

kept-any : {A : Type 0} (test : A → Bool) (xs : List A) → is_filled (filter test xs) ≡ list_any test xs
kept-any test [] = refl
kept-any test (x ∷ xs) = by_test (test x) (kept-any test xs)
  where
    by_test : (passes : Bool) → is_filled (filter test xs) ≡ list_any test xs →
        is_filled (cond passes (x ∷ filter test xs) (filter test xs)) ≡ (passes || list_any test xs)
    by_test true others = refl
    by_test false others = others

all-skipped : {A : Type 0} (deeper : A → Bool) (xs : List A) → is_filled (filter deeper xs) ≡ false →
    is_filled (filter (λ x. not (deeper x)) xs) ≡ is_filled xs
all-skipped deeper [] none = refl
all-skipped deeper (x ∷ xs) none = by_test (deeper x) none
  where
    by_test : (passes : Bool) → is_filled (cond passes (x ∷ filter deeper xs) (filter deeper xs)) ≡ false →
        is_filled (cond (not passes) (x ∷ filter (λ x. not (deeper x)) xs) (filter (λ x. not (deeper x)) xs)) ≡ true
    by_test true none = absurd (true≢false none)
    by_test false none = refl

-- after a gathering at which nothing became active

module _ (document depth : ℕ) (sight : Sight) where
  abbrev after : ResizeObserver → ResizeObserver
  after x = gathered_if (is_of document x) sight depth x

  abbrev Skips : ResizeObserver → Type 0
  Skips x =
      (is_of document x && is_filled (x.active)) ≡ false →
      (is_of document x && is_filled (x.skipped)) ≡ (is_of document x && list_any (has_changed sight) (x.targets))

  one-skipped : (x : ResizeObserver) (own : Bool) → is_of document x ≡ own → Skips (gathered_if own sight depth x)
  one-skipped x true is none =
      let changed = filter (has_changed sight) (x.targets) in
      let empty : is_filled (filter (is_deeper sight depth) changed) ≡ false =
      subst (λ (own : Bool). (own && is_filled (filter (is_deeper sight depth) changed)) ≡ false) is none in
      ap (λ (some : Bool). is_of document x && some) (all-skipped (is_deeper sight depth) changed empty ∙ kept-any (has_changed sight) (x.targets))
  one-skipped x false is none =
      ap (λ (own : Bool). own && is_filled (x.skipped)) is ∙ sym (ap (λ (own : Bool). own && list_any (has_changed sight) (x.targets)) is)

  each-skipped : (made : List ResizeObserver) → list_any (λ (x : ResizeObserver). is_of document x && is_filled (x.active)) (map after made) ≡ false →
      list_any (λ (x : ResizeObserver). is_of document x && is_filled (x.skipped)) (map after made)
      ≡ list_any (λ (x : ResizeObserver). is_of document x && list_any (has_changed sight) (x.targets)) (map after made)
  each-skipped [] none = refl
  each-skipped (x ∷ xs) none =
      let parts = or_parts _ _ none in
      ap (λ (some : Bool). some || list_any (λ (x : ResizeObserver). is_of document x && is_filled (x.skipped)) (map after xs))
      (one-skipped x (is_of document x) refl (parts.0))
      ∙ ap (λ (some : Bool). (is_of document (after x) && list_any (has_changed sight) (after x).targets) || some) (each-skipped xs (parts.1))

skipped-at-rest : (document depth : ℕ) (world : World) → has_active document (gather document depth world).resize_observers ≡ false →
    has_skipped document (gather document depth world).resize_observers ≡ has_undelivered document (gather document depth world)
unfolding gather
skipped-at-rest document depth world none = each-skipped document depth (sight_of world) (world.resize_observers.made) none

-- where no throw or limit came

module _ {S : Type 0} (P : S → Type 0) where
  abbrev OnNext : Said S → Type 0
  OnNext said = said.flow ≡ Next → P said.state

  if-next : (step : S → Said S) (s : S) (test : Bool) → OnNext (step s) → P s → OnNext (only_if step s test)
  if-next step s true there here = there
  if-next step s false there here = λ next. here

  repeat-next : (goes_on : S → Bool) (step : S → Said S) (most : ℕ) → ((s : S) → P s → OnNext (step s)) → (s : S) → P s → OnNext (repeat goes_on step most s)
  unfolding repeat
  repeat-next goes_on step zero each s here = λ next. here
  repeat-next goes_on step (suc most) each s here =
      if-next (λ now. step now followed_by repeat goes_on step most) s (goes_on s)
      (by-flow OnNext (repeat goes_on step most) (step s) (λ next. repeat-next goes_on step most each (step s).state (each s here next))
      (λ never next. absurd (never next))) here

-- a document that is Active was gathered for last

record IsGathered (document : ℕ) (now : World) : Type 0 where
  depth : ℕ
  before : World
  is : now ≡ gather document depth before

abbrev IsGatheredFor : ℕ → World → Type 0
IsGatheredFor document now = is_active (now.tree) document ≡ true → IsGathered document now

rounds-gather : (script : Script) (document : ℕ) (world : World) → OnNext (IsGatheredFor document) (resize_rounds script document world)
unfolding resize_rounds rounds_up_to
rounds-gather script document world =
    repeat-next (IsGatheredFor document) (goes_on document) (round script document) most_steps
    (λ now held next active. record { depth = _; before = _; is = round-gathers script document now next active })
    (gather document 0 world)
    (λ active. record { depth = 0; before = world; is = refl })

-- the loop

same-test : (document : ℕ) (now : World) (active : Bool) → is_active (now.tree) document ≡ active → IsGatheredFor document now → goes_on document now ≡ false →
    (is_active (now.tree) document && has_skipped document (now.resize_observers)) ≡ (is_active (now.tree) document && has_undelivered document now)
same-test document now true is gathered rest =
    let found = gathered is in
    let none : has_active document (now.resize_observers) ≡ false =
    subst (λ (active : Bool). (active && has_active document (now.resize_observers)) ≡ false) is rest in
    ap (λ (some : Bool). is_active (now.tree) document && some)
    (subst (λ (it : World). has_active document (it.resize_observers) ≡ false → has_skipped document (it.resize_observers) ≡ has_undelivered document it)
    (sym (found.is)) (skipped-at-rest document (found.depth) (found.before)) none)
same-test document now false is gathered rest =
    ap (λ (active : Bool). active && has_skipped document (now.resize_observers)) is
    ∙ sym (ap (λ (active : Bool). active && has_undelivered document now) is)

pub errors-exact : (script : Script) (document : ℕ) (world : World) → IsWithinLimits world →
    resize_loop script document world
    ≡ (resize_rounds script document world
    followed_by (λ now. only_if (fire_error script document) now (is_active (now.tree) document && has_undelivered document now)))
unfolding resize_loop resize_rounds rounds_up_to
errors-exact script document world within =
    let said = resize_rounds script document world in
    then-same said (report_skipped script document)
    (λ now. only_if (fire_error script document) now (is_active (now.tree) document && has_undelivered document now))
    (λ next. ap (only_if (fire_error script document) (said.state))
    (same-test document (said.state) (is_active (said.state.tree) document) refl (rounds-gather script document world next)
    (rounds-rest script document (gather document 0 world) 0 (gather-within script world within document 0) (gather-deeper document 0 world) most_steps
    (begins-below (gather document 0 world)) next)))
