-- What the observers keep true, through their changes.
use Rattle.std.proofs.Common.{◌≡◌, ℕ, suc, ◌<◌, ◌≤◌, ◌+◌, ◌-◌, ◌^◌, ◌∙◌, ap, refl, sym, subst, get_or, set, length, length-set, length-append, arith, ⊎_elim}
use Rattle.std.proofs.lemmas.List.Sums.{sum_by-set, sum_by_push}
use Rattle.std.specs.Prelude.{true, false, not, cond, ◌==◌, ◌||◌, nat_lt, List, [], ◌∷◌, ◌++◌, Option}
use Rattle.std.proofs.lemmas.Bool.{false≢true, ltb-true, or_cases}
use Rattle.std.proofs.lemmas.List.Filters.{length-filter_both}
use Rattle.page_model.specs.World.{Observation, ResizeObserver}
use Rattle.page_model.specs.ResizeObserving.{is_observed, without_observed}
use Rattle.resize_observer.specs.declared.documents.Documents.{Documents}
use Rattle.resize_observer.specs.Documents.{Tells}
use Rattle.resize_observer.specs.Held.{IsHeld, targets_in}
use Rattle.resize_observer.specs.Serials.{HasSerials}
use Rattle.resize_observer.specs.Observers.{HeldObservers, observer_at, may_observe, IsLimited}
use Rattle.resize_observer.proofs.Places.{within, read}
use Rattle.resize_observer.proofs.Telling.{tells-changed}
use Rattle.resize_observer.proofs.Numbers.{Keeps, serials-kept, serials-made, serials-observed, with_new, no_serials}

-- the count once one observer is changed
recounted : (made : List ResizeObserver) (place : ℕ) (old new : ResizeObserver) → place < length made → old ≡ get_or made place old → targets_in (set made place new) + length (old.targets) ≡ targets_in made + length (new.targets)
recounted made place old new there is =
    ap (λ (it : ResizeObserver). targets_in (set made place new) + length (it.targets)) is ∙ sum_by-set (λ (it : ResizeObserver). length (it.targets)) made place new old there

-- one observer has no more targets than all
pub counted : (made : List ResizeObserver) (place : ℕ) (old : ResizeObserver) → place < length made → old ≡ get_or made place old → length (old.targets) ≤ targets_in made
counted made place old there is =
    let none : ResizeObserver = record old { targets = [] } in
    let sums : targets_in (set made place none) + length (old.targets) ≡ targets_in made + 0 = recounted made place old none there is in
    omega (arith, sums)

pub held-changed :
    (change : ResizeObserver → ResizeObserver) → Keeps change →
    {inside it : HeldObservers} {documents : Documents} {count count' place : ℕ} {old new : ResizeObserver} →
    inside ≡ it → place < length it.part.made → IsHeld inside.part.made documents inside.part.given count inside.most_observers inside.most_observations →
    old ≡ get_or inside.part.made place old → new ≡ change old →
    count' + length (old.targets) ≡ count + length (new.targets) → length (new.targets) ≤ length (old.targets) →
    IsHeld (set inside.part.made place new) documents inside.part.given count' inside.most_observers inside.most_observations
held-changed change keeps {inside} {it} {documents} {count} {count'} {place} {old} {new} seen inside_it was is same moves fewer =
    let there : place < length inside.part.made = within seen inside_it in
    let sums : targets_in (set inside.part.made place new) + length (old.targets) ≡ targets_in inside.part.made + length (new.targets) = recounted (inside.part.made) place old new there is in
    let counts : count ≡ targets_in inside.part.made = was.counted in
    let bound : count ≤ inside.most_observations = was.observations in
    record {
      observers = subst (λ n. n ≤ inside.most_observers) (sym (length-set (inside.part.made) place new)) was.observers;
      numbers = was.numbers;
      most = was.most;
      counted = omega (arith, sums, counts, moves);
      observations = omega (arith, bound, moves, fewer);
      serials = serials-kept change keeps.serials (inside.part.given) (inside.part.made) place old new there is same was.serials;
      told = tells-changed documents (inside.part.made) place old new there is (ap (λ (it : ResizeObserver). it.document) same ∙ keeps.document old) was.told;
    }

-- a change that takes no target away
pub held-kept :
    (change : ResizeObserver → ResizeObserver) → Keeps change → ((it : ResizeObserver) → length (change it).targets ≡ length it.targets) →
    {inside it : HeldObservers} {documents : Documents} {count place : ℕ} {old new : ResizeObserver} →
    inside ≡ it → place < length it.part.made → IsHeld inside.part.made documents inside.part.given count inside.most_observers inside.most_observations →
    old ≡ get_or inside.part.made place old → new ≡ change old →
    IsHeld (set inside.part.made place new) documents inside.part.given count inside.most_observers inside.most_observations
held-kept change keeps counts {count = count} {old = old} {new = new} seen there was is same =
    let same_count : length (new.targets) ≡ length (old.targets) = ap (λ (it : ResizeObserver). length (it.targets)) same ∙ counts old in
    held-changed change keeps seen there was is same (ap (λ n. count + n) (sym same_count)) (omega (arith, same_count))

pub held-made :
    {made : List ResizeObserver} {documents : Documents} {observed count most_observers most_observations : ℕ} (document : ℕ) (handler : Option ℕ) (documents' : Documents) →
    IsHeld made documents observed count most_observers most_observations → length made < most_observers →
    Tells documents' (made ++ record { document = document; handler = handler; targets = []; active = []; skipped = [] } ∷ []) →
    IsHeld (made ++ record { document = document; handler = handler; targets = []; active = []; skipped = [] } ∷ []) documents' observed count most_observers most_observations
held-made {made} {documents} {observed} {count} {most_observers} {most_observations} document handler documents' was room told =
    let new : ResizeObserver = record { document = document; handler = handler; targets = []; active = []; skipped = [] } in
    let sums : targets_in (made ++ new ∷ []) ≡ targets_in made + 0 = sum_by_push (λ (it : ResizeObserver). length (it.targets)) made new in
    let longer : length (made ++ new ∷ []) ≡ length made + 1 = length-append made (new ∷ []) in
    let counts : count ≡ targets_in made = was.counted in
    record {
      observers = omega (arith, longer, room);
      numbers = was.numbers;
      most = was.most;
      counted = omega (arith, sums, counts);
      observations = was.observations;
      serials = serials-made observed made document handler was.serials;
      told = told;
    }

pub held-none : (documents : Documents) (most_observers most_observations : ℕ) → most_observers < 2 ^ 32 → most_observations < 2 ^ 32 → Tells documents [] → IsHeld [] documents 0 0 most_observers most_observations
held-none documents most_observers most_observations numbers most told = record { observers = omega arith; numbers = numbers; most = most; counted = refl; observations = omega arith; serials = no_serials; told = told }

-- what they keep true of how many are held, told of the observers
pub limited : {inside it : HeldObservers} {documents : Documents} {count : ℕ} → inside ≡ it → IsHeld inside.part.made documents inside.part.given count inside.most_observers inside.most_observations → IsLimited it
limited {inside} {it} {documents} {count} seen is = subst IsLimited seen (record { held = omega (arith, is.counted, is.observations); most = is.most })

-- observing

pub without-fewer : (n : ℕ) (xs : List Observation) → length (without_observed n xs) ≤ length xs
without-fewer n xs = omega (arith, length-filter_both (λ (each : Observation). not (each.target == n)) (λ (each : Observation). not (not (each.target == n))) (λ _. refl) xs)

pub held-observed :
    (new : Observation) {inside it : HeldObservers} {documents : Documents} {count count' place : ℕ} {old after : ResizeObserver} →
    inside ≡ it → place < length it.part.made → IsHeld inside.part.made documents inside.part.given count inside.most_observers inside.most_observations →
    new.serial ≡ inside.part.given →
    old ≡ get_or inside.part.made place old → after ≡ with_new new old →
    count' + length (old.targets) ≡ count + length (after.targets) → count' ≤ inside.most_observations →
    IsHeld (set inside.part.made place after) documents (inside.part.given + 1) count' inside.most_observers inside.most_observations
held-observed new {inside} {it} {documents} {count} {count'} {place} {old} {after} seen inside_it was next is same moves bound =
    let there : place < length inside.part.made = within seen inside_it in
    let sums : targets_in (set inside.part.made place after) + length (old.targets) ≡ targets_in inside.part.made + length (after.targets) = recounted (inside.part.made) place old after there is in
    let counts : count ≡ targets_in inside.part.made = was.counted in
    let following : suc new.serial ≡ inside.part.given + 1 = omega (arith, next) in
    record {
      observers = subst (λ n. n ≤ inside.most_observers) (sym (length-set (inside.part.made) place after)) was.observers;
      numbers = was.numbers;
      most = was.most;
      counted = omega (arith, sums, counts, moves);
      observations = bound;
      serials = subst (λ n. HasSerials n (set inside.part.made place after)) following (serials-observed (inside.part.made) place new old after there is same (subst (λ n. HasSerials n (inside.part.made)) (sym next) was.serials));
      told = tells-changed documents (inside.part.made) place old after there is (ap (λ (it : ResizeObserver). it.document) same) was.told;
    }

-- a target that is there leaves a place
without-shorter : (n : ℕ) (xs : List Observation) → is_observed n xs ≡ true → length (without_observed n xs) < length xs
without-shorter n [] there = absurd (false≢true there)
without-shorter n (x ∷ xs) there =
    elim (x.target == n) as (λ b. (b || is_observed n xs) ≡ true → length (cond (not b) (x ∷ without_observed n xs) (without_observed n xs)) < suc (length xs)) [
      | true ↦ λ _. omega (arith, without-fewer n xs)
      | false ↦ λ rest. omega (arith, without-shorter n xs rest)
    ] there

-- the count stays within its limit where a target is there or there is room
pub within-limit :
    (n : ℕ) (xs : List Observation) (held count most : ℕ) → (is_observed n xs || nat_lt held most) ≡ true → held ≤ most →
    count + length xs ≡ held + (length (without_observed n xs) + 1) → count ≤ most
within-limit n xs held count most may bound moves =
    ⊎_elim
    (λ there. omega (arith, without-shorter n xs there, bound, moves))
    (λ room. omega (arith, without-fewer n xs, ltb-true held most room, moves))
    (or_cases (is_observed n xs) (nat_lt held most) may)

-- that an observer may observe a target, of the fields and of the observer as it is found
may-found :
    (n : ℕ) {inside it : HeldObservers} {place held : ℕ} {old : ResizeObserver} →
    inside ≡ it → place < length it.part.made → held ≡ targets_in inside.part.made → old ≡ get_or inside.part.made place old →
    may_observe place n it ≡ true → (is_observed n (old.targets) || nat_lt held inside.most_observations) ≡ true
may-found n {inside} {it} {place} {held} {old} seen there counts is may =
    ap (λ (x : ResizeObserver). is_observed n (x.targets) || nat_lt held inside.most_observations) (sym (read (inside.part.made) place old (within seen there) is))
    ∙ ap (λ count. is_observed n (observer_at inside place).targets || nat_lt count inside.most_observations) counts
    ∙ ap (may_observe place n) seen
    ∙ may

-- what one more observation makes of the count
pub count-observed :
    (new : Observation) {inside it : HeldObservers} {place held before count : ℕ} {old after : ResizeObserver} →
    inside ≡ it → place < length it.part.made → held ≡ targets_in inside.part.made → held ≤ inside.most_observations → may_observe place (new.target) it ≡ true →
    old ≡ get_or inside.part.made place old → after ≡ with_new new old → before ≡ length old.targets → count ≡ length after.targets →
    (held - before + count + length old.targets ≡ held + length after.targets) × (held - before + count ≤ inside.most_observations)
count-observed new {inside} {it} {place} {held} {before} {count} {old} {after} seen there counts bound may is same before_is count_is =
    let few : length old.targets ≤ targets_in inside.part.made = counted (inside.part.made) place old (within seen there) is in
    let grown : length after.targets ≡ length (without_observed (new.target) (old.targets)) + 1 =
    ap (λ (x : ResizeObserver). length x.targets) same ∙ length-append (without_observed (new.target) (old.targets)) (new ∷ []) in
    let moves : held - before + count + length old.targets ≡ held + length after.targets = omega (arith, few, counts, before_is, count_is) in
    let found = may-found (new.target) seen there counts is may in
    (moves, within-limit (new.target) (old.targets) held (held - before + count) (inside.most_observations) found bound (omega (arith, moves, grown)))
