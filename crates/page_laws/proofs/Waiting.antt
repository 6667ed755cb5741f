-- The tasks that wait stay within their limits.
use Rattle.std.proofs.Common.{◌≡◌, refl, sym, subst, arith, ◌≤◌, true≢false}
use Rattle.std.specs.Prelude.{ℕ, zero, suc, ◌+◌, ◌<◌, Bool, true, false, cond, not, List, [], ◌∷◌, ◌++◌, length, count_by}
use Rattle.std.proofs.lemmas.List.Sums.{sum_by-cons, count_by-le-length}
use Rattle.page_model.specs.World.{Task, Notify, Posted, World}
use Rattle.page_model.specs.Tasks.{is_posted, posted_tasks, is_notifying, with_notifying, without_notifying}
use Rattle.page_model.specs.Intersections.{with_notify_task}
use Rattle.page_laws.specs.Bounds.{notify_tasks, AreTasksWithin}
use Rattle.page_laws.proofs.Lists.{changed, put-within}

-- counts

count-first : {A : Type 0} (test : A → Bool) (x : A) (xs : List A) → count_by test (x ∷ xs) ≡ cond (test x) 1 0 + count_by test xs
count-first {A = A} test x xs = sum_by-cons (λ (each : A). cond (test each) 1 0) x xs

count-last : {A : Type 0} (test : A → Bool) (xs : List A) (y : A) → count_by test (xs ++ y ∷ []) ≡ count_by test xs + cond (test y) 1 0
count-last test [] y = let first : count_by test (y ∷ []) ≡ cond (test y) 1 0 + count_by test [] = count-first test y [] in omega (arith, first)
count-last test (x ∷ xs) y =
    let first : count_by test (x ∷ xs) ≡ cond (test x) 1 0 + count_by test xs = count-first test x xs in
    let more : count_by test (x ∷ (xs ++ y ∷ [])) ≡ cond (test x) 1 0 + count_by test (xs ++ y ∷ []) = count-first test x (xs ++ y ∷ []) in
    let last : count_by test (xs ++ y ∷ []) ≡ count_by test xs + cond (test y) 1 0 = count-last test xs y in
    omega (arith, first, more, last)

both-counted : (tasks : List Task) → length tasks ≡ posted_tasks tasks + notify_tasks tasks
both-counted [] = omega arith
both-counted (task ∷ others) =
    let posted : posted_tasks (task ∷ others) ≡ cond (is_posted task) 1 0 + posted_tasks others = count-first is_posted task others in
    let notify : notify_tasks (task ∷ others) ≡ cond (not (is_posted task)) 1 0 + notify_tasks others =
    count-first (λ each. not (is_posted each)) task others in
    let rest : length others ≡ posted_tasks others + notify_tasks others = both-counted others in
    by_kind (is_posted task) posted notify rest
  where
    by_kind : (is : Bool) → posted_tasks (task ∷ others) ≡ cond is 1 0 + posted_tasks others →
        notify_tasks (task ∷ others) ≡ cond (not is) 1 0 + notify_tasks others → length others ≡ posted_tasks others + notify_tasks others →
        suc (length others) ≡ posted_tasks (task ∷ others) + notify_tasks (task ∷ others)
    by_kind true posted notify rest = omega (arith, posted, notify, rest)
    by_kind false posted notify rest = omega (arith, posted, notify, rest)

-- documents marked

abbrev marked : List Bool → ℕ
marked flags = count_by (λ flag. flag) flags

first-marked : (flag : Bool) (flags : List Bool) → marked (flag ∷ flags) ≡ cond flag 1 0 + marked flags
first-marked flag flags = count-first (λ each. each) flag flags

marked-less : (document : ℕ) (flags : List Bool) → marked flags ≤ suc (marked (without_notifying document flags))
marked-less document [] = omega arith
marked-less zero (flag ∷ flags) = by_flag flag
  where
    by_flag : (flag : Bool) → marked (flag ∷ flags) ≤ suc (marked (false ∷ flags))
    by_flag true = omega (arith, first-marked true flags, first-marked false flags)
    by_flag false = omega (arith, first-marked false flags)
marked-less (suc document) (flag ∷ flags) =
    let rest : marked flags ≤ suc (marked (without_notifying document flags)) = marked-less document flags in
    omega (arith, first-marked flag flags, first-marked flag (without_notifying document flags), rest)

marked-more : (document : ℕ) (flags : List Bool) → is_notifying document flags ≡ false → marked (with_notifying document flags) ≡ suc (marked flags)
marked-more zero [] free = omega (arith, first-marked true [])
marked-more zero (flag ∷ flags) free = by_flag flag free
  where
    by_flag : (flag : Bool) → flag ≡ false → marked (true ∷ flags) ≡ suc (marked (flag ∷ flags))
    by_flag true free = absurd (true≢false free)
    by_flag false free = omega (arith, first-marked true flags, first-marked false flags)
marked-more (suc document) [] free =
    let rest : marked (with_notifying document []) ≡ suc (marked []) = marked-more document [] refl in
    omega (arith, first-marked false (with_notifying document []), rest)
marked-more (suc document) (flag ∷ flags) free =
    let rest : marked (with_notifying document flags) ≡ suc (marked flags) = marked-more document flags free in
    omega (arith, first-marked flag (with_notifying document flags), first-marked flag flags, rest)

-- worlds

pub tasks-alike : (before after : World) → length after.tree.documents ≡ length before.tree.documents → after.notifying ≡ before.notifying →
    after.tasks ≡ before.tasks → AreTasksWithin before → AreTasksWithin after
tasks-alike before after documents notifying tasks within = record {
  documents = omega (arith, within.documents, documents);
  marks = subst (λ (flags : List Bool). length flags ≤ 64) (sym notifying) within.marks;
  posted = subst (λ (these : List Task). posted_tasks these ≤ 4096) (sym tasks) within.posted;
  notifying =
      subst (λ (flags : List Bool). notify_tasks after.tasks ≤ marked flags) (sym notifying)
      (subst (λ (these : List Task). notify_tasks these ≤ marked before.notifying) (sym tasks) within.notifying);
}

-- the first task taken off
pub taken-within : (world : World) (task : Task) (others : List Task) → world.tasks ≡ task ∷ others → AreTasksWithin world →
    AreTasksWithin (record world { tasks = others })
taken-within world task others are within =
    let posted : posted_tasks (task ∷ others) ≡ cond (is_posted task) 1 0 + posted_tasks others = count-first is_posted task others in
    let notify : notify_tasks (task ∷ others) ≡ cond (not (is_posted task)) 1 0 + notify_tasks others =
    count-first (λ each. not (is_posted each)) task others in
    record {
      documents = within.documents;
      marks = within.marks;
      posted = let all : posted_tasks (task ∷ others) ≤ 4096 = subst (λ (these : List Task). posted_tasks these ≤ 4096) are within.posted in
          omega (arith, all, posted);
      notifying = let all : notify_tasks (task ∷ others) ≤ marked world.notifying =
          subst (λ (these : List Task). notify_tasks these ≤ marked world.notifying) are within.notifying in
          omega (arith, all, notify);
    }

-- a notify task taken off and its document unmarked
pub unmarked-within : (world : World) (document : ℕ) (others : List Task) → world.tasks ≡ Notify document ∷ others → AreTasksWithin world →
    AreTasksWithin (record world { tasks = others; notifying = without_notifying document (world.notifying) })
unmarked-within world document others are within =
    let notify : notify_tasks (Notify document ∷ others) ≡ 1 + notify_tasks others = count-first (λ each. not (is_posted each)) (Notify document) others in
    record {
      documents = within.documents;
      marks =
          let same : length (without_notifying document (world.notifying)) ≡ length world.notifying =
          (changed (λ (flag : Bool). Unit {0}) (λ flag. false) (λ flag is. is) document (world.notifying)).same in
          omega (arith, within.marks, same);
      posted = (taken-within world (Notify document) others are within).posted;
      notifying =
          let all : notify_tasks (Notify document ∷ others) ≤ marked world.notifying =
          subst (λ (these : List Task). notify_tasks these ≤ marked world.notifying) are within.notifying in
          omega (arith, all, notify, marked-less document (world.notifying));
    }

-- a notify task queued for a document that isn't marked
pub marked-within : (world : World) (document : ℕ) → document < length world.tree.documents → is_notifying document world.notifying ≡ false →
    AreTasksWithin world → AreTasksWithin (with_notify_task document false world)
marked-within world document is free within = record {
  documents = within.documents;
  marks = put-within 64 false document true (world.notifying) (omega (arith, is, within.documents)) within.marks;
  posted =
      let last : posted_tasks (world.tasks ++ Notify document ∷ []) ≡ posted_tasks world.tasks + 0 = count-last is_posted (world.tasks) (Notify document) in
      omega (arith, last, within.posted);
  notifying =
      let last : notify_tasks (world.tasks ++ Notify document ∷ []) ≡ notify_tasks world.tasks + 1 =
      count-last (λ each. not (is_posted each)) (world.tasks) (Notify document) in
      omega (arith, last, marked-more document (world.notifying) free, within.notifying);
}

-- a task posted where there is room
pub posted-within : (world : World) (document handler : ℕ) → posted_tasks world.tasks < 4096 → AreTasksWithin world →
    AreTasksWithin (record world { tasks = world.tasks ++ Posted document handler ∷ [] })
posted-within world document handler room within = record {
  documents = within.documents;
  marks = within.marks;
  posted =
      let last : posted_tasks (world.tasks ++ Posted document handler ∷ []) ≡ posted_tasks world.tasks + 1 =
      count-last is_posted (world.tasks) (Posted document handler) in
      omega (arith, last, room);
  notifying =
      let last : notify_tasks (world.tasks ++ Posted document handler ∷ []) ≡ notify_tasks world.tasks + 0 =
      count-last (λ each. not (is_posted each)) (world.tasks) (Posted document handler) in
      omega (arith, last, within.notifying);
}

-- all tasks that wait
pub few-tasks : (world : World) → AreTasksWithin world → length world.tasks ≤ 4160
few-tasks world within =
    let marks : marked world.notifying ≤ length world.notifying = count_by-le-length (λ flag. flag) (world.notifying) in
    omega (arith, both-counted (world.tasks), within.posted, within.notifying, marks, within.marks)
