-- What one registration's settling makes of its observer and of its queue.
use Rattle.std.proofs.Common.{◌≡◌, ℕ, ◌<◌, ◌≤◌, ◌∙◌, ap, refl, sym, subst, length, map, length-append, arith}
use Rattle.std.specs.Prelude.{Bool, true, false, cond, ◌==◌, ◌&&◌, ◌||◌, nat_lt, List, [], ◌∷◌, ◌++◌, filter_map, Option, Some, None}
use Rattle.std.specs.List.{cons_option}
use Rattle.std.proofs.lemmas.Bool.{false≢true}
use Rattle.page_model.specs.World.{Finding, Entry, Registration, IntersectionObserver, IntersectionObservers}
use Rattle.page_model.specs.Lookups.{no_intersection_observer, intersection_observer_at}
use Rattle.page_model.specs.Intersections.{Settled, settled, is_news, has_queued}
use Rattle.intersection_observer.specs.Places.{Standing, standing_of}
use Rattle.intersection_observer.specs.Settling.{settled_if, settled_at, settled_standing, with_settled, is_news_of, is_news_at, is_news_for}
use Rattle.intersection_observer.specs.Watchers.{HeldWatchers}
use Rattle.intersection_observer.proofs.Settling.{quiet_settled}
use Rattle.page_geometry.specs.Ranges.{IsReached}
use Rattle.intersection_update.specs.Watching.{AreWatchers}
use Rattle.intersection_update.specs.Updating.{Carried, AreKept}
use Rattle.intersection_update.proofs.Carried.{carried_same, carried_then, carried_once}
use Rattle.intersection_update.proofs.Watching.{kept_settled}
use Rattle.kept_findings.proofs.Settled.{changed_here, at_changed}

-- queues --------------------------------------------------------------------------------------------------------------------------

abbrev queue_in : IntersectionObservers → ℕ → List Entry
queue_in it watcher = (intersection_observer_at it watcher).queue

abbrev entries_of : ℕ → ℕ → Finding → List Registration → List Entry
entries_of n time now xs = filter_map (λ (it : Settled). it.entry) (map (settled_if n time now) xs)

one_entry : (entry : Entry) (others : List Entry) (is news rest : Bool) → (is && news || rest) ≡ true → (rest ≡ true → 0 < length others) → (x : Registration) (it : Settled) →
    it.entry ≡ cond news (Some entry) None → 0 < length (cons_option (cond is it (record { registration = x; entry = None })).entry others)
one_entry entry others true true rest some more x it same = subst (λ (e : Option Entry). 0 < length (cons_option e others)) (sym same) (omega arith)
one_entry entry others true false rest some more x it same = subst (λ (e : Option Entry). 0 < length (cons_option e others)) (sym same) (more some)
one_entry entry others false news rest some more x it same = more some

-- news is an entry
news_entries : (n time : ℕ) (now : Finding) (xs : List Registration) → is_news_of n now xs ≡ true → 0 < length (entries_of n time now xs)
news_entries n time now [] some = absurd (false≢true some)
news_entries n time now (x ∷ xs) some =
    one_entry (record { target = x.target; time = time; finding = now }) (entries_of n time now xs) (x.target == n) (is_news x now) (is_news_of n now xs) some (news_entries n time now xs) x (settled time now x) refl

standing_longer : (standing : Option Standing) (time watcher : ℕ) (now : Finding) (it : IntersectionObservers) → length (queue_in it watcher) ≤ length (queue_in (settled_standing standing time now it) watcher)
standing_longer None time watcher now it = omega arith
standing_longer (Some standing) time watcher now it =
    at_changed (λ (a b : IntersectionObserver). length (a.queue) ≤ length (b.queue)) (λ x. omega arith) no_intersection_observer (settled_at (standing.target) time now)
    (λ x. omega (arith, length-append (x.queue) (entries_of (standing.target) time now (x.registrations)))) (standing.watcher) watcher (it.made)

pub settled_longer : (serial time watcher : ℕ) (now : Finding) (it : IntersectionObservers) → length (queue_in it watcher) ≤ length (queue_in (with_settled serial time now it) watcher)
settled_longer serial time watcher now it = standing_longer (standing_of serial it) time watcher now it

-- where there is news, the observer's queue is longer
news_longer : (serial time watcher target : ℕ) (now : Finding) (it : IntersectionObservers) → standing_of serial it ≡ Some (record { watcher = watcher; target = target }) → watcher < length it.made →
    is_news_for serial now it ≡ true → length (queue_in it watcher) < length (queue_in (with_settled serial time now it) watcher)
news_longer serial time watcher target now it found there news =
    let x : IntersectionObserver = intersection_observer_at it watcher in
    let entries : 0 < length (entries_of target time now (x.registrations)) = news_entries target time now (x.registrations) (ap (λ standing. is_news_at standing now it) (sym found) ∙ news) in
    let same : length (queue_in (with_settled serial time now it) watcher) ≡ length (x.queue ++ entries_of target time now (x.registrations)) =
    ap (λ standing. length (queue_in (settled_standing standing time now it) watcher)) found
    ∙ ap (λ (each : IntersectionObserver). length (each.queue)) (changed_here no_intersection_observer (settled_at target time now) watcher (it.made) there)
    in
    omega (arith, entries, same, length-append (x.queue) (entries_of target time now (x.registrations)))

-- the queue is longer exactly where there is news
pub queued_is : (was now : HeldWatchers) (serial time watcher target : ℕ) (found : Finding) → standing_of serial was.part ≡ Some (record { watcher = watcher; target = target }) → watcher < length was.part.made →
    now ≡ record was { part = with_settled serial time found (was.part) } → is_news_for serial found was.part ≡ has_queued was.part now.part watcher
queued_is was now serial time watcher target found stands there is = by_news (is_news_for serial found was.part) refl
  where
    more : {m n : ℕ} → m < n → true ≡ nat_lt m n
    more less = grind arith

    none : (n : ℕ) → false ≡ nat_lt n n
    none n = grind arith

    by_news : (news : Bool) → is_news_for serial found was.part ≡ news → news ≡ has_queued was.part now.part watcher
    by_news true e = more (news_longer serial time watcher target found was.part stands there e) ∙ ap (λ (these : HeldWatchers). has_queued was.part these.part watcher) (sym is)
    by_news false e =
        none (length (queue_in was.part watcher))
        ∙ ap (λ (these : IntersectionObservers). has_queued was.part these watcher) (sym (quiet_settled serial time found was.part e))
        ∙ ap (λ (these : HeldWatchers). has_queued was.part these.part watcher) (sym is)

-- through a call that may be refused ---------------------------------------------------------------------------------------------

pub kept_same : (elements : ℕ) (was now : HeldWatchers) → now ≡ was → AreKept elements was now
kept_same elements was now is = record {
  rest = ap (λ (it : HeldWatchers). record was { part = it.part }) is ∙ sym is;
  carried = subst (λ (it : HeldWatchers). Carried was.part it.part) (sym is) (carried_same was.part);
  given = ap (λ (it : HeldWatchers). it.part.given) is;
  written = subst (λ (it : HeldWatchers). AreWatchers elements was.part.made → AreWatchers elements it.part.made) (sym is) (λ are. are);
}

pub kept_then : (elements : ℕ) (first second third : HeldWatchers) → AreKept elements first second → AreKept elements second third → AreKept elements first third
kept_then elements first second third one two = record {
  rest = ap (λ (it : HeldWatchers). record it { part = third.part }) one.rest ∙ two.rest;
  carried = carried_then first.part second.part third.part one.carried two.carried;
  given = two.given ∙ one.given;
  written = λ are. two.written (one.written are);
}

given_still : (standing : Option Standing) (time : ℕ) (now : Finding) (it : IntersectionObservers) → (settled_standing standing time now it).given ≡ it.given
given_still None time now it = refl
given_still (Some standing) time now it = refl

pub kept_once : (elements : ℕ) (was now : HeldWatchers) (serial time : ℕ) (found : Finding) → IsReached found → now ≡ record was { part = with_settled serial time found (was.part) } → AreKept elements was now
kept_once elements was now serial time found reached is = record {
  rest = ap (λ (it : HeldWatchers). record was { part = it.part }) is ∙ sym is;
  carried = subst (λ (it : HeldWatchers). Carried was.part it.part) (sym is) (carried_once serial time found was.part);
  given = ap (λ (it : HeldWatchers). it.part.given) is ∙ given_still (standing_of serial was.part) time found was.part;
  written = subst (λ (it : HeldWatchers). AreWatchers elements was.part.made → AreWatchers elements it.part.made) (sym is) (kept_settled elements serial time found (was.part) reached);
}

pub longer_once : (was now : HeldWatchers) (serial time watcher : ℕ) (found : Finding) → now ≡ record was { part = with_settled serial time found (was.part) } → length (queue_in (was.part) watcher) ≤ length (queue_in (now.part) watcher)
longer_once was now serial time watcher found is =
    let P : HeldWatchers → Type 0 = λ it. length (queue_in (was.part) watcher) ≤ length (queue_in (it.part) watcher) in
    subst P (sym is) (settled_longer serial time watcher found (was.part))
