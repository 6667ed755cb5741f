-- What has changed waits to be delivered, and once it is delivered in a quiet script nothing has changed.
use Rattle.std.proofs.Common.{◌≡◌, ◌≢◌, refl, sym, subst, ap, ◌∙◌, arith, tests, ◌≤◌, true≢false}
use Rattle.std.proofs.lemmas.Bool.Decides.{nat_tests}
use Rattle.std.specs.Prelude.{ℕ, zero, suc, ◌<◌, ◌==◌, not, ◌&&◌, ◌||◌, nat_lt, nat_eq, Bool, true, false, cond, List, [], ◌∷◌, length, map, filter}
use Rattle.std.specs.List.{AllByRecursion, list_any}
use Rattle.std.proofs.lemmas.Bool.{false_from_ne_true, or_parts}
use Rattle.layout_model.specs.Nodes.{path_above, path_up, path_of, depth_of}
use Rattle.page_model.specs.World.{Extent, Observation, ResizeObserver, ResizeObservers, Tree, World}
use Rattle.page_model.specs.Lookups.{same_extent, change_at, entry_or, no_resize_observer, resize_observer_at}
use Rattle.page_model.specs.Documents.{nodes_of, element_depth}
use Rattle.page_model.specs.Gathering.{Sight, sight_of, observed_size, has_changed, is_deeper, is_of, gathered_if, is_filled, reported, with_reported, without_active, due_at}
use Rattle.page_model.specs.Loop.{gather}
use Rattle.page_model.specs.Ranges.{Counts, counts_of, IsResizeObserverIn, IsInRange}
use Rattle.page_laws.proofs.Lists.{all-map, all-mapped}
use Rattle.loop_laws.proofs.Folds.{all-two}
use Rattle.loop_lint.proofs.Calm.{Passes, Calm}

-- while the turn of a broadcast is at a place ------------------------------------------------------------------------------------------

abbrev pub is_listed : List Observation → Observation → Bool
is_listed active x = list_any (λ (each : Observation). each.serial == x.serial) active

-- what has changed of an observer's observations waits for the observer's turn, on its active list
abbrev pub Waits : Sight → ℕ → ℕ → List Observation → Observation → Type 0
Waits sight place o active x = has_changed sight x ≡ true → (place ≤ o) × (is_listed active x ≡ true)

pub record AreFine (document place : ℕ) (sight : Sight) (it : ResizeObservers) : Type 0 where
  pub each : (o : ℕ) → Passes (Waits sight place o) document (resize_observer_at it o)

none-listed : (x : Observation) → (is_listed [] x ≡ true) → ⊥
none-listed x is = true≢false (sym is)

-- an observer changed at a place

changed-here : (P : ResizeObserver → Type 0) (change : ResizeObserver → ResizeObserver) (n : ℕ) (made : List ResizeObserver) → P no_resize_observer →
    P (change (entry_or no_resize_observer made n)) → P (entry_or no_resize_observer (change_at change n made) n)
changed-here P change n [] nothing here = nothing
changed-here P change zero (x ∷ xs) nothing here = here
changed-here P change (suc n) (x ∷ xs) nothing here = changed-here P change n xs nothing here

kept-elsewhere : (change : ResizeObserver → ResizeObserver) (n place : ℕ) (made : List ResizeObserver) → n ≢ place →
    entry_or no_resize_observer (change_at change place made) n ≡ entry_or no_resize_observer made n
kept-elsewhere change n place [] other = refl
kept-elsewhere change zero zero (x ∷ xs) other = absurd (other refl)
kept-elsewhere change (suc n) zero (x ∷ xs) other = refl
kept-elsewhere change zero (suc place) (x ∷ xs) other = refl
kept-elsewhere change (suc n) (suc place) (x ∷ xs) other = kept-elsewhere change n place xs (λ is. other (ap suc is))

-- a turn, of which what is known of other observers is kept
module _ (document place : ℕ) (sight : Sight) (it : ResizeObservers) (fine : AreFine document place sight it) where
  abbrev observer : ResizeObserver
  observer = resize_observer_at it place

  passed-by : (after : ResizeObservers) → Passes (Waits sight (suc place) place) document (resize_observer_at after place) →
      ((o : ℕ) → o ≢ place → resize_observer_at after o ≡ resize_observer_at it o) → AreFine document (suc place) sight after
  passed-by after here elsewhere = record { each = λ o. by o (nat_eq o place) refl }
    where
      later : (o : ℕ) → o ≢ place → (active : List Observation) (x : Observation) → Waits sight place o active x → Waits sight (suc place) o active x
      later o other active x waits changed = let both = waits changed in let most : place ≤ o = both.0 in (grind (arith, most, other), both.1)

      by : (o : ℕ) (is : Bool) → nat_eq o place ≡ is → Passes (Waits sight (suc place) o) document (resize_observer_at after o)
      by o true is = subst (λ (p : ℕ). Passes (Waits sight (suc place) p) document (resize_observer_at after p)) (let same : place ≡ o = grind (arith, nat_tests, is) in same) here
      by o false is =
          let other : o ≢ place = λ equal. absurd (grind (arith, nat_tests, is, equal)) in
          subst (λ (each : ResizeObserver). Passes (Waits sight (suc place) o) document each) (sym (elsewhere o other))
          (λ own. all-map (Waits sight place o ((resize_observer_at it o).active)) (Waits sight (suc place) o ((resize_observer_at it o).active))
          (later o other ((resize_observer_at it o).active)) (resize_observer_at it o).targets (fine.each o own))

  own-due : (own : Bool) (active : List Observation) → own ≡ true → cond own active [] ≡ active
  own-due true active own = refl
  own-due false active own = absurd (true≢false (sym own))

  -- of the observer whose turn it is
  waiting-here : is_of document observer ≡ true → AllByRecursion (Waits sight place place (due_at document place it)) (observer.targets)
  waiting-here own =
      subst (λ (due : List Observation). AllByRecursion (Waits sight place place due) (observer.targets)) (sym (own-due (is_of document observer) (observer.active) own))
      (fine.each place own)

  -- an observer with nothing to deliver is passed over
  pub passed-fine : due_at document place it ≡ [] → AreFine document (suc place) sight it
  passed-fine none =
      passed-by it
      (λ own. all-map (Waits sight place place (due_at document place it)) (Waits sight (suc place) place (observer.active))
      (λ x waits changed. absurd (true≢false (sym ((waits changed).1) ∙ ap (λ (due : List Observation). is_listed due x) none)))
      (observer.targets) (waiting-here own))
      (λ o other. refl)

  same-size : (a : Extent) → same_extent a a ≡ true
  same-size a = by (a.across == a.across) (itself (a.across)) (a.down == a.down) (itself (a.down))
    where
      itself : (n : ℕ) → (n == n) ≡ true
      itself n = grind (arith, tests)

      by : (across : Bool) → across ≡ true → (down : Bool) → down ≡ true → cond across down false ≡ true
      by true is down is' = is'
      by false is down is' = absurd (true≢false (sym is))

  -- what is delivered hasn't changed afterwards, and what isn't hadn't
  reported-same : (delivered : List Observation) (x : Observation) → Waits sight place place delivered x → (has_changed sight (reported sight delivered x) ≡ true) → ⊥
  reported-same delivered x waits = by (is_listed delivered x) refl
    where
      by : (listed : Bool) → is_listed delivered x ≡ listed → (has_changed sight (cond listed (record x { last = observed_size sight x }) x) ≡ true) → ⊥
      by true is changed = true≢false (sym changed ∙ ap not (same-size (observed_size sight x)))
      by false is changed = true≢false (sym ((waits changed).1) ∙ is)

  -- an observer that is delivered to
  pub reported-now : AreFine document (suc place) sight (with_reported sight place (due_at document place it) it)
  reported-now =
      passed-by (with_reported sight place (due_at document place it) it)
      (changed-here (Passes (Waits sight (suc place) place) document) change place (it.made) (λ own. tt)
      (λ own. all-mapped (Waits sight place place (due_at document place it)) (Waits sight (suc place) place (observer.active)) (reported sight (due_at document place it))
      (λ x waits changed. absurd (reported-same (due_at document place it) x waits changed)) (observer.targets) (waiting-here own)))
      (λ o other. kept-elsewhere change o place (it.made) other)
    where
      change : ResizeObserver → ResizeObserver
      change each = record each { targets = map (reported sight (due_at document place it)) (each.targets) }

-- behind a turn the active list is emptied
pub emptied-fine : (document place : ℕ) (sight : Sight) (it : ResizeObservers) → AreFine document (suc place) sight it →
    AreFine document (suc place) sight (without_active place it)
emptied-fine document place sight it fine = record { each = λ o. by o (nat_eq o place) refl }
  where
    change : ResizeObserver → ResizeObserver
    change each = record each { active = [] }

    by : (o : ℕ) (is : Bool) → nat_eq o place ≡ is → Passes (Waits sight (suc place) o) document (resize_observer_at (without_active place it) o)
    by o true is =
        let same : place ≡ o = grind (arith, nat_tests, is) in
        subst (λ (p : ℕ). Passes (Waits sight (suc place) p) document (resize_observer_at (without_active place it) p)) same
        (changed-here (Passes (Waits sight (suc place) place) document) change place (it.made) (λ own. tt)
        (λ own. all-map (Waits sight (suc place) place ((resize_observer_at it place).active)) (Waits sight (suc place) place [])
        (λ x waits changed. let past : suc place ≤ place = (waits changed).0 in absurd (let no : ⊥ = omega (arith, past) in no))
        (resize_observer_at it place).targets (fine.each place own)))
    by o false is =
        subst (λ (each : ResizeObserver). Passes (Waits sight (suc place) o) document each)
        (sym (kept-elsewhere change o place (it.made) (λ equal. absurd (grind (arith, nat_tests, is, equal))))) (fine.each o)

-- while commands leave sizes -----------------------------------------------------------------------------------------------------------

-- what is observed is there
observed-there : (counts : Counts) (made : List ResizeObserver) → AllByRecursion (IsResizeObserverIn counts) made → (o : ℕ) →
    AllByRecursion (λ (x : Observation). x.target < counts.elements) (entry_or no_resize_observer made o).targets
observed-there counts [] all o = tt
observed-there counts (x ∷ xs) all zero = (all.0).targets
observed-there counts (x ∷ xs) all (suc o) = observed-there counts xs (all.1) o

module _ (document place handlers : ℕ) (before : World) (within : IsInRange handlers before) where
  -- waiting, and of an element that was there before
  abbrev pub WaitsThere : ℕ → List Observation → Observation → Type 0
  WaitsThere o active x = Waits (sight_of before) place o active x × (x.target < length before.tree.elements)

  pub calm-fine : (now : World) → Calm WaitsThere document before now → AreFine document place (sight_of before) (before.resize_observers) →
      AreFine document place (sight_of now) (now.resize_observers)
  calm-fine now calm fine = record {
    each = λ o own.
        let observer = resize_observer_at (now.resize_observers) o in
        all-map (WaitsThere o (observer.active)) (Waits (sight_of now) place o (observer.active)) (still o (observer.active)) (observer.targets)
        (calm.targets o (λ own. all-two (Waits (sight_of before) place o ((resize_observer_at (before.resize_observers) o).active))
        (λ (x : Observation). x.target < length before.tree.elements) (WaitsThere o ((resize_observer_at (before.resize_observers) o).active))
        (λ x waits there. (waits, there)) (resize_observer_at (before.resize_observers) o).targets (fine.each o own)
        (observed-there (counts_of handlers before) (before.resize_observers.made) (within.resize_observers) o)) own);
  }
    where
      still : (o : ℕ) (active : List Observation) (x : Observation) → WaitsThere o active x → Waits (sight_of now) place o active x
      still o active x there changed =
          (there.0) (sym (ap (λ (size : Extent). not (same_extent size (x.last))) (calm.sizes (x.target) (there.1) (x.observed))) ∙ changed)

-- gathering ----------------------------------------------------------------------------------------------------------------------------

abbrev IsEarly : Sight → ℕ → ℕ → ResizeObserver → Type 0
IsEarly sight document o it = Passes (Waits sight 0 o) document it

-- what each observer comes to
gathered-each : (document : ℕ) (sight : Sight) (depth : ℕ) (Fact : ResizeObserver → Type 0) →
    ((x : ResizeObserver) (o : ℕ) → Fact x → AllByRecursion (Waits sight 0 o (filter (is_deeper sight depth) (filter (has_changed sight) (x.targets)))) (x.targets)) →
    (made : List ResizeObserver) → ((n : ℕ) → is_of document (entry_or no_resize_observer made n) ≡ true → Fact (entry_or no_resize_observer made n)) → (n o : ℕ) →
    IsEarly sight document o (entry_or no_resize_observer (map (λ (it : ResizeObserver). gathered_if (is_of document it) sight depth it) made) n)
gathered-each document sight depth Fact each [] facts n o = λ own. tt
gathered-each document sight depth Fact each (x ∷ xs) facts zero o = by (is_of document x) refl
  where
    by : (own : Bool) → is_of document x ≡ own → IsEarly sight document o (gathered_if own sight depth x)
    by true is own = each x o (facts 0 is)
    by false is own = absurd (true≢false (sym own ∙ is))
gathered-each document sight depth Fact each (x ∷ xs) facts (suc n) o = gathered-each document sight depth Fact each xs (λ n. facts (suc n)) n o

-- at the depth 0 all that has changed is listed

filter-whole : {A : Type 0} (test : A → Bool) → ((x : A) → test x ≡ true) → (xs : List A) → filter test xs ≡ xs
filter-whole test whole [] = refl
filter-whole test whole (x ∷ xs) =
    ap (λ (passes : Bool). cond passes (x ∷ filter test xs) (filter test xs)) (whole x) ∙ ap (λ others. x ∷ others) (filter-whole test whole xs)

kept-listed : (test : Observation → Bool) (xs : List Observation) → AllByRecursion (λ x. test x ≡ true → is_listed (filter test xs) x ≡ true) xs
kept-listed test [] = tt
kept-listed test (y ∷ ys) = (
  (λ is. ap (λ (passes : Bool). is_listed (cond passes (y ∷ filter test ys) (filter test ys)) y) is
      ∙ ap (λ (same : Bool). same || is_listed (filter test ys) y) (let same : (y.serial == y.serial) ≡ true = grind (arith, tests) in same)),
  all-map (λ x. test x ≡ true → is_listed (filter test ys) x ≡ true) _ (λ x listed is. more x (test y) (listed is)) ys (kept-listed test ys),
)
  where
    more : (x : Observation) (passes : Bool) → is_listed (filter test ys) x ≡ true → is_listed (cond passes (y ∷ filter test ys) (filter test ys)) x ≡ true
    more x true is = by (y.serial == x.serial) is
      where
        by : (same : Bool) {others : Bool} → others ≡ true → (same || others) ≡ true
        by true is = refl
        by false is = is
    more x false is = is

deep-enough : (tree : Tree) (n : ℕ) → nat_lt 0 (element_depth tree n) ≡ true
unfolding element_depth depth_of path_of path_up
deep-enough tree n = some-length n (path_above (path_up 65535 (nodes_of tree)) (nodes_of tree n).parent)
  where
    some-length : (x : ℕ) (xs : List ℕ) → nat_lt 0 (length (x ∷ xs)) ≡ true
    some-length x xs = grind (arith, tests)

pub gather-fine : (document : ℕ) (world : World) → AreFine document 0 (sight_of world) (gather document 0 world).resize_observers
unfolding gather
gather-fine document world = record {
  each = λ o. gathered-each document (sight_of world) 0 (λ (it : ResizeObserver). o ≡ o)
      (λ x n fact. subst (λ (active : List Observation). AllByRecursion (Waits (sight_of world) 0 n active) (x.targets))
      (sym (filter-whole (is_deeper (sight_of world) 0) (λ (it : Observation). deep-enough (world.tree) (it.target)) (filter (has_changed (sight_of world)) (x.targets))))
      (all-map _ (Waits (sight_of world) 0 n (filter (has_changed (sight_of world)) (x.targets))) (λ it listed changed. (omega arith, listed changed)) (x.targets)
      (kept-listed (has_changed (sight_of world)) (x.targets))))
      (world.resize_observers.made) (λ n own. refl) o o;
}

-- nothing of a document's observers has changed
abbrev pub Settled : ℕ → Sight → ResizeObservers → Type 0
Settled document sight it =
    (o : ℕ) → is_of document (resize_observer_at it o) ≡ true → AllByRecursion (λ x. has_changed sight x ≡ false) (resize_observer_at it o).targets

pub settled-gather : (document depth : ℕ) (world : World) → Settled document (sight_of world) (world.resize_observers) →
    AreFine document 0 (sight_of world) (gather document depth world).resize_observers
unfolding gather
settled-gather document depth world settled = record {
  each = λ o. gathered-each document (sight_of world) depth (λ (it : ResizeObserver). AllByRecursion (λ x. has_changed (sight_of world) x ≡ false) (it.targets))
      (λ x n same. all-map (λ it. has_changed (sight_of world) it ≡ false) _ (λ it is changed. absurd (true≢false (sym changed ∙ is))) (x.targets) same)
      (world.resize_observers.made) settled o o;
}

-- at rest nothing has changed

module _ (document : ℕ) (sight : Sight) where
  none-any : {A : Type 0} (test : A → Bool) (xs : List A) → AllByRecursion (λ x. test x ≡ false) xs → list_any test xs ≡ false
  none-any test [] all = refl
  none-any test (x ∷ xs) all = ap (λ (some : Bool). some || list_any test xs) (all.0) ∙ none-any test xs (all.1)

  none-changed : (o : ℕ) (active targets : List Observation) → is_filled active ≡ false → AllByRecursion (Waits sight 0 o active) targets →
      list_any (has_changed sight) targets ≡ false
  none-changed o [] targets none all =
      none-any (has_changed sight) targets (all-map (Waits sight 0 o []) _ (λ x waits. false_from_ne_true (has_changed sight x) (λ changed. none-listed x ((waits changed).1))) targets all)
  none-changed o (x ∷ xs) targets none all = absurd (true≢false none)

  own-changed : (own filled changed : Bool) → (own && filled) ≡ false → (own ≡ true → filled ≡ false → changed ≡ false) → (own && changed) ≡ false
  own-changed true filled changed none each = each refl none
  own-changed false filled changed none each = refl

  pub rest-settled : (made : List ResizeObserver) → list_any (λ (it : ResizeObserver). is_of document it && is_filled (it.active)) made ≡ false →
      ((o : ℕ) → Passes (Waits sight 0 o) document (entry_or no_resize_observer made o)) →
      list_any (λ (it : ResizeObserver). is_of document it && list_any (has_changed sight) (it.targets)) made ≡ false
  rest-settled [] none fine = refl
  rest-settled (x ∷ xs) none fine =
      let parts = or_parts (is_of document x && is_filled (x.active)) _ none in
      ap (λ (some : Bool). some || list_any (λ (it : ResizeObserver). is_of document it && list_any (has_changed sight) (it.targets)) xs)
      (own-changed (is_of document x) (is_filled (x.active)) (list_any (has_changed sight) (x.targets)) (parts.0)
      (λ own empty. none-changed 0 (x.active) (x.targets) empty (fine 0 own)))
      ∙ rest-settled xs (parts.1) (λ o own. all-map (Waits sight 0 (suc o) _) (Waits sight 0 o _) (λ it waits changed. (omega arith, (waits changed).1)) _ (fine (suc o) own))

-- where the turn is past an observer or all, it is as before any turn

pub all-waiting : (document place : ℕ) (sight : Sight) (it : ResizeObservers) → AreFine document place sight it → AreFine document 0 sight it
all-waiting document place sight it fine = record {
  each = λ o own.
      let observer = resize_observer_at it o in
      all-map (Waits sight place o (observer.active)) (Waits sight 0 o (observer.active)) (λ x waits changed. (omega arith, (waits changed).1)) (observer.targets) (fine.each o own);
}

past-all : (made : List ResizeObserver) (o : ℕ) → length made ≤ o → entry_or no_resize_observer made o ≡ no_resize_observer
past-all [] o is = refl
past-all (x ∷ xs) zero is = absurd (let no : ⊥ = omega (arith, is) in no)
past-all (x ∷ xs) (suc o) is = past-all xs o (omega (arith, is))

pub all-settled : (document place : ℕ) (sight : Sight) (it : ResizeObservers) → AreFine document place sight it → length it.made ≤ place → Settled document sight it
all-settled document place sight it fine past o own = by (nat_lt o place) refl
  where
    by : (done : Bool) → nat_lt o place ≡ done → AllByRecursion (λ x. has_changed sight x ≡ false) (resize_observer_at it o).targets
    by true is =
        let observer = resize_observer_at it o in
        all-map (Waits sight place o (observer.active)) _
        (λ x waits. false_from_ne_true (has_changed sight x) (λ changed. let most : place ≤ o = (waits changed).0 in grind (arith, tests, is, most)))
        (observer.targets) (fine.each o own)
    by false is =
        let most : length it.made ≤ o = grind (arith, tests, is, past) in
        subst (λ (observer : ResizeObserver). AllByRecursion (λ (x : Observation). has_changed sight x ≡ false) (observer.targets)) (sym (past-all (it.made) o most)) tt
