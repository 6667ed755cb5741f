-- A round delivers something: the turn of the first observer that has something to deliver comes.
use Rattle.std.proofs.Common.{◌≡◌, refl, ap, sym, subst, ◌∙◌, arith, tests, ◌≤◌, true≢false}
use Rattle.std.proofs.lemmas.Bool.Decides.{nat_tests}
use Rattle.std.specs.Prelude.{ℕ, zero, suc, ◌+◌, ◌<◌, nat_lt, nat_eq, ◌&&◌, ◌||◌, Bool, true, false, cond, is_some, List, [], ◌∷◌, fold, map, length, Option, Some, None}
use Rattle.std.specs.List.{list_any}
use Rattle.std.proofs.lemmas.Bool.{and_parts}
use Rattle.page_model.specs.World.{Observation, ResizeObserver, World}
use Rattle.page_model.specs.Documents.{is_active}
use Rattle.page_model.specs.Gathering.{SizeEntry, sight_of, size_entry, is_of, is_filled, has_active, due_at}
use Rattle.page_model.specs.Runs.{Said, Turn, lifted, follow, ◌followed_by◌, only_if, repeat, by_place, at_place, most_steps}
use Rattle.page_model.specs.Callbacks.{Script}
use Rattle.page_model.specs.Loop.{Broadcast, shallower, deliver_some, broadcast}
use Rattle.page_laws.proofs.Keeping.{then-keeps, repeat-keeps}
use Rattle.loop_laws.specs.Rounds.{goes_on}
use Rattle.loop_laws.proofs.Waiting.{due_in}

shallower-some : (so_far : Option ℕ) (entry : SizeEntry) → is_some (shallower so_far entry) ≡ true
shallower-some None entry = refl
shallower-some (Some depth) entry = refl

fold-some : (entries : List SizeEntry) (so_far : Option ℕ) → is_some so_far ≡ true → is_some (fold shallower so_far entries) ≡ true
fold-some [] so_far some = some
fold-some (entry ∷ entries) so_far some = fold-some entries (shallower so_far entry) (shallower-some so_far entry)

-- an observer has nothing to deliver where none has
none-due : (document : ℕ) (made : List ResizeObserver) → ((o : ℕ) → o < length made → is_filled (due_in document made o) ≡ false) →
    list_any (λ (it : ResizeObserver). is_of document it && is_filled (it.active)) made ≡ false
none-due document [] idle = refl
none-due document (x ∷ xs) idle =
    ap (λ (some : Bool). some || list_any (λ (it : ResizeObserver). is_of document it && is_filled (it.active)) xs)
    (sym (filled-if (is_of document x) (x.active)) ∙ idle 0 (omega arith))
    ∙ none-due document xs (λ o less. idle (suc o) (omega (arith, less)))
  where
    filled-if : (own : Bool) (these : List Observation) → is_filled (cond own these []) ≡ (own && is_filled these)
    filled-if true these = refl
    filled-if false these = refl

module _ (script : Script) (document : ℕ) (world : World) where
  abbrev IsFound : Broadcast → Type 0
  IsFound so_far = is_some (so_far.shallowest) ≡ true

  delivered-found : (observer : ℕ) (so_far : Broadcast) (delivered : List Observation) → IsFound so_far →
      IsFound (deliver_some script document observer so_far delivered).state
  delivered-found observer so_far [] found = found
  delivered-found observer so_far (first ∷ others) found =
      fold-some (map (size_entry (sight_of (so_far.world))) (first ∷ others)) (so_far.shallowest) found

  first-found : (observer : ℕ) (so_far : Broadcast) (delivered : List Observation) → is_filled delivered ≡ true →
      IsFound (deliver_some script document observer so_far delivered).state
  first-found observer so_far [] filled = absurd (true≢false (sym filled))
  first-found observer so_far (first ∷ others) filled =
      fold-some (map (size_entry (sight_of (so_far.world))) others) (shallower (so_far.shallowest) (size_entry (sight_of (so_far.world)) first))
      (shallower-some (so_far.shallowest) (size_entry (sight_of (so_far.world)) first))

  abbrev goes : Turn Broadcast → Bool
  goes turn = is_active (turn.state.world.tree) document && nat_lt (turn.place) (length (turn.state.world.resize_observers.made))

  abbrev turns : Turn Broadcast → Said (Turn Broadcast)
  turns turn =
      lifted (at_place (suc turn.place))
      (deliver_some script document (turn.place) (turn.state) (due_at document (turn.place) (turn.state.world.resize_observers)))

  abbrev begins : ℕ → Turn Broadcast
  begins place = at_place place (record { world = world; shallowest = None })

  turns-found : (most : ℕ) (turn : Turn Broadcast) → IsFound (turn.state) → IsFound (repeat goes turns most turn).state.state
  turns-found most turn found =
      repeat-keeps (λ (turn : Turn Broadcast). IsFound (turn.state)) goes turns most
      (λ turn held is. delivered-found (turn.place) (turn.state) (due_at document (turn.place) (turn.state.world.resize_observers)) held)
      turn found

  -- a turn at which nothing is due is passed over
  passed : (most place : ℕ) (delivered : List Observation) → due_at document place (world.resize_observers) ≡ delivered → is_filled delivered ≡ false →
      (turns (begins place) followed_by repeat goes turns most) ≡ repeat goes turns most (begins (suc place))
  unfolding ◌followed_by◌ follow
  passed most place [] none empty =
      ap (λ (due : List Observation).
      lifted (at_place (suc place)) (deliver_some script document place (record { world = world; shallowest = None }) due)
      followed_by repeat goes turns most) none
  passed most place (first ∷ others) none filled = absurd (true≢false filled)

  -- nothing is due before a place
  abbrev IsIdle : ℕ → Type 0
  IsIdle place = (o : ℕ) → o < place → is_filled (due_at document o (world.resize_observers)) ≡ false

  module _ (active : is_active (world.tree) document ≡ true) (some : has_active document (world.resize_observers) ≡ true) where
    abbrev count : ℕ
    count = length (world.resize_observers.made)

    not-idle : (place : ℕ) → count ≤ place → IsIdle place → ⊥
    not-idle place past idle =
        true≢false (sym some ∙ none-due document (world.resize_observers.made) (λ o less. idle o (omega (arith, less, past))))

    later-idle : (place : ℕ) → is_filled (due_at document place (world.resize_observers)) ≡ false → IsIdle place → IsIdle (suc place)
    later-idle place empty idle o less = by (nat_eq o place) refl
      where
        by : (is : Bool) → nat_eq o place ≡ is → is_filled (due_at document o (world.resize_observers)) ≡ false
        by true is =
            subst (λ (n : ℕ). is_filled (due_at document n (world.resize_observers)) ≡ false) (let same : place ≡ o = grind (arith, nat_tests, is) in same) empty
        by false is = idle o (grind (arith, nat_tests, is, less))

    -- from a place before which nothing is due, as long as nothing was delivered
    reached : (most place : ℕ) → count < most + place → IsIdle place → IsFound (repeat goes turns most (begins place)).state.state
    unfolding repeat
    reached zero place fuel idle = absurd (not-idle place (omega (arith, fuel)) idle)
    reached (suc most) place fuel idle = by (λ next. reached most (suc place) (omega (arith, fuel)) next) (nat_lt place count) refl
      where
        by_due : (IsIdle (suc place) → IsFound (repeat goes turns most (begins (suc place))).state.state) → (filled : Bool) →
            is_filled (due_at document place (world.resize_observers)) ≡ filled → IsFound (turns (begins place) followed_by repeat goes turns most).state.state
        by_due rest true is =
            then-keeps (λ (turn : Turn Broadcast). IsFound (turn.state)) (turns (begins place)) (repeat goes turns most)
            (first-found place (record { world = world; shallowest = None }) (due_at document place (world.resize_observers)) is) (turns-found most)
        by_due rest false is =
            subst (λ (said : Said (Turn Broadcast)). IsFound said.state.state)
            (sym (passed most place (due_at document place (world.resize_observers)) refl is)) (rest (later-idle place is idle))

        by : (IsIdle (suc place) → IsFound (repeat goes turns most (begins (suc place))).state.state) → (within : Bool) → nat_lt place count ≡ within →
            IsFound (only_if (λ now. turns now followed_by repeat goes turns most) (begins place) (goes (begins place))).state.state
        by rest true is =
            subst (λ (test : Bool). IsFound (only_if (λ now. turns now followed_by repeat goes turns most) (begins place) test).state.state)
            (sym (ap (λ (here : Bool). here && nat_lt place count) active ∙ is)) (by_due rest (is_filled (due_at document place (world.resize_observers))) refl)
        by rest false is = absurd (not-idle place (let past : count ≤ place = grind (arith, tests, is) in past) idle)

    broadcast-found : count ≤ 4096 → IsFound (broadcast script document world).state
    unfolding broadcast by_place
    broadcast-found few = reached most_steps 0 (omega (arith, few)) (λ o less. absurd (let no : ⊥ = omega (arith, less) in no))

pub round-finds : (script : Script) (document : ℕ) (world : World) → length world.resize_observers.made ≤ 4096 → goes_on document world ≡ true →
    is_some (broadcast script document world).state.shallowest ≡ true
round-finds script document world few goes =
    let both = and_parts (is_active (world.tree) document) (has_active document (world.resize_observers)) goes in
    broadcast-found script document world (both.0) (both.1) few
