-- A broadcast on its way: the turns from an observer's number on, beside the place among the document's observers.
use Rattle.std.proofs.Common.{◌≡◌, inl, inr, refl, ap, sym, subst, ◌∙◌, arith, ◌≤◌, add-one}
use Rattle.std.proofs.lemmas.Bool.{cases_lt}
use Rattle.std.proofs.lemmas.Option.{none-some, same_Some}
use Rattle.std.specs.Prelude.{ℕ, zero, suc, ◌+◌, ◌-◌, ◌<◌, min, Bool, true, false, List, [], ◌∷◌, length, map, fold, option_map, IfSome, Option, Some, None, Result, Ok, Err}
use Rattle.script_model.specs.Syntax.{Item}
use Rattle.script_model.specs.Scripts.{handlers_in}
use Rattle.page_model.specs.World.{World, Observation, ResizeObserver}
use Rattle.page_model.specs.Lookups.{resize_observer_at}
use Rattle.page_model.specs.Documents.{is_active}
use Rattle.page_model.specs.Gathering.{SizeEntry, sight_of, size_entry, with_reported, due_at}
use Rattle.page_model.specs.Ranges.{counts_of, IsInRange}
use Rattle.page_model.specs.Runs.{Said, silent, lifted, ◌followed_by◌}
use Rattle.page_model.specs.Callbacks.{Script, SizeEntries, call}
use Rattle.page_model.specs.Loop.{Broadcast, shallower, emptied, deliver, deliver_some, broadcast}
use Rattle.page_laws.proofs.Changes.{reported-next}
use Rattle.page_laws.proofs.Lists.{all-mapped}
use Rattle.depth_gather.specs.Entries.{seen_entry, as_entry}
use Rattle.depth_gather.specs.Deliveries.{Turn, turn_of, active_at, entries_in}
use Rattle.depth_gather.specs.Turning.{IsNext}
use Rattle.depth_gather.specs.declared.entries.ResizeEntry.{ResizeEntry}
use Rattle.depth_gather.specs.declared.deliveries.Delivery.{Delivery}
use Rattle.depth_gather.proofs.Passing.{Passed, Reached, passed}
use Rattle.page_state.specs.Rounds.{next_turn, once_reported}
use Rattle.trace_runs.specs.declared.faults.RunFault.{RunFault}
use Rattle.trace_runs.specs.Flows.{goes_on}
use Rattle.trace_runs.specs.Runs.{Runs}
use Rattle.trace_runs.proofs.Following.{Following, begin, rest_same, followed_next, go_on, end_cut, done}
use Rattle.trace_runs.proofs.Loops.{places, places_all, places_more, places_none, places_left}
use Rattle.trace_runs.proofs.Runs.{run_same, lifted_run}
use Rattle.frame_update.specs.Ready.{IsPrepared}
use Rattle.frame_update.specs.Turns.{least_with, AreEntriesIn}
use Rattle.frame_update.proofs.Observers.{Begin, begin_same, begin_within, next_kept, called_stand, reported_stand, emptied_stand, handler_reported, active_in, first_place, place_within, turn_past}

-- a broadcast in a world with the least depth of the entries so far
abbrev pub broadcast_at : Option ℕ → World → Broadcast
broadcast_at least world = record { world = world; shallowest = least }

abbrev pub world_in : Broadcast → World
world_in so_far = so_far.world

-- the least depth that a broadcast at its end tells of
pub shallowest_is : {least : Option ℕ} {world : World} {before after : Option (List ℕ)} {f g : ℕ} {said : Said Broadcast} → Runs goes_on (broadcast_at least world) (Ok least) before after f g said
    → said.state.shallowest ≡ least
shallowest_is run = ap (λ (so_far : Broadcast). so_far.shallowest) run.ended.state_is

-- turns by number ------------------------------------------------------------------------------------------------------------

module _ (script : Script) (document : ℕ) where
  abbrev made_count : Broadcast → ℕ
  made_count so_far = length (so_far.world.resize_observers.made)

  abbrev goes : Broadcast → Bool
  goes so_far = is_active (so_far.world.tree) document

  abbrev turn_at : ℕ → Broadcast → Said Broadcast
  turn_at observer so_far = deliver_some script document observer so_far (due_at document observer (so_far.world.resize_observers))

  -- the turns from a number on
  abbrev pub turns_from : ℕ → Broadcast → Said Broadcast
  turns_from number so_far = places made_count goes turn_at number so_far

  broadcast-turns : (world : World) → broadcast script document world ≡ turns_from 0 (broadcast_at None world)
  unfolding broadcast
  broadcast-turns world = places_all made_count goes turn_at (broadcast_at None world)

  module _ (so_far : Broadcast) (few : made_count so_far ≤ 4096) (going : goes so_far ≡ true) where
    abbrev IsIdle : ℕ → Type 0
    IsIdle n = due_at document n (so_far.world.resize_observers) ≡ []

    passed-one : (number : ℕ) → number < made_count so_far → IsIdle number → turns_from number so_far ≡ turns_from (number + 1) so_far
    passed-one number within idle =
        places_more made_count goes turn_at number so_far (omega (arith, few, within)) going within
        ∙ ap (λ due. deliver_some script document number so_far due followed_by turns_from (number + 1)) idle
        ∙ followed_next (silent so_far) (turns_from (number + 1)) refl refl

    passed-some : (gap number : ℕ) → number + gap ≤ made_count so_far → ((n : ℕ) → number ≤ n → n < number + gap → IsIdle n)
        → turns_from number so_far ≡ turns_from (number + gap) so_far
    passed-some zero number within idle = ap (λ n. turns_from n so_far) (omega arith)
    passed-some (suc gap) number within idle =
        passed-some gap number (omega (arith, within)) (λ n from below. idle n from (omega (arith, below)))
        ∙ passed-one (number + gap) (omega (arith, within)) (idle (number + gap) (omega arith) (omega arith))
        ∙ ap (λ n. turns_from n so_far) (omega arith)

    reached : (number observer : ℕ) → number ≤ observer → observer ≤ made_count so_far → ((n : ℕ) → number ≤ n → n < observer → IsIdle n)
        → turns_from number so_far ≡ turns_from observer so_far
    reached number observer ahead within idle =
        passed-some (observer - number) number (omega (arith, ahead, within)) (λ n from below. idle n from (omega (arith, ahead, below)))
        ∙ ap (λ n. turns_from n so_far) (omega (arith, ahead))

    -- nothing is due any more
    all-passed : (number : ℕ) → ((n : ℕ) → number ≤ n → IsIdle n) → turns_from number so_far ≡ silent so_far
    all-passed number idle =
        elim (cases_lt number (made_count so_far)) [
          | inl below ↦
              reached number (made_count so_far) (omega (arith, below)) (omega arith) (λ n from under. idle n from)
              ∙ places_none made_count goes turn_at (made_count so_far) so_far (omega arith)
          | inr past ↦ places_none made_count goes turn_at number so_far past
        ]

    delivered-due : (observer : ℕ) (active : List Observation) → due_at document observer (so_far.world.resize_observers) ≡ active → 0 < length active
        → turn_at observer so_far ≡ deliver script document observer so_far active
    delivered-due observer active due some = ap (deliver_some script document observer so_far) due ∙ by_active active some
      where
        by_active : (active : List Observation) → 0 < length active → deliver_some script document observer so_far active ≡ deliver script document observer so_far active
        by_active [] some = absurd (omega (arith, some))
        by_active (x ∷ xs) some = refl

    -- the next turn and those behind it
    turn-taken : (number observer : ℕ) (active : List Observation) → number ≤ observer → observer < made_count so_far → ((n : ℕ) → number ≤ n → n < observer → IsIdle n)
        → due_at document observer (so_far.world.resize_observers) ≡ active → 0 < length active
        → turns_from number so_far ≡ deliver script document observer so_far active followed_by turns_from (observer + 1)
    turn-taken number observer active ahead made idle due some =
        reached number observer ahead (omega (arith, made)) idle
        ∙ places_more made_count goes turn_at observer so_far (omega (arith, few, made)) going made
        ∙ ap (λ said. said followed_by turns_from (observer + 1)) (delivered-due observer active due some)

-- a delivery -----------------------------------------------------------------------------------------------------------------

least-least : (a b least : ℕ) (entries : List SizeEntry) → fold shallower (Some b) entries ≡ Some least → fold shallower (Some (min a b)) entries ≡ Some (min least a)
least-least a b least [] is = let same : b ≡ least = same_Some b least is in ap Some (omega (arith, same))
least-least a b least (x ∷ xs) is =
    ap (λ (d : ℕ). fold shallower (Some d) xs) (omega arith) ∙ least-least a (min b (x.depth)) least xs is

least-folded : (so_far : Option ℕ) (least : ℕ) (entries : List SizeEntry) → fold shallower None entries ≡ Some least → fold shallower so_far entries ≡ Some (least_with so_far least)
least-folded None least entries is = is
least-folded (Some a) least [] is = absurd (none-some least is)
least-folded (Some a) least (x ∷ xs) is = least-least a (x.depth) least xs is

-- what the page hands out at a turn
pub record IsHandedOut (document place : ℕ) (world new : World) (delivery : Delivery) : Type 0 where
  pub turn : Some (turn_of delivery) ≡ next_turn document place world
  pub entries : delivery.entries ≡ entries_in (sight_of world) (active_at (world.resize_observers) (delivery.observer.0))
  pub new_is : new ≡ once_reported (next_turn document place world) world
  pub made : delivery.observer.0 < length world.resize_observers.made
  pub some : 0 < length delivery.entries

module _ (document place : ℕ) (world new : World) (delivery : Delivery) (handed : IsHandedOut document place world new delivery) where
  abbrev active : List Observation
  active = active_at (world.resize_observers) (delivery.observer.0)

  abbrev reported : World
  reported = record world { resize_observers = with_reported (sight_of world) (delivery.observer.0) active (world.resize_observers) }

  reported-is : new ≡ reported
  reported-is = handed.new_is ∙ ap (λ turn. once_reported turn world) (sym handed.turn)

  pub handed_made : delivery.observer.0 < length new.resize_observers.made
  handed_made =
      subst (λ (now : World). delivery.observer.0 < length now.resize_observers.made) (sym reported-is)
      (subst (λ (count : ℕ). delivery.observer.0 < count) (sym (reported-next world (sight_of world) (delivery.observer.0) active).observers) handed.made)

  pub handed_entries : (handlers : ℕ) → IsInRange handlers world → AreEntriesIn new (delivery.entries)
  handed_entries handlers within =
      subst (λ (now : World). AreEntriesIn now (delivery.entries)) (sym reported-is)
      (subst (λ (entries : List ResizeEntry). AreEntriesIn reported entries) (sym handed.entries)
      (all-mapped (λ (each : Observation). each.target < length world.tree.elements) (λ (entry : ResizeEntry). entry.target.0 < length world.tree.elements)
      (λ observation. as_entry (size_entry (sight_of world) observation)) (λ each is. is) active (active_in (counts_of handlers world) world (delivery.observer.0) within)))

pub handed_out : (document place : ℕ) (world new : World) (next : Option Delivery) (delivery : Delivery) → next ≡ Some delivery → option_map turn_of next ≡ next_turn document place world
    → IfSome next (λ it. it.entries ≡ entries_in (sight_of world) (active_at (world.resize_observers) (it.observer.0))) → new ≡ once_reported (next_turn document place world) world
    → IfSome next (λ it. it.observer.0 < length world.resize_observers.made) → IfSome next (λ it. 0 < length it.entries) → IsHandedOut document place world new delivery
handed_out document place world new next delivery is turn entries new_is made some = record {
  turn = subst (λ (it : Option Delivery). option_map turn_of it ≡ next_turn document place world) is turn;
  entries = subst (λ (it : Option Delivery). IfSome it (λ it. it.entries ≡ entries_in (sight_of world) (active_at (world.resize_observers) (it.observer.0)))) is entries;
  new_is = new_is;
  made = subst (λ (it : Option Delivery). IfSome it (λ it. it.observer.0 < length world.resize_observers.made)) is made;
  some = subst (λ (it : Option Delivery). IfSome it (λ it. 0 < length it.entries)) is some;
}

-- the loop -------------------------------------------------------------------------------------------------------------------

-- what was written so far, and the turns that are left
pub record IsBroadcasting (script : List Item) (document : ℕ) (before now : Option (List ℕ)) (faults faults_now : ℕ) (first : World) (place : ℕ) (least : Option ℕ) (world : World) : Type 0 where
  pub number : ℕ
  pub next : IsNext document place number (world.resize_observers)
  pub within : number ≤ length world.resize_observers.made
  pub following : Following before now faults faults_now (broadcast (handlers_in script) document first) (turns_from (handlers_in script) document number (broadcast_at least world))
  pub ready : IsPrepared script world

pub broadcast_begins : (script : List Item) (document : ℕ) (now : Option (List ℕ)) (f : ℕ) (first : World) → IsPrepared script first
    → IsBroadcasting script document now now f f first 0 None first
broadcast_begins script document now f first ready = record {
  number = 0;
  next = first_place document (first.resize_observers);
  within = omega arith;
  following = rest_same (broadcast-turns (handlers_in script) document first) begin;
  ready = ready;
}

some-active : {A B : Type 0} (f : A → B) (xs : List A) → 0 < length (map f xs) → 0 < length xs
some-active f [] some = some
some-active f (x ∷ xs) some = omega arith

module _ {script : List Item} {document : ℕ} {before mid : Option (List ℕ)} {f fm : ℕ} {first : World} {place : ℕ} {least : Option ℕ} {world : World}
    (here : IsBroadcasting script document before mid f fm first place least world) where
  few : length world.resize_observers.made ≤ 4096
  few = here.ready.limits.resize_observers

  pub place_few : place ≤ 4096
  place_few = let most : place ≤ here.number = place_within document place here.number (world.resize_observers) here.next in omega (arith, most, here.within, few)

  pub broadcast_left : is_active (world.tree) document ≡ false → Runs goes_on (broadcast_at least world) (Ok least) before mid f fm (broadcast (handlers_in script) document first)
  broadcast_left fails =
      done refl (rest_same
      (places_left (made_count (handlers_in script) document) (goes (handlers_in script) document) (turn_at (handlers_in script) document) here.number (broadcast_at least world) fails) here.following)

  module _ {new : World} (none : next_turn document place world ≡ None) (new_is : new ≡ once_reported (next_turn document place world) world) where
    unchanged : world ≡ new
    unchanged = sym (new_is ∙ ap (λ turn. once_reported turn world) none)

    pub broadcast_none : is_active (world.tree) document ≡ true → Runs goes_on (broadcast_at least new) (Ok least) before mid f fm (broadcast (handlers_in script) document first)
    broadcast_none going =
        subst (λ (now : World). Runs goes_on (broadcast_at least now) (Ok least) before mid f fm (broadcast (handlers_in script) document first)) unchanged
        (done refl (rest_same
        (all-passed (handlers_in script) document (broadcast_at least world) few going here.number
        (subst (λ (turn : Option Turn). Passed document (world.resize_observers) here.number turn) none (passed document (world.resize_observers) place here.number here.next)))
        here.following))

  module _ {new : World} {delivery : Delivery} (handed : IsHandedOut document place world new delivery) where
    abbrev observer : ℕ
    observer = delivery.observer.0

    turn-reached : Reached document (world.resize_observers) here.number (turn_of delivery)
    turn-reached =
        subst (λ (turn : Option Turn). Passed document (world.resize_observers) here.number turn) (sym handed.turn) (passed document (world.resize_observers) place here.number here.next)

    pub place_past : place < delivery.place
    place_past = turn_past document place (world.resize_observers) (turn_of delivery) (sym handed.turn)

    abbrev due : List Observation
    due = active_at (world.resize_observers) observer

    taken : is_active (world.tree) document ≡ true
        → turns_from (handlers_in script) document here.number (broadcast_at least world)
        ≡ deliver (handlers_in script) document observer (broadcast_at least world) due followed_by turns_from (handlers_in script) document (observer + 1)
    taken going =
        turn-taken (handlers_in script) document (broadcast_at least world) few going here.number observer due turn-reached.ahead handed.made turn-reached.between turn-reached.due
        (some-active (λ observation. as_entry (size_entry (sight_of world) observation)) due (subst (λ (entries : List ResizeEntry). 0 < length entries) handed.entries handed.some))

    abbrev called : Said World
    called =
        lifted (emptied document observer)
        (call (handlers_in script) document (resize_observer_at (new.resize_observers) observer).handler (SizeEntries observer (map seen_entry (delivery.entries))) new)

    still-begin : (now : World) → called.state ≡ now → Begin (world.resize_observers.made) (now.resize_observers.made)
    still-begin now is =
        let made : List ResizeObserver = world.resize_observers.made in
        subst (λ (end : World). Begin made (end.resize_observers.made)) is
        (emptied_stand made document observer _
        (called_stand made (handlers_in script) document (resize_observer_at (new.resize_observers) observer).handler (SizeEntries observer (map seen_entry (delivery.entries))) new
        (subst (λ (end : World). Begin made (end.resize_observers.made)) (sym (reported-is document place world new delivery handed))
        (reported_stand made (sight_of world) observer due (world.resize_observers) (begin_same made)))))

    module _ {depth : ℕ} {after : Option (List ℕ)} {g : ℕ} {now : World} (result : Result (Unit {0}) RunFault)
        (entries_are : map seen_entry (entries_in (sight_of world) due) ≡ map (size_entry (sight_of world)) due)
        (least_is : fold shallower None (map seen_entry (delivery.entries)) ≡ Some depth)
        (run : Runs goes_on now result mid after fm g called) where
      abbrev told : Option ℕ → List SizeEntry → World → Option ℕ → Said Broadcast
      told handler entries begun shallowest =
          lifted (λ now. record { world = emptied document observer now; shallowest = shallowest }) (call (handlers_in script) document handler (SizeEntries observer entries) begun)

      abbrev entries : List SizeEntry
      entries = map (size_entry (sight_of world)) due

      abbrev begun : World
      begun = reported document place world new delivery handed

      entries-same : map seen_entry (delivery.entries) ≡ entries
      entries-same = ap (map seen_entry) handed.entries ∙ entries_are

      delivered-same : told (resize_observer_at (new.resize_observers) observer).handler (map seen_entry (delivery.entries)) new (Some (least_with least depth))
          ≡ deliver (handlers_in script) document observer (broadcast_at least world) due
      delivered-same =
          ap (λ (now : World). told (resize_observer_at (now.resize_observers) observer).handler (map seen_entry (delivery.entries)) now (Some (least_with least depth)))
          (reported-is document place world new delivery handed)
          ∙ ap (λ (handler : Option ℕ). told handler (map seen_entry (delivery.entries)) begun (Some (least_with least depth)))
          (handler_reported (sight_of world) observer due (world.resize_observers))
          ∙ ap (λ (these : List SizeEntry). told (resize_observer_at (world.resize_observers) observer).handler these begun (Some (least_with least depth))) entries-same
          ∙ ap (told (resize_observer_at (world.resize_observers) observer).handler entries begun)
          (sym (least-folded least depth entries (ap (fold shallower None) (sym entries-same) ∙ least_is)))

      delivered-run : Runs goes_on (broadcast_at (Some (least_with least depth)) now) result mid after fm g
          (deliver (handlers_in script) document observer (broadcast_at least world) due)
      delivered-run = run_same delivered-same (lifted_run (broadcast_at (Some (least_with least depth))) result run)

    module _ {depth : ℕ} {after : Option (List ℕ)} {g : ℕ} {now : World} (going : is_active (world.tree) document ≡ true)
        (entries_are : map seen_entry (entries_in (sight_of world) due) ≡ map (size_entry (sight_of world)) due)
        (least_is : fold shallower None (map seen_entry (delivery.entries)) ≡ Some depth) where
      pub broadcast_cut : {A : Type 0} (fault : RunFault) → Runs {A = Unit {0}} goes_on now (Err fault) mid after fm g called
          → Runs {A = A} goes_on (broadcast_at (Some (least_with least depth)) now) (Err fault) before after f g (broadcast (handlers_in script) document first)
      broadcast_cut fault run =
          end_cut fault (turns_from (handlers_in script) document (observer + 1)) (rest_same (taken going) here.following) (delivered-run (Err fault) entries_are least_is run)

      pub broadcast_on : Runs goes_on now (Ok (tt {0})) mid after fm g called → IsPrepared script now
          → IsBroadcasting script document before after f g first (delivery.place) (Some (least_with least depth)) now
      broadcast_on run ready =
          let still : Begin (world.resize_observers.made) (now.resize_observers.made) = still-begin now run.ended.state_is in
          let more : length world.resize_observers.made ≤ length now.resize_observers.made = begin_within (world.resize_observers.made) (now.resize_observers.made) still in
          let made : observer < length world.resize_observers.made = handed.made in
          record {
            number = observer + 1;
            next =
                subst (λ (number : ℕ). IsNext document (delivery.place) number (now.resize_observers)) (sym (add-one observer))
                (next_kept document (delivery.place) (suc observer) (world.resize_observers) (now.resize_observers) still (omega (arith, made)) turn-reached.next);
            within = omega (arith, made, more);
            following =
                go_on (turns_from (handlers_in script) document (observer + 1)) refl (rest_same (taken going) here.following) (delivered-run (Ok (tt {0})) entries_are least_is run);
            ready = ready;
          }
