-- The listeners at a target, handed out one after the other.
use Rattle.std.proofs.Common.{◌≡◌, ℕ, ◌<◌, refl, ap, sym, ◌∙◌, subst, arith, true≢false}
use Rattle.std.proofs.lemmas.Bool.{eqb-true}
use Rattle.std.specs.Prelude.{Bool, true, false, cond, ◌&&◌, List, [], ◌∷◌, length, filter, find, Option, Some, None, option_map, IfSome}
use Rattle.std.specs.List.{AllByRecursion}
use Rattle.text_io.specs.declared.kinds.EventKind.{EventKind}
use Rattle.page_model.specs.World.{World, EventTarget, ElementTarget, DocumentTarget, WindowTarget, QueryTarget, Listener}
use Rattle.page_model.specs.Listeners.{is_same_target, is_same_event, hears, listeners_of, listener_stands}
use Rattle.page_model.specs.Callbacks.{Script, NoEntries, call, document_of_target, notify_listener, invoke}
use Rattle.page_model.specs.Runs.{Said, silent, for_each, only_if, ◌followed_by◌, follow}
use Rattle.event_tables.specs.Handed.{behind_first}
use Rattle.frame_update.proofs.Handed.{fewer_left, found_of_all, left_of_all}

none≢some : {B : Type 0} (value : B) → None ≡ Some value → ⊥
none≢some value is = cc

-- the listeners for an event are at its target ----------------------------------------------------------------------

abbrev pub IsAt : EventTarget → Listener → Type 0
IsAt target listener = listener.target ≡ target

target-is : (target other : EventTarget) → is_same_target target other ≡ true → other ≡ target
target-is (ElementTarget a) (ElementTarget b) same = ap ElementTarget (sym (eqb-true a b same))
target-is (ElementTarget a) (DocumentTarget b) same = absurd (true≢false (sym same))
target-is (ElementTarget a) (WindowTarget b) same = absurd (true≢false (sym same))
target-is (ElementTarget a) (QueryTarget b) same = absurd (true≢false (sym same))
target-is (DocumentTarget a) (ElementTarget b) same = absurd (true≢false (sym same))
target-is (DocumentTarget a) (DocumentTarget b) same = ap DocumentTarget (sym (eqb-true a b same))
target-is (DocumentTarget a) (WindowTarget b) same = absurd (true≢false (sym same))
target-is (DocumentTarget a) (QueryTarget b) same = absurd (true≢false (sym same))
target-is (WindowTarget a) (ElementTarget b) same = absurd (true≢false (sym same))
target-is (WindowTarget a) (DocumentTarget b) same = absurd (true≢false (sym same))
target-is (WindowTarget a) (WindowTarget b) same = ap WindowTarget (sym (eqb-true a b same))
target-is (WindowTarget a) (QueryTarget b) same = absurd (true≢false (sym same))
target-is (QueryTarget a) (ElementTarget b) same = absurd (true≢false (sym same))
target-is (QueryTarget a) (DocumentTarget b) same = absurd (true≢false (sym same))
target-is (QueryTarget a) (WindowTarget b) same = absurd (true≢false (sym same))
target-is (QueryTarget a) (QueryTarget b) same = ap QueryTarget (sym (eqb-true a b same))

heard-at : (target : EventTarget) (event : EventKind) (held : List Listener) → AllByRecursion (IsAt target) (filter (hears target event) held)
heard-at target event [] = tt
heard-at target event (listener ∷ others) =
    by (is_same_target target (listener.target)) (is_same_event event (listener.event)) (target-is target (listener.target)) (heard-at target event others)
  where
    by : (same kind : Bool) → (same ≡ true → IsAt target listener) → AllByRecursion (IsAt target) (filter (hears target event) others) →
        AllByRecursion (IsAt target) (cond (same && kind) (listener ∷ filter (hears target event) others) (filter (hears target event) others))
    by true true at all = (at refl, all)
    by true false at all = all
    by false kind at all = all

-- each is called where it stands at its turn ----------------------------------------------------------------------

abbrev pub standing : World → Listener → Bool
standing world it = listener_stands it world.listeners

abbrev handed_on : Script → Option Listener → List Listener → World → Said World
handed_on script None others world = silent world
handed_on script (Some listener) others world =
    call script (document_of_target world (listener.target)) (Some (listener.handler)) NoEntries world followed_by for_each (notify_listener script) others

first-by : (script : Script) (listener : Listener) (others : List Listener) (world : World) (answer : Bool) →
    for_each (notify_listener script) others world ≡ handed_on script (find (standing world) others) (behind_first (standing world) others) world →
    (only_if (call script (document_of_target world (listener.target)) (Some (listener.handler)) NoEntries) world answer
    followed_by for_each (notify_listener script) others)
    ≡ handed_on script (cond answer (Some listener) (find (standing world) others)) (cond answer others (behind_first (standing world) others)) world
unfolding ◌followed_by◌ follow
first-by script listener others world true so = refl
first-by script listener others world false so = so

first-called : (script : Script) (copied : List Listener) (world : World) →
    for_each (notify_listener script) copied world ≡ handed_on script (find (standing world) copied) (behind_first (standing world) copied) world
unfolding for_each
first-called script [] world = refl
first-called script (listener ∷ others) world =
    first-by script listener others world (listener_stands listener (world.listeners)) (first-called script others world)

none-handed : (script : Script) (found : Option Listener) (others : List Listener) (world : World) → option_map (λ (it : Listener). it.handler) found ≡ None →
    handed_on script found others world ≡ silent world
none-handed script None others world is = refl
none-handed script (Some listener) others world is = absurd (none≢some (listener.handler) (sym is))

some-handed : (script : Script) (target : EventTarget) (handler : ℕ) (found : Option Listener) (others : List Listener) (world : World) → IfSome found (IsAt target) →
    option_map (λ (it : Listener). it.handler) found ≡ Some handler →
    handed_on script found others world
    ≡ call script (document_of_target world target) (Some handler) NoEntries world followed_by for_each (notify_listener script) others
some-handed script target handler None others world at is = absurd (none≢some handler is)
some-handed script target handler (Some listener) others world at is =
    ap (λ it. call script (document_of_target world it) (Some (listener.handler)) NoEntries world followed_by for_each (notify_listener script) others) at
    ∙ ap (λ it. call script (document_of_target world target) it NoEntries world followed_by for_each (notify_listener script) others) is

module _ (script : Script) (copied : List Listener) (world : World) where
  -- none stands
  pub none_called : None ≡ option_map (λ (it : Listener). it.handler) (find (standing world) copied) → for_each (notify_listener script) copied world ≡ silent world
  none_called is = first-called script copied world ∙ none-handed script _ _ world (sym is)

  -- the first that stands is called, and then those behind it
  pub next_called : (target : EventTarget) (document handler : ℕ) (left : List Listener) → AllByRecursion (IsAt target) copied →
      Some handler ≡ option_map (λ (it : Listener). it.handler) (find (standing world) copied) → left ≡ behind_first (standing world) copied →
      document ≡ document_of_target world target →
      for_each (notify_listener script) copied world ≡ call script document (Some handler) NoEntries world followed_by for_each (notify_listener script) left
  next_called target document handler left at is left_is document_is =
      first-called script copied world
      ∙ some-handed script target handler _ _ world (found_of_all (IsAt target) (standing world) copied at) (sym is)
      ∙ ap (λ it. call script it (Some handler) NoEntries world followed_by for_each (notify_listener script) (behind_first (standing world) copied)) (sym document_is)
      ∙ ap (λ it. call script document (Some handler) NoEntries world followed_by for_each (notify_listener script) it) (sym left_is)

  pub left_shorter : (handler : ℕ) (left : List Listener) → Some handler ≡ option_map (λ (it : Listener). it.handler) (find (standing world) copied) →
      left ≡ behind_first (standing world) copied → length left < length copied
  left_shorter handler left is left_is =
      let fewer : length (behind_first (standing world) copied) < length copied = fewer_left (λ (it : Listener). it.handler) (standing world) handler copied is in
      let same : length left ≡ length (behind_first (standing world) copied) = ap length left_is in
      omega arith

  pub left_at : (target : EventTarget) (left : List Listener) → AllByRecursion (IsAt target) copied → left ≡ behind_first (standing world) copied → AllByRecursion (IsAt target) left
  left_at target left at left_is = subst (λ these. AllByRecursion (IsAt target) these) (sym left_is) (left_of_all (IsAt target) (standing world) copied at)

module _ (script : Script) (target : EventTarget) (event : EventKind) (copied : List Listener) (world : World) (are : copied ≡ listeners_of target event (world.listeners)) where
  -- those copied as the event reaches its target
  pub copied_called : invoke script target event world ≡ for_each (notify_listener script) copied world
  unfolding invoke
  copied_called = ap (λ these. for_each (notify_listener script) these world) (sym are)

  pub copied_at : AllByRecursion (IsAt target) copied
  copied_at = subst (λ these. AllByRecursion (IsAt target) these) (sym are) (heard-at target event (world.listeners.held))
