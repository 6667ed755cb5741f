-- A page once intersections were updated.
use Rattle.std.proofs.Common.{◌≡◌, ℕ, zero, suc, Bool, true, false, List, [], ◌∷◌, refl, sym, ap, subst, ◌∙◌}
use Rattle.std.specs.Prelude.{Result, Ok, Err, IfOk, OnOk, OnErr}
use Rattle.script_model.specs.Margins.{Margins}
use Rattle.page_model.specs.World.{World, Task, IntersectionObservers, Notify}
use Rattle.page_model.specs.Lookups.{entry_or, put_at}
use Rattle.page_model.specs.Shown.{Shown, shown_of, shown_with}
use Rattle.page_model.specs.Intersections.{update_intersections, with_notify_task}
use Rattle.page_model.specs.Tasks.{is_notifying, with_task}
use Rattle.intersection_update.specs.Updating.{has_news}
use Rattle.intersection_update.specs.Watching.{have_entries}
use Rattle.kept_findings.specs.Held.{HeldFindings}
use Rattle.kept_layout.specs.declared.slots.Slot.{Slot}
use Rattle.page_boxes.specs.Pages.{seen_screen}
use Rattle.page_layout.specs.Views.{LaidElements}
use Rattle.page_state.specs.Findings.{settled_now}
use Rattle.page_state.specs.Notices.{with_task_if, once_told, IsNoticed}
use Rattle.page_state.specs.Views.{PageView}
use Rattle.page_state.specs.Worlds.{world_of, view_of}
use Rattle.page_state.specs.declared.page.Page.TheInside.{Inside}

-- what an update says of what is shown and of scroll margins is so of the page's world
module _ (page : Inside) (after : LaidElements) (same : after.elements ≡ page.laid.elements) (now : PageView) (view_is : view_of page ≡ now) {shown : Shown}
    (is : shown ≡ shown_with (after.elements.tree) (seen_screen page.screen) (page.scrolls)) {margins : List Margins} (listed : margins ≡ page.scroll_margins.items) where
  pub at_world : (P : Shown → List Margins → PageView → Type 0) → P shown margins (view_of page) → P (shown_of now.world) now.world.scroll_margins now
  at_world P holds =
      subst (λ (v : PageView). P (shown_of v.world) v.world.scroll_margins v) view_is
      (subst (λ (m : List Margins). P (shown_of (world_of page)) m (view_of page)) listed
      (subst (λ (s : Shown). P s margins (view_of page)) (is ∙ (λ i. shown_with ((same i).tree) (seen_screen page.screen) (page.scrolls))) holds))

pub if_refused : {A E P : Type 0} (result : Result A E) → P → OnErr result P
if_refused (Ok value) holds = tt
if_refused (Err fault) holds = holds

pub on_ok : {A E P Q : Type 0} (result : Result A E) → (P → Q) → OnOk result P → OnOk result Q
on_ok (Ok value) f p = f p
on_ok (Err fault) f p = tt

pub on_err : {A E P Q : Type 0} (result : Result A E) → (P → Q) → OnErr result P → OnErr result Q
on_err (Ok value) f p = tt
on_err (Err fault) f p = f p

pub if_ok : {A E : Type 0} {P Q : A → Type 0} (result : Result A E) → ((value : A) → P value → Q value) → IfOk result P → IfOk result Q
if_ok (Ok value) f p = f value p
if_ok (Err fault) f p = tt

pub ok_each : {A E K : Type 0} (P : K → Type 0) (result : Result A E) → ((k : K) → OnOk result (P k)) → OnOk result ((k : K) → P k)
ok_each P (Ok value) each = each
ok_each P (Err fault) each = tt

pub ok_all : {A E P Q R S : Type 0} (result : Result A E) → (P → Q → R → S) → OnOk result P → OnOk result Q → OnOk result R → OnOk result S
ok_all (Ok value) f p q r = f p q r
ok_all (Err fault) f p q r = tt

-- an update of a world, by what is settled in it
pub comes_to : (document : ℕ) (world : World) (queued : Bool) → queued ≡ has_news world.tree document world.intersection_observers (settled_now document world)
    → update_intersections document world ≡ once_told queued document (record world { intersection_observers = settled_now document world })
unfolding update_intersections
comes_to document world queued news = ap (λ (b : Bool). once_told b document (record world { intersection_observers = settled_now document world })) (sym news)

-- a document that is told
flagged : (document : ℕ) (flags : List Bool) → entry_or false (put_at false document true flags) document ≡ true
flagged zero [] = refl
flagged zero (flag ∷ flags) = refl
flagged (suc document) [] = flagged document []
flagged (suc document) (flag ∷ flags) = flagged document flags

is_told : (document : ℕ) (already : Bool) (world : World) → is_notifying document world.notifying ≡ already → is_notifying document (with_notify_task document already world).notifying ≡ true
is_told document true world is = is
is_told document false world is = flagged document (world.notifying)

-- no entry waits unnoticed in a world that is told of the entries that wait
pub noticed : (tells : Bool) (document : ℕ) (world : World) → tells ≡ have_entries world.tree document world.intersection_observers → IsNoticed document (once_told tells document world)
noticed true document world is waits = is_told document (is_notifying document (world.notifying)) world refl
noticed false document world is waits = let clash : false ≡ true = is ∙ waits in cc

module _ (document : ℕ) (before : PageView) (queued : Bool) {begun : PageView} (is : begun ≡ record before { world = with_task_if queued document (before.world) }) where
  -- what holds where the task is queued holds without it, if tasks make no difference
  pub without_task : (P : PageView → Type 0) → ((tasks : List Task) → P (record before { world = record (before.world) { tasks = tasks } }) → P before) → P begun → P before
  without_task P same holds = by_queued queued (subst P is holds)
    where
      by_queued : (b : Bool) → P (record before { world = with_task_if b document (before.world) }) → P before
      by_queued true holds = same (with_task (Notify document) (before.world.tasks)) holds
      by_queued false holds = holds

  module _ {settled : PageView} (rest : settled ≡ record begun { world = record (begun.world) { intersection_observers = settled.world.intersection_observers }; kept = settled.kept; found = settled.found }) where
    abbrev pub now : World
    now = record (before.world) { intersection_observers = settled.world.intersection_observers }

    -- the world whose task is queued
    pub world_queued : settled.world ≡ with_task_if queued document now
    world_queued =
        ap (λ (v : PageView). v.world) rest
        ∙ ap (λ (v : PageView). record (v.world) { intersection_observers = settled.world.intersection_observers }) is
        ∙ by_queued queued
      where
        by_queued : (b : Bool) → record (with_task_if b document (before.world)) { intersection_observers = settled.world.intersection_observers } ≡ with_task_if b document now
        by_queued true = refl
        by_queued false = refl

    -- and the page once it is told, or the task taken back
    pub page_told : (tells : Bool) {ended : PageView} → ended ≡ record settled { world = once_told tells document now }
        → ended ≡ record before { world = once_told tells document now; kept = ended.kept; found = ended.found }
    page_told tells {ended} told =
        told
        ∙ ap (λ (v : PageView). record v { world = once_told tells document now }) rest
        ∙ ap (λ (v : PageView). record v { world = once_told tells document now; kept = settled.kept; found = settled.found }) is
        ∙ sym (λ i. record before { world = once_told tells document now; kept = (told i).kept; found = (told i).found })

-- nor does it any document
pub tree_queued : (queued : Bool) (document : ℕ) (world : World) → (with_task_if queued document world).tree ≡ world.tree
tree_queued true document world = refl
tree_queued false document world = refl

-- telling changes no observer
pub observers_told : (tells : Bool) (document : ℕ) (world : World) → (once_told tells document world).intersection_observers ≡ world.intersection_observers
observers_told true document world = by_flag (is_notifying document (world.notifying))
  where
    by_flag : (already : Bool) → (with_notify_task document already world).intersection_observers ≡ world.intersection_observers
    by_flag true = refl
    by_flag false = refl
observers_told false document world = refl

-- what a page says once it is told, or the task taken back, as the update said it
module _ (document : ℕ) (before : PageView) (queued : Bool) {begun settled ended : PageView} (is : begun ≡ record before { world = with_task_if queued document (before.world) })
    (rest : settled ≡ record begun { world = record (begun.world) { intersection_observers = settled.world.intersection_observers }; kept = settled.kept; found = settled.found })
    (tells : Bool) (told : ended ≡ record settled { world = once_told tells document (now document before queued is rest) }) where
  pub same_observers : ended.world.intersection_observers ≡ settled.world.intersection_observers
  same_observers = ap (λ (v : PageView). v.world.intersection_observers) told ∙ observers_told tells document (now document before queued is rest)

  pub moved : (P : PageView → IntersectionObservers → List Slot → HeldFindings → Type 0)
      → ((tasks : List Task) → P (record before { world = record (before.world) { tasks = tasks } }) settled.world.intersection_observers settled.kept settled.found → P before settled.world.intersection_observers settled.kept settled.found)
      → P begun settled.world.intersection_observers settled.kept settled.found → P before ended.world.intersection_observers ended.kept ended.found
  moved P same holds =
      subst (λ (it : IntersectionObservers). P before it ended.kept ended.found) (sym same_observers)
      (subst (λ (kept : List Slot). P before settled.world.intersection_observers kept ended.found) (sym (ap (λ (v : PageView). v.kept) told))
      (subst (λ (found : HeldFindings). P before settled.world.intersection_observers settled.kept found) (sym (ap (λ (v : PageView). v.found) told))
      (without_task document before queued is (λ v. P v settled.world.intersection_observers settled.kept settled.found) same holds)))

  -- where an entry waits, the document is told
  pub none_lost : tells ≡ have_entries settled.world.tree document settled.world.intersection_observers → IsNoticed document ended.world
  none_lost is_so =
      subst (IsNoticed document) (sym (ap (λ (v : PageView). v.world) told))
      (noticed tells document (now document before queued is rest)
      (is_so ∙ ap (λ (world : World). have_entries world.tree document world.intersection_observers) (world_queued document before queued is rest) ∙ by_queued queued))
    where
      by_queued : (b : Bool) → have_entries (with_task_if b document (now document before queued is rest)).tree document (with_task_if b document (now document before queued is rest)).intersection_observers
          ≡ have_entries (now document before queued is rest).tree document (now document before queued is rest).intersection_observers
      by_queued true = refl
      by_queued false = refl
