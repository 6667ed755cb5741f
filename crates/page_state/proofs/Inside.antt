-- What a page keeps true once a part of it was changed.
use Rattle.std.proofs.Common.{◌≡◌, ℕ, Bool, zero, suc, ◌<◌, ◌≤◌, ◌+◌, List, [], ◌∷◌, ◌++◌, Option, Result, Ok, Err, IfOk, length, sym, subst, ap, refl, ◌∙◌, arith}
use Rattle.std.specs.Global.{Vec}
use Rattle.std.specs.Prelude.{slice_get}
use Rattle.std.specs.List.{AllByRecursion}
use Rattle.std.proofs.lemmas.List.{length_push}
use Rattle.text_io.specs.declared.kinds.ThrowKind.{ThrowKind}
use Rattle.text_io.specs.declared.kinds.Version.{Version}
use Rattle.page_model.specs.World.{DocumentThing, ElementThing, ResizeObserverThing, IntersectionObserverThing, QueryListThing, Name, Root}
use Rattle.page_model.specs.Lookups.{scroll_margins_at}
use Rattle.page_model.specs.Ranges.{Counts}
use Rattle.page_model.specs.IntersectionObserving.{with_intersection_observer}
use Rattle.script_model.specs.Margins.{Margins}
use Rattle.page_model.specs.ResizeObserving.{with_resize_observer}
use Rattle.resize_observer.specs.Observers.{HeldObservers}
use Rattle.intersection_observer.specs.Watchers.{HeldWatchers}
use Rattle.intersection_update.specs.Watching.{AreWatchers}
use Rattle.intersection_update.proofs.Watching.{kept_grown, kept_made}
use Rattle.element_tree.specs.declared.container.Container.{Container}
use Rattle.element_tree.specs.declared.container.Container.TheVariants.{Element, Document}
use Rattle.page_layout.specs.Views.{LaidElements}
use Rattle.page_tree.specs.Views.{PageElements}
use Rattle.clip_chain.specs.Worlds.{element_spot, view_spot}
use Rattle.kept_clips.specs.Looked.{MayBeSeen}
use Rattle.kept_findings.specs.Held.{HeldFindings, IsRoomier}
use Rattle.kept_findings.specs.Rooms.{HaveRoom}
use Rattle.kept_findings.proofs.Rooms.{room_roomier, room_element, room_document}
use Rattle.kept_findings.proofs.Settled.{registered_made, registered_roomier}
use Rattle.page_names.specs.Known.{KnownNames}
use Rattle.page_names.specs.Things.{IsContainerBelow}
use Rattle.page_state.specs.Labels.{IsIn}
use Rattle.page_state.specs.Quiet.{NoneSettled}
use Rattle.page_state.specs.Whole.{AreKnown, AreElementNames, AreAsked, IsPage}
use Rattle.page_state.specs.Worlds.{world_of, counts_in}
use Rattle.page_state.specs.declared.page.Page.TheInside.{Inside}
use Rattle.page_state.specs.declared.queries.QueryList.{QueryList}
use Rattle.page_state.proofs.Parts.{known_more, names_made, names_more, next_document, next_element, next_observer, next_watcher, next_query}

pub container_in : (inside : Inside) (found : Result Container ThrowKind) → IfOk found (IsContainerBelow (counts_in inside)) → IfOk found (λ container. IsIn (world_of inside) container)
container_in inside (Ok (Element node)) below = below
container_in inside (Ok (Document document)) below = below
container_in inside (Err kind) below = tt

-- no document is marked any more
pub unsettled : (page : Inside) (settled : List Bool) → NoneSettled settled → IsPage page → IsPage (record page { settled = settled })
unsettled page settled none is = record {
  version = is.version;
  known = is.known;
  elements = is.elements;
  limited = is.limited;
  observations = is.observations;
  registrations = is.registrations;
  listeners = is.listeners;
  frame_callbacks = is.frame_callbacks;
  timers = is.timers;
  watched = is.watched;
  margins = is.margins;
  registered = is.registered;
  room = is.room;
  quiet = none _ _ _ _;
  asked = is.asked;
  sized = is.sized;
  noted = is.noted;
  time = is.time;
}

-- the elements and documents are others, with the same names and as many as before
pub edited : (page : Inside) (after : LaidElements) (settled : List Bool) → NoneSettled settled → IsPage page → after.elements.version ≡ page.laid.elements.version → after.elements.names ≡ page.laid.elements.names
    → length after.elements.tree.elements ≡ length page.laid.elements.tree.elements → length after.elements.tree.documents ≡ length page.laid.elements.tree.documents
    → IsPage (record page { laid = after; settled = settled })
edited page after settled none is version kept count framed = record {
  version = version ∙ is.version;
  known = subst (λ (n : ℕ). AreKnown page.names.list (record (counts_in page) { elements = n; documents = length after.elements.tree.documents })) (sym count)
      (subst (λ (n : ℕ). AreKnown page.names.list (record (counts_in page) { documents = n })) (sym framed) is.known);
  elements = record {
    count = ap (λ (it : List (List ℕ)). length it) kept ∙ (is.elements.count ∙ sym count);
    each = λ n below. ap (λ (it : List (List ℕ)). slice_get it n) kept ∙ is.elements.each n (subst (λ (most : ℕ). n < most) count below);
  };
  limited = is.limited;
  observations = is.observations;
  registrations = is.registrations;
  listeners = is.listeners;
  frame_callbacks = is.frame_callbacks;
  timers = is.timers;
  watched = subst (λ (n : ℕ). AreWatchers n page.watchers.part.made) (sym count) is.watched;
  margins = is.margins;
  registered = is.registered;
  room = subst (λ (n : ℕ). HaveRoom n (length after.elements.tree.documents) page.findings) (sym count)
      (subst (λ (n : ℕ). HaveRoom (length page.laid.elements.tree.elements) n page.findings) (sym framed) is.room);
  quiet = none _ _ _ _;
  asked = subst (λ (n : ℕ). AreAsked page.version page.queries.items n) (sym framed) is.asked;
  sized = is.sized;
  noted = is.noted;
  time = is.time;
}

-- there is room for an element and for what is seen of more spots
pub prepared : (page : Inside) (after : LaidElements) (settled : List Bool) (names : KnownNames) (findings : HeldFindings) → NoneSettled settled → IsPage page → after.elements ≡ record (page.laid.elements) { ready = after.elements.ready } → names.list ≡ page.names.list
    → IsRoomier page.findings findings → IsPage (record page { laid = after; names = names; findings = findings; settled = settled })
prepared page after settled names findings none is same listed roomier =
    let elements : length after.elements.tree.elements ≡ length page.laid.elements.tree.elements = ap (λ (it : PageElements). length it.tree.elements) same in
    let documents : length after.elements.tree.documents ≡ length page.laid.elements.tree.documents = ap (λ (it : PageElements). length it.tree.documents) same in
    let is' : IsPage (record page { laid = after; settled = settled }) = edited page after settled none is (ap (λ (it : PageElements). it.version) same) (ap (λ (it : PageElements). it.names) same) elements documents in
    record {
      version = is'.version;
      known = subst (λ (list : List Name). AreKnown list (counts_in (record page { laid = after }))) (sym listed) is'.known;
      elements = subst (λ (list : List Name). AreElementNames list after.elements) (sym listed) is'.elements;
      limited = is.limited;
      observations = is.observations;
      registrations = is.registrations;
      listeners = is.listeners;
      frame_callbacks = is.frame_callbacks;
      timers = is.timers;
      watched = is'.watched;
      margins = is.margins;
      registered = registered_roomier page.watchers.part page.scroll_margins.items page.findings findings roomier is.registered;
      room = room_roomier (length after.elements.tree.elements) (length after.elements.tree.documents) page.findings findings roomier is'.room;
      quiet = none _ _ _ _;
      asked = is'.asked;
      sized = is.sized;
      noted = is.noted;
      time = is.time;
    }

asked_grown : (version : Version) (queries : List QueryList) (documents more : ℕ) → documents ≤ more → AreAsked version queries documents → AreAsked version queries more
asked_grown version queries documents more grown asked = record { documents = all queries asked.documents; few = asked.few }
  where
    all : (queries : List QueryList) → AllByRecursion (λ (it : QueryList). it.document.0 < documents) queries → AllByRecursion (λ (it : QueryList). it.document.0 < more) queries
    all [] are = tt
    all (first ∷ others) are = (omega (arith, are.0, grown), all others are.1)

-- an element is made, last, with its name, and a document with its own where it is a frame
module _ (page : Inside) (is : IsPage page) (after : LaidElements) (settled : List Bool) (none : NoneSettled settled) (names : KnownNames) (findings : HeldFindings) (roomier : IsRoomier page.findings findings) (text : List ℕ)
    (version : after.elements.version ≡ page.laid.elements.version) (last : after.elements.names ≡ page.laid.elements.names ++ text ∷ []) (count : length after.elements.tree.elements ≡ length page.laid.elements.tree.elements + 1) where
  abbrev elements : ℕ
  elements = length page.laid.elements.tree.elements

  abbrev documents : ℕ
  documents = length page.laid.elements.tree.documents

  abbrev one : List Name
  one = page.names.list ++ record { text = text; thing = ElementThing elements } ∷ []

  known_one : AreKnown one (record (counts_in page) { elements = elements + 1 })
  known_one = known_more page.names.list text (ElementThing elements) (counts_in page) (record (counts_in page) { elements = elements + 1 }) (next_element (counts_in page)) is.known

  names_one : AreElementNames one after.elements
  names_one = names_made page.names.list page.laid.elements after.elements is.elements (counts_in page) refl is.known text last count

  room_one : (n : ℕ) → n ≡ elements → MayBeSeen findings.seen findings.clips (element_spot n) → HaveRoom (elements + 1) documents findings
  room_one n number seen =
      room_element elements documents findings (subst (λ (m : ℕ). MayBeSeen findings.seen findings.clips (element_spot m)) number seen)
      (room_roomier elements documents page.findings findings roomier is.room)

  grown : (list : List Name) (framed : ℕ) → documents ≤ framed → names.list ≡ list → length after.elements.tree.documents ≡ framed
      → AreKnown list (record (counts_in page) { elements = elements + 1; documents = framed }) → AreElementNames list after.elements → HaveRoom (elements + 1) framed findings
      → IsPage (record page { names = names; laid = after; findings = findings; settled = settled })
  grown list framed more listed are known named room = record {
    version = version ∙ is.version;
    known = subst (λ (it : List Name). AreKnown it (record (counts_in page) { elements = length after.elements.tree.elements; documents = length after.elements.tree.documents })) (sym listed)
        (subst (λ (n : ℕ). AreKnown list (record (counts_in page) { elements = n; documents = length after.elements.tree.documents })) (sym count)
        (subst (λ (n : ℕ). AreKnown list (record (counts_in page) { elements = elements + 1; documents = n })) (sym are) known));
    elements = subst (λ (it : List Name). AreElementNames it after.elements) (sym listed) named;
    limited = is.limited;
    observations = is.observations;
    registrations = is.registrations;
    listeners = is.listeners;
    frame_callbacks = is.frame_callbacks;
    timers = is.timers;
    watched = subst (λ (n : ℕ). AreWatchers n page.watchers.part.made) (sym count) (kept_grown elements (elements + 1) (omega arith) page.watchers.part.made is.watched);
    margins = is.margins;
    registered = registered_roomier page.watchers.part page.scroll_margins.items page.findings findings roomier is.registered;
    room = subst (λ (n : ℕ). HaveRoom n (length after.elements.tree.documents) findings) (sym count) (subst (λ (n : ℕ). HaveRoom (elements + 1) n findings) (sym are) room);
    quiet = none _ _ _ _;
    asked = subst (λ (n : ℕ). AreAsked page.version page.queries.items n) (sym are) (asked_grown page.version page.queries.items documents framed more is.asked);
    sized = is.sized;
    noted = is.noted;
    time = is.time;
  }

  pub enlarged : (n : ℕ) → n ≡ elements → names.list ≡ page.names.list ++ record { text = text; thing = ElementThing n } ∷ []
      → length after.elements.tree.documents ≡ documents → MayBeSeen findings.seen findings.clips (element_spot n) → IsPage (record page { names = names; laid = after; findings = findings; settled = settled })
  enlarged n number given same seen =
      grown one documents (omega arith) (given ∙ ap (λ (m : ℕ). page.names.list ++ record { text = text; thing = ElementThing m } ∷ []) number) same known_one names_one
      (room_one n number seen)

  pub framed_page : (n document : ℕ) (inside : List ℕ) → n ≡ elements → document ≡ documents
      → names.list ≡ (page.names.list ++ record { text = text; thing = ElementThing n } ∷ []) ++ record { text = inside; thing = DocumentThing document } ∷ []
      → length after.elements.tree.documents ≡ documents + 1 → MayBeSeen findings.seen findings.clips (element_spot n) → MayBeSeen findings.seen findings.clips (view_spot document)
      → IsPage (record page { names = names; laid = after; findings = findings; settled = settled })
  framed_page n document inside number framed given more seen shown =
      let counts : Counts = record (counts_in page) { elements = elements + 1 } in
      grown (one ++ record { text = inside; thing = DocumentThing documents } ∷ []) (documents + 1) (omega arith)
      (given ∙ (λ i. (page.names.list ++ record { text = text; thing = ElementThing (number i) } ∷ []) ++ record { text = inside; thing = DocumentThing (framed i) } ∷ []))
      more
      (known_more one inside (DocumentThing documents) counts (record counts { documents = documents + 1 }) (next_document counts) known_one)
      (names_more one after.elements counts (record { text = inside; thing = DocumentThing documents }) (sym count) known_one names_one)
      (room_document (elements + 1) documents findings (subst (λ (d : ℕ). MayBeSeen findings.seen findings.clips (view_spot d)) framed shown) (room_one n number seen))

-- a resize observer is made, last, with its name
pub watched_page : (page : Inside) (names : KnownNames) (after : HeldObservers) (text : List ℕ) (document n : ℕ) (handler : Option ℕ) → IsPage page
    → names.list ≡ page.names.list ++ record { text = text; thing = ResizeObserverThing n } ∷ [] → n ≡ length page.observers.part.made
    → after ≡ record (page.observers) { part = with_resize_observer document handler (page.observers.part) } → IsPage (record page { names = names; observers = after })
watched_page page names after text document n handler is given number made =
    let observers : ℕ = length page.observers.part.made in
    let thing = ResizeObserverThing observers in
    let list : List Name = page.names.list ++ record { text = text; thing = ResizeObserverThing observers } ∷ [] in
    let listed : names.list ≡ list = given ∙ ap (λ (m : ℕ). page.names.list ++ record { text = text; thing = ResizeObserverThing m } ∷ []) number in
    let new : HeldObservers = record (page.observers) { part = with_resize_observer document handler (page.observers.part) } in
    let count : length new.part.made ≡ observers + 1 = length_push page.observers.part.made _ in
    subst (λ (it : HeldObservers). IsPage (record page { names = names; observers = it })) (sym made)
    (record {
      version = is.version;
      known = subst (λ (it : List Name). AreKnown it (record (counts_in page) { resize_observers = length new.part.made })) (sym listed)
          (subst (λ (m : ℕ). AreKnown list (record (counts_in page) { resize_observers = m })) (sym count)
          (known_more page.names.list text thing (counts_in page) (record (counts_in page) { resize_observers = observers + 1 }) (next_observer (counts_in page)) is.known));
      elements = subst (λ (it : List Name). AreElementNames it page.laid.elements) (sym listed) (names_more page.names.list page.laid.elements (counts_in page) _ refl is.known is.elements);
      limited = record {
        observers = is.limited.observers;
        observations = is.limited.observations;
        watchers = is.limited.watchers;
        registrations = is.limited.registrations;
        listeners = is.limited.listeners;
        frame_callbacks = is.limited.frame_callbacks;
        timers = is.limited.timers;
        tasks = is.limited.tasks;
      };
      observations = is.observations;
      registrations = is.registrations;
      listeners = is.listeners;
      frame_callbacks = is.frame_callbacks;
      timers = is.timers;
      watched = is.watched;
      margins = is.margins;
      registered = is.registered;
      room = is.room;
      quiet = is.quiet;
      asked = is.asked;
      sized = is.sized;
      noted = is.noted;
      time = is.time;
    })

margins_before : (margins : List Margins) (last : Margins) (n : ℕ) → n < length margins → scroll_margins_at (margins ++ last ∷ []) n ≡ scroll_margins_at margins n
margins_before [] last n below = absurd (omega (arith, below))
margins_before (first ∷ others) last zero below = refl
margins_before (first ∷ others) last (suc n) below = margins_before others last n (omega (arith, below))

-- an intersection observer is made, last, with its name and its scroll margins
pub seeing_page : (page : Inside) (names : KnownNames) (after : HeldWatchers) (scroll : Vec Margins) (settled : List Bool) (text : List ℕ) (document n : ℕ) (handler : Option ℕ) (root : Root) (margins moves : Margins) (thresholds : List ℕ) → NoneSettled settled → IsPage page
    → names.list ≡ page.names.list ++ record { text = text; thing = IntersectionObserverThing n } ∷ [] → n ≡ length page.watchers.part.made
    → after ≡ record (page.watchers) { part = with_intersection_observer document handler root margins thresholds (page.watchers.part) }
    → scroll.items ≡ page.scroll_margins.items ++ moves ∷ [] → IsPage (record page { names = names; watchers = after; scroll_margins = scroll; settled = settled })
seeing_page page names after scroll settled text document n handler root margins moves thresholds none is given number made put =
    let watchers : ℕ = length page.watchers.part.made in
    let list : List Name = page.names.list ++ record { text = text; thing = IntersectionObserverThing watchers } ∷ [] in
    let listed : names.list ≡ list = given ∙ ap (λ (m : ℕ). page.names.list ++ record { text = text; thing = IntersectionObserverThing m } ∷ []) number in
    let new : HeldWatchers = record (page.watchers) { part = with_intersection_observer document handler root margins thresholds (page.watchers.part) } in
    let count : length new.part.made ≡ watchers + 1 = length_push page.watchers.part.made _ in
    subst (λ (it : HeldWatchers). IsPage (record page { names = names; watchers = it; scroll_margins = scroll; settled = settled })) (sym made)
    (record {
      version = is.version;
      known = subst (λ (it : List Name). AreKnown it (record (counts_in page) { intersection_observers = length new.part.made })) (sym listed)
          (subst (λ (m : ℕ). AreKnown list (record (counts_in page) { intersection_observers = m })) (sym count)
          (known_more page.names.list text (IntersectionObserverThing watchers) (counts_in page) (record (counts_in page) { intersection_observers = watchers + 1 }) (next_watcher (counts_in page)) is.known));
      elements = subst (λ (it : List Name). AreElementNames it page.laid.elements) (sym listed) (names_more page.names.list page.laid.elements (counts_in page) _ refl is.known is.elements);
      limited = record {
        observers = is.limited.observers;
        observations = is.limited.observations;
        watchers = is.limited.watchers;
        registrations = is.limited.registrations;
        listeners = is.limited.listeners;
        frame_callbacks = is.limited.frame_callbacks;
        timers = is.limited.timers;
        tasks = is.limited.tasks;
      };
      observations = is.observations;
      registrations = is.registrations;
      listeners = is.listeners;
      frame_callbacks = is.frame_callbacks;
      timers = is.timers;
      watched = kept_made (length page.laid.elements.tree.elements) document handler root margins thresholds page.watchers.part is.watched;
      margins = ap (λ (it : List Margins). length it) put ∙ length_push page.scroll_margins.items moves ∙ ap (λ (m : ℕ). m + 1) is.margins ∙ sym count;
      registered = registered_made page.watchers.part page.scroll_margins.items scroll.items _ page.findings refl
          (λ watcher there. ap (λ (it : List Margins). scroll_margins_at it watcher) put ∙ margins_before page.scroll_margins.items moves watcher (subst (λ (m : ℕ). watcher < m) (sym is.margins) there)) is.registered;
      room = is.room;
      quiet = none _ _ _ _;
      asked = is.asked;
      sized = is.sized;
      noted = is.noted;
      time = is.time;
    })

all_asked : (most : ℕ) (queries : List QueryList) (last : QueryList) → AllByRecursion (λ (it : QueryList). it.document.0 < most) queries → last.document.0 < most
    → AllByRecursion (λ (it : QueryList). it.document.0 < most) (queries ++ last ∷ [])
all_asked most [] last all is = (is, tt)
all_asked most (first ∷ others) last all is = (all.0, all_asked most others last all.1 is)

-- the facts on query lists once one is made, last, with its name
module _ (page : Inside) (names : KnownNames) (queries : List QueryList) (text : List ℕ) (last : QueryList) (n : ℕ) (is : IsPage page)
    (given : names.list ≡ page.names.list ++ record { text = text; thing = QueryListThing n } ∷ []) (number : n ≡ length page.queries.items)
    (made : queries ≡ page.queries.items ++ last ∷ []) where
  abbrev list : List Name
  list = page.names.list ++ record { text = text; thing = QueryListThing (length page.queries.items) } ∷ []

  listed : names.list ≡ list
  listed = given ∙ ap (λ (m : ℕ). page.names.list ++ record { text = text; thing = QueryListThing m } ∷ []) number

  more : length queries ≡ length page.queries.items + 1
  more = ap (λ (it : List QueryList). length it) made ∙ length_push page.queries.items last

  pub query_known : AreKnown names.list (record (counts_in page) { queries = length queries })
  query_known =
      subst (λ (it : List Name). AreKnown it (record (counts_in page) { queries = length queries })) (sym listed)
      (subst (λ (m : ℕ). AreKnown list (record (counts_in page) { queries = m })) (sym more)
      (known_more page.names.list text (QueryListThing (length page.queries.items)) (counts_in page) (record (counts_in page) { queries = length page.queries.items + 1 }) (next_query (counts_in page)) is.known))

  pub query_elements : AreElementNames names.list page.laid.elements
  query_elements = subst (λ (it : List Name). AreElementNames it page.laid.elements) (sym listed) (names_more page.names.list page.laid.elements (counts_in page) _ refl is.known is.elements)

  pub query_asked : last.document.0 < length page.laid.elements.tree.documents → length page.queries.items < 4096 → AreAsked page.version queries (length page.laid.elements.tree.documents)
  query_asked of few = record {
    documents = subst (λ (it : List QueryList). AllByRecursion (λ (each : QueryList). each.document.0 < length page.laid.elements.tree.documents) it) (sym made)
        (all_asked (length page.laid.elements.tree.documents) page.queries.items last is.asked.documents of);
    few = omega (arith, few, more);
  }
