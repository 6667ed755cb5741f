-- What is made has the next number, and so the numbers of a world in which it stands are in range.
use Rattle.std.proofs.Common.{arith, ◌≤◌}
use Rattle.std.specs.Prelude.{ℕ, ◌<◌, Bool, List, length, Option, None, IfSome}
use Rattle.layout_model.specs.Items.{Kind}
use Rattle.script_model.specs.Queries.{MediaQuery}
use Rattle.script_model.specs.Margins.{Margins}
use Rattle.page_model.specs.World.{Root, Thing, ElementThing, DocumentThing, ResizeObserverThing, IntersectionObserverThing, QueryListThing, QueryList, World}
use Rattle.page_model.specs.Lookups.{no_margins, put_at}
use Rattle.page_model.specs.Names.{with_name}
use Rattle.page_model.specs.Edits.{with_element, with_frame, new_document}
use Rattle.page_model.specs.ResizeObserving.{with_resize_observer}
use Rattle.page_model.specs.IntersectionObserving.{with_intersection_observer}
use Rattle.page_model.specs.QueryLists.{with_query_list}
use Rattle.page_model.specs.Ranges.{Counts, counts_of, IsElementIn, IsDocumentIn, IsResizeObserverIn, IsRootIn, IsIntersectionObserverIn, IsThingIn, IsWithin, IsInRange}
use Rattle.page_laws.proofs.Lists.{all-add, one-more, less-more, put-within}
use Rattle.page_laws.proofs.Ranges.{IsMore, within-more, root-more, with-tree, with-names, with-resize, with-intersection, with-margins, with-queries}

-- a name more
named : (counts : Counts) (name : List ℕ) (thing : Thing) (world : World) → IsWithin counts world → IsThingIn counts thing →
    IsWithin counts (record world { names = with_name name thing (world.names) })
named counts name thing world within is = with-names counts world _ within (all-add _ (world.names) _ within.names is)

module _ (handlers : ℕ) (world : World) (within : IsInRange handlers world) where
  pub made-in : (name : List ℕ) (kind : Kind) (document : ℕ) → document < length world.tree.documents →
      IsInRange handlers (record world {
        names = with_name name (ElementThing (length world.tree.elements)) (world.names);
        tree = with_element kind document None (world.tree);
      })
  made-in name kind document is-document =
      let tree = with_element kind document None (world.tree) in
      let counts : Counts = counts_of handlers (record world { tree = tree }) in
      let longer_elements : length world.tree.elements ≤ counts.elements = less-more (world.tree.elements) _ in
      let more : IsWithin counts world = within-more (counts_of handlers world) counts (grind arith) world within in
      named counts name (ElementThing (length world.tree.elements)) (record world { tree = tree })
      (with-tree counts world tree more (record {
        elements =
            all-add (IsElementIn counts) (world.tree.elements) _ more.tree.elements
            (record { parent = tt; children = tt; document = is-document; framed = tt });
        documents = more.tree.documents;
      }))
      (one-more (world.tree.elements) _)

  pub frame-in : (name inside : List ℕ) (document : ℕ) → document < length world.tree.documents →
      IsInRange handlers (record world {
        names = with_name inside (DocumentThing (length world.tree.documents))
            (with_name name (ElementThing (length world.tree.elements)) (world.names));
        tree = with_frame document (world.tree);
      })
  frame-in name inside document is-document =
      let tree = with_frame document (world.tree) in
      let counts : Counts = counts_of handlers (record world { tree = tree }) in
      let framed : length world.tree.documents < counts.documents = one-more (world.tree.documents) (new_document (length world.tree.elements)) in
      let longer_elements : length world.tree.elements ≤ counts.elements = less-more (world.tree.elements) _ in
      let longer_documents : length world.tree.documents ≤ counts.documents = less-more (world.tree.documents) _ in
      let more : IsWithin counts world = within-more (counts_of handlers world) counts (grind arith) world within in
      named counts inside (DocumentThing (length world.tree.documents)) _
      (named counts name (ElementThing (length world.tree.elements)) (record world { tree = tree })
      (with-tree counts world tree more (record {
        elements =
            all-add (IsElementIn counts) (world.tree.elements) _ more.tree.elements
            (record { parent = tt; children = tt; document = omega arith; framed = framed });
        documents = all-add (IsDocumentIn counts) (world.tree.documents) _ more.tree.documents (record { frame = one-more (world.tree.elements) _; root = tt });
      }))
      (one-more (world.tree.elements) _))
      framed

  pub resize-made-in : (name : List ℕ) (document : ℕ) (handler : Option ℕ) → document < length world.tree.documents →
      IfSome handler (λ called. called < handlers) → IsInRange handlers
      (record world {
        names = with_name name (ResizeObserverThing (length world.resize_observers.made)) (world.names);
        resize_observers = with_resize_observer document handler (world.resize_observers);
      })
  resize-made-in name document handler is-document is-handler =
      let it = with_resize_observer document handler (world.resize_observers) in
      let counts : Counts = counts_of handlers (record world { resize_observers = it }) in
      let longer_resize_observers : length world.resize_observers.made ≤ counts.resize_observers = less-more (world.resize_observers.made) _ in
      let more : IsWithin counts world = within-more (counts_of handlers world) counts (grind arith) world within in
      named counts name (ResizeObserverThing (length world.resize_observers.made)) (record world { resize_observers = it })
      (with-resize counts world it more (all-add (IsResizeObserverIn counts) (world.resize_observers.made) _ more.resize_observers
      (record { document = is-document; handler = is-handler; targets = tt; active = tt; skipped = tt })))
      (one-more (world.resize_observers.made) _)

  pub intersection-made-in : (name : List ℕ) (document : ℕ) (handler : Option ℕ) (root : Root) (margins scroll_margins : Margins) (thresholds : List ℕ) →
      document < length world.tree.documents → IfSome handler (λ called. called < handlers) → IsRootIn (counts_of handlers world) root →
      IsInRange handlers (record world {
        names = with_name name (IntersectionObserverThing (length world.intersection_observers.made)) (world.names);
        intersection_observers = with_intersection_observer document handler root margins thresholds (world.intersection_observers);
        scroll_margins = put_at no_margins (length world.intersection_observers.made) scroll_margins (world.scroll_margins);
      })
  intersection-made-in name document handler root margins scroll_margins thresholds is-document is-handler is-root =
      let it = with_intersection_observer document handler root margins thresholds (world.intersection_observers) in
      let counts : Counts = counts_of handlers (record world { intersection_observers = it }) in
      let longer : length world.intersection_observers.made ≤ length it.made = less-more (world.intersection_observers.made) _ in
      let grows : IsMore (counts_of handlers world) counts = grind arith in
      let more : IsWithin counts world = within-more (counts_of handlers world) counts grows world within in
      let put : List Margins = put_at no_margins (length world.intersection_observers.made) scroll_margins (world.scroll_margins) in
      let fits : length put ≤ counts.intersection_observers =
      put-within (counts.intersection_observers) no_margins (length world.intersection_observers.made) scroll_margins (world.scroll_margins)
      (one-more (world.intersection_observers.made) _) more.scroll_margins in
      named counts name (IntersectionObserverThing (length world.intersection_observers.made)) (record world { intersection_observers = it; scroll_margins = put })
      (with-margins counts (record world { intersection_observers = it }) put
      (with-intersection counts world it more (all-add (IsIntersectionObserverIn counts) (world.intersection_observers.made) _ more.intersection_observers
      (record {
        document = is-document;
        handler = is-handler;
        root = root-more (counts_of handlers world) counts grows root is-root;
        registrations = tt;
        queue = tt;
      }))) fits)
      (one-more (world.intersection_observers.made) _)

  pub query-made-in : (name : List ℕ) (document : ℕ) (query : List MediaQuery) (matched : Bool) → document < length world.tree.documents →
      IsInRange handlers (record world {
        names = with_name name (QueryListThing (length world.queries)) (world.names);
        queries = with_query_list document query matched (world.queries);
      })
  query-made-in name document query matched is-document =
      let queries = with_query_list document query matched (world.queries) in
      let counts : Counts = counts_of handlers (record world { queries = queries }) in
      let longer_queries : length world.queries ≤ counts.queries = less-more (world.queries) _ in
      let more : IsWithin counts world = within-more (counts_of handlers world) counts (grind arith) world within in
      named counts name (QueryListThing (length world.queries)) (record world { queries = queries })
      (with-queries counts world queries more (all-add (λ (list : QueryList). list.document < counts.documents) (world.queries) _ more.queries is-document))
      (one-more (world.queries) _)
