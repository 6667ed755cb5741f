-- Items that stand last first, and the same ones in their order.
use Rattle.std.proofs.Common.{◌≡◌, ◌∙◌, refl, sym, ap, ℕ, ◌≤◌, max, false, List, [], ◌∷◌, ◌++◌, length, arith, subst, append_assoc, length-append, append-nil}
use Rattle.std.specs.Prelude.{reverse, bytes_eq}
use Rattle.std.specs.List.{list_any}
use Rattle.std.proofs.lemmas.List.{reverse-append}
use Rattle.text_io.specs.declared.kinds.Version.{Version}
use Rattle.script_model.specs.Syntax.{Item, Outside, Tick, Handler}
use Rattle.script_model.specs.Scripts.{NamedBlock, handlers_in}
use Rattle.script_text.specs.NumberedLines.{NumberedLine, item_lines, items_lines}
use Rattle.script_text.specs.WellFormed.{IsItem, AreItems, item_depth, items_depth, AreNew}
use Rattle.script_text.proofs.StateKept.{IsKept, AreKept, kept_lines, item_names, kept_names, Differ}

-- one item more behind items

items_one_more : (is : List Item) (i : Item) → items_lines (is ++ (i ∷ [])) ≡ items_lines is ++ item_lines i
unfolding items_lines
items_one_more [] i = append-nil (item_lines i)
items_one_more (j ∷ js) i =
    ap (λ (ls : List NumberedLine). item_lines j ++ ls) (items_one_more js i) ∙ sym (append_assoc (item_lines j) (items_lines js) (item_lines i))

good_one_more : (version : Version) (is : List Item) (i : Item) → AreItems version is → IsItem version i → AreItems version (is ++ (i ∷ []))
unfolding AreItems
good_one_more version [] i h k = (k, tt)
good_one_more version (j ∷ js) i h k = (h.0, good_one_more version js i h.1 k)

deep_one_more : (is : List Item) (i : Item) → items_depth (is ++ (i ∷ [])) ≡ max (items_depth is) (item_depth i)
unfolding items_depth
deep_one_more [] i = omega arith
deep_one_more (j ∷ js) i = omega (arith, deep_one_more js i)

handlers_one_more : (is : List Item) (i : Item) → handlers_in (is ++ (i ∷ [])) ≡ handlers_in is ++ handlers_in (i ∷ [])
unfolding handlers_in
handlers_one_more [] i = refl
handlers_one_more (Outside command ∷ js) i = handlers_one_more js i
handlers_one_more (Tick line time ∷ js) i = handlers_one_more js i
handlers_one_more (Handler line name block last ∷ js) i = ap (λ (hs : List NamedBlock). record { name = name; block = block } ∷ hs) (handlers_one_more js i)

-- the names of handlers, the last one first, before these
names_onto : List NamedBlock → List (List ℕ) → List (List ℕ)
names_onto [] names = names
names_onto (h ∷ hs) names = names_onto hs (h.name ∷ names)

-- handlers whose names differ, and their names, the last one first
record AreHandlers (hs : List NamedBlock) (names : List (List ℕ)) : Type 0 where
  new : AreNew [] hs
  count : length hs ≡ length names
  names_are : names_onto hs [] ≡ names

new_one_more : (hs : List NamedBlock) (h : NamedBlock) (names : List (List ℕ)) → AreNew names hs → list_any (bytes_eq h.name) (names_onto hs names) ≡ false → AreNew names (hs ++ (h ∷ []))
unfolding AreNew names_onto
new_one_more [] h names new k = (k, tt)
new_one_more (g ∷ gs) h names new k = (new.0, new_one_more gs h (g.name ∷ names) new.1 k)

onto_one_more : (hs : List NamedBlock) (h : NamedBlock) (names : List (List ℕ)) → names_onto (hs ++ (h ∷ [])) names ≡ h.name ∷ names_onto hs names
unfolding names_onto
onto_one_more [] h names = refl
onto_one_more (g ∷ gs) h names = onto_one_more gs h (g.name ∷ names)

no_handlers : AreHandlers [] []
unfolding AreNew names_onto
no_handlers = record { new = tt; count = refl; names_are = refl }

handler_one_more : (hs : List NamedBlock) (h : NamedBlock) (names : List (List ℕ)) → AreHandlers hs names → list_any (bytes_eq h.name) names ≡ false → AreHandlers (hs ++ (h ∷ [])) (h.name ∷ names)
handler_one_more hs h names are k = record {
  new = new_one_more hs h [] are.new (ap (list_any (bytes_eq h.name)) are.names_are ∙ k);
  count = omega (arith, length-append hs (h ∷ []), are.count);
  names_are = onto_one_more hs h [] ∙ ap (λ (ns : List (List ℕ)). h.name ∷ ns) are.names_are;
}

-- the handlers of the items with one more
handlers_more : (i : Item) (hs : List NamedBlock) (names : List (List ℕ)) → AreHandlers hs names → Differ (item_names i ++ names) → AreHandlers (hs ++ handlers_in (i ∷ [])) (item_names i ++ names)
unfolding handlers_in
handlers_more (Outside command) hs names are k = subst (λ gs. AreHandlers gs names) (sym (append-nil hs)) are
handlers_more (Tick line time) hs names are k = subst (λ gs. AreHandlers gs names) (sym (append-nil hs)) are
handlers_more (Handler line name block last) hs names are k = handler_one_more hs (record { name = name; block = block }) names are k.0

differ_behind : (i : Item) (names : List (List ℕ)) → Differ (item_names i ++ names) → Differ names
differ_behind (Outside command) names k = k
differ_behind (Tick line time) names k = k
differ_behind (Handler line name block last) names k = k.1

-- What holds of kept items holds of them in their order.
pub record IsInOrder (version : Version) (kept items : List Item) : Type 0 where
  pub lines : items_lines items ≡ kept_lines kept
  pub meant : AreItems version items
  pub nested : items_depth items ≤ 16
  pub new : AreNew [] (handlers_in items)
  pub count : length (handlers_in items) ≡ length (kept_names kept)

record IsReversed (version : Version) (kept items : List Item) : Type 0 where
  lines : items_lines items ≡ kept_lines kept
  meant : AreItems version items
  nested : items_depth items ≤ 16
  handlers : AreHandlers (handlers_in items) (kept_names kept)

one_reversed : (version : Version) (i : Item) (kept items : List Item) → IsKept version i → Differ (kept_names (i ∷ kept)) → IsReversed version kept items → IsReversed version (i ∷ kept) (items ++ (i ∷ []))
one_reversed version i kept items is differ are = record {
  lines = items_one_more items i ∙ ap (λ (ls : List NumberedLine). ls ++ item_lines i) are.lines;
  meant = good_one_more version items i are.meant is.meant;
  nested = omega (arith, deep_one_more items i, are.nested, is.nested);
  handlers = subst (λ hs. AreHandlers hs (kept_names (i ∷ kept))) (sym (handlers_one_more items i)) (handlers_more i (handlers_in items) (kept_names kept) are.handlers differ);
}

none_reversed : (version : Version) → IsReversed version [] []
unfolding items_lines AreItems items_depth handlers_in
none_reversed version = record { lines = refl; meant = tt; nested = omega arith; handlers = no_handlers }

all_reversed : (version : Version) (kept : List Item) → AreKept version kept → Differ (kept_names kept) → IsReversed version kept (reverse kept)
all_reversed version [] are differ = none_reversed version
all_reversed version (i ∷ is) are differ =
    subst (IsReversed version (i ∷ is)) (sym (reverse-append (i ∷ []) is))
    (one_reversed version i is (reverse is) are.0 differ (all_reversed version is are.1 (differ_behind i (kept_names is) differ)))

pub in_order : (version : Version) (kept items : List Item) → AreKept version kept → Differ (kept_names kept) → reverse kept ≡ items → IsInOrder version kept items
in_order version kept items are differ e =
    let r : IsReversed version kept items = subst (IsReversed version kept) e (all_reversed version kept are differ) in
    record { lines = r.lines; meant = r.meant; nested = r.nested; new = r.handlers.new; count = r.handlers.count }
