-- The handlers among the first items, one item more at a time.
use Rattle.std.proofs.Common.{◌≡◌, ℕ, zero, suc, ◌+◌, ◌<◌, ◌≤◌, Bool, true, false, cond, List, [], ◌∷◌, ◌++◌, length, map, filter, take, Option, Some, None, refl, ap, sym, ◌∙◌, arith, add-one, append-nil}
use Rattle.std.specs.Prelude.{slice_get, option_map, bytes_eq}
use Rattle.std.proofs.Common.{get_or}
use Rattle.std.proofs.lemmas.List.{take_all, map-append, length-map}
use Rattle.std.proofs.lemmas.List.Elements.{filter-append}
use Rattle.std.proofs.lemmas.Option.{slice_get-map, slice_get_past, slice_get_read}
use Rattle.script_model.specs.Syntax.{Item, Outside, Tick, Handler, Block}
use Rattle.script_model.specs.Scripts.{NamedBlock, handlers_in, number_in, handler_number}
use Rattle.script_syntax.specs.Seen.{is_handler, item_of, handler_item, handler_of}
use Rattle.script_syntax.specs.declared.commands.Handler.{Handler as CodeHandler}
use Rattle.script_syntax.specs.declared.commands.Item.{Item as CodeItem}
use Rattle.script_syntax.specs.declared.commands.Item.TheVariants as code
use Rattle.std.specs.Borrow.{Bor}
use Rattle.std.specs.List.{HoldsAt}
use Rattle.std.specs.Option.{MatchOption}
use Rattle.script_syntax.specs.Indexes.{IndexedTo, Indexed, noted, Noted}

taken : {A : Type 0} (xs : List A) (i : ℕ) (x : A) → slice_get xs i ≡ Some x → take (suc i) xs ≡ take i xs ++ (x ∷ [])
taken [] i x e = cc
taken (y ∷ ys) zero x e = let f : y ≡ x = cc in ap (λ z. z ∷ []) f
taken (y ∷ ys) (suc i) x e = ap (λ zs. y ∷ zs) (taken ys i x e)

taken_more : {A : Type 0} (xs : List A) (i : ℕ) (x : A) → slice_get xs i ≡ Some x → take (i + 1) xs ≡ take i xs ++ (x ∷ [])
taken_more xs i x e = ap (λ (n : ℕ). take n xs) (add-one i) ∙ taken xs i x e

in_both : (xs ys : List Item) → handlers_in (xs ++ ys) ≡ handlers_in xs ++ handlers_in ys
unfolding handlers_in
in_both [] ys = refl
in_both (Outside command ∷ xs) ys = in_both xs ys
in_both (Tick line time ∷ xs) ys = in_both xs ys
in_both (Handler line name block end_line ∷ xs) ys = ap (λ (hs : List NamedBlock). record { name = name; block = block } ∷ hs) (in_both xs ys)

abbrev later : Option ℕ → Option ℕ
later found = option_map (λ number. number + 1) found

last_found : (same : Bool) (found : Option ℕ) (count : ℕ) → later (noted same count found) ≡ noted same (count + 1) (later found)
last_found same (Some n) count = refl
last_found true None count = refl
last_found false None count = refl

in_front : (first same : Bool) (found rest : Option ℕ) (count : ℕ) → rest ≡ noted same count found
    → cond first (Some 0) (later rest) ≡ noted same (count + 1) (cond first (Some 0) (later found))
in_front true same found rest count e = refl
in_front false same found rest count e = ap later e ∙ last_found same found count

number_last : (hs : List NamedBlock) (h : NamedBlock) (q : List ℕ) → number_in (hs ++ (h ∷ [])) q ≡ noted (bytes_eq q h.name) (length hs) (number_in hs q)
unfolding number_in
number_last [] h q = refl
number_last (g ∷ gs) h q =
    in_front (bytes_eq q g.name) (bytes_eq q h.name) (number_in gs q) (number_in (gs ++ (h ∷ [])) q) (length gs) (number_last gs h q)
    ∙ ap (λ (n : ℕ). noted (bytes_eq q h.name) n (cond (bytes_eq q g.name) (Some 0) (later (number_in gs q)))) (add-one (length gs))

counted : (xs : List Item) → length (filter is_handler xs) ≡ length (handlers_in xs)
unfolding handlers_in
counted [] = refl
counted (Outside command ∷ xs) = counted xs
counted (Tick line time ∷ xs) = counted xs
counted (Handler line name block end_line ∷ xs) = omega (arith, counted xs)

other_filtered : (x : Item) (xs : List Item) → is_handler x ≡ false → xs ++ filter is_handler (x ∷ []) ≡ xs
other_filtered (Outside command) xs plain = append-nil xs
other_filtered (Tick line time) xs plain = append-nil xs
other_filtered (Handler line name block end_line) xs plain = cc

other_in : (x : Item) (hs : List NamedBlock) → is_handler x ≡ false → hs ++ handlers_in (x ∷ []) ≡ hs
unfolding handlers_in
other_in (Outside command) hs plain = append-nil hs
other_in (Tick line time) hs plain = append-nil hs
other_in (Handler line name block end_line) hs plain = cc

at_some : (found : Option Item) (other : Option Item) → Some found ≡ option_map Some other → found ≡ other
at_some found None e = cc
at_some found (Some x) e = cc

at_none : (other : Option Item) → None ≡ option_map Some other → None ≡ other
at_none None e = refl
at_none (Some x) e = cc

-- no handler is among no items
pub none_noted : (items : List Item) (number_of : List ℕ → Option ℕ) → ((name : List ℕ) → number_of name ≡ None) → IndexedTo items 0 [] number_of
unfolding handlers_in number_in
none_noted items number_of none = record { few = omega arith; placed = refl; named = none }

-- an item that is no handler
pub other_passed : (items : List Item) (i : ℕ) (x : Item) (places : List ℕ) (number_of : List ℕ → Option ℕ)
    → slice_get items i ≡ Some x → is_handler x ≡ false → IndexedTo items i places number_of → IndexedTo items (i + 1) places number_of
other_passed items i x places number_of e plain h = record {
  few = h.few;
  placed = h.placed ∙ ap (map Some) (sym (ap (filter is_handler) (taken_more items i x e) ∙ filter-append is_handler (take i items) (x ∷ []) ∙ other_filtered x (filter is_handler (take i items)) plain));
  named = λ name. h.named name ∙ ap (λ (hs : List NamedBlock). number_in hs name) (sym (ap handlers_in (taken_more items i x e) ∙ in_both (take i items) (x ∷ []) ∙ other_in x (handlers_in (take i items)) plain));
}

-- a handler that was noted
pub handler_passed : (items : List Item) (i line end_line : ℕ) (name : List ℕ) (block : Block) (places : List ℕ) (number_of : List ℕ → Option ℕ) (places' : List ℕ) (number_of' : List ℕ → Option ℕ)
    → slice_get items i ≡ Some (Handler line name block end_line) → IndexedTo items i places number_of
    → Noted i name places number_of places' number_of' → IndexedTo items (i + 1) places' number_of'
unfolding handlers_in
handler_passed items i line end_line name block places number_of places' number_of' e h n =
    let x : Item = Handler line name block end_line in
    let size : length places ≡ length (handlers_in (take i items)) =
    sym (length-map places (λ (place : ℕ). slice_get items place)) ∙ ap length h.placed ∙ length-map (filter is_handler (take i items)) Some ∙ counted (take i items) in
    record {
      few = n.few;
      placed =
          ap (map (λ (place : ℕ). slice_get items place)) n.placed
          ∙ map-append (λ (place : ℕ). slice_get items place) places (i ∷ [])
          ∙ ap (λ (front : List (Option Item)). front ++ (slice_get items i ∷ [])) h.placed
          ∙ ap (λ (last : Option Item). map Some (filter is_handler (take i items)) ++ (last ∷ [])) e
          ∙ sym (map-append Some (filter is_handler (take i items)) (x ∷ []))
          ∙ ap (map Some) (sym (ap (filter is_handler) (taken_more items i x e) ∙ filter-append is_handler (take i items) (x ∷ [])));
      named = λ asked.
          n.named asked
          ∙ ap (λ (found : Option ℕ). noted (bytes_eq asked name) (length places) found) (h.named asked)
          ∙ ap (λ (count : ℕ). noted (bytes_eq asked name) count (number_in (handlers_in (take i items)) asked)) size
          ∙ sym (number_last (handlers_in (take i items)) (record { name = name; block = block }) asked)
          ∙ ap (λ (hs : List NamedBlock). number_in hs asked) (sym (ap handlers_in (taken_more items i x e) ∙ in_both (take i items) (x ∷ [])));
    }

pub all_noted : (items : List Item) (places : List ℕ) (number_of : List ℕ → Option ℕ) (most : ℕ) → length items ≤ most → IndexedTo items most places number_of → Indexed items places number_of
unfolding handler_number
all_noted items places number_of most le h = record {
  few = h.few;
  placed = h.placed ∙ ap (λ (xs : List Item). map Some (filter is_handler xs)) (take_all most items le);
  named = λ name. h.named name ∙ ap (λ (xs : List Item). number_in (handlers_in xs) name) (take_all most items le);
}

-- a handler by its number
pub handler_at : (items : List Item) (places : List ℕ) (number_of : List ℕ → Option ℕ) (number place : ℕ) → Indexed items places number_of
    → slice_get places number ≡ Some place → slice_get items place ≡ slice_get (filter is_handler items) number
handler_at items places number_of number place h e =
    let f : slice_get (map (λ (p : ℕ). slice_get items p) places) number ≡ slice_get (map Some (filter is_handler items)) number = ap (λ (xs : List (Option Item)). slice_get xs number) h.placed in
    let g : slice_get (map (λ (p : ℕ). slice_get items p) places) number ≡ Some (slice_get items place) =
    slice_get-map (λ (p : ℕ). slice_get items p) places number ∙ ap (option_map (λ (p : ℕ). slice_get items p)) e in
    at_some (slice_get items place) (slice_get (filter is_handler items) number) (sym g ∙ f ∙ slice_get-map Some (filter is_handler items) number)

pub no_handler_at : (items : List Item) (places : List ℕ) (number_of : List ℕ → Option ℕ) (number : ℕ) → Indexed items places number_of
    → slice_get places number ≡ None → None ≡ slice_get (filter is_handler items) number
no_handler_at items places number_of number h e =
    at_none (slice_get (filter is_handler items) number)
    (sym (slice_get-map (λ (p : ℕ). slice_get items p) places number ∙ ap (option_map (λ (p : ℕ). slice_get items p)) e)
    ∙ ap (λ (xs : List (Option Item)). slice_get xs number) h.placed ∙ slice_get-map Some (filter is_handler items) number)

pub handler_count : (items : List Item) (places : List ℕ) (number_of : List ℕ → Option ℕ) → Indexed items places number_of → length places ≡ length (handlers_in items)
handler_count items places number_of h =
    sym (length-map places (λ (place : ℕ). slice_get items place)) ∙ ap length h.placed ∙ length-map (filter is_handler items) Some ∙ counted items

-- an item that is none
pub other_is_none : (item : CodeItem) → ((handler : CodeHandler) → item ≡ code.Handler handler → ⊥) → is_handler (item_of item) ≡ false
other_is_none (code.Command command) other = refl
other_is_none (code.Tick line time) other = refl
other_is_none (code.Handler handler) other = absurd (other handler refl)

-- what stands at a number is a handler
pub at_number : (items : List Item) (number : ℕ) (item : Item) → Some item ≡ slice_get (filter is_handler items) number → is_handler item ≡ true
at_number [] number item is = cc
at_number (Outside command ∷ items) number item is = at_number items number item is
at_number (Tick line time ∷ items) number item is = at_number items number item is
at_number (Handler line name block end_line ∷ items) zero item is = let same : item ≡ Handler line name block end_line = cc in ap is_handler same
at_number (Handler line name block end_line ∷ items) (suc number) item is = at_number items number item is

named_in : Option Item → Option NamedBlock
named_in None = None
named_in (Some (Outside command)) = None
named_in (Some (Tick line time)) = None
named_in (Some (Handler line name block end_line)) = Some (record { name = name; block = block })

named_is : (items : List Item) (number : ℕ) → slice_get (handlers_in items) number ≡ named_in (slice_get (filter is_handler items) number)
unfolding handlers_in named_in
named_is [] number = refl
named_is (Outside command ∷ items) number = named_is items number
named_is (Tick line time ∷ items) number = named_is items number
named_is (Handler line name block end_line ∷ items) zero = refl
named_is (Handler line name block end_line ∷ items) (suc number) = named_is items number

-- the item at a number is the handler of that number
pub handler_named : (items : List Item) (number : ℕ) (handler : CodeHandler) → Some (handler_item handler) ≡ slice_get (filter is_handler items) number
    → Some (handler_of handler) ≡ slice_get (handlers_in items) number
unfolding named_in
handler_named items number handler is = ap named_in is ∙ sym (named_is items number)

pub none_named : (items : List Item) (number : ℕ) → None ≡ slice_get (filter is_handler items) number → None ≡ slice_get (handlers_in items) number
unfolding named_in
none_named items number is = ap named_in is ∙ sym (named_is items number)

pub item_found : (found : Option (Bor CodeItem)) (items : List CodeItem) (place : ℕ)
    → MatchOption found (length items ≤ place) (λ x. place < length items × HoldsAt (λ y. x.now ≡ y) items place)
    → option_map (λ x. item_of x.now) found ≡ slice_get (map item_of items) place
item_found None items place le = sym (slice_get-map item_of items place ∙ ap (option_map item_of) (slice_get_past items place le))
item_found (Some x) items place h =
    sym (slice_get-map item_of items place ∙ ap (option_map item_of) (slice_get_read items (length items) place x.now refl h.0 (h.1 x.now)))

place_found : (found : Option (Bor ℕ)) (places : List ℕ) (number : ℕ)
    → MatchOption found (length places ≤ number) (λ x. number < length places × HoldsAt (λ y. x.now ≡ y) places number)
    → option_map (λ x. x.now) found ≡ slice_get places number
place_found None places number le = sym (slice_get_past places number le)
place_found (Some x) places number h = sym (slice_get_read places (length places) number x.now refl h.0 (h.1 x.now))

-- what stands at a place that was looked up, and where none was found
module _ (script : List Item) (code : List CodeItem) (places seen : List ℕ) (number_of : List ℕ → Option ℕ) (number : ℕ) (first : Option (Bor ℕ))
    (indexed : Indexed (map item_of code) places number_of) (view : map item_of code ≡ script) (is : seen ≡ places)
    (there : MatchOption first (length seen ≤ number) (λ x. number < length seen × HoldsAt (λ y. x.now ≡ y) seen number)) where
  place_is : option_map (λ x. x.now) first ≡ slice_get places number
  place_is = place_found first seen number there ∙ ap (λ (xs : List ℕ). slice_get xs number) is

  pub found_at : (held : List CodeItem) (place : Bor ℕ) (found : Option (Bor CodeItem)) → first ≡ Some place → held ≡ code
      → MatchOption found (length held ≤ place.now) (λ x. place.now < length held × HoldsAt (λ y. x.now ≡ y) held place.now)
      → option_map (λ x. item_of x.now) found ≡ slice_get (filter is_handler script) number
  found_at held place found some same at =
      item_found found held place.now at ∙ ap (λ (xs : List CodeItem). slice_get (map item_of xs) place.now) same
      ∙ handler_at (map item_of code) places number_of number place.now indexed (sym place_is ∙ ap (option_map (λ (x : Bor ℕ). x.now)) some)
      ∙ ap (λ (xs : List Item). slice_get (filter is_handler xs) number) view

  pub not_found : first ≡ None → None ≡ slice_get (filter is_handler script) number
  not_found none =
      no_handler_at (map item_of code) places number_of number indexed (sym place_is ∙ ap (option_map (λ (x : Bor ℕ). x.now)) none)
      ∙ ap (λ (xs : List Item). slice_get (filter is_handler xs) number) view

pub item_at_place : (items : List CodeItem) (place : ℕ) (found item : CodeItem) → place < length items → found ≡ get_or items place found → found ≡ item
    → slice_get (map item_of items) place ≡ Some (item_of item)
item_at_place items place found item within e f =
    slice_get-map item_of items place ∙ ap (option_map item_of) (slice_get_read items (length items) place found refl within e)
    ∙ ap (λ (x : CodeItem). Some (item_of x)) f
