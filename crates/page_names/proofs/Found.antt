-- Looking names up.
use Rattle.std.proofs.Common.{◌≡◌, ℕ, ◌<◌, ◌≤◌, ◌==◌, Bool, true, false, cond, List, [], ◌∷◌, ◌++◌, Option, Some, None, map, find, is_some, option_map, IfSome, if◌then◌else◌, refl, sym, ap, ◌∙◌, arith, tests}
use Rattle.std.specs.Str.{bytes_eq}
use Rattle.std.specs.Map.{lookup}
use Rattle.indexmap.specs.IndexMap.{insert_entry}
use Rattle.std.proofs.lemmas.Slice.Eq.{bytes_eq-Decides}
use Rattle.page_model.specs.World.{Thing, DocumentThing, ElementThing, ResizeObserverThing, IntersectionObserverThing, QueryListThing, Name}
use Rattle.page_model.specs.Names.{named_thing, is_same_thing}
use Rattle.page_model.specs.Ranges.{Counts, IsThingIn}
use Rattle.page_names.specs.declared.thing.Thing.{Thing as Held}
use Rattle.page_names.specs.Things.{seen_thing, seen_entry, AreIn}

-- tests

same_bool : (p q : Bool) → (p ≡ true → q ≡ true) → (q ≡ true → p ≡ true) → p ≡ q
same_bool true true to back = refl
same_bool true false to back = sym (to refl)
same_bool false true to back = back refl
same_bool false false to back = refl

bytes_eq_flip : (a b : List ℕ) → bytes_eq a b ≡ bytes_eq b a
bytes_eq_flip a b =
    same_bool (bytes_eq a b) (bytes_eq b a)
    (λ same. (bytes_eq-Decides b a).1 (sym ((bytes_eq-Decides a b).0 same)))
    (λ same. (bytes_eq-Decides a b).1 (sym ((bytes_eq-Decides b a).0 same)))

-- a map's entries

lookup_step : (one other : Bool) → one ≡ other → (entry : List ℕ × Held) (found : Option Held) (named : Option Name)
    → option_map seen_thing found ≡ option_map (λ (it : Name). it.thing) named
    → option_map seen_thing (cond one (Some entry.1) found) ≡ option_map (λ (it : Name). it.thing) (cond other (Some (seen_entry entry)) named)
lookup_step true true same entry found named rest = refl
lookup_step false false same entry found named rest = rest
lookup_step true false same entry found named rest = cc
lookup_step false true same entry found named rest = cc

pub found_thing : (text : List ℕ) (entries : List (List ℕ × Held)) → option_map seen_thing (lookup (bytes_eq text) entries) ≡ named_thing (map seen_entry entries) text
found_thing text [] = refl
found_thing text (entry ∷ entries) =
    lookup_step (bytes_eq text entry.0) (bytes_eq entry.0 text) (bytes_eq_flip text entry.0) entry (lookup (bytes_eq text) entries) (find (λ (named : Name). bytes_eq named.text text) (map seen_entry entries)) (found_thing text entries)

-- what a name stands for is there

held_step : (counts : Counts) (passes : Bool) (named : Name) (found : Option Name) → IsThingIn counts (named.thing)
    → IfSome (option_map (λ (it : Name). it.thing) found) (IsThingIn counts)
    → IfSome (option_map (λ (it : Name). it.thing) (cond passes (Some named) found)) (IsThingIn counts)
held_step counts true named found is rest = is
held_step counts false named found is rest = rest

pub found_is_there : (counts : Counts) (text : List ℕ) (names : List Name) → AreIn counts names → IfSome (named_thing names text) (IsThingIn counts)
found_is_there counts text [] all = tt
found_is_there counts text (named ∷ names) all =
    held_step counts (bytes_eq named.text text) named (find (λ (it : Name). bytes_eq it.text text) names) (all.0) (found_is_there counts text names (all.1))

-- one more name

kept_step : (passes : Bool) (named : Name) (found more : Option Name) → (is_some found ≡ true → more ≡ found)
    → is_some (cond passes (Some named) found) ≡ true → cond passes (Some named) more ≡ cond passes (Some named) found
kept_step true named found more rest some = refl
kept_step false named found more rest some = rest some

pub find_kept : (test : Name → Bool) (names more : List Name) → is_some (find test names) ≡ true → find test (names ++ more) ≡ find test names
find_kept test [] more some = cc
find_kept test (named ∷ names) more some =
    kept_step (test named) named (find test names) (find test (names ++ more)) (find_kept test names more) some

last_step : (passes : Bool) (named last : Name) (found more : Option Name) → (found ≡ None → more ≡ Some last)
    → cond passes (Some named) found ≡ None → cond passes (Some named) more ≡ Some last
last_step true named last found more rest none = cc
last_step false named last found more rest none = rest none

pub find_last : (test : Name → Bool) (names : List Name) (last : Name) → test last ≡ true → find test names ≡ None → find test (names ++ last ∷ []) ≡ Some last
find_last test [] last passes none = ap (λ b. cond b (Some last) None) passes
find_last test (named ∷ names) last passes none =
    last_step (test named) named last (find test names) (find test (names ++ last ∷ [])) (find_last test names last passes) none

some_step : (passes : Bool) (named : Name) (more : Option Name) → is_some more ≡ true → is_some (cond passes (Some named) more) ≡ true
some_step true named more some = refl
some_step false named more some = some

pub find_some : (test : Name → Bool) (names : List Name) (last : Name) → test last ≡ true → is_some (find test (names ++ last ∷ [])) ≡ true
find_some test [] last passes = ap (λ b. is_some (cond b (Some last) None)) passes
find_some test (named ∷ names) last passes = some_step (test named) named (find test (names ++ last ∷ [])) (find_some test names last passes)

-- an element that isn't there yet has no name

differs : (m n count : ℕ) → m < count → count ≤ n → (m == n) ≡ false
differs m n count below above = grind (arith, tests)

other_thing : (counts : Counts) (thing : Thing) (n : ℕ) → counts.elements ≤ n → IsThingIn counts thing → is_same_thing thing (ElementThing n) ≡ false
other_thing counts (DocumentThing document) n above is = refl
other_thing counts (ElementThing m) n above is = differs m n counts.elements is above
other_thing counts (ResizeObserverThing observer) n above is = refl
other_thing counts (IntersectionObserverThing observer) n above is = refl
other_thing counts (QueryListThing query) n above is = refl

absent_step : (passes : Bool) (named : Name) (found : Option Name) → passes ≡ false → found ≡ None → cond passes (Some named) found ≡ None
absent_step true named found not none = cc
absent_step false named found not none = none

pub element_absent : (counts : Counts) (names : List Name) (n : ℕ) → counts.elements ≤ n → AreIn counts names → find (λ (it : Name). is_same_thing it.thing (ElementThing n)) names ≡ None
element_absent counts [] n above all = refl
element_absent counts (named ∷ names) n above all =
    absent_step (is_same_thing (named.thing) (ElementThing n)) named (find (λ (it : Name). is_same_thing it.thing (ElementThing n)) names)
    (other_thing counts (named.thing) n above (all.0)) (element_absent counts names n above (all.1))

-- a name that is given goes last

not_found : (found : Option Held) → option_map seen_thing found ≡ None → found ≡ None
not_found None none = refl
not_found (Some thing) none = cc

entered_step : (passes : Bool) (name : List ℕ) (thing : Held) (entry : List ℕ × Held) (entries rest : List (List ℕ × Held)) (found : Option Held)
    → (found ≡ None → map seen_entry rest ≡ map seen_entry entries ++ seen_entry (name, thing) ∷ [])
    → cond passes (Some entry.1) found ≡ None
    → map seen_entry (if passes then (entry.0, thing) ∷ entries else entry ∷ rest) ≡ seen_entry entry ∷ (map seen_entry entries ++ seen_entry (name, thing) ∷ [])
entered_step true name thing entry entries rest found each none = cc
entered_step false name thing entry entries rest found each none = ap (λ (it : List Name). seen_entry entry ∷ it) (each none)

entered_last : (name : List ℕ) (thing : Held) (entries : List (List ℕ × Held)) → lookup (bytes_eq name) entries ≡ None
    → map seen_entry (insert_entry bytes_eq entries name thing) ≡ map seen_entry entries ++ seen_entry (name, thing) ∷ []
entered_last name thing [] none = refl
entered_last name thing (entry ∷ entries) none =
    entered_step (bytes_eq name entry.0) name thing entry entries (insert_entry bytes_eq entries name thing) (lookup (bytes_eq name) entries) (entered_last name thing entries) none

pub entered : (name : List ℕ) (thing : Held) (entries after : List (List ℕ × Held)) (list : List Name) → map seen_entry entries ≡ list → named_thing list name ≡ None
    → after ≡ insert_entry bytes_eq entries name thing → map seen_entry after ≡ list ++ record { text = name; thing = seen_thing thing } ∷ []
entered name thing entries after list seen free made =
    let none : lookup (bytes_eq name) entries ≡ None = not_found (lookup (bytes_eq name) entries) (found_thing name entries ∙ ap (λ (it : List Name). named_thing it name) seen ∙ free) in
    ap (map seen_entry) made ∙ entered_last name thing entries none ∙ ap (λ (it : List Name). it ++ seen_entry (name, thing) ∷ []) seen

pub some_named : (found : Option Name) → is_some found ≡ true → is_some (option_map (λ (it : Name). it.text) found) ≡ true
some_named None some = some
some_named (Some named) some = refl

-- another name stays free

free_step : (passes : Bool) (named : Name) (found more : Option Name) → (option_map (λ (it : Name). it.thing) found ≡ None → option_map (λ (it : Name). it.thing) more ≡ None)
    → option_map (λ (it : Name). it.thing) (cond passes (Some named) found) ≡ None → option_map (λ (it : Name). it.thing) (cond passes (Some named) more) ≡ None
free_step true named found more rest none = cc
free_step false named found more rest none = rest none

pub still_free : (names : List Name) (text : List ℕ) (last : Name) → named_thing names text ≡ None → bytes_eq last.text text ≡ false → named_thing (names ++ last ∷ []) text ≡ None
still_free [] text last none other = ap (λ b. option_map (λ (it : Name). it.thing) (cond {A = Option Name} b (Some last) None)) other
still_free (named ∷ names) text last none other =
    free_step (bytes_eq named.text text) named (find (λ (it : Name). bytes_eq it.text text) names) (find (λ (it : Name). bytes_eq it.text text) (names ++ last ∷ []))
    (λ rest. still_free names text last rest other) none
