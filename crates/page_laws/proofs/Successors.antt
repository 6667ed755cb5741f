-- States of documents don't go back, and names stay: what goes over to a successor of a world.
use Rattle.std.proofs.Common.{◌≡◌, refl, sym, ap, subst, arith, true≢false}
use Rattle.std.specs.Prelude.{ℕ, zero, suc, Bool, true, false, cond, IsTrue, List, [], ◌∷◌, ◌++◌, Option, Some, None, slice_get, option_map, find, filter, flat_map, unwrap_or, bytes_eq}
use Rattle.std.specs.List.{AllByRecursion}
use Rattle.page_model.specs.World.{DocumentState, Fresh, Active, Dead, Document, Tree, Thing, Name, World}
use Rattle.page_model.specs.Lookups.{change_at, change_each, document_at, no_document}
use Rattle.page_model.specs.Names.{named_thing, with_name}
use Rattle.page_model.specs.Documents.{is_fresh_state, led_to, frames_below}
use Rattle.page_laws.specs.Successors.{has_come_to, is_come_to, IsSuccessor}
use Rattle.page_laws.proofs.Lists.{all-append}

-- states of documents after changes

dead-is-last : (wanted : DocumentState) → has_come_to wanted Dead ≡ true
dead-is-last Fresh = refl
dead-is-last Active = refl
dead-is-last Dead = refl

abbrev pub into : DocumentState → Document → Document
into state it = record it { state = state }

-- what holds of an entry holds of it after changes at places that keep it
pub changed-entry : (P : Option Document → Type 0) (change : Document → Document) (place document : ℕ) (xs : List Document) →
    ((it : Document) → slice_get xs place ≡ Some it → P (Some it) → P (Some (change it))) → P (slice_get xs document) →
    P (slice_get (change_at change place xs) document)
changed-entry P change place document [] each is = is
changed-entry P change zero zero (x ∷ xs) each is = each x refl is
changed-entry P change zero (suc document) (x ∷ xs) each is = is
changed-entry P change (suc place) zero (x ∷ xs) each is = is
changed-entry P change (suc place) (suc document) (x ∷ xs) each is = changed-entry P change place document xs each is

abbrev pub HasCome : DocumentState → Option Document → Type 0
HasCome wanted found = IsTrue (is_come_to wanted found)

pub dying-each : (wanted : DocumentState) (document : ℕ) (places : List ℕ) (xs : List Document) → HasCome wanted (slice_get xs document) →
    HasCome wanted (slice_get (change_each (into Dead) places xs) document)
dying-each wanted document [] xs come = come
dying-each wanted document (place ∷ places) xs come =
    dying-each wanted document places (change_at (into Dead) place xs)
    (changed-entry (HasCome wanted) (into Dead) place document xs (λ it at was. dead-is-last wanted) come)

-- a document that isn't Dead
abbrev is_alive_state : DocumentState → Bool
is_alive_state Fresh = true
is_alive_state Active = true
is_alive_state Dead = false

abbrev is_alive : Option Document → Bool
is_alive None = true
is_alive (Some document) = is_alive_state (document.state)

active-follows : (wanted state : DocumentState) → IsTrue (is_alive_state state) → IsTrue (has_come_to wanted state) → IsTrue (has_come_to wanted Active)
active-follows Fresh state alive come = refl
active-follows Active state alive come = refl
active-follows Dead Fresh alive come = come
active-follows Dead Active alive come = come
active-follows Dead Dead alive come = alive

alive-still : (place document : ℕ) (xs : List Document) → IsTrue (is_alive (slice_get xs document)) →
    IsTrue (is_alive (slice_get (change_at (into Active) place xs) document))
alive-still place document xs alive = changed-entry (λ found. IsTrue (is_alive found)) (into Active) place document xs (λ it at was. refl) alive

abbrev pub AllAlive : List Document → List ℕ → Type 0
AllAlive xs places = AllByRecursion (λ place. IsTrue (is_alive (slice_get xs place))) places

all-alive-still : (place : ℕ) (xs : List Document) (places : List ℕ) → AllAlive xs places → AllAlive (change_at (into Active) place xs) places
all-alive-still place xs [] alive = tt
all-alive-still place xs (other ∷ places) alive = (alive-still place other xs (alive.0), all-alive-still place xs places (alive.1))

pub waking-each : (wanted : DocumentState) (document : ℕ) (places : List ℕ) (xs : List Document) → AllAlive xs places →
    IsTrue (is_come_to wanted (slice_get xs document)) → IsTrue (is_come_to wanted (slice_get (change_each (into Active) places xs) document))
waking-each wanted document [] xs alive come = come
waking-each wanted document (place ∷ places) xs alive come =
    waking-each wanted document places (change_at (into Active) place xs) (all-alive-still place xs places (alive.1))
    (changed-entry (HasCome wanted) (into Active) place document xs
    (λ it at was. active-follows wanted (it.state) (subst (λ found. IsTrue (is_alive found)) at (alive.0)) was) come)

-- the documents that a state is looked for in have it

all-flat-step : (Holds : ℕ → Type 0) (test : ℕ → Bool) (below : ℕ → List ℕ) (x : ℕ) (rest : List ℕ) (passes : Bool) →
    (passes ≡ true → AllByRecursion Holds (below x)) → AllByRecursion Holds (flat_map below rest) →
    AllByRecursion Holds (flat_map below (cond passes (x ∷ rest) rest))
all-flat-step Holds test below x rest true first others = all-append Holds (below x) (flat_map below rest) (first refl) others
all-flat-step Holds test below x rest false first others = others

all-flat : (Holds : ℕ → Type 0) (test : ℕ → Bool) (below : ℕ → List ℕ) → ((x : ℕ) → test x ≡ true → AllByRecursion Holds (below x)) → (xs : List ℕ) →
    AllByRecursion Holds (flat_map below (filter test xs))
all-flat Holds test below each [] = tt
all-flat Holds test below each (x ∷ xs) = all-flat-step Holds test below x (filter test xs) (test x) (each x) (all-flat Holds test below each xs)

pub led-pass : (deep : ℕ) (test : DocumentState → Bool) (tree : Tree) (documents : List ℕ) →
    AllByRecursion (λ document. IsTrue (test (document_at tree document).state)) (led_to deep test tree documents)
unfolding led_to
led-pass zero test tree documents = tt
led-pass (suc deep) test tree documents =
    all-flat
    (λ document. IsTrue (test (document_at tree document).state))
    (λ document. test (document_at tree document).state)
    (λ document. document ∷ led_to deep test tree (frames_below tree (document_at tree document).root))
    (λ document passes. (passes, led-pass deep test tree (frames_below tree (document_at tree document).root)))
    documents

fresh-alive : (state : DocumentState) → IsTrue (is_fresh_state state) → IsTrue (is_alive_state state)
fresh-alive Fresh fresh = refl
fresh-alive Active fresh = refl
fresh-alive Dead fresh = fresh

fresh-alive-at : (found : Option Document) → IsTrue (is_fresh_state (unwrap_or found no_document).state) → IsTrue (is_alive found)
fresh-alive-at None fresh = refl
fresh-alive-at (Some document) fresh = fresh-alive (document.state) fresh

pub fresh-all-alive : (tree : Tree) (places : List ℕ) → AllByRecursion (λ document. IsTrue (is_fresh_state (document_at tree document).state)) places →
    AllAlive (tree.documents) places
fresh-all-alive tree [] fresh = tt
fresh-all-alive tree (place ∷ places) fresh = (fresh-alive-at (slice_get tree.documents place) (fresh.0), fresh-all-alive tree places (fresh.1))

pub more-documents : (wanted : DocumentState) (xs ys : List Document) (document : ℕ) → IsTrue (is_come_to wanted (slice_get xs document)) →
    IsTrue (is_come_to wanted (slice_get (xs ++ ys) document))
more-documents wanted [] ys document come = absurd (true≢false (sym come))
more-documents wanted (x ∷ xs) ys zero come = come
more-documents wanted (x ∷ xs) ys (suc document) come = more-documents wanted xs ys document come

-- names

name-step : (p : Name → Bool) (x : Name) (xs ys : List Name) (passes : Bool) (thing : Thing) →
    (option_map (λ (named : Name). named.thing) (find p xs) ≡ Some thing → option_map (λ (named : Name). named.thing) (find p (xs ++ ys)) ≡ Some thing) →
    option_map (λ (named : Name). named.thing) (cond passes (Some x) (find p xs)) ≡ Some thing →
    option_map (λ (named : Name). named.thing) (cond passes (Some x) (find p (xs ++ ys))) ≡ Some thing
name-step p x xs ys true thing others is = is
name-step p x xs ys false thing others is = others is

none-some : {A : Type 0} (found : Option A) (value : A) → None ≡ Some value → found ≡ Some value
none-some found value is = cc

name-found : (p : Name → Bool) (thing : Thing) (xs ys : List Name) → option_map (λ (named : Name). named.thing) (find p xs) ≡ Some thing →
    option_map (λ (named : Name). named.thing) (find p (xs ++ ys)) ≡ Some thing
name-found p thing [] ys is = none-some (option_map (λ (named : Name). named.thing) (find p ys)) thing is
name-found p thing (x ∷ xs) ys is = name-step p x xs ys (p x) thing (name-found p thing xs ys) is

-- whatever is named stays so where names are added
pub named-still : (text other : List ℕ) (thing that : Thing) (names : List Name) → named_thing names other ≡ Some that →
    named_thing (with_name text thing names) other ≡ Some that
named-still text other thing that names is = name-found (λ named. bytes_eq named.text other) that names _ is

-- successors

pub still : (world : World) → IsSuccessor world world
still world = record { elements = omega arith; states = λ wanted document come. come; names = λ text thing is. is; clock = refl; begun = refl; version = refl }

-- a world of the same tree, names, clock, count and version
abbrev pub IsAlike : World → World → Type 0
IsAlike world after = after ≡ record after { tree = world.tree; names = world.names; clock = world.clock; begun = world.begun; version = world.version }

pub alike : (world after : World) → IsAlike world after → IsSuccessor world after
alike world after same = subst (IsSuccessor world) (sym same) (record {
  elements = omega arith;
  states = λ wanted document come. come;
  names = λ text thing is. is;
  clock = refl;
  begun = refl;
  version = refl;
})

pub same-tree : (world after : World) → IsAlike world after → after.tree ≡ world.tree
same-tree world after same = ap (λ (it : World). it.tree) same
