-- Lists as they are seen.
use Rattle.std.proofs.Common.{◌≡◌, ℕ, suc, ◌∙◌, ap, refl, sym, subst}
use Rattle.std.specs.Prelude.{Bool, true, false, cond, not, ◌||◌, List, [], ◌∷◌, map, filter, nat_lt, Result}
use Rattle.std.specs.List.{list_any}
use Rattle.std.proofs.lemmas.List.{map_push, length-map}
use Rattle.page_model.specs.Lookups.{kept, entered}
use Rattle.event_tables.specs.Tables.{Bounded, seen_table, has_room}
use Rattle.event_tables.specs.Answers.{Enters}
use Rattle.event_tables.specs.declared.answers.TableFault.{TableFault}

-- an entry that passes a test is among those that are seen
any_seen : {A B : Type 0} (seen : A → B) (test : B → Bool) (xs : List A) → list_any (λ x. test (seen x)) xs ≡ list_any test (map seen xs)
any_seen seen test [] = refl
any_seen seen test (x ∷ xs) = ap (λ others. test (seen x) || others) (any_seen seen test xs)

-- those that pass a test are kept
one_seen : {A B : Type 0} (seen : A → B) (keeps : Bool) (x : A) (xs : List A) (ys : List B) → map seen xs ≡ ys → map seen (cond keeps (x ∷ xs) xs) ≡ cond keeps (seen x ∷ ys) ys
one_seen seen true x xs ys same = ap (λ others. seen x ∷ others) same
one_seen seen false x xs ys same = same

pub kept_seen : {A B : Type 0} (seen : A → B) (test : B → Bool) (xs : List A) → map seen (filter (λ x. test (seen x)) xs) ≡ filter test (map seen xs)
kept_seen seen test [] = refl
kept_seen seen test (x ∷ xs) = one_seen seen (test (seen x)) x _ _ (kept_seen seen test xs)

-- where nothing passes a test, all is kept that doesn't pass it
all_kept_by : {A : Type 0} (test : A → Bool) (x : A) (xs : List A) (passes : Bool) → (passes || list_any test xs) ≡ false → filter (λ each. not (test each)) xs ≡ xs → cond (not passes) (x ∷ filter (λ each. not (test each)) xs) (filter (λ each. not (test each)) xs) ≡ x ∷ xs
all_kept_by test x xs true none same = cc
all_kept_by test x xs false none same = ap (λ others. x ∷ others) same

rest_fails : (passes others : Bool) → (passes || others) ≡ false → others ≡ false
rest_fails true others none = cc
rest_fails false others none = none

pub all_kept : {A : Type 0} (test : A → Bool) (xs : List A) → list_any test xs ≡ false → filter (λ each. not (test each)) xs ≡ xs
all_kept test [] none = refl
all_kept test (x ∷ xs) none = all_kept_by test x xs (test x) none (all_kept test xs (rest_fails (test x) (list_any test xs) none))

-- tables that are seen: an entry that passes a test is held, those that pass it are kept, one more is entered, some are read
module _ {A B : Type 0} (seen : A → B) where
  pub any_of : (test : B → Bool) (it : Bounded A) (now : Bounded B) (answer : Bool) → answer ≡ list_any (λ x. test (seen x)) (it.part.held) → seen_table seen it ≡ now → answer ≡ list_any test (now.part.held)
  any_of test it now answer is view = is ∙ any_seen seen test (it.part.held) ∙ ap (λ (these : Bounded B). list_any test (these.part.held)) view

  pub kept_of : (test : B → Bool) (it after : Bounded A) (now : Bounded B) → after ≡ record it { part = kept (λ x. test (seen x)) (it.part) } → seen_table seen it ≡ now → seen_table seen after ≡ record now { part = kept test (now.part) }
  kept_of test it after now same view =
      ap (seen_table seen) same
      ∙ ap (λ held. record { part = record { given = it.part.given; held = held }; most = it.most }) (kept_seen seen test (it.part.held))
      ∙ ap (λ (these : Bounded B). record these { part = kept test (these.part) }) view

  pub entered_of : (make : ℕ → A) (it after : Bounded A) (now : Bounded B) → after ≡ record it { part = entered make (it.part) } → seen_table seen it ≡ now → seen_table seen after ≡ record now { part = entered (λ n. seen (make n)) (now.part) }
  entered_of make it after now same view =
      ap (seen_table seen) same
      ∙ ap (λ held. record { part = record { given = suc (it.part.given); held = held }; most = it.most }) (map_push seen (it.part.held) (make (it.part.given)))
      ∙ ap (λ (these : Bounded B). record these { part = entered (λ n. seen (make n)) (these.part) }) view

  pub read_of : (test : B → Bool) (it : Bounded A) (now : Bounded B) (read : List A) → read ≡ it.part.held → seen_table seen it ≡ now → filter test (map seen read) ≡ filter test (now.part.held)
  read_of test it now read same view = ap (λ these. filter test (map seen these)) same ∙ ap (λ (these : Bounded B). filter test (these.part.held)) view

  room_of : (it : Bounded A) (now : Bounded B) → seen_table seen it ≡ now → has_room it ≡ has_room now
  room_of it now view = ap (λ count. nat_lt count (it.most)) (sym (length-map (it.part.held) seen)) ∙ ap has_room view

  pub enters_of : (test : B → Bool) (it : Bounded A) (now : Bounded B) (result : Result (Unit {0}) TableFault) → Enters result (list_any (λ x. test (seen x)) (it.part.held)) (has_room it) → seen_table seen it ≡ now → Enters result (list_any test (now.part.held)) (has_room now)
  enters_of test it now result answer view =
      subst (λ held. Enters result held (has_room now)) (any_of test it now _ refl view)
      (subst (λ roomy. Enters result (list_any (λ x. test (seen x)) (it.part.held)) roomy) (room_of it now view) answer)
