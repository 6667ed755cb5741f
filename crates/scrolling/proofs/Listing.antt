-- Pending lists as they are seen.
use Rattle.std.proofs.Common.{◌≡◌, ℕ, zero, suc, ◌<◌, ◌≤◌, ◌+◌, ◌∙◌, Bool, true, false, List, [], ◌∷◌, ◌++◌, length, set, get_or, replicate, append_assoc, refl, ap, sym, arith}
use Rattle.std.proofs.lemmas.Bool.{cond-true, cond-false}
use Rattle.std.proofs.lemmas.Bool.Decides.{same_from_decides, Decides-eqb, Decides-like}
use Rattle.std.proofs.lemmas.List.{map_push, length-map}
use Rattle.std.specs.Prelude.{map, ◌==◌}
use Rattle.std.specs.Global.{Vec}
use Rattle.std.specs.List.{list_any}
use Rattle.page_model.specs.World.{Container as ModelContainer}
use Rattle.page_model.specs.Lookups.{change_at, entry_or, put_at, is_same_container}
use Rattle.page_model.specs.Scrolls.{with_listed}
use Rattle.element_tree.specs.declared.container.Container.{Container}
use Rattle.element_tree.specs.declared.container.Container.TheVariants.{Element, Document}
use Rattle.element_tree.specs.contracts.container.ContainerPartialEq.TheImpl as containers
use Rattle.scrolling.specs.Pending.{seen_lists}
use Rattle.container_model.specs.Seen.{seen_container, seen_containers}
use Rattle.scrolling.proofs.Lists.{any-map}
use Rattle.scrolling.proofs.Puts.{put_behind}

-- containers are compared as what they are seen as

same_turned : (a b : ℕ) → (a == b) ≡ (b == a)
same_turned a b = same_from_decides (a == b) (b == a) (Decides-eqb a b) (Decides-like (b == a) (λ same. sym same) (λ same. sym same) (Decides-eqb b a))

same_container : (each target : Container) → (containers.ghosts).eq each target ≡ is_same_container (seen_container target) (seen_container each)
same_container (Element a) (Element b) = same_turned a.0 b.0
same_container (Element a) (Document b) = refl
same_container (Document a) (Element b) = refl
same_container (Document a) (Document b) = same_turned a.0 b.0

pub found_by_container : (target : Container) (read : List Container) → list_any (λ each. (containers.ghosts).eq each target) read ≡ list_any (λ each. is_same_container (seen_container target) (seen_container each)) read
found_by_container target read = λ j. list_any (λ each. same_container each target j) read

-- whether a target is on a list, and the list with it
module _ (target : Container) (read xs : List Container) (same : read ≡ xs) (found : Bool) (is : found ≡ list_any (λ each. is_same_container (seen_container target) (seen_container each)) read) where
  pub found_is : list_any (is_same_container (seen_container target)) (seen_containers xs) ≡ found
  found_is = any-map seen_container (is_same_container (seen_container target)) xs ∙ ap (list_any (λ each. is_same_container (seen_container target) (seen_container each))) (sym same) ∙ sym is

  pub listed_new : found ≡ false → (after : List Container) → after ≡ xs ++ target ∷ [] → seen_containers after ≡ with_listed (seen_container target) (seen_containers xs)
  listed_new none after put =
      ap seen_containers put ∙ map_push seen_container xs target ∙ sym (cond-false (list_any (is_same_container (seen_container target)) (seen_containers xs)) (seen_containers xs) (seen_containers xs ++ seen_container target ∷ []) (found_is ∙ none))

  pub listed_there : found ≡ true → seen_containers xs ≡ with_listed (seen_container target) (seen_containers xs)
  listed_there there = sym (cond-true (list_any (is_same_container (seen_container target)) (seen_containers xs)) (seen_containers xs) (seen_containers xs ++ seen_container target ∷ []) (found_is ∙ there))

-- the list at a number
pub entry_at : (n : ℕ) (lists : List (Vec Container)) (list : Vec Container) → n < length lists → list ≡ get_or lists n list → entry_or [] (seen_lists lists) n ≡ seen_containers list.items
entry_at n [] list there is = absurd (omega (arith, there))
entry_at zero (x ∷ xs) list there is = ap (λ (it : Vec Container). seen_containers it.items) (sym is)
entry_at (suc n) (x ∷ xs) list there is = entry_at n xs list (omega (arith, there)) is

pub set_at : (n : ℕ) (lists : List (Vec Container)) (list : Vec Container) → n < length lists → seen_lists (set lists n list) ≡ put_at [] n (seen_containers list.items) (seen_lists lists)
set_at n [] list there = absurd (omega (arith, there))
set_at zero (x ∷ xs) list there = refl
set_at (suc n) (x ∷ xs) list there = ap (λ more. seen_containers x.items ∷ more) (set_at n xs list (omega (arith, there)))

pub listed_at : (n : ℕ) (lists : List (Vec Container)) (old new : Vec Container) (target : ModelContainer) → n < length lists → old ≡ get_or lists n old → seen_containers new.items ≡ with_listed target (seen_containers old.items) → seen_lists (set lists n new) ≡ put_at [] n (with_listed target (entry_or [] (seen_lists lists) n)) (seen_lists lists)
listed_at n lists old new target there is put =
    set_at n lists new there
    ∙ ap (λ list. put_at [] n list (seen_lists lists)) (put ∙ ap (with_listed target) (sym (entry_at n lists old there is)))

pub same_at : (n : ℕ) (lists : List (Vec Container)) (old new : Vec Container) → n < length lists → old ≡ get_or lists n old → new.items ≡ old.items → seen_lists (set lists n new) ≡ seen_lists lists
same_at n [] old new there is same = absurd (omega (arith, there))
same_at zero (x ∷ xs) old new there is same = ap (λ items. seen_containers items ∷ seen_lists xs) (same ∙ ap (λ (it : Vec Container). it.items) is)
same_at (suc n) (x ∷ xs) old new there is same = ap (λ more. seen_containers x.items ∷ more) (same_at n xs old new (omega (arith, there)) is same)

-- one more list
pub filled_more : (lists after : List (Vec Container)) (list : Vec Container) (k : ℕ) → after ≡ lists ++ list ∷ [] → list.items ≡ [] → seen_lists after ++ replicate k [] ≡ seen_lists lists ++ replicate (suc k) []
filled_more lists after list k put blank =
    ap (λ these. seen_lists these ++ replicate k []) put
    ∙ ap (λ these. these ++ replicate k []) (map_push (λ (it : Vec Container). seen_containers it.items) lists list)
    ∙ append_assoc (seen_lists lists) (seen_containers list.items ∷ []) (replicate k [])
    ∙ ap (λ items. seen_lists lists ++ seen_containers items ∷ replicate k []) blank

-- a list taken
pub taken_at : (n : ℕ) (lists : List (Vec Container)) (list : Vec Container) → list.items ≡ [] → seen_lists (set lists n list) ≡ change_at (λ each. []) n (seen_lists lists)
taken_at n [] list blank = refl
taken_at zero (x ∷ xs) list blank = ap (λ items. seen_containers items ∷ seen_lists xs) blank
taken_at (suc n) (x ∷ xs) list blank = ap (λ more. seen_containers x.items ∷ more) (taken_at n xs list blank)

-- none past the end
pub past_entry : {A B : Type 0} (f : A → B) (d : B) (n : ℕ) (xs : List A) → length xs ≤ n → entry_or d (map f xs) n ≡ d
past_entry f d n [] past = refl
past_entry f d zero (x ∷ xs) past = absurd (omega (arith, past))
past_entry f d (suc n) (x ∷ xs) past = past_entry f d n xs (omega (arith, past))

pub past_none : (n : ℕ) (lists : List (Vec Container)) (target : ModelContainer) → length lists ≤ n → false ≡ list_any (is_same_container target) (entry_or [] (seen_lists lists) n)
past_none n lists target past = ap (list_any (is_same_container target)) (sym (past_entry (λ (it : Vec Container). seen_containers it.items) [] n lists past))

pub past_change : {A B : Type 0} (f : A → B) (change : B → B) (n : ℕ) (xs : List A) → length xs ≤ n → map f xs ≡ change_at change n (map f xs)
past_change f change n [] past = refl
past_change f change zero (x ∷ xs) past = absurd (omega (arith, past))
past_change f change (suc n) (x ∷ xs) past = ap (λ more. f x ∷ more) (past_change f change n xs (omega (arith, past)))

pub added_behind : (n k : ℕ) (lists filled after : List (Vec Container)) (list : Vec Container) (target : Container) → length lists + k ≡ n → seen_lists filled ≡ seen_lists lists ++ replicate k [] → after ≡ filled ++ list ∷ [] → list.items ≡ target ∷ [] → seen_lists after ≡ put_at [] n (with_listed (seen_container target) (entry_or [] (seen_lists lists) n)) (seen_lists lists)
added_behind n k lists filled after list target count blanks put items =
    ap seen_lists put
    ∙ map_push (λ (it : Vec Container). seen_containers it.items) filled list
    ∙ ap (λ these. these ++ seen_containers list.items ∷ []) blanks
    ∙ ap (λ these. (seen_lists lists ++ replicate k []) ++ seen_containers these ∷ []) items
    ∙ put_behind [] (seen_container target ∷ []) n k (seen_lists lists) (ap (λ size. size + k) (length-map lists (λ (it : Vec Container). seen_containers it.items)) ∙ count)
    ∙ ap (λ list. put_at [] n (with_listed (seen_container target) list) (seen_lists lists)) (sym (past_entry (λ (it : Vec Container). seen_containers it.items) [] n lists (omega (arith, count))))
