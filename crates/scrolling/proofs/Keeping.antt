-- What is kept true by a scroll and by the taking of a pending list.
use Rattle.std.proofs.Common.{◌≡◌, ℕ, Bool, true, false, cond, List, [], ◌∷◌, ◌++◌, refl, subst, sym, arith}
use Rattle.std.proofs.lemmas.Bool.{false≢true}
use Rattle.std.specs.Prelude.{◌||◌, Result, Ok, Err, OnOk, OnErr}
use Rattle.std.specs.List.{list_any, AllByRecursion, IsDistinct}
use Rattle.page_model.specs.World.{Extent, Container, InElement, InDocument, Scrolls}
use Rattle.page_model.specs.Lookups.{no_extent, put_at, is_same_container}
use Rattle.page_model.specs.Scrolls.{pending_of, with_position, with_pending, without_pending}
use Rattle.scrolling.specs.Held.{HasNoDoubles, IsStored, IsHeld}
use Rattle.scrolling.proofs.Puts.{put_there, put_grows}
use Rattle.scrolling.proofs.Lists.{all-map, all-add, all-change, all-entry, all-put, distinct-add}

same_swapped : (x y : Container) → is_same_container x y ≡ is_same_container y x
same_swapped (InElement a) (InElement b) = grind arith
same_swapped (InDocument a) (InDocument b) = grind arith
same_swapped (InElement a) (InDocument b) = refl
same_swapped (InDocument a) (InElement b) = refl

no_doubles : HasNoDoubles []
unfolding IsDistinct
no_doubles = tt

distinct-listed : (target : Container) (list : List Container) (already : Bool) → list_any (is_same_container target) list ≡ already → HasNoDoubles list → HasNoDoubles (cond already list (list ++ target ∷ []))
distinct-listed target list true is distinct = distinct
distinct-listed target list false is distinct = distinct-add is_same_container same_swapped list target distinct is

all-listed : (P : Container → Type 0) (target : Container) (list : List Container) (already : Bool) → P target → AllByRecursion P list → AllByRecursion P (cond already list (list ++ target ∷ []))
all-listed P target list true is all = all
all-listed P target list false is all = all-add P list target all is

-- places that are there stay, and the target's is there then
stored-more : (it : Scrolls) (target : Container) (position : Extent) (each : Container) → IsStored it each → IsStored (with_position target position it) each
stored-more it (InElement n) position (InElement m) is = let more = put_grows no_extent position n (it.elements) in omega (arith, is, more)
stored-more it (InElement n) position (InDocument m) is = is
stored-more it (InDocument n) position (InElement m) is = is
stored-more it (InDocument n) position (InDocument m) is = let more = put_grows no_extent position n (it.documents) in omega (arith, is, more)

stored-now : (it : Scrolls) (target : Container) (position : Extent) → IsStored (with_position target position it) target
stored-now it (InElement n) position = put_there no_extent position n (it.elements)
stored-now it (InDocument n) position = put_there no_extent position n (it.documents)

listed-held : (it : Scrolls) (document : ℕ) (target : Container) → IsHeld it → IsStored it target → IsHeld (with_pending document target it)
listed-held it document target held is =
    let already = list_any (is_same_container target) (pending_of document it) in
    record {
      distinct = all-put HasNoDoubles [] no_doubles _ (distinct-listed target (pending_of document it) already refl (all-entry HasNoDoubles [] no_doubles document (it.pending) held.distinct)) document (it.pending) held.distinct;
      stored = all-put (AllByRecursion (IsStored it)) [] tt _ (all-listed (IsStored it) target (pending_of document it) already is (all-entry (AllByRecursion (IsStored it)) [] tt document (it.pending) held.stored)) document (it.pending) held.stored;
    }

stored-held : (it : Scrolls) (target : Container) (position : Extent) → IsHeld it → IsHeld (with_position target position it)
stored-held it (InElement n) position held = record {
  distinct = held.distinct;
  stored = all-map _ _ (λ list all. all-map _ _ (stored-more it (InElement n) position) list all) (it.pending) held.stored;
}
stored-held it (InDocument n) position held = record {
  distinct = held.distinct;
  stored = all-map _ _ (λ list all. all-map _ _ (stored-more it (InDocument n) position) list all) (it.pending) held.stored;
}

pub moved-held : (it : Scrolls) (document : ℕ) (target : Container) (position : Extent) → IsHeld it → IsHeld (with_pending document target (with_position target position it))
moved-held it document target position held = listed-held (with_position target position it) document target (stored-held it target position held) (stored-now it target position)

-- the lists after a move that may be refused
module _ {T E : Type 0} (it : Scrolls) (document n : ℕ) (position : Extent) (after : List Extent) (pending : List (List Container)) where
  pub element-moved : (result : Result T E) → OnOk result (after ≡ put_at no_extent n position (it.elements)) → OnErr result (after ≡ it.elements) → OnOk result (pending ≡ (with_pending document (InElement n) it).pending) → OnErr result (pending ≡ it.pending) → IsHeld it → IsHeld (record it { elements = after; pending = pending })
  element-moved (Ok done) stored same listed same_pending held =
      subst (λ (elements : List Extent). IsHeld (record it { elements = elements; pending = pending })) (sym stored)
      (subst (λ (lists : List (List Container)). IsHeld (record it { elements = put_at no_extent n position (it.elements); pending = lists })) (sym listed)
      (moved-held it document (InElement n) position held))
  element-moved (Err refused) stored same listed same_pending held =
      subst (λ (elements : List Extent). IsHeld (record it { elements = elements; pending = pending })) (sym same)
      (subst (λ (lists : List (List Container)). IsHeld (record it { pending = lists })) (sym same_pending) held)

  pub document-moved : (result : Result T E) → OnOk result (after ≡ put_at no_extent n position (it.documents)) → OnErr result (after ≡ it.documents) → OnOk result (pending ≡ (with_pending document (InDocument n) it).pending) → OnErr result (pending ≡ it.pending) → IsHeld it → IsHeld (record it { documents = after; pending = pending })
  document-moved (Ok done) stored same listed same_pending held =
      subst (λ (documents : List Extent). IsHeld (record it { documents = documents; pending = pending })) (sym stored)
      (subst (λ (lists : List (List Container)). IsHeld (record it { documents = put_at no_extent n position (it.documents); pending = lists })) (sym listed)
      (moved-held it document (InDocument n) position held))
  document-moved (Err refused) stored same listed same_pending held =
      subst (λ (documents : List Extent). IsHeld (record it { documents = documents; pending = pending })) (sym same)
      (subst (λ (lists : List (List Container)). IsHeld (record it { pending = lists })) (sym same_pending) held)

pub taken-held : (it : Scrolls) (document : ℕ) → IsHeld it → IsHeld (without_pending document it)
taken-held it document held = record {
  distinct = all-change HasNoDoubles (λ list. []) (λ list. no_doubles) document (it.pending) held.distinct;
  stored = all-change (AllByRecursion (IsStored it)) (λ list. []) (λ list. tt) document (it.pending) held.stored;
}

pub pending-distinct : (it : Scrolls) (document : ℕ) → IsHeld it → HasNoDoubles (pending_of document it)
pending-distinct it document held = all-entry HasNoDoubles [] no_doubles document (it.pending) held.distinct

among-if : (P : Container → Type 0) (first more : Bool) (target each : Container) → (first ≡ true → P each → P target) → (more ≡ true → P target) → P each → (first || more) ≡ true → P target
among-if P true more target each same rest is any = same refl is
among-if P false more target each same rest is any = rest any

among : (P : Container → Type 0) (target : Container) → ((each : Container) → is_same_container target each ≡ true → P each → P target) → (list : List Container) → AllByRecursion P list → list_any (is_same_container target) list ≡ true → P target
among P target same [] all any = absurd (false≢true any)
among P target same (x ∷ xs) all any = among-if P (is_same_container target x) (list_any (is_same_container target) xs) target x (same x) (among P target same xs (all.1)) (all.0) any

same_place : (it : Scrolls) (target each : Container) → is_same_container target each ≡ true → IsStored it each → IsStored it target
same_place it (InElement a) (InElement b) same is = grind (arith, same, is)
same_place it (InDocument a) (InDocument b) same is = grind (arith, same, is)
same_place it (InElement a) (InDocument b) same is = absurd (false≢true same)
same_place it (InDocument a) (InElement b) same is = absurd (false≢true same)

-- the position of a target that is pending is stored
pub pending-stored : (it : Scrolls) (document : ℕ) (target : Container) → IsHeld it → list_any (is_same_container target) (pending_of document it) ≡ true → IsStored it target
pending-stored it document target held is =
    among (IsStored it) target (same_place it target) (pending_of document it) (all-entry (AllByRecursion (IsStored it)) [] tt document (it.pending) held.stored) is
