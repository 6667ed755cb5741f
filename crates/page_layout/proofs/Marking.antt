-- Marks, and what is kept between a change and its marks.
use Rattle.std.proofs.Common.{◌≡◌, ◌<◌, ◌≤◌, ℕ, Bool, true, false, ◌||◌, nat_eq, List, length, Option, Some, None, refl, ap, sym, subst, ◌∙◌, inl, inr, arith, eqb-true}
use Rattle.std.proofs.lemmas.Bool.{or_cases, false≢true}
use Rattle.layout_model.specs.Nodes.{Node, is_in_path}
use Rattle.element_tree.specs.Forest.{names}
use Rattle.element_tree.proofs.Levels.{names_some}
use Rattle.page_model.specs.World.{Tree, Container, InElement, InDocument}
use Rattle.page_model.specs.Documents.{nodes_of}
use Rattle.page_documents.specs.Frames.{MakeTrees}
use Rattle.block_layout.proofs.Ancestors.{in_self}
use Rattle.kept_layout.specs.declared.slots.Slot.{Slot}
use Rattle.kept_layout.specs.Slots.{slot_in, marked_if}
use Rattle.kept_layout.specs.Sound.{IsSoundBut}
use Rattle.kept_layout.specs.Changes.{ChangesOnly}
use Rattle.kept_layout.proofs.Climbs.{marks_all}
use Rattle.kept_layout.proofs.Steady.{changed_elsewhere, more_fits, found_marked}
use Rattle.page_tree.specs.Changes.{is_parent, is_container, ChangesAtParents, ChangesAtParent, ChangesAtElement}
use Rattle.page_boxes.specs.Kept.{AreKept}
use Rattle.page_layout.specs.Marks.{is_over, element_of, MarksOnly, AreKeptBut, Mends}
use Rattle.page_layout.proofs.Paths.{in_parent, path_made}

-- which elements a mark covers
over_named : (tree : Tree) (node : Option ℕ) (m : ℕ) → names node m ≡ true → is_over tree node m ≡ true
over_named tree None m is = absurd (false≢true is)
over_named tree (Some n) m is = subst (λ k. is_in_path (nodes_of tree) k n ≡ true) (sym (eqb-true m n is)) (in_self (nodes_of tree) n)

over_container : (tree : Tree) (container : Container) (m : ℕ) → is_container container m ≡ true → is_over tree (element_of container) m ≡ true
over_container tree (InElement parent) m is = over_named tree (Some parent) m is
over_container tree (InDocument document) m is = absurd (false≢true is)

module _ (old new : Tree) (n m : ℕ) where
  pub over_parent : (before : Option ℕ) → before ≡ (nodes_of old n).parent → is_parent old n m ≡ true → is_over new before m ≡ true
  over_parent before up is = over_named new before m (subst (λ o. names o m ≡ true) (sym up) is)

  pub over_parents : (before : Option ℕ) → before ≡ (nodes_of old n).parent → (container : Container) → (is_parent old n m || is_container container m) ≡ true
      → (is_over new before m || is_over new (element_of container) m) ≡ true
  over_parents before up container is =
      elim (or_cases (is_parent old n m) (is_container container m) is) [
        | inl e ↦ ap (λ b. b || is_over new (element_of container) m) (over_parent before up e)
        | inr e ↦ ap (λ b. is_over new before m || b) (over_container new container m e) ∙ or_true (is_over new before m)
      ]
    where
      or_true : (b : Bool) → (b || true) ≡ true
      or_true true = refl
      or_true false = refl

  pub over_element : (nodes_of new n).parent ≡ (nodes_of old n).parent → (nat_eq m n || is_parent old n m) ≡ true → is_over new (Some n) m ≡ true
  over_element same is =
      elim (or_cases (nat_eq m n) (is_parent old n m) is) [
        | inl e ↦ over_named new (Some n) m e
        | inr e ↦ in_parent (nodes_of new) n m (same ∙ names_some ((nodes_of old n).parent) m e)
      ]

off : (t a : Bool) → (t ≡ true → a ≡ true) → a ≡ false → t ≡ false
off true a covers none = absurd (false≢true (sym none ∙ covers refl))
off false a covers none = refl

or_false : (b : Bool) → (b || false) ≡ b
or_false true = refl
or_false false = refl

-- what is kept after a change at a few elements, and after marks that cover them
module _ (old new : Tree) (kept : List Slot) (test : ℕ → Bool) (was : AreKept old kept) (only : ChangesOnly test (nodes_of old) (nodes_of new))
    (count : length new.elements ≡ length old.elements) where
  left : (more : ℕ → Bool) → ((m : ℕ) → test m ≡ true → more m ≡ true) → AreKeptBut new kept more
  left more covers = record {
    slots = subst (λ k. k ≤ length kept) (sym count) was.slots;
    sound =
        more_fits (nodes_of new) (slot_in kept) test more (λ m none. off (test m) (more m) (covers m) none)
        (changed_elsewhere (nodes_of old) (nodes_of new) (slot_in kept) test only was.sound);
    unmade = λ m far. was.unmade m (subst (λ k. k ≤ m) count far);
  }

  whole : (last : List Slot) → AreKeptBut new last (λ m. false) → AreKept new last
  whole last it = record { slots = it.slots; sound = it.sound; unmade = it.unmade }

  kept_marked : (node : Option ℕ) → ((m : ℕ) → test m ≡ true → is_over new node m ≡ true) → (last : List Slot) → Mends new node kept last → AreKept new last
  kept_marked node covers last mends =
      whole last (mends (λ m. false) (left (λ m. is_over new node m || false) (λ m is. ap (λ b. b || false) (covers m is))))

  kept_marked_twice : (one other : Option ℕ) → ((m : ℕ) → test m ≡ true → (is_over new one m || is_over new other m) ≡ true)
      → (mid last : List Slot) → Mends new one kept mid → Mends new other mid last → AreKept new last
  kept_marked_twice one other covers mid last first second =
      whole last
      (second (λ m. false)
      (first (λ m. is_over new other m || false)
      (left (λ m. is_over new one m || (is_over new other m || false))
      (λ m is. ap (λ b. is_over new one m || b) (or_false (is_over new other m)) ∙ covers m is))))

module _ (old new : Tree) (n : ℕ) (kept : List Slot) (was : AreKept old kept) (count : length new.elements ≡ length old.elements) where
  pub kept_removed : ChangesAtParent n old new → (before : Option ℕ) → before ≡ (nodes_of old n).parent → (last : List Slot) → Mends new before kept last → AreKept new last
  kept_removed changes before up last mends = kept_marked old new kept (is_parent old n) was changes count before (λ m is. over_parent old new n m before up is) last mends

  pub kept_placed : (container : Container) → ChangesAtParents container n old new → (before after : Option ℕ) → before ≡ (nodes_of old n).parent → after ≡ element_of container
      → (mid last : List Slot) → Mends new before kept mid → Mends new after mid last → AreKept new last
  kept_placed container changes before after up in_it mid last first second =
      kept_marked_twice old new kept (λ m. is_parent old n m || is_container container m) was changes count before (element_of container)
      (λ m is. over_parents old new n m before up container is) mid last first (subst (λ o. Mends new o mid last) in_it second)

  pub kept_written : ChangesAtElement n old new → (nodes_of new n).parent ≡ (nodes_of old n).parent → (last : List Slot) → Mends new (Some n) kept last → AreKept new last
  kept_written changes same last mends =
      kept_marked old new kept (λ m. nat_eq m n || is_parent old n m) was changes count (Some n) (λ m is. over_element old new n m same is) last mends

module _ (tree : Tree) (trees : MakeTrees tree) (old new : List Slot) (n : ℕ) (made : n < length tree.elements) (slots : length tree.elements ≤ length old)
    (at : ℕ → Node) (is : nodes_of tree ≡ at) (same : length new ≡ length old)
    (marks : (m : ℕ) → m < length old → slot_in new m ≡ marked_if (is_in_path at m n) (slot_in old m)) where
  within : (m : ℕ) → is_in_path at m n ≡ true → m < length old
  within m inside =
      let low : m < length tree.elements = path_made tree trees m n made (subst (λ f. is_in_path f m n ≡ true) (sym is) inside) in omega arith

  pub marks_over : MarksOnly (is_over tree (Some n)) old new
  marks_over m =
      subst (λ f. slot_in new m ≡ marked_if (is_in_path f m n) (slot_in old m)) (sym is)
      (marks_all old new (λ k. is_in_path at k n) same within marks m)

  pub mends_over : (((m : ℕ) → is_in_path at m n ≡ true → m < length old) → (others : ℕ → Bool) →
      IsSoundBut at (slot_in old) (λ k. is_in_path at k n || others k) → IsSoundBut at (slot_in new) others) → Mends tree (Some n) old new
  mends_over mended others was = record {
    slots = subst (λ k. length tree.elements ≤ k) (sym same) slots;
    sound =
        subst (λ f. IsSoundBut f (slot_in new) others) (sym is)
        (mended within others (subst (λ f. IsSoundBut f (slot_in old) (λ k. is_in_path f k n || others k)) is was.sound));
    unmade = λ m far. ap (λ (slot : Slot). slot.found) (marks_over m) ∙ found_marked (is_in_path (nodes_of tree) m n) (slot_in old m) ∙ was.unmade m far;
  }
