-- What is kept stays right where slots change that no unmarked box rests on.
use Rattle.std.proofs.Common.{◌≡◌, ◌≢◌, ℕ, List, [], Option, Some, None, Bool, true, false, not, ◌&&◌, ◌||◌, refl, ap, sym, subst, ◌∙◌, ◌⊎◌, inl, inr}
use Rattle.std.proofs.lemmas.Bool.{false≢true}
use Rattle.std.specs.List.{list_any}
use Rattle.std.specs.Prelude.{sum_by, ◌==◌}
use Rattle.px_units.specs.Lengths.{cap}
use Rattle.layout_model.specs.Items.{Item, Kind, BlockKind, ImageKind, FrameKind}
use Rattle.layout_model.specs.Nodes.{Node, is_in_flow}
use Rattle.layout_model.specs.Boxes.{Inputs, kids_of, is_passed, counted, total, computed, child_inputs, inner_children}
use Rattle.layout_model.specs.FlatPlaces.{before}
use Rattle.element_tree.specs.Forest.{has}
use Rattle.block_layout.specs.Seen.{seen_inputs}
use Rattle.kept_layout.specs.declared.slots.Slot.{Slot}
use Rattle.kept_layout.specs.declared.slots.Found.{Found}
use Rattle.kept_layout.specs.Changes.{IsLike, ChangesOnly}
use Rattle.kept_layout.specs.Slots.{marked_if}
use Rattle.kept_layout.specs.Sound.{IsShownIn, IsCounted, box_held, above_held, IsHeldIn, outside_found, has_outside, IsRight, IsSoundBut, IsSound}
use Rattle.kept_layout.specs.Walks.{IsSoundInFlow}
use Rattle.kept_layout.proofs.Heights.{sum_same, any_same, heights_same, counted_passed, counted_stacked}
use Rattle.kept_layout.proofs.Lists.{decide, apart as apart_test, before_has, none_has}
use Rattle.kept_layout.proofs.Shapes.{IsShaped, kid_differs}

-- whether something is out of flow in a child, by whether it is displayed and in flow itself
abbrev outside_by : Bool → Bool → Bool → Bool
outside_by hidden flow within = not hidden && (not flow || within)

outside_like : (hidden flow a b : Bool) → (hidden ≡ false → flow ≡ true → a ≡ b) → outside_by hidden flow a ≡ outside_by hidden flow b
outside_like true flow a b same = refl
outside_like false false a b same = refl
outside_like false true a b same = same refl refl

module _ (at : ℕ → Node) (old new : ℕ → Slot) (n : ℕ) (same : (c : ℕ) → IsCounted at n c → (new c).found ≡ (old c).found) where
  counts : (c : ℕ) → has (kids_of (at n)) c ≡ true → (at c).item.style.hidden ≡ false → is_in_flow (at c) ≡ true → IsCounted at n c
  counts c kid shown flow = record { child = record { listed = kid; shown = shown }; flow = flow }

  total_same : total at (box_held old) (kids_of (at n)) ≡ total at (box_held new) (kids_of (at n))
  unfolding total
  total_same = ap cap (heights_same at old new (kids_of (at n)) (λ c kid shown flow. same c (counts c kid shown flow)))

  pub above_same : (c : ℕ) → above_held at old n c ≡ above_held at new n c
  above_same c =
      ap cap (heights_same at old new (before c (kids_of (at n))) (λ m ahead shown flow. same m (counts m (before_has c m (kids_of (at n)) ahead) shown flow)))

  pub outside_same : list_any (has_outside at old) (kids_of (at n)) ≡ list_any (has_outside at new) (kids_of (at n))
  outside_same =
      any_same (has_outside at old) (has_outside at new) (kids_of (at n))
      (λ c kid. outside_like ((at c).item.style.hidden) (is_in_flow (at c)) (outside_found (old c).found) (outside_found (new c).found)
      (λ shown flow. ap outside_found (sym (same c (counts c kid shown flow)))))

  pub held_same : (inputs : Inputs) (c : ℕ) → IsCounted at n c → IsHeldIn at old n inputs c → IsHeldIn at new n inputs c
  held_same inputs c counted held = record { found = held.found; held = same c counted ∙ held.held; from = held.from }

  pub right_same : ((c : ℕ) → IsShownIn at n c → (new c).above ≡ (old c).above) → (found : Found) → IsRight at old n found → IsRight at new n found
  right_same stacks found right = record {
    box = right.box ∙ ap (computed (at n).item (seen_inputs found.inputs)) total_same;
    kids = λ c counted. held_same (seen_inputs found.inputs) c counted (right.kids c counted);
    above = λ c shown. stacks c shown ∙ right.above c shown ∙ above_same c;
    outside = right.outside ∙ outside_same;
  }

-- one slot is written
module _ (at : ℕ → Node) (shaped : IsShaped at) (x : ℕ) (old new : ℕ → Slot) (others : (m : ℕ) → m ≢ x → new m ≡ old m)
    (sound : IsSoundInFlow at old)
    (above : (p : ℕ) → IsCounted at p x → (old p).marked ≡ true)
    (stacks : (p : ℕ) → IsShownIn at p x → ((old p).marked ≡ true) ⊎ ((new x).above ≡ (old x).above))
    (below : (c : ℕ) → IsCounted at x c → (old c).marked ≡ true → (new x).marked ≡ true)
    (own : (found : Found) → (new x).marked ≡ false → (new x).found ≡ Some found → IsRight at new x found) where
  still_marked : (p : ℕ) → p ≢ x → (old p).marked ≡ true → (new p).marked ≡ true
  still_marked p other is = ap (λ s. s.marked) (others p other) ∙ is

  marks_set : (p c : ℕ) → IsCounted at p c → (new c).marked ≡ true → (new p).marked ≡ true
  marks_set p c counted marked =
      elim (decide c x) [
        | inl same ↦
            let at_x : IsCounted at p x = subst (IsCounted at p) same counted in
            still_marked p (λ e. kid_differs at shaped p x at_x.child.listed (sym e)) (above p at_x)
        | inr other ↦
            let was : (old c).marked ≡ true = ap (λ (s : Slot). s.marked) (sym (others c other)) ∙ marked in
            elim (decide p x) [
              | inl same ↦ subst (λ q. (new q).marked ≡ true) (sym same) (below c (subst (λ q. IsCounted at q c) same counted) was)
              | inr apart ↦ still_marked p apart (sound.marks p c counted was)
            ]
      ]

  right_set : (n : ℕ) (found : Found) → (new n).marked ≡ false → (new n).found ≡ Some found → IsRight at new n found
  right_set n found unmarked held =
      elim (decide n x) [
        | inl same ↦
            subst (λ m. IsRight at new m found) (sym same)
            (own found (subst (λ m. (new m).marked ≡ false) same unmarked) (subst (λ m. (new m).found ≡ Some found) same held))
        | inr other ↦
            let was : (old n).marked ≡ false = ap (λ (s : Slot). s.marked) (sym (others n other)) ∙ unmarked in
            right_same at old new n (λ c counted. kids n was c counted) (λ c shown. stacked n was c shown) found
            (sound.right n found was (ap (λ (s : Slot). s.found) (sym (others n other)) ∙ held))
      ]
    where
      kids : (n : ℕ) → (old n).marked ≡ false → (c : ℕ) → IsCounted at n c → (new c).found ≡ (old c).found
      kids n was c counted =
          elim (decide c x) [
            | inl same ↦ absurd (false≢true (sym was ∙ above n (subst (IsCounted at n) same counted)))
            | inr other ↦ ap (λ s. s.found) (others c other)
          ]

      stacked : (n : ℕ) → (old n).marked ≡ false → (c : ℕ) → IsShownIn at n c → (new c).above ≡ (old c).above
      stacked n was c shown =
          elim (decide c x) [
            | inl same ↦ elim (stacks n (subst (IsShownIn at n) same shown)) [
              | inl marked ↦ absurd (false≢true (sym was ∙ marked))
              | inr kept ↦ subst (λ m. (new m).above ≡ (old m).above) (sym same) kept
            ]
            | inr other ↦ ap (λ s. s.above) (others c other)
          ]

  pub sound_set : IsSoundInFlow at new
  sound_set = record { marks = λ p c counted marked. marks_set p c counted marked; right = λ n found unmarked held. right_set n found unmarked held }

-- nodes are marked
pub found_marked : (b : Bool) (slot : Slot) → (marked_if b slot).found ≡ slot.found
found_marked true slot = refl
found_marked false slot = refl

above_marked : (b : Bool) (slot : Slot) → (marked_if b slot).above ≡ slot.above
above_marked true slot = refl
above_marked false slot = refl

marked_as : (b : Bool) (slot : Slot) → (marked_if b slot).marked ≡ (b || slot.marked)
marked_as true slot = refl
marked_as false slot = refl

module _ (at : ℕ → Node) (old new : ℕ → Slot) (path others : ℕ → Bool)
    (up : (p c : ℕ) → has (kids_of (at p)) c ≡ true → path c ≡ true → path p ≡ true)
    (marks : (m : ℕ) → new m ≡ marked_if (path m) (old m))
    (sound : IsSoundBut at old (λ n. path n || others n)) where
  abbrev mark_is : (n : ℕ) → (new n).marked ≡ (path n || (old n).marked)
  mark_is n = ap (λ s. s.marked) (marks n) ∙ marked_as (path n) (old n)

  found_is : (n : ℕ) → (new n).found ≡ (old n).found
  found_is n = ap (λ s. s.found) (marks n) ∙ found_marked (path n) (old n)

  above_is : (n : ℕ) → (new n).above ≡ (old n).above
  above_is n = ap (λ s. s.above) (marks n) ∙ above_marked (path n) (old n)

  pub mended : IsSoundBut at new others
  mended = record {
    marks = λ p c apart shown marked. mark_is p ∙ parent p c apart shown (path p) refl (path c) refl (sym (mark_is c) ∙ marked);
    right = λ n found apart unmarked held. right n found apart (path n) refl (sym (mark_is n) ∙ unmarked) (sym (found_is n) ∙ held);
  }
    where
      parent : (p c : ℕ) → others p ≡ false → IsShownIn at p c → (b : Bool) → path p ≡ b → (d : Bool) → path c ≡ d → (path c || (old c).marked) ≡ true → (path p || (old p).marked) ≡ true
      parent p c apart shown true is d child marked = ap (λ b. b || (old p).marked) is
      parent p c apart shown false is true child marked = absurd (false≢true (sym is ∙ up p c shown.listed child))
      parent p c apart shown false is false child marked =
          ap (λ b. b || (old p).marked) is
          ∙ sound.marks p c (ap (λ b. b || others p) is ∙ apart) shown (sym (ap (λ b. b || (old c).marked) child) ∙ marked)

      right : (n : ℕ) (found : Found) → others n ≡ false → (b : Bool) → path n ≡ b → (path n || (old n).marked) ≡ false → (old n).found ≡ Some found → IsRight at new n found
      right n found apart true is unmarked held = absurd (false≢true (sym unmarked ∙ ap (λ b. b || (old n).marked) is))
      right n found apart false is unmarked held =
          right_same at old new n (λ c counted. found_is c) (λ c shown. above_is c) found
          (sound.right n found (ap (λ b. b || others n) is ∙ apart) (sym (ap (λ b. b || (old n).marked) is) ∙ unmarked) held)

-- the tree changes
module _ (old new : ℕ → Node) (slot : ℕ → Slot) (n : ℕ) (like : IsLike old new n) where
  pub kids_like : kids_of (new n) ≡ kids_of (old n)
  kids_like = ap (λ (i : Item). inner_children i.kind (new n).children) like.item ∙ ap (inner_children (old n).item.kind) like.children

  kid_before : (c : ℕ) → has (kids_of (new n)) c ≡ true → has (kids_of (old n)) c ≡ true
  kid_before c kid = ap (λ xs. has xs c) (sym kids_like) ∙ kid

  pub shown_before : (c : ℕ) → IsShownIn new n c → IsShownIn old n c
  shown_before c shown = record { listed = kid_before c shown.listed; shown = sym (like.shown c (kid_before c shown.listed)) ∙ shown.shown }

  counted_before : (c : ℕ) → IsCounted new n c → IsCounted old n c
  counted_before c counted = record {
    child = shown_before c counted.child;
    flow = sym (like.flow c (kid_before c counted.child.listed)) ∙ counted.flow;
  }

  passed_like : (c : ℕ) → has (kids_of (old n)) c ≡ true → is_passed (new c) ≡ is_passed (old c)
  passed_like c kid = ap (λ h. h || not (is_in_flow (new c))) (like.shown c kid) ∙ ap (λ f. (old c).item.style.hidden || not f) (like.flow c kid)

  height_like : (c : ℕ) → has (kids_of (old n)) c ≡ true → counted old (box_held slot) c ≡ counted new (box_held slot) c
  height_like c kid = by (is_passed (old c)) refl
    where
      by : (passed : Bool) → is_passed (old c) ≡ passed → counted old (box_held slot) c ≡ counted new (box_held slot) c
      by true is = counted_passed old (box_held slot) c is ∙ sym (counted_passed new (box_held slot) c (passed_like c kid ∙ is))
      by false is = counted_stacked old (box_held slot) c is ∙ sym (counted_stacked new (box_held slot) c (passed_like c kid ∙ is))

  outside_as : (c : ℕ) → has (kids_of (old n)) c ≡ true → has_outside old slot c ≡ has_outside new slot c
  outside_as c kid =
      ap (λ h. outside_by h (is_in_flow (old c)) (outside_found (slot c).found)) (sym (like.shown c kid))
      ∙ ap (λ f. outside_by ((new c).item.style.hidden) f (outside_found (slot c).found)) (sym (like.flow c kid))

  pub right_like : (found : Found) → IsRight old slot n found → IsRight new slot n found
  unfolding total
  right_like found right = record {
    box = right.box
        ∙ ap (λ i. computed i (seen_inputs found.inputs) (total old (box_held slot) (kids_of (old n)))) (sym like.item)
        ∙ ap (λ h. computed (new n).item (seen_inputs found.inputs) (cap h))
        (sum_same (counted old (box_held slot)) (counted new (box_held slot)) (kids_of (old n)) height_like ∙ ap (sum_by (counted new (box_held slot))) (sym kids_like));
    kids = λ c one.
        let held = right.kids c (counted_before c one) in
        record { found = held.found; held = held.held; from = held.from ∙ ap (λ i. child_inputs i (seen_inputs found.inputs)) (sym like.item) };
    above = λ c one.
        right.above c (shown_before c one)
        ∙ ap cap (sum_same (counted old (box_held slot)) (counted new (box_held slot)) (before c (kids_of (old n))) (λ m ahead. height_like m (before_has c m (kids_of (old n)) ahead))
        ∙ ap (λ xs. sum_by (counted new (box_held slot)) (before c xs)) (sym kids_like));
    outside = right.outside ∙ any_same (has_outside old slot) (has_outside new slot) (kids_of (old n)) outside_as ∙ ap (list_any (has_outside new slot)) (sym kids_like);
  }

pub changed_elsewhere : (old new : ℕ → Node) (slot : ℕ → Slot) (changed : ℕ → Bool) → ChangesOnly changed old new → IsSound old slot → IsSoundBut new slot changed
changed_elsewhere old new slot changed only sound = record {
  marks = λ p c apart shown marked. sound.marks p c refl (shown_before old new slot p (only p apart) c shown) marked;
  right = λ n found apart unmarked held. right_like old new slot n (only n apart) found (sound.right n found refl unmarked held);
}

-- a node without children for which nothing is held
no_kid : (kind : Kind) (children : List ℕ) (c : ℕ) → children ≡ [] → has (inner_children kind children) c ≡ true → ⊥
no_kid BlockKind children c none kid = none_has c (ap (λ xs. has xs c) (sym none) ∙ kid)
no_kid (ImageKind width height) children c none kid = cc
no_kid FrameKind children c none kid = cc

pub new_node : (at : ℕ → Node) (slot : ℕ → Slot) (n : ℕ) (others : ℕ → Bool) → (at n).children ≡ [] → (slot n).found ≡ None → IsSoundBut at slot (λ m. m == n || others m) → IsSoundBut at slot others
new_node at slot n others none nothing sound = record {
  marks = λ p c apart counted marked. elim (decide p n) [
    | inl same ↦ absurd (no_kid (at n).item.kind (at n).children c none (subst (λ q. has (kids_of (at q)) c ≡ true) same counted.listed))
    | inr other ↦ sound.marks p c (ap (λ b. b || others p) (apart_test p n other) ∙ apart) counted marked
  ];
  right = λ m found apart unmarked held. elim (decide m n) [
    | inl same ↦ absurd (no_found (slot n).found found nothing (subst (λ q. (slot q).found ≡ Some found) same held))
    | inr other ↦ sound.right m found (ap (λ b. b || others m) (apart_test m n other) ∙ apart) unmarked held
  ];
}
  where
    no_found : (o : Option Found) (found : Found) → o ≡ None → o ≡ Some found → ⊥
    no_found o found first second = cc

-- a marked node, and more exceptions
pub marked_fits : (at : ℕ → Node) (slot : ℕ → Slot) (others : ℕ → Bool) → IsSoundBut at slot (λ n. (slot n).marked || others n) → IsSoundBut at slot others
marked_fits at slot others sound = record {
  marks = λ p c apart shown marked. parent p c apart shown marked (slot p).marked refl;
  right = λ n found apart unmarked held. sound.right n found (ap (λ b. b || others n) unmarked ∙ apart) unmarked held;
}
  where
    parent : (p c : ℕ) → others p ≡ false → IsShownIn at p c → (slot c).marked ≡ true → (b : Bool) → (slot p).marked ≡ b → (slot p).marked ≡ true
    parent p c apart shown marked true is = is
    parent p c apart shown marked false is = sound.marks p c (ap (λ b. b || others p) is ∙ apart) shown marked

pub more_fits : (at : ℕ → Node) (slot : ℕ → Slot) (few more : ℕ → Bool) → ((n : ℕ) → more n ≡ false → few n ≡ false) → IsSoundBut at slot few → IsSoundBut at slot more
more_fits at slot few more within sound = record {
  marks = λ p c apart counted marked. sound.marks p c (within p apart) counted marked;
  right = λ n found apart unmarked held. sound.right n found (within n apart) unmarked held;
}
