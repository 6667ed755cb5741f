-- What a walk over the children of a node has come to, whose own slot is marked meanwhile.
use Rattle.std.proofs.Common.{◌≡◌, ◌≢◌, ◌+◌, ℕ, List, [], ◌∷◌, ◌++◌, Option, Some, Bool, true, false, not, ◌&&◌, ◌||◌, refl, ap, sym, subst, ◌∙◌, inl, inr, arith}
use Rattle.std.proofs.lemmas.Bool.{false≢true}
use Rattle.std.specs.List.{list_any}
use Rattle.std.specs.Prelude.{sum_by}
use Rattle.px_units.specs.Lengths.{cap}
use Rattle.layout_model.specs.Nodes.{Node, is_in_path, is_in_flow}
use Rattle.layout_model.specs.Boxes.{Inputs, Box, kids_of, counted, total, computed, child_inputs, margin_height}
use Rattle.layout_model.specs.FlatPlaces.{before}
use Rattle.element_tree.specs.Forest.{has}
use Rattle.block_layout.specs.Seen.{seen_inputs}
use Rattle.block_layout.specs.declared.Inputs.{Inputs as InputsCode}
use Rattle.kept_layout.specs.declared.slots.Slot.{Slot}
use Rattle.kept_layout.specs.declared.slots.Found.{Found}
use Rattle.kept_layout.specs.Slots.{marked_if}
use Rattle.kept_layout.specs.Writes.{with_above, holding}
use Rattle.kept_layout.specs.Sound.{IsShownIn, IsCounted, box_held, above_held, IsHeldIn, outside_found, has_outside, IsRight}
use Rattle.kept_layout.specs.Walks.{IsSettled, IsSoundInFlow, IsFramed}
use Rattle.kept_layout.proofs.Heights.{sum_end, any_same, any_end, heights_same, passed_hidden, passed_outside, stacked, counted_passed, counted_stacked}
use Rattle.kept_layout.proofs.Lists.{before_has, before_self, before_chain, has_end}
use Rattle.kept_layout.proofs.Shapes.{IsShaped, kid_differs, one_parent}
use Rattle.kept_layout.proofs.Steady.{above_same, outside_same, held_same, right_same, sound_set}

-- a child in flow is laid out: its box is held without a mark
pub record IsLaidOut (at : ℕ → Node) (slot : ℕ → Slot) (n : ℕ) (inputs : Inputs) (c : ℕ) : Type 0 where
  pub unmarked : (slot c).marked ≡ false
  pub held : IsHeldIn at slot n inputs c

pub record Walked (at : ℕ → Node) (slot : ℕ → Slot) (n : ℕ) (inputs : Inputs) (xs : List ℕ) (above : ℕ) (outside : Bool) : Type 0 where
  pub marked : (slot n).marked ≡ true
  pub held : (c : ℕ) → has xs c ≡ true → IsCounted at n c → IsLaidOut at slot n inputs c
  pub stacks : (c : ℕ) → has xs c ≡ true → IsShownIn at n c → (slot c).above ≡ above_held at slot n c
  pub sum : above ≡ cap (sum_by (counted at (box_held slot)) xs)
  pub outside_is : outside ≡ list_any (has_outside at slot) xs

none_has : (c : ℕ) → has [] c ≡ true → ⊥
none_has c e = cc

some_is : (o : Option Found) (a b : Found) → o ≡ Some a → o ≡ Some b → a ≡ b
some_is o a b first second = cc

-- what a child adds to what is known of its parent's insides
outside_hidden : (at : ℕ → Node) (slot : ℕ → Slot) (c : ℕ) → (at c).item.style.hidden ≡ true → has_outside at slot c ≡ false
outside_hidden at slot c hidden = ap (λ h. not h && (not (is_in_flow (at c)) || outside_found (slot c).found)) hidden

pub outside_moved : (at : ℕ → Node) (slot : ℕ → Slot) (c : ℕ) → (at c).item.style.hidden ≡ false → is_in_flow (at c) ≡ false → has_outside at slot c ≡ true
outside_moved at slot c shown moved =
    ap (λ h. not h && (not (is_in_flow (at c)) || outside_found (slot c).found)) shown ∙ ap (λ f. not f || outside_found (slot c).found) moved

pub outside_within : (at : ℕ → Node) (slot : ℕ → Slot) (c : ℕ) → (at c).item.style.hidden ≡ false → is_in_flow (at c) ≡ true → has_outside at slot c ≡ outside_found (slot c).found
outside_within at slot c shown flow =
    ap (λ h. not h && (not (is_in_flow (at c)) || outside_found (slot c).found)) shown ∙ ap (λ f. not f || outside_found (slot c).found) flow

none_more : (b : Bool) → (b || false) ≡ b
none_more true = refl
none_more false = refl

module _ (at : ℕ → Node) (shaped : IsShaped at) (n : ℕ) (inputs : Inputs) where
  pub walked_begins : (slot : ℕ → Slot) (xs : List ℕ) (above : ℕ) → (slot n).marked ≡ true → xs ≡ [] → above ≡ 0 → Walked at slot n inputs xs above false
  walked_begins slot xs above marked none nothing = record {
    marked = marked;
    held = λ c among _. absurd (none_has c (ap (λ ys. has ys c) (sym none) ∙ among));
    stacks = λ c among _. absurd (none_has c (ap (λ ys. has ys c) (sym none) ∙ among));
    sum = nothing ∙ sym (ap (λ ys. cap (sum_by (counted at (box_held slot)) ys)) none);
    outside_is = sym (ap (list_any (has_outside at slot)) none);
  }

  pub walked_hidden : (slot : ℕ → Slot) (xs : List ℕ) (above : ℕ) (outside : Bool) (x : ℕ) → (at x).item.style.hidden ≡ true
      → Walked at slot n inputs xs above outside → Walked at slot n inputs (xs ++ x ∷ []) above outside
  walked_hidden slot xs above outside x hidden walked = record {
    marked = walked.marked;
    held = λ c among counted. elim (has_end x c xs among) [
      | inl earlier ↦ walked.held c earlier counted
      | inr same ↦ absurd (unshown c same counted.child)
    ];
    stacks = λ c among shown. elim (has_end x c xs among) [
      | inl earlier ↦ walked.stacks c earlier shown
      | inr same ↦ absurd (unshown c same shown)
    ];
    sum = walked.sum ∙ ap cap (let e = sum_end (counted at (box_held slot)) xs x in let z : counted at (box_held slot) x ≡ 0 = counted_passed at (box_held slot) x (passed_hidden at x hidden) in omega arith);
    outside_is = walked.outside_is
        ∙ sym (any_end (has_outside at slot) xs x ∙ ap (λ b. list_any (has_outside at slot) xs || b) (outside_hidden at slot x hidden) ∙ none_more (list_any (has_outside at slot) xs));
  }
    where
      unshown : (c : ℕ) → c ≡ x → IsShownIn at n c → ⊥
      unshown c same shown = false≢true (sym (subst (λ m. (at m).item.style.hidden ≡ false) same shown.shown) ∙ hidden)

  -- a displayed child: slots change in it alone, and its own is below its earlier siblings afterwards
  module _ (x : ℕ) (kid : has (kids_of (at n)) x ≡ true) (shown : (at x).item.style.hidden ≡ false)
      (old new : ℕ → Slot) (above : ℕ) (outside : Bool)
      (framed : IsFramed at x old new) (apart : (m : ℕ) → m ≢ x → is_in_path at x m ≡ true → (c : ℕ) → has (kids_of (at n)) c ≡ true → c ≢ m)
      (off : is_in_path at x n ≡ false) (stands : (new x).above ≡ above)
      (walked : Walked at old n inputs (before x (kids_of (at n))) above outside) where
    child : IsShownIn at n x
    child = record { listed = kid; shown = shown }

    beside : (c : ℕ) → has (before x (kids_of (at n))) c ≡ true → new c ≡ old c
    beside c ahead = framed c (by (is_in_path at x c) refl)
      where
        differs : c ≢ x
        differs same = false≢true (sym (before_self x (kids_of (at n))) ∙ ap (has (before x (kids_of (at n)))) (sym same) ∙ ahead)

        by : (b : Bool) → is_in_path at x c ≡ b → is_in_path at x c ≡ false
        by true is = absurd (apart c differs is c (before_has x c (kids_of (at n)) ahead) refl)
        by false is = is

    sums_beside : (xs : List ℕ) → ((c : ℕ) → has xs c ≡ true → has (before x (kids_of (at n))) c ≡ true) → sum_by (counted at (box_held old)) xs ≡ sum_by (counted at (box_held new)) xs
    sums_beside xs ahead = heights_same at old new xs (λ c among _ _. ap (λ s. s.found) (beside c (ahead c among)))

    above_now : above ≡ cap (sum_by (counted at (box_held new)) (before x (kids_of (at n))))
    above_now = walked.sum ∙ ap cap (sums_beside (before x (kids_of (at n))) (λ c among. among))

    outside_now : outside ≡ list_any (has_outside at new) (before x (kids_of (at n)))
    outside_now =
        walked.outside_is
        ∙ any_same (has_outside at old) (has_outside at new) (before x (kids_of (at n)))
        (λ c ahead. ap (λ (s : Slot). not (at c).item.style.hidden && (not (is_in_flow (at c)) || outside_found s.found)) (sym (beside c ahead)))

    earlier : (c : ℕ) → has (before x (kids_of (at n))) c ≡ true → IsCounted at n c → IsLaidOut at new n inputs c
    earlier c ahead counted =
        let was = walked.held c ahead counted in
        record {
          unmarked = ap (λ s. s.marked) (beside c ahead) ∙ was.unmarked;
          held = record { found = was.held.found; held = ap (λ s. s.found) (beside c ahead) ∙ was.held.held; from = was.held.from };
        }

    stacked_now : (c : ℕ) → has (before x (kids_of (at n)) ++ x ∷ []) c ≡ true → IsShownIn at n c → (new c).above ≡ above_held at new n c
    stacked_now c among one =
        elim (has_end x c (before x (kids_of (at n))) among) [
          | inl ahead ↦
              ap (λ s. s.above) (beside c ahead) ∙ walked.stacks c ahead one
              ∙ ap cap (sums_beside (before c (kids_of (at n))) (λ m within. before_chain x c m (kids_of (at n)) ahead within))
          | inr same ↦ subst (λ m. (new m).above ≡ above_held at new n m) (sym same) (stands ∙ above_now)
        ]

    marked_now : (new n).marked ≡ true
    marked_now = ap (λ s. s.marked) (framed n off) ∙ walked.marked

    -- it is in flow, and its box is held without a mark
    pub walked_in_flow : is_in_flow (at x) ≡ true → IsSettled (new x) (child_inputs (at n).item inputs) → (lower : ℕ) → lower ≡ cap (above + margin_height (box_held new x))
        → (more : Bool) → more ≡ (outside || outside_found (new x).found) → Walked at new n inputs (before x (kids_of (at n)) ++ x ∷ []) lower more
    walked_in_flow flow settled lower is more within = record {
      marked = marked_now;
      held = λ c among counted. elim (has_end x c (before x (kids_of (at n))) among) [
        | inl ahead ↦ earlier c ahead counted
        | inr same ↦ subst (IsLaidOut at new n inputs) (sym same)
            (record { unmarked = settled.unmarked; held = record { found = settled.found; held = settled.held; from = settled.from } })
      ];
      stacks = stacked_now;
      sum = let e = sum_end (counted at (box_held new)) (before x (kids_of (at n))) x in
          let z : counted at (box_held new) x ≡ margin_height (box_held new x) = counted_stacked at (box_held new) x (stacked at x shown flow) in
          let h = above_now in
          omega arith;
      outside_is = within
          ∙ ap (λ b. b || outside_found (new x).found) outside_now
          ∙ ap (λ b. list_any (has_outside at new) (before x (kids_of (at n))) || b) (sym (outside_within at new x shown flow))
          ∙ sym (any_end (has_outside at new) (before x (kids_of (at n))) x);
    }

    -- it is out of flow, and is entered later
    pub walked_moved : is_in_flow (at x) ≡ false → (lower : ℕ) → lower ≡ above → (more : Bool) → more ≡ true
        → Walked at new n inputs (before x (kids_of (at n)) ++ x ∷ []) lower more
    walked_moved moved lower is more within = record {
      marked = marked_now;
      held = λ c among counted. elim (has_end x c (before x (kids_of (at n))) among) [
        | inl ahead ↦ earlier c ahead counted
        | inr same ↦ absurd (false≢true (sym moved ∙ ap (λ m. is_in_flow (at m)) (sym same) ∙ counted.flow))
      ];
      stacks = stacked_now;
      sum = let e = sum_end (counted at (box_held new)) (before x (kids_of (at n))) x in
          let z : counted at (box_held new) x ≡ 0 = counted_passed at (box_held new) x (passed_outside at x moved) in
          let h = above_now in
          omega arith;
      outside_is = within ∙ sym (any_end (has_outside at new) (before x (kids_of (at n))) x ∙ ap (λ b. list_any (has_outside at new) (before x (kids_of (at n))) || b) (outside_moved at new x shown moved) ∙ or_true (list_any (has_outside at new) (before x (kids_of (at n)))));
    }
      where
        or_true : (b : Bool) → (b || true) ≡ true
        or_true true = refl
        or_true false = refl

  pub only_parent_marked : (slot : ℕ → Slot) (x : ℕ) → has (kids_of (at n)) x ≡ true → (slot n).marked ≡ true → (p : ℕ) → IsShownIn at p x → (slot p).marked ≡ true
  only_parent_marked slot x kid marked p shown = subst (λ q. (slot q).marked ≡ true) (sym (one_parent at shaped n p x kid shown.listed)) marked

  -- a child of a marked node is put below so much height
  pub sound_put : (x : ℕ) → has (kids_of (at n)) x ≡ true → (old mid : ℕ → Slot) (above : ℕ) → mid x ≡ with_above above (old x) → ((m : ℕ) → m ≢ x → mid m ≡ old m)
      → (old n).marked ≡ true → IsSoundInFlow at old → IsSoundInFlow at mid
  sound_put x kid old mid above set others marked sound =
      sound_set at shaped x old mid others sound
      (λ p counted. only_parent_marked old x kid marked p counted.child)
      (λ p shown. inl (only_parent_marked old x kid marked p shown))
      (λ c counted was. ap (λ s. s.marked) set ∙ sound.marks x c counted was)
      (λ found unmarked held.
      right_same at old mid x (λ c counted. ap (λ s. s.found) (others c (kid_differs at shaped x c counted.child.listed)))
      (λ c shown. ap (λ s. s.above) (others c (kid_differs at shaped x c shown.listed))) found
      (sound.right x found (ap (λ s. s.marked) (sym set) ∙ unmarked) (ap (λ s. s.found) (sym set) ∙ held)))

  -- the node is marked as the walk begins
  pub sound_begins : (first now : ℕ → Slot) → now n ≡ marked_if true (first n) → ((m : ℕ) → m ≢ n → now m ≡ first m)
      → ((p : ℕ) → IsCounted at p n → (first p).marked ≡ true) → IsSoundInFlow at first → IsSoundInFlow at now
  sound_begins first now set others above sound =
      sound_set at shaped n first now others sound above
      (λ p shown. inr (ap (λ s. s.above) set))
      (λ c counted was. ap (λ s. s.marked) set)
      (λ found unmarked held. absurd (false≢true (sym unmarked ∙ ap (λ s. s.marked) set)))

  -- its own box is held at the end
  module _ (now new : ℕ → Slot) (own : Box) (given : InputsCode) (outside : Bool) (seen : seen_inputs given ≡ inputs) (set : new n ≡ holding own given outside (now n))
      (others : (m : ℕ) → m ≢ n → new m ≡ now m) where
    abbrev pub settled_ends : IsSettled (new n) inputs
    settled_ends = record {
      unmarked = ap (λ s. s.marked) set;
      found = record { own = own; inputs = given; outside = outside };
      held = ap (λ s. s.found) set;
      from = seen;
    }

    kids_apart : (c : ℕ) → IsCounted at n c → (new c).found ≡ (now c).found
    kids_apart c counted = ap (λ s. s.found) (others c (kid_differs at shaped n c counted.child.listed))

    module _ (above : ℕ) (walked : Walked at now n inputs (kids_of (at n)) above outside) (is : own ≡ computed (at n).item inputs above) where
      height_total : above ≡ total at (box_held new) (kids_of (at n))
      unfolding total
      height_total = walked.sum
          ∙ ap cap (heights_same at now new (kids_of (at n)) (λ c kid shown flow. kids_apart c (record { child = record { listed = kid; shown = shown }; flow = flow })))

      right_ends : IsRight at new n settled_ends.found
      right_ends = record {
        box = is ∙ ap (computed (at n).item inputs) height_total ∙ ap (λ i. computed (at n).item i (total at (box_held new) (kids_of (at n)))) (sym seen);
        kids = λ c counted. subst (λ i. IsHeldIn at new n i c) (sym seen) (held_same at now new n kids_apart inputs c counted (walked.held c counted.child.listed counted).held);
        above = λ c shown.
            ap (λ s. s.above) (others c (kid_differs at shaped n c shown.listed)) ∙ walked.stacks c shown.listed shown ∙ above_same at now new n kids_apart c;
        outside = walked.outside_is ∙ outside_same at now new n kids_apart;
      }

      pub sound_ends : ((p : ℕ) → IsCounted at p n → (now p).marked ≡ true) → IsSoundInFlow at now → IsSoundInFlow at new
      sound_ends up sound =
          sound_set at shaped n now new others sound up
          (λ p shown. inr (ap (λ s. s.above) set))
          (λ c counted was. absurd (false≢true (sym (walked.held c counted.child.listed counted).unmarked ∙ was)))
          (λ found unmarked held. subst (IsRight at new n) (some_is (new n).found settled_ends.found found settled_ends.held held) right_ends)
