-- How far a walk to the boxes out of flow in a node has come.
use Rattle.std.proofs.Common.{◌≡◌, ◌≢◌, ◌+◌, ◌≤◌, ℕ, zero, suc, List, [], ◌∷◌, ◌++◌, Option, Some, Bool, true, false, not, ◌&&◌, ◌||◌, refl, ap, sym, subst, ◌∙◌, inl, inr, arith}
use Rattle.std.proofs.lemmas.Bool.{false≢true}
use Rattle.layout_model.specs.Nodes.{Node, depth_of, is_in_path, is_in_flow, IsLinked, IsShallow}
use Rattle.layout_model.specs.Boxes.{Inputs, kids_of, inputs_in}
use Rattle.layout_model.specs.FlatPlaces.{before}
use Rattle.layout_model.proofs.Ancestors.{in_path_of_parent}
use Rattle.layout_model.proofs.Paths.{depth_least}
use Rattle.element_tree.specs.Forest.{has}
use Rattle.kept_layout.specs.declared.slots.Slot.{Slot}
use Rattle.kept_layout.specs.declared.walk.Outside.{Outside}
use Rattle.kept_layout.specs.Due.{due_count}
use Rattle.kept_layout.specs.Sound.{IsShownIn, IsCounted, outside_found, has_outside, HasSlots}
use Rattle.kept_layout.specs.Walks.{IsSettled, IsSoundInFlow, IsFramed, KeepsUnboxed, IsOutsideOf, IsEntered, IsBroughtTo, IsRefreshedInside}
use Rattle.kept_layout.proofs.Entering.{brought_on}
use Rattle.kept_layout.proofs.Exact.{kid_settled, some_same}
use Rattle.kept_layout.proofs.Heights.{any_none}
use Rattle.kept_layout.proofs.Lists.{decide, before_has, before_self, has_end, none_has}
use Rattle.kept_layout.proofs.Shapes.{IsShaped}
use Rattle.kept_layout.proofs.Subtrees.{below, some_kid, off_parent, outside_kid, apart_kids}
use Rattle.kept_layout.proofs.Wanted.{under, over, wanted_kid}

-- a displayed child where nothing is out of flow
nothing_out : (hidden flow within : Bool) → hidden ≡ false → (not hidden && (not flow || within)) ≡ false → (flow ≡ true) × (within ≡ false)
nothing_out hidden flow within shown none = by flow within (sym (ap (λ h. not h && (not flow || within)) shown) ∙ none)
  where
    by : (flow within : Bool) → (not flow || within) ≡ false → (flow ≡ true) × (within ≡ false)
    by true within is = (refl, is)
    by false within is = cc

-- what has been settled in the children that the walk has passed
pub record AreSettledKids (at : ℕ → Node) (root : ℕ) (viewport : Inputs) (n : ℕ) (xs : List ℕ) (count : ℕ) (old new : ℕ → Slot) (before after : ℕ) : Type 0 where
  pub settled : (x m : ℕ) (inputs : Inputs) → has xs x ≡ true → is_in_path at x m ≡ true → inputs_in at root viewport m ≡ Some inputs → IsSettled (new m) inputs
  pub ticks : (wanted : ℕ → Option Inputs) → ((m : ℕ) → is_in_path at n m ≡ true → wanted m ≡ inputs_in at root viewport m)
      → after + due_count wanted new count ≡ before + due_count wanted old count
  pub sound : IsSoundInFlow at new

pub record Inside (at : ℕ → Node) (n : ℕ) (outside : Outside) (count : ℕ) (first now : ℕ → Slot) (xs : List ℕ) (begun steps : ℕ) : Type 0 where
  pub own : now n ≡ first n
  pub framed : IsFramed at n first now
  pub unboxed : KeepsUnboxed at n first now
  pub done : HasSlots at n count → IsSoundInFlow at first → (root : ℕ) (viewport : Inputs) → IsOutsideOf at root viewport n outside first
      → AreSettledKids at root viewport n xs count first now begun steps

module _ (at : ℕ → Node) (shaped : IsShaped at) (linked : IsLinked at) (shallow : IsShallow at) (n : ℕ) (outside : Outside) (count : ℕ) where
  -- where no box in the node is out of flow, each is settled with it
  module _ (slot : ℕ → Slot) (sound : IsSoundInFlow at slot) (root : ℕ) (viewport : Inputs) (brought : IsOutsideOf at root viewport n outside slot)
      (none : outside_found (slot n).found ≡ false) where
    record IsQuiet (m : ℕ) (inputs : Inputs) : Type 0 where
      settled : IsSettled (slot m) inputs
      quiet : outside_found (slot m).found ≡ false

    quiet_within : (high m : ℕ) (inputs : Inputs) → depth_of at m ≤ high → is_in_path at n m ≡ true → inputs_in at root viewport m ≡ Some inputs → IsQuiet m inputs
    quiet_within zero m inputs low inside boxed = absurd (omega (arith, depth_least at m))
    quiet_within (suc high) m inputs low inside boxed =
        elim (decide m n) [
          | inl same ↦
              subst (λ k. IsQuiet k inputs) (sym same)
              (record {
                settled = subst (IsSettled (slot n)) (some_same (inputs_in at root viewport n) brought.inputs inputs brought.boxed (subst (λ k. inputs_in at root viewport k ≡ Some inputs) same boxed)) brought.settled;
                quiet = none;
              })
          | inr other ↦
              let it = below at shallow shaped n m inside other in
              let higher = under at shaped shallow root viewport it.parent m inputs it.up boxed in
              let upper = quiet_within high it.parent higher.inputs (omega (arith, shaped.falls m it.parent it.up)) it.inside higher.boxed in
              let right = sound.right it.parent upper.settled.found upper.settled.unmarked upper.settled.held in
              let nothing = any_none (has_outside at slot) (kids_of (at it.parent)) m (sym right.outside ∙ ap outside_found (sym upper.settled.held) ∙ upper.quiet) higher.shown.listed in
              let parts = nothing_out ((at m).item.style.hidden) (is_in_flow (at m)) (outside_found (slot m).found) higher.shown.shown nothing in
              let counted : IsCounted at it.parent m = record { child = higher.shown; flow = parts.0 } in
              record {
                settled = subst (IsSettled (slot m))
                    (some_same (inputs_in at root viewport m) _ inputs (wanted_kid at shaped shallow root viewport it.parent m higher.inputs counted higher.boxed) boxed)
                    (kid_settled at shaped linked shallow slot sound it.parent higher.inputs upper.settled m counted);
                quiet = parts.1;
              }
        ]

    quiet : (m : ℕ) (inputs : Inputs) → is_in_path at n m ≡ true → inputs_in at root viewport m ≡ Some inputs → IsSettled (slot m) inputs
    quiet m inputs inside boxed = (quiet_within (depth_of at m) m inputs (omega arith) inside boxed).settled

  pub inside_already : (slot : ℕ → Slot) (steps : ℕ) → outside_found (slot n).found ≡ false → IsRefreshedInside at n outside count slot slot steps steps
  inside_already slot steps none = record {
    own = refl;
    framed = λ m _. refl;
    unboxed = λ _ _ _ m _. refl;
    done = λ slots sound root viewport brought. record {
      settled = quiet slot sound root viewport brought none;
      ticks = λ wanted same. omega arith;
      sound = sound;
    };
  }

  pub inside_begins : (slot : ℕ → Slot) (steps : ℕ) (xs : List ℕ) → xs ≡ [] → Inside at n outside count slot slot xs steps steps
  inside_begins slot steps xs empty = record {
    own = refl;
    framed = λ m _. refl;
    unboxed = λ _ _ _ m _. refl;
    done = λ slots sound root viewport brought. record {
      settled = λ x m inputs among _ _. absurd (none_has x (ap (λ ys. has ys x) (sym empty) ∙ among));
      ticks = λ wanted same. omega arith;
      sound = sound;
    };
  }

  module _ (first : ℕ → Slot) (begun : ℕ) where
    -- nothing in a child that isn't displayed has a box
    pub inside_hidden : (now : ℕ → Slot) (xs more : List ℕ) (x steps : ℕ) → has (kids_of (at n)) x ≡ true → more ≡ xs ++ x ∷ [] → (at x).item.style.hidden ≡ true
        → Inside at n outside count first now xs begun steps → Inside at n outside count first now more begun steps
    inside_hidden now xs more x steps kid longer hidden going = record {
      own = going.own;
      framed = going.framed;
      unboxed = going.unboxed;
      done = λ slots sound root viewport brought.
          let was = going.done slots sound root viewport brought in
          record {
            settled = λ c m inputs among inside boxed. elim (has_end x c xs (ap (λ ys. has ys c) (sym longer) ∙ among)) [
              | inl ahead ↦ was.settled c m inputs ahead inside boxed
              | inr same ↦
                  let own = over at shaped shallow root viewport x m inputs (subst (λ k. is_in_path at k m ≡ true) same inside) boxed in
                  absurd (false≢true (sym (under at shaped shallow root viewport n x _ (shaped.parents n x kid) own).shown.shown ∙ hidden))
            ];
            ticks = was.ticks;
            sound = was.sound;
          };
    }

    -- a displayed child: it is entered, and the walk was in it
    module _ (x : ℕ) (kid : has (kids_of (at n)) x ≡ true) (shown : (at x).item.style.hidden ≡ false)
        (old mid new : ℕ → Slot) (xs more : List ℕ) (steps later last : ℕ)
        (ahead : xs ≡ before x (kids_of (at n))) (longer : more ≡ before x (kids_of (at n)) ++ x ∷ [])
        (entered : IsEntered at x outside count old mid steps later) (within : Outside) (carried : IsBroughtTo at x outside within mid)
        (inner : IsRefreshedInside at x within count mid new later last)
        (going : Inside at n outside count first old xs begun steps) where
      child : IsShownIn at n x
      child = record { listed = kid; shown = shown }

      up : (at x).parent ≡ Some n
      up = shaped.parents n x kid

      all_framed : IsFramed at x old new
      all_framed m off = inner.framed m off ∙ entered.framed m off

      off_n : is_in_path at x n ≡ false
      off_n = off_parent at shallow shaped n x kid

      -- what is settled in a child ahead of it stays so
      earlier : (c m : ℕ) (inputs : Inputs) → has (before x (kids_of (at n))) c ≡ true → is_in_path at c m ≡ true → IsSettled (old m) inputs → IsSettled (new m) inputs
      earlier c m inputs among inside settled =
          let apart : c ≢ x = λ same. false≢true (sym (before_self x (kids_of (at n))) ∙ ap (has (before x (kids_of (at n)))) (sym same) ∙ among) in
          subst (λ s. IsSettled s inputs) (sym (all_framed m (apart_kids at shallow shaped n x kid c m (before_has x c (kids_of (at n)) among) apart inside))) settled

      pub inside_shown : Inside at n outside count first new more begun last
      inside_shown = record {
        own = all_framed n off_n ∙ going.own;
        framed = λ m off. all_framed m (outside_kid at shallow shaped n x kid m off) ∙ going.framed m off;
        unboxed = λ boxed down own m none.
            let has_box = down n x child own in
            inner.unboxed boxed down has_box m none ∙ entered.unboxed boxed down has_box m none ∙ going.unboxed boxed down own m none;
        done = λ slots sound root viewport brought.
            let was = going.done slots sound root viewport brought in
            let kid_slots : HasSlots at x count = λ m inside. slots m (in_path_of_parent at shallow n x m up inside) in
            let here : IsOutsideOf at root viewport n outside old = record {
              inputs = brought.inputs;
              boxed = brought.boxed;
              settled = subst (λ s. IsSettled s brought.inputs) (sym going.own) brought.settled;
              absolute = brought.absolute;
              fixed = brought.fixed;
            } in
            let it = entered.done kid_slots was.sound root viewport n child here in
            let deep = inner.done kid_slots it.sound root viewport (brought_on at shaped linked shallow x outside count root viewport n child old mid steps later here it within carried) in
            record {
              settled = λ c m inputs among inside boxed. elim (has_end x c (before x (kids_of (at n))) (ap (λ ys. has ys c) (sym longer) ∙ among)) [
                | inl front ↦ earlier c m inputs front inside (was.settled c m inputs (ap (λ ys. has ys c) ahead ∙ front) inside boxed)
                | inr same ↦ deep.settled m inputs (subst (λ k. is_in_path at k m ≡ true) same inside) boxed
              ];
              ticks = λ wanted same.
                  let kid_same : (m : ℕ) → is_in_path at x m ≡ true → wanted m ≡ inputs_in at root viewport m = λ m inside. same m (in_path_of_parent at shallow n x m up inside) in
                  let one = was.ticks wanted same in
                  let two = it.ticks wanted kid_same in
                  let three = deep.ticks wanted kid_same in
                  omega arith;
              sound = deep.sound;
            };
      }

    -- all children are passed
    pub inside_ends : (now : ℕ → Slot) (xs : List ℕ) (steps : ℕ) → xs ≡ kids_of (at n) → Inside at n outside count first now xs begun steps
        → IsRefreshedInside at n outside count first now begun steps
    inside_ends now xs steps whole going = record {
      own = going.own;
      framed = going.framed;
      unboxed = going.unboxed;
      done = λ slots sound root viewport brought.
          let was = going.done slots sound root viewport brought in
          record {
            settled = λ m inputs inside boxed. elim (decide m n) [
              | inl same ↦
                  subst (λ k. IsSettled (now k) inputs) (sym same)
                  (subst (λ s. IsSettled s inputs) (sym going.own)
                  (subst (IsSettled (first n)) (some_same (inputs_in at root viewport n) brought.inputs inputs brought.boxed (subst (λ k. inputs_in at root viewport k ≡ Some inputs) same boxed)) brought.settled))
              | inr other ↦
                  let met = some_kid at shallow shaped n m inside other in
                  let own = over at shaped shallow root viewport met.0 m inputs met.2 boxed in
                  was.settled met.0 m inputs (ap (λ ys. has ys met.0) whole ∙ (under at shaped shallow root viewport n met.0 _ met.1 own).shown.listed) met.2 boxed
            ];
            ticks = was.ticks;
            sound = was.sound;
          };
    }

pub inside_like : (at : ℕ → Node) (n : ℕ) (outside : Outside) (count : ℕ) (first now new : ℕ → Slot) (xs : List ℕ) (begun steps later : ℕ) → new ≡ now → later ≡ steps
    → Inside at n outside count first now xs begun steps → Inside at n outside count first new xs begun later
inside_like at n outside count first now new xs begun steps later slots ticks going =
    subst (λ s. Inside at n outside count first s xs begun later) (sym slots)
    (subst (λ k. Inside at n outside count first now xs begun k) (sym ticks) going)

-- what calls in a child did, by how many slots the node knows of
pub entered_as : (at : ℕ → Node) (x : ℕ) (outside : Outside) (length count : ℕ) (old new : ℕ → Slot) (before after : ℕ) → length ≡ count
    → IsEntered at x outside length old new before after → IsEntered at x outside count old new before after
entered_as at x outside length count old new before after same done = subst (λ k. IsEntered at x outside k old new before after) same done

pub inside_as : (at : ℕ → Node) (x : ℕ) (outside : Outside) (length count : ℕ) (old new : ℕ → Slot) (before after : ℕ) → length ≡ count
    → IsRefreshedInside at x outside length old new before after → IsRefreshedInside at x outside count old new before after
inside_as at x outside length count old new before after same done = subst (λ k. IsRefreshedInside at x outside k old new before after) same done
