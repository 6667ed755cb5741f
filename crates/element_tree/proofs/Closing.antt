-- A tree's fields still belong together after an edit, and show the edited forest.
use Rattle.std.proofs.Common.{◌≡◌, ℕ, ◌+◌, ◌≤◌, ◌<◌, ◌&&◌, List, [], ◌∷◌, ◌++◌, length, length-append, Option, Some, None, option_map, Bool, true, false, cond, nat_eq, nat_le, refl, sym, ap, subst, ◌∙◌, arith, inl, inr, IsSome, zero, suc, eqb-true, get_or, set, is_some, slice_get}
use Rattle.std.specs.List.{count_by}
use Rattle.std.proofs.lemmas.Bool.{cases_Bool}
use Rattle.std.proofs.lemmas.Bool.Decides.{nat_tests}
use Rattle.std.proofs.lemmas.Option.{none-some}
use Rattle.std.proofs.lemmas.List.Sums.{sum_by-set}
use Rattle.std.specs.Option.{ForSome}
use Rattle.slab.specs.Slab.{Slab, get, slab_len, Updates, with_value}
use Rattle.element_tree.specs.declared.node.NodeId.{NodeId}
use Rattle.element_tree.specs.declared.node.Links.{Links}
use Rattle.element_tree.specs.declared.node.Entry.{Entry}
use Rattle.element_tree.specs.Forest.{Knot, Forest, has, names, children_of, depth, height, is_ancestor, most_levels}
use Rattle.element_tree.specs.Edits.{removed, inserted, with_nodes, lone, change_at, with_payload}
use Rattle.element_tree.specs.Links.{node_id, node_ids, number, links_at, links_in, payload_at, no_links, nodes_of, is_ready, unlinked, linked, Stands, IsSound, IsRelinked, IsClosed, IsMark}
use Rattle.element_tree.proofs.Levels.{some_names}
use Rattle.element_tree.proofs.Standing.{nodes_at, IsSound-from}
use Rattle.element_tree.proofs.Moves.{Stands-removed, Stands-attached, removed_length, alone_removed, others_removed, there, IsClosed-from}
use Rattle.element_tree.proofs.Nodes.{length-attached, length-changed, parent_within}
use Rattle.element_tree.proofs.Same.{Stands-kept, Stands-empty, Stands-added, Stands-repaid}
use Rattle.element_tree.proofs.Closed.{still_there}
use Rattle.element_tree.proofs.Joins.{field-cond}

pub ids_back : (o : Option NodeId) → node_ids (option_map number o) ≡ o
ids_back None = refl
ids_back (Some n) = refl

module _ {P : Type 0} where
  abbrev pub seen : Slab (Entry P) → ℕ → ℕ → ℕ → Forest P
  seen slots count most_nodes most_depth = record { nodes = nodes_of slots count; most_nodes = most_nodes; most_depth = most_depth; ready = is_ready slots count }

  ready_still : {old new : Slab (Entry P)} {t : ℕ → Links} (count : ℕ) → IsRelinked old new t → is_ready new count ≡ is_ready old count
  ready_still {old} {new} count moved =
      ap (λ k. nat_eq k count && nat_le (slab_len new + 1) (new.capacity)) moved.vacant_key
      ∙ ap (λ k. nat_eq (old.vacant_key) count && nat_le (k + 1) (new.capacity)) moved.len
      ∙ ap (λ k. nat_eq (old.vacant_key) count && nat_le (slab_len old + 1) k) moved.capacity

  seen_as : (nodes edited : List (Knot P)) (a b : ℕ) (r s : Bool) → nodes ≡ edited → r ≡ s
      → ◌≡◌ {A = Forest P} (record { nodes = nodes; most_nodes = a; most_depth = b; ready = r }) (record { nodes = edited; most_nodes = a; most_depth = b; ready = s })
  seen_as nodes edited a b r s e f =
      let made : List (Knot P) → Bool → Forest P = λ xs q. record { nodes = xs; most_nodes = a; most_depth = b; ready = q } in
      ap (λ xs. made xs r) e ∙ ap (λ q. made edited q) f

module _ {P : Type 0} {slots new : Slab (Entry P)} {count most_nodes most_depth : ℕ} (sound : IsSound slots count most_nodes most_depth)
    (n : ℕ) (n_in : n < length (nodes_of slots count)) (moved : IsRelinked slots new (unlinked (links_at slots) n)) where
  after_removal : Stands most_depth new (removed n (nodes_of slots count))
  after_removal = Stands-removed sound.stands n n_in moved

  length_after : length (removed n (nodes_of slots count)) ≡ count
  length_after = removed_length sound.stands n n_in ∙ sound.counted

  pub IsSound-removed : IsSound new count most_nodes most_depth
  IsSound-removed = IsSound-from after_removal count most_nodes length_after sound.within

  pub seen-removed : (f : Forest P) → seen slots count most_nodes most_depth ≡ f → seen new count most_nodes most_depth ≡ with_nodes (removed n) f
  seen-removed f e =
      seen_as _ _ most_nodes most_depth _ _ (nodes_at after_removal count length_after) (ready_still count moved)
      ∙ ap (with_nodes (removed n)) e

module _ {P : Type 0} {slots middle : Slab (Entry P)} {count most_nodes most_depth : ℕ} (sound : IsSound slots count most_nodes most_depth)
    (p n : ℕ) (mark : Option NodeId) (n_in : n < length (nodes_of slots count)) (p_in : p < length (nodes_of slots count))
    (apart : is_ancestor (nodes_of slots count) n p ≡ false)
    (fits : depth (nodes_of slots count) p + height (nodes_of slots count) n ≤ most_depth)
    (marks : ForSome mark (λ s. IsMark (nodes_of slots count) p n (s.0)))
    (taken : IsRelinked slots middle (unlinked (links_at slots) n)) where
  half : Stands most_depth middle (removed n (nodes_of slots count))
  half = Stands-removed sound.stands n n_in taken

  marked : (s : ℕ) → option_map number mark ≡ Some s → has (children_of (removed n (nodes_of slots count)) p) s ≡ true
  marked s e =
      let m = marks (node_id s) (sym (ids_back mark) ∙ ap node_ids e) in
      half.forest.listed p s ∙ ap (λ o. names o p) (others_removed sound.stands n n_in s m.other ∙ m.child) ∙ some_names _ p refl

module _ {P : Type 0} {slots middle new : Slab (Entry P)} {count most_nodes most_depth : ℕ} (sound : IsSound slots count most_nodes most_depth)
    (p n : ℕ) (mark : Option NodeId) (n_in : n < length (nodes_of slots count)) (p_in : p < length (nodes_of slots count))
    (apart : is_ancestor (nodes_of slots count) n p ≡ false)
    (fits : depth (nodes_of slots count) p + height (nodes_of slots count) n ≤ most_depth)
    (marks : ForSome mark (λ s. IsMark (nodes_of slots count) p n (s.0)))
    (taken : IsRelinked slots middle (unlinked (links_at slots) n))
    (moved : IsRelinked middle new (linked (links_at middle) p n mark)) where
  whole : Stands most_depth new (inserted p n (option_map number mark) (nodes_of slots count))
  whole =
      let long = removed_length sound.stands n n_in in
      Stands-attached (half sound p n mark n_in p_in apart fits marks taken) (nodes_of slots count) sound.stands.forest p n (option_map number mark)
      (subst (λ k. n < k) (sym long) n_in) (subst (λ k. p < k) (sym long) p_in)
      (alone_removed sound.stands n n_in) (others_removed sound.stands n n_in) apart fits (marked sound p n mark n_in p_in apart fits marks taken)
      (subst (λ (o : Option NodeId). IsRelinked middle new (linked (links_at middle) p n o)) (sym (ids_back mark)) moved)

  length_whole : length (inserted p n (option_map number mark) (nodes_of slots count)) ≡ count
  length_whole =
      let long = removed_length sound.stands n n_in in
      length-attached (removed n (nodes_of slots count)) p n (option_map number mark)
      (subst (λ k. n < k) (sym long) n_in) (subst (λ k. p < k) (sym long) p_in)
      ∙ long ∙ sound.counted

  pub IsSound-inserted : IsSound new count most_nodes most_depth
  IsSound-inserted = IsSound-from whole count most_nodes length_whole sound.within

  pub seen-inserted : (f : Forest P) → seen slots count most_nodes most_depth ≡ f → seen new count most_nodes most_depth ≡ with_nodes (inserted p n (option_map number mark)) f
  seen-inserted f e =
      seen_as _ _ most_nodes most_depth _ _ (nodes_at whole count length_whole) (ready_still count moved ∙ ready_still count taken)
      ∙ ap (with_nodes (inserted p n (option_map number mark))) e

module _ {P : Type 0} (new : Slab (Entry P)) {slots : Slab (Entry P)} {count most_nodes most_depth : ℕ} (sound : IsSound slots count most_nodes most_depth)
    (same : new.slots ≡ slots.slots) where
  after_room : Stands most_depth new (nodes_of slots count)
  after_room = Stands-kept same sound.stands

  pub IsSound-kept : IsSound new count most_nodes most_depth
  IsSound-kept = IsSound-from after_room count most_nodes sound.counted sound.within

  pub seen-kept : (f : Forest P) → seen slots count most_nodes most_depth ≡ f → seen new count most_nodes most_depth ≡ record f { ready = is_ready new count }
  seen-kept f e =
      let made : Forest P → Forest P = λ f. record f { ready = is_ready new count } in
      seen_as _ _ most_nodes most_depth _ _ (nodes_at after_room count sound.counted) refl ∙ ap made e

module _ {P : Type 0} (slots : Slab (Entry P)) (most_nodes most_depth : ℕ) (empty : slots.slots ≡ []) (low : 1 ≤ most_depth) (high : most_depth ≤ most_levels) where
  pub IsSound-empty : IsSound slots 0 most_nodes most_depth
  IsSound-empty = IsSound-from (Stands-empty slots empty low high) 0 most_nodes refl (omega arith)

  pub nodes-empty : nodes_of slots 0 ≡ []
  nodes-empty = nodes_at (Stands-empty slots empty low high) 0 refl

module _ {P : Type 0} {first slots new : Slab (Entry P)} {count most_nodes most_depth : ℕ} (sound : IsSound first count most_nodes most_depth)
    (same : slots.slots ≡ first.slots) (payload : P) (links : Links) (detached : links ≡ no_links) (key : ℕ) (at : key ≡ count) (vacant : get slots key ≡ None)
    (put : Updates slots new key (Some (record { payload = payload; links = links }))) (room : count < most_nodes) where
  before_add : Stands most_depth slots (nodes_of first count)
  before_add = Stands-kept same sound.stands

  at_end : key ≡ length (nodes_of first count)
  at_end = at ∙ sym sound.counted

  after_add : Stands most_depth new (nodes_of first count ++ lone payload ∷ [])
  after_add =
      Stands-added payload before_add (subst (λ k. get slots k ≡ None) at_end vacant)
      (subst (λ k. Updates slots new k (Some (record { payload = payload; links = no_links }))) at_end
      (subst (λ (l : Links). Updates slots new key (Some (record { payload = payload; links = l }))) detached put))

  length_add : length (nodes_of first count ++ lone payload ∷ []) ≡ count + 1
  length_add = length-append (nodes_of first count) (lone payload ∷ []) ∙ omega (arith, sound.counted)

  pub IsSound-added : IsSound new (count + 1) most_nodes most_depth
  IsSound-added = IsSound-from after_add (count + 1) most_nodes length_add (omega arith)

  pub seen-added : (f : Forest P) → seen first count most_nodes most_depth ≡ f
      → seen new (count + 1) most_nodes most_depth ≡ record f { nodes = f.nodes ++ lone payload ∷ []; ready = is_ready new (count + 1) }
  seen-added f e =
      let made : Forest P → Forest P = λ f. record f { nodes = f.nodes ++ lone payload ∷ []; ready = is_ready new (count + 1) } in
      seen_as _ _ most_nodes most_depth _ _ (nodes_at after_add (count + 1) length_add) refl ∙ ap made e

-- a payload is written in the slab
slot_written : {E : Type 0} (xs : List (Option E)) (n m : ℕ) (old v : E) → get_or xs n None ≡ Some old → get_or (set xs n (Some v)) m None ≡ cond (nat_eq m n) (Some v) (get_or xs m None)
slot_written [] n m old v h = absurd (none-some old h)
slot_written (x ∷ xs) zero zero old v h = refl
slot_written (x ∷ xs) zero (suc m) old v h = let e : nat_eq (suc m) 0 ≡ false = grind (arith, nat_tests) in rw e
slot_written (x ∷ xs) (suc n) zero old v h = let e : nat_eq 0 (suc n) ≡ false = grind (arith, nat_tests) in rw e
slot_written (x ∷ xs) (suc n) (suc m) old v h = let e : nat_eq (suc m) (suc n) ≡ nat_eq m n = grind (arith, nat_tests) in rw e (slot_written xs n m old v h)

slot_inside : {E : Type 0} (xs : List (Option E)) (n : ℕ) (old : E) → get_or xs n None ≡ Some old → n < length xs
slot_inside [] n old h = absurd (none-some old h)
slot_inside (x ∷ xs) zero old h = omega arith
slot_inside (x ∷ xs) (suc n) old h = let r = slot_inside xs n old h in omega arith

count_written : {E : Type 0} (xs : List (Option E)) (n : ℕ) (old v : E) → get_or xs n None ≡ Some old → count_by is_some (set xs n (Some v)) ≡ count_by is_some xs
count_written {E} xs n old v h =
    let weight : Option E → ℕ = λ x. cond (is_some x) 1 0 in
    let had : weight (get_or xs n None) ≡ 1 = ap weight h in
    omega (arith, had, sum_by-set weight xs n (Some v) None (slot_inside xs n old h))

module _ {P : Type 0} {slots : Slab (Entry P)} {count most_nodes most_depth : ℕ} (sound : IsSound slots count most_nodes most_depth)
    (f : Forest P) (shows : seen slots count most_nodes most_depth ≡ f)
    (n : ℕ) (n_in : n < length f.nodes) (old : Entry P) (there : get slots n ≡ Some old) where
  n_inside : n < length (nodes_of slots count)
  n_inside = subst (λ (f : Forest P). n < length f.nodes) (sym shows) n_in

  written : P → Slab (Entry P)
  written w = with_value slots n (record { payload = w; links = old.links })

  slot : (w : P) (m : ℕ) → get (with_value slots n (record { payload = w; links = old.links })) m ≡ cond (nat_eq m n) (Some (record { payload = w; links = old.links })) (get slots m)
  slot w m = slot_written (slots.slots) n m old (record { payload = w; links = old.links }) there

  payloads_written : (w : P) (m : ℕ) → payload_at (with_value slots n (record { payload = w; links = old.links })) m ≡ cond (nat_eq m n) (Some w) (payload_at slots m)
  payloads_written w m =
      ap (option_map (λ (e : Entry P). e.payload)) (slot w m)
      ∙ field-cond (option_map (λ (e : Entry P). e.payload)) (nat_eq m n) (Some (record { payload = w; links = old.links })) (get slots m)

  links_written : (w : P) (m : ℕ) → links_at (with_value slots n (record { payload = w; links = old.links })) m ≡ links_at slots m
  links_written w m =
      ap links_in (slot w m)
      ∙ elim (cases_Bool (nat_eq m n)) as (λ _. links_in (cond (nat_eq m n) (Some (record { payload = w; links = old.links })) (get slots m)) ≡ links_at slots m) [
        | inl e ↦ rw e (sym (ap (λ k. links_at slots k) (eqb-true m n e) ∙ ap links_in there))
        | inr e ↦ rw e
      ]

  after_write : (w : P) → Stands most_depth (with_value slots n (record { payload = w; links = old.links })) (change_at (with_payload w) n (nodes_of slots count))
  after_write w = Stands-repaid w n n_inside sound.stands (payloads_written w) (links_written w)

  still_as_long : (w : P) → length (change_at (with_payload w) n (nodes_of slots count)) ≡ count
  still_as_long w = length-changed (with_payload w) n (nodes_of slots count) ∙ sound.counted

  pub IsSound-written : (w : P) → IsSound (with_value slots n (record { payload = w; links = old.links })) count most_nodes most_depth
  IsSound-written w = IsSound-from (after_write w) count most_nodes (still_as_long w) sound.within

  pub seen-written : (w : P) → seen (with_value slots n (record { payload = w; links = old.links })) count most_nodes most_depth ≡ with_nodes (change_at (with_payload w) n) f
  seen-written w =
      seen_as _ _ most_nodes most_depth _ _ (nodes_at (after_write w) count (still_as_long w))
      (ap (λ k. nat_eq (slots.vacant_key) count && nat_le (k + 1) (slots.capacity)) (count_written (slots.slots) n old (record { payload = w; links = old.links }) there))
      ∙ ap (with_nodes (change_at (with_payload w) n)) shows

  pub payload_seen : option_map (λ k. k.payload) (slice_get f.nodes n) ≡ Some (old.payload)
  payload_seen =
      sym (ap (λ (f : Forest P). option_map (λ k. k.payload) (slice_get f.nodes n)) shows) ∙ sym (sound.stands.payloads n)
      ∙ ap (option_map (λ (e : Entry P). e.payload)) there

-- the same, where the facts are said of the forest that the tree is seen as
module _ {P : Type 0} {slots middle : Slab (Entry P)} {count most_nodes most_depth : ℕ} (sound : IsSound slots count most_nodes most_depth)
    (f : Forest P) (shows : seen slots count most_nodes most_depth ≡ f)
    (p n : ℕ) (mark : Option NodeId) (n_in : n < length f.nodes) (p_in : p < length f.nodes)
    (apart : is_ancestor f.nodes n p ≡ false) (fits : depth f.nodes p + height f.nodes n ≤ f.most_depth)
    (marks : ForSome mark (λ s. IsMark f.nodes p n (s.0)))
    (taken : IsRelinked slots middle (unlinked (links_at slots) n)) where
  pub n_within : n < length (nodes_of slots count)
  n_within = subst (λ (f : Forest P). n < length f.nodes) (sym shows) n_in

  pub p_within : p < length (nodes_of slots count)
  p_within = subst (λ (f : Forest P). p < length f.nodes) (sym shows) p_in

  apart_within : is_ancestor (nodes_of slots count) n p ≡ false
  apart_within = subst (λ (f : Forest P). is_ancestor f.nodes n p ≡ false) (sym shows) apart

  fits_within : depth (nodes_of slots count) p + height (nodes_of slots count) n ≤ most_depth
  fits_within = subst (λ (f : Forest P). depth f.nodes p + height f.nodes n ≤ f.most_depth) (sym shows) fits

  marks_within : ForSome mark (λ s. IsMark (nodes_of slots count) p n (s.0))
  marks_within = subst (λ (f : Forest P). ForSome mark (λ s. IsMark f.nodes p n (s.0))) (sym shows) marks

  pub closed_middle : IsClosed middle
  closed_middle = IsClosed-from (half sound p n mark n_within p_within apart_within fits_within marks_within taken)

  pub parent_there : IsSome (payload_at middle p)
  parent_there = still_there p taken (there sound.stands p p_within)

  pub node_there : IsSome (payload_at middle n)
  node_there = still_there n taken (there sound.stands n n_within)

  pub mark_there : ForSome mark (λ s. IsSome (payload_at middle (s.0)))
  mark_there s e = still_there (s.0) taken (there sound.stands (s.0) (parent_within _ _ p (marks_within s e).child))

  pub IsSound-placed : {new : Slab (Entry P)} → IsRelinked middle new (linked (links_at middle) p n mark) → IsSound new count most_nodes most_depth
  IsSound-placed moved = IsSound-inserted sound p n mark n_within p_within apart_within fits_within marks_within taken moved

  pub seen-placed : {new : Slab (Entry P)} → IsRelinked middle new (linked (links_at middle) p n mark) → seen new count most_nodes most_depth ≡ with_nodes (inserted p n (option_map number mark)) f
  seen-placed moved = seen-inserted sound p n mark n_within p_within apart_within fits_within marks_within taken moved f shows

pub same_count : {P : Type 0} {slots new : Slab (Entry P)} {count most_nodes most_depth : ℕ}
    → IsSound slots count most_nodes most_depth → IsSound new count most_nodes most_depth
    → (f : Forest P) → seen slots count most_nodes most_depth ≡ f → length (nodes_of new count) ≡ length f.nodes
same_count {P} sound again f shows = again.counted ∙ sym sound.counted ∙ ap (λ (f : Forest P). length f.nodes) shows
