-- Another list of nodes with the same parents and children.
use Rattle.std.proofs.Common.{◌≡◌, ℕ, zero, suc, ◌+◌, ◌≤◌, ◌<◌, List, [], ◌∷◌, ◌++◌, length, Some, None, option_map, false, cond, nat_eq, get_or, refl, sym, ap, subst, ◌∙◌, arith, inl, inr, eqb-true, slice_get}
use Rattle.std.proofs.lemmas.Bool.{cases_Bool}
use Rattle.std.proofs.lemmas.Option.{none-some}
use Rattle.std.proofs.lemmas.Bool.Decides.{nat_tests}
use Rattle.slab.specs.Slab.{Slab, get, Updates}
use Rattle.element_tree.specs.declared.node.Links.{Links}
use Rattle.element_tree.specs.declared.node.Entry.{Entry}
use Rattle.element_tree.specs.Forest.{Knot, IsForest, IsOnce, has, names, parent_of, children_of, children_under, siblings_of, first_of, last_of, next_of, previous_of, depth, most_levels}
use Rattle.element_tree.specs.Edits.{lone, change_at, with_payload}
use Rattle.element_tree.specs.Links.{node_ids, links_at, links_in, payload_at, no_links, Stands, IsLinkedIn}
use Rattle.element_tree.proofs.Levels.{depth_is, low_enough, option_cases}
use Rattle.element_tree.proofs.Depths.{depth_one}

module _ {P : Type 0} (nodes nodes' : List (Knot P))
    (parents : (m : ℕ) → parent_of nodes' m ≡ parent_of nodes m) (children : (m : ℕ) → children_of nodes' m ≡ children_of nodes m) where
  same_siblings : (m : ℕ) → siblings_of nodes' m ≡ siblings_of nodes m
  same_siblings m =
      ap (children_under nodes') (parents m)
      ∙ elim (option_cases (parent_of nodes m)) as (λ _. children_under nodes' (parent_of nodes m) ≡ children_under nodes (parent_of nodes m)) [
        | inl e ↦ rw e
        | inr q ↦ rw q.1 (children q.0)
      ]

  pub IsLinkedIn-same : (l : Links) (m : ℕ) → IsLinkedIn nodes l m → IsLinkedIn nodes' l m
  IsLinkedIn-same l m h = record {
    parent = h.parent ∙ sym (ap node_ids (parents m));
    first = h.first ∙ sym (ap (λ xs. node_ids (first_of xs)) (children m));
    last = h.last ∙ sym (ap (λ xs. node_ids (last_of xs)) (children m));
    next = h.next ∙ sym (ap (λ xs. node_ids (next_of m xs)) (same_siblings m));
    previous = h.previous ∙ sym (ap (λ xs. node_ids (previous_of m xs)) (same_siblings m));
  }

module _ {P : Type 0} {most : ℕ} (nodes nodes' : List (Knot P))
    (parents : (m : ℕ) → parent_of nodes' m ≡ parent_of nodes m) (children : (m : ℕ) → children_of nodes' m ≡ children_of nodes m) where
  same_depth : IsForest most nodes → (n : ℕ) → depth nodes' n ≡ depth nodes n
  unfolding depth
  same_depth forest n =
      depth_is (parent_of nodes') (depth nodes) (λ m e. depth_one nodes m (sym (parents m) ∙ e))
      (λ c p e. forest.falls c p (sym (parents c) ∙ e)) 65536 n (low_enough forest n)

  pub IsForest-same : IsForest most nodes → IsForest most nodes'
  IsForest-same forest = record {
    listed = λ p c. ap (λ xs. has xs c) (children p) ∙ forest.listed p c ∙ sym (ap (λ o. names o p) (parents c));
    once = λ p. subst IsOnce (sym (children p)) (forest.once p);
    falls = λ c p e. same_depth forest c ∙ forest.falls c p (sym (parents c) ∙ e) ∙ sym (ap (λ k. k + 1) (same_depth forest p));
    within = λ n. omega (arith, same_depth forest n, forest.within n);
    levels = forest.levels;
  }

module _ {P : Type 0} where
  -- one more node
  parents_more : (xs : List (Knot P)) (payload : P) (m : ℕ) → parent_of (xs ++ lone payload ∷ []) m ≡ parent_of xs m
  parents_more [] payload zero = refl
  parents_more [] payload (suc m) = refl
  parents_more (x ∷ xs) payload zero = refl
  parents_more (x ∷ xs) payload (suc m) = parents_more xs payload m

  children_more : (xs : List (Knot P)) (payload : P) (m : ℕ) → children_of (xs ++ lone payload ∷ []) m ≡ children_of xs m
  children_more [] payload zero = refl
  children_more [] payload (suc m) = refl
  children_more (x ∷ xs) payload zero = refl
  children_more (x ∷ xs) payload (suc m) = children_more xs payload m

  get_more : (xs : List (Knot P)) (x : Knot P) (m : ℕ) → m ≡ length xs → slice_get (xs ++ x ∷ []) m ≡ Some x
  get_more [] x zero e = refl
  get_more [] x (suc m) e = absurd (omega arith)
  get_more (y ∷ xs) x zero e = absurd (omega arith)
  get_more (y ∷ xs) x (suc m) e = get_more xs x m (omega arith)

  get_before : (xs : List (Knot P)) (x : Knot P) (m : ℕ) → nat_eq m (length xs) ≡ false → slice_get (xs ++ x ∷ []) m ≡ slice_get xs m
  get_before [] x zero e = grind (arith, nat_tests)
  get_before [] x (suc m) e = refl
  get_before (y ∷ xs) x zero e = refl
  get_before (y ∷ xs) x (suc m) e = get_before xs x m (grind (arith, nat_tests))

  pub Stands-added : {most : ℕ} {slots new : Slab (Entry P)} {nodes : List (Knot P)} (payload : P) → Stands most slots nodes
      → get slots (length nodes) ≡ None → Updates slots new (length nodes) (Some (record { payload = payload; links = no_links }))
      → Stands most new (nodes ++ lone payload ∷ [])
  Stands-added {most} {slots} {new} {nodes} payload stands vacant put =
      let still : (m : ℕ) → nat_eq m (length nodes) ≡ false → get new m ≡ get slots m
      = λ m ne. put.others m (λ e. grind (arith, nat_tests)) in
      record {
        payloads = λ m. elim (cases_Bool (nat_eq m (length nodes))) [
          | inl y ↦
              ap (λ k. option_map (λ (e : Entry P). e.payload) (get new k)) (eqb-true m _ y)
              ∙ ap (option_map (λ (e : Entry P). e.payload)) put.changed
              ∙ sym (ap (option_map (λ (k : Knot P). k.payload)) (get_more nodes (lone payload) m (eqb-true m _ y)))
          | inr ne ↦
              ap (option_map (λ (e : Entry P). e.payload)) (still m ne) ∙ stands.payloads m
              ∙ sym (ap (option_map (λ (k : Knot P). k.payload)) (get_before nodes (lone payload) m ne))
        ];
        links = λ m. IsLinkedIn-same nodes _ (parents_more nodes payload) (children_more nodes payload) _ m
            (subst (λ (l : Links). IsLinkedIn nodes l m) (sym (elim (cases_Bool (nat_eq m (length nodes))) as (λ _. links_at new m ≡ links_at slots m) [
              | inl y ↦ ap (λ k. links_at new k) (eqb-true m _ y) ∙ ap links_in put.changed ∙ sym (ap (λ k. links_at slots k) (eqb-true m _ y) ∙ ap links_in vacant)
              | inr ne ↦ ap links_in (still m ne)
            ])) (stands.links m));
        forest = IsForest-same nodes _ (parents_more nodes payload) (children_more nodes payload) stands.forest;
      }

  pub Stands-empty : {most : ℕ} (slots : Slab (Entry P)) → slots.slots ≡ [] → 1 ≤ most → most ≤ most_levels → Stands most slots []
  Stands-empty slots e low high = record {
    payloads = λ m. ap (λ xs. option_map (λ (e : Entry P). e.payload) (get_or xs m None)) e;
    links = λ m. subst (λ (l : Links). IsLinkedIn {P = P} [] l m) (sym (ap (λ xs. links_in (get_or xs m None)) e))
        (record { parent = refl; first = refl; last = refl; next = refl; previous = refl });
    forest = record {
      listed = λ p c. refl;
      once = λ p. tt;
      falls = λ c p h. absurd (none-some p h);
      within = λ n. omega (arith, depth_one {P = P} [] n refl);
      levels = high;
    };
  }

  pub Stands-kept : {most : ℕ} {slots new : Slab (Entry P)} {nodes : List (Knot P)} → new.slots ≡ slots.slots → Stands most slots nodes → Stands most new nodes
  Stands-kept {most} {slots} {new} {nodes} e stands = record {
    payloads = λ m. ap (λ xs. option_map (λ (e : Entry P). e.payload) (get_or xs m None)) e ∙ stands.payloads m;
    links = λ m. subst (λ (l : Links). IsLinkedIn nodes l m) (sym (ap (λ xs. links_in (get_or xs m None)) e)) (stands.links m);
    forest = stands.forest;
  }

  payloads_changed : (w : P) (n : ℕ) (xs : List (Knot P)) (m : ℕ) → n < length xs
      → option_map (λ (k : Knot P). k.payload) (slice_get (change_at (with_payload w) n xs) m) ≡ cond (nat_eq m n) (Some w) (option_map (λ (k : Knot P). k.payload) (slice_get xs m))
  payloads_changed w n [] m h = absurd (omega arith)
  payloads_changed w zero (x ∷ xs) zero h = refl
  payloads_changed w zero (x ∷ xs) (suc m) h = let e : nat_eq (suc m) 0 ≡ false = grind (arith, nat_tests) in rw e
  payloads_changed w (suc n) (x ∷ xs) zero h = let e : nat_eq 0 (suc n) ≡ false = grind (arith, nat_tests) in rw e
  payloads_changed w (suc n) (x ∷ xs) (suc m) h = let e : nat_eq (suc m) (suc n) ≡ nat_eq m n = grind (arith, nat_tests) in rw e (payloads_changed w n xs m (omega arith))

  parents_same : (w : P) (n : ℕ) (xs : List (Knot P)) (m : ℕ) → parent_of (change_at (with_payload w) n xs) m ≡ parent_of xs m
  parents_same w n [] m = refl
  parents_same w zero (x ∷ xs) zero = refl
  parents_same w zero (x ∷ xs) (suc m) = refl
  parents_same w (suc n) (x ∷ xs) zero = refl
  parents_same w (suc n) (x ∷ xs) (suc m) = parents_same w n xs m

  children_same : (w : P) (n : ℕ) (xs : List (Knot P)) (m : ℕ) → children_of (change_at (with_payload w) n xs) m ≡ children_of xs m
  children_same w n [] m = refl
  children_same w zero (x ∷ xs) zero = refl
  children_same w zero (x ∷ xs) (suc m) = refl
  children_same w (suc n) (x ∷ xs) zero = refl
  children_same w (suc n) (x ∷ xs) (suc m) = children_same w n xs m

  -- one payload exchanged
  pub Stands-repaid : {most : ℕ} {slots new : Slab (Entry P)} {nodes : List (Knot P)} (w : P) (n : ℕ) → n < length nodes → Stands most slots nodes
      → ((m : ℕ) → payload_at new m ≡ cond (nat_eq m n) (Some w) (payload_at slots m)) → ((m : ℕ) → links_at new m ≡ links_at slots m)
      → Stands most new (change_at (with_payload w) n nodes)
  Stands-repaid {most} {slots} {new} {nodes} w n h stands payloads links = record {
    payloads = λ m. payloads m ∙ ap (cond (nat_eq m n) (Some w)) (stands.payloads m) ∙ sym (payloads_changed w n nodes m h);
    links = λ m. IsLinkedIn-same nodes _ (parents_same w n nodes) (children_same w n nodes) _ m (subst (λ (l : Links). IsLinkedIn nodes l m) (sym (links m)) (stands.links m));
    forest = IsForest-same nodes _ (parents_same w n nodes) (children_same w n nodes) stands.forest;
  }
