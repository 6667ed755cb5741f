-- How the links of the nodes represent lists of children.
use Rattle.std.specs.Prelude.{◌≡◌, ℕ, zero, suc, ◌+◌, ◌≤◌, Bool, ◌&&◌, ◌==◌, nat_eq, nat_le, false, cond, List, [], ◌∷◌, length, Option, Some, None, option_map, slice_get, IsSome, filter_map}
use Rattle.std.specs.List.{range_with_len}
use Rattle.std.specs.Option.{ForSome}
use Rattle.slab.specs.Slab.{Slab, get, slab_len}
use Rattle.element_tree.specs.declared.node.NodeId.{NodeId}
use Rattle.element_tree.specs.declared.node.Links.{Links}
use Rattle.element_tree.specs.declared.node.Entry.{Entry}
use Rattle.element_tree.specs.Forest.{Knot, first_of, last_of, next_of, previous_of, parent_of, children_of, siblings_of, IsForest}

abbrev pub node_id : ℕ → NodeId
node_id n = record { 0 = n }

abbrev pub number : NodeId → ℕ
number n = n.0

abbrev pub node_ids : Option ℕ → Option NodeId
node_ids o = option_map node_id o

-- the links of a node that has no parent and no child
abbrev pub no_links : Links
no_links = record { parent = None; first = None; last = None; next = None; previous = None }

-- the links with those of one node replaced
abbrev pub put : (ℕ → Links) → ℕ → Links → ℕ → Links
put t k links m = cond (m == k) links (t m)

-- the links after `node` was made the next sibling of the previous one, or the parent's first child if there is no previous one
abbrev pub following : (ℕ → Links) → ℕ → Option NodeId → Option NodeId → ℕ → Links
following t p None node = put t p (record (t p) { first = node })
following t p (Some q) node = put t q.0 (record (t q.0) { next = node })

-- the links after `node` was made the previous sibling of the next one, or the parent's last child if there is no next one
abbrev pub leading : (ℕ → Links) → ℕ → Option NodeId → Option NodeId → ℕ → Links
leading t p None node = put t p (record (t p) { last = node })
leading t p (Some s) node = put t s.0 (record (t s.0) { previous = node })

abbrev pub unlinked_from : Option NodeId → ℕ → (ℕ → Links) → ℕ → Links
unlinked_from None n t = t
unlinked_from (Some p) n t =
    let joined = leading (following t p.0 (t n).previous (t n).next) p.0 (t n).next (t n).previous in
    put joined n (record (joined n) { parent = None; next = None; previous = None })

-- the links after a node was removed from its parent
abbrev pub unlinked : (ℕ → Links) → ℕ → ℕ → Links
unlinked t n = unlinked_from (t n).parent n t

-- the previous sibling of a node that is inserted before the marked one, or as the last child if none is marked
abbrev pub previous_at : (ℕ → Links) → ℕ → Option NodeId → Option NodeId
previous_at t p None = (t p).last
previous_at t p (Some s) = (t s.0).previous

-- the links after a node became a child of a parent, before the marked one or as the last
abbrev pub linked : (ℕ → Links) → ℕ → ℕ → Option NodeId → ℕ → Links
linked t p n mark =
    let joined = leading (following t p (previous_at t p mark) (Some (node_id n))) p mark (Some (node_id n)) in
    put joined n (record (joined n) { parent = Some (node_id p); next = mark; previous = previous_at t p mark })

module _ {P : Type 0} where
  abbrev pub links_in : Option (Entry P) → Links
  links_in None = no_links
  links_in (Some e) = e.links

  abbrev pub links_at : Slab (Entry P) → ℕ → Links
  links_at slots n = links_in (get slots n)

  abbrev pub payload_at : Slab (Entry P) → ℕ → Option P
  payload_at slots n = option_map (λ e. e.payload) (get slots n)

  -- the slab has these links, and the same payloads and room as before
  pub record IsRelinked (old new : Slab (Entry P)) (t : ℕ → Links) : Type 0 where
    pub links : (m : ℕ) → links_at new m ≡ t m
    pub payloads : (m : ℕ) → payload_at new m ≡ payload_at old m
    pub len : slab_len new ≡ slab_len old
    pub vacant_key : new.vacant_key ≡ old.vacant_key
    pub capacity : new.capacity ≡ old.capacity

  -- each link of the node leads to a node of the slab
  pub record IsClosedAt (slots : Slab (Entry P)) (links : Links) : Type 0 where
    pub parent : ForSome links.parent (λ n. IsSome (payload_at slots n.0))
    pub first : ForSome links.first (λ n. IsSome (payload_at slots n.0))
    pub last : ForSome links.last (λ n. IsSome (payload_at slots n.0))
    pub next : ForSome links.next (λ n. IsSome (payload_at slots n.0))
    pub previous : ForSome links.previous (λ n. IsSome (payload_at slots n.0))

  abbrev pub IsClosed : Slab (Entry P) → Type 0
  IsClosed slots = (n : ℕ) → IsClosedAt slots (links_at slots n)

  abbrev pub walked : (Option NodeId → List ℕ) → Slab (Entry P) → Option NodeId → List ℕ
  walked walk slots None = []
  walked walk slots (Some n) = n.0 ∷ walk (links_at slots n.0).next

  -- the nodes from one on along the next siblings, at most a given number of them
  unfoldable pub walk : ℕ → Slab (Entry P) → Option NodeId → List ℕ
  walk zero slots from = []
  walk (suc most) slots from = walked (walk most slots) slots from

  abbrev pub knot_of : ℕ → Slab (Entry P) → Entry P → Knot P
  knot_of most slots e = record {
    payload = e.payload;
    parent = option_map number (e.links.parent);
    children = walk most slots (e.links.first);
  }

  -- the list of nodes that the slab represents
  unfoldable pub nodes_of : Slab (Entry P) → ℕ → List (Knot P)
  nodes_of slots count =
      filter_map (λ k. option_map (knot_of count slots) (get slots k)) (range_with_len 0 count)

  -- whether the next node gets the key `count`, and there is room for it
  abbrev pub is_ready : Slab (Entry P) → ℕ → Bool
  is_ready slots count = (slots.vacant_key == count) && nat_le (slab_len slots + 1) slots.capacity

  -- the links of a node agree with the lists of children
  pub record IsLinkedIn (nodes : List (Knot P)) (links : Links) (n : ℕ) : Type 0 where
    pub parent : links.parent ≡ node_ids (parent_of nodes n)
    pub first : links.first ≡ node_ids (first_of (children_of nodes n))
    pub last : links.last ≡ node_ids (last_of (children_of nodes n))
    pub next : links.next ≡ node_ids (next_of n (siblings_of nodes n))
    pub previous : links.previous ≡ node_ids (previous_of n (siblings_of nodes n))

  -- the slab represents this forest
  pub record Stands (most_depth : ℕ) (slots : Slab (Entry P)) (nodes : List (Knot P)) : Type 0 where
    pub payloads : (n : ℕ) → payload_at slots n ≡ option_map (λ k. k.payload) (slice_get nodes n)
    pub links : (n : ℕ) → IsLinkedIn nodes (links_at slots n) n
    pub forest : IsForest most_depth nodes

  -- the slab and the counts of a tree agree
  pub record IsSound (slots : Slab (Entry P)) (count most_nodes most_depth : ℕ) : Type 0 where
    pub stands : Stands most_depth slots (nodes_of slots count)
    pub counted : length (nodes_of slots count) ≡ count
    pub within : count ≤ most_nodes

  -- a child of the parent, other than the node, before which the node can be inserted
  pub record IsMark (nodes : List (Knot P)) (p n s : ℕ) : Type 0 where
    pub child : parent_of nodes s ≡ Some p
    pub other : nat_eq s n ≡ false
