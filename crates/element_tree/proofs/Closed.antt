-- Every link leads to a node of the slab.
use Rattle.std.proofs.Common.{◌≡◌, ℕ, IsSome, Option, Some, None, sym, subst}
use Rattle.slab.specs.Slab.{Slab}
use Rattle.element_tree.specs.declared.node.NodeId.{NodeId}
use Rattle.element_tree.specs.declared.node.Links.{Links}
use Rattle.element_tree.specs.declared.node.Entry.{Entry}
use Rattle.element_tree.specs.Links.{links_at, payload_at, previous_at, IsClosed, IsClosedAt, IsRelinked}

module _ {P : Type 0} where
  pub closed_at : {slots : Slab (Entry P)} (n : ℕ) (links : Links) → links ≡ links_at slots n → IsClosed slots → IsClosedAt slots links
  closed_at {slots} n links e closed = subst (IsClosedAt slots) (sym e) (closed n)

  pub still_there : {old new : Slab (Entry P)} {t : ℕ → Links} (n : ℕ) → IsRelinked old new t → IsSome (payload_at old n) → IsSome (payload_at new n)
  still_there n r h = subst IsSome (sym (r.payloads n)) h

  pub there_at : (slots : Slab (Entry P)) (p : ℕ) (mark : Option NodeId) → IsClosed slots → (x : NodeId) → previous_at (links_at slots) p mark ≡ Some x → IsSome (payload_at slots x.0)
  there_at slots p None closed x e = (closed p).last x e
  there_at slots p (Some s) closed x e = (closed (s.0)).previous x e
