-- Writes of links, one after another.
use Rattle.std.proofs.Common.{◌≡◌, ℕ, Bool, true, false, cond, nat_eq, Option, Some, None, subst, ap, ◌∙◌}
use Rattle.slab.specs.Slab.{Slab}
use Rattle.element_tree.specs.declared.node.NodeId.{NodeId}
use Rattle.element_tree.specs.declared.node.Links.{Links}
use Rattle.element_tree.specs.declared.node.Entry.{Entry}
use Rattle.element_tree.specs.Links.{links_at, put, following, leading, linked, previous_at, node_id, IsRelinked}

cond_both_same : {A : Type 0} {x y z w : A} (b : Bool) → x ≡ y → z ≡ w → cond b x z ≡ cond b y w
cond_both_same true p q = p
cond_both_same false p q = q

module _ (t u : ℕ → Links) (same : (m : ℕ) → t m ≡ u m) where
  pub put_same : (k : ℕ) (a b : Links) → a ≡ b → (m : ℕ) → put t k a m ≡ put u k b m
  put_same k a b e m = cond_both_same (nat_eq m k) e (same m)

  pub leading_same : (p : ℕ) (q x : Option NodeId) (m : ℕ) → leading t p q x m ≡ leading u p q x m
  leading_same p None x m = put_same p _ _ (ap (λ (l : Links). record l { last = x }) (same p)) m
  leading_same p (Some q) x m = put_same (q.0) _ _ (ap (λ (l : Links). record l { previous = x }) (same (q.0))) m

module _ {P : Type 0} where
  pub linked_chain : (s0 s1 s2 s3 : Slab (Entry P)) (p n : ℕ) (mark previous : Option NodeId) (own : Links)
      → previous ≡ previous_at (links_at s0) p mark → own ≡ links_at s2 n
      → IsRelinked s0 s1 (following (links_at s0) p previous (Some (node_id n)))
      → IsRelinked s1 s2 (leading (links_at s1) p mark (Some (node_id n)))
      → IsRelinked s2 s3 (put (links_at s2) n (record own { parent = Some (node_id p); next = mark; previous = previous }))
      → IsRelinked s0 s3 (linked (links_at s0) p n mark)
  linked_chain s0 s1 s2 s3 p n mark previous own found owned first second third =
      let node : Option NodeId = Some (node_id n) in
      let one : (m : ℕ) → links_at s1 m ≡ following (links_at s0) p (previous_at (links_at s0) p mark) node m
      = subst (λ (q : Option NodeId). (m : ℕ) → links_at s1 m ≡ following (links_at s0) p q node m) found first.links in
      let two : (m : ℕ) → links_at s2 m ≡ leading (following (links_at s0) p (previous_at (links_at s0) p mark) node) p mark node m
      = λ m. second.links m ∙ leading_same _ _ one p mark node m in
      let joined : ℕ → Links = leading (following (links_at s0) p (previous_at (links_at s0) p mark) node) p mark node in
      let mine : Links → Option NodeId → Links = λ l q. record l { parent = Some (node_id p); next = mark; previous = q } in
      record {
        links = λ m. third.links m ∙ put_same _ _ two n _ _ (ap (λ (l : Links). mine l previous) (owned ∙ two n) ∙ ap (mine (joined n)) found) m;
        payloads = λ m. third.payloads m ∙ second.payloads m ∙ first.payloads m;
        len = third.len ∙ second.len ∙ first.len;
        vacant_key = third.vacant_key ∙ second.vacant_key ∙ first.vacant_key;
        capacity = third.capacity ∙ second.capacity ∙ first.capacity;
      }
