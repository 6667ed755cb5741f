-- The fields of links after a write.
use Rattle.std.proofs.Common.{◌≡◌, ℕ, Bool, true, false, cond, nat_eq, ◌&&◌, Option, Some, None, is_none, refl, sym, ap, ◌∙◌, inl, inr, eqb-true}
use Rattle.std.proofs.lemmas.Bool.{cases_Bool}
use Rattle.element_tree.specs.declared.node.NodeId.{NodeId}
use Rattle.element_tree.specs.declared.node.Links.{Links}
use Rattle.element_tree.specs.Forest.{names}
use Rattle.element_tree.specs.Links.{put, following, leading, node_ids}

pub field-cond : {A B : Type 0} (f : A → B) (b : Bool) (x y : A) → f (cond b x y) ≡ cond b (f x) (f y)
field-cond f true x y = refl
field-cond f false x y = refl

module _ {A : Type 0} (f : Links → A) (t : ℕ → Links) (k : ℕ) (l : Links) (m : ℕ) where
  pub field-put : f (put t k l m) ≡ cond (nat_eq m k) (f l) (f (t m))
  field-put = field-cond f (nat_eq m k) l (t m)

  pub put_here : nat_eq m k ≡ true → f (put t k l m) ≡ f l
  put_here y = field-put ∙ rw y

  pub put_elsewhere : nat_eq m k ≡ false → f (put t k l m) ≡ f (t m)
  put_elsewhere y = field-put ∙ rw y

  pub put_keeps : f l ≡ f (t k) → f (put t k l m) ≡ f (t m)
  put_keeps e = elim (cases_Bool (nat_eq m k)) [
    | inl y ↦ put_here y ∙ e ∙ ap (λ j. f (t j)) (sym (eqb-true m k y))
    | inr y ↦ put_elsewhere y
  ]

-- a node that follows another and one that leads another, both among the children of p
module _ (t : ℕ → Links) (p : ℕ) where
  following_next : (o : Option ℕ) (x : Option NodeId) (m : ℕ) → (following t p (node_ids o) x m).next ≡ cond (names o m) x ((t m).next)
  following_next None x m = put_keeps (λ l. l.next) t p _ m refl
  following_next (Some q) x m = field-put (λ l. l.next) t q _ m

  following_first : (o : Option ℕ) (x : Option NodeId) (m : ℕ) → (following t p (node_ids o) x m).first ≡ cond (is_none o && nat_eq m p) x ((t m).first)
  following_first None x m = field-put (λ l. l.first) t p _ m
  following_first (Some q) x m = put_keeps (λ l. l.first) t q _ m refl

  following_parent : (o : Option ℕ) (x : Option NodeId) (m : ℕ) → (following t p (node_ids o) x m).parent ≡ (t m).parent
  following_parent None x m = put_keeps (λ l. l.parent) t p _ m refl
  following_parent (Some q) x m = put_keeps (λ l. l.parent) t q _ m refl

  following_last : (o : Option ℕ) (x : Option NodeId) (m : ℕ) → (following t p (node_ids o) x m).last ≡ (t m).last
  following_last None x m = put_keeps (λ l. l.last) t p _ m refl
  following_last (Some q) x m = put_keeps (λ l. l.last) t q _ m refl

  following_previous : (o : Option ℕ) (x : Option NodeId) (m : ℕ) → (following t p (node_ids o) x m).previous ≡ (t m).previous
  following_previous None x m = put_keeps (λ l. l.previous) t p _ m refl
  following_previous (Some q) x m = put_keeps (λ l. l.previous) t q _ m refl

  leading_previous : (o : Option ℕ) (x : Option NodeId) (m : ℕ) → (leading t p (node_ids o) x m).previous ≡ cond (names o m) x ((t m).previous)
  leading_previous None x m = put_keeps (λ l. l.previous) t p _ m refl
  leading_previous (Some q) x m = field-put (λ l. l.previous) t q _ m

  leading_last : (o : Option ℕ) (x : Option NodeId) (m : ℕ) → (leading t p (node_ids o) x m).last ≡ cond (is_none o && nat_eq m p) x ((t m).last)
  leading_last None x m = field-put (λ l. l.last) t p _ m
  leading_last (Some q) x m = put_keeps (λ l. l.last) t q _ m refl

  leading_parent : (o : Option ℕ) (x : Option NodeId) (m : ℕ) → (leading t p (node_ids o) x m).parent ≡ (t m).parent
  leading_parent None x m = put_keeps (λ l. l.parent) t p _ m refl
  leading_parent (Some q) x m = put_keeps (λ l. l.parent) t q _ m refl

  leading_first : (o : Option ℕ) (x : Option NodeId) (m : ℕ) → (leading t p (node_ids o) x m).first ≡ (t m).first
  leading_first None x m = put_keeps (λ l. l.first) t p _ m refl
  leading_first (Some q) x m = put_keeps (λ l. l.first) t q _ m refl

  leading_next : (o : Option ℕ) (x : Option NodeId) (m : ℕ) → (leading t p (node_ids o) x m).next ≡ (t m).next
  leading_next None x m = put_keeps (λ l. l.next) t p _ m refl
  leading_next (Some q) x m = put_keeps (λ l. l.next) t q _ m refl

-- one node follows `previous`, and one leads `next`
abbrev pub joined : (ℕ → Links) → ℕ → Option ℕ → Option ℕ → Option NodeId → Option NodeId → ℕ → Links
joined t p previous next follower leader = leading (following t p (node_ids previous) follower) p (node_ids next) leader

module _ (t : ℕ → Links) (p : ℕ) (previous next : Option ℕ) (x y : Option NodeId) (m : ℕ) where
  pub joined_next : (joined t p previous next x y m).next ≡ cond (names previous m) x ((t m).next)
  joined_next = leading_next (following t p (node_ids previous) x) p next y m ∙ following_next t p previous x m

  pub joined_first : (joined t p previous next x y m).first ≡ cond (is_none previous && nat_eq m p) x ((t m).first)
  joined_first = leading_first (following t p (node_ids previous) x) p next y m ∙ following_first t p previous x m

  pub joined_parent : (joined t p previous next x y m).parent ≡ (t m).parent
  joined_parent = leading_parent (following t p (node_ids previous) x) p next y m ∙ following_parent t p previous x m

  pub joined_previous : (joined t p previous next x y m).previous ≡ cond (names next m) y ((t m).previous)
  joined_previous = leading_previous (following t p (node_ids previous) x) p next y m ∙ ap (λ o. cond (names next m) y o) (following_previous t p previous x m)

  pub joined_last : (joined t p previous next x y m).last ≡ cond (is_none next && nat_eq m p) y ((t m).last)
  joined_last = leading_last (following t p (node_ids previous) x) p next y m ∙ ap (λ o. cond (is_none next && nat_eq m p) y o) (following_last t p previous x m)

-- a field that an edit sets on a test
pub choose : (b : Bool) (x z : Option ℕ) {w : Option ℕ} {y : Option NodeId} → y ≡ node_ids z → w ≡ cond b x z → cond b (node_ids x) y ≡ node_ids w
choose true x z e h = sym (ap node_ids h)
choose false x z e h = e ∙ sym (ap node_ids h)

pub choose_end : (b c : Bool) (x z : Option ℕ) {w : Option ℕ} {y : Option NodeId} → c ≡ true → y ≡ node_ids z → w ≡ cond b x z → cond (b && c) (node_ids x) y ≡ node_ids w
choose_end true c x z k e h = rw k (sym (ap node_ids h))
choose_end false c x z k e h = e ∙ sym (ap node_ids h)

pub choose_other : (b c : Bool) (x y : Option NodeId) → c ≡ false → cond (b && c) x y ≡ y
choose_other true c x y k = rw k
choose_other false c x y k = refl

pub choose_not : (b : Bool) (x y : Option NodeId) → b ≡ false → cond b x y ≡ y
choose_not b x y k = rw k
