-- Which nodes are in a node, by whether it is one of their inclusive ancestors.
use Rattle.std.proofs.Common.{◌≡◌, ◌≢◌, ◌<◌, ◌≤◌, ℕ, zero, suc, Option, Some, None, Bool, true, false, refl, ap, sym, subst, ◌∙◌, inl, inr, arith, eqb-true}
use Rattle.std.proofs.lemmas.Bool.{or_cases, false≢true}
use Rattle.layout_model.specs.Nodes.{Node, depth_of, is_in_path, IsShallow}
use Rattle.layout_model.specs.Boxes.{kids_of}
use Rattle.layout_model.proofs.Ancestors.{in_self, in_top, in_child, above_in, in_path_of_parent, in_path_depth}
use Rattle.layout_model.proofs.Paths.{depth_least}
use Rattle.element_tree.specs.Forest.{has}
use Rattle.element_tree.proofs.Levels.{option_cases}
use Rattle.kept_layout.proofs.Lists.{decide}
use Rattle.kept_layout.proofs.Shapes.{IsShaped, kid_falls}

pub off_self : (at : ℕ → Node) (n m : ℕ) → is_in_path at n m ≡ false → m ≢ n
off_self at n m off same = false≢true (sym off ∙ ap (is_in_path at n) same ∙ in_self at n)

module _ (at : ℕ → Node) (shallow : IsShallow at) (shaped : IsShaped at) where
  off_by : (a n : ℕ) → (is_in_path at a n ≡ true → ⊥) → is_in_path at a n ≡ false
  off_by a n never = by (is_in_path at a n) refl
    where
      by : (b : Bool) → is_in_path at a n ≡ b → is_in_path at a n ≡ false
      by true is = absurd (never is)
      by false is = is

  -- what is in a node and isn't it is deeper, and is in one of its children
  pub record Below (a n : ℕ) : Type 0 where
    pub parent : ℕ
    pub up : (at n).parent ≡ Some parent
    pub inside : is_in_path at a parent ≡ true

  top_is : (a n : ℕ) → (at n).parent ≡ None → is_in_path at a n ≡ true → a ≡ n
  top_is a n top inside =
      elim (or_cases _ _ (sym (in_top at shallow a n top) ∙ inside)) [
        | inl e ↦ eqb-true a n e
        | inr e ↦ absurd (false≢true e)
      ]

  pub below : (a n : ℕ) → is_in_path at a n ≡ true → n ≢ a → Below a n
  below a n inside other =
      elim (option_cases (at n).parent) [
        | inl top ↦ absurd (other (sym (top_is a n top inside)))
        | inr q ↦ elim (or_cases _ _ (sym (in_child at shallow a n q.0 q.1) ∙ inside)) [
          | inl e ↦ absurd (other (sym (eqb-true a n e)))
          | inr e ↦ record { parent = q.0; up = q.1; inside = e }
        ]
      ]

  deeper : (a n : ℕ) → is_in_path at a n ≡ true → n ≢ a → depth_of at a < depth_of at n
  deeper a n inside other =
      let it = below a n inside other in
      omega (arith, in_path_depth at shallow a it.parent it.inside, shaped.falls n it.parent it.up)

  abbrev pub SomeKid : ℕ → ℕ → Type 0
  SomeKid p n = (c : ℕ) × ((at c).parent ≡ Some p) × (is_in_path at c n ≡ true)

  kid_within : (high p n : ℕ) → depth_of at n ≤ high → is_in_path at p n ≡ true → n ≢ p → SomeKid p n
  kid_within zero p n low inside other = absurd (omega (arith, depth_least at n))
  kid_within (suc high) p n low inside other =
      let it = below p n inside other in
      elim (decide it.parent p) [
        | inl same ↦ (n, it.up ∙ ap Some same, in_self at n)
        | inr higher ↦
            let met = kid_within high p it.parent (omega (arith, shaped.falls n it.parent it.up)) it.inside higher in
            (met.0, met.1, above_in at shallow met.0 n it.parent it.up met.2)
      ]

  pub some_kid : (p n : ℕ) → is_in_path at p n ≡ true → n ≢ p → SomeKid p n
  some_kid p n inside other = kid_within (depth_of at n) p n (omega arith) inside other

  -- a child and what isn't in it
  module _ (p x : ℕ) (kid : has (kids_of (at p)) x ≡ true) where
    pub off_parent : is_in_path at x p ≡ false
    off_parent = off_by x p (λ inside. absurd (omega (arith, in_path_depth at shallow x p inside, kid_falls at shaped p x kid)))

    pub outside_kid : (m : ℕ) → is_in_path at p m ≡ false → is_in_path at x m ≡ false
    outside_kid m off = off_by x m (λ inside. false≢true (sym off ∙ in_path_of_parent at shallow p x m (shaped.parents p x kid) inside))

    pub kids_apart_from : (m : ℕ) → m ≢ x → is_in_path at x m ≡ true → (c : ℕ) → has (kids_of (at p)) c ≡ true → c ≢ m
    kids_apart_from m other inside c beside same =
        let level : depth_of at c ≡ depth_of at m = ap (depth_of at) same in
        absurd (omega (arith, deeper x m inside other, kid_falls at shaped p x kid, kid_falls at shaped p c beside))

    -- what is in another child isn't in this one
    apart_within : (high c m : ℕ) → depth_of at m ≤ high → has (kids_of (at p)) c ≡ true → c ≢ x → is_in_path at c m ≡ true → is_in_path at x m ≡ true → ⊥
    apart_within zero c m low beside other one two = omega (arith, depth_least at m)
    apart_within (suc high) c m low beside other one two =
        elim (decide m x) [
          | inl same ↦ kid_case c x beside kid other (subst (λ k. is_in_path at c k ≡ true) same one)
          | inr not_x ↦ elim (decide m c) [
            | inl same ↦ kid_case x c kid beside (λ e. other (sym e)) (subst (λ k. is_in_path at x k ≡ true) same two)
            | inr not_c ↦
                let over = below x m two not_x in
                let under = below c m one not_c in
                apart_within high c over.parent (omega (arith, shaped.falls m over.parent over.up)) beside other
                (subst (λ q. is_in_path at c q ≡ true) (one_of (at m).parent under.parent over.parent under.up over.up) under.inside) over.inside
          ]
        ]
      where
        one_of : (o : Option ℕ) (a b : ℕ) → o ≡ Some a → o ≡ Some b → a ≡ b
        one_of o a b first second = cc

        kid_case : (a b : ℕ) → has (kids_of (at p)) a ≡ true → has (kids_of (at p)) b ≡ true → a ≢ b → is_in_path at a b ≡ true → ⊥
        kid_case a b first second differs inside =
            omega (arith, deeper a b inside (λ e. differs (sym e)), kid_falls at shaped p a first, kid_falls at shaped p b second)

    pub apart_kids : (c m : ℕ) → has (kids_of (at p)) c ≡ true → c ≢ x → is_in_path at c m ≡ true → is_in_path at x m ≡ false
    apart_kids c m beside other inside = off_by x m (apart_within (depth_of at m) c m (omega arith) beside other inside)
