-- The farthest edges are a bound on each, and one of them.
use Rattle.std.proofs.Common.{◌≡◌, ℕ, ℤ, zero, suc, ◌⊎◌, inl, inr, Some, None, Option, max, List, [], ◌∷◌, refl, ap, sym, subst, ◌∙◌, eqb-true, eq-eqb, arith}
use Rattle.std.proofs.lemmas.Bool.{leb-true, leb-false}
use Rattle.std.proofs.lemmas.List.Elements.{All-contains, filter_passes}
use Rattle.std.specs.Prelude.{Bool, true, false, cond, filter, nat_le, Contains}
use Rattle.layout_model.specs.Nodes.{Node}
use Rattle.layout_model.specs.Points.{larger, IsWithin}
use Rattle.layout_model.specs.Views.{View}
use Rattle.layout_model.specs.Reach.{is_it, edges_from, farthest}

pub max_either : (a b : ℕ) → (max a b ≡ a) ⊎ (max a b ≡ b)
max_either a b = either (nat_le b a) refl
  where
    either : (test : Bool) → nat_le b a ≡ test → (max a b ≡ a) ⊎ (max a b ≡ b)
    either true is = inl (omega (arith, leb-true b a is))
    either false is = inr (omega (arith, leb-false b a is))

-- what passes a filter's test is kept, and passes it where it is
pub kept : (test : ℕ → Bool) (xs : List ℕ) (c : ℕ) → Contains xs c → test c ≡ true → Contains (filter test xs) c
kept test [] c among passes = elim no [ ]
  where
    no : ⊥
    no = omega (arith, among.1)
kept test (x ∷ xs) c (zero, short, is) passes =
    subst (λ b. Contains (cond b (x ∷ filter test xs) (filter test xs)) c) (sym (ap test is ∙ passes)) (0, omega arith, is)
kept test (x ∷ xs) c (suc k, short, is) passes = over (test x) (kept test xs c (k, omega arith, is) passes)
  where
    over : (b : Bool) → Contains (filter test xs) c → Contains (cond b (x ∷ filter test xs) (filter test xs)) c
    over true among = (suc (among.0), omega arith, among.2)
    over false among = among

pub passed : (test : ℕ → Bool) (xs : List ℕ) (c : ℕ) → Contains (filter test xs) c → test c ≡ true
passed test xs c among = All-contains (λ x. test x ≡ true) (filter test xs) c (filter_passes test xs) among

pub it_is : (n : ℕ) (found : Option ℕ) → is_it n found ≡ true → found ≡ Some n
it_is n None is = cc
it_is n (Some m) is = ap Some (eqb-true m n is)

pub is_found : (n : ℕ) (found : Option ℕ) → found ≡ Some n → is_it n found ≡ true
is_found n found is = ap (is_it n) is ∙ eq-eqb n n refl

module _ (at : ℕ → Node) (view : View) (corner : ℤ × ℤ) (size : ℕ × ℕ) where
  pub size_within : (ns : List ℕ) → IsWithin size (farthest at view corner size ns)
  unfolding farthest
  size_within [] = (omega arith, omega arith)
  size_within (n ∷ ns) = over (size_within ns)
    where
      over : IsWithin size (farthest at view corner size ns) → IsWithin size (larger (edges_from at view corner n) (farthest at view corner size ns))
      over rest = (omega (arith, rest.0), omega (arith, rest.1))

  pub edges_within : (ns : List ℕ) (d : ℕ) → Contains ns d → IsWithin (edges_from at view corner d) (farthest at view corner size ns)
  unfolding farthest
  edges_within [] d among = elim no [ ]
    where
      no : ⊥
      no = omega (arith, among.1)
  edges_within (n ∷ ns) d (zero, short, is) =
      subst (λ m. IsWithin (edges_from at view corner m) (larger (edges_from at view corner n) (farthest at view corner size ns))) is (omega arith, omega arith)
  edges_within (n ∷ ns) d (suc k, short, is) = over (edges_within ns d (k, omega arith, is))
    where
      over : IsWithin (edges_from at view corner d) (farthest at view corner size ns) → IsWithin (edges_from at view corner d) (larger (edges_from at view corner n) (farthest at view corner size ns))
      over rest = (omega (arith, rest.0), omega (arith, rest.1))

  pub record IsMetBy (axis : ℕ × ℕ → ℕ) (ns : List ℕ) (value : ℕ) : Type 0 where
    pub node : ℕ
    pub among : Contains ns node
    pub is : value ≡ axis (edges_from at view corner node)

  module _ (axis : ℕ × ℕ → ℕ) (greater : (a b : ℕ × ℕ) → axis (larger a b) ≡ max (axis a) (axis b)) where
    pub far_met : (ns : List ℕ) → (axis (farthest at view corner size ns) ≡ axis size) ⊎ IsMetBy axis ns (axis (farthest at view corner size ns))
    unfolding farthest
    far_met [] = inl refl
    far_met (n ∷ ns) = pick (max_either _ _) (far_met ns)
      where
        own : ℕ × ℕ
        own = edges_from at view corner n

        rest : ℕ × ℕ
        rest = farthest at view corner size ns

        pick : (max (axis own) (axis rest) ≡ axis own) ⊎ (max (axis own) (axis rest) ≡ axis rest) → (axis rest ≡ axis size) ⊎ IsMetBy axis ns (axis rest) → (axis (larger own rest) ≡ axis size) ⊎ IsMetBy axis (n ∷ ns) (axis (larger own rest))
        pick (inl is) met = inr (record { node = n; among = (0, omega arith, refl); is = greater own rest ∙ is })
        pick (inr is) (inl same) = inl (greater own rest ∙ is ∙ same)
        pick (inr is) (inr met) = inr (record { node = met.node; among = (suc (met.among.0), omega (arith, met.among.1), met.among.2); is = greater own rest ∙ is ∙ met.is })
