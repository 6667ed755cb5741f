-- Sums of offsets of the elements that hold a box, as far as a walk from holder to holder has come.
use Rattle.std.proofs.Common.{◌≡◌, ◌+◌, ℕ, List, [], ◌∷◌, ap, sym, ◌∙◌, arith}
use Rattle.layout_model.specs.Points.{plus, sum_points}

pub pair_is : (x y : ℕ) (pair : ℕ × ℕ) → x ≡ pair.0 → y ≡ pair.1 → ◌≡◌ {A = ℕ × ℕ} (x, y) pair
pair_is x y pair first second = ap {B = ℕ × ℕ} (λ a. (a, y)) first ∙ ap {B = ℕ × ℕ} (λ b. (pair.0, b)) second

module _ (f : ℕ → ℕ × ℕ) where
  sum_first : (n : ℕ) (ns : List ℕ) → sum_points f (n ∷ ns) ≡ plus (f n) (sum_points f ns)
  unfolding sum_points
  sum_first n ns = pair_is _ _ _ (omega arith) (omega arith)

  sum_none : sum_points f [] ≡ (0, 0)
  unfolding sum_points
  sum_none = pair_is _ _ _ (omega arith) (omega arith)

  pub sum_goes : (p : ℕ) (above higher : List ℕ) → above ≡ p ∷ higher → (x y dx dy : ℕ) → ◌≡◌ {A = ℕ × ℕ} (dx, dy) (f p)
      → plus (x + dx, y + dy) (sum_points f higher) ≡ plus (x, y) (sum_points f above)
  sum_goes p above higher is x y dx dy found =
      pair_is _ _ _ (omega arith) (omega arith)
      ∙ ap (λ more. plus (x, y) (plus more (sum_points f higher))) found
      ∙ ap (plus (x, y)) (sym (ap (sum_points f) is ∙ sum_first p higher))

  pub sum_ends : (above : List ℕ) → above ≡ [] → (x y : ℕ) → ◌≡◌ {A = ℕ × ℕ} (x, y) (plus (x, y) (sum_points f above))
  sum_ends above none x y =
      pair_is x y (plus (x, y) (0, 0)) (omega arith) (omega arith)
      ∙ ap (plus (x, y)) (sym (ap (sum_points f) none ∙ sum_none))

pub sum_starts : (sum : ℕ × ℕ) → plus (0, 0) sum ≡ sum
sum_starts sum = pair_is (0 + sum.0) (0 + sum.1) sum (omega arith) (omega arith)
