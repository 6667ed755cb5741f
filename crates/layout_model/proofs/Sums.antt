-- Places moved back by what the elements that hold a box are scrolled.
use Rattle.std.proofs.Common.{◌≡◌, ℕ, ℤ, ◌+◌, ap, ◌∙◌, arith}
use Rattle.std.proofs.lemmas.Int.{ints}
use Rattle.std.specs.Prelude.{pos, ◌+ℤ◌, ◌-ℤ◌}
use Rattle.layout_model.specs.Points.{plus, moved_back}

pub both : {a b c d : ℤ} → a ≡ b → c ≡ d → ◌≡◌ {A = ℤ × ℤ} (a, c) (b, d)
both {b = b} {c = c} first second = ap {B = ℤ × ℤ} (λ x. (x, c)) first ∙ ap {B = ℤ × ℤ} (λ y. (b, y)) second

along : (flat above : ℤ) (own more view : ℕ) → flat -ℤ pos (own + more + view) ≡ above -ℤ pos (more + view) -ℤ pos own +ℤ flat -ℤ above
along flat above own more view = omega (arith, ints)

-- with one more element
pub held_on : (flat above : ℤ × ℤ) (own more view : ℕ × ℕ) → moved_back flat (plus (plus own more) view) ≡ ((moved_back (moved_back above (plus more view)) own).0 +ℤ flat.0 -ℤ above.0, (moved_back (moved_back above (plus more view)) own).1 +ℤ flat.1 -ℤ above.1)
held_on flat above own more view =
    both (along (flat.0) (above.0) (own.0) (more.0) (view.0)) (along (flat.1) (above.1) (own.1) (more.1) (view.1))

-- with none
pub held_by_view : (flat : ℤ × ℤ) (view : ℕ × ℕ) → moved_back flat (plus (0, 0) view) ≡ moved_back flat view
held_by_view flat view = both (omega (arith, ints)) (omega (arith, ints))

pub unmoved : (flat : ℤ × ℤ) → moved_back flat (0, 0) ≡ flat
unmoved flat = both (omega (arith, ints)) (omega (arith, ints))
