-- Where no element on a path is positioned, each box stands in its parent's: holders are the ancestors.
use Rattle.std.proofs.Common.{◌≡◌, ℕ, true, false, ◌∷◌, refl, ap, sym, arith}
use Rattle.std.specs.Prelude.{not}
use Rattle.std.proofs.lemmas.Bool.{false≢true}
use Rattle.layout_model.specs.Styles.{Position, StaticPosition, RelativePosition, AbsolutePosition, FixedPosition}
use Rattle.layout_model.specs.Nodes.{Node, position_of, is_static, is_positioned, is_flow, is_in_flow}

static : (position : Position) → not (is_static position) ≡ false → position ≡ StaticPosition
static StaticPosition is = refl
static RelativePosition is = absurd (false≢true (sym is))
static AbsolutePosition is = absurd (false≢true (sym is))
static FixedPosition is = absurd (false≢true (sym is))

pub static_unpositioned : (at : ℕ → Node) (n : ℕ) → is_positioned (at n) ≡ false → position_of (at n) ≡ StaticPosition
static_unpositioned at n is = static (position_of (at n)) is

pub in_flow_unpositioned : (at : ℕ → Node) (n : ℕ) → is_positioned (at n) ≡ false → is_in_flow (at n) ≡ true
in_flow_unpositioned at n is = ap is_flow (static_unpositioned at n is)
