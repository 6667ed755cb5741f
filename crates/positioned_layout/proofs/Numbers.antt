-- Signed lengths as the code counts them.
use Rattle.std.proofs.Common.{◌≡◌, ◌≤◌, ◌+◌, ◌*◌, ◌/◌, ℕ, ℤ, Option, Some, None, refl, ap, sym, ◌∙◌, arith}
use Rattle.std.proofs.lemmas.Int.{ints, clamps, quot_is, quot_fits, fits_signed_mul}
use Rattle.std.specs.Int.{int_max}
use Rattle.std.specs.Prelude.{max, IfSome, unwrap_or, option_map, pos, negsuc, neg_ℤ, ◌+ℤ◌, ◌-ℤ◌, ◌*ℤ◌, ◌≤ℤ◌, int_div, unsigned_abs}
use mir.Val.{to_z, of_z, SFits}
use mir.Syntax.{w32, w64}
use Rattle.px_units.specs.Lengths.{cap, clamped, signed_part, at_least_zero}
use Rattle.block_layout.specs.Ranges.{IsLength}
use Rattle.positioned_layout.specs.Seen.{IsReach, IsSpan, IsNear, IsCorner}

pub pos_abs : (x : ℤ) → pos 0 ≤ℤ x → pos (unsigned_abs x) ≡ x
pos_abs (pos n) low = refl
pos_abs (negsuc n) low = absurd (omega (arith, ints, low))

pub reach_again : (x : ℤ) → IsReach x → to_z w64 (of_z w64 x) ≡ x
reach_again x range = omega (arith, ints, range)

-- the inset of the near side
pub near_again : (near margin : ℤ) → IsReach near → IsSpan margin → to_z w64 (of_z w64 (to_z w64 (of_z w64 near) +ℤ to_z w64 (of_z w64 margin))) ≡ near +ℤ pos (unsigned_abs margin)
near_again near margin range span = let same = pos_abs margin span.0 in omega (arith, ints, range, span, same)

-- and of the far one
pub far_again : (containing far margin border : ℤ) → IsSpan containing → IsReach far → IsSpan margin → IsSpan border
    → to_z w64 (of_z w64 (to_z w64 (of_z w64 (to_z w64 (of_z w64 (to_z w64 (of_z w64 containing) -ℤ to_z w64 (of_z w64 far))) -ℤ to_z w64 (of_z w64 margin))) -ℤ to_z w64 (of_z w64 border)))
    ≡ pos (unsigned_abs containing) -ℤ far -ℤ pos (unsigned_abs margin) -ℤ pos (unsigned_abs border)
far_again containing far margin border whole range one other =
    let a = pos_abs containing whole.0 in
    let b = pos_abs margin one.0 in
    let d = pos_abs border other.0 in
    omega (arith, ints, whole, range, one, other, a, b, d)

module _ (basis hundredths number : ℤ) (span : IsSpan basis) (low : neg_ℤ (pos 1000000) ≤ℤ hundredths) (high : hundredths ≤ℤ pos 1000000) (is : number ≡ to_z w32 (of_z w32 hundredths)) where
  product_fits : SFits w64 (basis *ℤ hundredths)
  product_fits = fits_signed_mul w64 basis hundredths 1099511627776 1000000 (omega (arith, ints, span)) (omega (arith, ints, low, high)) (omega arith)

  pub part_again : to_z w64 (of_z w64 (int_div (to_z w64 (of_z w64 (to_z w64 (of_z w64 basis) *ℤ to_z w64 (of_z w64 number)))) (pos 10000))) ≡ signed_part hundredths (unsigned_abs basis)
  part_again =
      let first : to_z w64 (of_z w64 basis) ≡ basis = omega (arith, ints, span) in
      let second : to_z w64 (of_z w64 number) ≡ hundredths = omega (arith, ints, is, low, high) in
      let whole : to_z w64 (of_z w64 basis) *ℤ to_z w64 (of_z w64 number) ≡ basis *ℤ hundredths = ap (λ x. x *ℤ to_z w64 (of_z w64 number)) first ∙ ap (λ y. basis *ℤ y) second in
      ap (λ x. to_z w64 (of_z w64 (int_div (to_z w64 (of_z w64 x)) (pos 10000)))) whole
      ∙ quot_is w64 (basis *ℤ hundredths) (pos 10000) product_fits (record { sfits = omega arith }) (quot_fits w64 (basis *ℤ hundredths) (pos 10000) product_fits (omega (arith, ints)))
      ∙ ap (λ x. int_div (x *ℤ hundredths) (pos 10000)) (sym (pos_abs basis (span.0)))

cut_positive : (n : ℕ) → clamped (pos n) ≡ pos (cap n)
cut_positive n = omega (arith, ints, clamps)

pub margin_cut : (basis : ℕ) (hundredths : ℤ) → pos 0 ≤ℤ hundredths → clamped (signed_part hundredths basis) ≡ pos (cap ((basis * unsigned_abs hundredths) / 10000))
margin_cut basis (pos n) low = cut_positive ((basis * n) / 10000)
margin_cut basis (negsuc n) low = absurd (omega (arith, ints, low))

pub span_again : (x : ℤ) → IsSpan x → to_z w64 (of_z w64 x) ≡ x
span_again x range = omega (arith, ints, range)

pub sum_abs : (x y : ℤ) → pos 0 ≤ℤ x → pos 0 ≤ℤ y → unsigned_abs (x +ℤ y) ≡ unsigned_abs x + unsigned_abs y
sum_abs (pos x) (pos y) one other = refl
sum_abs (pos x) (negsuc y) one other = absurd (omega (arith, ints, other))
sum_abs (negsuc x) y one other = absurd (omega (arith, ints, one))

pub unwrap_abs : (o : Option ℤ) → unsigned_abs (unwrap_or o (pos 0)) ≡ unwrap_or (option_map unsigned_abs o) 0
unwrap_abs None = refl
unwrap_abs (Some x) = refl

pub unwrap_span : (o : Option ℤ) → IfSome o IsSpan → IsSpan (unwrap_or o (pos 0))
unwrap_span None range = (omega (arith, ints), omega (arith, ints))
unwrap_span (Some x) range = range

pub cut_again : (x : ℤ) → (pos 0 ≤ℤ x) × (x ≤ℤ pos 2147483647) → to_z w64 (of_z w64 x) ≡ x
cut_again x range = omega (arith, ints, range)

pub three_again : (a b d : ℤ) → IsSpan a → IsSpan b → IsSpan d → to_z w64 (of_z w64 (to_z w64 (of_z w64 (to_z w64 (of_z w64 a) +ℤ to_z w64 (of_z w64 b))) +ℤ to_z w64 (of_z w64 d))) ≡ a +ℤ b +ℤ d
three_again a b d one two three = omega (arith, ints, one, two, three)

-- a step further out
pub step_again : (place by more : ℤ) → IsReach by → IsSpan more → place +ℤ more +ℤ by ≡ place +ℤ to_z w64 (of_z w64 (to_z w64 (of_z w64 by) +ℤ to_z w64 (of_z w64 more)))
step_again place by more range span = omega (arith, ints, range, span)

pub flow_again : (place by more : ℤ) → IsReach by → IsReach more → place +ℤ more +ℤ by ≡ place +ℤ to_z w64 (of_z w64 (to_z w64 (of_z w64 more) +ℤ to_z w64 (of_z w64 by)))
flow_again place by more range span = omega (arith, ints, range, span)

pub near_whole : (x : ℤ) → IsNear 65536 x → to_z w64 (of_z w64 x) ≡ x
near_whole x near = omega (arith, ints, near)

pub corner_whole : (x : ℤ) → IsCorner 65536 x → to_z w64 (of_z w64 x) ≡ x
corner_whole x near = omega (arith, ints, near)

pub held_again : (held by : ℤ) → IsCorner 65536 held → IsReach by → to_z w64 (of_z w64 (to_z w64 (of_z w64 held) +ℤ to_z w64 (of_z w64 by))) ≡ held +ℤ by
held_again held by near range = omega (arith, ints, near, range)

pub flow_whole : (flow offset by : ℤ) → IsNear 65536 flow → IsReach offset → IsReach by → to_z w64 (of_z w64 (to_z w64 (of_z w64 (to_z w64 (of_z w64 flow) +ℤ to_z w64 (of_z w64 offset))) +ℤ to_z w64 (of_z w64 by))) ≡ flow +ℤ offset +ℤ by
flow_whole flow offset by near one other = omega (arith, ints, near, one, other)

pub corner_again : (place border : ℤ) → IsNear 65536 place → IsSpan border → to_z w64 (of_z w64 (to_z w64 (of_z w64 place) +ℤ to_z w64 (of_z w64 border))) ≡ place +ℤ pos (unsigned_abs border)
corner_again place border near span = let same = pos_abs border span.0 in omega (arith, ints, near, span, same)

pub near_more : (a b : ℕ) (x : ℤ) → a ≤ b → IsNear a x → IsNear b x
near_more a b x low near = (omega (arith, ints, low, near), omega (arith, ints, low, near))

pub corner_more : (a b : ℕ) (x : ℤ) → a ≤ b → IsCorner a x → IsCorner b x
corner_more a b x low near = (omega (arith, ints, low, near), omega (arith, ints, low, near))

pub corner_near : (a : ℕ) (x : ℤ) → IsNear a x → IsCorner a x
corner_near a x near = (omega (arith, ints, near), omega (arith, ints, near))

pub max_again : (edge other : ℤ) → pos 0 ≤ℤ edge → unsigned_abs (int_max edge other) ≡ max (at_least_zero other) (unsigned_abs edge)
max_again (pos e) (pos n) low = let same : int_max (pos e) (pos n) ≡ pos (max n e) = omega (arith, ints, clamps) in ap unsigned_abs same
max_again (pos e) (negsuc n) low = omega arith
max_again (negsuc e) other low = absurd (omega (arith, ints, low))

pub edge_again : (place border corner : ℤ) → IsNear 65536 place → IsSpan border → IsCorner 65536 corner
    → to_z w64 (of_z w64 (to_z w64 (of_z w64 (to_z w64 (of_z w64 place) +ℤ to_z w64 (of_z w64 border))) -ℤ to_z w64 (of_z w64 corner))) ≡ place +ℤ border -ℤ corner
edge_again place border corner near span past = omega (arith, ints, near, span, past)

pub farther_whole : (edge place border corner : ℤ) → (pos 0 ≤ℤ edge) × (edge ≤ℤ pos 1152921504606846976) → IsNear 65536 place → IsSpan border → IsCorner 65536 corner
    → max (at_least_zero (to_z w64 (of_z w64 place) +ℤ to_z w64 (of_z w64 border) -ℤ to_z w64 (of_z w64 corner))) (unsigned_abs (to_z w64 (of_z w64 edge))) ≡ max (at_least_zero (place +ℤ border -ℤ corner)) (unsigned_abs edge)
farther_whole edge place border corner range near span past =
    ap (λ x. max (at_least_zero (x +ℤ to_z w64 (of_z w64 border) -ℤ to_z w64 (of_z w64 corner))) (unsigned_abs (to_z w64 (of_z w64 edge)))) (near_whole place near)
    ∙ ap (λ x. max (at_least_zero (place +ℤ x -ℤ to_z w64 (of_z w64 corner))) (unsigned_abs (to_z w64 (of_z w64 edge)))) (span_again border span)
    ∙ ap (λ x. max (at_least_zero (place +ℤ border -ℤ x)) (unsigned_abs (to_z w64 (of_z w64 edge)))) (corner_whole corner past)
    ∙ ap (λ x. max (at_least_zero (place +ℤ border -ℤ corner)) (unsigned_abs x)) (let same : to_z w64 (of_z w64 edge) ≡ edge = omega (arith, ints, range) in same)

pub pair_is : (a b c d : ℕ) → a ≡ c → b ≡ d → ◌≡◌ {A = ℕ × ℕ} (a, b) (c, d)
pair_is a b c d first second = ap {B = ℕ × ℕ} (λ x. (x, b)) first ∙ ap {B = ℕ × ℕ} (λ x. (c, x)) second

pub length_span : (units : ℤ) → IsLength units → IsSpan units
length_span units length = (length.0, omega (arith, ints, length.1))
