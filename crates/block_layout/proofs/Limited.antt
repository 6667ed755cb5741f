-- A used size goes by no more of the size of `auto` than the largest length.
use Rattle.std.proofs.Common.{◌≡◌, ℕ, Option, Some, None, refl, arith}
use Rattle.std.specs.Prelude.{option_map, option_and_then, unwrap_or}
use Rattle.px_units.specs.Lengths.{LengthValue, cap}
use Rattle.layout_model.specs.Styles.{BoxSizing}
use Rattle.layout_model.specs.Boxes.{against, inner, limited, used_along}

limited_same : (most least : Option ℕ) (a b : ℕ) → cap a ≡ cap b → limited most least a ≡ limited most least b
limited_same None None a b same = same
limited_same None (Some least) a b same = omega (arith, same)
limited_same (Some most) None a b same = omega (arith, same)
limited_same (Some most) (Some least) a b same = omega (arith, same)

given_or : (most least given : Option ℕ) (a b : ℕ) → cap a ≡ cap b → limited most least (unwrap_or given a) ≡ limited most least (unwrap_or given b)
given_or most least None a b same = limited_same most least a b same
given_or most least (Some size) a b same = refl

pub used_same : (sizing : BoxSizing) (edges : ℕ) (basis : Option ℕ) (size least : LengthValue) (most : Option LengthValue) (a b : ℕ) → cap a ≡ cap b
    → used_along sizing edges basis size least most a ≡ used_along sizing edges basis size least most b
used_same sizing edges basis size least most a b same =
    given_or
    (option_map (inner sizing edges) (option_and_then (λ value. against value basis) most))
    (option_map (inner sizing edges) (against least basis))
    (option_map (inner sizing edges) (against size basis))
    a
    b
    same
