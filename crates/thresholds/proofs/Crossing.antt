-- A rectangle without points has none in common with another.
use Rattle.std.proofs.Common.{◌≡◌, ℤ, Bool, true, false, cond, ◌&&◌, Some, None, refl, ap, arith}
use Rattle.std.specs.Prelude.{int_le}
use Rattle.std.specs.Int.{int_min, int_max}
use Rattle.std.proofs.lemmas.Int.{ints}
use Rattle.px_units.specs.declared.Rect.{Rect}
use Rattle.px_units.specs.Rects.{has_points, overlap, meeting}
use Rattle.script_model.specs.Margins.{Margins}
use Rattle.page_model.specs.Chains.{moved_out}

crossed : (a b c d : ℤ) → int_le b d ≡ false → int_le (int_max a b) (int_min c d) ≡ false
crossed a b c d e = grind (arith, ints)

pub not_both : (p q r s : Bool) → p && q ≡ false → (p ≡ false → r ≡ false) → (q ≡ false → s ≡ false) → r && s ≡ false
not_both true q true s e f g = g e
not_both true q false s e f g = refl
not_both false q r s e f g = ap (λ v. v && s) (f refl)

no_meeting : (a b : Rect) → has_points b ≡ false → meeting a b ≡ None
no_meeting a b e =
    ap (λ v. cond v (Some (overlap a b)) None)
    (not_both (int_le b.left b.right) (int_le b.top b.bottom) (int_le (overlap a b).left (overlap a b).right) (int_le (overlap a b).top (overlap a b).bottom) e (crossed a.left b.left a.right b.right) (crossed a.top b.top a.bottom b.bottom))

pub crossed_root : (margins : Margins) (root other : Rect) → has_points (moved_out margins root) ≡ false → meeting other (moved_out margins root) ≡ None
crossed_root margins root other e = no_meeting other (moved_out margins root) e
