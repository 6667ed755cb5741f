-- A rectangle with equal edges is the same.
use Rattle.std.proofs.Common.{◌≡◌, ℤ, ap, ◌∙◌}
use Rattle.px_units.specs.declared.Rect.{Rect}

abbrev pub rect : ℤ → ℤ → ℤ → ℤ → Rect
rect l t r b = record { left = l; top = t; right = r; bottom = b }

pub same_rect : {l l' t t' r r' b b' : ℤ} → l ≡ l' → t ≡ t' → r ≡ r' → b ≡ b' → rect l t r b ≡ rect l' t' r' b'
same_rect {l} {l'} {t} {t'} {r} {r'} {b} {b'} p q u v =
    ap (λ x. rect x t r b) p ∙ ap (λ x. rect l' x r b) q ∙ ap (λ x. rect l' t' x b) u ∙ ap (λ x. rect l' t' r' x) v
