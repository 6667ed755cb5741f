-- A root rectangle moved outward by margins.
use Rattle.std.proofs.Common.{◌≡◌, ap, ◌∙◌}
use Rattle.std.specs.Prelude.{ℤ, ◌+ℤ◌, ◌-ℤ◌}
use Rattle.px_units.specs.declared.Rect.{Rect}
use Rattle.script_model.specs.Margins.{MarginPart, Margins}
use Rattle.page_model.specs.Chains.{margin_units, moved_out}

abbrev pub edges : Rect → ℤ → ℤ → ℤ → ℤ → Rect
edges root left top right bottom =
    record { left = root.left -ℤ left; top = root.top -ℤ top; right = root.right +ℤ right; bottom = root.bottom +ℤ bottom }

pub moved : (root result : Rect) (margins : Margins) (t r b l : MarginPart) (width left top right bottom : ℤ) → result ≡ edges root left top right bottom → left ≡ margin_units width l → top ≡ margin_units width t → right ≡ margin_units width r → bottom ≡ margin_units width b → record { top = t; right = r; bottom = b; left = l } ≡ margins → width ≡ root.right -ℤ root.left → result ≡ moved_out margins root
moved root result margins t r b l width left top right bottom e el et er eb em ew =
    let u : MarginPart → ℤ = λ part. margin_units (root.right -ℤ root.left) part in
    e
    ∙ ap (λ x. edges root x top right bottom) (el ∙ ap (λ w. margin_units w l) ew)
    ∙ ap (λ x. edges root (u l) x right bottom) (et ∙ ap (λ w. margin_units w t) ew)
    ∙ ap (λ x. edges root (u l) (u t) x bottom) (er ∙ ap (λ w. margin_units w r) ew)
    ∙ ap (λ x. edges root (u l) (u t) (u r) x) (eb ∙ ap (λ w. margin_units w b) ew)
    ∙ ap (λ m. moved_out m root) em
