-- One observer changed in its place.
use Rattle.std.proofs.Common.{◌≡◌, ℕ, zero, suc, ◌<◌, ◌∙◌, ap, refl, sym, subst, get_or, set, length, arith, add-one, ◌+◌}
use Rattle.std.proofs.lemmas.Option.{slice_get_read}
use Rattle.std.specs.Prelude.{List, [], ◌∷◌, ◌++◌, slice_get, unwrap_or}
use Rattle.px_units.specs.declared.BoxKind.{BoxKind}
use Rattle.page_model.specs.World.{ResizeObserver}
use Rattle.page_model.specs.Lookups.{change_at, no_extent, no_resize_observer}
use Rattle.page_model.specs.ResizeObserving.{without_observed, with_resize_target}
use Rattle.resize_observer.specs.Observers.{HeldObservers, changing}

pub change_at-set : {A : Type 0} (change : A → A) (xs : List A) (place : ℕ) (x : A) → place < length xs → x ≡ get_or xs place x → set xs place (change x) ≡ change_at change place xs
change_at-set change [] place x within is = refl
change_at-set change (y ∷ ys) zero x within is = ap (λ it. change it ∷ ys) is
change_at-set change (y ∷ ys) (suc place) x within is = ap (λ others. y ∷ others) (change_at-set change ys place x (omega arith) is)

-- a place of the fields that is one of the value
pub within : {inside it : HeldObservers} {place : ℕ} → inside ≡ it → place < length it.part.made → place < length inside.part.made
within {place = place} seen there = subst (λ (these : HeldObservers). place < length these.part.made) (sym seen) there

pub once_changed :
    (change : ResizeObserver → ResizeObserver) {inside it : HeldObservers} {place : ℕ} {old new : ResizeObserver} →
    inside ≡ it → place < length it.part.made → old ≡ get_or inside.part.made place old → new ≡ change old →
    record inside { part = record (inside.part) { made = set inside.part.made place new } } ≡ changing change place it
once_changed change {inside} {it} {place} {old} {new} seen there is same =
    ap (λ (observer : ResizeObserver). record inside { part = record (inside.part) { made = set inside.part.made place observer } }) same
    ∙ ap (λ (made : List ResizeObserver). record inside { part = record (inside.part) { made = made } }) (change_at-set change (inside.part.made) place old (within seen there) is)
    ∙ ap (changing change place) seen

-- an observer that is read at a place
pub read : (made : List ResizeObserver) (place : ℕ) (x : ResizeObserver) → place < length made → x ≡ get_or made place x → unwrap_or (slice_get made place) no_resize_observer ≡ x
read made place x there is = ap (λ found. unwrap_or found no_resize_observer) (slice_get_read made (length made) place x refl there is)

pub once_observed :
    (n : ℕ) (observed : BoxKind) {inside it : HeldObservers} {place : ℕ} {old new : ResizeObserver} →
    inside ≡ it → place < length it.part.made → old ≡ get_or inside.part.made place old →
    new ≡ record old { targets = without_observed n (old.targets) ++ record { serial = inside.part.given; target = n; observed = observed; last = no_extent } ∷ [] } →
    record inside { part = record { given = inside.part.given + 1; made = set inside.part.made place new } } ≡ record it { part = with_resize_target place n observed (it.part) }
once_observed n observed {inside} {it} {place} {old} {new} seen there is same =
    let change : ResizeObserver → ResizeObserver = λ x. record x { targets = without_observed n (x.targets) ++ record { serial = inside.part.given; target = n; observed = observed; last = no_extent } ∷ [] } in
    ap (λ (observer : ResizeObserver). record inside { part = record { given = inside.part.given + 1; made = set inside.part.made place observer } }) same
    ∙ ap (λ (made : List ResizeObserver). record inside { part = record { given = inside.part.given + 1; made = made } }) (change_at-set change (inside.part.made) place old (within seen there) is)
    ∙ ap (λ (given : ℕ). record inside { part = record { given = given; made = change_at change place (inside.part.made) } }) (add-one inside.part.given)
    ∙ ap (λ (these : HeldObservers). record these { part = with_resize_target place n observed (these.part) }) seen
