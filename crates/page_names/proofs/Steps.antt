-- Steps that are made one after another.
use Rattle.std.proofs.Common.{◌≡◌, ap}
use Rattle.text_io.specs.declared.kinds.ThrowKind.{ThrowKind}
use Rattle.page_model.specs.Steps.{Step, Did, Threw, ◌>>=◌, ◌>>◌}

module _ {A B : Type 0} (next : A → Step B) where
  pub then_did : (step : Step A) (value : A) → step ≡ Did value → (step >>= next) ≡ next value
  unfolding ◌>>=◌
  then_did step value e = ap (λ it. it >>= next) e

  pub then_threw : (step : Step A) (exception : ThrowKind) → step ≡ Threw exception → (step >>= next) ≡ Threw exception
  unfolding ◌>>=◌
  then_threw step exception e = ap (λ it. it >>= next) e
