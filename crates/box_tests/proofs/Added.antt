-- What a call that added a node gave, where its error was mapped.
use Rattle.std.proofs.Common.{◌≡◌, true, Ok, Err, sym, subst, ◌∙◌}
use Rattle.std.specs.Prelude.{Result, is_ok, MatchResult, IfOk, OnOk}

pub ok_is : {T E F : Type 0} (r : Result T E) (m : Result T F) (v : T) (bad : E → Type 0) → MatchResult r (λ x. m ≡ Ok x) bad → m ≡ Ok v → true ≡ is_ok r → r ≡ Ok v
ok_is (Ok x) m v bad cases was ok = let same : Ok x ≡ Ok v = sym cases ∙ was in cc
ok_is (Err e) m v bad cases was ok = absurd cc

pub if_ok : {T E : Type 0} (r : Result T E) (v : T) (P : T → Type 0) → r ≡ Ok v → IfOk r P → P v
if_ok r v P is held = subst (λ q. IfOk q P) is held

pub on_ok : {T E : Type 0} (r : Result T E) (v : T) (P : Type 0) → r ≡ Ok v → OnOk r P → P
on_ok r v P is held = subst (λ q. OnOk q P) is held
