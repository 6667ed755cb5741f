-- What comes of one clip that is asked for.
use Rattle.std.proofs.Common.{◌≡◌, ℕ, ◌+◌, Bool, true, false, cond, refl, subst, arith}
use Rattle.candidate_index.specs.declared.scene.Standing.{Standing}
use Rattle.candidate_index.specs.declared.scene.Standing.TheVariants.{Chained}
use Rattle.candidate_index.specs.Registrations.{IfChained}

pub once : {A : Type 0} (b : Bool) (new old changed : A) → (b ≡ true → new ≡ old) → (b ≡ false → new ≡ changed) → new ≡ cond b old changed
once true new old changed kept made = kept refl
once false new old changed kept made = made refl

pub counted : (b : Bool) (new old more : ℕ) → (b ≡ true → new ≡ old) → (b ≡ false → new ≡ old + more) → new ≡ old + cond b 0 more
counted true new old more kept made = let e = kept refl in omega (arith, e)
counted false new old more kept made = made refl

pub where_chained : (standing : Standing) (fact : Type 0) → standing ≡ Chained → IfChained standing fact → fact
where_chained standing fact e h = subst (λ s. IfChained s fact) e h
