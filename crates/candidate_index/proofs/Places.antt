-- Where a registration stands, as it is looked up.
use Rattle.std.proofs.Common.{◌≡◌, Option, Some, None, unwrap_or, option_map}

pub looked_up : {A B : Type 0} (f : A → B) (o : Option A) (other : A) (found : B) → option_map f o ≡ Some found → f (unwrap_or o other) ≡ found
looked_up f None other found e = let wrong : None ≡ Some found = e in absurd (let no : ⊥ = cc in no)
looked_up f (Some a) other found e = let is : Some (f a) ≡ Some found = e in cc
