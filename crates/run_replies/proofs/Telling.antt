-- What a reply that was told says of the status.
use Rattle.std.proofs.Common.{◌≡◌, refl, sym, subst, ℕ, List, Option}
use Rattle.std.specs.Prelude.{Some, None, IfSome, is_some, true}
use Rattle.text_io.specs.Streams.{Rose}
use Rattle.run_replies.specs.Answers.{Tells}
use Rattle.run_replies.specs.Replies.{Reply}
use Rattle.run_replies.specs.Statuses.{is_done}
use Rattle.run_replies.specs.declared.status.Status.{Status}
use Rattle.run_replies.specs.declared.status.Status.TheVariants.{Done, Syntax, Limit, NoMemory, ReadFault, WriteFault, Usage, Differs}

-- statuses that don't come
pub not_usage : (status : Status) (reply : Reply) (before after : Option (List ℕ)) (f g : ℕ) → Tells status reply before after f g → status ≡ Usage → ⊥
not_usage status reply before after f g told is = subst (λ (s : Status). Tells s reply before after f g) is told

pub not_read_fault : (status : Status) (reply : Reply) (before after : Option (List ℕ)) (f g : ℕ) → Tells status reply before after f g → status ≡ ReadFault → ⊥
not_read_fault status reply before after f g told is = subst (λ (s : Status). Tells s reply before after f g) is told

pub write_fault_rose : (status : Status) (reply : Reply) (before after : Option (List ℕ)) (f g : ℕ) → Tells status reply before after f g → status ≡ WriteFault → Rose f g
write_fault_rose status reply before after f g told is =
    let failed : Tells WriteFault reply before after f g = subst (λ (s : Status). Tells s reply before after f g) is told in failed.rose

-- without a `WriteFault` no write failed
pub unfailed : (status : Status) (reply : Reply) (before after : Option (List ℕ)) (f g : ℕ) → Tells status reply before after f g → (status ≡ WriteFault → ⊥) → g ≡ f
unfailed NoMemory reply before after f g told other = told.1
unfailed WriteFault reply before after f g told other = absurd (other refl)
unfailed ReadFault reply before after f g told other = absurd told
unfailed Usage reply before after f g told other = absurd told
unfailed Done reply before after f g told other = told.2
unfailed Syntax reply before after f g told other = told.2
unfailed Limit reply before after f g told other = told.2
unfailed Differs reply before after f g told other = told.2

-- what holds of the one value that there may be, where it is there for this status alone
pub if_done : {A : Type 0} (P : A → Type 0) (status : Status) (found : Option A) (value : A) → is_some found ≡ is_done status → IfSome found (λ it. it ≡ value)
    → (is_done status ≡ true → P value) → IfSome found P
if_done P status None value there same holds = tt
if_done P status (Some it) value there same holds = subst P (sym same) (holds (sym there))
