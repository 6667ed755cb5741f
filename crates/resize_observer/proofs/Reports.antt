-- For callers: reports one after the other come to the broadcast's, since a number names one observation for good.
use Rattle.std.proofs.Common.{◌≡◌, ℕ, ◌∙◌, ap, refl, sym}
use Rattle.std.specs.Prelude.{Bool, true, false, cond, ◌==◌, ◌||◌, List, [], ◌∷◌, All, map}
use Rattle.std.specs.List.{list_any}
use Rattle.std.proofs.lemmas.Bool.{eqb-true}
use Rattle.std.proofs.lemmas.List.Elements.{All-head, All-tail}
use Rattle.page_model.specs.World.{Extent, Observation}
use Rattle.page_model.specs.Gathering.{Sight, observed_size, reported}
use Rattle.resize_observer.specs.Reports.{with_last}
use Rattle.resize_observer.specs.Serials.{Subject, subject_of, IsNumbered}
use Rattle.resize_observer.proofs.Numbers.{reported-numbered}

pub same_subject : (subjects : ℕ → Subject) (given : ℕ) (a b : Observation) → IsNumbered subjects given a → IsNumbered subjects given b → a.serial ≡ b.serial → subject_of a ≡ subject_of b
same_subject subjects given a b first second same = first.subject ∙ ap subjects same ∙ sym second.subject

pub same_size : (sight : Sight) (a b : Observation) → subject_of a ≡ subject_of b → observed_size sight a ≡ observed_size sight b
same_size sight a b same = ap (λ (it : Subject). sight.size (it.target) (it.observed)) same

-- an observation once it was reported one after the other
abbrev pub once_each : Sight → List Observation → Observation → Observation
once_each sight [] it = it
once_each sight (each ∷ others) it = once_each sight others (with_last (each.serial) (observed_size sight each) it)

-- a report with the size of the observation's own subject
told : (sight : Sight) (it each : Observation) (is : Bool) → (is ≡ true → observed_size sight each ≡ observed_size sight it) → cond is (record it { last = observed_size sight each }) it ≡ cond is (record it { last = observed_size sight it }) it
told sight it each true size = ap (λ (last : Extent). record it { last = last }) (size refl)
told sight it each false size = refl

either : (is : Bool) (it : Observation) → cond is it it ≡ it
either true it = refl
either false it = refl

again : (sight : Sight) (delivered : List Observation) (it : Observation) (is : Bool) → reported sight delivered (cond is (record it { last = observed_size sight it }) it) ≡ cond (is || list_any (λ (each : Observation). each.serial == it.serial) delivered) (record it { last = observed_size sight it }) it
again sight delivered it true = either (list_any (λ (each : Observation). each.serial == it.serial) delivered) (record it { last = observed_size sight it })
again sight delivered it false = refl

one-reported : (sight : Sight) (subjects : ℕ → Subject) (given : ℕ) (delivered : List Observation) (it : Observation) → All (IsNumbered subjects given) delivered → IsNumbered subjects given it → once_each sight delivered it ≡ reported sight delivered it
one-reported sight subjects given [] it numbered is = refl
one-reported sight subjects given (each ∷ others) it numbered is =
    let first : IsNumbered subjects given each = All-head (IsNumbered subjects given) each others numbered in
    one-reported sight subjects given others (with_last (each.serial) (observed_size sight each) it) (All-tail (IsNumbered subjects given) each others numbered)
    (reported-numbered subjects given (observed_size sight each) it (each.serial == it.serial) is)
    ∙ ap (reported sight others) (told sight it each (each.serial == it.serial) (λ same. same_size sight each it (same_subject subjects given each it first is (eqb-true (each.serial) (it.serial) same))))
    ∙ again sight others it (each.serial == it.serial)

none-reported : (targets : List Observation) → map (λ (it : Observation). it) targets ≡ targets
none-reported [] = refl
none-reported (x ∷ xs) = ap (λ others. x ∷ others) (none-reported xs)
