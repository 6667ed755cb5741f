-- Serial numbers through the changes of observers.
use Rattle.std.proofs.Common.{◌≡◌, ℕ, zero, suc, ◌<◌, ◌∙◌, refl, sym, subst, get_or, set, length, arith, cond, ◌==◌}
use Rattle.std.proofs.lemmas.Bool.{eq-eqb, ne_eqb, cond-true, cond-false}
use Rattle.std.proofs.lemmas.List.Elements.{All-nil, All-cons, All-head, All-tail, All-append, All-push, All-set, All-get_or, All-weaker, All-filter, All-map}
use Rattle.std.specs.Prelude.{Bool, true, false, List, [], ◌∷◌, ◌++◌, All, slice_get, option_to_list, Option}
use Rattle.px_units.specs.declared.BoxKind.TheVariants.{Content}
use Rattle.page_model.specs.World.{Extent, Observation, ResizeObserver}
use Rattle.page_model.specs.ResizeObserving.{without_observed}
use Rattle.resize_observer.specs.Reports.{with_last}
use Rattle.resize_observer.specs.Serials.{Subject, subject_of, IsNumbered, AreNumbered, HasSerials, IsAbove}
use Rattle.resize_observer.specs.Observers.{ungathered, gathered_at, reported_at, inactive}

-- what keeps each number with its subject
abbrev pub KeepsSerials : (ResizeObserver → ResizeObserver) → Type 0
KeepsSerials change = (subjects : ℕ → Subject) (given : ℕ) (it : ResizeObserver) → AreNumbered subjects given it → AreNumbered subjects given (change it)

ungathered-serials : KeepsSerials ungathered
ungathered-serials subjects given it are = record { targets = are.targets; active = All-nil _; skipped = All-nil _ }

inactive-serials : KeepsSerials inactive
inactive-serials subjects given it are = record { targets = are.targets; active = All-nil _; skipped = are.skipped }

disconnected-serials : KeepsSerials (λ it. record it { targets = []; active = [] })
disconnected-serials subjects given it are = record { targets = All-nil _; active = All-nil _; skipped = are.skipped }

unobserved-serials : (n : ℕ) → KeepsSerials (λ it. record it { targets = without_observed n (it.targets) })
unobserved-serials n subjects given it are = record { targets = All-filter _ (IsNumbered subjects given) _ are.targets; active = are.active; skipped = are.skipped }

one_of : (P : Observation → Type 0) (xs : List Observation) (place : ℕ) → All P xs → All P (option_to_list (slice_get xs place))
one_of P [] place all = All-nil P
one_of P (x ∷ xs) zero all = All-cons P x [] (All-head P x xs all) (All-nil P)
one_of P (x ∷ xs) (suc place) all = one_of P xs place (All-tail P x xs all)

gathered-serials : (place : ℕ) (active : Bool) → KeepsSerials (gathered_at place active)
gathered-serials place true subjects given it are = record { targets = are.targets; active = All-append (IsNumbered subjects given) _ _ are.active (one_of (IsNumbered subjects given) (it.targets) place are.targets); skipped = are.skipped }
gathered-serials place false subjects given it are = record { targets = are.targets; active = are.active; skipped = All-append (IsNumbered subjects given) _ _ are.skipped (one_of (IsNumbered subjects given) (it.targets) place are.targets) }

pub reported-numbered : (subjects : ℕ → Subject) (given : ℕ) (last : Extent) (it : Observation) (is : Bool) → IsNumbered subjects given it → IsNumbered subjects given (cond is (record it { last = last }) it)
reported-numbered subjects given last it true numbered = record { below = numbered.below; subject = numbered.subject }
reported-numbered subjects given last it false numbered = numbered

reported-serials : (serial : ℕ) (last : Extent) → KeepsSerials (reported_at serial last)
reported-serials serial last subjects given it are = record {
  targets = All-map (IsNumbered subjects given) (with_last serial last) (it.targets) (All-weaker _ _ (λ each numbered. reported-numbered subjects given last each (serial == each.serial) numbered) _ are.targets);
  active = are.active;
  skipped = are.skipped;
}

-- what keeps each number with its subject, and each observer its document's
pub record Keeps (change : ResizeObserver → ResizeObserver) : Type 0 where
  pub serials : KeepsSerials change
  pub document : (it : ResizeObserver) → (change it).document ≡ it.document

pub ungathered-keeps : Keeps ungathered
ungathered-keeps = record { serials = ungathered-serials; document = λ it. refl }

pub inactive-keeps : Keeps inactive
inactive-keeps = record { serials = inactive-serials; document = λ it. refl }

pub disconnected-keeps : Keeps (λ it. record it { targets = []; active = [] })
disconnected-keeps = record { serials = disconnected-serials; document = λ it. refl }

pub unobserved-keeps : (n : ℕ) → Keeps (λ it. record it { targets = without_observed n (it.targets) })
unobserved-keeps n = record { serials = unobserved-serials n; document = λ it. refl }

pub gathered-keeps : (place : ℕ) (active : Bool) → Keeps (gathered_at place active)
gathered-keeps place true = record { serials = gathered-serials place true; document = λ it. refl }
gathered-keeps place false = record { serials = gathered-serials place false; document = λ it. refl }

pub reported-keeps : (serial : ℕ) (last : Extent) → Keeps (reported_at serial last)
reported-keeps serial last = record { serials = reported-serials serial last; document = λ it. refl }

pub serials-kept : (change : ResizeObserver → ResizeObserver) → KeepsSerials change → (given : ℕ) (made : List ResizeObserver) (place : ℕ) (old new : ResizeObserver) → place < length made → old ≡ get_or made place old → new ≡ change old → HasSerials given made → HasSerials given (set made place new)
serials-kept change keeps given made place old new there is same serials = record {
  subjects = serials.subjects;
  each =
      All-set (AreNumbered serials.subjects given) made place new
      (subst (AreNumbered serials.subjects given) (sym same) (keeps serials.subjects given old (subst (AreNumbered serials.subjects given) (sym is) (All-get_or (AreNumbered serials.subjects given) made place old there serials.each))))
      serials.each;
}

-- the number that is given next is above those of an observer's targets
pub next-above : (given : ℕ) (made : List ResizeObserver) (place : ℕ) (it : ResizeObserver) → place < length made → it ≡ get_or made place it → HasSerials given made → IsAbove given it.targets
next-above given made place it there is serials =
    let are : AreNumbered serials.subjects given it = subst (AreNumbered serials.subjects given) (sym is) (All-get_or (AreNumbered serials.subjects given) made place it there serials.each) in
    All-weaker (IsNumbered serials.subjects given) (λ (each : Observation). each.serial < given) (λ each numbered. numbered.below) it.targets are.targets

pub serials-made : (given : ℕ) (made : List ResizeObserver) (document : ℕ) (handler : Option ℕ) → HasSerials given made → HasSerials given (made ++ record { document = document; handler = handler; targets = []; active = []; skipped = [] } ∷ [])
serials-made given made document handler serials = record {
  subjects = serials.subjects;
  each = All-push (AreNumbered serials.subjects given) made _ serials.each (record { targets = All-nil _; active = All-nil _; skipped = All-nil _ });
}

pub no_serials : HasSerials 0 []
no_serials = record { subjects = λ serial. record { target = 0; observed = Content }; each = All-nil _ }

-- a number given to a subject
given_to : (ℕ → Subject) → ℕ → Subject → ℕ → Subject
given_to subjects given subject serial = cond (serial == given) subject (subjects serial)

later : (subjects : ℕ → Subject) (given : ℕ) (subject : Subject) (it : Observation) → IsNumbered subjects given it → IsNumbered (given_to subjects given subject) (suc given) it
unfolding given_to
later subjects given subject it numbered =
    let below : it.serial < given = numbered.below in
    record { below = omega (arith, below); subject = numbered.subject ∙ sym (cond-false (it.serial == given) subject (subjects it.serial) (ne_eqb (it.serial) given (λ same. omega arith))) }

all-later : (subjects : ℕ → Subject) (given : ℕ) (subject : Subject) (xs : List Observation) → All (IsNumbered subjects given) xs → All (IsNumbered (given_to subjects given subject) (suc given)) xs
all-later subjects given subject xs all = All-weaker _ (IsNumbered (given_to subjects given subject) (suc given)) (later subjects given subject) xs all

observer-later : (subjects : ℕ → Subject) (given : ℕ) (subject : Subject) (it : ResizeObserver) → AreNumbered subjects given it → AreNumbered (given_to subjects given subject) (suc given) it
observer-later subjects given subject it are = record {
  targets = all-later subjects given subject _ are.targets;
  active = all-later subjects given subject _ are.active;
  skipped = all-later subjects given subject _ are.skipped;
}

-- an observation with the next number goes to the targets of one observer
abbrev pub with_new : Observation → ResizeObserver → ResizeObserver
with_new new it = record it { targets = without_observed (new.target) (it.targets) ++ new ∷ [] }

new-numbered : (subjects : ℕ → Subject) (new : Observation) → IsNumbered (given_to subjects (new.serial) (subject_of new)) (suc new.serial) new
unfolding given_to
new-numbered subjects new = record { below = omega arith; subject = sym (cond-true (new.serial == new.serial) (subject_of new) (subjects new.serial) (eq-eqb (new.serial) (new.serial) refl)) }

pub serials-observed : (made : List ResizeObserver) (place : ℕ) (new : Observation) (old after : ResizeObserver) → place < length made → old ≡ get_or made place old → after ≡ with_new new old → HasSerials (new.serial) made → HasSerials (suc new.serial) (set made place after)
serials-observed made place new old after there is same serials =
    let subjects : ℕ → Subject = given_to serials.subjects (new.serial) (subject_of new) in
    let each : All (AreNumbered subjects (suc new.serial)) made = All-weaker _ (AreNumbered subjects (suc new.serial)) (observer-later serials.subjects (new.serial) (subject_of new)) made serials.each in
    let was : AreNumbered subjects (suc new.serial) old = subst (AreNumbered subjects (suc new.serial)) (sym is) (All-get_or (AreNumbered subjects (suc new.serial)) made place old there each) in
    let now : AreNumbered subjects (suc new.serial) (with_new new old) = record {
      targets = All-push (IsNumbered subjects (suc new.serial)) _ new (All-filter _ (IsNumbered subjects (suc new.serial)) _ was.targets) (new-numbered serials.subjects new);
      active = was.active;
      skipped = was.skipped;
    } in
    record { subjects = subjects; each = All-set (AreNumbered subjects (suc new.serial)) made place after (subst (AreNumbered subjects (suc new.serial)) (sym same) now) each }
