-- The end of a call whose lines are gathered.
use Rattle.std.proofs.Common.{◌≡◌, ◌∙◌, ◌⊎◌, ℕ, Bool, true, false, List, [], ◌++◌, length, take, drop, Option, Some, None, inl, inr, ap, sym, subst, refl, append_assoc, append-nil, take-append-drop}
use Rattle.std.specs.Prelude.{IfSome}
use Rattle.std.proofs.lemmas.List.{append_cancel_left}
use Rattle.std.proofs.KnownBytes.{Appends-nil}
use Rattle.std.specs.Io.KnownBytes.{Appends, append_known}
use Rattle.text_io.specs.Streams.{Rose}
use Rattle.trace_runs.specs.Writes.{AppendsPart, FailsWithin}
use Rattle.trace_runs.proofs.Writes.{part_begins}
use Rattle.run_replies.specs.Answers.{Ends, IsTaken}
use Rattle.run_replies.specs.Replies.{Reply}
use Rattle.run_replies.specs.Words.{looked_at}
use Rattle.run_replies.specs.declared.words.Words.{Words}
use Rattle.run_replies.specs.declared.status.Status.{Status}
use Rattle.run_replies.specs.declared.status.Status.TheVariants.{Done, Syntax, Limit, NoMemory, ReadFault, WriteFault, Usage, Differs}
use Rattle.replay.specs.Gathered.{BeginsWith, PassesOn, is_write_fault}

-- what was gathered was passed on
joined : (first mid after : Option (List ℕ)) (held text : List ℕ) → Appends (append_known first []) (append_known mid held) text → Appends mid after held → Appends first after text
joined None mid after held text wrote passed = tt
joined (Some xs) None after held text wrote passed = absurd wrote
joined (Some xs) (Some ys) None held text wrote passed = absurd passed
joined (Some xs) (Some ys) (Some zs) held text wrote passed = passed ∙ wrote ∙ ap (λ front. front ++ text) (append-nil xs)

-- a first part of it was
cut : (first mid after : Option (List ℕ)) (held text : List ℕ) → BeginsWith after first → Appends (append_known first []) (append_known mid held) text → AppendsPart mid after held
    → AppendsPart first after text
cut None mid after held text begins wrote part = record { part = []; rest = text; whole = refl; written = tt }
cut (Some xs) None after held text begins wrote part = absurd wrote
cut (Some xs) (Some ys) None held text begins wrote part = absurd part.written
cut (Some xs) (Some ys) (Some zs) held text begins wrote part =
    let is : take (length xs) zs ≡ xs = cc begins in
    let taken : zs ≡ xs ++ drop (length xs) zs = sym (take-append-drop (length xs) zs) ∙ ap (λ front. front ++ drop (length xs) zs) is in
    let whole : xs ++ text ≡ zs ++ part.rest =
    ap (λ front. front ++ text) (sym (append-nil xs)) ∙ sym wrote ∙ ap (λ behind. ys ++ behind) part.whole ∙ sym (append_assoc ys part.part part.rest)
    ∙ ap (λ front. front ++ part.rest) (sym part.written)
    in
    let rest : xs ++ text ≡ xs ++ (drop (length xs) zs ++ part.rest) = whole ∙ ap (λ front. front ++ part.rest) taken ∙ append_assoc xs (drop (length xs) zs) part.rest in
    record { part = drop (length xs) zs; rest = part.rest; whole = append_cancel_left xs _ _ rest; written = taken }

-- by how it ends
either : (E : Status → Type 0) (status ended : Status) (held : List ℕ) (mid after : Option (List ℕ)) (g h : ℕ) → (Appends mid after held → h ≡ g → E status)
    → (FailsWithin mid after g h held → E WriteFault) → PassesOn false status ended held mid after g h → E ended
either E status ended held mid after g h whole failed (inl it) = subst E (sym it.0) (whole it.1 it.2)
either E status ended held mid after g h whole failed (inr it) = subst E (sym it.0) (failed it.1)

fails : (first mid after : Option (List ℕ)) (held text : List ℕ) (f g h : ℕ) → BeginsWith after first → Appends (append_known first []) (append_known mid held) text → g ≡ f
    → FailsWithin mid after g h held → FailsWithin first after f h text
fails first mid after held text f g h begins wrote same failed = record { part = cut first mid after held text begins wrote failed.part; rose = subst (λ n. Rose n h) same failed.rose }

-- a part of a text is one of a longer text
longer : {before after : Option (List ℕ)} (text part rest : List ℕ) → text ≡ part ++ rest → AppendsPart before after part → AppendsPart before after text
longer text part rest whole it = subst (AppendsPart _ _) (sym whole) (part_begins rest it)

module _ (reply : Reply) (first mid after : Option (List ℕ)) (held : List ℕ) (f g h : ℕ) (begins : BeginsWith after first) where
  told : (status ended : Status) → (Appends first after reply.text → h ≡ f → Ends status reply first after f h) → Appends (append_known first []) (append_known mid held) reply.text → g ≡ f
      → PassesOn false status ended held mid after g h → Ends ended reply first after f h
  told status ended ends wrote same passed =
      either (λ s. Ends s reply first after f h) status ended held mid after g h (λ took kept. ends (joined first mid after held reply.text wrote took) (kept ∙ same))
      (fails first mid after held reply.text f g h begins wrote same) passed

  pub ends_passed : (status ended : Status) → (status ≡ ReadFault → g ≡ f) → Ends status reply (append_known first []) (append_known mid held) f g
      → PassesOn (is_write_fault status) status ended held mid after g h → Ends ended reply first after f h
  ends_passed Done ended read it passed = told Done ended (λ took kept. (it.0, took, kept)) it.1 it.2 passed
  ends_passed Syntax ended read it passed = told Syntax ended (λ took kept. (it.0, took, kept)) it.1 it.2 passed
  ends_passed Limit ended read it passed = told Limit ended (λ took kept. (it.0, took, kept)) it.1 it.2 passed
  ends_passed Differs ended read it passed = told Differs ended (λ took kept. (it.0, took, kept)) it.1 it.2 passed
  ends_passed NoMemory ended read it passed =
      either (λ s. Ends s reply first after f h) NoMemory ended held mid after g h
      (λ took kept. (record { part = it.0.part; rest = it.0.rest; whole = it.0.whole; ends = it.0.ends; written = joined first mid after held it.0.part it.0.written took }, kept ∙ it.1))
      (λ failed. let part = fails first mid after held it.0.part f g h begins it.0.written it.1 failed in record { part = longer reply.text it.0.part it.0.rest it.0.whole part.part; rose = part.rose }) passed
  ends_passed ReadFault ended read it passed =
      either (λ s. Ends s reply first after f h) ReadFault ended held mid after g h (λ took kept. joined first mid after held [] it took)
      (λ failed. let part = fails first mid after held [] f g h begins it (read refl) failed in record { part = longer reply.text [] reply.text refl part.part; rose = part.rose }) passed
  ends_passed WriteFault ended read it passed =
      let none : AppendsPart mid after held = record { part = []; rest = held; whole = refl; written = subst (λ now. Appends mid now []) (sym passed.1) (Appends-nil mid) } in
      subst (λ s. Ends s reply first after f h) (sym passed.0)
      (record {
        part = longer reply.text it.part.part it.part.rest it.part.whole (cut first mid after held it.part.part begins it.part.written none);
        rose = subst (λ n. Rose f n) (sym passed.2) it.rose;
      })
  ends_passed Usage ended read it passed = absurd it

pub outcomes : (is : Bool) (status ended : Status) (held : List ℕ) (mid after : Option (List ℕ)) (g h : ℕ) → PassesOn is status ended held mid after g h → (ended ≡ status) ⊎ (ended ≡ WriteFault)
outcomes true status ended held mid after g h it = inl it.0
outcomes false status ended held mid after g h (inl it) = inl it.0
outcomes false status ended held mid after g h (inr it) = inr it.0

pub counted : (is : Bool) (status ended : Status) (held : List ℕ) (mid after : Option (List ℕ)) (g h : ℕ) → PassesOn is status ended held mid after g h → (ended ≡ WriteFault → ⊥) → h ≡ g
counted true status ended held mid after g h it other = it.2
counted false status ended held mid after g h (inl it) other = it.2
counted false status ended held mid after g h (inr it) other = absurd (other it.0)

pub unread : (status ended : Status) → (ended ≡ status) ⊎ (ended ≡ WriteFault) → ended ≡ ReadFault → status ≡ ReadFault
unread status ended (inl is) it = sym is ∙ it
unread status ended (inr is) it = absurd (let no : ⊥ = cc (is, it) in no)

pub unwritten : (status ended : Status) → (ended ≡ status) ⊎ (ended ≡ WriteFault) → status ≡ WriteFault → ended ≡ WriteFault
unwritten status ended (inl is) it = is ∙ it
unwritten status ended (inr is) it = is

taken_passed : (status ended : Status) (most : ℕ) (source : List ℕ) (left : Option (List ℕ)) → IsTaken status most source left → (ended ≡ status) ⊎ (ended ≡ WriteFault)
    → (status ≡ NoMemory → (ended ≡ status) ⊎ left ≡ Some (drop most source)) → (status ≡ ReadFault → ended ≡ status) → (status ≡ Usage → ended ≡ status) → IsTaken ended most source left
taken_passed status ended most source left taken (inl is) memory read usage = subst (λ s. IsTaken s most source left) (sym is) taken
taken_passed NoMemory ended most source left taken (inr is) memory read usage =
    elim (memory refl) [ inl same ↦ subst (λ s. IsTaken s most source left) (sym same) taken | inr all ↦ subst (λ s. IsTaken s most source left) (sym is) all ]
taken_passed ReadFault ended most source left taken (inr is) memory read usage = subst (λ s. IsTaken s most source left) (sym (read refl)) taken
taken_passed Usage ended most source left taken (inr is) memory read usage = subst (λ s. IsTaken s most source left) (sym (usage refl)) taken
taken_passed status ended most source left taken (inr is) memory read usage = subst (λ s. IsTaken s most source left) (sym is) taken

pub stays : {A B C : Type 0} → (A → C) → A ⊎ B → C ⊎ B
stays f (inl a) = inl (f a)
stays f (inr b) = inr b

pub read_passed : (asked : Option Words) (left after : Option (List ℕ)) (status ended : Status) → IfSome asked (λ asks. IfSome left (λ text. IsTaken status (looked_at asks) text after))
    → (ended ≡ status) ⊎ (ended ≡ WriteFault) → (status ≡ NoMemory → (ended ≡ status) ⊎ IfSome asked (λ asks. IfSome left (λ text. after ≡ Some (drop (looked_at asks) text))))
    → (status ≡ ReadFault → ended ≡ status) → (status ≡ Usage → ended ≡ status) → IfSome asked (λ asks. IfSome left (λ text. IsTaken ended (looked_at asks) text after))
read_passed None left after status ended taken is memory read usage = tt
read_passed (Some asks) None after status ended taken is memory read usage = tt
read_passed (Some asks) (Some text) after status ended taken is memory read usage = taken_passed status ended (looked_at asks) text after taken is memory read usage

pub if_both : {A B : Type 0} {P Q : A → B → Type 0} (a : Option A) (b : A → Option B) → ((x : A) (y : B) → P x y → Q x y) → IfSome a (λ x. IfSome (b x) (P x)) → IfSome a (λ x. IfSome (b x) (Q x))
if_both None b f it = tt
if_both (Some x) b f it = one (b x) (f x) it where
  one : {B : Type 0} {P Q : B → Type 0} (y : Option B) → ((z : B) → P z → Q z) → IfSome y P → IfSome y Q
  one None f it = tt
  one (Some z) f it = f z it
