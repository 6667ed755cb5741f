-- A source that was read, up to what is looked at.
use Rattle.std.proofs.Common.{◌≡◌, ◌∙◌, ◌⊎◌, ap, drop, inl, inr, refl, subst, sym, ℕ, List, Option}
use Rattle.std.specs.Prelude.{Some, None, Err, IfSome}
use Rattle.script_model.specs.Reading.{Reading, Refusal, reading}
use Rattle.page_model.specs.Outcome.{outcome_read}
use Rattle.page_model.specs.World.{World}
use Rattle.run_replies.specs.Answers.{Ends, IsTaken, Tells}
use Rattle.script_source.specs.Sources.{ReadTo}
use Rattle.script_replay.specs.ScriptReplies.{read_reply}
use Rattle.run_replies.specs.Words.{looked_at}
use Rattle.run_replies.specs.declared.words.Job.{Job}
use Rattle.run_replies.specs.declared.words.Words.{Words}
use Rattle.run_replies.specs.declared.words.Words.TheVariants.{Script, Generated, Judge, Pages}
use Rattle.trace_judge.specs.Recordings.{script_of}
use Rattle.replay_run.specs.Replies.{IsRefused}
use Rattle.run_replies.specs.declared.status.Status.{Status}
use Rattle.run_replies.proofs.Endings.{tells_end}
use Rattle.run_replies.proofs.Taking.{taken}
use Rattle.script_source.proofs.FirstBytes.{first_bytes_read}

-- by the first bytes

pub reads_to_end : (status : Status) (job : Job) (left rest : Option (List ℕ)) (bytes : List ℕ) (before after : Option (List ℕ)) (f g : ℕ) → ReadTo 16777217 left rest bytes
    → Tells status (read_reply job (reading bytes)) before after f g → IfSome left (λ text. Ends status (read_reply job (reading text)) before after f g)
reads_to_end status job None rest bytes before after f g read told = tt
reads_to_end status job (Some text) rest bytes before after f g read told =
    tells_end status (read_reply job (reading text)) before after f g
    (subst (λ (it : Reading). Tells status (read_reply job it) before after f g) (ap reading read.0 ∙ first_bytes_read text) told)

pub reads_taken : (status : Status) (left rest : Option (List ℕ)) (bytes : List ℕ) → ReadTo 16777217 left rest bytes → IfSome left (λ text. IsTaken status 16777217 text rest)
reads_taken status None rest bytes read = tt
reads_taken status (Some text) rest bytes read = taken status 16777217 text rest read.1

pub reads_world : {A : Type 0} (world : A → World) (page : Option A) (left rest : Option (List ℕ)) (bytes : List ℕ) → ReadTo 16777217 left rest bytes
    → IfSome page (λ it. world it ≡ (outcome_read (reading bytes)).world) → IfSome page (λ it. IfSome left (λ text. world it ≡ (outcome_read (reading text)).world))
reads_world world None left rest bytes read is = tt
reads_world world (Some it) None rest bytes read is = tt
reads_world world (Some it) (Some text) rest bytes read is = is ∙ ap (λ (it : Reading). (outcome_read it).world) (ap reading read.0 ∙ first_bytes_read text)

pub reads_refused : {S : Type 0} (old new : S) (left rest : Option (List ℕ)) (bytes : List ℕ) → ReadTo 16777217 left rest bytes → ((refusal : Refusal) → reading bytes ≡ Err refusal → new ≡ old)
    → IfSome left (λ text. (refusal : Refusal) → reading text ≡ Err refusal → new ≡ old)
reads_refused old new None rest bytes read same = tt
reads_refused old new (Some text) rest bytes read same = λ refusal is. same refusal (ap reading read.0 ∙ first_bytes_read text ∙ is)

-- where none is asked for

unlooked : (status : Status) (left : Option (List ℕ)) → IfSome left (λ text. IsTaken status 0 text left)
unlooked status None = tt
unlooked status (Some text) = taken status 0 text (Some text) refl

pub generated_left : (words : Option Words) (job : Job) (number : ℕ) → words ≡ Some (Generated job number) → (status : Status) (left : Option (List ℕ))
    → IfSome words (λ asks. IfSome left (λ text. IsTaken status (looked_at asks) text left))
generated_left words job number are status left =
    subst (λ (it : Option Words). IfSome it (λ asks. IfSome left (λ text. IsTaken status (looked_at asks) text left))) (sym are) (unlooked status left)

-- where memory runs out, by what the words ask for

pub asked_memory : {A : Type 0} (asked : Option Words) (asks : Words) (left rest : Option (List ℕ)) → asked ≡ Some asks → A ⊎ IfSome left (λ text. rest ≡ Some (drop (looked_at asks) text))
    → A ⊎ IfSome asked (λ it. IfSome left (λ text. rest ≡ Some (drop (looked_at it) text)))
asked_memory asked asks left rest is (inl same) = inl same
asked_memory asked asks left rest is (inr read) = inr (subst (λ (words : Option Words). IfSome words (λ it. IfSome left (λ text. rest ≡ Some (drop (looked_at it) text)))) (sym is) read)

-- a text that isn't a script, by what the words ask for

pub asked_refused : {S : Type 0} (old new : S) (asked : Option Words) (asks : Words) (left : Option (List ℕ)) → asked ≡ Some asks → IfSome left (λ text. IsRefused asks text → new ≡ old)
    → IfSome asked (λ it. IfSome left (λ text. IsRefused it text → new ≡ old))
asked_refused old new asked asks left is same = subst (λ (words : Option Words). IfSome words (λ it. IfSome left (λ text. IsRefused it text → new ≡ old))) (sym is) same

pub script_refused : {S : Type 0} (old new : S) (job : Job) (left : Option (List ℕ)) → IfSome left (λ text. (refusal : Refusal) → reading text ≡ Err refusal → new ≡ old)
    → IfSome left (λ text. IsRefused (Script job) text → new ≡ old)
script_refused old new job None same = tt
script_refused old new job (Some text) same = λ refused. same refused.0 refused.1

pub judge_refused : {S : Type 0} (old new : S) (left : Option (List ℕ)) → IfSome left (λ text. (refusal : Refusal) → reading (script_of text) ≡ Err refusal → new ≡ old)
    → IfSome left (λ text. IsRefused Judge text → new ≡ old)
judge_refused old new None same = tt
judge_refused old new (Some text) same = λ refused. same refused.0 refused.1

pub generated_refused : {S : Type 0} (old new : S) (job : Job) (number : ℕ) (left : Option (List ℕ)) → IfSome left (λ text. IsRefused (Generated job number) text → new ≡ old)
generated_refused old new job number None = tt
generated_refused old new job number (Some text) = λ never. absurd never

pub pages_refused : {S : Type 0} (old new : S) (left : Option (List ℕ)) → IfSome left (λ text. IsRefused Pages text → new ≡ old)
pages_refused old new None = tt
pages_refused old new (Some text) = λ never. absurd never
