-- What a run that was gathered answers.
use Rattle.std.proofs.Common.{◌≡◌, ◌<◌, ◌≤◌, refl, sym, subst, inl, inr, ℕ, List, [], ◌++◌, length, Option}
use Rattle.std.proofs.lemmas.Bool.{cases_lt}
use Rattle.std.specs.Prelude.{Some, None, IfSome, true, false, ◌↔◌}
use Rattle.run_replies.specs.Answers.{Ends}
use Rattle.run_replies.specs.Replies.{Reply}
use Rattle.run_replies.specs.Statuses.{code_of, is_whole}
use Rattle.run_replies.specs.Words.{seen}
use Rattle.run_replies.specs.declared.status.Status.{Status}
use Rattle.run_replies.specs.declared.status.Status.TheVariants.{Done, Syntax, Limit, NoMemory, ReadFault, WriteFault, Usage, Differs}
use Rattle.run_replies.specs.declared.words.Words.{Words}
use Rattle.run_replies.specs.declared.words.Words.TheVariants.{Script, Generated, Judge, Pages}
use Rattle.replay_run.specs.Replies.{reply}
use Rattle.replay_c.specs.Answers.{Answers, AnswersBy, Hands, IsLonger, IsPut, Refuses, TellsNothing, unanswered}

-- before a run
pub lacking : (asks : Option Words) (source before after : List ℕ) (needed : ℕ) → after ≡ before → needed ≡ 0 → Answers asks source NoMemory before after needed
lacking None source before after needed same none = record { unchanged = same; told = none }
lacking (Some asks) source before after needed same none = record { unchanged = same; told = none }

pub by_code : (asks : Option Words) (source before after : List ℕ) (needed code : ℕ) (status : Status) → code ≡ code_of status
    → Answers asks source status before after needed → AnswersBy asks source code before after needed
by_code asks source before after needed code status is answers = (status, is, answers)

-- of the source, a generated script needs nothing
told_of : (asks : Words) (source : List ℕ) (P : Reply → Type 0) → IfSome (seen asks (Some source)) (λ text. P (reply asks text)) → P (reply asks source)
told_of (Script job) source P told = told
told_of (Generated job number) source P told = told
told_of Judge source P told = told
told_of Pages source P told = told

-- what is handed over of a text that was gathered whole
record Handed (status result : Status) (text before after : List ℕ) (needed : ℕ) : Type 0 where
  put : length text ≤ length before → (result ≡ status) × IsPut text before after needed
  longer : length before < length text → (result ≡ WriteFault) × IsLonger text before after needed

abbrev IsWhole : Status → Type 0
IsWhole status = (reply : Reply) (before after : List ℕ) (needed : ℕ) → reply.status ≡ status → IsPut reply.text before after needed → Hands status reply before after needed

handed : (status result : Status) (reply : Reply) (gathered before after : List ℕ) (needed : ℕ) → IsWhole status → gathered ≡ [] ++ reply.text → reply.status ≡ status
    → Handed status result gathered before after needed → Hands result reply before after needed
handed status result reply gathered before after needed whole all is hands =
    let hands-text : Handed status result reply.text before after needed = subst (λ (t : List ℕ). Handed status result t before after needed) all hands in
    elim (cases_lt (length before) (length reply.text)) [
      | inl more ↦ let both = hands-text.longer more in subst (λ (s : Status). Hands s reply before after needed) (sym both.0) both.1
      | inr fits ↦ let both = hands-text.put fits in subst (λ (s : Status). Hands s reply before after needed) (sym both.0) (whole reply before after needed is both.1)
    ]

nothing_told : (asks : Option Words) (source : List ℕ) (result : Status) (before after : List ℕ) (needed : ℕ) → (result ≡ NoMemory) × TellsNothing before after needed
    → Answers asks source result before after needed
nothing_told asks source result before after needed both =
    subst (λ (s : Status). Answers asks source s before after needed) (sym both.0) (lacking asks source before after needed both.1.unchanged both.1.told)

pub answered : (asks : Option Words) (source gathered before after : List ℕ) (needed f g : ℕ) (status result : Status)
    → (status ≡ Usage) ↔ (asks ≡ None)
    → IfSome asks (λ a. IfSome (seen a (Some source)) (λ text. Ends status (reply a text) (Some []) (Some gathered) f g))
    → (is_whole status ≡ true → length gathered ≤ length before → (result ≡ status) × IsPut gathered before after needed)
    → (is_whole status ≡ true → length before < length gathered → (result ≡ WriteFault) × IsLonger gathered before after needed)
    → (is_whole status ≡ false → (result ≡ unanswered status) × TellsNothing before after needed)
    → Answers asks source result before after needed
answered asks source gathered before after needed f g NoMemory result usage ends put longer nothing = nothing_told asks source result before after needed (nothing refl)
answered asks source gathered before after needed f g WriteFault result usage ends put longer nothing = nothing_told asks source result before after needed (nothing refl)
answered asks source gathered before after needed f g ReadFault result usage ends put longer nothing = nothing_told asks source result before after needed (nothing refl)
answered None source gathered before after needed f g Usage result usage ends put longer nothing =
    let both = nothing refl in subst (λ (s : Status). Refuses s before after needed) (sym both.0) both.1
answered None source gathered before after needed f g Done result usage ends put longer nothing = absurd (let no : Done ≡ Usage = usage.1 refl in cc no)
answered None source gathered before after needed f g Syntax result usage ends put longer nothing = absurd (let no : Syntax ≡ Usage = usage.1 refl in cc no)
answered None source gathered before after needed f g Limit result usage ends put longer nothing = absurd (let no : Limit ≡ Usage = usage.1 refl in cc no)
answered None source gathered before after needed f g Differs result usage ends put longer nothing = absurd (let no : Differs ≡ Usage = usage.1 refl in cc no)
answered (Some asks) source gathered before after needed f g Usage result usage ends put longer nothing = absurd (let no : Some asks ≡ None = usage.0 refl in cc no)
answered (Some asks) source gathered before after needed f g Done result usage ends put longer nothing =
    let told = told_of asks source (λ r. Ends Done r (Some []) (Some gathered) f g) ends in
    handed Done result (reply asks source) gathered before after needed (λ r b a n is at. (is, at)) told.1 told.0 (record { put = put refl; longer = longer refl })
answered (Some asks) source gathered before after needed f g Syntax result usage ends put longer nothing =
    let told = told_of asks source (λ r. Ends Syntax r (Some []) (Some gathered) f g) ends in
    handed Syntax result (reply asks source) gathered before after needed (λ r b a n is at. (is, at)) told.1 told.0 (record { put = put refl; longer = longer refl })
answered (Some asks) source gathered before after needed f g Limit result usage ends put longer nothing =
    let told = told_of asks source (λ r. Ends Limit r (Some []) (Some gathered) f g) ends in
    handed Limit result (reply asks source) gathered before after needed (λ r b a n is at. (is, at)) told.1 told.0 (record { put = put refl; longer = longer refl })
answered (Some asks) source gathered before after needed f g Differs result usage ends put longer nothing =
    let told = told_of asks source (λ r. Ends Differs r (Some []) (Some gathered) f g) ends in
    handed Differs result (reply asks source) gathered before after needed (λ r b a n is at. (is, at)) told.1 told.0 (record { put = put refl; longer = longer refl })

-- by what the calls of a run ensure
pub answered_by : (asks : Option Words) (source given begun gathered told before after : List ℕ) (needed f g : ℕ) (status result : Status) → given ≡ source → begun ≡ [] → told ≡ gathered
    → (status ≡ Usage) ↔ (asks ≡ None)
    → IfSome asks (λ a. IfSome (seen a (Some given)) (λ text. Ends status (reply a text) (Some begun) (Some gathered) f g))
    → (is_whole status ≡ true → length told ≤ length before → (result ≡ status) × IsPut told before after needed)
    → (is_whole status ≡ true → length before < length told → (result ≡ WriteFault) × IsLonger told before after needed)
    → (is_whole status ≡ false → (result ≡ unanswered status) × TellsNothing before after needed)
    → Answers asks source result before after needed
answered_by asks source given begun gathered told before after needed f g status result from none same usage ends put longer nothing =
    let told-ends : IfSome asks (λ a. IfSome (seen a (Some source)) (λ text. Ends status (reply a text) (Some []) (Some told) f g))
    = subst (λ (t : List ℕ). IfSome asks (λ a. IfSome (seen a (Some source)) (λ text. Ends status (reply a text) (Some []) (Some t) f g))) (sym same)
    (subst (λ (b : List ℕ). IfSome asks (λ a. IfSome (seen a (Some source)) (λ text. Ends status (reply a text) (Some b) (Some gathered) f g))) none
    (subst (λ (s : List ℕ). IfSome asks (λ a. IfSome (seen a (Some s)) (λ text. Ends status (reply a text) (Some begun) (Some gathered) f g))) from ends)) in
    answered asks source told before after needed f g status result usage told-ends put longer nothing
