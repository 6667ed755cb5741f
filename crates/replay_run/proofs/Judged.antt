-- A recorded trace judged beside the trace of its script.
use Rattle.std.proofs.Common.{◌≡◌, ◌≤◌, ◌<◌, ◌∙◌, ◌+◌, ap, sym, subst, arith, tests, ℕ, List, [], ◌++◌, length, take, Option}
use Rattle.std.proofs.lemmas.List.{drop_all}
use Rattle.std.specs.Prelude.{Some, None, Err, IfSome, Result, cond, count_by, false, true, nat_lt, ◌==◌}
use Rattle.std.specs.Io.KnownBytes.{Appends}
use Rattle.text_io.specs.Streams.{PassesLimit}
use Rattle.text_io.specs.declared.kinds.LimitKind.TheVariants as limits
use Rattle.script_model.specs.Reading.{LimitAt, Refusal, last_line, reading}
use Rattle.page_model.specs.Outcome.{outcome_read, outcome, trace, bytes_of}
use Rattle.trace_runs.specs.declared.faults.RunFault.{RunFault}
use Rattle.trace_runs.specs.Writes.{Wrote}
use Rattle.trace_judge.specs.declared.judgement.Judgement.{Judgement}
use Rattle.trace_judge.specs.declared.judgement.Judgement.TheVariants as judgements
use Rattle.trace_judge.specs.Judging.{judgement}
use Rattle.trace_judge.specs.Recordings.{script_of, trace_of}
use Rattle.trace_judge.specs.Texts.{judgement_text}
use Rattle.run_replies.specs.Answers.{Ends, IsTaken, Tells}
use Rattle.run_replies.specs.Replies.{Reply, refused_with}
use Rattle.replay_run.specs.Replies.{judge_reply, judgement_reply, judgement_status}
use Rattle.script_replay.specs.ScriptReplies.{read_reply}
use Rattle.run_replies.specs.Statuses.{is_whole, status_after}
use Rattle.run_replies.specs.declared.words.Job.TheVariants.{Replay}
use Rattle.run_replies.specs.declared.status.Status.{Status}
use Rattle.run_replies.specs.declared.status.Status.TheVariants.{Done, Syntax, Limit, NoMemory, ReadFault, WriteFault, Usage, Differs}
use Rattle.run_replies.proofs.Endings.{tells_end}
use Rattle.run_replies.proofs.Summaries.{IsWhole, wrote_tells}
use Rattle.run_replies.proofs.Taking.{taken}
use Rattle.script_source.proofs.FirstBytes.{first_bytes_read}
use Rattle.replay_run.proofs.Wordless.{read_text}

never : {A : Type 0} → false ≡ true → A
never wrong = absurd (let no : ⊥ = cc in no)

-- the trace of a script is that of its first bytes
pub first_bytes_told : (text : List ℕ) → trace (take 16777217 text) ≡ trace text
unfolding trace outcome
first_bytes_told text = ap (λ read. bytes_of (outcome_read read).lines) (first_bytes_read text)

-- what was gathered is the whole trace
pub gathered_whole : (script before after : List ℕ) → before ≡ [] → Appends (Some before) (Some after) (read_reply Replay (reading script)).text → after ≡ trace script
unfolding trace outcome
gathered_whole script before after none wrote = wrote ∙ ap (λ bytes. bytes ++ (read_reply Replay (reading script)).text) none ∙ read_text (reading script)

-- where all was written
pub whole_gathered : (status : Status) (script before after : List ℕ) (f g : ℕ) → is_whole status ≡ true → before ≡ []
    → Tells status (read_reply Replay (reading script)) (Some before) (Some after) f g → after ≡ trace script
whole_gathered Done script before after f g whole none told = gathered_whole script before after none told.1
whole_gathered Syntax script before after f g whole none told = gathered_whole script before after none told.1
whole_gathered Limit script before after f g whole none told = gathered_whole script before after none told.1
whole_gathered Differs script before after f g whole none told = gathered_whole script before after none told.1
whole_gathered NoMemory script before after f g whole none told = never whole
whole_gathered WriteFault script before after f g whole none told = never whole
whole_gathered ReadFault script before after f g whole none told = absurd told
whole_gathered Usage script before after f g whole none told = absurd told

-- the line of a judgement

whole-judged : (it : Judgement) → IsWhole (judgement_status it)
whole-judged (judgements.Equal lines) = tt
whole-judged (judgements.Differs line how) = tt

pub judgement_tells : {A : Type 0} (r : Result A RunFault) (it : Judgement) (status : Status) (before after : Option (List ℕ)) (f g : ℕ) → status ≡ judgement_status it
    → Wrote r before after f g (judgement_text it) → Tells (status_after r status) (judgement_reply it) before after f g
unfolding judgement_reply
judgement_tells r it status before after f g is wrote =
    subst (λ (s : Status). Tells (status_after r s) (record { text = judgement_text it; status = judgement_status it }) before after f g) (sym is)
    (wrote_tells r (judgement_status it) (judgement_text it) before after f g (whole-judged it) wrote)

-- the reply to a source, by its length

within : (n : ℕ) → n ≤ 67108864 → nat_lt 67108864 n ≡ false
within n fits = grind (arith, tests)

pub judged_within : (source : List ℕ) → length source ≤ 67108864 → judgement_reply (judgement (trace (script_of source)) (trace_of source)) ≡ judge_reply source
unfolding judge_reply
judged_within source fits =
    ap (λ long. cond long (refused_with (LimitAt limits.Recorded (last_line 67108864 source))) (judgement_reply (judgement (trace (script_of source)) (trace_of source)))) (sym (within (length source) fits))

past : (n : ℕ) → 67108864 < n → nat_lt 67108864 n ≡ true
past n more = grind (arith, tests)

line-past : (source : List ℕ) (feeds : ℕ) → feeds ≡ count_by (λ b. b == 10) (take 67108864 source) → feeds + 1 ≡ last_line 67108864 source
unfolding last_line
line-past source feeds is = omega arith

pub judged_past : (source : List ℕ) (after : Option (List ℕ)) (feeds : ℕ) → PassesLimit source after 67108864 feeds → refused_with (LimitAt limits.Recorded (feeds + 1)) ≡ judge_reply source
unfolding judge_reply
judged_past source after feeds passes =
    ap (λ line. refused_with (LimitAt limits.Recorded line)) (line-past source feeds passes.feeds_counted)
    ∙ ap (λ long. cond long (refused_with (LimitAt limits.Recorded (last_line 67108864 source))) (judgement_reply (judgement (trace (script_of source)) (trace_of source)))) (sym (past (length source) passes.longer))

pub ends_past : (status : Status) (left rest : Option (List ℕ)) (feeds : ℕ) (before after : Option (List ℕ)) (f g : ℕ) → IfSome left (λ source. PassesLimit source rest 67108864 feeds)
    → Tells status (refused_with (LimitAt limits.Recorded (feeds + 1))) before after f g → IfSome left (λ source. Ends status (judge_reply source) before after f g)
ends_past status None rest feeds before after f g passes told = tt
ends_past status (Some source) rest feeds before after f g passes told =
    tells_end status (judge_reply source) before after f g (subst (λ (it : Reply). Tells status it before after f g) (judged_past source rest feeds passes) told)

pub taken_whole : (status : Status) (left rest : Option (List ℕ)) → IfSome left (λ source. (length source ≤ 67108864) × (rest ≡ Some []))
    → IfSome left (λ source. IsTaken status 67108865 source rest)
taken_whole status None rest end = tt
taken_whole status (Some source) rest end =
    taken status 67108865 source rest (end.1 ∙ ap Some (sym (drop_all 67108865 source (omega (arith, end.0)))))

-- the judgement of what was gathered
pub trace_judged : {A : Type 0} (r : Result A RunFault) (it : Judgement) (status result : Status) (gathered script recorded : List ℕ) (before after : Option (List ℕ)) (f g : ℕ)
    → it ≡ judgement gathered recorded → gathered ≡ trace script → status ≡ judgement_status it → result ≡ status_after r status
    → Wrote r before after f g (judgement_text it) → Tells result (judgement_reply (judgement (trace script) recorded)) before after f g
trace_judged r it status result gathered script recorded before after f g judged told by is wrote =
    subst (λ (s : Status). Tells s (judgement_reply (judgement (trace script) recorded)) before after f g) (sym is)
    (subst (λ (j : Judgement). Tells (status_after r status) (judgement_reply j) before after f g) (judged ∙ ap (λ t. judgement t recorded) told)
    (judgement_tells r it status before after f g by wrote))

-- and of a script's first bytes
pub source_judged : (status : Status) (source script recorded : List ℕ) (before after : Option (List ℕ)) (f g : ℕ) → length source ≤ 67108864
    → script ≡ take 16777217 (script_of source) → recorded ≡ trace_of source
    → Tells status (judgement_reply (judgement (trace script) recorded)) before after f g → Tells status (judge_reply source) before after f g
source_judged status source script recorded before after f g fits first behind told =
    subst (λ (reply : Reply). Tells status reply before after f g)
    (ap (λ t. judgement_reply (judgement t recorded)) (ap trace first ∙ first_bytes_told (script_of source))
    ∙ ap (λ t. judgement_reply (judgement (trace (script_of source)) t)) behind ∙ judged_within source fits)
    told

-- a script that is refused is refused by its first bytes
pub judged_refused : {S : Type 0} (old new : S) (left : Option (List ℕ)) (script recorded : List ℕ) → IfSome left (λ source. (script ≡ take 16777217 (script_of source)) × (recorded ≡ trace_of source))
    → ((refusal : Refusal) → reading script ≡ Err refusal → new ≡ old) → IfSome left (λ source. (refusal : Refusal) → reading (script_of source) ≡ Err refusal → new ≡ old)
judged_refused old new None script recorded parts same = tt
judged_refused old new (Some source) script recorded parts same = λ refusal is. same refusal (ap reading parts.0 ∙ first_bytes_read (script_of source) ∙ is)

-- the source that was read
pub ends_whole : (status : Status) (left rest : Option (List ℕ)) (script recorded : List ℕ) (before after : Option (List ℕ)) (f g : ℕ)
    → IfSome left (λ source. (script ≡ take 16777217 (script_of source)) × (recorded ≡ trace_of source)) → IfSome left (λ source. (length source ≤ 67108864) × (rest ≡ Some []))
    → Tells status (judgement_reply (judgement (trace script) recorded)) before after f g → IfSome left (λ source. Ends status (judge_reply source) before after f g)
ends_whole status None rest script recorded before after f g parts end told = tt
ends_whole status (Some source) rest script recorded before after f g parts end told =
    tells_end status (judge_reply source) before after f g (source_judged status source script recorded before after f g end.0 parts.0 parts.1 told)
