-- The steps of a run one after another.
use Rattle.std.proofs.Common.{◌≡◌, ℕ, ◌+◌, ◌<◌, ◌≤◌, List, [], ◌∷◌, ◌++◌, length, drop, get_or, Option, refl, ap, sym, subst, ◌∙◌, append_assoc}
use Rattle.std.proofs.lemmas.List.{append-nil, drop_more, drop_all}
use Rattle.std.specs.Prelude.{map, Result, Ok, Err}
use Rattle.script_model.specs.TraceLines.{TraceLine}
use Rattle.page_model.specs.Outcome.{bytes_of}
use Rattle.page_model.specs.Runs.{Said, Flow, Next, Thrown, Limited, say, silent, behind, ◌followed_by◌, follow, lifted}
use Rattle.trace_runs.specs.declared.faults.RunFault.{RunFault}
use Rattle.trace_runs.specs.declared.faults.RunFault.TheVariants.{Limit, Memory, WriteFault}
use Rattle.trace_runs.specs.Runs.{Runs}
use Rattle.trace_runs.specs.Writes.{AppendsLines, FailsWithin, Says, Told}
use Rattle.trace_runs.proofs.Lines.{bytes_both, says_none, says_both}
use Rattle.trace_runs.proofs.Runs.{behind_run, run_same, cut_as, ended_as, memory_run, silent_run, say_run, unsaid_run}
use Rattle.trace_runs.proofs.Writes.{lines_begin, failure_begins}

-- what was written so far, no write failed, and both the lines so far and the rest make the whole
pub record Following {S : Type 0} (before now : Option (List ℕ)) (faults faults_now : ℕ) (whole rest : Said S) : Type 0 where
  pub part : List TraceLine
  pub makes : behind part rest ≡ whole
  pub written : Says before now part
  pub unfailed : faults_now ≡ faults

-- nothing was written yet
pub begin : {S : Type 0} {now : Option (List ℕ)} {f : ℕ} {whole : Said S} → Following now now f f whole whole
begin {now = now} = record { part = []; makes = refl; written = says_none now; unfailed = refl }

-- the rest in other words
pub rest_same : {S : Type 0} {before now : Option (List ℕ)} {f g : ℕ} {whole rest other : Said S} → rest ≡ other → Following before now f g whole rest → Following before now f g whole other
rest_same {before = before} {now} {f} {g} {whole} same here = subst (λ it. Following before now f g whole it) same here

behind-both : {S : Type 0} (xs ys : List TraceLine) (said : Said S) → behind (xs ++ ys) said ≡ behind xs (behind ys said)
behind-both xs ys said = ap (λ (lines : List TraceLine). record said { lines = lines }) (append_assoc xs ys (said.lines))

-- where a step goes on
pub followed_next : {S : Type 0} (said : Said S) (rest : S → Said S) {state : S} → said.flow ≡ Next → said.state ≡ state → said followed_by rest ≡ behind (said.lines) (rest state)
unfolding ◌followed_by◌ follow
followed_next said rest flow state = ap (λ f. follow f rest said) flow ∙ ap (λ s. behind (said.lines) (rest s)) state

pub followed_thrown : {S : Type 0} (said : Said S) (rest : S → Said S) → said.flow ≡ Thrown → said followed_by rest ≡ said
unfolding ◌followed_by◌ follow
followed_thrown said rest flow = ap (λ f. follow f rest said) flow

pub followed_limited : {S : Type 0} (said : Said S) (rest : S → Said S) → said.flow ≡ Limited → said followed_by rest ≡ said
unfolding ◌followed_by◌ follow
followed_limited said rest flow = ap (λ f. follow f rest said) flow

-- the lines of a step begin those of all that follows
follow-more : {S : Type 0} (flow : Flow) (rest : S → Said S) (said : Said S) → (more : List TraceLine) × ((follow flow rest said).lines ≡ said.lines ++ more)
unfolding follow
follow-more Next rest said = ((rest (said.state)).lines, refl)
follow-more Thrown rest said = ([], sym (append-nil (said.lines)))
follow-more Limited rest said = ([], sym (append-nil (said.lines)))

pub followed_more : {S : Type 0} (said : Said S) (rest : S → Said S) → (more : List TraceLine) × ((said followed_by rest).lines ≡ said.lines ++ more)
unfolding ◌followed_by◌
followed_more said rest = follow-more (said.flow) rest said

-- and so do the first of them
lines_of_all : {S : Type 0} {before after : Option (List ℕ)} (said : Said S) (rest : S → Said S) → AppendsLines before after (bytes_of said.lines)
    → AppendsLines before after (bytes_of (said followed_by rest).lines)
lines_of_all {before = before} {after} said rest part =
    let more = followed_more said rest in
    subst (λ (t : List ℕ). AppendsLines before after t) (bytes_both (said.lines) more.0 ∙ sym (ap bytes_of more.1)) (lines_begin (bytes_of more.0) part)

failure_in_all : {S : Type 0} {before after : Option (List ℕ)} {f g : ℕ} (said : Said S) (rest : S → Said S) → FailsWithin before after f g (bytes_of said.lines)
    → FailsWithin before after f g (bytes_of (said followed_by rest).lines)
failure_in_all {before = before} {after} {f} {g} said rest failure =
    let more = followed_more said rest in
    subst (λ (t : List ℕ). FailsWithin before after f g t) (bytes_both (said.lines) more.0 ∙ sym (ap bytes_of more.1)) (failure_begins (bytes_of more.0) failure)

-- a step was run to its end, and the rest of the run behind it
pub then_run : {A B S : Type 0} {flow : A → Flow} {state state' : S} {flow' : B → Flow} {value : A} (result : Result B RunFault) {before mid after : Option (List ℕ)} {f fm g : ℕ}
    {said : Said S} (rest : S → Said S)
    → flow value ≡ Next → Runs flow state (Ok value) before mid f fm said → Runs flow' state' result mid after fm g (rest state)
    → Runs flow' state' result before after f g (said followed_by rest)
then_run result {said = said} rest goes first second =
    run_same (sym (followed_next said rest (first.ended.flow_is ∙ goes) first.ended.state_is)) (behind_run result (said.lines) first.ended.written first.ended.unfailed second)

-- a step was cut off
pub cut_run : {A B S : Type 0} {flow : A → Flow} {state : S} {flow' : B → Flow} (fault : RunFault) {before after : Option (List ℕ)} {f g : ℕ} {said : Said S} (rest : S → Said S)
    → Runs flow state (Err fault) before after f g said → Runs flow' state (Err fault) before after f g (said followed_by rest)
cut_run (Limit kind line number) rest run =
    run_same (sym (followed_limited _ rest run.cut_off.flow_is)) (cut_as (Limit kind line number) refl (λ limited. limited) (λ reached. reached) run)
cut_run Memory {said = said} rest run = record { ended = tt; cut_off = (lines_of_all said rest run.cut_off.0, run.cut_off.1) }
cut_run WriteFault {said = said} rest run = record { ended = tt; cut_off = failure_in_all said rest run.cut_off }

-- lines whose writing was cut off, before others
pub cut_saying : {A S : Type 0} {flow : A → Flow} {state : S} (fault : RunFault) {before after : Option (List ℕ)} {f g : ℕ} (lines : List TraceLine) (now : S) (rest : S → Said S)
    → Told {A = Unit {0}} (Err fault) before after f g lines → Runs flow state (Err fault) before after f g (say lines now followed_by rest)
cut_saying fault lines now rest wrote = cut_run {A = Unit {0}} {flow = λ value. Next} fault rest (unsaid_run fault {lines = lines} wrote)

-- a step was cut off, of whose state a part is told
pub lifted_cut : {A B S R : Type 0} {flow : A → Flow} {state : R} {flow' : B → Flow} (change : S → R) (fault : RunFault) {before after : Option (List ℕ)} {f g : ℕ} {said : Said S} (rest : S → Said S)
    → Runs flow state (Err fault) before after f g (lifted change said) → Runs flow' state (Err fault) before after f g (lifted change (said followed_by rest))
lifted_cut change (Limit kind line number) {said = said} rest run =
    run_same (ap (lifted change) (sym (followed_limited said rest run.cut_off.flow_is)))
    (cut_as (Limit kind line number) refl (λ limited. limited) (λ reached. reached) run)
lifted_cut change Memory {said = said} rest run = record { ended = tt; cut_off = (lines_of_all said rest run.cut_off.0, run.cut_off.1) }
lifted_cut change WriteFault {said = said} rest run = record { ended = tt; cut_off = failure_in_all said rest run.cut_off }

-- a step threw
pub thrown_run : {A B S : Type 0} {flow : A → Flow} {state : S} {flow' : B → Flow} {value : A} {other : B} {before after : Option (List ℕ)} {f g : ℕ} {said : Said S} (rest : S → Said S)
    → flow value ≡ Thrown → flow' other ≡ Thrown → Runs flow state (Ok value) before after f g said
    → Runs flow' state (Ok other) before after f g (said followed_by rest)
thrown_run rest threw throws run =
    run_same (sym (followed_thrown _ rest (run.ended.flow_is ∙ threw))) (ended_as (threw ∙ sym throws) refl run)

-- the rest was run
pub finish : {A S : Type 0} {flow : A → Flow} {state : S} (result : Result A RunFault) {before mid after : Option (List ℕ)} {f fm g : ℕ} {whole rest : Said S}
    → Following before mid f fm whole rest → Runs flow state result mid after fm g rest → Runs flow state result before after f g whole
finish result here run = run_same here.makes (behind_run result here.part here.written here.unfailed run)

-- a step goes on
pub go_on : {A S : Type 0} {flow : A → Flow} {state : S} {value : A} {before mid after : Option (List ℕ)} {f fm g : ℕ} {whole said : Said S} (rest : S → Said S)
    → flow value ≡ Next → Following before mid f fm whole (said followed_by rest) → Runs flow state (Ok value) mid after fm g said
    → Following before after f g whole (rest state)
go_on {before = before} {mid} {after} {said = said} rest goes here run = record {
  part = here.part ++ said.lines;
  makes = behind-both here.part (said.lines) _ ∙ ap (behind here.part) (sym (followed_next said rest (run.ended.flow_is ∙ goes) run.ended.state_is)) ∙ here.makes;
  written = says_both here.written run.ended.written;
  unfailed = run.ended.unfailed ∙ here.unfailed;
}

-- a step threw, which ends the whole
pub end_thrown : {A B S : Type 0} {flow : A → Flow} {state : S} {flow' : B → Flow} {value : A} {other : B} {before mid after : Option (List ℕ)} {f fm g : ℕ} {whole said : Said S} (rest : S → Said S)
    → flow value ≡ Thrown → flow' other ≡ Thrown → Following before mid f fm whole (said followed_by rest)
    → Runs flow state (Ok value) mid after fm g said → Runs flow' state (Ok other) before after f g whole
end_thrown {other = other} rest threw throws here run = finish (Ok other) here (thrown_run rest threw throws run)

-- a step was cut off, which ends the whole
pub end_cut : {A B S : Type 0} {flow : A → Flow} {state : S} {flow' : B → Flow} (fault : RunFault) {before mid after : Option (List ℕ)} {f fm g : ℕ} {whole said : Said S} (rest : S → Said S)
    → Following before mid f fm whole (said followed_by rest) → Runs flow state (Err fault) mid after fm g said → Runs flow' state (Err fault) before after f g whole
end_cut fault rest here run = finish (Err fault) here (cut_run fault rest run)

-- no memory was left between two steps
pub end_memory : {A S : Type 0} {flow : A → Flow} {state : S} {before now : Option (List ℕ)} {f g : ℕ} {whole rest : Said S}
    → Following before now f g whole rest → Runs flow state (Err Memory) before now f g whole
end_memory {rest = rest} here = finish (Err Memory) here (memory_run rest)

-- the rest says nothing
pub done : {A S : Type 0} {flow : A → Flow} {state : S} {value : A} {before now : Option (List ℕ)} {f g : ℕ} {whole : Said S}
    → flow value ≡ Next → Following before now f g whole (silent state) → Runs flow state (Ok value) before now f g whole
done {value = value} goes here = finish (Ok value) here (silent_run goes)

-- lines were written
pub go_on_said : {S : Type 0} {before mid after : Option (List ℕ)} {f fm g : ℕ} {whole : Said S} (lines : List TraceLine) (state : S) (rest : S → Said S)
    → Following before mid f fm whole (say lines state followed_by rest) → Says mid after lines → g ≡ fm → Following before after f g whole (rest state)
go_on_said lines state rest here written unfailed = go_on rest refl here (say_run (Ok (tt {0})) {lines = lines} {state = state} (written, unfailed))

-- the writing of lines was cut off
pub end_unsaid : {B S : Type 0} {flow : B → Flow} {state' : S} (fault : RunFault) {before mid after : Option (List ℕ)} {f fm g : ℕ} {whole : Said S} (lines : List TraceLine) (state : S)
    (rest : S → Said S) → Following before mid f fm whole (say lines state followed_by rest) → Told {A = Unit {0}} (Err fault) mid after fm g lines
    → Runs flow state' (Err fault) before after f g whole
end_unsaid fault lines state rest here wrote = finish (Err fault) here (cut_saying fault lines state rest wrote)

-- lines one after another
pub say_more : {S : Type 0} (first : TraceLine) (lines : List TraceLine) (state : S) → say (first ∷ lines) state ≡ say (first ∷ []) state followed_by say lines
say_more first lines state = sym (followed_next (say (first ∷ []) state) (say lines) refl refl)

-- the lines from a place on
pub lines_more : {X S : Type 0} (seen : X → TraceLine) (items : List X) (i : ℕ) (item : X) (line : TraceLine) (state : S) → i < length items → item ≡ get_or items i item → line ≡ seen item
    → say (map seen (drop i items)) state ≡ say (line ∷ []) state followed_by say (map seen (drop (i + 1) items))
lines_more seen items i item line state within is seen_as =
    ap (λ rest. say (map seen rest) state) (drop_more items i item within)
    ∙ ap (λ first. say (seen first ∷ map seen (drop (i + 1) items)) state) (sym is)
    ∙ ap (λ first. say (first ∷ map seen (drop (i + 1) items)) state) (sym seen_as)
    ∙ say_more line (map seen (drop (i + 1) items)) state

-- no line is left
pub lines_none : {X S : Type 0} (seen : X → TraceLine) (items : List X) (i : ℕ) (state : S) → length items ≤ i → say (map seen (drop i items)) state ≡ silent state
lines_none seen items i state past = ap (λ rest. say (map seen rest) state) (drop_all i items past)
