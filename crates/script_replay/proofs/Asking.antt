-- What is asked for, by its reading.
use Rattle.std.proofs.Common.{◌≡◌, ◌∙◌, ap, refl, sym, subst, ℕ, List, Option}
use Rattle.std.specs.Prelude.{Ok, Err}
use Rattle.script_model.specs.Syntax.{Script}
use Rattle.script_model.specs.Reading.{Refusal, Reading}
use Rattle.run_replies.specs.Answers.{Tells}
use Rattle.run_replies.specs.Replies.{Reply, refused_with}
use Rattle.run_replies.specs.declared.words.Job.{Job}
use Rattle.run_replies.specs.declared.status.Status.{Status}
use Rattle.script_replay.specs.ScriptReplies.{read_reply, script_reply}

-- a text by its reading

refused-reply : (job : Job) (refusal : Refusal) → refused_with refusal ≡ read_reply job (Err refusal)
unfolding read_reply
refused-reply job refusal = refl

script-reply : (job : Job) (items : Script) → script_reply job items ≡ read_reply job (Ok items)
unfolding read_reply
script-reply job items = refl

pub reply_tells : (status : Status) (reply other : Reply) (before after : Option (List ℕ)) (f g : ℕ) → reply ≡ other → Tells status reply before after f g → Tells status other before after f g
reply_tells status reply other before after f g is told = subst (λ (it : Reply). Tells status it before after f g) is told

pub refusal_tells : (status : Status) (job : Job) (refusal : Refusal) (read : Reading) (before after : Option (List ℕ)) (f g : ℕ) → read ≡ Err refusal
    → Tells status (refused_with refusal) before after f g → Tells status (read_reply job read) before after f g
refusal_tells status job refusal read before after f g is told =
    reply_tells status (refused_with refusal) (read_reply job read) before after f g (refused-reply job refusal ∙ ap (read_reply job) (sym is)) told

pub script_tells : (status : Status) (job : Job) (items : Script) (read : Reading) (before after : Option (List ℕ)) (f g : ℕ) → read ≡ Ok items
    → Tells status (script_reply job items) before after f g → Tells status (read_reply job read) before after f g
script_tells status job items read before after f g is told =
    reply_tells status (script_reply job items) (read_reply job read) before after f g (script-reply job items ∙ ap (read_reply job) (sym is)) told

-- what is done is the job
pub job_tells : (status : Status) (it other : Job) (items : Script) (before after : Option (List ℕ)) (f g : ℕ) → it ≡ other
    → Tells status (script_reply other items) before after f g → Tells status (script_reply it items) before after f g
job_tells status it other items before after f g is told = subst (λ (job : Job). Tells status (script_reply job items) before after f g) (sym is) told
