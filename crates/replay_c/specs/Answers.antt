-- What a call tells its caller: its status, the bytes of the caller's buffer, and a length. All of this is this project's own choice.
use Rattle.std.specs.Prelude.{◌≡◌, ℕ, ◌<◌, ◌≤◌, List, ◌++◌, length, drop, Option, Some, None}
use Rattle.run_replies.specs.Replies.{Reply}
use Rattle.run_replies.specs.Statuses.{code_of}
use Rattle.run_replies.specs.declared.status.Status.{Status}
use Rattle.run_replies.specs.declared.status.Status.TheVariants.{NoMemory, ReadFault, WriteFault, Usage}
use Rattle.run_replies.specs.declared.words.Words.{Words}
use Rattle.replay_run.specs.Replies.{reply}

-- a text is at the start of the buffer, whole, with its length; the bytes behind it are unchanged
pub record IsPut (text before after : List ℕ) (needed : ℕ) : Type 0 where
  pub fits : length text ≤ length before
  pub put : after ≡ text ++ drop (length text) before
  pub told : needed ≡ length text

-- a text is longer than the buffer, which is unchanged; its length is told
pub record IsLonger (text before after : List ℕ) (needed : ℕ) : Type 0 where
  pub longer : length before < length text
  pub unchanged : after ≡ before
  pub told : needed ≡ length text

-- no text is told, and the buffer is unchanged
pub record TellsNothing (before after : List ℕ) (needed : ℕ) : Type 0 where
  pub unchanged : after ≡ before
  pub told : needed ≡ 0

-- the status of a call whose reply wasn't gathered whole
abbrev pub unanswered : Status → Status
unanswered Usage = Usage
unanswered status = NoMemory

-- what each status says of the reply and of the buffer: `WriteFault` that the reply is longer, and `NoMemory` nothing of the reply
abbrev pub Hands : Status → Reply → List ℕ → List ℕ → ℕ → Type 0
Hands NoMemory reply before after needed = TellsNothing before after needed
Hands WriteFault reply before after needed = IsLonger reply.text before after needed
Hands ReadFault reply before after needed = ⊥
Hands Usage reply before after needed = ⊥
Hands status reply before after needed = (reply.status ≡ status) × IsPut reply.text before after needed

-- words that ask for nothing are told so, unless memory runs out before
abbrev pub Refuses : Status → List ℕ → List ℕ → ℕ → Type 0
Refuses NoMemory before after needed = TellsNothing before after needed
Refuses Usage before after needed = TellsNothing before after needed
Refuses status before after needed = ⊥

-- the same for what words ask for, with the bytes of a source
abbrev pub Answers : Option Words → List ℕ → Status → List ℕ → List ℕ → ℕ → Type 0
Answers None source status before after needed = Refuses status before after needed
Answers (Some asks) source status before after needed = Hands status (reply asks source) before after needed

-- the same with the number of the status
abbrev pub AnswersBy : Option Words → List ℕ → ℕ → List ℕ → List ℕ → ℕ → Type 0
AnswersBy asks source code before after needed = (status : Status) × (code ≡ code_of status) × Answers asks source status before after needed
