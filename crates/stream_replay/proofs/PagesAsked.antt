-- What is written of a source with several pages, by its bytes.
use Rattle.std.proofs.Common.{◌≡◌, ◌≤◌, ◌<◌, ◌∙◌, ◌+◌, refl, ap, sym, subst, arith, tests, ℕ, List, [], length, take, Option}
use Rattle.std.proofs.lemmas.Bool.{true≢false}
use Rattle.std.proofs.lemmas.List.{drop_all}
use Rattle.std.proofs.lemmas.Option.{none-some}
use Rattle.std.specs.Prelude.{Some, None, IfSome, Bool, cond, count_by, false, true, nat_lt, ◌==◌}
use Rattle.text_io.specs.Streams.{PassesLimit}
use Rattle.text_io.specs.declared.kinds.LimitKind.TheVariants as limits
use Rattle.script_model.specs.Reading.{SyntaxAt, LimitAt, last_line}
use Rattle.page_stream.specs.Pages.{is_stream, page_line_past}
use Rattle.run_replies.specs.Answers.{Ends, IsTaken, Tells}
use Rattle.stream_replay.specs.StreamReplies.{IsolatesPages}
use Rattle.run_replies.specs.Replies.{Reply, refused_with}
use Rattle.stream_replay.specs.StreamReplies.{few_pages_reply, pages_reply, run_reply}
use Rattle.run_replies.specs.Statuses.{is_whole}
use Rattle.stream_runs.specs.Alone.{TellsAlone}
use Rattle.stream_runs.specs.StreamRuns.{stream_run}
use Rattle.run_replies.specs.declared.status.Status.{Status}
use Rattle.run_replies.proofs.Endings.{tells_end}
use Rattle.run_replies.proofs.Taking.{taken}

within : (n : ℕ) → n ≤ 16777216 → nat_lt 16777216 n ≡ false
within n fits = grind (arith, tests)

past : (n : ℕ) → 16777216 < n → nat_lt 16777216 n ≡ true
past n more = grind (arith, tests)

-- the reply to a source that isn't too long
abbrev short_reply : List ℕ → Reply
short_reply source = cond (is_stream source) (few_pages_reply (page_line_past 8 source) source) (refused_with (SyntaxAt 1 1))

short_is : (source : List ℕ) → length source ≤ 16777216 → short_reply source ≡ pages_reply source
unfolding pages_reply
short_is source fits = ap (λ long. cond long (refused_with (LimitAt limits.Script (last_line 16777216 source))) (short_reply source)) (sym (within (length source) fits))

pub pages_run : (source : List ℕ) → length source ≤ 16777216 → is_stream source ≡ true → page_line_past 8 source ≡ None → run_reply (stream_run source) ≡ pages_reply source
pages_run source fits stream few =
    ap (λ it. few_pages_reply it source) (sym few)
    ∙ ap (λ test. cond test (few_pages_reply (page_line_past 8 source) source) (refused_with (SyntaxAt 1 1))) (sym stream)
    ∙ short_is source fits

pub pages_none : (source : List ℕ) → length source ≤ 16777216 → is_stream source ≡ false → refused_with (SyntaxAt 1 1) ≡ pages_reply source
pages_none source fits other =
    ap (λ test. cond test (few_pages_reply (page_line_past 8 source) source) (refused_with (SyntaxAt 1 1))) (sym other) ∙ short_is source fits

is-true : (test : Bool) → (test ≡ false → ⊥) → test ≡ true
is-true true other = refl
is-true false other = absurd (other refl)

pub pages_many : (source : List ℕ) (line : ℕ) → length source ≤ 16777216 → (is_stream source ≡ false → ⊥) → page_line_past 8 source ≡ Some line → refused_with (LimitAt limits.Pages line) ≡ pages_reply source
pages_many source line fits stream many =
    ap (λ it. few_pages_reply it source) (sym many)
    ∙ ap (λ test. cond test (few_pages_reply (page_line_past 8 source) source) (refused_with (SyntaxAt 1 1))) (sym (is-true (is_stream source) stream))
    ∙ short_is source fits

line-past : (source : List ℕ) (feeds : ℕ) → feeds ≡ count_by (λ b. b == 10) (take 16777216 source) → feeds + 1 ≡ last_line 16777216 source
unfolding last_line
line-past source feeds is = omega arith

pages_past : (source : List ℕ) (after : Option (List ℕ)) (feeds : ℕ) → PassesLimit source after 16777216 feeds → refused_with (LimitAt limits.Script (feeds + 1)) ≡ pages_reply source
unfolding pages_reply
pages_past source after feeds passes =
    ap (λ line. refused_with (LimitAt limits.Script line)) (line-past source feeds passes.feeds_counted)
    ∙ ap (λ long. cond long (refused_with (LimitAt limits.Script (last_line 16777216 source))) (short_reply source)) (sym (past (length source) passes.longer))

pub reply_told : (status : Status) (one other : Reply) (before after : Option (List ℕ)) (f g : ℕ) → one ≡ other → Tells status one before after f g → Tells status other before after f g
reply_told status one other before after f g is told = subst (λ (it : Reply). Tells status it before after f g) is told

pub pages_end_past : (status : Status) (left rest : Option (List ℕ)) (feeds : ℕ) (before after : Option (List ℕ)) (f g : ℕ) → IfSome left (λ source. PassesLimit source rest 16777216 feeds)
    → Tells status (refused_with (LimitAt limits.Script (feeds + 1))) before after f g → IfSome left (λ source. Ends status (pages_reply source) before after f g)
pages_end_past status None rest feeds before after f g passes told = tt
pages_end_past status (Some source) rest feeds before after f g passes told =
    tells_end status (pages_reply source) before after f g (subst (λ (it : Reply). Tells status it before after f g) (pages_past source rest feeds passes) told)

pub pages_taken : (status : Status) (left rest : Option (List ℕ)) (bytes : List ℕ) → IfSome left (λ source. bytes ≡ source) → IfSome left (λ _. rest ≡ Some []) → length bytes ≤ 16777216
    → IfSome left (λ source. IsTaken status 16777217 source rest)
pages_taken status None rest bytes all end fits = tt
pages_taken status (Some source) rest bytes all end fits =
    taken status 16777217 source rest (end ∙ ap Some (sym (drop_all 16777217 source (omega (arith, fits, ap length all)))))

-- ---- each page as if it ran alone

-- a stream that is run
pub run_alone : (status : Status) (stream source : List ℕ) → stream ≡ source → length source ≤ 16777216 → is_stream source ≡ true → page_line_past 8 source ≡ None
    → (is_whole status ≡ true → TellsAlone stream (stream_run stream).text) → IsolatesPages status source
run_alone status stream source is fits begins few alone = λ whole accepted.
    subst (λ (reply : Reply). TellsAlone source reply.text) (pages_run source fits begins few)
    (subst (λ (it : List ℕ). TellsAlone it (stream_run it).text) is (alone whole))

-- those that are refused
pub none_alone : (status : Status) (source : List ℕ) → is_stream source ≡ false → IsolatesPages status source
none_alone status source other = λ whole accepted. absurd (true≢false (sym accepted.1 ∙ other))

pub many_alone : (status : Status) (source : List ℕ) (line : ℕ) → page_line_past 8 source ≡ Some line → IsolatesPages status source
many_alone status source line many = λ whole accepted. absurd (none-some line (sym accepted.2 ∙ many))

pub past_alone : (status : Status) (left rest : Option (List ℕ)) (feeds : ℕ) → IfSome left (λ source. PassesLimit source rest 16777216 feeds) → IfSome left (λ source. IsolatesPages status source)
past_alone status None rest feeds passes = tt
past_alone status (Some source) rest feeds passes = λ whole accepted.
    let long : 16777216 < length source = passes.longer in
    let short : length source ≤ 16777216 = accepted.0 in
    absurd (omega arith)

-- the source that was read
pub alone_end : (status : Status) (left : Option (List ℕ)) (bytes : List ℕ) → IfSome left (λ source. bytes ≡ source) → IsolatesPages status bytes → IfSome left (λ source. IsolatesPages status source)
alone_end status None bytes all alone = tt
alone_end status (Some source) bytes all alone = subst (λ (it : List ℕ). IsolatesPages status it) all alone
