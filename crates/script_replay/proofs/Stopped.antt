-- What is written of a run that is broken off as one of its ticks ends.
use Rattle.std.proofs.Common.{◌≡◌, ◌∙◌, ℕ, ◌+◌, ◌-◌, List, [], ◌∷◌, ◌++◌, length, Option, ap, sym, subst, arith, length-append}
use Rattle.std.proofs.lemmas.List.{drop_at}
use Rattle.std.specs.Prelude.{Result}
use Rattle.text_io.specs.declared.kinds.LimitKind.{LimitKind}
use Rattle.script_model.specs.Syntax as model
use Rattle.script_model.specs.Scripts.{handlers_in}
use Rattle.script_model.specs.TraceLines.{TraceLine, LimitLine}
use Rattle.page_model.specs.Outcome.{bytes_of, opening_world, run_item}
use Rattle.page_model.specs.Runs.{Flow, Next, Limited, Said, for_each}
use Rattle.page_model.specs.World.{World}
use Rattle.trace_runs.specs.declared.faults.RunFault.{RunFault}
use Rattle.trace_runs.specs.Runs as Run
use Rattle.trace_runs.specs.Writes.{Told}
use Rattle.run_replies.specs.Answers.{Tells}
use Rattle.run_replies.specs.Replies.{Reply, done_with}
use Rattle.run_replies.specs.Statuses.{status_after}
use Rattle.run_replies.specs.declared.words.Job.TheVariants as job
use Rattle.run_replies.specs.declared.words.Sight.{Sight}
use Rattle.run_replies.specs.declared.status.Status.{Status}
use Rattle.run_replies.specs.declared.status.Status.TheVariants.{Limit}
use Rattle.run_replies.proofs.Summaries.{wrote_of, wrote_tells}
use Rattle.script_items.specs.Stops.{after, to_tick}
use Rattle.script_replay.specs.ScriptReplies.{script_reply, sight_reply, told_text, told_with}
use Rattle.script_replay.specs.Sights.{last_of}

last_one : (lines : List TraceLine) (line : TraceLine) → last_of (lines ++ line ∷ []) ≡ line ∷ []
unfolding last_of
last_one lines line =
    let count : length (lines ++ line ∷ []) ≡ length lines + 1 = length-append lines (line ∷ []) in
    drop_at lines (line ∷ []) (length (lines ++ line ∷ []) - 1) (omega (arith, count))

module _ (sight : Sight) (number : ℕ) (script : model.Script) (world : World) (opening : world ≡ opening_world (script.version)) where
  abbrev said : Said World
  said = for_each (run_item (handlers_in (script.items))) (to_tick number (script.items)) world

  from_opening : said ≡ after script number
  unfolding after
  from_opening = ap (λ (w : World). for_each (run_item (handlers_in (script.items))) (to_tick number (script.items)) w) opening

  by_flow : (flow : Flow) → said.flow ≡ flow → told_with sight number (script.items) said flow ≡ sight_reply sight number script
  unfolding sight_reply
  by_flow flow is =
      ap (told_with sight number (script.items) said) (sym is)
      ∙ ap (λ (s : Said World). told_with sight number (script.items) s (s.flow)) from_opening

  pub told_tells : (status : Status) (new : World) (before after_it : Option (List ℕ)) (f g : ℕ) → said.flow ≡ Next → said.state ≡ new
      → Tells status (done_with (told_text sight number (script.items) new)) before after_it f g → Tells status (sight_reply sight number script) before after_it f g
  told_tells status new before after_it f g flow state told =
      subst (λ (reply : Reply). Tells status reply before after_it f g)
      (ap (λ (w : World). done_with (told_text sight number (script.items) w)) (sym state) ∙ by_flow Next flow) told

  limit_reply : (kind : LimitKind) (line most : ℕ) (lines : List TraceLine) → said.lines ≡ lines ++ LimitLine kind line most ∷ [] → said.flow ≡ Limited
      → record { text = bytes_of (LimitLine kind line most ∷ []); status = Limit } ≡ sight_reply sight number script
  limit_reply kind line most lines last flow =
      ap (λ (those : List TraceLine). record { text = bytes_of those; status = Limit })
      (sym (last_one lines (LimitLine kind line most)) ∙ ap last_of (sym last))
      ∙ by_flow Limited flow

  pub limit_tells : {A : Type 0} {new : World} (r : Result A RunFault) (kind : LimitKind) (line most : ℕ) (taken mid before after_it : Option (List ℕ)) (faults faults_after f g : ℕ)
      → Run.MeetsLimit kind line most new taken mid faults faults_after said
      → Told r before after_it f g (LimitLine kind line most ∷ []) → Tells (status_after r Limit) (sight_reply sight number script) before after_it f g
  limit_tells r kind line most taken mid before after_it faults faults_after f g met told =
      subst (λ (reply : Reply). Tells (status_after r Limit) reply before after_it f g) (limit_reply kind line most met.lines met.last met.flow_is)
      (wrote_tells r Limit (bytes_of (LimitLine kind line most ∷ [])) before after_it f g tt
      (wrote_of r (LimitLine kind line most ∷ []) before after_it f g told))

pub sight_tells : (status : Status) (sight : Sight) (number : ℕ) (script : model.Script) (before after_it : Option (List ℕ)) (f g : ℕ)
    → Tells status (sight_reply sight number script) before after_it f g → Tells status (script_reply (job.AtTick sight number) script) before after_it f g
unfolding script_reply
sight_tells status sight number script before after_it f g told = told
