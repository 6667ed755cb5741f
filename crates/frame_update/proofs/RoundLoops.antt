-- The resize loop on its way: its rounds are taken out of it one by one.
use Rattle.std.proofs.Common.{◌≡◌, refl, ap, sym, subst, ◌∙◌, append_assoc, arith}
use Rattle.std.proofs.lemmas.Bool.{and_parts}
use Rattle.std.specs.Prelude.{ℕ, suc, ◌<◌, Bool, true, false, IsTrue, cond, List, Option, Some, None, Result, Ok, Err}
use Rattle.script_model.specs.Syntax.{Item}
use Rattle.script_model.specs.Scripts.{handlers_in}
use Rattle.script_model.specs.TraceLines.{TraceLine}
use Rattle.page_model.specs.World.{World}
use Rattle.page_model.specs.Documents.{is_active}
use Rattle.page_model.specs.Gathering.{has_active}
use Rattle.page_model.specs.Runs.{Said, Flow, Next, Thrown, Limited, silent, behind, follow, ◌followed_by◌, most_steps}
use Rattle.page_model.specs.Callbacks.{Script}
use Rattle.page_model.specs.Loop.{gather, report_skipped, resize_loop, round}
use Rattle.page_laws.specs.Bounds.{IsWithinLimits}
use Rattle.loop_laws.specs.Rounds.{goes_on as has_round, rounds_up_to, round_depth, IsDeeper, rounds_left}
use Rattle.trace_runs.specs.declared.faults.RunFault.{RunFault}
use Rattle.trace_runs.specs.Flows.{goes_on}
use Rattle.trace_runs.specs.Runs.{Runs}
use Rattle.trace_runs.proofs.Following.{Following, begin, rest_same, followed_next, go_on, end_cut, finish}
use Rattle.frame_update.specs.Ready.{IsPrepared}
use Rattle.frame_update.proofs.RoundEnds.{active_round, gathered_ready}

-- two steps behind one -------------------------------------------------------------------------------------------------------

follow-behind : {S : Type 0} (flow : Flow) (lines : List TraceLine) (rest : S → Said S) (said : Said S) → follow flow rest (behind lines said) ≡ behind lines (follow flow rest said)
unfolding follow
follow-behind Next lines rest said =
    ap (λ (all : List TraceLine). record (rest (said.state)) { lines = all }) (append_assoc lines (said.lines) ((rest (said.state)).lines))
follow-behind Thrown lines rest said = refl
follow-behind Limited lines rest said = refl

follow-twice : {S : Type 0} (flow : Flow) (next rest : S → Said S) (said : Said S) → said.flow ≡ flow → follow flow next said followed_by rest ≡ follow flow (λ state. next state followed_by rest) said
unfolding follow ◌followed_by◌
follow-twice Next next rest said is = follow-behind ((next (said.state)).flow) (said.lines) rest (next (said.state))
follow-twice Thrown next rest said is = ap (λ (flow : Flow). follow flow rest said) is
follow-twice Limited next rest said is = ap (λ (flow : Flow). follow flow rest said) is

followed-twice : {S : Type 0} (said : Said S) (next rest : S → Said S) → said followed_by next followed_by rest ≡ said followed_by (λ state. next state followed_by rest)
unfolding ◌followed_by◌
followed-twice said next rest = follow-twice (said.flow) next rest said refl

-- the laws -------------------------------------------------------------------------------------------------------------------

-- what is known of resize loops
pub record AreLaws : Type 0 where
  pub gathered : (document depth : ℕ) (world : World) → IsDeeper document depth (gather document depth world)
  pub falls : (script : Script) (document depth : ℕ) (world : World) → IsWithinLimits world → IsDeeper document depth world → IsTrue (has_round document world)
      → (round script document world).flow ≡ Next → IsTrue (is_active ((round script document world).state.tree) document)
      → IsDeeper document (round_depth script document world) (round script document world).state
      × (rounds_left ((round script document world).state) (round_depth script document world) < rounds_left world depth)
  pub begins : (world : World) → rounds_left world 0 < most_steps
  pub unrolled : (script : Script) (document : ℕ) (world : World) (depth : ℕ) → IsWithinLimits world → IsDeeper document depth world → (most : ℕ) → rounds_left world depth < most
      → IsTrue (has_round document world) → rounds_up_to most script document world ≡ (round script document world followed_by rounds_up_to most script document)
  pub ended : (script : Script) (document : ℕ) (world : World) (most : ℕ) → has_round document world ≡ false → rounds_up_to most script document world ≡ silent world
  pub loops : (script : Script) (document : ℕ) (world : World) → IsWithinLimits world → (most : ℕ) → rounds_left world 0 < most
      → resize_loop script document world ≡ (rounds_up_to most script document (gather document 0 world) followed_by report_skipped script document)

-- the loop -------------------------------------------------------------------------------------------------------------------

-- the rounds that are left, and the error behind them
abbrev pub rest_of : Script → ℕ → World → Said World
rest_of script document world = rounds_up_to most_steps script document world followed_by report_skipped script document

-- a further round follows, and all that waits is deeper than this
pub record HasRound (document depth : ℕ) (world : World) : Type 0 where
  pub has : has_round document world ≡ true
  pub deeper : IsDeeper document depth world
  pub most : rounds_left world depth < most_steps

abbrev pub IsLeft : ℕ → Option ℕ → World → Type 0
IsLeft document None world = has_round document world ≡ false
IsLeft document (Some depth) world = HasRound document depth world

-- as many rounds as can still be
abbrev pub still_left : Option ℕ → World → ℕ
still_left None world = 0
still_left (Some depth) world = suc (rounds_left world depth)

left-of : (document depth : ℕ) (world : World) (found : Option ℕ) → found ≡ cond (has_round document world) (Some depth) None
    → (has_round document world ≡ true → IsDeeper document depth world × (rounds_left world depth < most_steps)) → IsLeft document found world
left-of document depth world found is each = subst (λ (it : Option ℕ). IsLeft document it world) (sym is) (by_test (has_round document world) refl)
  where
    by_test : (test : Bool) → has_round document world ≡ test → IsLeft document (cond test (Some depth) None) world
    by_test true has = record { has = has; deeper = (each has).0; most = (each has).1 }
    by_test false has = has

pub record IsLooping (script : List Item) (document : ℕ) (before now : Option (List ℕ)) (faults faults_now : ℕ) (first : World) (found : Option ℕ) (world : World) : Type 0 where
  pub following : Following before now faults faults_now (resize_loop (handlers_in script) document first) (rest_of (handlers_in script) document world)
  pub ready : IsPrepared script world
  pub left : IsLeft document found world

pub loop_begins : AreLaws → (script : List Item) (document : ℕ) (now : Option (List ℕ)) (f : ℕ) (first world : World) (found : Option ℕ) → IsPrepared script first
    → is_active (first.tree) document ≡ true → world ≡ gather document 0 first → found ≡ cond (has_active document (world.resize_observers)) (Some 0) None
    → IsLooping script document now now f f first found world
loop_begins laws script document now f first world found ready holds gathered was = record {
  following =
      rest_same
      (laws.loops (handlers_in script) document first ready.limits most_steps (laws.begins first) ∙ ap (λ (it : World). rest_of (handlers_in script) document it) (sym gathered))
      begin;
  ready = gathered_ready script document 0 first world gathered ready;
  left =
      left-of document 0 world found (was ∙ active_round document 0 first world (Some 0) gathered holds)
      (λ has. (subst (λ (it : World). IsDeeper document 0 it) (sym gathered) (laws.gathered document 0 first), laws.begins world));
}

module _ (laws : AreLaws) {script : List Item} {document : ℕ} {before mid : Option (List ℕ)} {f fm : ℕ} {first : World} {found : Option ℕ} {world : World}
    (here : IsLooping script document before mid f fm first found world) where
  ends-here : found ≡ None → rest_of (handlers_in script) document world ≡ report_skipped (handlers_in script) document world
  ends-here none =
      ap (λ (said : Said World). said followed_by report_skipped (handlers_in script) document)
      (laws.ended (handlers_in script) document world most_steps (subst (λ (it : Option ℕ). IsLeft document it world) none here.left))
      ∙ followed_next (silent world) (report_skipped (handlers_in script) document) refl refl

  -- no round is left
  pub loop_done : {A : Type 0} {state : World} (result : Result A RunFault) {after : Option (List ℕ)} {g : ℕ} → found ≡ None
      → Runs goes_on state result mid after fm g (report_skipped (handlers_in script) document world)
      → Runs goes_on state result before after f g (resize_loop (handlers_in script) document first)
  loop_done result none run = finish result (rest_same (ends-here none) here.following) run

  module _ (depth : ℕ) (is : found ≡ Some depth) where
    a-round : HasRound document depth world
    a-round = subst (λ (it : Option ℕ). IsLeft document it world) is here.left

    one-more : rest_of (handlers_in script) document world ≡ round (handlers_in script) document world followed_by rest_of (handlers_in script) document
    one-more =
        ap (λ (said : Said World). said followed_by report_skipped (handlers_in script) document)
        (laws.unrolled (handlers_in script) document world depth here.ready.limits a-round.deeper most_steps a-round.most a-round.has)
        ∙ followed-twice (round (handlers_in script) document world) (rounds_up_to most_steps (handlers_in script) document) (report_skipped (handlers_in script) document)

    -- a round was cut off
    pub loop_cut : {A B : Type 0} {state : World} (fault : RunFault) {after : Option (List ℕ)} {g : ℕ}
        → Runs {A = A} goes_on state (Err fault) mid after fm g (round (handlers_in script) document world)
        → Runs {A = B} goes_on state (Err fault) before after f g (resize_loop (handlers_in script) document first)
    loop_cut fault run = end_cut fault (rest_of (handlers_in script) document) (rest_same one-more here.following) run

    module _ {after : Option (List ℕ)} {g : ℕ} {new : World} {next : Option ℕ} (run : Runs goes_on new (Ok next) mid after fm g (round (handlers_in script) document world))
        (was : next ≡ cond (has_round document new) (Some (round_depth (handlers_in script) document world)) None) where
      abbrev least : ℕ
      least = round_depth (handlers_in script) document world

      fell : has_round document new ≡ true → IsDeeper document least new × (rounds_left new least < rounds_left world depth)
      fell has =
          subst (λ (it : World). IsDeeper document least it × (rounds_left it least < rounds_left world depth)) run.ended.state_is
          (laws.falls (handlers_in script) document depth world here.ready.limits a-round.deeper a-round.has run.ended.flow_is
          (subst (λ (it : World). is_active (it.tree) document ≡ true) (sym run.ended.state_is) (and_parts (is_active (new.tree) document) (has_active document (new.resize_observers)) has).0))

      pub loop_on : IsPrepared script new → IsLooping script document before after f g first next new
      loop_on ready = record {
        following = go_on (rest_of (handlers_in script) document) refl (rest_same one-more here.following) run;
        ready = ready;
        left =
            left-of document least new next was
            (λ has. ((fell has).0, (let less : rounds_left new least < rounds_left world depth = (fell has).1 in let most : rounds_left world depth < most_steps = a-round.most in omega (arith, less, most))));
      }

      pub loop_smaller : still_left next new < still_left found world
      loop_smaller =
          subst (λ (it : Option ℕ). still_left it new < still_left found world) (sym was)
          (subst (λ (it : Option ℕ). still_left (cond (has_round document new) (Some least) None) new < still_left it world) (sym is) (by_test (has_round document new) fell))
        where
          by_test : (test : Bool) → (test ≡ true → IsDeeper document least new × (rounds_left new least < rounds_left world depth))
              → still_left (cond test (Some least) None) new < still_left (Some depth) world
          by_test true each = let less : rounds_left new least < rounds_left world depth = (each refl).1 in omega (arith, less)
          by_test false each = omega arith
