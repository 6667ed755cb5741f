-- A round: a broadcast, its line, and gathering at its depth.
use Rattle.std.proofs.Common.{◌≡◌, refl, ap, sym, subst, ◌∙◌}
use Rattle.std.specs.Prelude.{ℕ, Bool, true, false, ◌&&◌, cond, List, [], ◌∷◌, Option, Some, None, unwrap_or, Result, Ok, Err}
use Rattle.script_model.specs.Syntax.{Item}
use Rattle.script_model.specs.TraceLines.{TraceLine, RoundLine}
use Rattle.page_model.specs.World.{World}
use Rattle.page_model.specs.Documents.{is_active}
use Rattle.page_model.specs.Gathering.{has_active}
use Rattle.page_model.specs.Names.{document_text}
use Rattle.page_model.specs.Runs.{Said, lifted, only_if}
use Rattle.page_model.specs.Callbacks.{Script}
use Rattle.page_model.specs.Loop.{Broadcast, broadcast, gather, round, round_ended}
use Rattle.page_laws.proofs.Changes.{gather-next}
use Rattle.loop_laws.specs.Rounds.{goes_on as has_round, round_depth}
use Rattle.trace_runs.specs.declared.faults.RunFault.{RunFault}
use Rattle.trace_runs.specs.Flows.{goes_on}
use Rattle.trace_runs.specs.Runs.{Runs}
use Rattle.trace_runs.specs.Writes.{Told}
use Rattle.trace_runs.proofs.Following.{lifted_cut, then_run}
use Rattle.trace_runs.proofs.Runs.{run_same, silent_run, say_run, unsaid_run, lifted_run, only_if_true, only_if_false}
use Rattle.frame_update.specs.Ready.{IsPrepared}
use Rattle.frame_update.proofs.Broadcasts.{broadcast_at, world_in}
use Rattle.frame_update.proofs.Ready.{ready_next}

gather-tree : (document depth : ℕ) (world : World) → (gather document depth world).tree ≡ world.tree
unfolding gather
gather-tree document depth world = refl

pub gathered_ready : (script : List Item) (document depth : ℕ) (world new : World) → new ≡ gather document depth world → IsPrepared script world → IsPrepared script new
gathered_ready script document depth world new is ready =
    subst (IsPrepared script) (sym is) (ready_next script world (gather document depth world) (gather-next document depth world) ready)

-- a further round follows where something is active, since the document is
pub active_round : {A : Type 0} (document depth : ℕ) (world new : World) (found : Option A) → new ≡ gather document depth world → is_active (world.tree) document ≡ true
    → cond (has_active document (new.resize_observers)) found None ≡ cond (has_round document new) found None
active_round document depth world new found gathered holds =
    let active : is_active (new.tree) document ≡ true =
    ap (λ (it : World). is_active (it.tree) document) gathered ∙ ap (λ tree. is_active tree document) (gather-tree document depth world) ∙ holds in
    ap (λ (test : Bool). cond (test && has_active document (new.resize_observers)) found None) (sym active)

module _ (script : Script) (document : ℕ) (world : World) where
  abbrev ends : Broadcast → Said Broadcast
  ends so_far = only_if (round_ended document) so_far (is_active (so_far.world.tree) document)

  -- the broadcast was cut off
  pub round_cut : {A B : Type 0} {state : World} (fault : RunFault) {before after : Option (List ℕ)} {f g : ℕ}
      → Runs {A = A} goes_on state (Err fault) before after f g (lifted world_in (broadcast script document world))
      → Runs {A = B} goes_on state (Err fault) before after f g (round script document world)
  round_cut fault run = lifted_cut world_in fault ends run

  -- the broadcast was run
  module _ {before mid : Option (List ℕ)} {f fm : ℕ} (least : Option ℕ) (now : World)
      (ran : Runs goes_on now (Ok least) before mid f fm (lifted world_in (broadcast script document world)))
      (shallowest : (broadcast script document world).state.shallowest ≡ least) where
    run : Runs goes_on (broadcast_at least now) (Ok least) before mid f fm (broadcast script document world)
    run = record {
      ended = record {
        written = ran.ended.written;
        unfailed = ran.ended.unfailed;
        flow_is = ran.ended.flow_is;
        state_is =
            ap (broadcast_at ((broadcast script document world).state.shallowest)) ran.ended.state_is ∙ ap (λ (depth : Option ℕ). broadcast_at depth now) shallowest;
      };
      cut_off = tt;
    }

    abbrev depth : ℕ
    depth = unwrap_or least 0

    abbrev line : TraceLine
    line = RoundLine (document_text (now.names) document) depth

    -- the document isn't Active any more
    pub round_left : is_active (now.tree) document ≡ false → Runs {A = Option ℕ} goes_on now (Ok None) before mid f fm (round script document world)
    round_left fails =
        lifted_run world_in (Ok None)
        (then_run {state' = broadcast_at least now} (Ok None) ends refl run
        (run_same (sym (only_if_false (round_ended document) (broadcast_at least now) fails)) (silent_run refl)))

    module _ (holds : is_active (now.tree) document ≡ true) {after : Option (List ℕ)} {g : ℕ} where
      ended-run : {A : Type 0} {state : World} (result : Result A RunFault) → Runs goes_on (broadcast_at least state) result mid after fm g (round_ended document (broadcast_at least now))
          → Runs goes_on state result before after f g (round script document world)
      ended-run {state = state} result rest =
          lifted_run world_in result
          (then_run {state' = broadcast_at least state} result ends refl run
          (run_same (sym (only_if_true (round_ended document) (broadcast_at least now) holds)) rest))

      -- the writing of the line was cut off
      pub round_unsaid : {A : Type 0} {state : World} (name : List ℕ) (least_depth : ℕ) (fault : RunFault) → name ≡ document_text (now.names) document → least_depth ≡ depth
          → Told {A = Unit {0}} (Err fault) mid after fm g (RoundLine name least_depth ∷ []) → Runs {A = A} goes_on state (Err fault) before after f g (round script document world)
      round_unsaid name least_depth fault named is wrote =
          ended-run (Err fault)
          (unsaid_run fault {lines = line ∷ []}
          (subst (λ (it : TraceLine). Told {A = Unit {0}} (Err fault) mid after fm g (it ∷ []))
          (ap (λ (text : List ℕ). RoundLine text least_depth) named ∙ ap (RoundLine (document_text (now.names) document)) is) wrote))

      -- the line was written, and observations were gathered
      pub round_said : {A : Type 0} (name : List ℕ) (least_depth : ℕ) (new : World) (value : A) → name ≡ document_text (now.names) document → least_depth ≡ depth
          → new ≡ gather document least_depth now → Told {A = Unit {0}} (Ok (tt {0})) mid after fm g (RoundLine name least_depth ∷ [])
          → Runs {A = A} goes_on new (Ok value) before after f g (round script document world)
      round_said {A = A} name least_depth new value named is gathered wrote =
          subst (λ (end : World). Runs {A = A} goes_on end (Ok value) before after f g (round script document world))
          (sym (gathered ∙ ap (λ (at : ℕ). gather document at now) is))
          (ended-run (Ok value)
          (say_run (Ok value) {lines = line ∷ []} {state = broadcast_at least (gather document depth now)}
          (subst (λ (it : TraceLine). Told {A = Unit {0}} (Ok (tt {0})) mid after fm g (it ∷ []))
          (ap (λ (text : List ℕ). RoundLine text least_depth) named ∙ ap (RoundLine (document_text (now.names) document)) is) wrote)))

    depth-is : depth ≡ round_depth script document world
    unfolding round_depth
    depth-is = ap (λ (shallowest : Option ℕ). unwrap_or shallowest 0) (sym shallowest)

    -- the depth of the round, where a further one follows
    pub round_next : is_active (now.tree) document ≡ true → (least_depth : ℕ) (new : World) (found : Option ℕ) → least_depth ≡ depth → new ≡ gather document least_depth now
        → found ≡ cond (has_active document (new.resize_observers)) (Some least_depth) None
        → found ≡ cond (has_round document new) (Some (round_depth script document world)) None
    round_next holds least_depth new found is gathered was =
        was
        ∙ ap (λ (it : ℕ). cond (has_active document (new.resize_observers)) (Some it) None) (is ∙ depth-is)
        ∙ active_round document least_depth now new (Some (round_depth script document world)) gathered holds
