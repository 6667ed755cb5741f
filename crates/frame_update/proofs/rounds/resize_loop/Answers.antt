use Rattle.std.proofs.Common.{◌∙◌, ap, refl, subst}
use Rattle.std.specs.Borrow.{Bor}
use Rattle.script_model.specs.Syntax as syntax
use Rattle.page_model.specs.Callbacks.{Script}
use Rattle.page_model.specs.Loop.{resize_loop}
use Rattle.page_state.specs.Views.{PageView}
use Rattle.frame_update.specs.Ready.{IsPrepared}
use Rattle.frame_update.proofs.Going.{over_first, passed_on, stopped}
use Rattle.frame_update.proofs.RoundLoops.{AreLaws, loop_begins, loop_cut, loop_done, loop_on, loop_smaller}
use Rattle.frame_update.proofs.rounds.resize_loop.Goals as goal

pub loop-gathered-init : goal.loop-gathered-init
loop-gathered-init g c =
    let it = c.resize_loops_come_to_rest.ensures in
    let laws : AreLaws = record { gathered = it.gathered; falls = it.falls; begins = it.begins; unrolled = it.unrolled; ended = it.ended; loops = it.loops } in
    record {
      loop =
          loop_begins laws c.args.run.now.script.now.items c.args.document.0 _ _ c.args.run.now.page.now.world c.gather-gathered.new.page.world c.gather-gathered.result c.requires.ready c.requires.active
          (ap (λ (page : PageView). page.world) c.gather-gathered.ensures.gathered) c.gather-gathered.ensures.active;
      script = refl;
      lent = refl;
    }

pub round-requires : goal.round-requires
round-requires g c = record { ready = c.loop-gathered.invariant.loop.ready }

pub returns-in_err-gathered : goal.returns-in_err-gathered
returns-in_err-gathered g c =
    let it = c.resize_loops_come_to_rest.ensures in
    let laws : AreLaws = record { gathered = it.gathered; falls = it.falls; begins = it.begins; unrolled = it.unrolled; ended = it.ended; loops = it.loops } in
    let round = c.in_err-gathered.ensures.goes in
    stopped c.from_residual.result c.in_err-gathered.field-0.0 c.from_residual.ensures (round.script ∙ c.loop-gathered.invariant.script) (round.lent ∙ c.loop-gathered.invariant.lent)
    round.ready
    (over_first (λ (script : Script). resize_loop script c.args.document.0 c.args.run.now.page.now.world) c.loop-gathered.invariant.script
    (loop_cut laws c.loop-gathered.invariant.loop c.in-Some.field-0 c.in-Some.is c.in_err-gathered.field-0.0 round.says))

pub loop-gathered-smaller : goal.loop-gathered-smaller
loop-gathered-smaller g c =
    let it = c.resize_loops_come_to_rest.ensures in
    let laws : AreLaws = record { gathered = it.gathered; falls = it.falls; begins = it.begins; unrolled = it.unrolled; ended = it.ended; loops = it.loops } in
    loop_smaller laws c.loop-gathered.invariant.loop c.in-Some.field-0 c.in-Some.is c.in_ok-gathered.ensures.goes.says c.in_ok-gathered.ensures.depth

pub loop-gathered-preserved : goal.loop-gathered-preserved
loop-gathered-preserved g c =
    let it = c.resize_loops_come_to_rest.ensures in
    let laws : AreLaws = record { gathered = it.gathered; falls = it.falls; begins = it.begins; unrolled = it.unrolled; ended = it.ended; loops = it.loops } in
    let round = c.in_ok-gathered.ensures.goes in
    record {
      loop =
          rw round.script
          (loop_on laws c.loop-gathered.invariant.loop c.in-Some.field-0 c.in-Some.is round.says c.in_ok-gathered.ensures.depth
          (subst (λ (it : Bor syntax.Script). IsPrepared it.now.items c.round.new.run.page.now.world) round.script round.ready));
      script = round.script ∙ c.loop-gathered.invariant.script;
      lent = round.lent ∙ c.loop-gathered.invariant.lent;
    }

pub report_skipped-requires : goal.report_skipped-requires
report_skipped-requires g c = record { ready = c.loop-gathered.invariant.loop.ready }

pub returns : goal.returns
returns g c =
    let it = c.resize_loops_come_to_rest.ensures in
    let laws : AreLaws = record { gathered = it.gathered; falls = it.falls; begins = it.begins; unrolled = it.unrolled; ended = it.ended; loops = it.loops } in
    passed_on c.report_skipped.ensures c.loop-gathered.invariant.script c.loop-gathered.invariant.lent
    (over_first (λ (script : Script). resize_loop script c.args.document.0 c.args.run.now.page.now.world) c.loop-gathered.invariant.script
    (loop_done laws c.loop-gathered.invariant.loop c.report_skipped.result c.in_default.is c.report_skipped.ensures.says))
