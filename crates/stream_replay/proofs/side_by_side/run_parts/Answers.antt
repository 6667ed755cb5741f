use Rattle.std.proofs.Common.{refl, ◌≤◌, ℕ, get_or, length, map, arith}
use Rattle.std.proofs.lemmas.List.Elements.{All-set}
use Rattle.page_stream.specs.declared.stream.Part.{Part}
use Rattle.stream_replay.specs.StreamPages.{seen_page, IsReadyPage}
use Rattle.stream_replay.proofs.NamedLines.{stopped}
use Rattle.stream_replay.proofs.SideBySide.{turning_none, turning_more, turning_same, turning_cut, turning_fit, page_at}
use Rattle.stream_replay.proofs.side_by_side.run_parts.Goals as goal
use Rattle.stream_replay.proofs.side_by_side.run_parts.Goals.{then-part-pages+in_ok-take_turn, else-part-pages}

pub loop-part-init : goal.loop-part-init
loop-part-init g c = turning_none c.args.pages.now c.args.parts.now _ _ c.requires

pub returns-in_err-take_turn-clause-wrote : goal.returns-in_err-take_turn-clause-wrote
returns-in_err-take_turn-clause-wrote g c =
    let d : Part = record { line = 0; page = 0; from = 0; to = 0 } in
    let place : ℕ = (get_or c.args.parts.now c.loop-part.part-index d).page in
    stopped c.from_residual.result c.in_err-take_turn.field-0.0 _ _ _ _ _ c.from_residual.ensures
    (turning_cut (Unit {0}) (Unit {0}) (map seen_page c.args.pages.now) c.args.parts.now c.loop-part.part-index c.loop-part.pages _ _ _ _ _ _ c.in_err-take_turn.field-0.0 (get_or c.args.parts.now c.loop-part.part-index d) d
    (get_or c.loop-part.pages place c.index-pages-part.result) c.loop-part.invariant c.loop-part-test.true refl (page_at c.loop-part.pages place c.index-pages-part.result c.if-part-pages.true) c.in_err-take_turn.ensures.wrote)

pub loop-part-preserved : goal.loop-part-preserved
loop-part-preserved g c =
    let d : Part = record { line = 0; page = 0; from = 0; to = 0 } in
    let place : ℕ = (get_or c.args.parts.now c.loop-part.part-index d).page in
    elim c.if-part-pages.branch [
      | then-part-pages+in_ok-take_turn w ↦
          rw (w.pages-is, w.sink-is)
          (turning_more (get_or c.args.parts.now c.loop-part.part-index d) d (get_or c.loop-part.pages place w.index-pages-part.result) w.take_turn.new.page c.loop-part.invariant c.loop-part-test.true refl
          (page_at c.loop-part.pages place w.index-pages-part.result w.if-part-pages.true) w.in_ok-take_turn.ensures.wrote.0 w.in_ok-take_turn.ensures.wrote.1 w.in_ok-take_turn.ensures.lines w.in_ok-take_turn.ensures.page
          (All-set IsReadyPage c.loop-part.pages place w.take_turn.new.page w.in_ok-take_turn.ensures.ready c.loop-part.invariant.ready))
      | else-part-pages w ↦
          rw (w.pages-is, w.sink-is)
          (turning_same (get_or c.args.parts.now c.loop-part.part-index d) d c.loop-part.invariant c.loop-part-test.true refl (omega (arith, w.if-part-pages.false)))
    ]

pub returns-clause-lines : goal.returns-clause-lines
returns-clause-lines g c =
    let past : length c.args.parts.now ≤ c.loop-part.part-index = omega (arith, c.loop-part-test.false) in
    turning_fit c.loop-part.invariant past
