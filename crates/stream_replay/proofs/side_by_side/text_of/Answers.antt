use Rattle.std.proofs.Common.{◌∙◌, ◌++◌, ap, ℕ, List, length, take, arith}
use Rattle.std.specs.Prelude.{slice_range, slice_index_or}
use Rattle.script_model.specs.Reading.{reading}
use Rattle.page_stream.specs.declared.stream.Part.{Part}
use Rattle.page_stream.proofs.Bounds.{part_stands, script_all}
use Rattle.script_source.proofs.FirstBytes.{first_bytes_read}
use Rattle.stream_replay.proofs.Feeding.{fed_on}
use Rattle.stream_replay.proofs.side_by_side.text_of.Goals as goal

pub feed_part-requires-clause-from : goal.feed_part-requires-clause-from
feed_part-requires-clause-from c = (part_stands c.args.stream.now c.loop-part.part-index (record { line = 0; page = 0; from = 0; to = 0 }) c.parts-parts.ensures c.loop-part-test.true).0

pub feed_part-requires-clause-to : goal.feed_part-requires-clause-to
feed_part-requires-clause-to c =
    let within = (part_stands c.args.stream.now c.loop-part.part-index (record { line = 0; page = 0; from = 0; to = 0 }) c.parts-parts.ensures c.loop-part-test.true).1 in
    omega (arith, ap length c.source-source.ensures)

pub loop-part-preserved : goal.loop-part-preserved
loop-part-preserved c =
    let part : Part = slice_index_or c.parts-parts.result.now c.loop-part.part-index (record { line = 0; page = 0; from = 0; to = 0 }) in
    fed_on c.args.page c.args.stream.now c.loop-part.part-index (record { line = 0; page = 0; from = 0; to = 0 }) c.parts-parts.ensures c.loop-part-test.true c.loop-part.text c.feed_part.new.text c.loop-part.invariant
    (λ same. c.in-Ok.ensures.own same ∙ ap (λ (source : List ℕ). take 16777217 (c.loop-part.text ++ slice_range source part.from part.to)) c.source-source.ensures)
    c.in-Ok.ensures.other

pub returns-clause-text : goal.returns-clause-text
returns-clause-text c =
    let long = ap length c.parts-parts.ensures in
    ap reading (c.loop-part.invariant ∙ ap (take 16777217) (script_all c.args.page c.args.stream.now c.loop-part.part-index (omega arith)))
    ∙ first_bytes_read _
