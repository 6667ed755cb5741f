use Rattle.std.proofs.Common.{◌∙◌, ap, ℕ, Vec, Global, length, arith}
use Rattle.page_stream.specs.Parts.{script_of}
use Rattle.page_stream.proofs.Bounds.{part_stands, script_more, script_same, script_all}
use Rattle.page_stream.proofs.stream.Stream.script.Goals as goal
use Rattle.page_stream.proofs.stream.Stream.script.Goals.{then-part-page+in_ok-extend_from_slice, else-part-page}

pub text_of-requires-clause-from : goal.text_of-requires-clause-from
text_of-requires-clause-from c =
    (part_stands c.self.inside.source.now c.loop-part.part-index (record { line = 0; page = 0; from = 0; to = 0 }) (c.deref-part-items.ensures.value ∙ c.self.invariant.1) c.loop-part-test.true).0

pub text_of-requires-clause-to : goal.text_of-requires-clause-to
text_of-requires-clause-to c =
    (part_stands c.self.inside.source.now c.loop-part.part-index (record { line = 0; page = 0; from = 0; to = 0 }) (c.deref-part-items.ensures.value ∙ c.self.invariant.1) c.loop-part-test.true).1

pub loop-part-preserved : goal.loop-part-preserved
loop-part-preserved c =
    elim c.if-part-page.branch [
      | then-part-page+in_ok-extend_from_slice w ↦
          script_more c.args.page c.self.inside.source.now c.loop-part.part-index (record { line = 0; page = 0; from = 0; to = 0 }) (c.deref-part-items.ensures.value ∙ c.self.invariant.1) c.loop-part-test.true w.if-part-page.true c.loop-part.invariant w.text_of.ensures
          (ap (λ (script : Vec ℕ Global). script.items) w.script-is ∙ w.in_ok-extend_from_slice.ensures.items)
      | else-part-page w ↦
          script_same c.args.page c.self.inside.source.now c.loop-part.part-index (record { line = 0; page = 0; from = 0; to = 0 }) (c.deref-part-items.ensures.value ∙ c.self.invariant.1) c.loop-part-test.true w.if-part-page.false c.loop-part.invariant
          (ap (λ (script : Vec ℕ Global). script.items) w.script-is)
    ]

pub returns : goal.returns
returns c =
    let long = ap length (c.deref-part-items.ensures.value ∙ c.self.invariant.1) in
    c.loop-part.invariant
    ∙ script_all c.args.page c.self.inside.source.now c.loop-part.part-index (omega arith)
    ∙ ap (λ source. script_of c.args.page source) c.self.view_is
