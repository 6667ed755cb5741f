use Rattle.std.proofs.Common.{◌≡◌, take}
use Rattle.page_stream.specs.Parts.{parts_of}
use Rattle.page_stream.proofs.Bounds.{text_in}
use Rattle.page_stream.proofs.stream.Stream.script.Given as goal

abbrev pub invariant-loop-part : goal.invariant-loop-part
invariant-loop-part l = l.script.items ≡ text_in l.page l.self-inside.source.now (take l.part-index (parts_of l.self-inside.source.now))
