use Rattle.std.proofs.Common.{sym, ap, arith}
use Rattle.std.proofs.lemmas.Grind.{common_steps}
use Rattle.std.proofs.Math.ListN.{drop_of_length-le}
use Rattle.text_io.proofs.Pieces.{given_first}
use Rattle.text_io.proofs.memory.MemorySourceSource.read.Goals as goal

pub returns-clause-bytes : goal.returns-clause-bytes
returns-clause-bytes c =
    let fields = c.self.inside in (
      given_first _ c.args.into.now _ fields.bytes.items fields.given c.min-count.result (ap (λ s. s.left) (sym c.self.view_is)) (grind (arith, common_steps)) (cc c.copy_from_slice.ensures.after),
      λ none some. drop_of_length-le fields.bytes.items (grind (arith, common_steps)),
    )
