use Rattle.std.proofs.Common.{refl, rules}
use Rattle.text_io.proofs.Words.{padded}
use Rattle.text_io.proofs.name.Name.read.Goals as goal

pub invariant_of-result : goal.invariant_of-result
invariant_of-result c = padded c.args.word.now c.copy_from_slice.new.self _ c.copy_from_slice.ensures.after refl (search rules) (search rules) (search rules)
