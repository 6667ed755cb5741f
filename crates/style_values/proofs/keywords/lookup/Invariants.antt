use Rattle.std.proofs.Common.{◌≡◌, map, length}
use Rattle.script_model.specs.Keywords.{keyword, lookup}
use Rattle.style_values.proofs.keywords.lookup.Given as goal

abbrev pub invariant-loop-table : goal.invariant-loop-table
invariant-loop-table g l = lookup (map (λ row. keyword row.0.now row.1) l.table) l.word ≡ lookup (map (λ row. keyword row.0.now row.1) l.fn.table) l.word

abbrev pub decreases-loop-table : goal.decreases-loop-table
decreases-loop-table g l = length l.table
