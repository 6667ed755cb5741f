-- How a proof tells apart what is kept.
use Rattle.std.specs.Prelude.{Option}
use Rattle.std.specs.Coded.{Coded, coded_ℕ, coded_option}
use Rattle.std.specs.FinMap.{FinMap, code}
use Rattle.std.specs.Ordering.{nat_cmp}
use Rattle.candidate_index.specs.declared.index.Kept.{Kept}
use Rattle.candidate_index.specs.contracts.index.Kept as kept

abbrev pub index_code : Coded (FinMap nat_cmp (Option Kept))
index_code = code coded_ℕ (coded_option kept.the_row.coded)
