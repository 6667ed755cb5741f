-- How a proof tells pairs apart.
use Rattle.std.specs.Coded.{Coded, coded_ℕ}
use Rattle.std.specs.FinMap.{FinMap, code}
use Rattle.std.specs.Ordering.{nat_cmp}
use Rattle.kept_clips.specs.declared.pair.Pair.{Pair}
use Rattle.kept_clips.specs.contracts.pair.Pair as pair

abbrev pub pairs_code : Coded (FinMap nat_cmp Pair)
pairs_code = code coded_ℕ pair.the_row.coded
