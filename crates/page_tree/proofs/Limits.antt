-- The numbers of elements that a page may have.
use Rattle.std.proofs.Common.{◌≤◌, ◌<◌, ◌^◌, lit≤, lit<}
use Rattle.text_io.specs.declared.kinds.LimitKind.TheVariants as limits
use Rattle.text_io.specs.declared.kinds.Version.{Version}
use Rattle.text_io.specs.declared.kinds.Version.TheVariants.{First, Second}
use Rattle.text_io.specs.Limits.{limit_number}

pub some_nodes : (version : Version) → 1 ≤ limit_number version limits.Nodes
some_nodes First = lit≤ tt
some_nodes Second = lit≤ tt

pub few_nodes : (version : Version) → limit_number version limits.Nodes < 2 ^ 32
few_nodes First = lit< tt
few_nodes Second = lit< tt
