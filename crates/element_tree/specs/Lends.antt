-- The final value of a tree of which a `&mut` to one of its payloads was returned.
use Rattle.std.specs.Prelude.{ℕ}
use Rattle.std.specs.Borrow.{Lends, Fml, RattleType, MutBor}
use Rattle.element_tree.specs.Forest.{Forest}
use Rattle.element_tree.specs.Edits.{change_at, with_payload, with_nodes}
use Rattle.element_tree.specs.contracts.tree.Tree.{the_row}

module _ (P : RattleType) (tree : MutBor (Forest P.Denot)) (node : ℕ) where
  -- when the borrow `r` ends, the node has the last payload written through it
  abbrev pub lends_payload : MutBor P.Denot → Fml
  lends_payload r = Lends (the_row P) P tree r (λ payload. with_nodes (change_at (with_payload payload) node) tree.now)
