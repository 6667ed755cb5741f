use Rattle.std.proofs.Common.{◌≡◌, ap, refl}
use Rattle.std.specs.Prelude.{List, [], ◌∷◌, map}
use Rattle.page_model.specs.World.{Observation}
use Rattle.page_model.specs.Gathering.{Sight, size_entry}
use Rattle.depth_gather.specs.Entries.{seen_entry}
use Rattle.depth_gather.specs.Deliveries.{entries_in}
use Rattle.depth_gather.proofs.laws.entries_are_those_of_a_broadcast.Goals as goal

entries-stand : (sight : Sight) (active : List Observation) → map seen_entry (entries_in sight active) ≡ map (size_entry sight) active
entries-stand sight [] = refl
entries-stand sight (x ∷ xs) = ap (λ others. size_entry sight x ∷ others) (entries-stand sight xs)

pub returns-clause-entries : goal.returns-clause-entries
returns-clause-entries c = entries-stand
