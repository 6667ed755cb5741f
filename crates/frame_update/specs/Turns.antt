-- Turns of a broadcast (Resize Observer, 3.4).
use Rattle.std.specs.Prelude.{ℕ, ◌<◌, min, List, length, Option, None, Some}
use Rattle.std.specs.List.{AllByRecursion}
use Rattle.page_model.specs.World.{World}
use Rattle.depth_gather.specs.declared.entries.ResizeEntry.{ResizeEntry}

-- the lesser of the least depth so far, if there is one, and a further depth
abbrev pub least_with : Option ℕ → ℕ → ℕ
least_with None depth = depth
least_with (Some least) depth = min depth least

-- the entries are for elements that exist
abbrev pub AreEntriesIn : World → List ResizeEntry → Type 0
AreEntriesIn world entries = AllByRecursion (λ (entry : ResizeEntry). entry.target.0 < length world.tree.elements) entries
