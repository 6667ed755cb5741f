-- What is promised for the resize loops of a script's run (this project's own).
use Rattle.std.specs.Prelude.{◌≤◌, ◌<◌, ℕ, Bool, true, false, List, [], ◌∷◌, map, flat_map, length, ⊤}
use Rattle.script_model.specs.TraceLines.{TraceLine, EventLine, FiredError}
use Rattle.page_model.specs.Callbacks.{Script}
use Rattle.loop_laws.specs.Rounds.{round_depth}
use Rattle.loop_laws.specs.RunLoops.{Loop}
use Rattle.loop_laws.specs.WholeLoops.{round_starts, delivered_depths, greatest}

-- the depths of the rounds of a loop, as its round lines give them, and the depths of everything that it delivers
abbrev pub depths_of : Script → Loop → List ℕ
depths_of script loop = map (round_depth script (loop.document)) (round_starts script (loop.document) (loop.world))

abbrev pub delivered_by : Script → Loop → List ℕ
delivered_by script loop = flat_map (delivered_depths script (loop.document)) (round_starts script (loop.document) (loop.world))

-- each greater than the one before it
abbrev pub AreGrowing : ℕ → List ℕ → Type 0
AreGrowing before [] = ⊤
AreGrowing before (depth ∷ depths) = (before < depth) × AreGrowing depth depths

-- a loop whose depths start above 0 and increase, so that it has at most as many rounds as the greatest depth that it delivers, including
-- one that is cut short
pub record IsSteadyLoop (script : Script) (loop : Loop) : Type 0 where
  pub growing : AreGrowing 0 (depths_of script loop)
  pub short : length (depths_of script loop) ≤ greatest (delivered_by script loop)

-- the line of an error event that a resize loop fires
abbrev pub is_error_line : TraceLine → Bool
is_error_line (EventLine (FiredError document)) = true
is_error_line line = false
