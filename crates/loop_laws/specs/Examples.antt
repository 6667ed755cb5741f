-- What the definitions give for the resize loop of the top document after the items of a script have been run.
use Rattle.std.specs.Prelude.{ℕ, List, [], map, flat_map, length, Ok, Err}
use Rattle.script_model.specs.Scripts.{handlers_in}
use Rattle.script_model.specs.Reading.{Reading, reading}
use Rattle.page_model.specs.World.{World}
use Rattle.page_model.specs.Callbacks.{Script}
use Rattle.page_model.specs.Outcome.{opening_world, run_items}
use Rattle.loop_laws.specs.Moments.{broadcast_moments}
use Rattle.loop_laws.specs.Rounds.{round_depth}
use Rattle.loop_laws.specs.Uprooting.{uprootings}
use Rattle.loop_laws.specs.WholeLoops.{round_starts, delivered_depths}

-- for each round its depth, how many commands it runs and how many of them uproot; and the depths of everything that is delivered
pub record SeenLoop : Type 0 where
  pub depths : List ℕ
  pub commands : List ℕ
  pub uprootings : List ℕ
  pub delivered : List ℕ

abbrev pub rounds_seen : Script → List World → SeenLoop
rounds_seen script starts = record {
  depths = map (round_depth script 0) starts;
  commands = map (λ start. length (broadcast_moments script 0 start)) starts;
  uprootings = map (uprootings script 0) starts;
  delivered = flat_map (delivered_depths script 0) starts;
}

unfoldable pub loop_read : Reading → SeenLoop
unfolding run_items handlers_in round_starts round_depth broadcast_moments uprootings delivered_depths
loop_read (Ok script) =
    rounds_seen (handlers_in (script.items)) (round_starts (handlers_in (script.items)) 0 (run_items (script.items) (opening_world (script.version))).state)
loop_read (Err refusal) = record { depths = []; commands = []; uprootings = []; delivered = [] }

unfoldable pub loop_seen : List ℕ → SeenLoop
unfolding reading loop_read
loop_seen text = loop_read (reading text)
