-- The outcome of a script: its trace, how it ends, and the final world; and the texts that are written for it. All of this is this
-- project's own choice.
use Rattle.std.specs.Prelude.{ℕ, List, [], ◌∷◌, ◌++◌, flat_map, None, Ok, Err, codes}
use Rattle.word_model.specs.Numbers.{decimal}
use Rattle.text_io.specs.declared.kinds.Version.{Version}
use Rattle.text_io.specs.declared.kinds.Version.TheVariants.{First}
use Rattle.script_model.specs.Syntax.{Item, Outside, Tick, Handler}
use Rattle.script_model.specs.Scripts.{NamedBlock, handlers_in, command_count}
use Rattle.script_model.specs.Reading.{Reading, reading, Refusal, SyntaxAt, LimitAt, refusal_line}
use Rattle.script_model.specs.TraceLines.{TraceLine}
use Rattle.script_model.specs.TraceText.{line_text}
use Rattle.script_model.specs.Summary.{summary_text}
use Rattle.page_model.specs.World.{World, Active, DocumentThing}
use Rattle.page_model.specs.Operands.{NoEntry}
use Rattle.page_model.specs.Runs.{Flow, Next, Thrown, Limited, Said, silent, for_each, caught}
use Rattle.page_model.specs.Callbacks.{run_command, once_begun, answered}
use Rattle.page_model.specs.Ticks.{time_set, tick}

-- the world at the start: an Active, empty top document with a viewport of 800 by 600 pixels, at one device pixel per pixel
abbrev pub opening_world : Version → World
opening_world version = record {
  tree = record { elements = []; documents = record { state = Active; frame = None; root = None } ∷ [] };
  names = record { text = codes "top"; thing = DocumentThing 0 } ∷ [];
  viewports = record { screen = record { size = record { across = 51200; down = 38400 }; ratio = 10000 }; noted = [] };
  scrolls = record { elements = []; documents = []; pending = [] };
  resize_observers = record { given = 0; made = [] };
  intersection_observers = record { given = 0; made = [] };
  scroll_margins = [];
  notifying = [];
  queries = [];
  listeners = record { given = 0; held = [] };
  frame_callbacks = record { given = 0; held = [] };
  timers = record { given = 0; held = [] };
  tasks = [];
  version = version;
  clock = 0;
  begun = 0;
}

-- a tick begins like any other command
abbrev pub run_tick : List NamedBlock → ℕ → ℕ → World → Said World
run_tick script line time world =
    once_begun line world λ begun. answered line begun (tick script) (time_set time begun)

-- an item of a script, of which a handler does nothing by itself; a throw ends this item only
unfoldable pub run_item : List NamedBlock → Item → World → Said World
unfolding caught run_command answered once_begun tick
run_item script (Outside command) world = caught (run_command script [] command NoEntry world)
run_item script (Tick line time) world = caught (run_tick script line time world)
run_item script (Handler line name block end_line) world = silent world

unfoldable pub run_items : List Item → World → Said World
unfolding for_each run_item handlers_in
run_items items world = for_each (run_item (handlers_in items)) items world

-- how a script ends: after its last command, with a fault in its text, or at a limit. The last line says where the fault or the limit
-- was met
pub data Ending : Type 0 where
  Ended : Ending
  Faulty : Ending
  LimitMet : Ending

pub record Outcome : Type 0 where
  pub lines : List TraceLine
  pub ending : Ending
  pub world : World

unfoldable pub ending_of : Flow → Ending
ending_of Next = Ended
ending_of Thrown = Ended
ending_of Limited = LimitMet

abbrev pub refused_ending : Refusal → Ending
refused_ending (SyntaxAt line column) = Faulty
refused_ending (LimitAt limit line) = LimitMet

abbrev pub outcome_said : Said World → Outcome
outcome_said said = record { lines = said.lines; ending = ending_of (said.flow); world = said.state }

-- a text that is refused isn't run, so its final world is one at the start of a run
unfoldable pub outcome_read : Reading → Outcome
unfolding run_items ending_of
outcome_read (Ok script) = outcome_said (run_items (script.items) (opening_world (script.version)))
outcome_read (Err refusal) =
    record { lines = refusal_line refusal ∷ []; ending = refused_ending refusal; world = opening_world First }

unfoldable pub outcome : List ℕ → Outcome
unfolding reading outcome_read
outcome text = outcome_read (reading text)

-- the bytes of a list of lines
unfoldable pub bytes_of : List TraceLine → List ℕ
unfolding line_text
bytes_of lines = flat_map line_text lines

-- what is written when a script is replayed
unfoldable pub trace : List ℕ → List ℕ
unfolding outcome bytes_of
trace text = bytes_of (outcome text).lines

-- the number of a script's commands, including those in handlers and blocks; for a text that is refused, its one line
unfoldable pub check_read : Reading → List ℕ
unfolding command_count decimal line_text
check_read (Ok script) = codes "ok " ++ decimal (command_count (script.items)) ++ codes "\n"
check_read (Err refusal) = line_text (refusal_line refusal)

unfoldable pub check_text : List ℕ → List ℕ
unfolding reading check_read
check_text text = check_read (reading text)

-- how many lines of each kind the trace has; for a text that is refused, its one line
unfoldable pub summary_read : Reading → List ℕ
unfolding run_items line_text summary_text
summary_read (Ok script) = summary_text (run_items (script.items) (opening_world (script.version))).lines
summary_read (Err refusal) = line_text (refusal_line refusal)

unfoldable pub summary_of : List ℕ → List ℕ
unfolding reading summary_read
summary_of text = summary_read (reading text)
