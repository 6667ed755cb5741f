-- The trace line of an intersection observer's entry. Its rectangles are those of the finding, in the same coordinates.
use Rattle.std.specs.Prelude.{ℕ, List, map}
use Rattle.script_model.specs.TraceLines.{TraceLine, IntersectLine}
use Rattle.page_model.specs.World.{Entry, Name}
use Rattle.page_model.specs.Names.{element_text, intersection_observer_text}

unfoldable pub intersection_line : List Name → ℕ → Entry → TraceLine
intersection_line names observer entry =
    IntersectLine (record {
      observer = intersection_observer_text names observer;
      target = element_text names (entry.target);
      time = entry.time;
      meets = entry.finding.meets;
      part = entry.finding.part;
      whole = entry.finding.whole;
      root = entry.finding.root;
      bounds = entry.finding.bounds;
      cut = entry.finding.cut;
    })

unfoldable pub intersection_lines : List Name → ℕ → List Entry → List TraceLine
unfolding intersection_line
intersection_lines names observer entries = map (intersection_line names observer) entries
