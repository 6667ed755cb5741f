-- Open blocks and handlers, in the terms of the definition.
use Rattle.std.specs.Prelude.{map, reverse}
use Rattle.std.specs.List.{All}
use Rattle.script_model.specs.Reading as model
use Rattle.script_syntax.specs.declared.frames.Opening.{Opening}
use Rattle.script_syntax.specs.declared.frames.Opening.TheVariants as opening
use Rattle.script_syntax.specs.declared.frames.Frame.{Frame}
use Rattle.script_syntax.specs.Allowed.{IsAllowed, TestAllowed}
use Rattle.script_syntax.specs.Seen.{command_of, condition_of}

abbrev pub opening_of : Opening → model.Opening
opening_of opening.Each = model.EachBlock
opening_of (opening.When condition) = model.WhenBlock (condition_of condition)
opening_of (opening.Handler name) = model.HandlerBlock name

abbrev pub frame_of : Frame → model.Frame
frame_of frame = record {
  line = frame.line;
  opening = opening_of frame.opening;
  commands = reverse (map command_of frame.commands.items);
}

abbrev pub OpeningAllowed : Opening → Type 0
OpeningAllowed opening.Each = Unit {0}
OpeningAllowed (opening.When condition) = TestAllowed condition.asks
OpeningAllowed (opening.Handler name) = Unit {0}

abbrev pub FrameAllowed : Frame → Type 0
FrameAllowed frame = OpeningAllowed frame.opening × All IsAllowed frame.commands.items
