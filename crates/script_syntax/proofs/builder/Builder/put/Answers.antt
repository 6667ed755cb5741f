use Rattle.std.proofs.Common.{Some}
use Rattle.std.proofs.lemmas.List.Elements.{All-pop, All-same}
use Rattle.script_syntax.specs.Allowed.{IsAllowed}
use Rattle.script_syntax.specs.Frames.{FrameAllowed}
use Rattle.script_syntax.proofs.Opened.{frame_pushed, command_pushed}
use Rattle.script_syntax.proofs.builder.Builder.put.Goals as goal

pub invariant_of-self-in-Some : goal.invariant_of-self-in-Some
invariant_of-self-in-Some c =
    let p = All-pop FrameAllowed c.self.inside.frames.items c.pop.new.self.items (Some c.in-Some.frame) c.in-Some.ensures.items c.self.invariant.0 in
    let q : FrameAllowed c.in-Some.frame = p.1 in (
      All-same FrameAllowed _ _ c.in_ok-push-2.ensures.items
          (frame_pushed _ _ p.0 q.0 (All-same IsAllowed _ _ c.in_ok-push.ensures.items (command_pushed _ _ q.1 c.requires))),
      c.self.invariant.1,
    )
