use Rattle.std.proofs.Common.{sym, subst}
use Rattle.kept_clips.specs.Touches.{Touched, with_spot}
use Rattle.kept_clips.specs.Held.{HeldClips}
use Rattle.kept_clips.specs.Numbers.{AreNumbered}
use Rattle.kept_clips.specs.Chains.{IsExact}
use Rattle.kept_clips.proofs.Pairs.{either}
use Rattle.kept_clips.proofs.Adding.{exact_added, numbered_added}
use Rattle.kept_clips.proofs.clips.Clips.add.Goals as goal

pub invariant_of-self : goal.invariant_of-self
invariant_of-self c =
    let it : HeldClips = record { touches = c.self.inside.touches; pairs = c.self.inside.pairs } in
    either c.add.result (λ (touches : Touched). AreNumbered (record { touches = touches; pairs = c.self.inside.pairs }))
    c.self.inside.touches c.add.new.self (with_spot c.args.of (it.touches)) c.add.ensures.added c.add.ensures.same
    (numbered_added c.args.of it c.self.invariant) c.self.invariant

pub returns-clause-exact : goal.returns-clause-exact
returns-clause-exact c =
    let it : HeldClips = record { touches = c.self.inside.touches; pairs = c.self.inside.pairs } in
    λ scene other exact.
    let before : IsExact scene it other = subst (λ (held : HeldClips). IsExact scene held other) (sym c.self.view_is) exact in
    either c.add.result (λ (touches : Touched). IsExact scene (record { touches = touches; pairs = c.self.inside.pairs }) other)
    c.self.inside.touches c.add.new.self (with_spot c.args.of (it.touches)) c.add.ensures.added c.add.ensures.same
    (exact_added scene c.args.of it other before) before
