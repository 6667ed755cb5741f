use Rattle.std.proofs.Common.{◌≡◌, ◌≤◌, true, sym, subst}
use Rattle.kept_clips.specs.Touches.{Touched, IsAdded, touched}
use Rattle.kept_clips.specs.Held.{HeldClips, pair_of}
use Rattle.kept_clips.specs.Numbers.{AreNumbered}
use Rattle.kept_clips.specs.Chains.{stands, IsExact}
use Rattle.kept_clips.proofs.Touching.{exact_touched, numbered_touched, stood, count_raised}
use Rattle.kept_clips.proofs.clips.Clips.touch.Goals as goal

pub invariant_of-self : goal.invariant_of-self
invariant_of-self c =
    let it : HeldClips = record { touches = c.self.inside.touches; pairs = c.self.inside.pairs } in
    let added = subst (λ (held : HeldClips). IsAdded held.touches c.args.of) (sym c.self.view_is) c.requires in
    subst (λ (touches : Touched). AreNumbered (record { touches = touches; pairs = c.self.inside.pairs })) (sym c.touch.ensures)
    (numbered_touched c.args.of it added c.self.invariant)

pub returns-clause-exact : goal.returns-clause-exact
returns-clause-exact c =
    let it : HeldClips = record { touches = c.self.inside.touches; pairs = c.self.inside.pairs } in
    let added = subst (λ (held : HeldClips). IsAdded held.touches c.args.of) (sym c.self.view_is) c.requires in
    λ before after number exact only.
    subst (λ (touches : Touched). IsExact after (record { touches = touches; pairs = c.self.inside.pairs }) number) (sym c.touch.ensures)
    (exact_touched c.args.of it before after added c.self.invariant number (subst (λ (held : HeldClips). IsExact before held number) (sym c.self.view_is) exact) only)

pub returns-clause-stood : goal.returns-clause-stood
returns-clause-stood c =
    let it : HeldClips = record { touches = c.self.inside.touches; pairs = c.self.inside.pairs } in
    let added = subst (λ (held : HeldClips). IsAdded held.touches c.args.of) (sym c.self.view_is) c.requires in
    λ number chain.
    subst (λ (held : HeldClips). stands c.touch.new.self (pair_of held number).computed chain ≡ true → stands held.touches (pair_of held number).computed chain ≡ true) c.self.view_is
    (λ current. stood c.args.of it.touches (pair_of it number).computed chain added (c.self.invariant.numbered number)
    (subst (λ (touches : Touched). stands touches (pair_of it number).computed chain ≡ true) c.touch.ensures current))

pub returns-clause-count : goal.returns-clause-count
returns-clause-count c =
    let it : HeldClips = record { touches = c.self.inside.touches; pairs = c.self.inside.pairs } in
    subst (λ (touches : Touched). c.args.self.now.touches.count ≤ touches.count) (sym c.touch.ensures)
    (subst (λ (held : HeldClips). held.touches.count ≤ (touched c.args.of (it.touches)).count) c.self.view_is (count_raised c.args.of it.touches c.self.invariant.counted))
