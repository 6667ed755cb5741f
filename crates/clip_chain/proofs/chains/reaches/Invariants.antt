use Rattle.std.proofs.Common.{◌↔◌}
use Rattle.clip_chain.specs.Chains.{IsAbove}
use Rattle.clip_chain.proofs.chains.reaches.Given as goal

abbrev pub invariant-loop-next : goal.invariant-loop-next
invariant-loop-next g l =
    let scene = g.G.Geometry.scene l.geometry in
    IsAbove scene l.root l.spot ↔ IsAbove scene l.root l.fn.target

abbrev pub decreases-loop-next : goal.decreases-loop-next
decreases-loop-next g l = g.G.Geometry.rank l.geometry l.spot
