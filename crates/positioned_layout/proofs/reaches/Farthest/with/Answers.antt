use Rattle.std.proofs.Common.{ap, sym, ◌∙◌}
use Rattle.std.proofs.lemmas.Int.{to_z-of_z}
use Rattle.std.specs.Prelude.{cond, unsigned_abs}
use mir.Syntax.{w64}
use Rattle.layout_model.specs.Points.{larger}
use Rattle.positioned_layout.specs.Seen.{pair_of_size}
use Rattle.positioned_layout.specs.Walked.{edges_past}
use Rattle.positioned_layout.proofs.Numbers.{farther_whole, pair_is}
use Rattle.positioned_layout.proofs.reaches.Farthest.with.Goals as goal

pub returns-clause-value : goal.returns-clause-value
returns-clause-value c =
    pair_is _ _ _ _
    (ap unsigned_abs (to_z-of_z w64 c.farther.result (record { sfits = c.farther.type_inv })) ∙ c.farther.ensures.value
    ∙ farther_whole c.args.self.size.width c.args.place.left c.args.border.width c.args.self.corner.left c.requires.room.width c.requires.place.0 c.requires.border.0 c.requires.room.corner.0)
    (ap unsigned_abs (to_z-of_z w64 c.farther-2.result (record { sfits = c.farther-2.type_inv })) ∙ c.farther-2.ensures.value
    ∙ farther_whole c.args.self.size.height c.args.place.top c.args.border.height c.args.self.corner.top c.requires.room.height c.requires.place.1 c.requires.border.1 c.requires.room.corner.1)
    ∙ sym (ap (λ b. cond b (larger (edges_past c.args.place c.args.border c.args.self.corner) (pair_of_size c.args.self.size)) (pair_of_size c.args.self.size)) c.if-not-opened.false)
