use Rattle.std.proofs.Common.{◌∙◌, Option, IsSome, unwrap_or, ap, sym, subst}
use Rattle.kept_clips.specs.declared.pair.Pair.{Pair}
use Rattle.kept_clips.specs.Held.{HeldClips, pair_at, pair_of}
use Rattle.kept_clips.proofs.Pairs.{no_pair}
use Rattle.kept_clips.proofs.clips.Clips.held_pair.Goals as goal

pub unwrap-requires : goal.unwrap-requires
unwrap-requires c =
    subst (λ (o : Option Pair). IsSome o) (sym (c.get.ensures ∙ ap (λ (held : HeldClips). pair_at held c.args.number) c.self.view_is)) c.requires

pub returns : goal.returns
returns c =
    ap (λ (o : Option Pair). unwrap_or o no_pair) (sym c.unwrap.ensures ∙ c.get.ensures)
    ∙ ap (λ (held : HeldClips). pair_of held c.args.number) c.self.view_is
