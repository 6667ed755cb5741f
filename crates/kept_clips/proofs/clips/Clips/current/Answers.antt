use Rattle.std.proofs.Common.{◌≡◌, ◌∙◌, ap, sym, subst}
use Rattle.clip_chain.specs.Chains.{Leads}
use Rattle.kept_clips.specs.declared.pair.Pair.{Pair}
use Rattle.kept_clips.specs.Held.{HeldClips, pair_of, spots_at, computed_now}
use Rattle.kept_clips.specs.Chains.{IsExact}
use Rattle.kept_clips.proofs.Pairs.{exact_inserted, spots_computed}
use Rattle.kept_clips.proofs.clips.Clips.current.Goals as goal

pub returns-clause-exact : goal.returns-clause-exact
returns-clause-exact g c =
    let scene = g.G.Geometry.scene c.args.geometry.now in
    let it : HeldClips = c.args.self.now in
    let pair_is : c.held_pair-pair.result ≡ pair_of it c.args.number = c.held_pair-pair.ensures in
    λ other exact.
    subst (λ (held : HeldClips). IsExact scene held other) (sym c.store.ensures)
    (exact_inserted scene it c.args.number (computed_now c.clip_between-clip.result (it.touches) (pair_of it c.args.number)) other
    (λ between lead current. c.clip_between-clip.ensures.clip between (subst (λ (pair : Pair). Leads scene pair.of between pair.root) (sym pair_is) lead))
    exact)

pub returns-clause-spots : goal.returns-clause-spots
returns-clause-spots g c = λ other.
    ap (λ (held : HeldClips). spots_at held other) c.store.ensures
    ∙ spots_computed c.args.self.now c.args.number other c.clip_between-clip.result c.requires.held
