use Rattle.std.proofs.Common.{◌≡◌, ◌∙◌, None, ap, sym, subst}
use Rattle.clip_chain.specs.Worlds.{element_spot}
use Rattle.kept_clips.specs.Held.{HeldClips, new_pair, pair_at, IsHeld, without_pair}
use Rattle.kept_findings.specs.Held.{HeldFindings}
use Rattle.kept_findings.proofs.Registering.{undone, put_own}
use Rattle.kept_findings.proofs.findings.KeptFindings.register.Goals as goal

pub release-requires : goal.release-requires
release-requires c =
    subst (λ (clips : HeldClips). IsHeld clips c.args.registration.0) (sym c.in_ok-hold.ensures.held)
    (put_own c.self.inside.clips.pairs c.args.registration.0 (new_pair c.spot_of_root.result (element_spot c.args.target.0)))

pub returns-in-Err-clause-same : goal.returns-in-Err-clause-same
returns-in-Err-clause-same c =
    let clips : HeldClips = c.self.inside.clips in
    let none : pair_at clips c.args.registration.0 ≡ None = subst (λ (h : HeldFindings). pair_at h.clips c.args.registration.0 ≡ None) (sym c.self.view_is) c.requires in
    let back : c.release.new.self ≡ clips =
    c.release.ensures.released
    ∙ ap (without_pair c.args.registration.0) c.in_ok-hold.ensures.held
    ∙ (λ i. record clips { pairs = undone clips.pairs c.args.registration.0 (new_pair c.spot_of_root.result (element_spot c.args.target.0)) none i }) in
    let index = c.in-Err.ensures.same in
    (λ i. record { seen = c.self.inside.seen; clips = back i; kept = index i }) ∙ c.self.view_is
