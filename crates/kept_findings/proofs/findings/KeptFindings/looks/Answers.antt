use Rattle.std.proofs.Common.{◌≡◌, ◌∙◌, ℕ, ap, sym, subst}
use Rattle.std.proofs.lemmas.Result.{IfOk-weaker}
use Rattle.element_tree.specs.declared.container.Container.{Container}
use Rattle.clip_chain.specs.Scenes.{Scene}
use Rattle.kept_findings.specs.Held.{HeldFindings}
use Rattle.kept_findings.specs.Looks.{LookedAt, no_looks, AreLooked}
use Rattle.kept_findings.proofs.Noting.{looked_first}
use Rattle.kept_findings.proofs.findings.KeptFindings.looks.Goals as goal

pub returns-clause-known : goal.returns-clause-known
returns-clause-known c =
    let seen = c.args.self.now.seen in
    IfOk-weaker c.new.result (λ (looks : LookedAt). looks ≡ no_looks c.self.inside.seen) (λ (looks : LookedAt). (scene : Scene) (rank : Container → ℕ) → AreLooked scene rank seen looks)
    (λ looks is scene rank. subst (AreLooked scene rank seen) (sym (is ∙ ap (λ (held : HeldFindings). no_looks held.seen) c.self.view_is)) (looked_first scene rank seen))
    c.new.ensures
