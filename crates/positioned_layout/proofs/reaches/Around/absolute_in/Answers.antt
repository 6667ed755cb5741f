use Rattle.std.proofs.Common.{◌≡◌, ◌+◌, inl, inr, true, ap, sym, subst, ◌∙◌, arith}
use Rattle.std.specs.Prelude.{not}
use Rattle.layout_model.specs.Nodes.{is_static}
use Rattle.style_values.specs.Seen.{seen_position}
use Rattle.positioned_layout.specs.Walked.{IsHeld}
use Rattle.positioned_layout.proofs.Numbers.{corner_more}
use Rattle.positioned_layout.proofs.Walking.{absolute_static, absolute_self}
use Rattle.positioned_layout.proofs.reaches.Around.absolute_in.Goals as goal

pub returns-in-Static-clause-value : goal.returns-in-Static-clause-value
returns-in-Static-clause-value c at view opens p n shallow up is known own =
    subst
    (λ by. IsHeld at view opens by c.args.self.absolute)
    (sym (absolute_static at p n shallow up (ap (λ q. not (is_static q)) (sym is ∙ ap seen_position c.in-Static.is))))
    known

pub returns-in-Static-clause-range : goal.returns-in-Static-clause-range
returns-in-Static-clause-range c boxes near own =
    (corner_more boxes (boxes + 1) c.args.self.absolute.corner.left (omega arith) near.0, corner_more boxes (boxes + 1) c.args.self.absolute.corner.top (omega arith) near.1)

pub returns-in-Relative : goal.returns-in-Relative
returns-in-Relative c = record {
  value = λ at view opens p n shallow up is known own. (
      let positioned : not (is_static (seen_position c.args.position)) ≡ true = elim c.in-Relative.is [
        | inl e ↦ ap (λ q. not (is_static (seen_position q))) e
        | inr more ↦ elim more [ inl e ↦ ap (λ q. not (is_static (seen_position q))) e | inr e ↦ ap (λ q. not (is_static (seen_position q))) e ]
      ] in
      subst (λ by. IsHeld at view opens by c.args.own) (sym (absolute_self at shallow n (ap (λ q. not (is_static q)) (sym is) ∙ positioned))) own);
  range = λ boxes near own. own;
}
