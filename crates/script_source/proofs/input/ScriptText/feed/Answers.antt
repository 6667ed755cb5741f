use Rattle.std.proofs.Common.{◌∙◌, ◌++◌, ◌-◌, ap, arith, length, take}
use Rattle.std.specs.Prelude.{min}
use Rattle.script_lexer.specs.Texts.{Fed}
use Rattle.script_source.proofs.Reading.{fed_within}
use Rattle.script_source.proofs.input.ScriptText.feed.Goals as goal

pub returns-clause-ok : goal.returns-clause-ok
returns-clause-ok c =
    let text = c.self.inside.lexer.text in
    let piece = c.args.piece.now in
    ap (λ (fed : Fed). fed.text) c.in_ok-feed.ensures.ok
    ∙ ap (λ n. text ++ take n piece) (c.min.ensures ∙ ap (λ taken. min (length piece) (16777217 - taken)) c.self.invariant.1)
    ∙ fed_within 16777217 text piece (omega (arith, c.self.invariant.1, c.self.invariant.2))
    ∙ ap (λ fed. take 16777217 (fed ++ piece)) c.self.view_is
