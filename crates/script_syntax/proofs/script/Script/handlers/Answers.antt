use Rattle.std.proofs.Common.{ap, ◌∙◌, length}
use Rattle.script_model.specs.Syntax.{Script}
use Rattle.script_model.specs.Scripts.{handlers_in}
use Rattle.script_syntax.proofs.Handlers.{handler_count}
use Rattle.script_syntax.proofs.script.Script.handlers.Goals as goal

pub returns : goal.returns
returns c =
    c.len.ensures ∙ c.self.inside.index.places.ok.0 ∙ handler_count _ _ _ c.self.invariant.2
    ∙ ap (λ (script : Script). length (handlers_in script.items)) c.self.view_is
