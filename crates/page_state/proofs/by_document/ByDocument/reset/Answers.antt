-- An entry is changed where there is one.
use Rattle.std.proofs.Common.{◌∙◌, ap, sym, arith}
use Rattle.page_model.specs.Lookups.{change_at}
use Rattle.page_state.proofs.Puts.{changed_within, changed_past}
use Rattle.page_state.proofs.by_document.ByDocument.reset.Goals as goal

pub returns-then-place-len : goal.returns-then-place-len
returns-then-place-len g c = changed_within c.args.value c.args.document.0 c.self.inside.entries.items ∙ ap (change_at (λ before. c.args.value) c.args.document.0) c.self.view_is

pub returns-else-place-len : goal.returns-else-place-len
returns-else-place-len g c =
    sym c.self.view_is
    ∙ changed_past c.args.value c.args.document.0 c.self.inside.entries.items (omega (arith, c.if-place-len.false, c.len.ensures, c.self.inside.entries.ok.0))
    ∙ ap (change_at (λ before. c.args.value) c.args.document.0) c.self.view_is
