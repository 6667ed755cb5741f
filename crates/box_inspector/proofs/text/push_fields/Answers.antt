use Rattle.std.proofs.Common.{[], ◌∷◌, ap, ◌∙◌}
use Rattle.std.proofs.lemmas.Result.{on_ok_weaker}
use Rattle.word_model.specs.Numbers.{decimal}
use Rattle.trace_text.specs.Fields.{with_fields}
use Rattle.box_inspector.proofs.Texts.{fields_pushed}
use Rattle.box_inspector.proofs.text.push_fields.Goals as goal

pub returns : goal.returns
returns c = on_ok_weaker c.push_seen.result
    (λ e. fields_pushed _ _ _ _ _ c.args.line.now (c.in_ok-push_field.ensures.ok ∙ ap (λ name. with_fields c.args.out.now.items (name ∷ [])) c.bytes.ensures.value) (c.in_ok-push_number.ensures.ok ∙ ap (λ depth. with_fields c.push_field.new.out.items (decimal depth ∷ [])) c.from.ensures) c.in_ok-push_rect.ensures.ok e)
    c.push_seen.ensures
