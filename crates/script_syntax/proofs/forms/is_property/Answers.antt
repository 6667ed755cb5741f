use Rattle.std.proofs.Common.{◌∙◌, sym}
use Rattle.script_syntax.proofs.forms.is_property.Goals as goal

pub returns : goal.returns
returns c = c.has.ensures ∙ sym (c.first_version.ensures c.args.version)
