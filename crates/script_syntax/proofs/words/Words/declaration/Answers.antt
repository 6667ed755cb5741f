use Rattle.std.proofs.Common.{◌≡◌, rules}
use Rattle.std.specs.Prelude.{Err}
use Rattle.script_model.specs.Forms.{part_as, DeclarationForm}
use Rattle.script_syntax.proofs.Declared.{declared_ok, declared_err}
use Rattle.script_syntax.proofs.words.Words.declaration.Goals as goal

pub returns-in-Ok-clause-value : goal.returns-in-Ok-clause-value
returns-in-Ok-clause-value c =
    declared_ok c.args.version _ _ _ _ _ _ c.in_ok-property.ensures (cc) c.in_ok-value.ensures c.in-Ok.ensures.ok

pub returns-in-Err-clause-value : goal.returns-in-Err-clause-value
returns-in-Err-clause-value c =
    let fails : part_as (DeclarationForm c.args.version) c.args.self.now ≡ Err c.in_ok-value.value.column =
    declared_err c.args.version _ _ _ _ _ _ c.in_ok-property.ensures (cc) c.in_ok-value.ensures c.in-Err.ensures.err in
    search (rules, fails)
