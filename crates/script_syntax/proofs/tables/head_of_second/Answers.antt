use Rattle.std.proofs.Common.{◌≡◌, false, true, sym, ◌∙◌}
use Rattle.std.specs.Prelude.{bytes_eq, codes}
use Rattle.text_io.specs.declared.kinds.Version.TheVariants.{Second}
use Rattle.script_model.specs.Commands.{heads, ratio_head}
use Rattle.script_syntax.proofs.Lookups.{found_first, passed_first}
use Rattle.script_syntax.proofs.tables.head_of_second.Goals as goal

pub returns-then-eq : goal.returns-then-eq
returns-then-eq c =
    let same : bytes_eq c.args.word.now (codes "ratio") ≡ true = cc in
    sym (found_first ratio_head (heads Second) c.args.word.now same)

pub returns : goal.returns
returns c =
    let other : bytes_eq c.args.word.now (codes "ratio") ≡ false = cc in
    c.head_of_both.ensures Second ∙ sym (passed_first ratio_head (heads Second) c.args.word.now other)
