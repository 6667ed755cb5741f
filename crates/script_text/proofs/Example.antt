-- A script that is well formed.
use Rattle.std.proofs.Common.{[], ◌∷◌, refl, arith}
use Rattle.std.specs.Prelude.{codes}
use Rattle.text_io.specs.declared.kinds.Version.TheVariants.{First}
use Rattle.script_model.specs.Scripts.{handlers_in}
use Rattle.script_model.specs.Syntax.{Target, NoMore, Then, Simple, Each, Remove, Tick, Handler}
use Rattle.script_text.specs.NumberedLines.{items_lines, item_lines, command_lines, block_lines}
use Rattle.script_text.specs.ScriptText.{line_text, lines_text, script_text}
use Rattle.script_text.specs.WellFormed.{IsCommand, IsBlock, IsItem, AreItems, command_depth, block_depth, item_depth, items_depth, AreNew, Rise, AreShort, IsWellFormed}

pub well_formed : IsWellFormed (record { version = First; items = Handler 2 (codes "show") (Then (Each 3 (Then (Simple 4 (Remove Target)) NoMore) 6) NoMore) 7 ∷ Tick 9 16 ∷ [] })
unfolding handlers_in script_text lines_text line_text items_lines item_lines command_lines block_lines AreItems IsItem IsCommand IsBlock items_depth item_depth command_depth block_depth AreNew Rise AreShort
well_formed = record {
  operands = ((refl, ((record { known = refl; operands = (tt, tt) }, tt), tt)), (omega arith, tt));
  nested = omega arith;
  few_handlers = omega arith;
  names_differ = (refl, tt);
  numbers_rise = (omega arith, (omega arith, (omega arith, (omega arith, (omega arith, (omega arith, tt))))));
  short_lines = (omega arith, (omega arith, (omega arith, (omega arith, (omega arith, (omega arith, tt))))));
  short_text = omega arith;
}
