-- The script that a text is read as.
use Rattle.std.proofs.Common.{◌≡◌, ℕ, ◌≤◌, List, length, Bool, false, ap, ◌∙◌, arith, tests}
use Rattle.std.specs.Prelude.{cond, nat_lt, Ok, Err}
use Rattle.text_io.specs.declared.kinds.LimitKind.TheVariants as limits
use Rattle.text_io.specs.Limits.{common_limit}
use Rattle.script_model.specs.Syntax.{Script}
use Rattle.script_model.specs.Lexing.{lexed}
use Rattle.script_model.specs.Reading.{reading, read_lexed, last_line, LimitAt}
use Rattle.script_syntax.specs.Read.{IsRead}

pub whole_is_read : (text : List ℕ) (script : Script) → length text ≤ 16777216 → read_lexed (lexed text) ≡ Ok script → IsRead script
unfolding reading
whole_is_read text script short is = record {
  text = text;
  reads = ap (λ (long : Bool). cond long (Err (LimitAt limits.Script (last_line (common_limit limits.Script) text))) (read_lexed (lexed text))) (within (length text) short) ∙ is;
} where
  within : (count : ℕ) → count ≤ 16777216 → nat_lt (common_limit limits.Script) count ≡ false
  within count few = grind (arith, tests)
