use Rattle.std.proofs.Common.{◌<◌, ◌^◌, ℕ, List, [], length, None, sym, subst, arith}
use Rattle.script_lexer.specs.Places.{Places, settled, IsRead}
use Rattle.script_lexer.proofs.Pieces.{blank_read}
use Rattle.script_lexer.proofs.lexer.Lexer.new.Goals as goal

pub invariant_of-result : goal.invariant_of-result
invariant_of-result c =
    let read : IsRead c.args.most_line [] 0 c.new-2.result None = subst (λ (p : Places). IsRead c.args.most_line [] 0 p None) (sym c.new-2.ensures) (blank_read c.args.most_line) in
    subst (λ (xs : List ℕ). (length xs < 2 ^ 32) × IsRead c.args.most_line xs (settled xs) c.new-2.result None) (sym c.new.ensures.items) (omega arith, read)
