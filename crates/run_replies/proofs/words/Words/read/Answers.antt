use Rattle.std.proofs.Common.{string_bytes, arith}
use Rattle.run_replies.proofs.Worded.{three_words, many_words}
use Rattle.run_replies.proofs.words.Words.read.Goals as goal

pub returns-in_default : goal.returns-in_default
returns-in_default c =
    three_words string_bytes c.args.words.now (omega (arith, c.in_default.len_at_least)) (omega (arith, c.in_default.len_below))

pub returns-in_default-2 : goal.returns-in_default-2
returns-in_default-2 c = many_words string_bytes c.args.words.now (omega (arith, c.in_default.len_at_least))
