use Rattle.std.proofs.Common.{◌≡◌, ℕ, ◌+◌, ap, arith}
use Rattle.std.proofs.lemmas.Grind.{common_steps}
use Rattle.script_model.specs.Lexing.{LongLine, LineFeedByte, LongByte, SpaceByte, WordByte, ForbiddenByte}
use Rattle.script_lexer.specs.declared.places.LexFault.TheVariants.{LineTooLong}
use Rattle.script_lexer.specs.Places.{class_at}
use Rattle.script_lexer.proofs.Looks.{feed_looked, long_looked, space_looked, word_looked, bad_looked}
use Rattle.script_lexer.proofs.scan.Scanner.look.Goals as goal

pub returns-in_ok-end_line-in-LineFeed-clause-looked : goal.returns-in_ok-end_line-in-LineFeed-clause-looked
returns-in_ok-end_line-in-LineFeed-clause-looked c =
    let class : class_at c.args.most_line c.args.bytes.now c.args.at c.args.self.now ≡ LineFeedByte = grind (arith, common_steps) in
    feed_looked c.args.most_line c.args.bytes.now c.args.at c.args.self.now c.end_line.new.self class c.in_ok-end_line-in-LineFeed.ensures.ended

pub returns-in-Long-clause-looked : goal.returns-in-Long-clause-looked
returns-in-Long-clause-looked c =
    let class : class_at c.args.most_line c.args.bytes.now c.args.at c.args.self.now ≡ LongByte = grind (arith, common_steps) in
    let line : c.self.inside.line.ended ≡ c.args.self.now.ended = grind (arith, common_steps) in
    long_looked c.args.most_line c.args.bytes.now c.args.at c.args.self.now (LineTooLong (c.self.inside.line.ended + 1)) class (ap (λ (n : ℕ). LongLine (n + 1)) line)

pub returns-in_ok-close_word-in-Space-clause-looked : goal.returns-in_ok-close_word-in-Space-clause-looked
returns-in_ok-close_word-in-Space-clause-looked c =
    let class : class_at c.args.most_line c.args.bytes.now c.args.at c.args.self.now ≡ SpaceByte = grind (arith, common_steps) in
    space_looked c.args.most_line c.args.bytes.now c.args.at c.args.self.now c.close_word.new.self class c.in_ok-close_word-in-Space.ensures.closed

pub returns-in-Word-clause-looked : goal.returns-in-Word-clause-looked
returns-in-Word-clause-looked c =
    let class : class_at c.args.most_line c.args.bytes.now c.args.at c.args.self.now ≡ WordByte = grind (arith, common_steps) in
    word_looked c.args.most_line c.args.bytes.now c.args.at c.args.self.now c.word_byte.new.self class c.word_byte.ensures

pub returns-in-Bad-clause-looked : goal.returns-in-Bad-clause-looked
returns-in-Bad-clause-looked c =
    let class : class_at c.args.most_line c.args.bytes.now c.args.at c.args.self.now ≡ ForbiddenByte = grind (arith, common_steps) in
    bad_looked c.args.most_line c.args.bytes.now c.args.at c.args.self.now c.bad_byte.result class c.bad_byte.ensures
