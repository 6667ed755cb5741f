use Rattle.std.proofs.Common.{length, Some, None}
use Rattle.script_lexer.proofs.Wholes.{fault_scanned, last_number, last_sound, last_scanned}
use Rattle.script_lexer.proofs.Pieces.{read_whole}
use Rattle.script_lexer.proofs.scan.Scanner.end.Goals as goal

pub returns-in-Some : goal.returns-in-Some
returns-in-Some c =
    fault_scanned c.args.most_line c.args.bytes.now (length c.args.bytes.now) c.look_on.new.self c.in-Some.fault
    (read_whole c.args.most_line c.args.bytes.now (length c.args.bytes.now) c.look_on.new.self _ (Some c.in-Some.fault) c.in-Some.is c.in_ok-fault.ensures.read)

pub keep_line-requires-clause-first : goal.keep_line-requires-clause-first
keep_line-requires-clause-first c =
    let whole = read_whole c.args.most_line c.args.bytes.now (length c.args.bytes.now) c.look_on.new.self _ None c.in_default.is c.in_ok-fault.ensures.read in
    (last_sound c.args.bytes.now c.look_on.new.self c.close_word.new.self whole.0 c.in_ok-close_word.ensures.closed).first_within

pub keep_line-requires-clause-number : goal.keep_line-requires-clause-number
keep_line-requires-clause-number c =
    let whole = read_whole c.args.most_line c.args.bytes.now (length c.args.bytes.now) c.look_on.new.self _ None c.in_default.is c.in_ok-fault.ensures.read in
    last_number c.args.bytes.now c.close_word.new.self c.requires.size (last_sound c.args.bytes.now c.look_on.new.self c.close_word.new.self whole.0 c.in_ok-close_word.ensures.closed)

pub returns : goal.returns
returns c =
    let whole = read_whole c.args.most_line c.args.bytes.now (length c.args.bytes.now) c.look_on.new.self _ None c.in_default.is c.in_ok-fault.ensures.read in
    last_scanned c.args.most_line c.args.bytes.now c.look_on.new.self c.close_word.new.self c.keep_line.new.self whole.0 whole.1 c.in_ok-close_word.ensures.closed c.in_ok-keep_line.ensures.kept
