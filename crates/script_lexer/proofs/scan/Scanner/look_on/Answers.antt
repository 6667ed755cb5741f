use Rattle.std.proofs.Common.{◌≡◌, ◌≤◌, ◌+◌, ◌∙◌, ℕ, Option, Some, None, refl, sym, subst, arith}
use Rattle.std.proofs.Math.Seq.{take-length}
use Rattle.script_lexer.specs.declared.places.LexFault.{LexFault}
use Rattle.script_lexer.specs.Places.{IsRead}
use Rattle.script_lexer.proofs.Growth.{grown_on}
use Rattle.script_lexer.proofs.Pieces.{looked_on, fault_on, no_fault, read_whole}
use Rattle.script_lexer.proofs.scan.Scanner.look_on.Goals as goal

pub returns-then-is_some-clause-read : goal.returns-then-is_some-clause-read
returns-then-is_some-clause-read c =
    fault_on c.args.most_line c.args.bytes.now c.args.from c.args.to c.args.self.now c.args.fault (sym c.is_some.ensures ∙ c.if-is_some.true) c.requires.order c.requires.read

pub loop-at-init : goal.loop-at-init
loop-at-init c = record {
  read = subst (λ (f : Option LexFault). IsRead c.args.most_line c.args.bytes.now c.args.from c.args.self.now f) (no_fault c.args.fault (sym c.is_some.ensures ∙ c.if-is_some.false)) c.requires.read;
  grown = (take-length c.args.self.now.lines, take-length c.args.self.now.words);
}

pub look-requires-clause-start : goal.look-requires-clause-start
look-requires-clause-start c = (read_whole c.args.most_line c.args.bytes.now c.loop-at.at c.loop-at.self None None refl c.loop-at.invariant.read).0.start_before

pub look-requires-clause-ended : goal.look-requires-clause-ended
look-requires-clause-ended c = (read_whole c.args.most_line c.args.bytes.now c.loop-at.at c.loop-at.self None None refl c.loop-at.invariant.read).0.ended_before

pub look-requires-clause-first : goal.look-requires-clause-first
look-requires-clause-first c = (read_whole c.args.most_line c.args.bytes.now c.loop-at.at c.loop-at.self None None refl c.loop-at.invariant.read).0.first_within

pub returns-in-Some-clause-read : goal.returns-in-Some-clause-read
returns-in-Some-clause-read c =
    fault_on c.args.most_line c.args.bytes.now (c.loop-at.at + 1) c.args.to c.look.new.self (Some c.in-Some.fault) refl (omega arith)
    (looked_on c.args.most_line c.args.bytes.now c.loop-at.at c.loop-at.self c.look.new.self _ (Some c.in-Some.fault) c.in-Some.is (omega arith) c.loop-at.invariant.read c.in_ok-fault.ensures.looked)

pub loop-at-preserved : goal.loop-at-preserved
loop-at-preserved c = record {
  read = looked_on c.args.most_line c.args.bytes.now c.loop-at.at c.loop-at.self c.look.new.self _ None c.in_default.is (omega arith) c.loop-at.invariant.read c.in_ok-fault.ensures.looked;
  grown = grown_on c.args.self.now c.loop-at.self c.look.new.self c.loop-at.invariant.grown c.in_ok-fault.ensures.grown;
}

pub returns-clause-read : goal.returns-clause-read
returns-clause-read c =
    let within : c.loop-at.at ≤ c.args.to = c.loop-at.auto.at-end c.requires.order in
    let end : c.loop-at.at ≡ c.args.to = omega arith in
    subst (λ (n : ℕ). IsRead c.args.most_line c.args.bytes.now n c.loop-at.self None) end c.loop-at.invariant.read
