-- A name goes under its thing where the thing has none yet.
use Rattle.std.proofs.Common.{◌∙◌, Some, OnOk, Result, sym, subst}
use Rattle.indexmap.specs.IndexMap.{Updates}
use Rattle.page_names.specs.contracts.thing.ThingKeyPartialEq.TheImpl as keys
use Rattle.page_names.proofs.Named.{first_stays, first_given}
use Rattle.page_names.proofs.names.keep_first.Goals as goal

pub returns-then-not-contains_key-clause-kept : goal.returns-then-not-contains_key-clause-kept
returns-then-not-contains_key-clause-kept c = λ names was.
    let put : Updates (keys.ghosts).eq c.args.firsts.now c.insert.new.self c.args.key (Some c.args.name) =
    subst (λ (r : Result _ _). OnOk r (Updates (keys.ghosts).eq c.args.firsts.now c.insert.new.self c.args.key (Some c.args.name))) c.unwrap.ensures c.insert.ensures.updates in
    first_given names c.args.firsts.now.entries was c.args.key c.args.name c.insert.new.self.entries
    (sym c.contains_key.ensures ∙ c.if-not-contains_key.true) put.0

pub returns-else-not-contains_key-clause-kept : goal.returns-else-not-contains_key-clause-kept
returns-else-not-contains_key-clause-kept c = λ names was.
    first_stays names c.args.firsts.now.entries was c.args.key c.args.name (sym c.contains_key.ensures ∙ c.if-not-contains_key.false)
