-- What a name stands for is there.
use Rattle.std.proofs.Common.{Option, IfSome, sym, subst}
use Rattle.page_model.specs.World.{Thing}
use Rattle.page_model.specs.Ranges.{IsThingIn}
use Rattle.page_names.proofs.Found.{found_is_there}
use Rattle.page_names.proofs.names.Names.thing_named.Goals as goal

pub returns-in-Some-clause-held : goal.returns-in-Some-clause-held
returns-in-Some-clause-held c = λ counts all.
    subst (λ (it : Option Thing). IfSome it (IsThingIn counts)) (sym c.in-Some.ensures) (found_is_there counts c.args.name c.args.self.now.list all)
