-- A name that is given goes last, and is its thing's first where that has none.
use Rattle.std.proofs.Common.{◌∙◌, List, ◌++◌, ◌∷◌, [], ap, sym, subst}
use Rattle.std.specs.Prelude.{map}
use Rattle.page_model.specs.World.{Thing, Name}
use Rattle.page_names.specs.Known.{KnownNames, AreFirst}
use Rattle.page_names.specs.Things.{seen_entry}
use Rattle.page_names.proofs.Found.{entered}
use Rattle.page_names.proofs.names.Names.insert.Goals as goal

pub returns-clause-given : goal.returns-clause-given
returns-clause-given c =
    entered c.args.name c.args.thing c.self.inside.things.entries c.insert.new.self.entries c.args.self.now.list
    (ap (λ (it : KnownNames). it.list) c.self.view_is) c.requires c.in-Ok.ensures.entries

pub invariant_of-self-2 : goal.invariant_of-self-2
invariant_of-self-2 c =
    let list : List Name = map seen_entry c.self.inside.things.entries in
    subst (λ (names : List Name). AreFirst names c.keep_first.new.firsts.entries)
    (ap (λ (thing : Thing). list ++ record { text = c.args.name; thing = thing } ∷ []) c.of.ensures
    ∙ ap (λ (names : KnownNames). names.list ++ seen_entry (c.args.name, c.args.thing) ∷ []) c.self.view_is
    ∙ sym (returns-clause-given c))
    (c.keep_first.ensures.kept list (subst (AreFirst list) (sym c.reserve.ensures.entries) c.self.invariant))
