-- Each document has a name.
use Rattle.std.proofs.Common.{◌<◌, ℕ, List, Option, find, length, sym, subst}
use Rattle.std.specs.Option.{IsSome}
use Rattle.page_model.specs.World.{DocumentThing, Name}
use Rattle.page_model.specs.Names.{is_same_thing}
use Rattle.page_state.specs.Views.{PageView}
use Rattle.page_names.proofs.Found.{some_named}
use Rattle.page_state.proofs.page.Page.document_name.Goals as goal

pub unwrap-requires : goal.unwrap-requires
unwrap-requires c =
    subst (λ (it : Option (List ℕ)). IsSome it) (sym c.name_of.ensures)
    (some_named (find (λ (it : Name). is_same_thing it.thing (DocumentThing c.args.document.0)) c.self.inside.names.list)
    (c.self.invariant.known.named (DocumentThing c.args.document.0)
    (subst (λ (v : PageView). c.args.document.0 < length v.world.tree.documents) (sym c.self.view_is) c.requires)))
