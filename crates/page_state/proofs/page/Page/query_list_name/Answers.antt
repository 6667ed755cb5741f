-- Each query list has a name.
use Rattle.std.proofs.Common.{◌<◌, ℕ, List, Option, find, length, sym, subst}
use Rattle.std.proofs.lemmas.List.{length-map}
use Rattle.std.specs.Option.{IsSome}
use Rattle.page_model.specs.World.{QueryListThing, Name}
use Rattle.page_model.specs.Names.{is_same_thing}
use Rattle.page_state.specs.Queries.{seen_query_list}
use Rattle.page_state.specs.Views.{PageView}
use Rattle.page_names.proofs.Found.{some_named}
use Rattle.page_state.proofs.page.Page.query_list_name.Goals as goal

pub unwrap-requires : goal.unwrap-requires
unwrap-requires c =
    subst (λ (it : Option (List ℕ)). IsSome it) (sym c.name_of.ensures)
    (some_named (find (λ (it : Name). is_same_thing it.thing (QueryListThing c.args.query)) c.self.inside.names.list)
    (c.self.invariant.known.named (QueryListThing c.args.query)
    (subst (λ (count : ℕ). c.args.query < count) (length-map c.self.inside.queries.items seen_query_list)
    (subst (λ (v : PageView). c.args.query < length v.world.queries) (sym c.self.view_is) c.requires))))
