-- The first name is kept under the key of the thing.
use Rattle.std.proofs.Common.{◌∙◌, ap}
use Rattle.page_model.specs.World.{Thing}
use Rattle.page_names.specs.Known.{KnownNames, seen_key}
use Rattle.page_names.proofs.Named.{first_name, text_for}
use Rattle.page_names.proofs.names.Names.name_of.Goals as goal

pub returns : goal.returns
returns c =
    c.copied.ensures ∙ c.get.ensures.value
    ∙ first_name _ c.self.inside.firsts.entries c.self.invariant c.of.result
    ∙ ap (λ (names : KnownNames). text_for (seen_key c.of.result) names.list) c.self.view_is
    ∙ ap (λ (thing : Thing). text_for thing c.args.self.now.list) c.of.ensures
