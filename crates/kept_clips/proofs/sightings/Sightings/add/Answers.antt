use Rattle.std.proofs.Common.{◌≡◌, ◌∙◌, List, Option, ap, refl}
use Rattle.element_tree.specs.declared.container.Container.TheVariants.{Element, Document}
use Rattle.kept_clips.specs.declared.sightings.Sighting.{Sighting}
use Rattle.kept_clips.specs.Seen.{Seen, sighting_of, up_to}
use Rattle.kept_clips.proofs.Pairs.{either}
use Rattle.kept_clips.proofs.Seeing.{seen_with_room, exact_as_seen}
use Rattle.kept_clips.proofs.sightings.Sightings.add.Goals as goal

pub returns-in-Element-clause-seen : goal.returns-in-Element-clause-seen
returns-in-Element-clause-seen c = λ spot.
    let it : Seen = record { nodes = c.self.inside.nodes.items; views = c.self.inside.views.items } in
    either c.extend.result (λ (nodes : List (Option Sighting)). sighting_of (record { nodes = nodes; views = it.views }) spot ≡ sighting_of it spot)
    it.nodes c.extend.new.sightings.items (up_to (c.in-Element.node.0) it.nodes) c.extend.ensures.extended c.extend.ensures.same
    (seen_with_room it (Element c.in-Element.node) spot) refl
    ∙ ap (λ (seen : Seen). sighting_of seen spot) c.self.view_is

pub returns-in-Element-clause-exact : goal.returns-in-Element-clause-exact
returns-in-Element-clause-exact c = exact_as_seen c.args.self.now (record { nodes = c.extend.new.sightings.items; views = c.self.inside.views.items }) (returns-in-Element-clause-seen c)

pub returns-in-Document-clause-seen : goal.returns-in-Document-clause-seen
returns-in-Document-clause-seen c = λ spot.
    let it : Seen = record { nodes = c.self.inside.nodes.items; views = c.self.inside.views.items } in
    either c.extend-in-Document.result (λ (views : List (Option Sighting)). sighting_of (record { nodes = it.nodes; views = views }) spot ≡ sighting_of it spot)
    it.views c.extend-in-Document.new.sightings.items (up_to (c.in-Document.document.0) it.views) c.extend-in-Document.ensures.extended c.extend-in-Document.ensures.same
    (seen_with_room it (Document c.in-Document.document) spot) refl
    ∙ ap (λ (seen : Seen). sighting_of seen spot) c.self.view_is

pub returns-in-Document-clause-exact : goal.returns-in-Document-clause-exact
returns-in-Document-clause-exact c = exact_as_seen c.args.self.now (record { nodes = c.self.inside.nodes.items; views = c.extend-in-Document.new.sightings.items }) (returns-in-Document-clause-seen c)
