use Rattle.std.proofs.Common.{List, ◌∙◌}
use Rattle.page_model.specs.World.{Document}
use Rattle.page_documents.proofs.Adopting.{adopted_whole, adopted_count, seen_adopted}
use Rattle.page_documents.proofs.adoption.adopt.Goals as goal

pub returns : goal.returns
returns g c =
    let adopted = c.adopt_down.ensures ∙ adopted_whole (g.P.Owned.carried) (g.P.Owned.adopted) c.args.document.0 c.args.tree.now (c.args.node.0) in
    let seen = λ (documents : List Document). seen_adopted (g.P.Owned.carried) (g.P.Owned.adopted) (g.met.P.Owned.adopts) c.args.document.0 c.args.tree.now
    c.adopt_down.new.tree documents (c.args.node.0) adopted in
    record {
      adopted = adopted;
      seen = seen;
      count = adopted_count (g.P.Owned.carried) (g.P.Owned.adopted) c.args.document.0 (c.args.node.0) (c.args.node.0) c.args.tree.now c.adopt_down.new.tree
          adopted c.requires;
    }
