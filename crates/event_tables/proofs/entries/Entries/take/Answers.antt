use Rattle.std.proofs.Common.{◌∙◌, sym}
use Rattle.std.specs.Ordering.{nat_cmp}
use Rattle.std.proofs.lemmas.Map.Keys.{IsDistinct-from_sorted}
use Rattle.event_tables.proofs.Indexed.{all_taken, kept_in, taken, under_key}
use Rattle.event_tables.proofs.entries.Entries.take.Goals as goal

pub returns : goal.returns
returns g c =
    kept_in _ c.self.inside.given c.self.inside.most c.self.inside.held.entries c.remove.new.self.entries c.args.self.now
    (c.remove.ensures.entries ∙ all_taken c.args.serial c.self.inside.held.entries (IsDistinct-from_sorted nat_cmp _ c.self.invariant.ordered))
    c.self.view_is

pub returns-in_default : goal.returns-in_default
returns-in_default g c =
    kept_in _ c.self.inside.given c.self.inside.most c.self.inside.held.entries c.remove.new.self.entries c.args.self.now
    (c.remove.ensures.entries ∙ all_taken c.args.serial c.self.inside.held.entries (IsDistinct-from_sorted nat_cmp _ c.self.invariant.ordered))
    c.self.view_is

pub invariant_of-self-2 : goal.invariant_of-self-2
invariant_of-self-2 g c =
    (taken g.K.PartialEq.eq g.met.K.Eq.laws c.self.inside.given c.in-Some.entry.0 c.args.serial c.self.inside.held.entries c.remove.new.self.entries c.self.inside.serials.entries c.swap_remove.new.self.entries
    c.self.invariant
    (under_key g.K.PartialEq.eq g.met.K.Eq.laws c.in-Some.entry.0 c.in-Some.entry.1 c.args.serial c.self.inside.held.entries c.self.invariant.apart (sym c.remove.ensures.value ∙ c.in-Some.is))
    c.remove.ensures.entries c.remove.ensures.ordered c.swap_remove.ensures.updates.0).indexed
