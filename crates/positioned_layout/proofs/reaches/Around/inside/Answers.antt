use Rattle.std.proofs.Common.{◌+◌, arith}
use Rattle.positioned_layout.proofs.Numbers.{corner_more}
use Rattle.positioned_layout.proofs.reaches.Around.inside.Goals as goal

pub returns-clause-value : goal.returns-clause-value
returns-clause-value c at view opens p n shallow up is known place_is own_is opened_is = record {
  place = place_is;
  flow = opened_is;
  absolute = c.absolute_in.ensures.value at view opens p n shallow up is known.absolute (record { corner = c.padding_corner-corner.ensures.value at view n place_is own_is; opened = opened_is });
  fixed = known.fixed;
}

pub returns-clause-range : goal.returns-clause-range
returns-clause-range c boxes near place = record {
  place = place;
  absolute = c.absolute_in.ensures.range boxes near.absolute (c.padding_corner-corner.ensures.range (boxes + 1) place);
  fixed = (corner_more boxes (boxes + 1) c.args.self.fixed.corner.left (omega arith) near.fixed.0, corner_more boxes (boxes + 1) c.args.self.fixed.corner.top (omega arith) near.fixed.1);
}
