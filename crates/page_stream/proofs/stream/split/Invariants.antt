use Rattle.std.proofs.Common.{◌<◌, length}
use Rattle.page_stream.specs.Splits.{SplitTo}
use Rattle.page_stream.proofs.stream.split.Given as goal

-- so many lines were taken, and the rest is left; a page is current
abbrev pub invariant-loop-rest : goal.invariant-loop-rest
invariant-loop-rest l = record {
  taken : SplitTo l.source l.splitting l.most_pages l.number l.from l.rest;
  inside : l.splitting.current < length l.splitting.pages.items;
}

abbrev pub decreases-loop-rest : goal.decreases-loop-rest
decreases-loop-rest l = length l.rest
