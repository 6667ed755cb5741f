-- The measure falls with each round.
use Rattle.loop_laws.proofs.Waiting.{gather-deeper}
use Rattle.page_laws.proofs.Places.{repeat-not}
use Rattle.page_model.specs.Loop.{round}
use Rattle.loop_laws.specs.Rounds.{goes_on, rounds_up_to}
use Rattle.loop_laws.proofs.Bounded.{same-bounds, unrolled}
use Rattle.loop_laws.proofs.Loops.{begins-below, round-falls, falls, left, rounds-rest, loop-same}
use Rattle.loop_laws.proofs.rounds.resize_loops_come_to_rest.Goals as goal

pub returns-clause-gathered : goal.returns-clause-gathered
returns-clause-gathered c = gather-deeper

pub returns-clause-falls : goal.returns-clause-falls
returns-clause-falls c = round-falls

pub returns-clause-begins : goal.returns-clause-begins
returns-clause-begins c = begins-below

pub returns-clause-same : goal.returns-clause-same
unfolding rounds_up_to
returns-clause-same c script document world depth within deeper most more fits fits' =
    same-bounds _ _ _ (falls script document) most more _ world (left script document world depth within deeper) fits fits'

pub returns-clause-unrolled : goal.returns-clause-unrolled
unfolding rounds_up_to
returns-clause-unrolled c script document world depth within deeper most fits goes =
    unrolled _ _ _ (falls script document) most _ world (left script document world depth within deeper) fits goes

pub returns-clause-ended : goal.returns-clause-ended
unfolding rounds_up_to
returns-clause-ended c script document world most ends = repeat-not (goes_on document) (round script document) most world ends

pub returns-clause-rests : goal.returns-clause-rests
returns-clause-rests c = rounds-rest

pub returns-clause-loops : goal.returns-clause-loops
returns-clause-loops c = loop-same
