use Rattle.kept_clips.proofs.Agreeing.{exact_now, exact_asked}
use Rattle.kept_clips.proofs.laws.clips_hang_on_their_chains_alone.Goals as goal

pub returns-clause-now : goal.returns-clause-now
returns-clause-now c = exact_now

pub returns-clause-asked : goal.returns-clause-asked
returns-clause-asked c seen now it number between alike lead other exact = exact_asked seen now it number alike between lead other exact
