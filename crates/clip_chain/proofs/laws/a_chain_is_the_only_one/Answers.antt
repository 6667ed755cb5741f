use Rattle.clip_chain.proofs.Leading.{one_chain}
use Rattle.clip_chain.proofs.laws.a_chain_is_the_only_one.Goals as goal

pub returns : goal.returns
returns c = one_chain
