use Rattle.pi_top.proofs.FaultlessHeads.{faultless-heads-are-free}
use Rattle.pi_top.proofs.laws.heads_are_free.Goals as goal

pub returns : goal.returns
returns c = faultless-heads-are-free
