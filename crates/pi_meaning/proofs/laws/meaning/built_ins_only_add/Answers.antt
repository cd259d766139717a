use Rattle.pi_meaning.proofs.Shared.CallLemmas.{whole-adds}
use Rattle.pi_meaning.proofs.laws.meaning.built_ins_only_add.Goals as goal

pub returns : goal.returns
returns c = whole-adds
