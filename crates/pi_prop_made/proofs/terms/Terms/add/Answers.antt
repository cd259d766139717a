-- Which terms go into which makes no difference.
use Rattle.pi_prop_made.proofs.JudgedLemmas.{added_exchanged}
use Rattle.pi_prop_made.proofs.terms.Terms.add.Goals as goal

pub returns-then-len : goal.returns-then-len
returns-then-len c = added_exchanged c.args.self c.args.other c.with_all.result c.with_all.ensures
