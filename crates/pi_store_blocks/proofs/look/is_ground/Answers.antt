use Rattle.pi_store_blocks.proofs.LookLemmas.{says_ground}
use Rattle.pi_store_blocks.proofs.look.is_ground.Goals as goal

pub returns : goal.returns
returns c = λ h t e. rw (c.is_ground.ensures, c.of.ensures) (says_ground h c.args.r.number t e)
