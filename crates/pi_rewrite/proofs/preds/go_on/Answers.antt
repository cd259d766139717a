use Rattle.pi_rewrite.proofs.GroupLemmas.{pushed-pred}
use Rattle.pi_rewrite.proofs.preds.go_on.Goals as goal

pub returns : goal.returns
returns c = pushed-pred c.args.preds.now.items c.push.new.self.items c.in_ok-more.more _ c.in_ok-push.ensures.items c.in_ok-more.ensures
