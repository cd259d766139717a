-- One more item, or one that is too wide.
use Rattle.std.proofs.Common.{subst}
use Rattle.pi_prop_made.specs.Items.{IsJudged}
use Rattle.pi_prop_made.proofs.ItemLemmas.{judged-more, judged-wide}
use Rattle.pi_prop_made.proofs.items.JudgedItems.push.Goals as goal

pub returns-in_ok-push-in-Some-item : goal.returns-in_ok-push-in-Some-item
returns-in_ok-push-in-Some-item c = λ x xs is a. judged-more c.args.self.now c.push.new.self c.in-Some.count c.in-Some-item.item x xs c.in-Some.ensures.1 c.in_ok-push-in-Some-item.ensures.ok (subst (λ o. IsJudged o x) c.in-Some-item.is is) a

pub returns-in-None : goal.returns-in-None
returns-in-None c = λ x xs is a. judged-wide c.args.self.now c.in-Some.count x xs c.in-Some.ensures.1 (subst (λ o. IsJudged o x) c.in-None.is is) a
