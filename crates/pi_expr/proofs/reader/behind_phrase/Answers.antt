use Rattle.pi_expr.proofs.Steps.{resumed_last, continued}
use Rattle.pi_expr.proofs.reader.behind_phrase.Goals as goal

pub returns-then-reach-wanted : goal.returns-then-reach-wanted
returns-then-reach-wanted c = λ fs e h i. rw (resumed_last fs _ _ e _ (rw (c.reach-reach.ensures, c.wanted-wanted.ensures fs (rw c.deref.ensures.value h)) at c.if-reach-wanted.true)) (c.close_phrase.ensures fs e h i)

pub returns-else-reach-wanted : goal.returns-else-reach-wanted
returns-else-reach-wanted c = λ fs e h i. rw (continued fs _ _ e _ (rw (c.reach-reach.ensures, c.wanted-wanted.ensures fs (rw c.deref.ensures.value h)) at c.if-reach-wanted.false)) (c.extend_phrase.ensures fs e h i)
