use Rattle.std.proofs.Common.{refl, []}
use Rattle.pi_expr_phrases.specs.Machine as m
use Rattle.pi_expr.proofs.ReaderLemmas.{same_start, same_step, ends_none, steps_smaller}
use Rattle.pi_expr.proofs.reader.read.Goals as goal

pub steps-init : goal.steps-init
steps-init c = (m.begin _, (([], (refl, c.new-stack.ensures.items)), same_start _))

pub steps-preserved : goal.steps-preserved
steps-preserved c = let (s, (h, i)) = c.steps.invariant in let (n, (p, j)) = rw c.in-Next.is at (c.in_ok-outcome.ensures s h) in (n, (j, same_step _ s n i p))

pub steps-smaller : goal.steps-smaller
steps-smaller c = let (s, (h, i)) = c.steps.invariant in let (n, (p, j)) = rw c.in-Next.is at (c.in_ok-outcome.ensures s h) in steps_smaller _ _ _ _ s n h p j

pub returns-in-Done : goal.returns-in-Done
returns-in-Done c = let (s, (h, i)) = c.steps.invariant in let (e, (p, j)) = rw c.in-Done.is at (c.in_ok-outcome.ensures s h) in c.whole.ensures _ e (i.0 e (m.stop p)) j

pub returns-in-Fail : goal.returns-in-Fail
returns-in-Fail c = let (s, (h, i)) = c.steps.invariant in ends_none _ s i (rw c.in-Fail.is at (c.in_ok-outcome.ensures s h))
