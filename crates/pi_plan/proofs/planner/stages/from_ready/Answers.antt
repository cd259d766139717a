use Rattle.pi_plan.proofs.planner.stages.from_ready.Goals as goal

pub returns-in-Some-clause-goes : goal.returns-in-Some-clause-goes
returns-in-Some-clause-goes c = λ w given start limit h. rw c.in-Some.is at (c.in_ok-way.ensures.advances w given start limit h)

pub returns-in-None-clause-goes : goal.returns-in-None-clause-goes
returns-in-None-clause-goes c = λ w given start limit h. rw c.in-None.is at (c.in_ok-way.ensures.advances w given start limit h)
