use Rattle.pi_resume_spec.proofs.CutResumed.{spent-on_way, cut-behind_way, bad-exactly, ends-on_way, more-leaves_cuts}
use Rattle.pi_resume_spec.proofs.laws.runs.resumed_runs_are_cut.Goals as goal

pub returns-clause-spent : goal.returns-clause-spent
returns-clause-spent g c = spent-on_way

pub returns-clause-behind : goal.returns-clause-behind
returns-clause-behind g c = cut-behind_way

pub returns-clause-bad : goal.returns-clause-bad
returns-clause-bad g c = bad-exactly

pub returns-clause-ends : goal.returns-clause-ends
returns-clause-ends g c = ends-on_way

pub returns-clause-depth : goal.returns-clause-depth
returns-clause-depth g c = more-leaves_cuts
