use Rattle.std.proofs.Common.{sym}
use Rattle.pi_core.proofs.goal_node.GoalKind.copy.Goals as goal

pub returns-in-True : goal.returns-in-True
returns-in-True c = record { ok = sym c.in-True.is }

pub returns-in-Fail : goal.returns-in-Fail
returns-in-Fail c = record { ok = sym c.in-Fail.is }

pub returns-in-Tick : goal.returns-in-Tick
returns-in-Tick c = record { ok = sym c.in-Tick.is }

pub returns-in-Seq : goal.returns-in-Seq
returns-in-Seq c = record { ok = sym c.in-Seq.is }

pub returns-in-Alt : goal.returns-in-Alt
returns-in-Alt c = record { ok = sym c.in-Alt.is }

pub returns-in-If : goal.returns-in-If
returns-in-If c = record { ok = sym c.in-If.is }

pub returns-in-Not : goal.returns-in-Not
returns-in-Not c = record { ok = sym c.in-Not.is }

pub returns-in-Once : goal.returns-in-Once
returns-in-Once c = record { ok = sym c.in-Once.is }

pub returns-in-Collect : goal.returns-in-Collect
returns-in-Collect c = record { ok = sym c.in-Collect.is }

pub returns-in-Count : goal.returns-in-Count
returns-in-Count c = record { ok = sym c.in-Count.is }
