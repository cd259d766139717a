use Rattle.std.proofs.Common.{◌≡◌, ◌++◌, drop}
use Rattle.pi_engine_facts.proofs.called.push_others.Given as goal

-- with those that are left they are all
abbrev pub invariant-loop-i : goal.invariant-loop-i
invariant-loop-i l = l.args.items ++ drop l.i l.terms ≡ l.initial.args.items ++ drop 1 l.terms
