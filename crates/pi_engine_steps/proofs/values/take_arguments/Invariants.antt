use Rattle.std.proofs.Common.{◌≡◌, take, drop, reverse}
use Rattle.pi_engine_steps.proofs.values.take_arguments.Given as goal

-- the newest so many terms are taken
abbrev pub invariant-loop-i : goal.invariant-loop-i
invariant-loop-i l = (l.arguments.items ≡ take l._i (reverse l.initial.made.items)) × (reverse l.made.items ≡ drop l._i (reverse l.initial.made.items))
