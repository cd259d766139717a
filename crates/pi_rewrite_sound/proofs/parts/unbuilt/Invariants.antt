use Rattle.pi_rewrite_sound.proofs.BuiltPartLemmas.{AreBuilt}
use Rattle.pi_rewrite_sound.proofs.parts.unbuilt.Given as goal

abbrev pub invariant-loop-i : goal.invariant-loop-i
invariant-loop-i l = AreBuilt l.parts l.i
