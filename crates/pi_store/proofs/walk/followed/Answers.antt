use Rattle.std.proofs.Common.{sym, ◌∙◌, arith, length}
use Rattle.pi_store.proofs.WalkLemmas.{steps_end, steps_more, steps_none}
use Rattle.pi_store.proofs.walk.followed.Goals as goal

pub returns-in-None : goal.returns-in-None
returns-in-None c = sym (steps_end _ _ _ (sym c.bound_to.ensures ∙ c.in-None.is)) ∙ c.loop.invariant

pub loop-preserved : goal.loop-preserved
loop-preserved c = steps_more _ _ _ _ _ (omega arith) (sym c.bound_to.ensures ∙ c.in-Some.is) ∙ c.loop.invariant

pub returns : goal.returns
returns c = sym (steps_none (length c.args.words.now.variables) c.loop.counter _ _ (omega arith)) ∙ c.loop.invariant
