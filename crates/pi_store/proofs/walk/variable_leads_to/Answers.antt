use Rattle.std.proofs.Common.{sym, ◌∙◌, arith, length}
use Rattle.pi_store.proofs.WalkLemmas.{leads_here, leads_end, leads_more, leads_none}
use Rattle.pi_store.proofs.walk.variable_leads_to.Goals as goal

pub returns-then-at-v : goal.returns-then-at-v
returns-then-at-v c = leads_here _ _ _ _ c.if-at-v.true ∙ c.loop.invariant

pub returns-in-None : goal.returns-in-None
returns-in-None c = leads_end _ _ _ _ c.if-at-v.false (sym c.next_variable.ensures ∙ c.in-None.is) ∙ c.loop.invariant

pub loop-preserved : goal.loop-preserved
loop-preserved c = leads_more _ _ _ _ _ _ (omega arith) c.if-at-v.false (sym c.next_variable.ensures ∙ c.in-Some.is) ∙ c.loop.invariant

pub returns : goal.returns
returns c = sym (leads_none (length c.args.words.now.variables) c.loop.counter _ _ _ (omega arith)) ∙ c.loop.invariant
