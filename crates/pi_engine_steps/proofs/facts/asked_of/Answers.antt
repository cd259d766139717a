use Rattle.std.proofs.Common.{rules}
use Rattle.std.proofs.lemmas.Result.{IfOk-weaker}
use Rattle.pi_engine_facts.proofs.HeadLemmas.{comp-same}
use Rattle.pi_engine_steps.proofs.FactsTried.{terms-held}
use Rattle.pi_engine_steps.proofs.facts.asked_of.Goals as goal

pub returns-clause-term : goal.returns-clause-term
returns-clause-term g c = IfOk-weaker c.put_comp.result _ _ (λ made so ts holds.
    let v = g.S.StateStore.seen c.args.run.now.store in
    let rs = c.take_block.new.terms.items in
    comp-same v (g.S.StateStore.seen c.put_comp.new.self) _ _ c.deref.result.now rs made (search rules) c.deref.ensures.value so ts
    (terms-held v c.args.run.now.arenas.blocks.slots c.args.call.now.base c.args.arity ts rs holds (c.in_ok-take_block.ensures v.now.terms ts holds))) c.put_comp.ensures.ok
