use Rattle.std.proofs.lemmas.Result.{IfOk-weaker}
use Rattle.pi_rewrite_loops.proofs.EntryLemmas.{all-written}
use Rattle.pi_rewrite_loops.proofs.entries.all_written.Goals as goal

pub returns-clause-is : goal.returns-clause-is
returns-clause-is c =
    IfOk-weaker c.comp.result _ _ (λ made so. all-written c.in_ok-terms.terms.items c.deref.result.now _ made c.in_ok-terms.ensures.are c.deref.ensures.value so) c.comp.ensures.ok

pub returns-clause-slots : goal.returns-clause-slots
returns-clause-slots c =
    IfOk-weaker c.comp.result _ _ (λ _ so. c.in_ok-terms.ensures.slots) c.comp.ensures.ok
