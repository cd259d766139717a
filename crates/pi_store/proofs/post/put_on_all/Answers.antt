use Rattle.pi_store.proofs.post.put_on_all.Goals as goal

pub returns-in-Linear-clause-ok : goal.returns-in-Linear-clause-ok
returns-in-Linear-clause-ok c = rw c.in-Linear.is c.put_on_sum.ensures.ok

pub returns-in-Product-clause-ok : goal.returns-in-Product-clause-ok
returns-in-Product-clause-ok c = rw c.in-Product.is c.put_on_three.ensures.ok

pub returns-in-Absolute-clause-ok : goal.returns-in-Absolute-clause-ok
returns-in-Absolute-clause-ok c = rw c.in-Absolute.is c.put_on_two.ensures.ok

pub returns-in-Different-clause-ok : goal.returns-in-Different-clause-ok
returns-in-Different-clause-ok c = rw c.in-Different.is c.put_on_items.ensures.ok

pub returns-in-Element-clause-ok : goal.returns-in-Element-clause-ok
returns-in-Element-clause-ok c = rw c.in-Element.is c.put_on_element.ensures.ok

pub returns-in-Reified-clause-ok : goal.returns-in-Reified-clause-ok
returns-in-Reified-clause-ok c = rw c.in-Reified.is c.put_on_truth_and_sum.ensures.ok

pub returns-in-Distinct-clause-ok : goal.returns-in-Distinct-clause-ok
returns-in-Distinct-clause-ok c = rw c.in-Distinct.is c.put_on_items-in-Distinct.ensures.ok
